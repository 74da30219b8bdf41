-- What a node does to stores of terms, and the conditions of its edges.
use Rattle.std.proofs.Common.{◌≡◌, ℕ, ◌^◌, ◌<◌, ◌≤◌, Bool, true, false, if◌then◌else◌, List, [], ◌∷◌, ◌++◌, Option, Some, None, refl, sym, ap, ◌∙◌, subst, arith}
use Rattle.std.specs.Prelude.{◌==◌, ◌&&◌, not}
use Rattle.c_tree.specs.declared.tree.Ty.{Ty}
use Rattle.c_tree.specs.declared.value.Value.{Value}
use Rattle.c_tree.specs.Meaning.Values.{of_word}
use Rattle.bv_term.specs.declared.op.Op.TheVariants as op
use Rattle.bv_term.specs.Words.{flag}
use Rattle.bv_term.specs.Scripts.{Script, Done, Put, ◌>>=◌, Always}
pub use Rattle.cond_laws.specs.Sizes.{HasSmallLength, AreSmallLocals, IsSmallContent}
use Rattle.cond_laws.proofs.Judging.{Stands}
use Rattle.std.specs.Prelude.{map, length, option_map}
use Rattle.c_tree.specs.declared.tree.Expr.{Expr}
use Rattle.c_tree.specs.declared.tree.Stmt.{Stmt}
use Rattle.c_tree.specs.declared.tree.Var.TheVariants.{Local as LocalVar}
use Rattle.c_tree.specs.declared.tree.Target.{Target}
use Rattle.c_tree.specs.declared.tree.Target.TheVariants.{Nothing, Assign, Declare}
use Rattle.c_tree.specs.declared.program.BlockName.{BlockName}
use Rattle.c_tree.specs.declared.program.Local.{Local}
use Rattle.c_tree.specs.declared.value.Slot.{Slot}
use Rattle.c_tree.specs.declared.value.Slot.TheVariants as slot
use Rattle.c_tree.specs.declared.value.Store.{Store}
use Rattle.c_tree.specs.Meaning.Values.{convert, is_nonzero}
use Rattle.c_tree.specs.Meaning.Expressions.{val, type_of, all_values}
use Rattle.c_tree.specs.Meaning.Statements as cst
use Rattle.c_tree.specs.Meaning.Runs as runs
use Rattle.flow_laws.specs.declared.graph.Way.{Way}
use Rattle.flow_laws.specs.declared.graph.Way.TheVariants.{Next, True, False}
use Rattle.flow_laws.specs.Sites.{Content, Entry, Exit, Simple, Test, Jump, Give, Enter, Missing, Land}
use Rattle.flow_laws.specs.Driving as drive
use Rattle.flow_laws.specs.Driving.{Memory, memory, Move, Stuck, Stays, Goes}
use Rattle.bv_term.proofs.ScriptLaws.{always_then}
use Rattle.cond_laws.specs.declared.store.TermSlot.{TermSlot}
use Rattle.cond_laws.specs.declared.store.TermSlot.TheVariants.{Unset, Number, Numbers}
use Rattle.cond_laws.specs.Judged.{all_hold, when_all}
use Rattle.cond_laws.specs.TermStores.{TermStore, slot_at, slots_at, store_at, put_term, unset_local_term, zero_terms}
use Rattle.cond_laws.specs.TermExpressions.{expr_term, all_exprs}
use Rattle.cond_laws.specs.TermStatements.{Effect, effect_with, nowhere, simple_effects}
use Rattle.cond_laws.specs.TermPaths as tp
use Rattle.cond_laws.specs.TermPaths.{Returned, TermMemory, term_memory}
use Rattle.cond_laws.proofs.Operators.OperandTerms.{convert_word}
use Rattle.cond_laws.proofs.Operators.RelationTerms.{true_word}
use Rattle.cond_laws.proofs.Stores.ElementTerms.{never_holds, hold_last}
use Rattle.cond_laws.proofs.Stores.SlotTerms.{AreSmall, IsSmall, unset_small, put_small, unset_is, put_is}
use Rattle.cond_laws.proofs.Stores.ExpressionTerms.{expr_stands}
use Rattle.cond_laws.proofs.Stores.StatementTerms.{Acts, AreWords, ListStands, all_stand, AreZeros, zeros_are, HaveSmallLists, all_simple_act}

-- ---- the memory that it stands for

abbrev pub returned_at : (ℕ → ℕ) → Returned → Value
returned_at at r = of_word r.ty (at r.term)

abbrev pub memory_at : (ℕ → ℕ) → TermMemory → Memory
memory_at at m = memory (store_at at m.store) (map (slots_at at) m.frames) (option_map (returned_at at) m.result)

abbrev pub AreSmallFrames : List (List TermSlot) → Type 0
AreSmallFrames [] = Unit {0}
AreSmallFrames (ys ∷ fs) = AreSmall ys × AreSmallFrames fs

pub record IsSmallMemory (m : TermMemory) : Type 0 where
  pub store : IsSmall m.store
  pub frames : AreSmallFrames m.frames

-- ---- a move by an end of a node

-- the move goes by this end exactly where all conditions hold, and then leads to this memory
pub record Moves (at : ℕ → ℕ) (to : Move) (w : Way) (e : Effect TermMemory) : Type 0 where
  pub goes : all_hold at e.conditions ≡ true → to ≡ Goes w (memory_at at e.now)
  pub only : (m : Memory) → to ≡ Goes w m → all_hold at e.conditions ≡ true
  pub small : IsSmallMemory e.now

-- nowhere, where the move does not go by this end
pub nowhere_moves : (input at : ℕ → ℕ) (m : TermMemory) (to : Move) (w : Way) → IsSmallMemory m → ((m' : Memory) → to ≡ Goes w m' → ⊥) → Always input at (nowhere m) (Moves at to w)
nowhere_moves input at m to w h not_so z ez = record {
  goes = λ all. absurd (clash (sym (never_holds at [] z ez) ∙ all));
  only = λ m' is. absurd (not_so m' is);
  small = h;
}
  where
    clash : false ≡ true → ⊥
    clash h = absurd (cc h)

-- a move by `Next` to a memory that is there where all conditions hold
next_moves : (at : ℕ → ℕ) (o : Option Memory) (e : Effect TermMemory) → o ≡ when_all at e.conditions (memory_at at e.now) → IsSmallMemory e.now → Moves at (drive.goes_with o) Next e
next_moves at o e is small = record {
  goes = λ all. ap drive.goes_with is ∙ ap (λ b. drive.goes_with (if b then Some (memory_at at e.now) else None)) all;
  only = λ m goes. by_test (all_hold at e.conditions) m (sym (ap drive.goes_with is) ∙ goes);
  small = small;
}
  where
    by_test : (b : Bool) (m : Memory) → drive.goes_with (if b then Some (memory_at at e.now) else None) ≡ Goes Next m → b ≡ true
    by_test true m h = refl
    by_test false m h = absurd (cc h)

sure_moves : (at : ℕ → ℕ) (now : TermMemory) (w : Way) → IsSmallMemory now → Moves at (Goes w (memory_at at now)) w (effect_with now [])
sure_moves at now w h = record { goes = λ all. refl; only = λ m is. refl; small = h }

-- ---- conditions

test_is : (a b : Bool) (m : Memory) (v : Value) (w : Way) → is_nonzero v ≡ b → drive.by_test m (if a then Some v else None) ≡ (if a then Goes (if b then True else False) m else Stuck)
test_is true b m v w e = ap (λ b. Goes (if b then True else False) m) e
test_is false b m v w e = refl

true_moves : (at : ℕ → ℕ) (now : TermMemory) (a b : Bool) (cs : List ℕ) (to : Move) → to ≡ (if a then Goes (if b then True else False) (memory_at at now) else Stuck) → all_hold at cs ≡ (a && b) → IsSmallMemory now → Moves at to True (effect_with now cs)
true_moves at now true true cs to is hold h = record { goes = λ all. is; only = λ m goes. hold; small = h }
true_moves at now true false cs to is hold h = record { goes = λ all. absurd (cc (sym hold ∙ all)); only = λ m goes. absurd (cc (sym is ∙ goes)); small = h }
true_moves at now false b cs to is hold h = record { goes = λ all. absurd (cc (sym hold ∙ all)); only = λ m goes. absurd (cc (sym is ∙ goes)); small = h }

false_moves : (at : ℕ → ℕ) (now : TermMemory) (a b : Bool) (cs : List ℕ) (to : Move) → to ≡ (if a then Goes (if b then True else False) (memory_at at now) else Stuck) → all_hold at cs ≡ (a && not b) → IsSmallMemory now → Moves at to False (effect_with now cs)
false_moves at now true false cs to is hold h = record { goes = λ all. is; only = λ m goes. hold; small = h }
false_moves at now true true cs to is hold h = record { goes = λ all. absurd (cc (sym hold ∙ all)); only = λ m goes. absurd (cc (sym is ∙ goes)); small = h }
false_moves at now false b cs to is hold h = record { goes = λ all. absurd (cc (sym hold ∙ all)); only = λ m goes. absurd (cc (sym is ∙ goes)); small = h }

flag_zero : (k : ℕ) → not (flag (k == 0) == 0) ≡ not (not (k == 0))
flag_zero k = by (k == 0)
  where
    by : (b : Bool) → not (flag b == 0) ≡ not (not b)
    by true = refl
    by false = refl

true_guard : (input at : ℕ → ℕ) → ((n : ℕ) → at n < 2 ^ 32) → (e : Expr) (m : TermMemory) → IsSmallMemory m → Always input at (expr_term e m.store >>= (λ j. Done (effect_with m (j.conditions ++ j.term ∷ [])))) (Moves at (drive.by_test (memory_at at m) (val e (store_at at m.store))) True)
true_guard input at small e m h = always_then (Stands at (val e (store_at at m.store)) (type_of e (store_at at m.store))) (Moves at (drive.by_test (memory_at at m) (val e (store_at at m.store))) True) input at (expr_term e m.store) (λ j. Done (effect_with m (j.conditions ++ j.term ∷ []))) (expr_stands input at small e m.store h.store) (λ j hj. true_moves at m (all_hold at j.conditions) (not (at j.term == 0)) (j.conditions ++ j.term ∷ []) (drive.by_test (memory_at at m) (val e (store_at at m.store))) (ap (drive.by_test (memory_at at m)) hj.value ∙ test_is (all_hold at j.conditions) (not (at j.term == 0)) (memory_at at m) (of_word j.ty (at j.term)) True (true_word j.ty (at j.term) (small j.term))) (hold_last at j.conditions j.term) h)

false_guard : (input at : ℕ → ℕ) → ((n : ℕ) → at n < 2 ^ 32) → (e : Expr) (m : TermMemory) → IsSmallMemory m → Always input at (expr_term e m.store >>= (λ j. Put (op.Const 0) (λ z. Put (op.Eq j.term z) (λ c. Done (effect_with m (j.conditions ++ c ∷ [])))))) (Moves at (drive.by_test (memory_at at m) (val e (store_at at m.store))) False)
false_guard input at small e m h = always_then (Stands at (val e (store_at at m.store)) (type_of e (store_at at m.store))) (Moves at (drive.by_test (memory_at at m) (val e (store_at at m.store))) False) input at (expr_term e m.store) (λ j. Put (op.Const 0) (λ z. Put (op.Eq j.term z) (λ c. Done (effect_with m (j.conditions ++ c ∷ []))))) (expr_stands input at small e m.store h.store) (λ j hj z ez c ec. false_moves at m (all_hold at j.conditions) (not (at j.term == 0)) (j.conditions ++ c ∷ []) (drive.by_test (memory_at at m) (val e (store_at at m.store))) (ap (drive.by_test (memory_at at m)) hj.value ∙ test_is (all_hold at j.conditions) (not (at j.term == 0)) (memory_at at m) (of_word j.ty (at j.term)) False (true_word j.ty (at j.term) (small j.term))) (hold_last at j.conditions c ∙ ap (λ b. all_hold at j.conditions && b) (ap (λ c. not (c == 0)) (ec ∙ ap (λ z. flag (at j.term == z)) ez) ∙ flag_zero (at j.term))) h)

-- ---- simple statements and `return`

memory_when : (a : Bool) (s u : Store) (f : Store → Memory) (m : Memory) → f s ≡ m → option_map f (if a then Some s else None) ≡ (if a then Some m else None)
memory_when true s u f m e = ap (λ m. Some m) e
memory_when false s u f m e = refl

simple_moves : (input at : ℕ → ℕ) → ((n : ℕ) → at n < 2 ^ 32) → (ss : List Stmt) (m : TermMemory) → IsSmallMemory m → HaveSmallLists ss → Always input at (tp.content_effect (Simple ss) Next m) (Moves at (drive.content_move (Simple ss) (memory_at at m)) Next)
simple_moves input at small ss m h few = always_then (Acts at (drive.store_after_all ss (store_at at m.store))) (Moves at (drive.content_move (Simple ss) (memory_at at m)) Next) input at (simple_effects ss m.store) (λ e. Done (tp.with_store m e)) (all_simple_act input at small ss m.store h.store few) (λ e he. next_moves at (option_map (λ s. memory s (memory_at at m).frames (memory_at at m).result) (drive.store_after_all ss (store_at at m.store))) (tp.with_store m e) (ap (option_map (λ s. memory s (memory_at at m).frames (memory_at at m).result)) he.value ∙ memory_when (all_hold at e.conditions) (store_at at e.now) (store_at at e.now) (λ s. memory s (memory_at at m).frames (memory_at at m).result) (memory_at at (term_memory e.now m.frames m.result)) refl) (record { store = he.small; frames = h.frames }))

result_when : (a : Bool) (v : Value) (f : Value → Memory) → option_map f (if a then Some v else None) ≡ (if a then Some (f v) else None)
result_when true v f = refl
result_when false v f = refl

give_moves : (input at : ℕ → ℕ) → ((n : ℕ) → at n < 2 ^ 32) → (e : Expr) (m : TermMemory) → IsSmallMemory m → Always input at (tp.content_effect (Give (Some e)) Next m) (Moves at (drive.content_move (Give (Some e)) (memory_at at m)) Next)
give_moves input at small e m h = always_then (Stands at (val e (store_at at m.store)) (type_of e (store_at at m.store))) (Moves at (drive.content_move (Give (Some e)) (memory_at at m)) Next) input at (expr_term e m.store) (λ j. Done (effect_with (term_memory m.store m.frames (Some (record { ty = j.ty; term = j.term }))) j.conditions)) (expr_stands input at small e m.store h.store) (λ j hj. next_moves at (option_map (λ v. memory (store_at at m.store) (map (slots_at at) m.frames) (Some v)) (val e (store_at at m.store))) (effect_with (term_memory m.store m.frames (Some (record { ty = j.ty; term = j.term }))) j.conditions) (ap (option_map (λ v. memory (store_at at m.store) (map (slots_at at) m.frames) (Some v))) hj.value ∙ result_when (all_hold at j.conditions) (of_word j.ty (at j.term)) (λ v. memory (store_at at m.store) (map (slots_at at) m.frames) (Some v))) (record { store = h.store; frames = h.frames }))

-- ---- calls

-- arrays have at most 2^31 elements
pub record Begins (at : ℕ → ℕ) (to : List Slot) (xs : List TermSlot) : Type 0 where
  pub is : slots_at at xs ≡ to
  pub small : AreSmall xs

begins : (at : ℕ → ℕ) (to : Slot) (rest : List Slot) (x : TermSlot) (xs : List TermSlot) → slot_at at x ≡ to → Rattle.cond_laws.specs.TermStores.held_length (Some x) ≤ 2 ^ 31 → Begins at rest xs → Begins at (to ∷ rest) (x ∷ xs)
begins at to rest x xs e l h = record {
  is = ap (λ y. y ∷ slots_at at xs) e ∙ ap (λ ys. to ∷ ys) h.is;
  small = (l, h.small);
}

-- a fresh slot, and the slots after it
fresh_then : (input at : ℕ → ℕ) (t : Ty) (n : Option ℕ) (s : Script (List TermSlot)) (rest : List Slot) → HasSmallLength n → Always input at s (Begins at rest) → Always input at (tp.fresh_term_slot t n >>= (λ x. s >>= (λ xs. Done (x ∷ xs)))) (Begins at (runs.fresh t n ∷ rest))
fresh_then input at t None s rest few h = always_then (Begins at rest) (Begins at (slot.Unset t ∷ rest)) input at s (λ xs. Done (Unset t ∷ xs)) h (λ xs hx. begins at (slot.Unset t) rest (Unset t) xs refl (omega arith) hx)
fresh_then input at t (Some n) s rest few h = always_then (λ x. (slot_at at x ≡ runs.fresh t (Some n)) × (Rattle.cond_laws.specs.TermStores.held_length (Some x) ≤ 2 ^ 31)) (Begins at (runs.fresh t (Some n) ∷ rest)) input at (zero_terms n >>= (λ zs. Done (Numbers t zs))) (λ x. s >>= (λ xs. Done (x ∷ xs))) (always_then (AreZeros at n) (λ x. (slot_at at x ≡ runs.fresh t (Some n)) × (Rattle.cond_laws.specs.TermStores.held_length (Some x) ≤ 2 ^ 31)) input at (zero_terms n) (λ zs. Done (Numbers t zs)) (zeros_are input at n) (λ zs hz. (ap (slot.Numbers t) (hz.words t), subst (λ k. k ≤ 2 ^ 31) (sym hz.as_many) few))) (λ x hx. always_then (Begins at rest) (Begins at (runs.fresh t (Some n) ∷ rest)) input at s (λ xs. Done (x ∷ xs)) h (λ xs hxs. begins at (runs.fresh t (Some n)) rest x xs hx.0 hx.1 hxs))

pub entry_begins : (input at : ℕ → ℕ) → ((n : ℕ) → at n < 2 ^ 32) → (ls : List Local) (vs : List Value) (ns : List ℕ) → AreSmallLocals ls → AreWords at vs ns → Always input at (tp.entry_term_slots ls ns) (Begins at (runs.entry_slots ls vs))
entry_begins input at small [] vs ns few h = record { is = refl; small = tt }
entry_begins input at small (l ∷ ls) [] [] few h = fresh_then input at l.ty l.length (tp.entry_term_slots ls []) (runs.entry_slots ls []) few.0 (entry_begins input at small ls [] [] few.1 tt)
entry_begins input at small (l ∷ ls) [] (n ∷ ns) few h = absurd h
entry_begins input at small (l ∷ ls) (v ∷ vs) [] few h = absurd h
entry_begins input at small (l ∷ ls) (v ∷ vs) (n ∷ ns) few h = always_then (Begins at (runs.entry_slots ls vs)) (Begins at (runs.entry_slots (l ∷ ls) (v ∷ vs))) input at (tp.entry_term_slots ls ns) (λ xs. Done (Number l.ty n ∷ xs)) (entry_begins input at small ls vs ns few.1 h.2) (λ xs hx. begins at (slot.Number (convert l.ty v)) (runs.entry_slots ls vs) (Number l.ty n) xs (ap slot.Number (sym (ap (convert l.ty) h.1 ∙ convert_word l.ty h.0 (at n) (small n)))) (omega arith) hx)

target_unset : (at : ℕ → ℕ) (t : Target) (s : TermStore) → store_at at (tp.unset_target_term t s) ≡ cst.unset_target t (store_at at s)
target_unset at Nothing s = refl
target_unset at (Assign x) s = refl
target_unset at (Declare l) s = unset_is at l s

target_small : (t : Target) (s : TermStore) → IsSmall s → IsSmall (tp.unset_target_term t s)
target_small Nothing s h = h
target_small (Assign x) s h = h
target_small (Declare l) s h = unset_small l s h

arguments_when : (a : Bool) (vs : List Value) (f : List Value → Memory) (m : Memory) → f vs ≡ m → option_map f (if a then Some vs else None) ≡ (if a then Some m else None)
arguments_when true vs f m e = ap (λ m. Some m) e
arguments_when false vs f m e = refl

enter_moves : (input at : ℕ → ℕ) → ((n : ℕ) → at n < 2 ^ 32) → (t : Target) (ls : List Local) (es : List Expr) (m : TermMemory) → IsSmallMemory m → AreSmallLocals ls → Always input at (tp.entry_effect t ls es m) (Moves at (drive.entry_move t ls es (memory_at at m)) Next)
enter_moves input at small t ls es m h few =
    let s : TermStore = tp.unset_target_term t m.store in
    let to = λ (b : Store) (vs : List Value). memory (record { locals = runs.entry_slots ls vs; globals = b.globals }) (b.locals ∷ map (slots_at at) m.frames) None in
    subst (λ b. Always input at (tp.entry_effect t ls es m) (Moves at (drive.goes_with (option_map (to b) (all_values es b))) Next)) (target_unset at t m.store) (always_then (ListStands at (all_values es (store_at at s)) (length es)) (Moves at (drive.goes_with (option_map (to (store_at at s)) (all_values es (store_at at s)))) Next) input at (all_exprs es s) (λ vs. tp.entry_term_slots ls vs.terms >>= (λ xs. Done (effect_with (term_memory (record { locals = xs; globals = s.globals }) (s.locals ∷ m.frames) None) vs.conditions))) (all_stand input at small es s (target_small t m.store h.store)) (λ vs hv. always_then (Begins at (runs.entry_slots ls hv.values)) (Moves at (drive.goes_with (option_map (to (store_at at s)) (all_values es (store_at at s)))) Next) input at (tp.entry_term_slots ls vs.terms) (λ xs. Done (effect_with (term_memory (record { locals = xs; globals = s.globals }) (s.locals ∷ m.frames) None) vs.conditions)) (entry_begins input at small ls hv.values vs.terms few hv.are_words) (λ xs hx. next_moves at (option_map (to (store_at at s)) (all_values es (store_at at s))) (effect_with (term_memory (record { locals = xs; globals = s.globals }) (s.locals ∷ m.frames) None) vs.conditions) (ap (option_map (to (store_at at s))) hv.value ∙ arguments_when (all_hold at vs.conditions) hv.values (to (store_at at s)) (memory_at at (term_memory (record { locals = xs; globals = s.globals }) (s.locals ∷ m.frames) None)) (ap (λ ls. memory (record { locals = ls; globals = slots_at at s.globals }) (slots_at at s.locals ∷ map (slots_at at) m.frames) None) (sym hx.is))) (record {
      store = record { locals = hx.small; globals = (target_small t m.store h.store).globals };
      frames = ((target_small t m.store h.store).locals, h.frames);
    }))))

-- ---- landings

result_is : (at : ℕ → ℕ) → ((n : ℕ) → at n < 2 ^ 32) → (t : Option Ty) (r : Option Returned) → option_map (returned_at at) (tp.result_term t r) ≡ runs.result_of t (option_map (returned_at at) r)
result_is at small None None = refl
result_is at small None (Some r) = refl
result_is at small (Some t) None = refl
result_is at small (Some t) (Some r) = ap (λ v. Some v) (sym (convert_word t r.ty (at r.term) (small r.term)))

give_lands : (input at : ℕ → ℕ) → ((n : ℕ) → at n < 2 ^ 32) → (t : Target) (r : Option Returned) (ls : List TermSlot) (fs : List (List TermSlot)) (gs : List TermSlot) → AreSmall ls → AreSmallFrames fs → AreSmall gs → Always input at (tp.result_effect t r (record { locals = ls; globals = gs }) >>= (λ e. Done (effect_with (term_memory e.now fs None) e.conditions))) (Moves at (drive.landing_move t (option_map (returned_at at) r) (slots_at at ls) (map (slots_at at) fs) (slots_at at gs)) Next)
give_lands input at small Nothing r ls fs gs hl hf hg = sure_moves at (term_memory (record { locals = ls; globals = gs }) fs None) Next (record { store = record { locals = hl; globals = hg }; frames = hf })
give_lands input at small (Assign x) None ls fs gs hl hf hg = nowhere_moves input at (term_memory (record { locals = ls; globals = gs }) fs None) Stuck Next (record { store = record { locals = hl; globals = hg }; frames = hf }) (λ m is. absurd (cc is))
give_lands input at small (Assign x) (Some r) ls fs gs hl hf hg =
    let s : TermStore = record { locals = ls; globals = gs } in
    subst (λ b. Moves at (Goes Next (memory b (map (slots_at at) fs) None)) Next (effect_with (term_memory (put_term s x r.term) fs None) [])) (put_is at small s x r.ty r.term) (sure_moves at (term_memory (put_term s x r.term) fs None) Next (record { store = put_small s x r.term (record { locals = hl; globals = hg }); frames = hf }))
give_lands input at small (Declare l) None ls fs gs hl hf hg = nowhere_moves input at (term_memory (record { locals = ls; globals = gs }) fs None) Stuck Next (record { store = record { locals = hl; globals = hg }; frames = hf }) (λ m is. absurd (cc is))
give_lands input at small (Declare l) (Some r) ls fs gs hl hf hg =
    let s : TermStore = record { locals = ls; globals = gs } in
    subst (λ b. Moves at (Goes Next (memory b (map (slots_at at) fs) None)) Next (effect_with (term_memory (put_term s (LocalVar l) r.term) fs None) [])) (put_is at small s (LocalVar l) r.ty r.term) (sure_moves at (term_memory (put_term s (LocalVar l) r.term) fs None) Next (record { store = put_small s (LocalVar l) r.term (record { locals = hl; globals = hg }); frames = hf }))

-- the landing, over the frames that the memory has
land_moves : (input at : ℕ → ℕ) → ((n : ℕ) → at n < 2 ^ 32) → (t : Target) (u : Option Ty) (b : BlockName) (fs : List (List TermSlot)) (s : TermStore) (r : Option Returned) → IsSmall s → AreSmallFrames fs → Always input at (tp.landing_effect t u fs (term_memory s fs r)) (Moves at (drive.content_move (Land t u b) (memory_at at (term_memory s fs r))) Next)
land_moves input at small t u b [] s r hs hf = nowhere_moves input at (term_memory s [] r) Stuck Next (record { store = hs; frames = hf }) (λ m is. absurd (cc is))
land_moves input at small t u b (ls ∷ fs) s r hs hf =
    subst (λ v. Always input at (tp.landing_effect t u (ls ∷ fs) (term_memory s (ls ∷ fs) r)) (Moves at (drive.landing_move t v (slots_at at ls) (map (slots_at at) fs) (slots_at at s.globals)) Next)) (result_is at small u r) (give_lands input at small t (tp.result_term u r) ls fs s.globals hf.0 hf.1 hs.globals)

-- ---- all nodes

not_true : (o : Option Memory) (m : Memory) → drive.goes_with o ≡ Goes True m → ⊥
not_true None m h = absurd (cc h)
not_true (Some n) m h = absurd (cc h)

not_false : (o : Option Memory) (m : Memory) → drive.goes_with o ≡ Goes False m → ⊥
not_false None m h = absurd (cc h)
not_false (Some n) m h = absurd (cc h)

not_next : (n : Memory) (o : Option Value) (m : Memory) → drive.by_test n o ≡ Goes Next m → ⊥
not_next n None m h = absurd (cc h)
not_next n (Some v) m h = by (is_nonzero v) h
  where
    by : (b : Bool) → Goes (if b then True else False) n ≡ Goes Next m → ⊥
    by true h = absurd (cc h)
    by false h = absurd (cc h)

-- the memory of a call that is entered
entered_memory : Target → List Local → List Expr → Memory → Option Memory
entered_memory t ls es m =
    let s : Store = cst.unset_target t m.store in
    option_map (λ vs. memory (record { locals = runs.entry_slots ls vs; globals = s.globals }) (s.locals ∷ m.frames) None) (all_values es s)

-- a landing is left by `Next` alone
only_next : (t : Target) (u : Option Ty) (b : BlockName) (w : Way) (m : Memory) → (w ≡ Next → ⊥) → (n : Memory) → drive.content_move (Land t u b) m ≡ Goes w n → ⊥
only_next t u b w m not_so n h = by_frames m.frames h
  where
    by_outcome : (o : cst.Outcome) (fs : List (List Slot)) → elim o as (λ o. Move) [ cst.Ends x s y ↦ Goes Next (memory s fs None) | cst.Undefined ↦ Stuck | cst.OverBound ↦ Stuck ] ≡ Goes w n → ⊥
    by_outcome (cst.Ends x s y) fs h = not_so (cc h)
    by_outcome cst.Undefined fs h = absurd (cc h)
    by_outcome cst.OverBound fs h = absurd (cc h)

    by_frames : (fs : List (List Slot)) → elim fs as (λ fs. Move) [ [] ↦ Stuck | ls ∷ fs ↦ drive.landing_move t (runs.result_of u m.result) ls fs m.store.globals ] ≡ Goes w n → ⊥
    by_frames [] h = absurd (cc h)
    by_frames (ls ∷ fs) h = by_outcome (cst.give t (runs.result_of u m.result) (record { locals = ls; globals = m.store.globals })) fs h

pub act_moves : (input at : ℕ → ℕ) → ((n : ℕ) → at n < 2 ^ 32) → (k : Content) (w : Way) (m : TermMemory) → IsSmallMemory m → IsSmallContent k → Always input at (tp.content_effect k w m) (Moves at (drive.content_move k (memory_at at m)) w)
unfolding entered_memory
act_moves input at small Entry Next m h few = sure_moves at m Next h
act_moves input at small Entry True m h few = nowhere_moves input at m (drive.content_move Entry (memory_at at m)) True h (λ n is. absurd (cc is))
act_moves input at small Entry False m h few = nowhere_moves input at m (drive.content_move Entry (memory_at at m)) False h (λ n is. absurd (cc is))
act_moves input at small Exit Next m h few = nowhere_moves input at m (drive.content_move Exit (memory_at at m)) Next h (λ n is. absurd (cc is))
act_moves input at small Exit True m h few = nowhere_moves input at m (drive.content_move Exit (memory_at at m)) True h (λ n is. absurd (cc is))
act_moves input at small Exit False m h few = nowhere_moves input at m (drive.content_move Exit (memory_at at m)) False h (λ n is. absurd (cc is))
act_moves input at small (Simple ss) Next m h few = simple_moves input at small ss m h few
act_moves input at small (Simple ss) True m h few = nowhere_moves input at m (drive.content_move (Simple ss) (memory_at at m)) True h (not_true (option_map (λ s. memory s (memory_at at m).frames (memory_at at m).result) (drive.store_after_all ss (store_at at m.store))))
act_moves input at small (Simple ss) False m h few = nowhere_moves input at m (drive.content_move (Simple ss) (memory_at at m)) False h (not_false (option_map (λ s. memory s (memory_at at m).frames (memory_at at m).result) (drive.store_after_all ss (store_at at m.store))))
act_moves input at small (Test l e) Next m h few = nowhere_moves input at m (drive.content_move (Test l e) (memory_at at m)) Next h (not_next (memory_at at m) (val e (store_at at m.store)))
act_moves input at small (Test l e) True m h few = true_guard input at small e m h
act_moves input at small (Test l e) False m h few = false_guard input at small e m h
act_moves input at small Jump Next m h few = sure_moves at m Next h
act_moves input at small Jump True m h few = nowhere_moves input at m (drive.content_move Jump (memory_at at m)) True h (λ n is. absurd (cc is))
act_moves input at small Jump False m h few = nowhere_moves input at m (drive.content_move Jump (memory_at at m)) False h (λ n is. absurd (cc is))
act_moves input at small (Give None) Next m h few = sure_moves at (term_memory m.store m.frames None) Next (record { store = h.store; frames = h.frames })
act_moves input at small (Give None) True m h few = nowhere_moves input at m (drive.content_move (Give None) (memory_at at m)) True h (λ n is. absurd (cc is))
act_moves input at small (Give None) False m h few = nowhere_moves input at m (drive.content_move (Give None) (memory_at at m)) False h (λ n is. absurd (cc is))
act_moves input at small (Give (Some e)) Next m h few = give_moves input at small e m h
act_moves input at small (Give (Some e)) True m h few = nowhere_moves input at m (drive.content_move (Give (Some e)) (memory_at at m)) True h (not_true (option_map (λ v. memory (store_at at m.store) (map (slots_at at) m.frames) (Some v)) (val e (store_at at m.store))))
act_moves input at small (Give (Some e)) False m h few = nowhere_moves input at m (drive.content_move (Give (Some e)) (memory_at at m)) False h (not_false (option_map (λ v. memory (store_at at m.store) (map (slots_at at) m.frames) (Some v)) (val e (store_at at m.store))))
act_moves input at small (Enter t ls es) Next m h few = enter_moves input at small t ls es m h few
act_moves input at small (Enter t ls es) True m h few = nowhere_moves input at m (drive.content_move (Enter t ls es) (memory_at at m)) True h (not_true (entered_memory t ls es (memory_at at m)))
act_moves input at small (Enter t ls es) False m h few = nowhere_moves input at m (drive.content_move (Enter t ls es) (memory_at at m)) False h (not_false (entered_memory t ls es (memory_at at m)))
act_moves input at small Missing Next m h few = nowhere_moves input at m Stuck Next h (λ n is. absurd (cc is))
act_moves input at small Missing True m h few = nowhere_moves input at m Stuck True h (λ n is. absurd (cc is))
act_moves input at small Missing False m h few = nowhere_moves input at m Stuck False h (λ n is. absurd (cc is))
act_moves input at small (Land t u b) Next m h few = land_moves input at small t u b m.frames m.store m.result h.store h.frames
act_moves input at small (Land t u b) True m h few = nowhere_moves input at m (drive.content_move (Land t u b) (memory_at at m)) True h (only_next t u b True (memory_at at m) (λ is. absurd (cc is)))
act_moves input at small (Land t u b) False m h few = nowhere_moves input at m (drive.content_move (Land t u b) (memory_at at m)) False h (only_next t u b False (memory_at at m) (λ is. absurd (cc is)))
