-- The terms of the store of an input, and the condition of a list of edges as a whole.
use Rattle.std.proofs.Common.{◌≡◌, ℕ, zero, suc, ◌+◌, ◌-◌, ◌^◌, ◌<◌, ◌≤◌, Bool, true, false, if◌then◌else◌, List, [], ◌∷◌, ◌++◌, Option, Some, None, ℤ, pos, negsuc, refl, sym, ap, ◌∙◌, subst, arith}
use Rattle.std.specs.Prelude.{◌==◌, ◌&&◌, not}
use Rattle.std.specs.Int.{cast_signed, cast_unsigned, w32}
use Rattle.std.proofs.lemmas.Int.{to_z-of_z}
use Rattle.std.proofs.lemmas.Bool.{ltb-true, and_parts}
use Rattle.c_tree.specs.declared.tree.Ty.{Ty}
use Rattle.c_tree.specs.declared.tree.Ty.TheVariants as ty
use Rattle.c_tree.specs.declared.value.Value.TheVariants.{Int, Unsigned}
use Rattle.c_tree.specs.declared.value.Value.{Value}
use Rattle.c_tree.specs.Meaning.Values.{of_word}
use Rattle.bv_term.specs.Scripts.{Script, Done, ◌>>=◌, Always}
use Rattle.std.specs.Prelude.{map, length, replicate, take, drop, slice_get, unwrap_or}
use Rattle.c_tree.specs.declared.program.Global.{Global}
use Rattle.c_tree.specs.declared.program.Program.{Program}
use Rattle.c_tree.specs.declared.program.Input.{Input}
use Rattle.c_tree.specs.declared.value.Slot.{Slot}
use Rattle.c_tree.specs.declared.value.Slot.TheVariants as slot
use Rattle.c_tree.specs.Meaning.Values.{is_of, of_int, zero_of}
use Rattle.c_tree.specs.Meaning.Runs as runs
use Rattle.c_tree.specs.Meaning.Runs.{are_of, outer_types, types_of, entry_types, input_types, arguments, fits}
use Rattle.c_tree.specs.Keeping.WellFormed.{WellFormedGlobals, AreNumbersOf, IsLength}
use Rattle.bv_term.specs.Stores.{bits_of, input_word}
use Rattle.bv_term.proofs.ScriptLaws.{always_then}
pub use Rattle.cond_laws.specs.Sizes.{IsSmallCopy}
use Rattle.cond_laws.specs.declared.store.TermSlot.{TermSlot}
use Rattle.cond_laws.specs.declared.store.TermSlot.TheVariants.{Numbers}
use Rattle.cond_laws.specs.TermStores.{slot_at, slots_at, held_length, zero_terms}
use Rattle.cond_laws.specs.TermPaths as tp
use Rattle.cond_laws.proofs.Stores.StatementTerms.{AreWords, AreZeros, zeros_are}
use Rattle.cond_laws.proofs.Paths.MoveTerms.{Begins, memory_at, IsSmallMemory, entry_begins}
use Rattle.cond_laws.proofs.Operators.OperandTerms.{hold_append}
use Rattle.cond_laws.proofs.Paths.WalkTerms.{IsSmallGraph, Walked, walk_walked}
use Rattle.cond_laws.specs.Judged.{all_hold}
use Rattle.cond_laws.specs.TermPaths.{TermMemory, term_memory}
use Rattle.std.proofs.lemmas.List.{map-append, length-append, length-replicate, length-take}
use Rattle.std.specs.Prelude.{is_some}
use Rattle.flow_laws.specs.Sites.{Copy, Site}
use Rattle.flow_laws.specs.Graphs.{copies, graph, edges, loops}
use Rattle.flow_laws.specs.Paths.{end_node, follows, keeps_each}
use Rattle.flow_laws.specs.Driving as drive
use Rattle.flow_laws.specs.Driving.{Memory, memory, Drives, Walks}
use Rattle.flow_laws.proofs.Driving.DrivenPrefixes.{each_is}

-- the inputs from the number k on are these numbers
pub record Reads (input : ℕ → ℕ) (k : ℕ) (zs : List ℤ) : Type 0 where
  pub each : (j : ℕ) → input (k + j) ≡ bits_of (slice_get zs j)

reads_on : (input : ℕ → ℕ) (k : ℕ) (z : ℤ) (zs : List ℤ) → Reads input k (z ∷ zs) → Reads input (k + 1) zs
reads_on input k z zs h = record { each = λ j. ap input (next k j) ∙ h.each (suc j) }
  where
    next : (k j : ℕ) → k + 1 + j ≡ k + suc j
    next k j = omega arith

-- a number of a type's range is that of its word
pub int_word : (t : Ty) (z : ℤ) → is_of t z ≡ true → of_int t z ≡ of_word t (cast_unsigned w32 z)
int_word ty.Int (pos n) h = ap (λ z. Int z) (sym (to_z-of_z w32 (pos n) (record { sfits = ltb-true n (2 ^ 31) h })))
int_word ty.Int (negsuc n) h = ap (λ z. Int z) (sym (to_z-of_z w32 (negsuc n) (record { sfits = ltb-true n (2 ^ 31) h })))
int_word ty.Unsigned (pos n) h = refl
int_word ty.Unsigned (negsuc n) h = absurd (cc h)

arguments_are : (input at : ℕ → ℕ) (k : ℕ) (ts us : List Ty) (zs : List ℤ) → Reads input k zs → are_of (ts ++ us) zs ≡ true → Always input at (tp.input_terms k (length ts)) (AreWords at (arguments ts zs))
arguments_are input at k [] us zs r h = tt
arguments_are input at k (t ∷ ts) us [] r h = absurd (cc h)
arguments_are input at k (t ∷ ts) us (z ∷ zs) r h = λ x ex. always_then (AreWords at (arguments ts zs)) (AreWords at (arguments (t ∷ ts) (z ∷ zs))) input at (tp.input_terms (k + 1) (length ts)) (λ xs. Done (x ∷ xs)) (arguments_are input at (k + 1) ts us zs (reads_on input k z zs r) (and_parts (is_of t z) (are_of (ts ++ us) zs) h).1) (λ xs hx. (t, int_word t z (and_parts (is_of t z) (are_of (ts ++ us) zs) h).0 ∙ ap (of_word t) (sym (ex ∙ (ap input (plain k) ∙ r.each 0))), hx))
  where
    plain : (k : ℕ) → k ≡ k + 0
    plain k = omega arith

-- ---- what is left of an input

pub left_over : (ts us : List Ty) (zs : List ℤ) → are_of (ts ++ us) zs ≡ true → are_of us (drop (length ts) zs) ≡ true
left_over [] us zs h = h
left_over (t ∷ ts) us [] h = absurd (cc h)
left_over (t ∷ ts) us (z ∷ zs) h = left_over ts us zs (and_parts (is_of t z) (are_of (ts ++ us) zs) h).1

pub reads_after : (input : ℕ → ℕ) (k : ℕ) (ts us : List Ty) (zs : List ℤ) → are_of (ts ++ us) zs ≡ true → Reads input k zs → Reads input (k + length ts) (drop (length ts) zs)
reads_after input k [] us zs h r = subst (λ k. Reads input k zs) (plain k) r
  where
    plain : (k : ℕ) → k ≡ k + 0
    plain k = omega arith
reads_after input k (t ∷ ts) us [] h r = absurd (cc h)
reads_after input k (t ∷ ts) us (z ∷ zs) h r = subst (λ k. Reads input k (drop (length ts) zs)) (next k (length ts)) (reads_after input (k + 1) ts us zs (and_parts (is_of t z) (are_of (ts ++ us) zs) h).1 (reads_on input k z zs r))
  where
    next : (k j : ℕ) → k + 1 + j ≡ k + suc j
    next k j = omega arith

-- ---- globals

-- terms of numbers of a type
pub record AreNumbers (at : ℕ → ℕ) (t : Ty) (zs : List ℤ) (xs : List ℕ) : Type 0 where
  pub words : map (λ n. of_word t (at n)) xs ≡ map (of_int t) zs
  pub as_many : length xs ≡ length zs

inputs_are : (input at : ℕ → ℕ) (k n : ℕ) (t : Ty) (us : List Ty) (zs : List ℤ) → Reads input k zs → are_of (replicate n t ++ us) zs ≡ true → Always input at (tp.input_terms k n) (AreNumbers at t (take n zs))
inputs_are input at k zero t us zs r h = record { words = refl; as_many = refl }
inputs_are input at k (suc n) t us [] r h = absurd (cc h)
inputs_are input at k (suc n) t us (z ∷ zs) r h = λ x ex. always_then (AreNumbers at t (take n zs)) (AreNumbers at t (take (suc n) (z ∷ zs))) input at (tp.input_terms (k + 1) n) (λ xs. Done (x ∷ xs)) (inputs_are input at (k + 1) n t us zs (reads_on input k z zs r) (and_parts (is_of t z) (are_of (replicate n t ++ us) zs) h).1) (λ xs hx. record {
  words = ap (λ v. v ∷ map (λ n. of_word t (at n)) xs) (sym (int_word t z (and_parts (is_of t z) (are_of (replicate n t ++ us) zs) h).0 ∙ ap (of_word t) (sym (ex ∙ (ap input (plain k) ∙ r.each 0))))) ∙ ap (λ l. of_int t z ∷ l) hx.words;
  as_many = ap (λ n. suc n) hx.as_many;
})
  where
    plain : (k : ℕ) → k ≡ k + 0
    plain k = omega arith

word_of_int : (t : Ty) (z : ℤ) → is_of t z ≡ true → of_word t (tp.word_in t z) ≡ of_int t z
word_of_int ty.Int z h = sym (int_word ty.Int z h)
word_of_int ty.Unsigned z h = refl

numbers_are : (input at : ℕ → ℕ) (t : Ty) (zs : List ℤ) → AreNumbersOf t zs → Always input at (tp.numbers t zs) (AreNumbers at t zs)
numbers_are input at t [] h = record { words = refl; as_many = refl }
numbers_are input at t (z ∷ zs) h = λ x ex. always_then (AreNumbers at t zs) (AreNumbers at t (z ∷ zs)) input at (tp.numbers t zs) (λ xs. Done (x ∷ xs)) (numbers_are input at t zs h.1) (λ xs hx. record {
  words = ap (λ v. v ∷ map (λ n. of_word t (at n)) xs) (ap (of_word t) ex ∙ word_of_int t z h.0) ∙ ap (λ l. of_int t z ∷ l) hx.words;
  as_many = ap (λ n. suc n) hx.as_many;
})

-- a slot, and its array is small
pub record IsSlot (at : ℕ → ℕ) (to : Slot) (y : TermSlot) : Type 0 where
  pub is : slot_at at y ≡ to
  pub small : held_length (Some y) ≤ 2 ^ 31

global_is : (input at : ℕ → ℕ) (t : Ty) (o : Option ℕ) (zs : List ℤ) (xs : List ℕ) → AreNumbers at t zs xs → IsLength o → length zs ≤ 2 ^ 31 → Always input at (tp.global_term_slot t o xs) (IsSlot at (runs.global_slot t o zs))
global_is input at t None [] [] h l few = λ z ez. record { is = ap slot.Number (zero_word t (at z) ez); small = omega arith }
  where
    zero_word : (t : Ty) (n : ℕ) → n ≡ 0 → of_word t n ≡ zero_of t
    zero_word ty.Int n e = ap (λ n. Int (cast_signed w32 n)) e
    zero_word ty.Unsigned n e = ap (λ n. Unsigned n) e
global_is input at t None [] (x ∷ xs) h l few = absurd (cc h.as_many)
global_is input at t None (z ∷ zs) [] h l few = absurd (cc h.as_many)
global_is input at t None (z ∷ zs) (x ∷ xs) h l few = record { is = ap slot.Number (cc h.words); small = omega arith }
global_is input at t (Some n) zs xs h l few = always_then (AreZeros at (n - length xs)) (IsSlot at (runs.global_slot t (Some n) zs)) input at (zero_terms (n - length xs)) (λ ys. Done (Numbers t (xs ++ ys))) (zeros_are input at (n - length xs)) (λ ys hy. record {
  is = ap (slot.Numbers t) (map-append (λ n. of_word t (at n)) xs ys ∙ (ap (λ l. l ++ map (λ n. of_word t (at n)) ys) h.words ∙ ap (λ l. map (of_int t) zs ++ l) (hy.words t ∙ ap (λ k. replicate (n - k) (zero_of t)) h.as_many)));
  small = fits (length xs) n (length (xs ++ ys)) (omega (arith, l.1)) (omega (arith, h.as_many, few)) (length-append xs ys ∙ ap (λ k. length xs + k) hy.as_many);
})
  where
    fits : (n m k : ℕ) → m ≤ 2 ^ 31 → n ≤ 2 ^ 31 → k ≡ n + (m - n) → k ≤ 2 ^ 31
    fits n m k hm hn e = omega arith

types_are : (t : Ty) (o : Option ℕ) → types_of t o ≡ replicate (tp.width o) t
types_are t None = refl
types_are t (Some n) = refl

pub as_wide : (t : Ty) (o : Option ℕ) → length (types_of t o) ≡ tp.width o
as_wide t None = refl
as_wide t (Some n) = length-replicate n t

few_taken : (o : Option ℕ) (zs : List ℤ) → IsLength o → length (take (tp.width o) zs) ≤ 2 ^ 31
few_taken None zs h = omega (arith, length-take 1 zs)
few_taken (Some n) zs h = omega (arith, length-take n zs, h.1)

few_values : (o : Option ℕ) (zs : List ℤ) → IsLength o → length zs ≤ unwrap_or o 1 → length zs ≤ 2 ^ 31
few_values None zs h l = omega (arith, l)
few_values (Some n) zs h l = omega (arith, l, h.1)

begin_with : (input at : ℕ → ℕ) (i : Script TermSlot) (j : Script (List TermSlot)) (to : Slot) (rest : List Slot) → Always input at i (IsSlot at to) → Always input at j (Begins at rest) → Always input at (i >>= (λ x. j >>= (λ xs. Done (x ∷ xs)))) (Begins at (to ∷ rest))
begin_with input at i j to rest hi hj = always_then (IsSlot at to) (Begins at (to ∷ rest)) input at i (λ x. j >>= (λ xs. Done (x ∷ xs))) hi (λ x hx. always_then (Begins at rest) (Begins at (to ∷ rest)) input at j (λ xs. Done (x ∷ xs)) hj (λ xs hxs. record {
  is = ap (λ y. y ∷ slots_at at xs) hx.is ∙ ap (λ ys. to ∷ ys) hxs.is;
  small = (hx.small, hxs.small);
}))

globals_begin : (input at : ℕ → ℕ) (gs : List Global) (k : ℕ) (zs : List ℤ) → WellFormedGlobals gs → are_of (outer_types gs) zs ≡ true → Reads input k zs → Always input at (tp.global_term_slots gs k) (Begins at (runs.global_slots gs zs))
globals_begin input at [] k zs w h r = record { is = refl; small = tt }
globals_begin input at (g ∷ gs) k zs w h r =
    by_outer (λ k zs h r. globals_begin input at gs k zs w.1 h r) g.outer h
  where
    n : ℕ
    n = length (types_of g.ty g.length)

    outer : ((k : ℕ) (zs : List ℤ) → are_of (outer_types gs) zs ≡ true → Reads input k zs → Always input at (tp.global_term_slots gs k) (Begins at (runs.global_slots gs zs))) → are_of (types_of g.ty g.length ++ outer_types gs) zs ≡ true → Always input at (tp.input_terms k (tp.width g.length) >>= (λ xs. tp.global_term_slot g.ty g.length xs >>= (λ x. tp.global_term_slots gs (k + tp.width g.length) >>= (λ rest. Done (x ∷ rest))))) (Begins at (runs.global_slot g.ty g.length (take n zs) ∷ runs.global_slots gs (drop n zs)))
    outer again h =
        let rest : Always input at (tp.global_term_slots gs (k + tp.width g.length)) (Begins at (runs.global_slots gs (drop n zs))) = again (k + tp.width g.length) (drop n zs) (left_over (types_of g.ty g.length) (outer_types gs) zs h) (subst (λ w. Reads input (k + w) (drop n zs)) (as_wide g.ty g.length) (reads_after input k (types_of g.ty g.length) (outer_types gs) zs h r)) in
        subst (λ w. Always input at (tp.input_terms k (tp.width g.length) >>= (λ xs. tp.global_term_slot g.ty g.length xs >>= (λ x. tp.global_term_slots gs (k + tp.width g.length) >>= (λ rest. Done (x ∷ rest))))) (Begins at (runs.global_slot g.ty g.length (take w zs) ∷ runs.global_slots gs (drop n zs)))) (sym (as_wide g.ty g.length)) (always_then (AreNumbers at g.ty (take (tp.width g.length) zs)) (Begins at (runs.global_slot g.ty g.length (take (tp.width g.length) zs) ∷ runs.global_slots gs (drop n zs))) input at (tp.input_terms k (tp.width g.length)) (λ xs. tp.global_term_slot g.ty g.length xs >>= (λ x. tp.global_term_slots gs (k + tp.width g.length) >>= (λ rest. Done (x ∷ rest)))) (inputs_are input at k (tp.width g.length) g.ty (outer_types gs) zs r (subst (λ ts. are_of (ts ++ outer_types gs) zs ≡ true) (types_are g.ty g.length) h)) (λ xs hx. begin_with input at (tp.global_term_slot g.ty g.length xs) (tp.global_term_slots gs (k + tp.width g.length)) (runs.global_slot g.ty g.length (take (tp.width g.length) zs)) (runs.global_slots gs (drop n zs)) (global_is input at g.ty g.length (take (tp.width g.length) zs) xs hx w.0.array (few_taken g.length zs w.0.array)) rest))

    inner : ((k : ℕ) (zs : List ℤ) → are_of (outer_types gs) zs ≡ true → Reads input k zs → Always input at (tp.global_term_slots gs k) (Begins at (runs.global_slots gs zs))) → are_of (outer_types gs) zs ≡ true → Always input at (tp.numbers g.ty g.values >>= (λ xs. tp.global_term_slot g.ty g.length xs >>= (λ x. tp.global_term_slots gs k >>= (λ rest. Done (x ∷ rest))))) (Begins at (runs.global_slot g.ty g.length g.values ∷ runs.global_slots gs zs))
    inner again h = always_then (AreNumbers at g.ty g.values) (Begins at (runs.global_slot g.ty g.length g.values ∷ runs.global_slots gs zs)) input at (tp.numbers g.ty g.values) (λ xs. tp.global_term_slot g.ty g.length xs >>= (λ x. tp.global_term_slots gs k >>= (λ rest. Done (x ∷ rest)))) (numbers_are input at g.ty g.values w.0.numbers) (λ xs hx. begin_with input at (tp.global_term_slot g.ty g.length xs) (tp.global_term_slots gs k) (runs.global_slot g.ty g.length g.values) (runs.global_slots gs zs) (global_is input at g.ty g.length g.values xs hx w.0.array (few_values g.length g.values w.0.array w.0.count)) (again k zs h r))

    by_outer : ((k : ℕ) (zs : List ℤ) → are_of (outer_types gs) zs ≡ true → Reads input k zs → Always input at (tp.global_term_slots gs k) (Begins at (runs.global_slots gs zs))) → (b : Bool) → are_of (if b then types_of g.ty g.length ++ outer_types gs else outer_types gs) zs ≡ true → Always input at (if b then (tp.input_terms k (tp.width g.length) >>= (λ xs. tp.global_term_slot g.ty g.length xs >>= (λ x. tp.global_term_slots gs (k + tp.width g.length) >>= (λ rest. Done (x ∷ rest))))) else (tp.numbers g.ty g.values >>= (λ xs. tp.global_term_slot g.ty g.length xs >>= (λ x. tp.global_term_slots gs k >>= (λ rest. Done (x ∷ rest)))))) (Begins at (if b then runs.global_slot g.ty g.length (take n zs) ∷ runs.global_slots gs (drop n zs) else runs.global_slot g.ty g.length g.values ∷ runs.global_slots gs zs))
    by_outer again true h = outer again h
    by_outer again false h = inner again h

-- ---- the whole store

pub record Starts (at : ℕ → ℕ) (m : Memory) (now : TermMemory) : Type 0 where
  pub is : memory_at at now ≡ m
  pub small : IsSmallMemory now

-- the locals of the entry function are small
locals_begin : (input at : ℕ → ℕ) → ((n : ℕ) → at n < 2 ^ 32) → (o : Option Copy) (vs : List Value) (ns : List ℕ) → IsSmallCopy o → AreWords at vs ns → Always input at (tp.copy_term_slots o ns) (Begins at (drive.copy_slots o vs))
locals_begin input at small None vs ns few h = record { is = refl; small = tt }
locals_begin input at small (Some c) vs ns few h = entry_begins input at small c.locals vs ns few h

pub start_starts : (at : ℕ → ℕ) → ((n : ℕ) → at n < 2 ^ 32) → (p : Program) (i : Input) → fits p i ≡ true → WellFormedGlobals p.globals → IsSmallCopy (slice_get (copies [] p.funcs) p.entry) → Always (input_word i.values) at (tp.start_term_memory p) (Starts at (drive.start_memory p i))
unfolding tp.start_term_memory drive.start_memory
start_starts at small p i h w few =
    let input : ℕ → ℕ = input_word i.values in
    let ts : List Ty = entry_types (slice_get p.funcs p.entry) in
    let o : Option Copy = slice_get (copies [] p.funcs) p.entry in
    let all : Reads input 0 i.values = record { each = λ j. ap input (plain j) } in
    always_then (AreWords at (arguments ts i.values)) (Starts at (drive.start_memory p i)) input at (tp.input_terms 0 (length ts)) (λ vs. tp.copy_term_slots o vs >>= (λ ls. tp.global_term_slots p.globals (length ts) >>= (λ gs. Done (term_memory (record { locals = ls; globals = gs }) [] None)))) (arguments_are input at 0 ts (outer_types p.globals) i.values all h) (λ vs hv. always_then (Begins at (drive.copy_slots o (arguments ts i.values))) (Starts at (drive.start_memory p i)) input at (tp.copy_term_slots o vs) (λ ls. tp.global_term_slots p.globals (length ts) >>= (λ gs. Done (term_memory (record { locals = ls; globals = gs }) [] None))) (locals_begin input at small o (arguments ts i.values) vs few hv) (λ ls hl. always_then (Begins at (runs.global_slots p.globals (drop (length ts) i.values))) (Starts at (drive.start_memory p i)) input at (tp.global_term_slots p.globals (length ts)) (λ gs. Done (term_memory (record { locals = ls; globals = gs }) [] None)) (globals_begin input at p.globals (length ts) (drop (length ts) i.values) w (left_over ts (outer_types p.globals) i.values h) (subst (λ k. Reads input k (drop (length ts) i.values)) (plain (length ts)) (reads_after input 0 ts (outer_types p.globals) i.values h all))) (λ gs hg. record {
      is = ap (λ ls. memory (record { locals = ls; globals = slots_at at gs }) [] None) hl.is ∙ ap (λ gs. memory (record { locals = drive.copy_slots o (arguments ts i.values); globals = gs }) [] None) hg.is;
      small = record { store = record { locals = hl.small; globals = hg.small }; frames = tt };
    })))
  where
    plain : (n : ℕ) → 0 + n ≡ n
    plain n = omega arith

-- ---- the condition of a list

-- where a loop's bound is broken, one condition is zero
broken_is : (input at : ℕ → ℕ) (b : Bool) → Always input at (tp.bound_conditions b) (λ cs. all_hold at cs ≡ b)
broken_is input at true = refl
broken_is input at false = λ z ez. ap (λ z. not (z == 0) && true) ez

-- all hold exactly where the input drives the list
pub record Tells (p : Program) (i : Input) (q : List ℕ) (at : ℕ → ℕ) (cs : List ℕ) : Type 0 where
  pub drives : all_hold at cs ≡ true → Drives p i q
  pub holds : Drives p i q → all_hold at cs ≡ true

followed : {A : Type 0} (o : Option A) → is_some o ≡ true → (x : A) × (o ≡ Some x)
followed None h = absurd (cc h)
followed (Some x) h = (x, refl)

pub conditions_tell : (at : ℕ → ℕ) → ((n : ℕ) → at n < 2 ^ 32) → (p : Program) (i : Input) (q : List ℕ) → fits p i ≡ true → follows (edges (graph p)) q ≡ true → WellFormedGlobals p.globals → IsSmallCopy (slice_get (copies [] p.funcs) p.entry) → IsSmallGraph (graph p) → Always (input_word i.values) at (tp.conditions_of p q) (Tells p i q at)
unfolding tp.conditions_of
conditions_tell at small p i q h f w few graph_small =
    let input : ℕ → ℕ = input_word i.values in
    let g : List Site = graph p in
    let b : Bool = keeps_each (loops g) q in
    let to = followed (end_node (edges g) 0 q) f in
    always_then (Starts at (drive.start_memory p i)) (Tells p i q at) input at (tp.start_term_memory p) (λ m. tp.walk g q m >>= (λ cs. tp.bound_conditions b >>= (λ bs. Done (cs ++ bs)))) (start_starts at small p i h w few) (λ m hm. always_then (λ cs. (n : ℕ) → Walked at g q n (memory_at at m) cs) (Tells p i q at) input at (tp.walk g q m) (λ cs. tp.bound_conditions b >>= (λ bs. Done (cs ++ bs))) (walk_walked input at small g q m hm.small graph_small) (λ cs hc. always_then (λ bs. all_hold at bs ≡ b) (Tells p i q at) input at (tp.bound_conditions b) (λ bs. Done (cs ++ bs)) (broken_is input at b) (λ bs hb. record {
      drives = λ all. driven to m hm cs (hc 0) bs hb (and_parts (all_hold at cs) (all_hold at bs) (sym (hold_append at cs bs) ∙ all));
      holds = λ d. hold_append at cs bs ∙ true_both (all_hold at cs) (all_hold at bs) ((hc 0).only d.node d.memory (subst (λ m. Walks g q 0 m d.node d.memory) (sym hm.is) d.walks)) (hb ∙ (each_is (loops g) q).0 d.keeps);
    })))
  where
    true_both : (a b : Bool) → a ≡ true → b ≡ true → (a && b) ≡ true
    true_both a b h k = ap (λ a. a && b) h ∙ k

    driven : (x : ℕ) × (end_node (edges (graph p)) 0 q ≡ Some x) → (m : TermMemory) → Starts at (drive.start_memory p i) m → (cs : List ℕ) → Walked at (graph p) q 0 (memory_at at m) cs → (bs : List ℕ) → all_hold at bs ≡ keeps_each (loops (graph p)) q → (all_hold at cs ≡ true) × (all_hold at bs ≡ true) → Drives p i q
    driven to m hm cs hc bs hb all =
        let end = hc.walks to.0 to.1 all.0 in
        record {
          node = to.0;
          memory = end.0;
          walks = subst (λ m. Walks (graph p) q 0 m to.0 end.0) hm.is end.1;
          keeps = (each_is (loops (graph p)) q).1 (sym hb ∙ all.1);
        }
