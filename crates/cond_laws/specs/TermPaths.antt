-- The terms of a list of edges: all of them are nonzero exactly at the inputs that drive it.
use Rattle.std.specs.Prelude.{
  ℕ,
  zero,
  suc,
  ◌+◌,
  ◌-◌,
  Bool,
  true,
  false,
  if◌then◌else◌,
  List,
  [],
  ◌∷◌,
  ◌++◌,
  length,
  map,
  slice_get,
  Option,
  Some,
  None,
  ℤ,
  unsigned_abs,
}
use Rattle.std.specs.Int.{cast_unsigned, w32}
use Rattle.c_tree.specs.declared.tree.Ty.{Ty}
use Rattle.c_tree.specs.declared.tree.Ty.TheVariants as ty
use Rattle.c_tree.specs.declared.tree.Var.TheVariants.{Local as LocalVar}
use Rattle.c_tree.specs.declared.tree.Expr.{Expr}
use Rattle.c_tree.specs.declared.tree.Target.{Target}
use Rattle.c_tree.specs.declared.tree.Target.TheVariants.{Nothing, Assign, Declare}
use Rattle.c_tree.specs.declared.program.Local.{Local}
use Rattle.c_tree.specs.declared.program.Global.{Global}
use Rattle.c_tree.specs.declared.program.Program.{Program}
use Rattle.c_tree.specs.Meaning.Runs.{input_types, entry_types}
use Rattle.flow_laws.specs.declared.graph.Way.{Way}
use Rattle.flow_laws.specs.declared.graph.Way.TheVariants.{Next, True, False}
use Rattle.flow_laws.specs.declared.graph.Edge.{Edge}
use Rattle.flow_laws.specs.Sites.{Content, Entry, Simple, Test, Jump, Give, Enter, Land, Site, Copy}
use Rattle.flow_laws.specs.Graphs.{copies, graph, edges, loops}
use Rattle.flow_laws.specs.Paths.{keeps_each}
use Rattle.bv_term.specs.declared.op.Op.TheVariants as op
use Rattle.bv_term.specs.Scripts.{Script, put, pure, ◌>>=◌, ops_after, outcome}
pub use Rattle.cond_laws.specs.declared.value.Returned.{Returned}
pub use Rattle.cond_laws.specs.declared.condition.PathCond.{PathCond}
use Rattle.cond_laws.specs.declared.store.TermSlot.{TermSlot}
use Rattle.cond_laws.specs.declared.store.TermSlot.TheVariants.{Unset, Number, Numbers}
use Rattle.cond_laws.specs.TermStores.{TermStore, unset_local_term, put_term, zero_terms}
use Rattle.cond_laws.specs.TermExpressions.{expr_term, all_exprs}
use Rattle.cond_laws.specs.TermStatements.{Effect, effect_with, nowhere, simple_effects}

-- the store, the locals of the callers, innermost first, and the value that was returned
pub record TermMemory : Type 0 where
  pub store : TermStore
  pub frames : List (List TermSlot)
  pub result : Option Returned

abbrev pub term_memory : TermStore → List (List TermSlot) → Option Returned → TermMemory
term_memory s fs r = record { store = s; frames = fs; result = r }

-- ---- calls (6.5.2.2)

abbrev pub fresh_term_slot : Ty → Option ℕ → Script TermSlot
fresh_term_slot t None = pure (Unset t)
fresh_term_slot t (Some n) = do zs ← zero_terms n; pure (Numbers t zs)

-- the slots of a function's locals as a call begins: the words of the arguments are read in the parameters' types
abbrev pub entry_term_slots : List Local → List ℕ → Script (List TermSlot)
entry_term_slots [] vs = pure []
entry_term_slots (l ∷ ls) [] = do x ← fresh_term_slot l.ty l.length; xs ← entry_term_slots ls []; pure (x ∷ xs)
entry_term_slots (l ∷ ls) (v ∷ vs) = do xs ← entry_term_slots ls vs; pure (Number l.ty v ∷ xs)

abbrev pub unset_target_term : Target → TermStore → TermStore
unset_target_term Nothing s = s
unset_target_term (Assign x) s = s
unset_target_term (Declare l) s = unset_local_term l s

abbrev pub entry_effect : Target → List Local → List Expr → TermMemory → Script (Effect TermMemory)
entry_effect t ls es m =
    let s : TermStore = unset_target_term t m.store in
    do
      vs ← all_exprs es s
      xs ← entry_term_slots ls vs.terms
      pure (effect_with (term_memory (record { locals = xs; globals = s.globals }) (s.locals ∷ m.frames) None)
          vs.conditions)

-- a returned value, whose word is read in the function's type (6.8.6.4 paragraph 3)
abbrev pub result_term : Option Ty → Option Returned → Option Returned
result_term (Some t) (Some v) = Some (record { ty = t; term = v.term })
result_term (Some t) None = None
result_term None v = None

-- where the result goes; to use that of a function whose end was reached without `return` is undefined (6.9.1
-- paragraph 12)
abbrev pub result_effect : Target → Option Returned → TermStore → Script (Effect TermStore)
result_effect Nothing r s = pure (effect_with s [])
result_effect (Assign x) None s = nowhere s
result_effect (Assign x) (Some v) s = pure (effect_with (put_term s x v.term) [])
result_effect (Declare l) None s = nowhere s
result_effect (Declare l) (Some v) s = pure (effect_with (put_term s (LocalVar l) v.term) [])

abbrev pub landing_effect : Target → Option Ty → List (List TermSlot) → TermMemory → Script (Effect TermMemory)
landing_effect t ty [] m = nowhere m
landing_effect t ty (ls ∷ fs) m =
    do
      e ← result_effect t (result_term ty m.result) (record { locals = ls; globals = m.store.globals })
      pure (effect_with (term_memory e.now fs None) e.conditions)

-- ---- edges

abbrev pub with_store : TermMemory → Effect TermStore → Effect TermMemory
with_store m e = effect_with (term_memory e.now m.frames m.result) e.conditions

-- what a node does where it is left by an end: its statements, and the guard
abbrev pub content_effect : Content → Way → TermMemory → Script (Effect TermMemory)
content_effect Entry Next m = pure (effect_with m [])
content_effect (Simple ss) Next m = do e ← simple_effects ss m.store; pure (with_store m e)
content_effect (Test l e) True m = do j ← expr_term e m.store; pure (effect_with m (j.conditions ++ j.term ∷ []))
content_effect (Test l e) False m =
    do
      j ← expr_term e m.store
      z ← put (op.Const 0)
      c ← put (op.Eq j.term z)
      pure (effect_with m (j.conditions ++ c ∷ []))
content_effect Jump Next m = pure (effect_with m [])
content_effect (Give None) Next m = pure (effect_with (term_memory m.store m.frames None) [])
content_effect (Give (Some e)) Next m =
    do
      j ← expr_term e m.store
      pure (effect_with (term_memory m.store m.frames (Some (record { ty = j.ty; term = j.term }))) j.conditions)
content_effect (Enter t ls es) Next m = entry_effect t ls es m
content_effect (Land t ty b) Next m = landing_effect t ty m.frames m
content_effect _ _ m = nowhere m

abbrev pub act_at : Option Site → Way → TermMemory → Script (Effect TermMemory)
act_at None w m = nowhere m
act_at (Some s) w m = content_effect s.content w m

abbrev pub pass : List Site → Option Edge → TermMemory → Script (Effect TermMemory)
pass g None m = nowhere m
pass g (Some e) m = act_at (slice_get g e.from) e.way m

-- the conditions of one edge after the other
abbrev pub walk : List Site → List ℕ → TermMemory → Script (List ℕ)
walk g [] m = pure []
walk g (j ∷ q) m = do e ← pass g (slice_get (edges g) j) m; cs ← walk g q e.now; pure (e.conditions ++ cs)

-- ---- inputs and initialisers

-- the inputs number k to k + n - 1
abbrev pub input_terms : ℕ → ℕ → Script (List ℕ)
input_terms k zero = pure []
input_terms k (suc n) = do x ← put (op.Input k); xs ← input_terms (k + 1) n; pure (x ∷ xs)

-- the word of a number of a type
abbrev pub word_in : Ty → ℤ → ℕ
word_in ty.Int z = cast_unsigned w32 z
word_in ty.Unsigned z = unsigned_abs z

abbrev pub numbers : Ty → List ℤ → Script (List ℕ)
numbers t [] = pure []
numbers t (z ∷ zs) = do x ← put (op.Const (word_in t z)); xs ← numbers t zs; pure (x ∷ xs)

-- a global with these terms, and 0 where there are none (6.7.9 paragraphs 10 and 21)
abbrev pub global_term_slot : Ty → Option ℕ → List ℕ → Script TermSlot
global_term_slot t None [] = do z ← put (op.Const 0); pure (Number t z)
global_term_slot t None (x ∷ xs) = pure (Number t x)
global_term_slot t (Some n) xs = do zs ← zero_terms (n - length xs); pure (Numbers t (xs ++ zs))

abbrev pub width : Option ℕ → ℕ
width None = 1
width (Some n) = n

-- an extern variable has its inputs, of which the next has the number k
abbrev pub global_term_slots : List Global → ℕ → Script (List TermSlot)
global_term_slots [] k = pure []
global_term_slots (g ∷ gs) k =
    if g.outer then (do xs ← input_terms k (width g.length); x ← global_term_slot g.ty g.length xs; rest ← global_term_slots gs (k + width g.length); pure (x ∷ rest)) else (do xs ← numbers g.ty g.values; x ← global_term_slot g.ty g.length xs; rest ← global_term_slots gs k; pure (x ∷ rest))

abbrev pub copy_term_slots : Option Copy → List ℕ → Script (List TermSlot)
copy_term_slots None vs = pure []
copy_term_slots (Some c) vs = entry_term_slots c.locals vs

unfoldable pub start_term_memory : Program → Script TermMemory
start_term_memory p =
    let n = length (entry_types (slice_get p.funcs p.entry)) in
    do
      vs ← input_terms 0 n
      ls ← copy_term_slots (slice_get (copies [] p.funcs) p.entry) vs
      gs ← global_term_slots p.globals n
      pure (term_memory (record { locals = ls; globals = gs }) [] None)

-- ---- the terms of a list

-- where the list breaks a loop's bound
abbrev pub bound_conditions : Bool → Script (List ℕ)
bound_conditions true = pure []
bound_conditions false = do z ← put (op.Const 0); pure (z ∷ [])

unfoldable pub conditions_of : Program → List ℕ → Script (List ℕ)
conditions_of p q =
    do
      m ← start_term_memory p
      cs ← walk (graph p) q m
      bs ← bound_conditions (keeps_each (loops (graph p)) q)
      pure (cs ++ bs)

abbrev pub is_signed : Ty → Bool
is_signed ty.Int = true
is_signed ty.Unsigned = false

-- the terms of a list: the program's inputs are declared in order, and the operators put in the order of the list
unfoldable pub TermsOf : Program → List ℕ → PathCond
TermsOf p q =
    record {
      terms = record { inputs = map is_signed (input_types p); ops = ops_after (conditions_of p q) [] };
      conditions = outcome (conditions_of p q) [];
    }
