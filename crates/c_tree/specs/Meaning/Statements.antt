-- The effect of a statement: undefined, over a bound, or a trace of blocks, a store and a way (C11 6.8). What comes
-- first decides.
-- This project's own: the bounds of loops and the blocks.
use Rattle.std.specs.Prelude.{
  ℕ,
  zero,
  suc,
  ◌+◌,
  Bool,
  true,
  false,
  if◌then◌else◌,
  List,
  [],
  ◌∷◌,
  ◌++◌,
  slice_get,
  Option,
  Some,
  None,
  option_and_then,
  option_map,
}
use Rattle.c_tree.specs.declared.tree.Var.TheVariants.{Local}
use Rattle.c_tree.specs.declared.tree.BinOp.{BinOp}
use Rattle.c_tree.specs.declared.tree.Expr.{Expr}
use Rattle.c_tree.specs.declared.tree.Place.{Place}
use Rattle.c_tree.specs.declared.tree.Place.TheVariants.{Scalar as PlainPlace, Elem as ElemPlace}
use Rattle.c_tree.specs.declared.tree.Target.{Target}
use Rattle.c_tree.specs.declared.tree.Target.TheVariants.{Nothing, Assign as Into, Declare}
use Rattle.c_tree.specs.declared.program.BlockName.{BlockName}
use Rattle.c_tree.specs.declared.tree.Stmt.{Stmt, Row_of-Stmt, end_of-Stmt, more_of-Stmt, Held-Stmt-For-1, None', Some'}
use Rattle.c_tree.specs.declared.tree.Stmt.TheVariants.{
  Empty,
  Scalar,
  Array,
  Assign,
  Call,
  Break,
  Continue,
  Return,
  If',
  While',
  Do',
  For',
  Group',
}
use Rattle.c_tree.specs.declared.value.Value.{Value}
use Rattle.c_tree.specs.declared.value.Slot.{Slot}
use Rattle.c_tree.specs.declared.value.Store.{Store}
use Rattle.c_tree.specs.declared.value.Way.{Way}
use Rattle.c_tree.specs.declared.value.Way.TheVariants as way
use Rattle.c_tree.specs.Meaning.Values.{is_nonzero}
use Rattle.c_tree.specs.Meaning.Operators.{operation_value}
use Rattle.c_tree.specs.Meaning.Stores.{slot, number_in, index, with_globals, unset_local, put_number, put_at, put_list}
use Rattle.c_tree.specs.Meaning.Expressions.{element, val, all_values}
use Rattle.c_tree.specs.Meaning.Blocks.{is_simple, blocks, row_blocks, held_blocks}

pub data Outcome : Type 0 where
  Ends : (trace : List BlockName) (store : Store) (way : Way) → Outcome
  Undefined : Outcome
  OverBound : Outcome

-- what a call comes back with: its trace, the globals and its result, or the end of the whole run
pub data Back : Type 0 where
  Gives : (trace : List BlockName) (globals : List Slot) (result : Option Value) → Back
  CallUndefined CallOverBound : Back

-- a function, from its arguments and the globals
abbrev pub Callee : Type 0
Callee = List Value → List Slot → Back

-- ---- combinators

-- goes on with an expression's value, if it has one
abbrev pub with_value : Option Value → (Value → Outcome) → Outcome
with_value None go = Undefined
with_value (Some v) go = go v

-- goes on to what is next with this store, of a statement that does no more
abbrev pub store_outcome : Option Store → Outcome
store_outcome None = Undefined
store_outcome (Some s) = Ends [] s way.Next

-- a trace before what comes next
abbrev pub after : List BlockName → Outcome → Outcome
after t (Ends u s w) = Ends (t ++ u) s w
after t Undefined = Undefined
after t OverBound = OverBound

-- goes on where the way is next
abbrev pub then_do : Outcome → (Store → Outcome) → Outcome
then_do (Ends t s way.Next) go = after t (go s)
then_do (Ends t s way.Break) go = Ends t s way.Break
then_do (Ends t s way.Continue) go = Ends t s way.Continue
then_do (Ends t s (way.Return v)) go = Ends t s (way.Return v)
then_do Undefined go = Undefined
then_do OverBound go = OverBound

-- what a loop's body leads to: on, where it ends or continues, or past the loop, where it breaks (6.8.6.2, 6.8.6.3)
abbrev pub turn_do : Outcome → (Store → Outcome) → Outcome
turn_do (Ends t s way.Next) go = after t (go s)
turn_do (Ends t s way.Continue) go = after t (go s)
turn_do (Ends t s way.Break) go = Ends t s way.Next
turn_do (Ends t s (way.Return v)) go = Ends t s (way.Return v)
turn_do Undefined go = Undefined
turn_do OverBound go = OverBound

abbrev pub block : ℕ → ℕ → BlockName
block f n = record { func = f; number = n }

-- the block that a simple statement enters, if none stands before it in its run
abbrev pub entered_block : ℕ → ℕ → Bool → List BlockName
entered_block f n true = []
entered_block f n false = block f n ∷ []

-- ---- simple statements

abbrev pub place_value : Place → Store → Option Value
place_value (PlainPlace x) s = number_in (slot s x)
place_value (ElemPlace x i) s = element (slot s x) (val i s)

-- `x op= e` is `x = x op e` (6.5.16.2)
abbrev pub assigned_value : Place → Option BinOp → Expr → Store → Option Value
assigned_value p None e s = val e s
assigned_value p (Some op) e s = operation_value op (place_value p s) (val e s)

-- the value converted to the place's type; undefined where the index is, or is outside the array (6.5.16)
abbrev pub assign_at : Place → Value → Store → Option Store
assign_at (PlainPlace x) v s = Some (put_number s x v)
assign_at (ElemPlace x i) v s = option_and_then (λ n. put_at s x (slot s x) n v) (option_and_then index (val i s))

-- the store after a simple statement. A declaration makes its local unset before its initialiser is evaluated, each
-- time it is reached (6.2.4 paragraph 6); a list that is too short is filled with 0 (6.7.9)
abbrev pub simple : Stmt → Store → Option Store
simple Empty s = Some s
simple (Scalar l None) s = Some (unset_local l s)
simple (Scalar l (Some e)) s = option_map (put_number (unset_local l s) (Local l)) (val e (unset_local l s))
simple (Array l es) s = option_map (put_list s l (slice_get s.locals l)) (all_values es (unset_local l s))
simple (Assign p op e) s = option_and_then (λ v. assign_at p v s) (assigned_value p op e s)
simple _ s = None

-- ---- loops (6.8.5)

-- `while` and `for` from their condition on, where the body may be entered `left` more times; `step` is what follows
-- the body
abbrev pub while_turns : ℕ → BlockName → Expr → (Store → Outcome) → (Store → Outcome) → Store → Outcome
while_turns zero c e body step s =
    after (c ∷ []) (with_value (val e s) (λ v. if is_nonzero v then OverBound else Ends [] s way.Next))
while_turns (suc left) c e body step s =
    after (c ∷ []) (with_value (val e s) (λ v. if is_nonzero v
    then turn_do (body s) (λ s'. then_do (step s') (while_turns left c e body step)) else Ends [] s way.Next))

-- `do` from its body on, which may be entered `left` more times
abbrev pub do_turns : ℕ → BlockName → Expr → (Store → Outcome) → Store → Outcome
do_turns zero c e body s = OverBound
do_turns (suc left) c e body s =
    turn_do (body s) (λ s'. after (c ∷ []) (with_value (val e s') (λ v. if is_nonzero v then do_turns left c e body s'
    else Ends [] s' way.Next)))

-- ---- calls (6.5.2.2)

-- a call that initialises a local is its declaration, which makes it unset before the arguments are evaluated
abbrev pub unset_target : Target → Store → Store
unset_target Nothing s = s
unset_target (Into x) s = s
unset_target (Declare l) s = unset_local l s

-- where a function's result goes, converted to the type there; to use the result of a function whose end was reached
-- without `return` is undefined (6.9.1 paragraph 12)
abbrev pub give : Target → Option Value → Store → Outcome
give Nothing r s = Ends [] s way.Next
give (Into x) None s = Undefined
give (Into x) (Some v) s = Ends [] (put_number s x v) way.Next
give (Declare l) None s = Undefined
give (Declare l) (Some v) s = Ends [] (put_number s (Local l) v) way.Next

abbrev pub come_back : Target → Store → Back → Outcome
come_back target s (Gives t gs r) = after t (give target r (with_globals s gs))
come_back target s CallUndefined = Undefined
come_back target s CallOverBound = OverBound

-- the callee over the arguments' values and the globals
abbrev pub call : Option Callee → Target → Option (List Value) → Store → Outcome
call None target vs s = Undefined
call (Some f) target None s = Undefined
call (Some f) target (Some vs) s = come_back target s (f vs s.globals)

-- ---- statements

abbrev pub return_value : Option Expr → Store → Outcome
return_value None s = Ends [] s (way.Return None)
return_value (Some e) s = with_value (val e s) (λ v. Ends [] s (way.Return (Some v)))

unfoldable mutual
  -- a statement of the function f over the functions above it. Its first block is n, unless `goes_on` tells that it
  -- goes on with a run of simple statements
  pub exec : List Callee → ℕ → Stmt → ℕ → Bool → Store → Outcome
  exec cs f Empty n goes_on s = after (entered_block f n goes_on) (store_outcome (simple Empty s))
  exec cs f (Scalar l e) n goes_on s = after (entered_block f n goes_on) (store_outcome (simple (Scalar l e) s))
  exec cs f (Array l es) n goes_on s = after (entered_block f n goes_on) (store_outcome (simple (Array l es) s))
  exec cs f (Assign p op e) n goes_on s = after (entered_block f n goes_on) (store_outcome (simple (Assign p op e) s))
  exec cs f (Call t g es) n goes_on s =
      after (block f n ∷ []) (call (slice_get cs g) t (all_values es (unset_target t s)) (unset_target t s))
  exec cs f Break n goes_on s = Ends (block f n ∷ []) s way.Break
  exec cs f Continue n goes_on s = Ends (block f n ∷ []) s way.Continue
  exec cs f (Return e) n goes_on s = after (block f n ∷ []) (return_value e s)
  exec cs f (If' e _ x _ y) n goes_on s =
      after (block f n ∷ []) (with_value (val e s) (λ v. if is_nonzero v then row_exec cs f x (n + 1) false s
      else row_exec cs f y (n + 1 + row_blocks x false) false s))
  exec cs f (While' bound e _ x) n goes_on s =
      while_turns bound (block f n) e (row_exec cs f x (n + 1) false) (λ s'. Ends [] s' way.Next) s
  exec cs f (Do' bound _ x e) n goes_on s =
      do_turns bound (block f (n + row_blocks x false)) e (row_exec cs f x n false) s
  exec cs f (For' bound i e j _ x) n goes_on s =
      let at = n + held_blocks i in
      then_do (held_exec cs f i n s) (while_turns bound (block f at) e (row_exec cs f x (at + 1 + held_blocks j) false)
      (held_exec cs f j (at + 1)))
  exec cs f (Group' _ x) n goes_on s = row_exec cs f x n false s

  pub row_exec : {m : _} → List Callee → ℕ → Row_of-Stmt m → ℕ → Bool → Store → Outcome
  row_exec cs f end_of-Stmt n goes_on s = Ends [] s way.Next
  row_exec cs f (more_of-Stmt st rest) n goes_on s =
      then_do (exec cs f st n goes_on s) (row_exec cs f rest (n + blocks st goes_on) (is_simple st))

  -- an initialiser or a step of a `for`, which may be left out
  pub held_exec : List Callee → ℕ → Held-Stmt-For-1 → ℕ → Store → Outcome
  held_exec cs f None' n s = Ends [] s way.Next
  held_exec cs f (Some' _ x) n s = row_exec cs f x n false s

-- a list of statements, one after the other
abbrev pub list_exec : List Callee → ℕ → List Stmt → ℕ → Bool → Store → Outcome
list_exec cs f [] n goes_on s = Ends [] s way.Next
list_exec cs f (st ∷ rest) n goes_on s =
    then_do (exec cs f st n goes_on s) (list_exec cs f rest (n + blocks st goes_on) (is_simple st))

-- a statement that may be left out, as a list
abbrev pub held_stmts : Option Stmt → List Stmt
held_stmts None = []
held_stmts (Some st) = st ∷ []
