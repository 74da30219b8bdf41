-- Worked programs, stores and inputs, for facts about single runs. In the text beside a program its loops' bounds
-- stand in brackets.
use Rattle.std.specs.Prelude.{ℕ, true, false, List, [], ◌∷◌, ◌++◌, replicate, Option, Some, None, ℤ, pos, neg_ℤ}
use Rattle.c_tree.specs.declared.tree.Ty.{Ty}
use Rattle.c_tree.specs.declared.tree.Ty.TheVariants as ty
use Rattle.c_tree.specs.declared.tree.UnOp.TheVariants as un
use Rattle.c_tree.specs.declared.tree.BinOp.{BinOp}
use Rattle.c_tree.specs.declared.tree.BinOp.TheVariants as bin
use Rattle.c_tree.specs.declared.tree.Var.TheVariants.{Local, Global}
use Rattle.c_tree.specs.declared.tree.Expr.{Expr}
use Rattle.c_tree.specs.declared.tree.Expr.TheVariants.{Num, Name, Elem, Un, Bin, Cond}
use Rattle.c_tree.specs.declared.tree.Place.TheVariants as place
use Rattle.c_tree.specs.declared.tree.Target.TheVariants as target
use Rattle.c_tree.specs.declared.tree.Stmt.{Stmt}
use Rattle.c_tree.specs.declared.tree.Stmt.TheVariants.{Scalar, Assign, Return, While, Do, If, For, Call}
use Rattle.c_tree.specs.declared.program.Local.{Local as Declared}
use Rattle.c_tree.specs.declared.program.Global.{Global as Outside}
use Rattle.c_tree.specs.declared.program.Func.{Func}
use Rattle.c_tree.specs.declared.program.Program.{Program}
use Rattle.c_tree.specs.declared.program.Costs.{Costs}
use Rattle.c_tree.specs.declared.program.Input.{Input}
use Rattle.c_tree.specs.declared.program.BlockName.{BlockName}
use Rattle.c_tree.specs.declared.value.Value.{Value}
use Rattle.c_tree.specs.declared.value.Slot.{Slot}
use Rattle.c_tree.specs.declared.value.Slot.TheVariants.{Unset, Number, Numbers}
use Rattle.c_tree.specs.declared.value.Store.{Store}
use Rattle.c_tree.specs.Meaning.Statements.{Outcome, block, list_exec}
use Rattle.c_tree.specs.Meaning.Runs.{Run, Ended, IsUndefined, IsOverBound, run}
use Rattle.c_tree.specs.Meaning.Claims.{trace_cost}

-- ---- parts

-- a number of `int`
abbrev pub num : ℕ → Expr
num n = Num ty.Int n

-- the local n of the function, by name
abbrev pub local : ℕ → Expr
local n = Name (Local n)

-- `l op= e;`, and without an operator `l = e;`
abbrev pub sets : ℕ → Option BinOp → Expr → Stmt
sets l op e = Assign (place.Scalar (Local l)) op e

-- `l++`
abbrev pub increment : ℕ → Stmt
increment l = sets l (Some bin.Add) (num 1)

-- `int l = e;`
abbrev pub declares : ℕ → Expr → Stmt
declares l e = Scalar l (Some e)

abbrev pub returns : Expr → Stmt
returns e = Return (Some e)

abbrev pub int_scalar : Declared
int_scalar = record { name = []; ty = ty.Int; length = None }

-- a function of result `int` with so many parameters and locals, all `int`
abbrev pub int_func : ℕ → ℕ → List Stmt → Func
int_func params locals body =
    record { name = []; result = Some ty.Int; params = params; locals = replicate locals int_scalar; body = body }

-- a program of one function and these globals
abbrev pub main_with : List Outside → Func → Program
main_with gs f = record { globals = gs; funcs = f ∷ []; entry = 0 }

-- the same with `int` alone
abbrev pub main_of : ℕ → ℕ → List Stmt → Program
main_of params locals body = main_with [] (int_func params locals body)

abbrev pub input : List ℤ → Input
input zs = record { values = zs }

abbrev pub store : List Slot → Store
store ls = record { locals = ls; globals = [] }

-- a store of one local: unset of type `int`, a number, or an array
abbrev pub unset : Store
unset = store (Unset ty.Int ∷ [])

abbrev pub holds : Value → Store
holds v = store (Number v ∷ [])

abbrev pub lists : Ty → List Value → Store
lists t vs = store (Numbers t vs ∷ [])

-- the effect of a list in the function number 7, from its block 0
abbrev pub effect : List Stmt → Store → Outcome
effect xs s = list_exec [] 7 xs 0 false s

-- the block n of that function
abbrev pub own_block : ℕ → BlockName
own_block n = block 7 n

-- ---- costs

abbrev pub table : List (List ℕ) → Costs
table rows = record { by_func = rows }

-- 1 for each block
abbrev pub ones : Costs
ones = table (replicate 20 1 ∷ replicate 20 1 ∷ [])

abbrev pub run_cost : Costs → Run → Option ℕ
run_cost t (Ended u) = Some (trace_cost t u)
run_cost t IsUndefined = None
run_cost t IsOverBound = None

-- the cost of the run of a program on these numbers, if it ends
abbrev pub cost_at : Program → Costs → List ℤ → Option ℕ
cost_at p t zs = run_cost t (run p (input zs))

-- ---- programs

-- `int main(void) { return 0; }`
unfoldable pub return_of_zero : Program
return_of_zero = main_of 0 0 (returns (num 0) ∷ [])

-- `int main(int x) { int r = 0; if (x > 10) r = 1; if (x < 5) r = 2; return r; }`
unfoldable pub two_thresholds : Program
two_thresholds =
    main_of 1 2 (declares 1 (num 0) ∷ If (Bin bin.Gt (local 0) (num 10)) (sets 1 None (num 1) ∷ []) []
    ∷ If (Bin bin.Lt (local 0) (num 5)) (sets 1 None (num 2) ∷ []) [] ∷ returns (local 1) ∷ [])

-- its costs: 1, but `main:2` 50 and `main:4` 40
abbrev pub two_thresholds_costs : Costs
two_thresholds_costs = table ((1 ∷ 1 ∷ 50 ∷ 1 ∷ 40 ∷ 1 ∷ []) ∷ [])

-- `int main(int n) { int i = 0; while [10] (i < n) i++; return i; }`
unfoldable pub counted_while : Program
counted_while =
    main_of 1 2 (declares 1 (num 0) ∷ While 10 (Bin bin.Lt (local 1) (local 0)) (increment 1 ∷ []) ∷ returns (local 1)
    ∷ [])

-- `int main(int n) { int i = 0; do [3] i++; while (i < n); return i; }`
unfoldable pub counted_do : Program
counted_do =
    main_of 1 2 (declares 1 (num 0) ∷ Do 3 (increment 1 ∷ []) (Bin bin.Lt (local 1) (local 0)) ∷ returns (local 1) ∷ [])

-- `int main(void) { int s = 0; for [4] (int i = 0; i < 4; i++) for [3] (int j = 0; j < i; j++) s += 1; return s; }`
unfoldable pub triangular_loops : Program
triangular_loops =
    let inner = For 3 (Some (declares 2 (num 0))) (Bin bin.Lt (local 2) (local 1)) (Some (increment 2))
    (sets 0 (Some bin.Add) (num 1) ∷ []) in
    let outer = For 4 (Some (declares 1 (num 0))) (Bin bin.Lt (local 1) (num 4)) (Some (increment 1)) (inner ∷ []) in
    main_of 0 3 (declares 0 (num 0) ∷ outer ∷ returns (local 0) ∷ [])

-- its costs: 10 for the innermost block `main:7`, and 0 for each other
abbrev pub triangular_loops_costs : Costs
triangular_loops_costs = table ((replicate 7 0 ++ (10 ∷ 0 ∷ [])) ∷ [])

-- `int main(int x) { int r = 0; if (x + 1 < x) r = 1; return r; }`, or with `unsigned x` and `1u`
unfoldable pub overflow_guard : Ty → Program
overflow_guard t =
    let x : Declared = record { name = []; ty = t; length = None } in
    let guard = Bin bin.Lt (Bin bin.Add (local 0) (Num t 1)) (local 0) in
    main_with [] (record {
      name = [];
      result = Some ty.Int;
      params = 1;
      locals = x ∷ int_scalar
          ∷ [];
      body = declares 1 (num 0) ∷ If guard (sets 1 None (num 1) ∷ []) [] ∷ returns (local 1) ∷ [];
    })

-- `int main(int x) { return x / 0; }`
unfoldable pub division_by_zero : Program
division_by_zero = main_of 1 1 (returns (Bin bin.Div (local 0) (num 0)) ∷ [])

-- `int main(int x, int y) { return x op y; }`
unfoldable pub op_program : BinOp → Program
op_program op = main_of 2 2 (returns (Bin op (local 0) (local 1)) ∷ [])

-- `int main(int a) { int r = 0; if (a != 0 && 10 / a > 2) r = 1; return r; }`
unfoldable pub guarded_division : Program
guarded_division =
    let guard = Bin bin.Both (Bin bin.Ne (local 0) (num 0)) (Bin bin.Gt (Bin bin.Div (num 10) (local 0)) (num 2)) in
    main_of 1 2 (declares 1 (num 0) ∷ If guard (sets 1 None (num 1) ∷ []) [] ∷ returns (local 1) ∷ [])

-- `extern int s[4]; int main(int i) { return s[i & 7]; }`
unfoldable pub masked_index : Program
masked_index =
    let s : Outside = record { name = []; ty = ty.Int; length = Some 4; outer = true; values = [] } in
    main_with (s ∷ []) (int_func 1 1 (returns (Elem (Global 0) (Bin bin.And (local 0) (num 7))) ∷ []))

-- `int f(void) { } int main(void) { int x = 0; CALL return x; }`
unfoldable pub missing_result : Stmt → Program
missing_result s =
    let main = int_func 0 1 (declares 0 (num 0) ∷ s ∷ returns (local 0) ∷ []) in
    record { globals = []; funcs = int_func 0 0 [] ∷ main ∷ []; entry = 1 }

-- the filter: `extern int sample[4]; extern int mode;`, a clamp to -100 and 100, and a sum or its opposite by the mode
unfoldable pub clamp_filter : Program
clamp_filter =
    let low = Un un.Minus (num 100) in
    let clamp = int_func 1 1 (If (Bin bin.Gt (local 0) (num 100)) (returns (num 100) ∷ []) []
    ∷ If (Bin bin.Lt (local 0) low) (returns low ∷ []) [] ∷ returns (local 0) ∷ []) in
    let by_mode = λ (m : ℕ) (op : BinOp). If (Bin bin.Eq (Name (Global 1)) (num m)) (sets 0 (Some op) (local 2) ∷ [])
    [] in
    let body = Call (target.Assign (Local 2)) 0 (Elem (Global 0) (local 1) ∷ []) ∷ by_mode 1 bin.Add
    ∷ by_mode 2 bin.Sub ∷ [] in
    let loop = For 4 (Some (sets 1 None (num 0))) (Bin bin.Lt (local 1) (num 4)) (Some (increment 1)) body in
    let main = int_func 0 3 (declares 0 (num 0) ∷ Scalar 1 None ∷ declares 2 (num 0) ∷ loop ∷ returns (local 0) ∷ []) in
    let sample : Outside = record { name = []; ty = ty.Int; length = Some 4; outer = true; values = [] } in
    let mode : Outside = record { name = []; ty = ty.Int; length = None; outer = true; values = [] } in
    record { globals = sample ∷ mode ∷ []; funcs = clamp ∷ main ∷ []; entry = 1 }

-- its input of four samples of -n and a mode
abbrev pub samples : ℕ → ℕ → List ℤ
samples n mode = replicate 4 (neg_ℤ (pos n)) ++ (pos mode ∷ [])

-- its costs: 2, but `main:4` 6, `main:6` 10, `main:8` 14, `clamp:1` 5, `clamp:3` 7 and `clamp:4` 3
abbrev pub clamp_filter_costs : Costs
clamp_filter_costs =
    table ((2 ∷ 5 ∷ 2 ∷ 7 ∷ 3 ∷ []) ∷ (2 ∷ 2 ∷ 2 ∷ 2 ∷ 6 ∷ 2 ∷ 10 ∷ 2 ∷ 14 ∷ 2 ∷ []) ∷ [])

-- `n > 1 ? 1 : x`, of the locals n and x
abbrev pub one_or_x : Expr
one_or_x = Cond (Bin bin.Gt (local 0) (num 1)) (num 1) (local 1)

-- `int main(int n) { while [3] (n > 0) { int x = n > 1 ? 1 : x; n = n - 1; } return n; }`
unfoldable pub own_initialiser : Program
own_initialiser =
    main_of 1 2 (While 3 (Bin bin.Gt (local 0) (num 0)) (declares 1 one_or_x ∷ sets 0 (Some bin.Sub) (num 1) ∷ [])
    ∷ returns (local 0) ∷ [])

-- `int f(int v) { return v; } int main(int n) { while [2] (n > 0) { int x = f(ARGUMENT); n = n - 1; } return n; }`
unfoldable pub initialised_by_call : Expr → Program
initialised_by_call e =
    let loop = While 2 (Bin bin.Gt (local 0) (num 0)) (Call (target.Declare 1) 0 (e ∷ [])
    ∷ sets 0 (Some bin.Sub) (num 1) ∷ []) in
    let f = int_func 1 1 (returns (local 0) ∷ []) in
    record { globals = []; funcs = f ∷ int_func 1 2 (loop ∷ returns (local 0) ∷ []) ∷ []; entry = 1 }
