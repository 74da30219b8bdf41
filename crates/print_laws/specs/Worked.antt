-- Worked programs and expressions, with their names.
use Rattle.std.specs.Prelude.{ℕ, true, false, List, [], ◌∷◌, codes, Some, None, pos, negsuc}
use Rattle.c_tree.specs.declared.tree.Ty.TheVariants as ty
use Rattle.c_tree.specs.declared.tree.BinOp.TheVariants as op
use Rattle.c_tree.specs.declared.tree.Var.TheVariants.{Local, Global}
use Rattle.c_tree.specs.declared.tree.Expr.{Expr}
use Rattle.c_tree.specs.declared.tree.Expr.TheVariants.{Num, Name, Elem, Bin}
use Rattle.c_tree.specs.declared.tree.Place.TheVariants as place
use Rattle.c_tree.specs.declared.tree.Target.TheVariants as target
use Rattle.c_tree.specs.declared.tree.Stmt.{Stmt}
use Rattle.c_tree.specs.declared.tree.Stmt.TheVariants.{
  Empty,
  Scalar,
  Array,
  Assign,
  Call,
  Break,
  Continue,
  Return,
  If,
  While,
  Do,
  For,
  Group,
}
use Rattle.c_tree.specs.declared.program.Local.{Local as Declared}
use Rattle.c_tree.specs.declared.program.Global.{Global as Outside}
use Rattle.c_tree.specs.declared.program.Func.{Func}
use Rattle.c_tree.specs.declared.program.Program.{Program}
use Rattle.c_tree.specs.Meaning.Worked.{num, local, sets, declares, returns}
use Rattle.print_laws.specs.PrintedExpressions.{expr_text}

-- ---- parts

abbrev pub int_named : List ℕ → Declared
int_named name = record { name = name; ty = ty.Int; length = None }

abbrev pub named_main : List Declared → List Stmt → Func
named_main locals body = record { name = codes "main"; result = Some ty.Int; params = 0; locals = locals; body = body }

-- ---- programs

-- `int main(void) { return 0; }`
unfoldable pub named_return_of_zero : Program
named_return_of_zero = record { globals = []; funcs = named_main [] (returns (num 0) ∷ []) ∷ []; entry = 0 }

-- a global of each sort: an input, an input array, a negative value, one of `unsigned`, the least `int`, a short list,
-- and none
unfoldable pub each_global : List Outside
each_global =
    record { name = codes "mode"; ty = ty.Unsigned; length = None; outer = true; values = [] }
    ∷ record { name = codes "sample"; ty = ty.Int; length = Some 4; outer = true; values = [] }
    ∷ record { name = codes "low"; ty = ty.Int; length = None; outer = false; values = negsuc 4 ∷ [] }
    ∷ record { name = codes "mask"; ty = ty.Unsigned; length = None; outer = false; values = pos 4294967295 ∷ [] }
    ∷ record { name = codes "least"; ty = ty.Int; length = None; outer = false; values = negsuc 2147483647 ∷ [] }
    ∷ record { name = codes "table"; ty = ty.Int; length = Some 3; outer = false; values = pos 1 ∷ negsuc 1 ∷ [] }
    ∷ record { name = codes "last"; ty = ty.Int; length = None; outer = false; values = [] } ∷ []

-- a function of each result, and each statement
unfoldable pub note : Func
note = record {
  name = codes "note";
  result = None;
  params = 1;
  locals = int_named (codes "x")
      ∷ [];
  body = Assign (place.Elem (Global 5) (num 0)) None (local 0) ∷ Return None ∷ [];
}

unfoldable pub worked_pick : Func
worked_pick = record {
  name = codes "pick";
  result = Some ty.Unsigned;
  params = 2;
  locals = int_named (codes "a")
      ∷ record { name = codes "b"; ty = ty.Unsigned; length = None } ∷ [];
  body = Return (Some (Name (Local 1))) ∷ [];
}

abbrev pub loop_of_for : Stmt
loop_of_for = For 2 (Some (declares 2 (num 0))) (Bin op.Lt (local 2) (num 2)) (Some (sets 2 (Some op.Add) (num 1)))
    (Empty ∷ [])

abbrev pub endless : Stmt
endless = For 1 None (num 1) None (Break ∷ [])

unfoldable pub each_statement : Func
each_statement = named_main
    (int_named (codes "r") ∷ record { name = codes "list"; ty = ty.Int; length = Some 2 } ∷ int_named (codes "i")
    ∷ int_named (codes "q") ∷ [])
    (Scalar 0 None ∷ Array 1 (num 1 ∷ num 2 ∷ [])
    ∷ Call (target.Declare 3) 1 (num 1 ∷ Name (Global 0) ∷ [])
    ∷ Call (target.Assign (Local 0)) 1 (num 1 ∷ Num ty.Unsigned 2 ∷ [])
    ∷ Call target.Nothing 0 (local 0 ∷ [])
    ∷ While 4 (local 3) (If (local 0) (Continue ∷ []) (Group (sets 3 None (num 0) ∷ []) ∷ []) ∷ [])
    ∷ Do 3 (loop_of_for ∷ endless ∷ []) (num 0)
    ∷ If (local 0) (returns (num 1) ∷ []) []
    ∷ returns (Elem (Local 1) (num 0)) ∷ [])

unfoldable pub each_construct : Program
each_construct = record { globals = each_global; funcs = note ∷ worked_pick ∷ each_statement ∷ []; entry = 2 }

-- ---- expressions over the locals `a`, `b` and `c`

abbrev pub three_locals : Func
three_locals = named_main (int_named (codes "a") ∷ int_named (codes "b") ∷ int_named (codes "c") ∷ []) []

abbrev pub a : Expr
a = local 0

abbrev pub b : Expr
b = local 1

abbrev pub c : Expr
c = local 2

abbrev pub worked_expr_text : Expr → List ℕ
worked_expr_text e = expr_text named_return_of_zero three_locals e
