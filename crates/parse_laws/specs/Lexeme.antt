-- A token as a number.
use Rattle.c_tree.specs.declared.unit.RawBound.{RawBound}
use Rattle.c_tree.specs.declared.unit.RawExpr.{RawExpr}
use Rattle.c_tree.specs.declared.unit.RawExpr.TheVariants as e
use Rattle.c_tree.specs.Tokens.Symbols.{Lexeme}

-- a token as an integer constant
abbrev pub constant_expr : Lexeme → RawExpr
constant_expr t = e.Num t.at t.ty t.value

-- and as the bound of a loop
abbrev pub raw_bound : Lexeme → RawBound
raw_bound t = record { at = t.at; value = t.value }
