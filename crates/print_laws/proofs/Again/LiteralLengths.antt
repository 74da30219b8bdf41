-- The length of an array that is written as a number is this number.
use Rattle.std.proofs.Common.{◌≡◌, ℕ, ◌<◌, ◌≤◌, ◌^◌, List, Option, Some, pos, refl, ap, arith}
use Rattle.std.specs.Int.{cast_signed, w32}
use Rattle.std.proofs.Math.Facts.{to_z-of_z}
use Rattle.c_tree.specs.declared.tree.Ty.TheVariants as ty
use Rattle.c_tree.specs.declared.unit.RawExpr.{RawExpr}
use Rattle.c_tree.specs.declared.unit.RawExpr.TheVariants as e
use Rattle.c_tree.specs.declared.value.Value.TheVariants.{Int}
use Rattle.c_tree.specs.Meaning.Expressions.{val}
use Rattle.c_tree.specs.Checking.Scopes.{Known}
use Rattle.c_tree.specs.Checking.Constants.{expr_of, has_name, constant_value, length_number, declared_length}
use Rattle.c_tree.specs.Checking.Uses.{expr_uses, length_uses}
use Rattle.print_laws.proofs.Again.FaultlessUses.{AreFaultless}

-- a small number is an `int` as it stands
pub small_int : (m : ℕ) → m < 2 ^ 31 → cast_signed w32 m ≡ pos m
small_int m h = to_z-of_z {w = w32} {z = pos m} (record { sfits = h })

pub literal_length : (at m : ℕ) (es : Option (List RawExpr)) → m ≤ 64 → declared_length (Some (e.Num at ty.Int m)) es ≡ m
unfolding constant_value has_name expr_of val
literal_length at m es h = ap (λ z. length_number (Some (Int z))) (small_int m (omega (arith, h)))

-- no fault stands in it
pub literal_faultless : (ks : List Known) (at m : ℕ) → AreFaultless (length_uses ks (Some (e.Num at ty.Int m)))
unfolding expr_uses constant_value has_name expr_of val
literal_faultless ks at m = refl
