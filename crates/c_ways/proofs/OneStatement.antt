-- The blocks of one statement: a simple one that goes on with a run begins none, and what stands before any other one does not matter.
use Rattle.std.proofs.Common.{◌≡◌, Bool, true, false, refl}
use Rattle.c_tree.specs.declared.tree.Stmt.{Stmt}
use Rattle.c_tree.specs.declared.tree.Stmt.TheVariants.{Empty, Scalar, Array, Assign, Call, Break, Continue, Return, If', While', Do', For', Group'}
use Rattle.c_tree.specs.Meaning.Blocks.{is_simple, blocks}

pub going_on : (st : Stmt) → is_simple st ≡ true → blocks st true ≡ 0
unfolding blocks
going_on Empty e = refl
going_on (Scalar l i) e = refl
going_on (Array l es) e = refl
going_on (Assign p op v) e = refl
going_on (Call t g es) e = absurd cc
going_on Break e = absurd cc
going_on Continue e = absurd cc
going_on (Return v) e = absurd cc
going_on (If' c a x b y) e = absurd cc
going_on (While' k c a x) e = absurd cc
going_on (Do' k a x c) e = absurd cc
going_on (For' k i c j a x) e = absurd cc
going_on (Group' a x) e = absurd cc

pub on_its_own : (st : Stmt) (run : Bool) → is_simple st ≡ false → blocks st false ≡ blocks st run
unfolding blocks
on_its_own Empty run e = absurd cc
on_its_own (Scalar l i) run e = absurd cc
on_its_own (Array l es) run e = absurd cc
on_its_own (Assign p op v) run e = absurd cc
on_its_own (Call t g es) run e = refl
on_its_own Break run e = refl
on_its_own Continue run e = refl
on_its_own (Return v) run e = refl
on_its_own (If' c a x b y) run e = refl
on_its_own (While' k c a x) run e = refl
on_its_own (Do' k a x c) run e = refl
on_its_own (For' k i c j a x) run e = refl
on_its_own (Group' a x) run e = refl
