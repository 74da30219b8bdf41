-- That a `for` has too many blocks where a part of it has.
use Rattle.std.proofs.Common.{◌≡◌, ◌<◌, ◌≤◌, ◌^◌, ℕ, false, List, Option, None, ap, arith, ◌∙◌}
use Rattle.std.specs.Option.{SomeIff}
use Rattle.c_tree.specs.declared.tree.Stmt.{Stmt}
use Rattle.c_tree.specs.Meaning.Blocks.{blocks, list_blocks}
use Rattle.c_tree.proofs.Layers.ExecLayers.{blocks-For}
use Rattle.c_semantics.proofs.blocks.+blocks.Goals as goal

-- no count is right of a number that is at least one which does not fit
too_many : (r : Option ℕ) (n m : ℕ) → r ≡ None → ¬ (n < 2 ^ 64) → n ≤ m → SomeIff r (m < 2 ^ 64) m
too_many r n m e h more = rw e (λ (few : m < 2 ^ 64). h (omega arith))

pub blocks-returns-in_err-held_blocks-in-For-2 : goal.blocks-returns-in_err-held_blocks-in-For-2
blocks-returns-in_err-held_blocks-in-For-2 t c =
    let same = ap (λ (s : Stmt). blocks s c.args.goes_on) c.in-For.is ∙ blocks-For _ _ _ _ _ _ in
    too_many _ _ _ c.from_residual-in_err-held_blocks-in-For-2.ensures c.in_err-held_blocks-in-For-2.ensures (omega arith)

pub blocks-returns-in_err-list_blocks-in-For : goal.blocks-returns-in_err-list_blocks-in-For
blocks-returns-in_err-list_blocks-in-For t c =
    let same = ap (λ (s : Stmt). blocks s c.args.goes_on) c.in-For.is ∙ blocks-For _ _ _ _ _ _ in
    let body = ap (λ (xs : List Stmt). list_blocks xs false) c.as_slice-in-For.ensures in
    too_many _ _ _ c.from_residual-in_err-list_blocks-in-For.ensures c.in_err-list_blocks-in-For.ensures (omega arith)
