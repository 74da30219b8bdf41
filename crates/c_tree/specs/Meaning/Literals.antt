-- Values written as literals, for worked values.
use Rattle.std.specs.Prelude.{ℕ, pos, neg_ℤ}
use Rattle.c_tree.specs.declared.value.Value.{Value}
use Rattle.c_tree.specs.declared.value.Value.TheVariants.{Int}

-- the `int` n
abbrev pub plus : ℕ → Value
plus n = Int (pos n)

-- the `int` -n
abbrev pub minus : ℕ → Value
minus n = Int (neg_ℤ (pos n))
