-- The tree of a text.
use Rattle.std.specs.Prelude.{ℕ, List, length}
use Rattle.c_tree.specs.declared.unit.RawTop.{RawTop}
use Rattle.c_tree.specs.declared.unit.Unit.{Unit as Tree}

-- the tree of a text with these declarations and functions
abbrev pub tree_of : List ℕ → List RawTop → Tree
tree_of text tops = record { tops = tops; end = length text }
