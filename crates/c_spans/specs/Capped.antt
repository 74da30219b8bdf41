-- Spans up to the greatest that is told apart, one more than 2^64.
use Rattle.std.specs.Prelude.{ℕ, ◌^◌, ◌+◌, min, List, [], ◌∷◌, ◌++◌}
use Rattle.c_tree.specs.declared.program.Func.{Func}
use Rattle.c_tree.specs.Meaning.Spans.{func_span}

unfoldable pub capped_span : ℕ → ℕ
capped_span n = min n (2 ^ 64 + 1)

-- of each function, over those above it
abbrev pub capped_spans : List ℕ → List Func → List ℕ
capped_spans ss [] = ss
capped_spans ss (f ∷ fs) = capped_spans (ss ++ capped_span (func_span ss f) ∷ []) fs
