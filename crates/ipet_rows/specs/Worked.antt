-- Worked rows: what they are written of. In the text beside a program its loops' bounds stand in brackets.
use Rattle.std.specs.Prelude.{ℕ, ℤ, pos, neg_ℤ, List, [], ◌∷◌}
use Rattle.c_tree.specs.declared.program.Program.{Program}
use Rattle.c_tree.specs.declared.tree.Stmt.TheVariants.{Do}
use Rattle.c_tree.specs.Meaning.Worked.{num, returns, main_of}
use Rattle.lin_rows.specs.declared.row.RowKind.TheVariants.{AtMost, Equal}
use Rattle.lin_rows.specs.declared.row.Row.{Row}

-- the term of an edge, with a factor k or -k
abbrev pub plus_term : ℕ → ℕ → ℕ × ℤ
plus_term e k = (e, pos k)

abbrev pub minus_term : ℕ → ℕ → ℕ × ℤ
minus_term e k = (e, neg_ℤ (pos k))

abbrev pub equal : List (ℕ × ℤ) → ℕ → Row
equal terms n = record { terms = terms; kind = Equal; right = pos n }

abbrev pub at_most : List (ℕ × ℤ) → ℕ → Row
at_most terms n = record { terms = terms; kind = AtMost; right = pos n }

-- `int main(void) { do [1] {} while (0); return 0; }`
unfoldable pub once_do : Program
once_do = main_of 0 0 (Do 1 [] (num 0) ∷ returns (num 0) ∷ [])
