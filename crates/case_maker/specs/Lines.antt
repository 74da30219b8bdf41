-- The lines of the two texts of a case.
use Rattle.std.specs.Prelude.{ℕ, ◌+◌, List, [], ◌∷◌, ◌++◌, map, codes, decimal}
use Rattle.std.specs.List.{flat_map, range_with_len}
use Rattle.case_maker.specs.declared.segment.Variable.{Variable}
use Rattle.case_maker.specs.declared.segment.Segment.{Segment}
use Rattle.case_maker.specs.declared.segment.Segment.TheVariants.{If, IfElse, For}
use Rattle.case_maker.specs.Draws.{draw}
use Rattle.case_maker.specs.Segments.{name_of}

-- a line with its line feed, and the text of some lines
abbrev pub ended_line : List ℕ → List ℕ
ended_line line = line ++ codes "\n"

abbrev pub joined_lines : List (List ℕ) → List ℕ
joined_lines lines = flat_map ended_line lines

abbrev pub if_line : Variable → ℕ → List ℕ
if_line v c = codes "    if (" ++ name_of v ++ codes " > " ++ decimal c ++ codes "u) r = r + 1u;"

abbrev pub if_else_line : Variable → ℕ → List ℕ
if_else_line v c = codes "    if (" ++ name_of v ++ codes " == " ++ decimal c ++ codes "u) r = r + 2u; else r = r ^ 1u;"

abbrev pub pragma_line : ℕ → List ℕ
pragma_line b = codes "#pragma loopbound " ++ decimal b

abbrev pub for_line : Variable → ℕ → List ℕ
for_line v b = codes "    for (i = 0u; i < (" ++ name_of v ++ codes " & " ++ decimal b ++ codes "u); i++) r = r + 3u;"

-- the lines of a segment
abbrev pub segment_lines : Segment → List (List ℕ)
segment_lines (If v c) = if_line v c ∷ []
segment_lines (IfElse v c) = if_else_line v c ∷ []
segment_lines (For v b) = pragma_line b ∷ for_line v b ∷ []

-- the lines before and after the segments
abbrev pub head_lines : List (List ℕ)
head_lines = codes "int main(unsigned a, unsigned b) {" ∷ codes "    unsigned r = 0u;" ∷ codes "    unsigned i = 0u;"
    ∷ []

abbrev pub ending_lines : List (List ℕ)
ending_lines = codes "    return 0;" ∷ codes "}" ∷ []

-- a program
abbrev pub program_text : List Segment → List ℕ
program_text ss = joined_lines (head_lines ++ flat_map segment_lines ss ++ ending_lines)

-- the cost of a block of `main`
abbrev pub cost_line : ℕ → ℕ → List ℕ
cost_line n cost = codes "\"main:" ++ decimal n ++ codes "\" = " ++ decimal cost

-- the costs of the first blocks, 1 to 20 each, drawn in order from a first state on
abbrev pub cost_lines : ℕ → ℕ → List (List ℕ)
cost_lines first blocks = map (λ n. cost_line n (1 + draw first (n + 1) 20)) (range_with_len 0 blocks)

abbrev pub table_head : List (List ℕ)
table_head = codes "version = 1" ∷ codes "default = 1" ∷ codes "[cost]" ∷ []

-- a table of costs
abbrev pub table_text : ℕ → ℕ → List ℕ
table_text first blocks = joined_lines (table_head ++ cost_lines first blocks)
