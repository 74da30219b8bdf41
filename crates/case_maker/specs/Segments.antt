-- The segments of a made program, and the blocks of its function.
use Rattle.std.specs.Prelude.{ℕ, zero, suc, ◌+◌, ◌*◌, ◌%◌, List, map, codes}
use Rattle.std.specs.List.{range_with_len, sum_by}
use Rattle.case_maker.specs.declared.segment.Variable.{Variable}
use Rattle.case_maker.specs.declared.segment.Variable.TheVariants.{A, B}
use Rattle.case_maker.specs.declared.segment.Segment.{Segment}
use Rattle.case_maker.specs.declared.segment.Segment.TheVariants.{If, IfElse, For}
use Rattle.case_maker.specs.Draws.{draw}

-- the variable of a draw of 2, and its name
abbrev pub drawn_variable : ℕ → Variable
drawn_variable zero = A
drawn_variable (suc _) = B

abbrev pub name_of : Variable → List ℕ
name_of A = codes "a"
name_of B = codes "b"

-- the segment of a draw of 3, with its variable and a constant: a loop's bound is 1 to 4
abbrev pub segment_of : ℕ → Variable → ℕ → Segment
segment_of zero v c = If v c
segment_of (suc zero) v c = IfElse v c
segment_of (suc (suc _)) v c = For v (1 + c % 4)

-- segment number j has the three draws after those of the segments before it: its kind, its variable and its constant
abbrev pub segment_at : ℕ → ℕ → Segment
segment_at first j =
    segment_of (draw first (3 * j + 1) 3) (drawn_variable (draw first (3 * j + 2) 2)) (draw first (3 * j + 3) 16)

-- the first segments of a case, in order
abbrev pub segments : ℕ → ℕ → List Segment
segments first size = map (segment_at first) (range_with_len 0 size)

-- the blocks of a segment: of an `if`, its condition and each of its branches; of a `for`, its initialiser, its
-- condition, its step and its body
abbrev pub segment_blocks : Segment → ℕ
segment_blocks (If v c) = 2
segment_blocks (IfElse v c) = 3
segment_blocks (For v b) = 4

-- the blocks of `main`. Simple statements in a row are one block, so its two declarations are one, and no segment
-- joins it, since none is a simple statement. Then come the blocks of the segments, and the `return` is the last
abbrev pub case_blocks : List Segment → ℕ
case_blocks ss = 1 + sum_by segment_blocks ss + 1
