-- How many blocks some segments have.
use Rattle.std.proofs.Common.{◌*◌, ◌≤◌, List, [], ◌∷◌, length, arith}
use Rattle.std.specs.List.{sum_by}
use Rattle.std.proofs.lemmas.List.Sums.{sum_by-cons}
use Rattle.case_maker.specs.declared.segment.Segment.{Segment}
use Rattle.case_maker.specs.declared.segment.Segment.TheVariants.{If, IfElse, For}
use Rattle.case_maker.specs.Segments.{segment_blocks}

-- no segment has more than four blocks
four_at_most : (s : Segment) → segment_blocks s ≤ 4
four_at_most (If v c) = omega arith
four_at_most (IfElse v c) = omega arith
four_at_most (For v b) = omega arith

pub blocks-le : (ss : List Segment) → sum_by segment_blocks ss ≤ 4 * length ss
blocks-le [] = omega arith
blocks-le (s ∷ ss) = omega (arith, four_at_most s, blocks-le ss, sum_by-cons segment_blocks s ss)
