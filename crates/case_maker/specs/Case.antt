-- What a made case is.
use Rattle.std.specs.Prelude.{◌≡◌, ℕ, ◌*◌, List}
use Rattle.case_maker.specs.Draws.{draw_state}
use Rattle.case_maker.specs.Segments.{segments, case_blocks}
use Rattle.case_maker.specs.Lines.{program_text, table_text}

-- the program and the table of a case number and a size. Three draws make a segment, and the costs of the blocks are
-- drawn after those of the segments
pub record Case (case size : ℕ) (text table : List ℕ) : Type 0 where
  pub program : text ≡ program_text (segments case size)
  pub costs : table ≡ table_text (draw_state case (3 * size)) (case_blocks (segments case size))
