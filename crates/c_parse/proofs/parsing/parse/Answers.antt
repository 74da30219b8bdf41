use Rattle.parse_laws.proofs.Whole.{low, memory, only, spelled}
use Rattle.c_parse.proofs.parsing.parse.Goals as goal

pub returns-in-Ok-clause-spelled : goal.returns-in-Ok-clause-spelled
returns-in-Ok-clause-spelled c = spelled _ _ _ _ _ (rw c.new-reader.ensures at c.in-Ok.ensures)

pub returns-in-Ok-clause-low : goal.returns-in-Ok-clause-low
returns-in-Ok-clause-low c = low _ _ _ _ _ (rw c.new-reader.ensures at c.in-Ok.ensures)

pub returns-in-Ok-clause-read : goal.returns-in-Ok-clause-read
returns-in-Ok-clause-read c other x h = only _ _ _ _ _ other (rw c.new-reader.ensures at c.in-Ok.ensures) x h

pub returns-in-Err-clause-read : goal.returns-in-Err-clause-read
returns-in-Err-clause-read c other x h = c.refusal.ensures.memory (memory _ _ _ _ other (rw c.new-reader.ensures at c.in-Err.ensures) x h)
