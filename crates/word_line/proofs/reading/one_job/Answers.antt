use Rattle.word_line.proofs.OneJob as one
use Rattle.word_line.proofs.Asking.{asked_or_not}
use Rattle.word_line.proofs.reading.one_job.Goals as goal

pub returns : goal.returns
returns c = record { one = one.one_job; or_none = asked_or_not }
