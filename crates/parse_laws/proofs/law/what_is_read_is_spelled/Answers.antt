use Rattle.parse_laws.proofs.Whole.{low, spelled}
use Rattle.parse_laws.proofs.law.what_is_read_is_spelled.Goals as goal

pub returns-clause-spelled : goal.returns-clause-spelled
returns-clause-spelled c = spelled

pub returns-clause-low : goal.returns-clause-low
returns-clause-low c = low
