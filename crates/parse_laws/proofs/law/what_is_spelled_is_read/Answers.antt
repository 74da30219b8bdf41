use Rattle.parse_laws.proofs.Whole.{complete}
use Rattle.parse_laws.proofs.law.what_is_spelled_is_read.Goals as goal

pub returns : goal.returns
returns c = complete
