use Rattle.bv_term.proofs.laws.putting_keeps_terms.Goals as goal
use Rattle.bv_term.proofs.PutLaws.{put_kept}
use Rattle.bv_term.proofs.ValueLaws.{put_keeps_words}

pub returns-clause-ops : goal.returns-clause-ops
returns-clause-ops c = put_kept

pub returns-clause-words : goal.returns-clause-words
returns-clause-words c = put_keeps_words
