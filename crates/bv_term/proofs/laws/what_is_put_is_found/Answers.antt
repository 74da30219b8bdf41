use Rattle.bv_term.proofs.laws.what_is_put_is_found.Goals as goal
use Rattle.bv_term.proofs.PutLaws.{put_found}

pub returns : goal.returns
returns c = put_found
