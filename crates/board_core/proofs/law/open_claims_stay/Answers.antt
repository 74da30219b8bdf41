use Rattle.board_core.proofs.OpenClaims.{got_is_open, got_is_other, claim_keeps, publication_keeps, return_keeps}
use Rattle.board_core.proofs.law.open_claims_stay.Goals as goal

pub returns-clause-got : goal.returns-clause-got
returns-clause-got c = got_is_open

pub returns-clause-other : goal.returns-clause-other
returns-clause-other c = got_is_other

pub returns-clause-claimed : goal.returns-clause-claimed
returns-clause-claimed c = claim_keeps

pub returns-clause-settled : goal.returns-clause-settled
returns-clause-settled c = publication_keeps

pub returns-clause-returned : goal.returns-clause-returned
returns-clause-returned c = return_keeps
