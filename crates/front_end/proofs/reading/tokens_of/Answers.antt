-- What is wrong where a text is no tokens.
use Rattle.std.proofs.Common.{◌≡◌}
use Rattle.front_end.proofs.Stopping.{token_failed}
use Rattle.front_end.proofs.reading.tokens_of.Goals as goal

pub returns-in-Err-clause-stopped : goal.returns-in-Err-clause-stopped
returns-in-Err-clause-stopped c entry =
    rw c.token_stop.ensures (token_failed c.args.text.now entry c.in-Err.fault (λ ts v. v.items ≡ ts) c.requires c.in-Err.ensures.byte c.in-Err.ensures.comment c.in-Err.ensures.number c.in-Err.ensures.directive c.in-Err.ensures.complete)
