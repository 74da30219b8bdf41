-- What was written of a race, or of a refusal.
use Rattle.std.proofs.Common.{subst}
use Rattle.wc_outside.specs.Causes.{Rose}
use Rattle.front_end.specs.Files.{source_of}
use Rattle.front_end.specs.Halts.{IsHalt}
use Rattle.squeeze_race.proofs.Racing.{wrote_race, wrote_refusal}
use Rattle.squeeze_race.proofs.mode.squeeze_texts.Goals as goal

pub returns-in-Ok-clause-wrote : goal.returns-in-Ok-clause-wrote
returns-in-Ok-clause-wrote g c =
    wrote_race c.squeeze_plan.result (source_of c.args.source.now) (g.S.Shelf.contents c.args.shelf.now) c.args.limits
    (g.K.Sink.written c.args.out.now) (g.K.Sink.written c.squeeze_plan.new.out) c.in-Ok.front.plan.program c.in-Ok.front.plan.costs
    c.in-Ok.ensures.front.accepted c.squeeze_plan.ensures.raced

pub returns-in-Err-Refused-clause-wrote : goal.returns-in-Err-Refused-clause-wrote
returns-in-Err-Refused-clause-wrote g c =
    wrote_refusal c.refuse.result (source_of c.args.source.now) (g.S.Shelf.contents c.args.shelf.now) c.args.limits
    (g.K.Sink.written c.args.out.now) (g.K.Sink.written c.refuse.new.out) c.in-Err-Refused.refusal
    (Rose (g.K.Sink.faults c.args.out.now) (g.K.Sink.faults c.refuse.new.out))
    (subst (λ h. IsHalt h (source_of c.args.source.now) (g.S.Shelf.contents c.args.shelf.now)) c.in-Err-Refused.field-0-is
    c.in-Err-Refused.ensures.halted)
    (rw c.in-Err-Refused.field-0-is at c.refuse.ensures.told) (rw c.in-Err-Refused.field-0-is at c.refuse.ensures.part) c.refuse.ensures.memory c.refuse.ensures.refused
