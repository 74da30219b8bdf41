-- What the answer or the refusal that was written says of the job and the texts.
use Rattle.std.proofs.Common.{subst, sym, refl}
use Rattle.std.specs.Prelude.{◌≡◌, ◌⊎◌}
use Rattle.wc_outside.specs.Causes.{Rose}
use Rattle.wc_outside.specs.Growth.{Grew}
use Rattle.front_end.specs.declared.status.Status.TheVariants as status
use Rattle.front_end.specs.Lines.{refusal_line}
use Rattle.front_end.specs.Statuses.{status_of}
use Rattle.squeeze_top.specs.Jobs.{IsHalt}
use Rattle.squeeze_top.proofs.Agreeing.{one_answer, answered_whole, answered_stands, served_stands, one_status}
use Rattle.squeeze_top.proofs.Bounds.{bound_holds}
use Rattle.squeeze_top.proofs.Written.{wrote_answer, wrote_refusal, wrote_nothing, given, refused}
use Rattle.squeeze_top.proofs.plain.plain_mode.Goals as goal

-- ---- an answer

pub returns-in-Ok-clause-wrote : goal.returns-in-Ok-clause-wrote
returns-in-Ok-clause-wrote g c =
    wrote_answer c.tell.result c.in-Ok.answer.status c.args.job.now (g.S.Shelf.contents c.args.shelf.now)
    (g.K.Sink.written c.args.out.now) (g.K.Sink.written c.tell.new.out) c.in-Ok.answer.text.items
    c.in-Ok.ensures.answered c.in-Ok.ensures.whole c.tell.ensures.only c.tell.ensures.told c.tell.ensures.part

pub returns-in-Ok-clause-bounds : goal.returns-in-Ok-clause-bounds
returns-in-Ok-clause-bounds g c =
    λ n p t some small b give.
    bound_holds c.tell.result c.args.job.now (g.S.Shelf.contents c.args.shelf.now)
    (g.K.Sink.written c.args.out.now) (g.K.Sink.written c.tell.new.out) n p t some small
    (returns-in-Ok-clause-wrote g c) b give

pub returns-in-Ok-clause-one_answer : goal.returns-in-Ok-clause-one_answer
returns-in-Ok-clause-one_answer g c = λ s u a b some. one_answer c.args.job.now (g.S.Shelf.contents c.args.shelf.now) s u a b some c.requires.plain

pub returns-in-Ok-clause-answered : goal.returns-in-Ok-clause-answered
returns-in-Ok-clause-answered g c =
    λ s text some answer unread unwritten.
    let told = g.S.Shelf.contents c.args.shelf.now in
    let old = g.K.Sink.written c.args.out.now in
    let new = g.K.Sink.written c.tell.new.out in
    let same = one_answer c.args.job.now told c.in-Ok.answer.status s c.in-Ok.answer.text.items text some
    c.requires.plain c.in-Ok.ensures.answered answer in
    subst (λ v. ((c.tell.result ≡ v) × Grew old new text) ⊎ (c.tell.result ≡ status.NoMemory))
    (sym (answered_whole c.args.job.now told s text c.requires.plain answer))
    (given c.tell.result (Grew old new text) c.tell.ensures.only
    (λ e. unwritten (c.tell.ensures.write_fault e))
    (λ e. subst (λ x. Grew old new x) same.1 (c.tell.ensures.told e)))

pub returns-in-Ok-clause-refused : goal.returns-in-Ok-clause-refused
returns-in-Ok-clause-refused g c =
    λ refusal some are unread unwritten.
    absurd (answered_stands c.args.job.now (g.S.Shelf.contents c.args.shelf.now) c.in-Ok.answer.status
    c.in-Ok.answer.text.items refusal some c.in-Ok.ensures.answered are)

-- ---- a refusal

pub returns-in-Err-Refused-clause-wrote : goal.returns-in-Err-Refused-clause-wrote
returns-in-Err-Refused-clause-wrote g c =
    wrote_refusal c.refuse.result c.args.job.now (g.S.Shelf.contents c.args.shelf.now)
    (g.K.Sink.written c.args.out.now) (g.K.Sink.written c.refuse.new.out) c.in-Err-Refused.refusal
    (Rose (g.K.Sink.faults c.args.out.now) (g.K.Sink.faults c.refuse.new.out))
    (subst (λ h. IsHalt h c.args.job.now (g.S.Shelf.contents c.args.shelf.now)) c.in-Err-Refused.field-0-is
    c.in-Err-Refused.ensures.halted)
    c.refuse.ensures.told c.refuse.ensures.part c.refuse.ensures.memory c.refuse.ensures.refused

pub returns-in-Err-Refused-clause-bounds : goal.returns-in-Err-Refused-clause-bounds
returns-in-Err-Refused-clause-bounds g c =
    λ n p t some small b give.
    bound_holds c.refuse.result c.args.job.now (g.S.Shelf.contents c.args.shelf.now)
    (g.K.Sink.written c.args.out.now) (g.K.Sink.written c.refuse.new.out) n p t some small
    (returns-in-Err-Refused-clause-wrote g c) b give

pub returns-in-Err-Refused-clause-one_answer : goal.returns-in-Err-Refused-clause-one_answer
returns-in-Err-Refused-clause-one_answer g c = λ s u a b some. one_answer c.args.job.now (g.S.Shelf.contents c.args.shelf.now) s u a b some c.requires.plain

pub returns-in-Err-Refused-clause-answered : goal.returns-in-Err-Refused-clause-answered
returns-in-Err-Refused-clause-answered g c =
    λ s text some answer unread unwritten.
    absurd (answered_stands c.args.job.now (g.S.Shelf.contents c.args.shelf.now) s text
    c.in-Err-Refused.refusal some answer
    (subst (λ h. IsHalt h c.args.job.now (g.S.Shelf.contents c.args.shelf.now)) c.in-Err-Refused.field-0-is
    c.in-Err-Refused.ensures.halted))

pub returns-in-Err-Refused-clause-complete : goal.returns-in-Err-Refused-clause-complete
returns-in-Err-Refused-clause-complete g c =
    λ some served unread unwritten.
    absurd (served_stands c.args.job.now (g.S.Shelf.contents c.args.shelf.now) c.in-Err-Refused.refusal some
    served
    (subst (λ h. IsHalt h c.args.job.now (g.S.Shelf.contents c.args.shelf.now)) c.in-Err-Refused.field-0-is
    c.in-Err-Refused.ensures.halted))

pub returns-in-Err-Refused-clause-refused : goal.returns-in-Err-Refused-clause-refused
returns-in-Err-Refused-clause-refused g c =
    λ refusal some are unread unwritten.
    refused c.refuse.result (status_of c.in-Err-Refused.refusal) (status_of refusal)
    (Grew (g.K.Sink.written c.args.out.now) (g.K.Sink.written c.refuse.new.out)
    (refusal_line c.in-Err-Refused.refusal))
    (λ e. unwritten ((c.refuse.ensures.part e).1)) c.refuse.ensures.told
    (one_status c.args.job.now (g.S.Shelf.contents c.args.shelf.now) c.in-Err-Refused.refusal refusal some
    (subst (λ h. IsHalt h c.args.job.now (g.S.Shelf.contents c.args.shelf.now)) c.in-Err-Refused.field-0-is
    c.in-Err-Refused.ensures.halted) are)

-- ---- nothing was written

pub returns-in-Err-ReadFault-clause-bounds : goal.returns-in-Err-ReadFault-clause-bounds
returns-in-Err-ReadFault-clause-bounds g c =
    λ n p t some small b give.
    bound_holds status.ReadFault c.args.job.now (g.S.Shelf.contents c.args.shelf.now)
    (g.K.Sink.written c.args.out.now) (g.K.Sink.written c.args.out.now) n p t some small refl b give

pub returns-in-Err-ReadFault-clause-one_answer : goal.returns-in-Err-ReadFault-clause-one_answer
returns-in-Err-ReadFault-clause-one_answer g c = λ s u a b some. one_answer c.args.job.now (g.S.Shelf.contents c.args.shelf.now) s u a b some c.requires.plain

pub returns-in-Err-NoMemory-clause-bounds : goal.returns-in-Err-NoMemory-clause-bounds
returns-in-Err-NoMemory-clause-bounds g c =
    λ n p t some small b give.
    let told = g.S.Shelf.contents c.args.shelf.now in
    let old = g.K.Sink.written c.args.out.now in
    bound_holds status.NoMemory c.args.job.now told old old n p t some small
    (wrote_nothing c.args.job.now told old old refl) b give

pub returns-in-Err-NoMemory-clause-one_answer : goal.returns-in-Err-NoMemory-clause-one_answer
returns-in-Err-NoMemory-clause-one_answer g c = λ s u a b some. one_answer c.args.job.now (g.S.Shelf.contents c.args.shelf.now) s u a b some c.requires.plain
