-- What is said of the job that was read is said of each job that the words ask for; refused words ask for none.
use Rattle.std.proofs.Common.{subst, ap, refl, map, inr, Err}
use Rattle.front_end.specs.declared.status.Status.TheVariants as status
use Rattle.word_line.specs.declared.job.Job.{Job}
use Rattle.squeeze_top.specs.Written.{Wrote}
use Rattle.squeeze_top.proofs.Agreeing.{one_answer}
use Rattle.squeeze_top.proofs.Bounds.{bound_holds}
use Rattle.squeeze_top.proofs.Ends.{exact_holds, none_holds, all_holds, some_is, ends_so, found, found_none}
use Rattle.squeeze_top.proofs.Following.{answers, completes, refuses}
use Rattle.squeeze_top.proofs.Written.{wrote_nothing}
use Rattle.squeeze_top.proofs.top.wcet_main.Goals as goal

-- ---- a job was read

pub returns-in-Ok-clause-wrote : goal.returns-in-Ok-clause-wrote
returns-in-Ok-clause-wrote g c =
    λ job ask.
    let same = c.one_job.ensures.one (map (λ w. w.now) c.args.words.now) c.in-Ok.job job c.in-Ok.ensures.asked ask in
    subst (λ (j : Job). Wrote c.do_job.result j (g.S.Shelf.contents c.args.shelf.now) (g.K.Sink.written c.args.out.now) (g.K.Sink.written c.do_job.new.out)) same
    c.do_job.ensures.wrote

pub returns-in-Ok-clause-bounds : goal.returns-in-Ok-clause-bounds
returns-in-Ok-clause-bounds g c =
    λ job n p t ask some small b give.
    bound_holds c.do_job.result job (g.S.Shelf.contents c.args.shelf.now) (g.K.Sink.written c.args.out.now)
    (g.K.Sink.written c.do_job.new.out) n p t some small (returns-in-Ok-clause-wrote g c job ask) b give

pub returns-in-Ok-clause-exact : goal.returns-in-Ok-clause-exact
returns-in-Ok-clause-exact g c =
    λ job n input p t ask squeeze some small one wrote give.
    exact_holds c.do_job.result job (g.S.Shelf.contents c.args.shelf.now) (g.K.Sink.written c.args.out.now)
    (g.K.Sink.written c.do_job.new.out) n input p t squeeze some small one (returns-in-Ok-clause-wrote g c job ask) wrote give

pub returns-in-Ok-clause-none : goal.returns-in-Ok-clause-none
returns-in-Ok-clause-none g c =
    λ job p t ask squeeze some wrote give.
    none_holds c.do_job.result job (g.S.Shelf.contents c.args.shelf.now) (g.K.Sink.written c.args.out.now)
    (g.K.Sink.written c.do_job.new.out) p t squeeze some (returns-in-Ok-clause-wrote g c job ask) wrote give

pub returns-in-Ok-clause-holds : goal.returns-in-Ok-clause-holds
returns-in-Ok-clause-holds g c =
    λ job p t ask squeeze some give.
    all_holds c.do_job.result job (g.S.Shelf.contents c.args.shelf.now) (g.K.Sink.written c.args.out.now)
    (g.K.Sink.written c.do_job.new.out) p t squeeze some (returns-in-Ok-clause-wrote g c job ask) give

pub returns-in-Ok-clause-found : goal.returns-in-Ok-clause-found
returns-in-Ok-clause-found g c =
    λ job n p t ask squeeze some sink give whole reached.
    let old = g.K.Sink.written c.args.out.now in
    let new = g.K.Sink.written c.do_job.new.out in
    let told = g.S.Shelf.contents c.args.shelf.now in
    let before = some_is old sink in
    let wrote = subst (λ s. Wrote s job told old new) whole (returns-in-Ok-clause-wrote g c job ask) in
    found p t old new n (ends_so job told old new p t before.0 squeeze some before.1 wrote give) reached

pub returns-in-Ok-clause-found_none : goal.returns-in-Ok-clause-found_none
returns-in-Ok-clause-found_none g c =
    λ job p t ask squeeze some sink give whole none.
    let old = g.K.Sink.written c.args.out.now in
    let new = g.K.Sink.written c.do_job.new.out in
    let told = g.S.Shelf.contents c.args.shelf.now in
    let before = some_is old sink in
    let wrote = subst (λ s. Wrote s job told old new) whole (returns-in-Ok-clause-wrote g c job ask) in
    found_none p t old new (ends_so job told old new p t before.0 squeeze some before.1 wrote give) none

pub returns-in-Ok-clause-one_answer : goal.returns-in-Ok-clause-one_answer
returns-in-Ok-clause-one_answer g c = λ job s u a b plain some. one_answer job (g.S.Shelf.contents c.args.shelf.now) s u a b some plain

pub returns-in-Ok-clause-answered : goal.returns-in-Ok-clause-answered
returns-in-Ok-clause-answered g c =
    λ job s text ask plain some answer unread unwritten.
    answers c.do_job.result s job (g.S.Shelf.contents c.args.shelf.now) (g.K.Sink.written c.args.out.now)
    (g.K.Sink.written c.do_job.new.out) text some plain
    (λ e. unread (c.do_job.ensures.read_fault e)) (λ e. unwritten (c.do_job.ensures.write_fault e))
    (returns-in-Ok-clause-wrote g c job ask) answer

pub returns-in-Ok-clause-complete : goal.returns-in-Ok-clause-complete
returns-in-Ok-clause-complete g c =
    λ job ask some served unread unwritten.
    completes c.do_job.result job (g.S.Shelf.contents c.args.shelf.now) (g.K.Sink.written c.args.out.now)
    (g.K.Sink.written c.do_job.new.out) some served
    (λ e. unread (c.do_job.ensures.read_fault e)) (λ e. unwritten (c.do_job.ensures.write_fault e))
    (returns-in-Ok-clause-wrote g c job ask)

pub returns-in-Ok-clause-refused : goal.returns-in-Ok-clause-refused
returns-in-Ok-clause-refused g c =
    λ job refusal ask some are unread unwritten.
    refuses c.do_job.result job (g.S.Shelf.contents c.args.shelf.now) (g.K.Sink.written c.args.out.now)
    (g.K.Sink.written c.do_job.new.out) refusal some are
    (λ e. unread (c.do_job.ensures.read_fault e)) (λ e. unwritten (c.do_job.ensures.write_fault e))
    (returns-in-Ok-clause-wrote g c job ask)

-- ---- the words are refused

pub returns-in-Err-Refused-clause-asked : goal.returns-in-Err-Refused-clause-asked
returns-in-Err-Refused-clause-asked g c = inr (c.in-Err-Refused.ensures.refused (ap Err c.in-Err-Refused.field-0-is))

pub returns-in-Err-Refused-clause-wrote : goal.returns-in-Err-Refused-clause-wrote
returns-in-Err-Refused-clause-wrote g c = λ job ask. absurd (c.in-Err-Refused.ensures.refused (ap Err c.in-Err-Refused.field-0-is) job ask)

pub returns-in-Err-Refused-clause-bounds : goal.returns-in-Err-Refused-clause-bounds
returns-in-Err-Refused-clause-bounds g c = λ job n p t ask some small b give. absurd (c.in-Err-Refused.ensures.refused (ap Err c.in-Err-Refused.field-0-is) job ask)

pub returns-in-Err-Refused-clause-exact : goal.returns-in-Err-Refused-clause-exact
returns-in-Err-Refused-clause-exact g c = λ job n input p t ask squeeze some small one wrote give. absurd (c.in-Err-Refused.ensures.refused (ap Err c.in-Err-Refused.field-0-is) job ask)

pub returns-in-Err-Refused-clause-none : goal.returns-in-Err-Refused-clause-none
returns-in-Err-Refused-clause-none g c = λ job p t ask squeeze some wrote give. absurd (c.in-Err-Refused.ensures.refused (ap Err c.in-Err-Refused.field-0-is) job ask)

pub returns-in-Err-Refused-clause-holds : goal.returns-in-Err-Refused-clause-holds
returns-in-Err-Refused-clause-holds g c = λ job p t ask squeeze some give. absurd (c.in-Err-Refused.ensures.refused (ap Err c.in-Err-Refused.field-0-is) job ask)

pub returns-in-Err-Refused-clause-found : goal.returns-in-Err-Refused-clause-found
returns-in-Err-Refused-clause-found g c = λ job n p t ask squeeze some sink give whole reached. absurd (c.in-Err-Refused.ensures.refused (ap Err c.in-Err-Refused.field-0-is) job ask)

pub returns-in-Err-Refused-clause-found_none : goal.returns-in-Err-Refused-clause-found_none
returns-in-Err-Refused-clause-found_none g c = λ job p t ask squeeze some sink give whole none. absurd (c.in-Err-Refused.ensures.refused (ap Err c.in-Err-Refused.field-0-is) job ask)

pub returns-in-Err-Refused-clause-answered : goal.returns-in-Err-Refused-clause-answered
returns-in-Err-Refused-clause-answered g c = λ job s text ask plain some answer unread unwritten. absurd (c.in-Err-Refused.ensures.refused (ap Err c.in-Err-Refused.field-0-is) job ask)

pub returns-in-Err-Refused-clause-complete : goal.returns-in-Err-Refused-clause-complete
returns-in-Err-Refused-clause-complete g c = λ job ask some served unread unwritten. absurd (c.in-Err-Refused.ensures.refused (ap Err c.in-Err-Refused.field-0-is) job ask)

pub returns-in-Err-Refused-clause-refused : goal.returns-in-Err-Refused-clause-refused
returns-in-Err-Refused-clause-refused g c = λ job refusal ask some are unread unwritten. absurd (c.in-Err-Refused.ensures.refused (ap Err c.in-Err-Refused.field-0-is) job ask)

pub returns-in-Err-Refused-clause-one_answer : goal.returns-in-Err-Refused-clause-one_answer
returns-in-Err-Refused-clause-one_answer g c = λ job s u a b plain some. one_answer job (g.S.Shelf.contents c.args.shelf.now) s u a b some plain

-- ---- nothing was written

pub returns-in-Err-NoMemory-clause-asked : goal.returns-in-Err-NoMemory-clause-asked
returns-in-Err-NoMemory-clause-asked g c = c.one_job.ensures.or_none (map (λ w. w.now) c.args.words.now)

pub returns-in-Err-NoMemory-clause-wrote : goal.returns-in-Err-NoMemory-clause-wrote
returns-in-Err-NoMemory-clause-wrote g c =
    λ job ask.
    wrote_nothing job (g.S.Shelf.contents c.args.shelf.now) (g.K.Sink.written c.args.out.now) (g.K.Sink.written c.args.out.now) refl

pub returns-in-Err-NoMemory-clause-bounds : goal.returns-in-Err-NoMemory-clause-bounds
returns-in-Err-NoMemory-clause-bounds g c =
    λ job n p t ask some small b give.
    let told = g.S.Shelf.contents c.args.shelf.now in
    let old = g.K.Sink.written c.args.out.now in
    bound_holds status.NoMemory job told old old n p t some small (wrote_nothing job told old old refl) b give

pub returns-in-Err-NoMemory-clause-exact : goal.returns-in-Err-NoMemory-clause-exact
returns-in-Err-NoMemory-clause-exact g c =
    λ job n input p t ask squeeze some small one wrote give.
    let told = g.S.Shelf.contents c.args.shelf.now in
    let old = g.K.Sink.written c.args.out.now in
    exact_holds status.NoMemory job told old old n input p t squeeze some small one (wrote_nothing job told old old refl) wrote give

pub returns-in-Err-NoMemory-clause-none : goal.returns-in-Err-NoMemory-clause-none
returns-in-Err-NoMemory-clause-none g c =
    λ job p t ask squeeze some wrote give.
    let told = g.S.Shelf.contents c.args.shelf.now in
    let old = g.K.Sink.written c.args.out.now in
    none_holds status.NoMemory job told old old p t squeeze some (wrote_nothing job told old old refl) wrote give

pub returns-in-Err-NoMemory-clause-holds : goal.returns-in-Err-NoMemory-clause-holds
returns-in-Err-NoMemory-clause-holds g c =
    λ job p t ask squeeze some give.
    let told = g.S.Shelf.contents c.args.shelf.now in
    let old = g.K.Sink.written c.args.out.now in
    all_holds status.NoMemory job told old old p t squeeze some (wrote_nothing job told old old refl) give

pub returns-in-Err-NoMemory-clause-one_answer : goal.returns-in-Err-NoMemory-clause-one_answer
returns-in-Err-NoMemory-clause-one_answer g c = λ job s u a b plain some. one_answer job (g.S.Shelf.contents c.args.shelf.now) s u a b some plain
