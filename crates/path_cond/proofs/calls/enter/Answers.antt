use Rattle.path_cond.proofs.CallRuns.{target_unset, entered}
use Rattle.path_cond.proofs.calls.enter.Goals as goal

pub all_exprs-requires : goal.all_exprs-requires
all_exprs-requires c = target_unset _ c.args.target c.args.memory.now _ c.unset_target.ensures c.requires.there

pub returns : goal.returns
returns c =
    entered c.args.target c.args.locals.now c.args.args.now c.args.memory.now c.unset_target.new.store c.replace-callers.result c.replace-callers.new.dest c.push.new.self c.unset_target.ensures c.requires.there c.in_ok-given.ensures c.as_slice.ensures c.in_ok-slots.ensures c.replace-callers.ensures.value c.replace-callers.ensures.after c.in_ok-push.ensures.ok
