use Rattle.path_cond.proofs.DeclaredInputs.{globals_room}
use Rattle.path_cond.proofs.inputs.declare_globals.Goals as goal
use Rattle.plain_laws.proofs.Lists.{drop-read}

pub declare_global-requires : goal.declare_global-requires
declare_global-requires c =
    let l = c.loop-global in
    globals_room c.args.globals.now l.global-index c.global-item.result c.args.terms.now.inputs l.terms.inputs (drop-read c.args.globals.now l.global-index c.global-item.result c.loop-global-test.true c.global-item.is) l.invariant.inputs c.requires
