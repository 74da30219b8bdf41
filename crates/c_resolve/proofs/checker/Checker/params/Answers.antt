use Rattle.std.proofs.Common.{◌+◌, None, false, drop, sym, ap, ◌∙◌}
use Rattle.c_tree.specs.Checking.Naming.{scope_with_local, with_params}
use Rattle.c_tree.specs.Checking.Uses.{declared_at, params_uses}
use Rattle.c_faults.specs.Verdicts.{after_uses}
use Rattle.c_resolve.specs.Walks.{scope_of}
use Rattle.c_faults.proofs.AfterUses.{after_uses-none, after_uses-cons}
use Rattle.c_resolve.proofs.checker.Checker.params.Goals as goal
use Rattle.plain_laws.proofs.Lists.{drop-read, drop-past}

pub loop-param-preserved : goal.loop-param-preserved
loop-param-preserved c =
    let s = scope_of c.loop-param.self in
    let p = c.param-item.result in
    let at = drop-read c.args.params.now c.loop-param.param-index p c.loop-param-test.true c.param-item.is in
    let rest = drop (c.loop-param.param-index + 1) c.args.params.now in
    let e = c.in_ok-declare.ensures in
    let t = scope_with_local s false p.ty p.spot.name None in
    record {
      scope = ap (λ u. with_params u rest) e.scope ∙ ap (with_params s) (sym at) ∙ c.loop-param.invariant.scope;
      first = (λ i. after_uses (e.first i) (params_uses (e.scope i) rest))
          ∙ sym (after_uses-cons c.loop-param.self.verdict (declared_at s.known s.depth p.spot) (params_uses t rest))
          ∙ ap (λ ps. after_uses c.loop-param.self.verdict (params_uses s ps)) (sym at) ∙ c.loop-param.invariant.first;
    }

pub returns-clause-first : goal.returns-clause-first
returns-clause-first c =
    let s = scope_of c.loop-param.self in
    sym (after_uses-none c.loop-param.self.verdict)
    ∙ ap (λ ps. after_uses c.loop-param.self.verdict (params_uses s ps)) (sym (drop-past c.args.params.now c.loop-param.param-index c.loop-param-test.false))
    ∙ c.loop-param.invariant.first
