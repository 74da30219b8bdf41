use Rattle.std.proofs.Common.{◌++◌, None, ap, ◌∙◌}
use Rattle.c_tree.specs.Checking.Naming.{file_start, funcs_of, globals_of}
use Rattle.c_tree.specs.Checking.Uses.{uses, tops_uses}
use Rattle.c_faults.specs.Verdicts.{after_uses}
use Rattle.c_resolve.proofs.resolved.resolve.Goals as goal

pub returns-clause-globals : goal.returns-clause-globals
returns-clause-globals c =
    c.in_ok-tops.ensures.globals ∙ ap (λ gs. gs ++ globals_of c.as_slice-tops.result.now) c.in_ok-walk.ensures.globals ∙ ap globals_of c.as_slice-tops.ensures

pub returns-clause-funcs : goal.returns-clause-funcs
returns-clause-funcs c =
    let ts = c.as_slice-tops.result.now in
    let walk = c.in_ok-walk.ensures in
    c.in_ok-tops.ensures.funcs ∙ (λ i. walk.funcs i ++ funcs_of (walk.file i) ts) ∙ ap (λ us. funcs_of (file_start us) us) c.as_slice-tops.ensures

pub returns-clause-verdict : goal.returns-clause-verdict
unfolding uses
returns-clause-verdict c =
    let ts = c.as_slice-tops.result.now in
    let walk = c.in_ok-walk.ensures in
    c.in_ok-tops.ensures.first ∙ (λ i. after_uses (walk.first i) (tops_uses (walk.file i) ts))
    ∙ ap (λ us. after_uses None (tops_uses (file_start us) us)) c.as_slice-tops.ensures
