use Rattle.std.proofs.Common.{◌++◌, ◌+◌, [], ◌∷◌, drop, sym, ap, ◌∙◌, append_assoc}
use Rattle.c_tree.specs.Checking.Naming.{known_funcs}
use Rattle.c_resolve.specs.Files.{func_count}
use Rattle.c_resolve.proofs.FileLayers.{known_funcs-cons}
use Rattle.c_resolve.proofs.unit.know.Goals as goal
use Rattle.plain_laws.proofs.Lists.{drop-read, drop-past}
use Rattle.std.proofs.lemmas.List.{append-nil}

pub loop-top-preserved : goal.loop-top-preserved
loop-top-preserved c =
    let x = c.top-item.result in
    let n = c.loop-top.number in
    let at = drop-read c.args.tops.now c.loop-top.top-index x c.loop-top-test.true c.top-item.is in
    let rest = drop (c.loop-top.top-index + 1) c.args.tops.now in
    (λ i. c.in_ok-number.ensures.names i ++ known_funcs (c.in_ok-number.ensures.next i) rest)
    ∙ append_assoc c.loop-top.names (known_funcs n (x ∷ [])) (known_funcs (n + func_count x) rest)
    ∙ ap (λ ks. c.loop-top.names ++ ks) (sym (known_funcs-cons n x rest))
    ∙ ap (λ ts. c.loop-top.names ++ known_funcs n ts) (sym at) ∙ c.loop-top.invariant

pub returns : goal.returns
returns c =
    sym (append-nil c.loop-top.names)
    ∙ ap (λ ts. c.loop-top.names ++ known_funcs c.loop-top.number ts) (sym (drop-past c.args.tops.now c.loop-top.top-index c.loop-top-test.false))
    ∙ c.loop-top.invariant
