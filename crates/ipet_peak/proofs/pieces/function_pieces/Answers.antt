-- The pieces of each function make its part.
use Rattle.std.proofs.Common.{take, ap, ◌∙◌, sym, refl, arith}
use Rattle.c_tree.specs.declared.program.Func.{Func}
use Rattle.ipet_peak.proofs.Grown.{listed_more}
use Rattle.ipet_peak.proofs.pieces.function_pieces.Goals as goal

pub loop-func-preserved : goal.loop-func-preserved
loop-func-preserved c =
    let fs = c.args.funcs.now in
    let i = c.loop-func.func in
    listed_more c.args.costs.now fs (take i fs) i _ c.as_slice.result.now c.loop-func.all c.push.new.self _ (omega (arith, c.loop-func-test.true)) c.index-funcs-func.is refl (c.as_slice.ensures ∙ ap (λ (y : Func). y.body) (sym c.index-funcs-func.is)) c.in_ok-pieces_of.ensures c.in_ok-push.ensures.ok c.loop-func.invariant
