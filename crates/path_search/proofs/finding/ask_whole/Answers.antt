use Rattle.path_search.proofs.Findings.{found_if}
use Rattle.path_search.proofs.finding.ask_whole.Goals as goal

pub returns : goal.returns
returns c =
    let blasted = c.in_ok-blasted in
    found_if c.args.plan.now.program c.args.list.now blasted.blasted c.args.limit c.ask.result
    blasted.ensures.formula blasted.ensures.says blasted.ensures.inputs c.ask.ensures
