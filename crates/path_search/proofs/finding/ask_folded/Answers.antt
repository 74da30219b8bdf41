use Rattle.path_search.proofs.Findings.{first_found_if}
use Rattle.path_search.proofs.finding.ask_folded.Goals as goal

pub returns : goal.returns
returns c =
    let blasted = c.in_ok-blasted in
    first_found_if c.args.plan.now.program c.args.list.now blasted.blasted c.args.limit c.ask.result
    blasted.ensures.says blasted.ensures.inputs c.ask.ensures
