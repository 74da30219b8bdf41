-- The plan is that of texts that are accepted.
use Rattle.std.proofs.Common.{subst}
use Rattle.front_end.specs.Files.{source_of, HasCosts}
use Rattle.front_end.proofs.InFiles.{fronted}
use Rattle.front_end.proofs.work.front_end.Goals as goal

pub returns-clause-front : goal.returns-clause-front
returns-clause-front g c =
    let source = source_of c.args.source.now in
    let costs = subst (λ told. HasCosts source told c.in_ok-program.program c.in_ok-costs.costs) c.in_ok-program.ensures.same c.in_ok-costs.ensures.priced in
    fronted source _ (record { plan = c.in_ok-plan.plan; input = c.in_ok-input.input }) c.in_ok-program.program c.in_ok-costs.costs
    c.in_ok-program.ensures.program costs c.in_ok-plan.ensures.whole c.in_ok-plan.ensures.plan c.in_ok-input.ensures.input
