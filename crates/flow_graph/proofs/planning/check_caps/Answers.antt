use Rattle.std.proofs.Common.{◌∙◌, ap, option_map}
use Rattle.flow_graph.specs.declared.fault.PlanFault.TheVariants.{Cap}
use Rattle.flow_graph.proofs.Measured.{cap_is}
use Rattle.flow_graph.proofs.planning.check_caps.Goals as goal

pub returns-in-None-clause-whole : goal.returns-in-None-clause-whole
returns-in-None-clause-whole c =
    cap_is c.args.program.now c.args.laid.now c.first_above.result c.requires.nodes c.requires.few c.requires.fewer c.first_above.ensures ∙ ap (option_map (λ b. Cap b)) c.in-None.is

pub returns-in-Some-clause-refused : goal.returns-in-Some-clause-refused
returns-in-Some-clause-refused c =
    cap_is c.args.program.now c.args.laid.now c.first_above.result c.requires.nodes c.requires.few c.requires.fewer c.first_above.ensures ∙ ap (option_map (λ b. Cap b)) c.in-Some.is
