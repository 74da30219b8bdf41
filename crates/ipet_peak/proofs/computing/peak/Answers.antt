-- A plan's part has room, and what is computed of it is the peak.
use Rattle.std.proofs.Common.{◌≡◌, None, arith, ap, sym, ◌∙◌, subst}
use Rattle.std.specs.Prelude.{pos}
use Rattle.c_tree.specs.Keeping.WellFormed.{WellFormed}
use Rattle.flow_graph.specs.Limits.{size_fault}
use Rattle.flow_graph.specs.Plans.{Planned}
use Rattle.flow_laws.specs.Graphs.{graph}
use Rattle.ipet_rows.specs.CapsBound.{AreSmall}
use Rattle.peak_laws.specs.declared.answer.Peak.{Peak}
use Rattle.peak_laws.specs.Answers.{peak_value, peak_counts, peak_multipliers}
use Rattle.peak_laws.specs.Magnitudes.{cap_cost}
use Rattle.peak_laws.specs.Parts.{Part}
use Rattle.peak_laws.specs.Peaks.{IsPeakOf}
use Rattle.peak_laws.specs.ProgramParts.{program_part}
use Rattle.peak_laws.proofs.Optima.Above.{runs_within}
use Rattle.peak_laws.proofs.Optima.Computed.{is_peak}
use Rattle.ipet_peak.specs.Trees.{part_of}
use Rattle.ipet_peak.proofs.PlanRoom.{HasRoom, plan_room, if_all}
use Rattle.ipet_peak.proofs.TreeLayers.{keeps_at}
use Rattle.ipet_peak.proofs.computing.peak.Goals as goal

pub program_tree-requires : goal.program_tree-requires
program_tree-requires c =
    let n = c.args.plan.now in
    let small = subst AreSmall c.costs.ensures.value c.costs_are_small.ensures in
    let room = plan_room n.program n.costs c.program.ensures.formed small c.program.ensures.allowed in
    let same : cap_cost (program_part c.program.result.now c.costs-2.result.now) ≡ cap_cost (program_part n.program n.costs) = λ i. cap_cost (program_part (c.program.ensures.value i) (c.costs-2.ensures.value i)) in
    omega (arith, room.light, same)

pub peak_of_tree-requires : goal.peak_of_tree-requires
peak_of_tree-requires c =
    let n = c.args.plan.now in
    let small = subst AreSmall c.costs.ensures.value c.costs_are_small.ensures in
    let is : part_of c.get.result.now ≡ program_part n.program n.costs = ap part_of c.get.ensures ∙ c.in_ok-tree.ensures.part ∙ (λ i. program_part (c.program.ensures.value i) (c.costs-2.ensures.value i)) in
    let room : HasRoom (part_of c.get.result.now) = subst HasRoom (sym is) (plan_room n.program n.costs c.program.ensures.formed small c.program.ensures.allowed) in
    record { keeps = keeps_at _ _ c.get.ensures c.in_ok-tree.ensures.keeps; light = room.light; room = room.room; fit = room.fit }

peak_is : (n : Planned) (q : Part) (peak : Peak) → WellFormed n.program → AreSmall n.costs → size_fault (graph n.program) ≡ None → q ≡ program_part n.program n.costs
    → peak.value ≡ peak_value q → peak.counts ≡ peak_counts q → peak.by.d ≡ pos 1 → peak.by.y ≡ peak_multipliers q → IsPeakOf n peak
peak_is n q peak formed small allowed is value counts divisor multipliers =
    is_peak n peak formed small allowed (record { value = value ∙ ap peak_value is; counts = counts ∙ ap peak_counts is; divisor = divisor; multipliers = multipliers ∙ ap peak_multipliers is })

pub returns-clause-peak : goal.returns-clause-peak
returns-clause-peak c =
    let n = c.args.plan.now in
    let e = c.peak_of_tree.ensures in
    let small = subst AreSmall c.costs.ensures.value c.costs_are_small.ensures in
    let is : part_of c.get.result.now ≡ program_part n.program n.costs = ap part_of c.get.ensures ∙ c.in_ok-tree.ensures.part ∙ (λ i. program_part (c.program.ensures.value i) (c.costs-2.ensures.value i)) in
    if_all c.peak_of_tree.result _ _ _ _ _ (λ peak value counts divisor multipliers. peak_is n (part_of c.get.result.now) peak c.program.ensures.formed small c.program.ensures.allowed is value counts divisor multipliers) e.value e.counts e.divisor e.multipliers

pub returns-clause-above : goal.returns-clause-above
returns-clause-above c =
    let n = c.args.plan.now in
    let e = c.peak_of_tree.ensures in
    let small = subst AreSmall c.costs.ensures.value c.costs_are_small.ensures in
    let is : part_of c.get.result.now ≡ program_part n.program n.costs = ap part_of c.get.ensures ∙ c.in_ok-tree.ensures.part ∙ (λ i. program_part (c.program.ensures.value i) (c.costs-2.ensures.value i)) in
    if_all c.peak_of_tree.result _ _ _ _ _ (λ peak value counts divisor multipliers. runs_within n.program n.costs peak.value c.program.ensures.formed (peak_is n (part_of c.get.result.now) peak c.program.ensures.formed small c.program.ensures.allowed is value counts divisor multipliers).optimum) e.value e.counts e.divisor e.multipliers
