use Rattle.std.proofs.Common.{◌++◌, ◌∷◌, [], length, All, sym, ap, subst, ◌∙◌}
use Rattle.flow_laws.specs.Graphs.{graph, edges}
use Rattle.flow_graph.specs.Plans.{Planned}
use Rattle.lin_rows.specs.declared.row.Row.{Row}
use Rattle.lin_rows.specs.Names.{NamesBelow, NamesOnce}
use Rattle.ipet_rows.specs.Counts.{HoldsOnPaths, HoldOnPaths}
use Rattle.ipet_rows.specs.Sound.{PlanRows, PlanRow}
use Rattle.ipet_rows.proofs.OneMore.{after_err, after_ok, replaced, all_more}
use Rattle.ipet_rows.proofs.sound.SoundRows.with_row.Goals as goal

pub invariant_of-all : goal.invariant_of-all
invariant_of-all c =
    let p = c.self.inside.plan.now.program in
    let failed = sym c.is_err.ensures.value ∙ c.if-is_err.true in
    let same = after_err c.push.result failed c.push.ensures.err in
    record { edges_are = c.self.invariant.edges_are; hold = subst (HoldOnPaths p) (sym same) c.self.invariant.hold; costs_are = c.self.invariant.costs_are }

pub invariant_of-result : goal.invariant_of-result
invariant_of-result c =
    let rows = c.self.inside.rows.rows in
    let one = c.row.inside.row in
    let worked = sym c.is_err.ensures.value ∙ c.if-is_err.false in
    let room = after_ok c.push.result worked c.push.ensures.ok in
    let is = sym (replaced rows c.push.new.self c.set.new.self c.len-at.result one c.empty_row.result c.len-at.ensures room c.set.ensures) in
    let plan = ap (λ (y : PlanRow). y.plan) c.row.view_is ∙ c.requires ∙ sym (ap (λ (y : PlanRows). y.plan) c.self.view_is) in
    let edges_are = ap (λ (y : Planned). length (edges (graph y.program))) plan ∙ sym c.self.invariant.edges_are in
    let own = subst (λ n. NamesBelow n one.terms) edges_are c.row.invariant.below in
    record {
      below = subst (λ rs. All (λ (row : Row). NamesBelow c.self.inside.rows.edges row.terms) rs) is (all_more (λ (row : Row). NamesBelow c.self.inside.rows.edges row.terms) rows one c.self.inside.rows.below own);
      once = subst (λ rs. All (λ (row : Row). NamesOnce row.terms) rs) is (all_more (λ (row : Row). NamesOnce row.terms) rows one c.self.inside.rows.once c.row.invariant.once);
    }

pub invariant_of-result-2 : goal.invariant_of-result-2
invariant_of-result-2 c =
    let p = c.self.inside.plan.now.program in
    let rows = c.self.inside.rows.rows in
    let one = c.row.inside.row in
    let worked = sym c.is_err.ensures.value ∙ c.if-is_err.false in
    let room = after_ok c.push.result worked c.push.ensures.ok in
    let is = sym (replaced rows c.push.new.self c.set.new.self c.len-at.result one c.empty_row.result c.len-at.ensures room c.set.ensures) in
    let plan = ap (λ (y : PlanRow). y.plan) c.row.view_is ∙ c.requires ∙ sym (ap (λ (y : PlanRows). y.plan) c.self.view_is) in
    let own = subst (λ (y : Planned). HoldsOnPaths y.program one) plan c.row.invariant.holds in
    record { edges_are = c.self.invariant.edges_are; hold = subst (HoldOnPaths p) is (all_more (HoldsOnPaths p) rows one c.self.invariant.hold own); costs_are = c.self.invariant.costs_are }

pub returns-clause-rows : goal.returns-clause-rows
returns-clause-rows c =
    let rows = c.self.inside.rows.rows in
    let one = c.row.inside.row in
    let worked = sym c.is_err.ensures.value ∙ c.if-is_err.false in
    let room = after_ok c.push.result worked c.push.ensures.ok in
    let is = replaced rows c.push.new.self c.set.new.self c.len-at.result one c.empty_row.result c.len-at.ensures room c.set.ensures in
    let all = ap (λ (y : PlanRows). y.rows) c.self.view_is in
    let last = ap (λ (y : PlanRow). y.row) c.row.view_is in
    is ∙ (λ k. all k ++ last k ∷ [])
