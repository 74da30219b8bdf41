use Rattle.std.proofs.Common.{All, subst}
use Rattle.lin_rows.specs.declared.row.Row.{Row}
use Rattle.lin_rows.specs.Names.{NamesBelow}
use Rattle.ipet_rows.specs.Counts.{HoldOnPaths}
use Rattle.ipet_rows.specs.Sound.{PlanRows, AreSoundRows}
use Rattle.ipet_rows.proofs.sound.SoundRows.rows.Goals as goal

pub returns-clause-hold : goal.returns-clause-hold
returns-clause-hold c = subst (λ (y : PlanRows). HoldOnPaths y.plan.program y.rows) c.self.view_is c.self.invariant.hold

pub returns-clause-sound : goal.returns-clause-sound
returns-clause-sound c =
    let rows = c.self.inside.rows.rows in
    let own : AreSoundRows (record { plan = c.self.inside.plan.now; rows = rows; costs = c.self.inside.objective.costs }) =
    record {
      hold = c.self.invariant.hold;
      below = subst (λ n. All (λ (row : Row). NamesBelow n row.terms) rows) c.self.invariant.edges_are c.self.inside.rows.below;
      once = c.self.inside.rows.once;
      costs_are = c.self.invariant.costs_are;
    } in
    subst AreSoundRows c.self.view_is own
