use Rattle.std.proofs.Common.{map, refl}
use Rattle.std.proofs.lemmas.List.{take-map}
use Rattle.search_tables.specs.declared.trail.Step.{Step}
use Rattle.search_tables.proofs.Placing.{Places-take}
use Rattle.search_tables.proofs.trail.Trail.truncate.Goals as goal

pub invariant_of-self : goal.invariant_of-self
invariant_of-self c =
    let steps = c.self.inside.steps.items in
    rw (c.truncate.ensures.items, ← take-map (λ (s : Step). s.literal) c.args.count steps)
    (Places-take c.self.inside.places.items (map (λ (s : Step). s.literal) steps) c.args.count c.self.invariant)

pub returns : goal.returns
returns c =
    let steps = c.self.inside.steps.items in
    rw (← c.self.view_is, c.truncate.ensures.items, ← take-map (λ (s : Step). s.literal) c.args.count steps, ← take-map (λ (s : Step). s.reason) c.args.count steps) refl
