use Rattle.std.proofs.Common.{◌≡◌, map, length, w32, to_z, of_z}
use Rattle.std.proofs.lemmas.Int.{to_z-of_z}
use Rattle.std.proofs.lemmas.List.{length-map, map_push}
use Rattle.search_tables.specs.declared.trail.Step.{Step}
use Rattle.search_tables.proofs.Placing.{Places-push}
use Rattle.search_tables.proofs.trail.Trail.push.Goals as goal

pub invariant_of-self-2 : goal.invariant_of-self-2
invariant_of-self-2 c =
    let same : to_z w32 (of_z w32 c.args.literal) ≡ c.args.literal = to_z-of_z w32 c.args.literal (record { sfits = c.ranges.literal.sfits }) in
    let view = c.self.view_is in
    let steps = c.self.inside.steps.items in
    let long : length (map (λ (s : Step). s.literal) steps) ≡ length steps = length-map steps (λ (s : Step). s.literal) in
    let pushed = Places-push c.self.inside.places.items (map (λ (s : Step). s.literal) steps) c.args.literal c.index.result c.self.invariant (rw (← view) at c.requires.within) (rw (← view) at c.requires.not_true) (rw (← view) at c.requires.not_false) (rw same at c.index.ensures) in
    rw (c.in_ok-push.ensures.items, map_push (λ (s : Step). s.literal) steps, same, c.len-place.ensures, c.self.inside.steps.ok.0) (rw long at pushed)
