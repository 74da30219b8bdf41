-- A turn costs at most its condition, its step and its body.
use Rattle.std.proofs.Common.{◌≤◌, ℕ, ◌+◌}
use Rattle.peak_laws.specs.Parts.{turn_cost, way_back}
use Rattle.peak_laws.specs.declared.ways.Ways.{Ways}
use Rattle.peak_laws.specs.Magnitudes.{WaysAreAtMost}
use Rattle.peak_laws.proofs.Duals.Magnitudes.{most_turn, most_greater}

pub small_turn : (c x : ℕ) (w : Ways) → WaysAreAtMost w x → turn_cost c (way_back w) ≤ c + x
small_turn c x w h = most_turn c (way_back w) x (most_greater w.next w.continues x h.next h.continues)
