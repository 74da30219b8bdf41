-- How two copies of loops lie to one another. This project's own.
use Rattle.std.specs.Prelude.{◌≤◌, ◌⊎◌}
use Rattle.flow_laws.specs.Sites.{LoopCopy}

-- the first lies in the second
abbrev pub IsInside : LoopCopy → LoopCopy → Type 0
IsInside l m = (m.from ≤ l.from) × (l.past ≤ m.past)

-- they have no node in common
abbrev pub IsApart : LoopCopy → LoopCopy → Type 0
IsApart l m = (l.past ≤ m.from) ⊎ (m.past ≤ l.from)

abbrev pub AreNested : LoopCopy → LoopCopy → Type 0
AreNested l m = IsInside l m ⊎ (IsInside m l ⊎ IsApart l m)
