-- Acting does not look at the loop of a condition.
use Rattle.std.proofs.Common.{◌≡◌, refl}
use Rattle.flow_laws.specs.Sites.{Content, Entry, Exit, Simple, Test, Jump, Give, Enter, Missing, Land}
use Rattle.flow_laws.specs.Driving.{Memory, content_move}
use Rattle.flow_laws.specs.BlockLists.{plain}

pub acting : (c : Content) (m : Memory) → content_move (plain c) m ≡ content_move c m
acting Entry m = refl
acting Exit m = refl
acting (Simple ss) m = refl
acting (Test l e) m = refl
acting Jump m = refl
acting (Give e) m = refl
acting (Enter t ls es) m = refl
acting Missing m = refl
acting (Land t ty b) m = refl
