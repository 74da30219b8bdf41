-- A landing is laid out with the block of its call.
use Rattle.std.proofs.Common.{◌≡◌, ◌<◌, ℕ, zero, suc, List, [], ◌∷◌, length, get_or, Some, sym, ap, arith}
use Rattle.std.specs.Prelude.{slice_get}
use Rattle.flow_laws.specs.Sites.{Site}
use Rattle.graph_lists.specs.declared.spot.Spot.{Spot}
use Rattle.flow_graph.specs.Landings.{calls}
use Rattle.flow_graph.specs.Spots.{spots}

pub call_at : (g : List Site) (n : ℕ) (x : Spot) → n < length g → x ≡ get_or (spots g) n x → slice_get (calls g) n ≡ Some x.call
call_at [] n x lt e = absurd (omega (arith, lt))
call_at (s ∷ g) zero x lt e = ap (λ (y : Spot). Some y.call) (sym e)
call_at (s ∷ g) (suc n) x lt e = call_at g n x (omega (arith, lt)) e
