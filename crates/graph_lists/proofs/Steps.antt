-- One node more: the lists of edges, of loops and of what leaves the nodes, where the rest is still to come.
use Rattle.std.proofs.Common.{◌≡◌, ℕ, ◌+◌, ◌<◌, List, [], ◌∷◌, ◌++◌, length, drop, get_or, refl, sym, ap, ◌∙◌, arith, append_assoc, length-append}
use Rattle.flow_laws.specs.declared.graph.Edge.{Edge}
use Rattle.flow_laws.specs.declared.graph.Loop.{Loop}
use Rattle.graph_lists.specs.declared.onward.Outs.{Outs}
use Rattle.graph_lists.specs.declared.spot.Ends.{Ends}
use Rattle.graph_lists.specs.declared.spot.Ends.TheVariants as ends
use Rattle.graph_lists.specs.declared.spot.Spot.{Spot}
use Rattle.graph_lists.specs.Joints.{outs_of, spot_outs, spot_edges, spot_loops, ends_loops}
use Rattle.graph_lists.specs.Leaving.{outs_from, all_outs}
use Rattle.plain_laws.proofs.Lists.{drop-read}

pub outs_long : (n m : ℕ) (e : Ends) (t u : ℕ) → length (spot_outs n e t u) ≡ length (spot_outs m e t u)
outs_long n m ends.Never t u = refl
outs_long n m ends.Once t u = refl
outs_long n m ends.Choice t u = refl
outs_long n m (ends.Loop l) t u = refl

edges_long : (n m : ℕ) (g : List Spot) → length (spot_edges n g) ≡ length (spot_edges m g)
edges_long n m [] = refl
edges_long n m (s ∷ g) =
    length-append (outs_of n s) (spot_edges (n + 1) g) ∙ (λ i. outs_long n m s.ends s.yes s.no i + edges_long (n + 1) (m + 1) g i) ∙ sym (length-append (outs_of m s) (spot_edges (m + 1) g))

pub loop_step : (es : List Edge) (xs : List Spot) (i : ℕ) (x : Spot) (old new whole : List Loop) (first count all : ℕ) → i < length xs → x ≡ get_or xs i x → new ≡ old ++ ends_loops es first x.ends → count ≡ length (outs_of 0 x)
    → old ++ spot_loops es first (drop i xs) ≡ whole → new ++ spot_loops es (first + count) (drop (i + 1) xs) ≡ whole
loop_step es xs i x old new whole first count all lt e h hc k =
    let rest = drop (i + 1) xs in
    (λ z. h z ++ spot_loops es (first + hc z) rest) ∙ append_assoc old (ends_loops es first x.ends) (spot_loops es (first + length (outs_of 0 x)) rest) ∙ ap (λ y. old ++ spot_loops es first y) (sym (drop-read xs i x lt e)) ∙ k

pub count_step : (xs : List Spot) (i : ℕ) (x : Spot) (first count all : ℕ) → i < length xs → x ≡ get_or xs i x → count ≡ length (outs_of 0 x) → first + length (spot_edges 0 (drop i xs)) ≡ all → first + count + length (spot_edges 0 (drop (i + 1) xs)) ≡ all
count_step xs i x first count all lt e hc k =
    let rest = drop (i + 1) xs in
    let here : length (spot_edges 0 (drop i xs)) ≡ length (outs_of 0 x) + length (spot_edges 1 rest) = ap (λ y. length (spot_edges 0 y)) (drop-read xs i x lt e) ∙ length-append (outs_of 0 x) (spot_edges 1 rest) in
    omega (arith, k, here, hc, edges_long 1 0 rest)

pub outs_step : (xs : List Spot) (i : ℕ) (x : Spot) (old new whole : List Outs) (first count : ℕ) → i < length xs → x ≡ get_or xs i x → new ≡ old ++ outs_from first x.ends ∷ [] → count ≡ length (outs_of 0 x) → old ++ all_outs first (drop i xs) ≡ whole → new ++ all_outs (first + count) (drop (i + 1) xs) ≡ whole
outs_step xs i x old new whole first count lt e h hc k =
    let rest = drop (i + 1) xs in
    (λ z. h z ++ all_outs (first + hc z) rest) ∙ append_assoc old (outs_from first x.ends ∷ []) (all_outs (first + length (outs_of 0 x)) rest) ∙ ap (λ y. old ++ all_outs first y) (sym (drop-read xs i x lt e)) ∙ k
