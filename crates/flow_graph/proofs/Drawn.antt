-- Edges, loops and caps of what is laid out are those of the graph.
use Rattle.std.proofs.Common.{◌≡◌, ℕ, ◌+◌, ◌-◌, ◌^◌, ◌<◌, ◌≤◌, min, Bool, true, false, if◌then◌else◌, List, [], ◌∷◌, ◌++◌, length, Option, Some, None, refl, sym, ap, ◌∙◌, subst, arith, append_assoc, append-nil, length-append}
use Rattle.std.specs.Prelude.{map, nat_lt}
use Rattle.c_tree.specs.declared.program.BlockName.{BlockName}
use Rattle.flow_laws.specs.declared.graph.Edge.{Edge}
use Rattle.flow_laws.specs.Sites.{Content, Entry, Exit, Simple, Test, Jump, Give, Enter, Missing, Land, Site}
use Rattle.flow_laws.specs.Graphs.{edges, edges_from, outs, loops, loops_at, loop_copies, loop_of, positions, first_out}
use Rattle.flow_laws.proofs.Loops.LoopConditions.{AllTested, IsTested}
use Rattle.flow_graph.proofs.Tame.{BlockWithin, BlocksWithin}
use Rattle.std.proofs.Math.Seq.{take-append_seam}
use Rattle.std.proofs.lemmas.List.{map-append}
use Rattle.std.proofs.lemmas.Bool.{lt-ltb, ltb-true, ltb-false, le-ltb}
use Rattle.graph_lists.specs.Amounts.{capped_amount}
use Rattle.flow_graph.specs.Spots.{spot_of, spots, ends_of, turn_of}
use Rattle.graph_lists.specs.Joints.{outs_of, spot_outs, spot_edges, turn_enters, spot_loops, ends_loops, block_above, spot_above}
use Rattle.graph_lists.proofs.Steps.{outs_long}
use Rattle.flow_graph.specs.Limits.{first_above}

-- ---- edges

pub outs_are : (n : ℕ) (c : Content) (s : Site) → s.content ≡ c → outs n s c ≡ spot_outs n (ends_of c) s.yes s.no
outs_are n Exit s e = refl
outs_are n (Test None x) s e = refl
outs_are n (Test (Some l) x) s e = refl
outs_are n Entry s e = refl
outs_are n (Simple ss) s e = refl
outs_are n Jump s e = refl
outs_are n (Give x) s e = refl
outs_are n (Enter t ls es) s e = refl
outs_are n Missing s e = refl
outs_are n (Land t ty b) s e = refl

edges_from_are : (n : ℕ) (g : List Site) → edges_from n g ≡ spot_edges n (spots g)
edges_from_are n [] = refl
edges_from_are n (s ∷ g) = λ i. outs_are n s.content s refl i ++ edges_from_are (n + 1) g i

pub edges_are : (g : List Site) → edges g ≡ spot_edges 0 (spots g)
unfolding edges
edges_are g = edges_from_are 0 g

-- ---- loops

edges_join : (n : ℕ) (a b : List Site) → edges_from n (a ++ b) ≡ edges_from n a ++ edges_from (n + length a) b
edges_join n [] b = let z : n ≡ n + 0 = omega arith in ap (λ y. edges_from y b) z
edges_join n (s ∷ a) b =
    let z : n + 1 + length a ≡ n + length (s ∷ a) = omega arith in
    ap (λ y. outs n s s.content ++ y) (edges_join (n + 1) a b) ∙ sym (append_assoc (outs n s s.content) (edges_from (n + 1) a) (edges_from (n + 1 + length a) b)) ∙ ap (λ y. (outs n s s.content ++ edges_from (n + 1) a) ++ edges_from y b) z

-- the loop of one node
one_loop : (g : List Site) (es : List Edge) (n first : ℕ) (c : Content) → es ≡ edges g → first ≡ first_out g n → IsTested n c → map (loop_of g) (loops_at c) ≡ ends_loops es first (ends_of c)
one_loop g es n first Exit he hf t = refl
one_loop g es n first (Test None x) he hf t = refl
one_loop g es n first (Test (Some l) x) he hf t =
    λ i. record { bound = l.bound; into = positions 0 (turn_enters (turn_of l)) (sym he i); turn = (ap (first_out g) t.test ∙ sym hf) i; at_end = l.at_end } ∷ []
one_loop g es n first Entry he hf t = refl
one_loop g es n first (Simple ss) he hf t = refl
one_loop g es n first Jump he hf t = refl
one_loop g es n first (Give x) he hf t = refl
one_loop g es n first (Enter a ls xs) he hf t = refl
one_loop g es n first Missing he hf t = refl
one_loop g es n first (Land a ty b) he hf t = refl

first_is : (a b : List Site) → length (edges a) ≡ first_out (a ++ b) (length a)
first_is a b = ap (λ y. length (edges y)) (sym (take-append_seam a b))

more_out : (a : List Site) (s : Site) → length (edges (a ++ s ∷ [])) ≡ length (edges a) + length (outs_of 0 (spot_of s))
unfolding edges
more_out a s =
    let one = outs_are (length a) s.content s refl in
    ap length (edges_join 0 a (s ∷ [])) ∙ length-append (edges_from 0 a) (edges_from (0 + length a) (s ∷ [])) ∙ ap (λ y. length (edges_from 0 a) + y) (ap length (append-nil (outs (0 + length a) s s.content)) ∙ ap length (outs_are (0 + length a) s.content s refl) ∙ outs_long (0 + length a) 0 (ends_of s.content) s.yes s.no)

loops_from : (a b : List Site) → AllTested (length a) b → map (loop_of (a ++ b)) (loop_copies b) ≡ spot_loops (edges (a ++ b)) (length (edges a)) (spots b)
loops_from a [] t = refl
loops_from a (s ∷ b) t =
    let g = a ++ (s ∷ b) in
    let whole : (a ++ s ∷ []) ++ b ≡ g = append_assoc a (s ∷ []) b in
    let long : length a + 1 ≡ length (a ++ s ∷ []) = omega (arith, length-append a (s ∷ [])) in
    let rest = loops_from (a ++ s ∷ []) b (subst (λ n. AllTested n b) long t.1) in
    let tail : map (loop_of g) (loop_copies b) ≡ spot_loops (edges g) (length (edges a) + length (outs_of 0 (spot_of s))) (spots b) = ap (λ y. map (loop_of y) (loop_copies b)) (sym whole) ∙ rest ∙ (λ i. spot_loops (edges (whole i)) (more_out a s i) (spots b)) in
    map-append (loop_of g) (loops_at s.content) (loop_copies b) ∙ (λ i. one_loop g (edges g) (length a) (length (edges a)) s.content refl (first_is a (s ∷ b)) t.0 i ++ tail i)

no_edges : length (edges []) ≡ 0
unfolding edges
no_edges = refl

pub loops_are : (g : List Site) → AllTested 0 g → loops g ≡ spot_loops (edges g) 0 (spots g)
loops_are g t = loops_from [] g t ∙ ap (λ n. spot_loops (edges g) n (spots g)) no_edges

-- ---- caps

below_kept : (m c limit : ℕ) (b : Bool) → limit < m → nat_lt limit c ≡ b → nat_lt limit (min c m) ≡ b
below_kept m c limit true h e = let l = ltb-true limit c e in lt-ltb limit (min c m) (omega (arith, l, h))
below_kept m c limit false h e = let l = ltb-false limit c e in le-ltb limit (min c m) (omega (arith, l, h))

node_above : (b : Option BlockName) (c : ℕ) (later : Option BlockName) → block_above (2 ^ 40) b (capped_amount c) later ≡ block_above (2 ^ 40) b c later
node_above None c later = refl
node_above (Some b) c later = ap (λ x. if x then Some b else later) (below_kept (2 ^ 64 - 1) c (2 ^ 40) (nat_lt (2 ^ 40) c) (omega arith) refl)

pub above_is : (g : List Site) → spot_above (2 ^ 40) (spots g) ≡ first_above (2 ^ 40) g
above_is [] = refl
above_is (s ∷ g) = ap (block_above (2 ^ 40) s.node.block (capped_amount s.node.cap)) (above_is g) ∙ node_above s.node.block s.node.cap (first_above (2 ^ 40) g)

block_within : (b : Option BlockName) (c : ℕ) (later : Option BlockName) → block_above (2 ^ 40) b c later ≡ None → BlockWithin (2 ^ 40) b c × (later ≡ None)
block_within None c later e = (tt, e)
block_within (Some b) c later e = by (nat_lt (2 ^ 40) c) refl
  where
    by : (x : Bool) → nat_lt (2 ^ 40) c ≡ x → (c ≤ 2 ^ 40) × (later ≡ None)
    by true h = absurd (let p : Some b ≡ None = sym (ap (λ x. if x then Some b else later) h) ∙ e in cc)
    by false h = (ltb-false (2 ^ 40) c h, sym (ap (λ x. if x then Some b else later) h) ∙ e)

pub blocks_within : (g : List Site) → first_above (2 ^ 40) g ≡ None → BlocksWithin (2 ^ 40) g
blocks_within [] e = tt
blocks_within (s ∷ g) e =
    let r = block_within s.node.block s.node.cap (first_above (2 ^ 40) g) e in
    (r.0, blocks_within g r.1)
