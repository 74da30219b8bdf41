-- The measures of a program are those of its graph.
use Rattle.std.proofs.Common.{◌≡◌, ℕ, zero, suc, ◌+◌, ◌-◌, ◌^◌, ◌<◌, ◌≤◌, min, Bool, true, false, if◌then◌else◌, List, [], ◌∷◌, length, get_or, Option, Some, None, option_map, refl, sym, ap, ◌∙◌, subst, arith, length-append}
use Rattle.std.specs.Prelude.{slice_get, slice_index_or, nat_lt}
use Rattle.std.proofs.lemmas.Bool.{lt-ltb, le-ltb, ltb-false}
use Rattle.c_tree.specs.declared.program.BlockName.{BlockName}
use Rattle.c_tree.specs.declared.program.Program.{Program}
use Rattle.c_tree.specs.declared.program.Func.{Func}
use Rattle.flow_laws.specs.Sites.{Content, Entry, Exit, Simple, Test, Jump, Give, Enter, Missing, Land, Copy, Site}
use Rattle.flow_laws.specs.Graphs.{copies, copy_of, edges, edges_from, graph, nodes, outs, sites_of}
use Rattle.flow_laws.proofs.Loops.LoopConditions.{copy_sizes}
use Rattle.graph_lists.specs.declared.sizes.Weights.{Weights}
use Rattle.flow_graph.specs.declared.fault.PlanFault.TheVariants.{Blocks, Edges, Cap}
use Rattle.graph_lists.specs.Amounts.{capped_amount, amounts}
use Rattle.flow_graph.specs.Limits.{block_copies, copies_of, first_above, size_fault}
use Rattle.flow_graph.specs.Layout.{HasRoom, copies_above}
use Rattle.flow_graph.specs.Spots.{spots, spot_of}
use Rattle.flow_graph.specs.Plans.{cost_of_spot, cost_of_source}
use Rattle.graph_lists.specs.declared.spot.Spot.{Spot}
use Rattle.flow_laws.specs.declared.graph.Edge.{Edge}
use Rattle.flow_laws.specs.Paths.{cost_of_edge, cost_of_site}
use Rattle.c_tree.specs.declared.program.Costs.{Costs}
use Rattle.flow_graph.proofs.Tame.{AllWithin, BlocksWithin, IsTame, copies_tame}
use Rattle.flow_graph.proofs.Drawn.{blocks_within, above_is}
use Rattle.graph_lists.specs.Joints.{spot_above}
use Rattle.std.proofs.lemmas.List.{length-map}
use Rattle.graph_lists.proofs.Sums.{amounts_length}
use Rattle.flow_graph.proofs.Totals.{Weighs, Counts, total, all_count}
use Rattle.flow_graph.proofs.Layouts.Unfolded.{got, copy_is}

abbrev pub copies_weights : Weights
copies_weights = record { test = 1; landing = 0 }

abbrev pub edges_weights : Weights
edges_weights = record { test = 2; landing = 1 }

abbrev block_of : Site → ℕ
block_of s = copies_of s.node.block

-- as many edges as leave a node, but 1 for Exit
abbrev ends_at : Content → ℕ
ends_at (Test l e) = 2
ends_at _ = 1

abbrev outs_at : Site → ℕ
outs_at s = length (outs 0 s s.content)

weighs_blocks : Weighs block_of copies_weights
weighs_blocks = record { simple = λ w ss b t. refl; jump = λ w b t. refl; give = λ w e b t. refl; enter = λ w t ls es b n. refl; missing = λ w b t. refl; nowhere = λ w t. refl; lands = λ w t ty b n. refl; test = λ w l e b t u. refl }

weighs_outs : Weighs outs_at edges_weights
weighs_outs = record { simple = λ w ss b t. refl; jump = λ w b t. refl; give = λ w e b t. refl; enter = λ w t ls es b n. refl; missing = λ w b t. refl; nowhere = λ w t. refl; lands = λ w t ty b n. refl; test = λ w l e b t u. refl }

weighs_ends : Weighs (λ s. ends_at s.content) edges_weights
weighs_ends = record { simple = λ w ss b t. refl; jump = λ w b t. refl; give = λ w e b t. refl; enter = λ w t ls es b n. refl; missing = λ w b t. refl; nowhere = λ w t. refl; lands = λ w t ty b n. refl; test = λ w l e b t u. refl }

blocks_total : (g : List Site) → block_copies g ≡ total block_of g
blocks_total [] = refl
blocks_total (s ∷ g) = ap (λ n. copies_of s.node.block + n) (blocks_total g)

outs_same : (n : ℕ) (s : Site) (c : Content) → length (outs n s c) ≡ length (outs 0 s c)
outs_same n s Exit = refl
outs_same n s (Test l e) = refl
outs_same n s Entry = refl
outs_same n s (Simple ss) = refl
outs_same n s Jump = refl
outs_same n s (Give e) = refl
outs_same n s (Enter t ls es) = refl
outs_same n s Missing = refl
outs_same n s (Land t ty b) = refl

edges_total : (n : ℕ) (g : List Site) → length (edges_from n g) ≡ total outs_at g
edges_total n [] = refl
edges_total n (s ∷ g) =
    length-append (outs n s s.content) (edges_from (n + 1) g) ∙ (λ i. outs_same n s s.content i + edges_total (n + 1) g i)

one_end : (c : Content) → 1 ≤ ends_at c
one_end Exit = omega arith
one_end (Test l e) = omega arith
one_end Entry = omega arith
one_end (Simple ss) = omega arith
one_end Jump = omega arith
one_end (Give e) = omega arith
one_end (Enter t ls es) = omega arith
one_end Missing = omega arith
one_end (Land t ty b) = omega arith

long_total : (g : List Site) → length g ≤ total (λ s. ends_at s.content) g
long_total [] = omega arith
long_total (s ∷ g) = omega (arith, one_end s.content, long_total g)

-- ---- the entry function

-- what a measure says of the copy of the entry function
counted_at : (f : Site → ℕ) (o : Option Copy) (c : Copy) (d : Option ℕ) (x : ℕ) → Counts f o d → o ≡ Some c → d ≡ Some x → capped_amount (total f (c.sites [] 1 2 1)) ≡ x
counted_at f o c d x h e k =
    let r : Counts f (Some c) (Some x) = subst (λ y. Counts f (Some c) y) k (subst (λ y. Counts f y d) e h) in
    r [] 1 2 1

graph_is : (p : Program) (c : Copy) → slice_get (copies [] p.funcs) p.entry ≡ Some c → graph p ≡ sites_of (Some c)
unfolding graph
graph_is p c e = ap sites_of e

front_edges : (c : Copy) → length (edges (sites_of (Some c))) ≡ 1 + total outs_at (c.sites [] 1 2 1)
unfolding edges
front_edges c = let e = edges_total 2 (c.sites [] 1 2 1) in ap suc e ∙ add_one (total outs_at (c.sites [] 1 2 1))
  where
    add_one : (n : ℕ) → suc n ≡ 1 + n
    add_one n = omega arith

-- the entry function's copy
pub record Entered (p : Program) : Type 0 where
  pub copy : Copy
  pub is : slice_get (copies [] p.funcs) p.entry ≡ Some copy

pub entered : (p : Program) → p.entry < length p.funcs → Entered p
entered p within =
    let f = got p.funcs p.entry within in
    record { copy = copy_of p.entry f.value (copies_above p.funcs p.entry); is = copy_is p.funcs p.entry f.value f.is }

front_blocks : (c : Copy) → block_copies (sites_of (Some c)) ≡ block_copies (c.sites [] 1 2 1)
front_blocks c = zero_zero (block_copies (c.sites [] 1 2 1))
  where
    zero_zero : (n : ℕ) → 0 + (0 + n) ≡ n
    zero_zero n = omega arith

pub copies_kept : (p : Program) (n : ℕ) → Entered p → slice_get (amounts copies_weights [] p.funcs) p.entry ≡ Some n → n ≡ capped_amount (block_copies (graph p))
copies_kept p n h e =
    let c = h.copy in
    let k = counted_at block_of (slice_get (copies [] p.funcs) p.entry) c (slice_get (amounts copies_weights [] p.funcs) p.entry) n (all_count block_of copies_weights weighs_blocks p.funcs p.entry) h.is e in
    sym k ∙ ap capped_amount (sym (blocks_total (c.sites [] 1 2 1)) ∙ sym (front_blocks c)) ∙ ap (λ g. capped_amount (block_copies g)) (sym (graph_is p c h.is))

less_one : (m t n l : ℕ) → min t m ≡ n → l ≡ 1 + t → n ≡ min (l - 1) m
less_one m t n l h e = omega (arith, h, e)

pub edges_kept : (p : Program) (n : ℕ) → Entered p → slice_get (amounts edges_weights [] p.funcs) p.entry ≡ Some n → n ≡ capped_amount (length (edges (graph p)) - 1)
edges_kept p n h e =
    let c = h.copy in
    let k = counted_at outs_at (slice_get (copies [] p.funcs) p.entry) c (slice_get (amounts edges_weights [] p.funcs) p.entry) n (all_count outs_at edges_weights weighs_outs p.funcs p.entry) h.is e in
    less_one (2 ^ 64 - 1) (total outs_at (c.sites [] 1 2 1)) n (length (edges (graph p))) k (ap (λ g. length (edges g)) (graph_is p c h.is) ∙ front_edges c)

-- ---- room for numbers

some_amount : (f : Site → ℕ) (o : Option Copy) (c : Copy) (d : Option ℕ) → Counts f o d → o ≡ Some c → d ≡ Some (capped_amount (total f (c.sites [] 1 2 1)))
some_amount f None c d h e = absurd (cc)
some_amount f (Some x) c None h e = absurd h
some_amount f (Some x) c (Some y) h e =
    let p : x ≡ c = cc in
    sym (ap Some (subst (λ z. capped_amount (total f (z.sites [] 1 2 1)) ≡ y) p (h [] 1 2 1)))

fits : (m n t u l : ℕ) → min t m ≡ min u m → l ≡ 1 + u → l ≤ 2048 → n ≤ t → 2048 ≤ m → 2 + n < 2 ^ 32
fits m n t u l e h few le big = omega (arith, e, h, few, le, big)

pub entry_room : (p : Program) → Entered p → length (edges (graph p)) ≤ 2048 → HasRoom (slice_get (copies [] p.funcs) p.entry) 2
entry_room p h few =
    let c = h.copy in
    let o = slice_get (copies [] p.funcs) p.entry in
    let d = slice_get (amounts edges_weights [] p.funcs) p.entry in
    let body = c.sites [] 1 2 1 in
    let a = some_amount outs_at o c d (all_count outs_at edges_weights weighs_outs p.funcs p.entry) h.is in
    let b = some_amount (λ s. ends_at s.content) o c d (all_count (λ s. ends_at s.content) edges_weights weighs_ends p.funcs p.entry) h.is in
    let same : capped_amount (total (λ s. ends_at s.content) body) ≡ capped_amount (total outs_at body) = (let e : Some (capped_amount (total (λ s. ends_at s.content) body)) ≡ Some (capped_amount (total outs_at body)) = sym b ∙ a in cc) in
    let size = copy_sizes p.funcs p.entry c h.is [] 1 2 1 in
    let l = ap (λ g. length (edges g)) (graph_is p c h.is) ∙ front_edges c in
    let le : c.size ≤ total (λ s. ends_at s.content) body = omega (arith, long_total body, size) in
    subst (λ x. HasRoom x 2) (sym h.is) (fits (2 ^ 64 - 1) c.size (total (λ s. ends_at s.content) body) (total outs_at body) (length (edges (graph p))) same l few le (omega arith))

-- ---- refusals

more : (m a k n : ℕ) → n ≡ min a m → k < n → k < a
more m a k n e h = omega (arith, e, h)

fewer : (m a k n : ℕ) → n ≡ min a m → n ≤ k → k < m → (n ≡ a) × (a ≤ k)
fewer m a k n e h l = (omega (arith, e, h, l), omega (arith, e, h, l))

pub too_many : (g : List Site) (n : ℕ) → n ≡ capped_amount (block_copies g) → 1024 < n → size_fault g ≡ Some Blocks
unfolding size_fault
too_many g n e h =
    ap (λ b. if b then Some Blocks else (if nat_lt 2048 (length (edges g)) then Some Edges else option_map (λ b. Cap b) (first_above (2 ^ 40) g))) (lt-ltb 1024 (block_copies g) (more (2 ^ 64 - 1) (block_copies g) 1024 n e h))

pub few_copies : (g : List Site) (n : ℕ) → n ≡ capped_amount (block_copies g) → n ≤ 1024 → (n ≡ block_copies g) × (block_copies g ≤ 1024)
few_copies g n e h = fewer (2 ^ 64 - 1) (block_copies g) 1024 n e h (omega arith)

judged_at : (g : List Site) → block_copies g ≤ 1024 → size_fault g ≡ (if nat_lt 2048 (length (edges g)) then Some Edges else option_map (λ b. Cap b) (first_above (2 ^ 40) g))
unfolding size_fault
judged_at g h =
    ap (λ b. if b then Some Blocks else (if nat_lt 2048 (length (edges g)) then Some Edges else option_map (λ b. Cap b) (first_above (2 ^ 40) g))) (le-ltb 1024 (block_copies g) h)

less : (m l n : ℕ) → n ≡ min (l - 1) m → 2047 < n → 2048 < l
less m l n e h = omega (arith, e, h)

pub too_many_edges : (g : List Site) (n : ℕ) → block_copies g ≤ 1024 → n ≡ capped_amount (length (edges g) - 1) → 2047 < n → size_fault g ≡ Some Edges
too_many_edges g n c e h =
    judged_at g c ∙ ap (λ b. if b then Some Edges else option_map (λ b. Cap b) (first_above (2 ^ 40) g)) (lt-ltb 2048 (length (edges g)) (less (2 ^ 64 - 1) (length (edges g)) n e h))

not_less : (m l n : ℕ) → n ≡ min (l - 1) m → n ≤ 2047 → 2047 < m → l ≤ 2048
not_less m l n e h k = omega (arith, e, h, k)

pub few_edges : (g : List Site) (n : ℕ) → n ≡ capped_amount (length (edges g) - 1) → n ≤ 2047 → length (edges g) ≤ 2048
few_edges g n e h = not_less (2 ^ 64 - 1) (length (edges g)) n e h (omega arith)

pub by_caps : (g : List Site) → block_copies g ≤ 1024 → length (edges g) ≤ 2048 → size_fault g ≡ option_map (λ b. Cap b) (first_above (2 ^ 40) g)
by_caps g c h =
    judged_at g c ∙ ap (λ b. if b then Some Edges else option_map (λ b. Cap b) (first_above (2 ^ 40) g)) (le-ltb 2048 (length (edges g)) h)

-- ---- what no refusal means

cap_or_none : (o : Option BlockName) → option_map (λ b. Cap b) o ≡ None → o ≡ None
cap_or_none None e = refl
cap_or_none (Some b) e = absurd (cc)

pub record Limits (g : List Site) : Type 0 where
  pub copies : block_copies g ≤ 1024
  pub edges : length (Rattle.flow_laws.specs.Graphs.edges g) ≤ 2048
  pub caps : first_above (2 ^ 40) g ≡ None

limits_of : (g : List Site) (x y : Bool) → nat_lt 1024 (block_copies g) ≡ x → nat_lt 2048 (length (edges g)) ≡ y → (if x then Some Blocks else (if y then Some Edges else option_map (λ b. Cap b) (first_above (2 ^ 40) g))) ≡ None → Limits g
limits_of g true y hx hy e = absurd (cc)
limits_of g false true hx hy e = absurd (cc)
limits_of g false false hx hy e =
    record { copies = ltb-false 1024 (block_copies g) hx; edges = ltb-false 2048 (length (edges g)) hy; caps = cap_or_none (first_above (2 ^ 40) g) e }

pub limits : (g : List Site) → size_fault g ≡ None → Limits g
unfolding size_fault
limits g e = limits_of g (nat_lt 1024 (block_copies g)) (nat_lt 2048 (length (edges g))) refl refl e

pub spots_are : (p : Program) (fs : List Func) → fs ≡ p.funcs → spots (sites_of (slice_get (copies [] fs) p.entry)) ≡ spots (graph p)
unfolding graph
spots_are p fs e = ap (λ x. spots (sites_of (slice_get (copies [] x) p.entry))) e

pub amount_at : (v : Weights) (fs : List Func) (sums : List ℕ) (n : ℕ) → sums ≡ amounts v [] fs → n < length fs → n < length sums
amount_at v fs sums n e h = let l = ap length e ∙ amounts_length v [] fs in omega (arith, l, h)

read_is : (xs : List ℕ) (n : ℕ) → n < length xs → slice_get xs n ≡ Some (slice_index_or xs n 0)
read_is [] n h = absurd (omega (arith, h))
read_is (x ∷ xs) zero h = refl
read_is (x ∷ xs) (suc n) h = read_is xs n (omega (arith, h))

pub read_at : (xs sums all : List ℕ) (n : ℕ) → xs ≡ sums → sums ≡ all → n < length xs → slice_get all n ≡ Some (slice_index_or xs n 0)
read_at xs sums all n e h lt = ap (λ x. slice_get x n) (sym (e ∙ h)) ∙ read_is xs n lt

-- ---- the graph within its limits

pub short : (p : Program) → Entered p → length (edges (graph p)) ≤ 2048 → length (spots (graph p)) < 2 ^ 32
short p h few =
    let c = h.copy in
    let r : HasRoom (Some c) 2 = subst (λ o. HasRoom o 2) h.is (entry_room p h few) in
    let size = copy_sizes p.funcs p.entry c h.is [] 1 2 1 in
    let l = ap length (graph_is p c h.is) in
    let m = length-map (graph p) spot_of in
    omega (arith, r, size, l, m)

tame_front : (c : Copy) → IsTame (2 ^ 40) (c.sites [] 1 2 1) → BlocksWithin (2 ^ 40) (sites_of (Some c)) → AllWithin (2 ^ 40) (sites_of (Some c))
tame_front c t h = (omega arith, (omega arith, t h.1.1))

pub all_within : (p : Program) → Entered p → first_above (2 ^ 40) (graph p) ≡ None → AllWithin (2 ^ 40) (graph p)
all_within p h e =
    let c = h.copy in
    let is = graph_is p c h.is in
    subst (λ g. AllWithin (2 ^ 40) g) (sym is) (tame_front c (copies_tame (2 ^ 40) p.funcs p.entry c h.is [] 1 2 1) (subst (λ g. BlocksWithin (2 ^ 40) g) is (blocks_within (graph p) e)))

small : (n : ℕ) → n ≤ 2 ^ 40 → min n (2 ^ 64 - 1) ≡ n
small n h = omega (arith, h)

pub node_at : (g : List Site) (n : ℕ) (x : Spot) → AllWithin (2 ^ 40) g → n < length g → x ≡ get_or (spots g) n x → slice_get (nodes g) n ≡ Some x.node
node_at [] n x h lt e = absurd (omega (arith, lt))
node_at (s ∷ g) zero x h lt e = ap Some ((λ i. record { block = s.node.block; chain = s.node.chain; cap = sym (small s.node.cap h.0) i }) ∙ ap (λ y. y.node) (sym e))
node_at (s ∷ g) (suc n) x h lt e = node_at g n x h.1 (omega (arith, lt)) e

pub cap_at_most : (g : List Site) (n : ℕ) (x : Spot) → AllWithin (2 ^ 40) g → n < length g → x ≡ get_or (spots g) n x → x.node.cap ≤ 2 ^ 40
cap_at_most [] n x h lt e = absurd (omega (arith, lt))
cap_at_most (s ∷ g) zero x h lt e = omega (arith, ap (λ (y : Spot). y.node.cap) e, small s.node.cap h.0, h.0)
cap_at_most (s ∷ g) (suc n) x h lt e = cap_at_most g n x h.1 (omega (arith, lt)) e

pub cost_at : (t : Costs) (g : List Site) (n : ℕ) → cost_of_spot t (slice_get (spots g) n) ≡ cost_of_site t (slice_get g n)
cost_at t [] n = refl
cost_at t (s ∷ g) zero = refl
cost_at t (s ∷ g) (suc n) = cost_at t g n

pub source_cost : (t : Costs) (g : List Site) (o : Option Edge) → cost_of_source t (spots g) o ≡ cost_of_edge t g o
source_cost t g None = refl
source_cost t g (Some e) = cost_at t g e.from

pub cap_is : (p : Program) (laid : List Spot) (o : Option BlockName) → laid ≡ spots (graph p) → block_copies (graph p) ≤ 1024 → length (edges (graph p)) ≤ 2048 → o ≡ spot_above (2 ^ 40) laid → size_fault (graph p) ≡ option_map (λ b. Cap b) o
cap_is p laid o h few fewer e =
    by_caps (graph p) few fewer ∙ ap (option_map (λ b. Cap b)) (sym (above_is (graph p)) ∙ ap (spot_above (2 ^ 40)) (sym h) ∙ sym e)
