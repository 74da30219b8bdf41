-- One step along a list of statements that is laid out.
use Rattle.std.proofs.Common.{◌≡◌, ℕ, ◌+◌, ◌-◌, ◌≤◌, Bool, true, false, if◌then◌else◌, List, [], ◌∷◌, ◌++◌, refl, sym, ap, ◌∙◌, subst, arith, append_assoc}
use Rattle.std.proofs.lemmas.List.{map-append}
use Rattle.c_tree.specs.declared.tree.Stmt.{Stmt}
use Rattle.c_tree.specs.Meaning.Blocks.{is_simple, begun_blocks, blocks, list_blocks}
use Rattle.c_tree.specs.Meaning.Statements.{block}
use Rattle.flow_laws.specs.Sites.{Copy, Position, Targets, flow, flush, head, list_flow, list_size, number_past, site_count, with_next}
use Rattle.flow_laws.proofs.Graphs.PartSizes.{is_run, simple_size, simple_blocks, plain_size, plain_blocks}
use Rattle.graph_lists.specs.declared.spot.Spot.{Spot}
use Rattle.flow_graph.specs.declared.layout.Item.{Item}
use Rattle.flow_graph.specs.Spots.{spot_of, spots}
use Rattle.flow_graph.proofs.BlockSizes.{blocks_le}
use Rattle.flow_graph.specs.Layout.{laid_out, list_spots, past_run, pending_spots}

-- ---- a list by what was passed of it

flush_is : (w : Position) (ss : List Stmt) (b t : ℕ) → spots (flush w ss (block w.func b) t) ≡ pending_spots w (is_run ss) b t
flush_is w [] b t = refl
flush_is w (s ∷ ss) b t = refl

past_is : (ss : List Stmt) (b : ℕ) → number_past ss b ≡ past_run (is_run ss) b
past_is [] b = refl
past_is (s ∷ ss) b = refl

pub more_run : (ss : List Stmt) (s : Stmt) → is_run (ss ++ s ∷ []) ≡ true
more_run [] s = refl
more_run (x ∷ ss) s = refl

more_past : (ss : List Stmt) (s : Stmt) (n m : ℕ) → m ≡ begun_blocks (is_run ss) → number_past (ss ++ s ∷ []) n ≡ number_past ss n + m
more_past [] s n m e = omega (arith, e)
more_past (x ∷ ss) s n m e = omega (arith, e)

module _ (cs : List Copy) (w : Position) where
  choose : (s : Stmt) (rest : List Stmt) (b n : ℕ) (ss : List Stmt) (k : Targets) → spots (list_flow cs w rest b n (ss ++ s ∷ []) k) ≡ list_spots cs w rest b (number_past (ss ++ s ∷ []) n) (is_run (ss ++ s ∷ [])) k
      → spots (list_flow cs w rest (number_past ss b + blocks s false) (number_past ss n + site_count cs s false) [] k) ≡ list_spots cs w rest (number_past ss b + blocks s false) (number_past ss n + site_count cs s false) false k
      → (c : Bool) → is_simple s ≡ c
      → spots (if c then list_flow cs w rest b n (ss ++ s ∷ []) k else flush w ss (block w.func b) (head (site_count cs s false) (number_past ss n) (head (list_size cs rest false) (number_past ss n + site_count cs s false) k.next)) ++ (flow cs w s (number_past ss b) (number_past ss n) (with_next k (head (list_size cs rest false) (number_past ss n + site_count cs s false) k.next)) ++ list_flow cs w rest (number_past ss b + blocks s false) (number_past ss n + site_count cs s false) [] k))
      ≡ (let m = site_count cs s (is_run ss) in let after = head (list_size cs rest c) (number_past ss n + m) k.next in if c then list_spots cs w rest b (number_past ss n + m) true k else pending_spots w (is_run ss) b (head m (number_past ss n) after) ++ (spots (flow cs w s (past_run (is_run ss) b) (number_past ss n) (with_next k after)) ++ list_spots cs w rest (past_run (is_run ss) b + blocks s false) (number_past ss n + m) false k))
  choose s rest b n ss k one two true h =
      one ∙ (λ i. list_spots cs w rest b (more_past ss s n (site_count cs s (is_run ss)) (simple_size cs s (is_run ss) h) i) (more_run ss s i) k)
  choose s rest b n ss k one two false h =
      let n1 = number_past ss n in
      let after = λ (m : ℕ). head (list_size cs rest false) (n1 + m) k.next in
      let m0 = site_count cs s false in
      let p = flush w ss (block w.func b) (head m0 n1 (after m0)) in
      let q = flow cs w s (number_past ss b) n1 (with_next k (after m0)) in
      let r = list_flow cs w rest (number_past ss b + blocks s false) (n1 + m0) [] k in
      let same = sym (plain_size cs s (is_run ss) h) in
      map-append spot_of p (q ++ r) ∙ (λ i. flush_is w ss b (head m0 n1 (after m0)) i ++ map-append spot_of q r i) ∙ (λ i. pending_spots w (is_run ss) b (head m0 n1 (after m0)) ++ (spots q ++ two i)) ∙ (λ i. pending_spots w (is_run ss) b (head (same i) n1 (after (same i))) ++ (spots (flow cs w s (past_is ss b i) n1 (with_next k (after (same i)))) ++ list_spots cs w rest (past_is ss b i + blocks s false) (n1 + same i) false k))

  pub list_spots_is : (xs : List Stmt) (b n : ℕ) (ss : List Stmt) (k : Targets) → spots (list_flow cs w xs b n ss k) ≡ list_spots cs w xs b (number_past ss n) (is_run ss) k
  list_spots_is [] b n ss k = flush_is w ss b k.next
  list_spots_is (s ∷ rest) b n ss k =
      choose s rest b n ss k (list_spots_is rest b n (ss ++ s ∷ []) k) (list_spots_is rest (number_past ss b + blocks s false) (number_past ss n + site_count cs s false) [] k) (is_simple s) refl

-- ---- what the loop keeps

pub record Stands (all cs : List Copy) (w : Position) (k : Targets) (xs : List Stmt) (run : Bool) (b n left : ℕ) (out : List Item) (total : List Spot) (n_end b_end : ℕ) : Type 0 where
  pub left_is : left ≡ list_size cs xs run
  pub nodes : n + left ≡ n_end
  pub numbers : past_run run b + list_blocks xs run ≡ b_end
  pub fewer : past_run run b ≤ n
  pub laid : laid_out all out ++ list_spots cs w xs b n run k ≡ total

begun_past : (run : Bool) (b m : ℕ) → m ≡ begun_blocks run → b + 1 ≡ past_run run b + m
begun_past true b m e = omega (arith, e)
begun_past false b m e = omega (arith, e)

module _ (all cs : List Copy) (w : Position) (k : Targets) (xs rest : List Stmt) (x : Stmt) (run : Bool) (b n left count : ℕ) (out : List Item) (total : List Spot) (n_end b_end : ℕ) (is : xs ≡ x ∷ rest) (counted : count ≡ site_count cs x run) (before : Stands all cs w k xs run b n left out total n_end b_end) where
  left_parts : left ≡ site_count cs x run + list_size cs rest (is_simple x)
  left_parts = before.left_is ∙ ap (λ ys. list_size cs ys run) is

  block_parts : past_run run b + (blocks x run + list_blocks rest (is_simple x)) ≡ b_end
  block_parts = ap (λ ys. past_run run b + list_blocks ys run) (sym is) ∙ before.numbers

  pub enough : count ≤ left
  enough = omega (arith, left_parts, counted)

  pub simple_step : is_simple x ≡ true → Stands all cs w k rest true b (n + count) (left - count) out total n_end b_end
  simple_step h =
      let lr : list_size cs rest (is_simple x) ≡ list_size cs rest true = ap (list_size cs rest) h in
      let br : list_blocks rest (is_simple x) ≡ list_blocks rest true = ap (list_blocks rest) h in
      let one = simple_blocks x run h in
      let many = simple_size cs x run h in
      let m = begun_past run b (blocks x run) one in
      let after = λ (c : Bool). head (list_size cs rest c) (n + site_count cs x run) k.next in
      let here : list_spots cs w xs b n run k ≡ list_spots cs w rest b (n + site_count cs x run) true k = ap (λ ys. list_spots cs w ys b n run k) is ∙ ap (λ c. if c then list_spots cs w rest b (n + site_count cs x run) true k else pending_spots w run b (head (site_count cs x run) n (after c)) ++ (spots (flow cs w x (past_run run b) n (with_next k (after c))) ++ list_spots cs w rest (past_run run b + blocks x false) (n + site_count cs x run) false k)) h in
      record {
        left_is = omega (arith, left_parts, lr, counted);
        nodes = omega (arith, left_parts, counted, before.nodes);
        numbers = omega (arith, block_parts, br, m);
        fewer = omega (arith, before.fewer, m, counted, one, many);
        laid = ap (λ c. laid_out all out ++ list_spots cs w rest b (n + c) true k) counted ∙ ap (λ y. laid_out all out ++ y) (sym here) ∙ before.laid;
      }

  pub plain_step : (after b1 b2 : ℕ) (mid new : List Item) → is_simple x ≡ false → after ≡ head (left - count) (n + count) k.next → b1 ≡ past_run run b → laid_out all mid ≡ laid_out all out ++ pending_spots w run b (head count n after) → b2 ≡ b1 + blocks x false → laid_out all new ≡ laid_out all mid ++ spots (flow cs w x b1 n (with_next k after)) → Stands all cs w k rest false b2 (n + count) (left - count) new total n_end b_end
  plain_step next b1 b2 mid new h is_next one put two made =
      let lr : list_size cs rest (is_simple x) ≡ list_size cs rest false = ap (list_size cs rest) h in
      let br : list_blocks rest (is_simple x) ≡ list_blocks rest false = ap (list_blocks rest) h in
      let plain = plain_blocks x run h in
      let few : blocks x false ≤ site_count cs x run = omega (arith, blocks_le cs x run, plain) in
      let left_is : left - count ≡ list_size cs rest false = omega (arith, left_parts, lr, counted) in
      let next_is : next ≡ head (list_size cs rest false) (n + count) k.next = is_next ∙ ap (λ y. head y (n + count) k.next) left_is in
      let tail = list_spots cs w rest b2 (n + count) false k in
      let after = λ (c : Bool) (m : ℕ). head (list_size cs rest c) (n + m) k.next in
      let by = λ (c : Bool) (m : ℕ). if c then list_spots cs w rest b (n + m) true k else pending_spots w run b (head m n (after c m)) ++ (spots (flow cs w x (past_run run b) n (with_next k (after c m))) ++ list_spots cs w rest (past_run run b + blocks x false) (n + m) false k) in
      let here : list_spots cs w xs b n run k ≡ pending_spots w run b (head count n next) ++ (spots (flow cs w x b1 n (with_next k next)) ++ tail) = ap (λ ys. list_spots cs w ys b n run k) is ∙ ap (λ c. by c (site_count cs x run)) h ∙ ap (by false) (sym counted) ∙ (λ i. pending_spots w run b (head count n (sym next_is i)) ++ (spots (flow cs w x (sym one i) n (with_next k (sym next_is i))) ++ list_spots cs w rest (sym one i + blocks x false) (n + count) false k)) ∙ ap (λ y. pending_spots w run b (head count n next) ++ (spots (flow cs w x b1 n (with_next k next)) ++ list_spots cs w rest y (n + count) false k)) (sym two) in
      let joined : laid_out all new ++ tail ≡ laid_out all out ++ (pending_spots w run b (head count n next) ++ (spots (flow cs w x b1 n (with_next k next)) ++ tail)) = ap (λ y. y ++ tail) (made ∙ ap (λ y. y ++ spots (flow cs w x b1 n (with_next k next))) put) ∙ append_assoc (laid_out all out ++ pending_spots w run b (head count n next)) (spots (flow cs w x b1 n (with_next k next))) tail ∙ append_assoc (laid_out all out) (pending_spots w run b (head count n next)) (spots (flow cs w x b1 n (with_next k next)) ++ tail) in
      record {
        left_is = left_is;
        nodes = omega (arith, left_parts, counted, before.nodes);
        numbers = omega (arith, block_parts, br, plain, one, two);
        fewer = omega (arith, before.fewer, one, two, counted, few);
        laid = joined ∙ ap (λ y. laid_out all out ++ y) (sym here) ∙ before.laid;
      }

pub reread : (all cs : List Copy) (w : Position) (k : Targets) (xs : List Stmt) (run run' : Bool) (b b' n left : ℕ) (out out' : List Item) (total : List Spot) (n_end b_end : ℕ) → run ≡ run' → b ≡ b' → out ≡ out' → Stands all cs w k xs run b n left out total n_end b_end → Stands all cs w k xs run' b' n left out' total n_end b_end
reread all cs w k xs run run' b b' n left out out' total n_end b_end e1 e2 e3 h =
    subst (λ o. Stands all cs w k xs run' b' n left o total n_end b_end) e3 (subst (λ y. Stands all cs w k xs run' y n left out total n_end b_end) e2 (subst (λ r. Stands all cs w k xs r b n left out total n_end b_end) e1 h))
