-- Choices and loops, as they are laid out.
use Rattle.std.proofs.Common.{◌≡◌, ℕ, ◌+◌, ◌-◌, ◌*◌, ◌^◌, min, true, false, List, [], ◌∷◌, ◌++◌, take, Option, Some, refl, sym, ap, ◌∙◌, arith, append_assoc, None}
use Rattle.std.proofs.lemmas.List.{map-append}
use Rattle.c_tree.specs.declared.tree.Expr.{Expr}
use Rattle.c_tree.specs.declared.tree.Stmt.{Stmt}
use Rattle.c_tree.specs.declared.tree.Stmt.TheVariants.{If, While, Do, For}
use Rattle.c_tree.specs.declared.program.BlockName.{BlockName}
use Rattle.c_tree.specs.declared.program.Func.{Func}
use Rattle.c_tree.specs.Meaning.Blocks.{list_blocks}
use Rattle.c_tree.specs.Meaning.Statements.{block, held_stmts}
use Rattle.flow_laws.specs.Sites.{Copy, LoopCopy, Targets, asks, body_of, flow, head, list_flow, list_size, loop_at, times_as_often, with_next}
use Rattle.flow_laws.proofs.Graphs.FlowLayers.{flow-If, flow-While, flow-Do, flow-For}
use Rattle.graph_lists.specs.declared.spot.Turn.{Turn}
use Rattle.graph_lists.specs.declared.spot.Spot.{Spot}
use Rattle.graph_lists.specs.declared.spot.Ends.TheVariants as ends
use Rattle.graph_lists.specs.Amounts.{capped_amount}
use Rattle.flow_graph.specs.Spots.{spot_of, spots, test_ends}
use Rattle.flow_graph.specs.Layout.{copies_above, position_at, turn_between, spot_at, list_spots}
use Rattle.flow_graph.proofs.Alike.{list_alike, copies_alike}
use Rattle.flow_graph.proofs.Layouts.Along.{list_spots_is}
use Rattle.plain_laws.proofs.Numbers.{min_twice}

kept_is : (s' a : ℕ) → s' ≡ capped_amount a → capped_amount s' ≡ capped_amount a
kept_is s' a h = ap capped_amount h ∙ min_twice (2 ^ 64 - 1) a

four : (L A : List Spot) (t : Spot) (B C : List Spot) → (((L ++ A) ++ t ∷ []) ++ B) ++ C ≡ L ++ (A ++ (t ∷ (B ++ C)))
four L A t B C =
    append_assoc ((L ++ A) ++ t ∷ []) B C ∙ append_assoc (L ++ A) (t ∷ []) (B ++ C) ∙ append_assoc L A (t ∷ (B ++ C))

module _ (funcs : List Func) (f : ℕ) (chain : List BlockName) where
  abbrev cs : List Copy
  cs = copies_above funcs f

  plain_is : (s s' b b' n n' : ℕ) (xs xs' : List Stmt) (k k' : Targets) → s' ≡ s → b' ≡ b → n' ≡ n → xs' ≡ xs → k' ≡ k → list_spots cs (position_at f chain s') xs' b' n' false k' ≡ spots (list_flow cs (position_at f chain s) xs b n [] k)
  plain_is s s' b b' n n' xs xs' k k' hs hb hn hx hk =
      (λ i. list_spots cs (position_at f chain (hs i)) (hx i) (hb i) (hn i) false (hk i)) ∙ sym (list_spots_is cs (position_at f chain s) xs b n [] k)

  often_is : (s l s' b b' n n' : ℕ) (xs xs' : List Stmt) (k k' : Targets) → s' ≡ capped_amount (s * l) → b' ≡ b → n' ≡ n → xs' ≡ xs → k' ≡ k → list_spots cs (position_at f chain s') xs' b' n' false k' ≡ spots (list_flow cs (times_as_often (position_at f chain s) l) xs b n [] k)
  often_is s l s' b b' n n' xs xs' k k' hs hb hn hx hk =
      plain_is s' s' b b' n n' xs xs' k k' refl hb hn hx hk ∙ list_alike cs (copies_alike (take f funcs)) (position_at f chain s') (s * l) xs b n k (kept_is s' (s * l) hs)

  test_is : (s l s' b b' : ℕ) (o : Option LoopCopy) (tn : Turn) (e : Expr) (t t' u : ℕ) → s' ≡ capped_amount (s * l) → b' ≡ b → ends.Loop tn ≡ test_ends o → t' ≡ t → spot_at (position_at f chain s') b' (ends.Loop tn) t' u ≡ spot_of (asks (times_as_often (position_at f chain s) l) o e (block f b) t u)
  test_is s l s' b b' o tn e t t' u hs hb ho ht =
      λ i. record { node = record { block = Some (block f (hb i)); chain = chain; cap = kept_is s' (s * l) hs i }; call = None; ends = ho i; yes = ht i; no = u }

  pub while_laid : (s b n l : ℕ) (e : Expr) (xs : List Stmt) (k : Targets) (L0 L1 L2 : List Spot) (s1 b1 m yt s2 b2 n2 : ℕ) (tn : Turn) (xs' : List Stmt) (k2 : Targets)
      → L1 ≡ L0 ++ spot_at (position_at f chain s1) b1 (ends.Loop tn) yt k.next ∷ [] → L2 ≡ L1 ++ list_spots cs (position_at f chain s2) xs' b2 n2 false k2
      → s1 ≡ capped_amount (s * (l + 1)) → b1 ≡ b → m ≡ list_size cs xs false → tn ≡ turn_between n (n + 1 + m) l false → yt ≡ head m (n + 1) n
      → s2 ≡ capped_amount (s * l) → b2 ≡ b + 1 → n2 ≡ n + 1 → xs' ≡ xs → k2 ≡ body_of k n
      → L2 ≡ L0 ++ spots (flow cs (position_at f chain s) (While l e xs) b n k)
  while_laid s b n l e xs k L0 L1 L2 s1 b1 m yt s2 b2 n2 tn xs' k2 h1 h2 hs1 hb1 hm ht hy hs2 hb2 hn2 hx hk =
      let w = position_at f chain s in
      let o = Some (loop_at n (n + 1 + list_size cs xs false) n l false) in
      let test = test_is s (l + 1) s1 b b1 o tn e (head (list_size cs xs false) (n + 1) n) yt k.next hs1 hb1 (ap (λ x. ends.Loop x) (ht ∙ ap (λ z. turn_between n (n + 1 + z) l false) hm)) (hy ∙ ap (λ z. head z (n + 1) n) hm) in
      let body = often_is s l s2 (b + 1) b2 (n + 1) n2 xs xs' (body_of k n) k2 hs2 hb2 hn2 hx hk in
      h2 ∙ ap (λ y. y ++ list_spots cs (position_at f chain s2) xs' b2 n2 false k2) h1 ∙ append_assoc L0 (spot_at (position_at f chain s1) b1 (ends.Loop tn) yt k.next ∷ []) (list_spots cs (position_at f chain s2) xs' b2 n2 false k2) ∙ (λ i. L0 ++ (test i ∷ body i)) ∙ ap (λ y. L0 ++ spots y) (sym (flow-While cs w l e xs b n k))

  pub do_laid : (s b n l : ℕ) (e : Expr) (xs : List Stmt) (k : Targets) (L0 L1 L2 : List Spot) (s1 b1 n1 t s2 b2 : ℕ) (tn : Turn) (xs' : List Stmt) (k1 : Targets)
      → L1 ≡ L0 ++ list_spots cs (position_at f chain s1) xs' b1 n1 false k1 → L2 ≡ L1 ++ spot_at (position_at f chain s2) b2 (ends.Loop tn) n k.next ∷ []
      → s1 ≡ capped_amount (s * l) → b1 ≡ b → n1 ≡ n → xs' ≡ xs → t ≡ n + list_size cs xs false → k1 ≡ body_of k t
      → s2 ≡ capped_amount (s * l) → b2 ≡ b + list_blocks xs false → tn ≡ turn_between n (t + 1) l true
      → L2 ≡ L0 ++ spots (flow cs (position_at f chain s) (Do l xs e) b n k)
  do_laid s b n l e xs k L0 L1 L2 s1 b1 n1 t s2 b2 tn xs' k1 h1 h2 hs1 hb1 hn1 hx ht hk hs2 hb2 htn =
      let w = position_at f chain s in
      let m = list_size cs xs false in
      let o = Some (loop_at n (n + m + 1) (n + m) l true) in
      let bc = b + list_blocks xs false in
      let body = often_is s l s1 b b1 n n1 xs xs' (body_of k (n + m)) k1 hs1 hb1 hn1 hx (hk ∙ ap (body_of k) ht) in
      let test = test_is s l s2 bc b2 o tn e n n k.next hs2 hb2 (ap (λ x. ends.Loop x) (htn ∙ ap (λ z. turn_between n (z + 1) l true) ht)) refl in
      let p = list_flow cs (times_as_often w l) xs b n [] (body_of k (n + m)) in
      h2 ∙ ap (λ y. y ++ spot_at (position_at f chain s2) b2 (ends.Loop tn) n k.next ∷ []) h1 ∙ append_assoc L0 (list_spots cs (position_at f chain s1) xs' b1 n1 false k1) (spot_at (position_at f chain s2) b2 (ends.Loop tn) n k.next ∷ []) ∙ (λ i. L0 ++ (body i ++ test i ∷ [])) ∙ ap (λ y. L0 ++ y) (sym (map-append spot_of p (asks (times_as_often w l) o e (block f bc) n k.next ∷ []))) ∙ ap (λ y. L0 ++ spots y) (sym (flow-Do cs w l xs e b n k))

  pub if_laid : (s b n : ℕ) (e : Expr) (xs ys : List Stmt) (k : Targets) (L0 L1 L2 L3 : List Spot) (m r yt nt s1 b1 n1 s2 b2 n2 : ℕ) (xs' ys' : List Stmt)
      → L1 ≡ L0 ++ spot_at (position_at f chain s) b ends.Choice yt nt ∷ [] → L2 ≡ L1 ++ list_spots cs (position_at f chain s1) xs' b1 n1 false k → L3 ≡ L2 ++ list_spots cs (position_at f chain s2) ys' b2 n2 false k
      → m ≡ list_size cs xs false → r ≡ list_size cs ys false → yt ≡ head m (n + 1) k.next → nt ≡ head r (n + 1 + m) k.next
      → s1 ≡ s → b1 ≡ b + 1 → n1 ≡ n + 1 → xs' ≡ xs → s2 ≡ s → b2 ≡ b + 1 + list_blocks xs false → n2 ≡ n + 1 + m → ys' ≡ ys
      → L3 ≡ L0 ++ spots (flow cs (position_at f chain s) (If e xs ys) b n k)
  if_laid s b n e xs ys k L0 L1 L2 L3 m r yt nt s1 b1 n1 s2 b2 n2 xs' ys' h1 h2 h3 hm hr hy hn hs1 hb1 hn1 hx hs2 hb2 hn2 hys =
      let w = position_at f chain s in
      let size_x = list_size cs xs false in
      let first = plain_is s s1 (b + 1) b1 (n + 1) n1 xs xs' k k hs1 hb1 hn1 hx refl in
      let second = plain_is s s2 (b + 1 + list_blocks xs false) b2 (n + 1 + size_x) n2 ys ys' k k hs2 hb2 (hn2 ∙ ap (λ z. n + 1 + z) hm) hys refl in
      let p = list_flow cs w xs (b + 1) (n + 1) [] k in
      let q = list_flow cs w ys (b + 1 + list_blocks xs false) (n + 1 + size_x) [] k in
      let yes_is = hy ∙ ap (λ z. head z (n + 1) k.next) hm in
      let no_is = hn ∙ (λ i. head (hr i) (n + 1 + hm i) k.next) in
      let node = λ (t u : ℕ). spot_at w b ends.Choice t u in
      let A = list_spots cs (position_at f chain s1) xs' b1 n1 false k in
      let B = list_spots cs (position_at f chain s2) ys' b2 n2 false k in
      h3 ∙ ap (λ y. y ++ B) (h2 ∙ ap (λ y. y ++ A) h1) ∙ ap (λ y. y ++ B) (append_assoc L0 (node yt nt ∷ []) A) ∙ append_assoc L0 (node yt nt ∷ A) B ∙ (λ i. L0 ++ (node (yes_is i) (no_is i) ∷ (first i ++ second i))) ∙ ap (λ y. L0 ++ (node (head size_x (n + 1) k.next) (head (list_size cs ys false) (n + 1 + size_x) k.next) ∷ y)) (sym (map-append spot_of p q)) ∙ ap (λ y. L0 ++ spots y) (sym (flow-If cs w e xs ys b n k))

  pub for_laid : (s b n l : ℕ) (e : Expr) (i j : Option Stmt) (xs : List Stmt) (k : Targets) (L0 L1 L2 L3 L4 : List Spot) (k1 : Targets) (c r m again after yt s2 b2 s3 b3 n3 s4 b4 n4 : ℕ) (tn : Turn) (k3 k4 : Targets) (xs' : List Stmt)
      → L1 ≡ L0 ++ list_spots cs (position_at f chain s) (held_stmts i) b n false k1 → L2 ≡ L1 ++ spot_at (position_at f chain s2) b2 (ends.Loop tn) yt k.next ∷ []
      → L3 ≡ L2 ++ list_spots cs (position_at f chain s3) (held_stmts j) b3 n3 false k3 → L4 ≡ L3 ++ list_spots cs (position_at f chain s4) xs' b4 n4 false k4
      → c ≡ n + list_size cs (held_stmts i) false → r ≡ list_size cs (held_stmts j) false → m ≡ list_size cs xs false → after ≡ c + 1 + r → again ≡ head r (c + 1) c → yt ≡ head m after again → tn ≡ turn_between c (after + m) l false
      → k1 ≡ with_next k c → s2 ≡ capped_amount (s * (l + 1)) → b2 ≡ b + list_blocks (held_stmts i) false
      → s3 ≡ capped_amount (s * l) → b3 ≡ b + list_blocks (held_stmts i) false + 1 → n3 ≡ c + 1 → k3 ≡ with_next k c
      → s4 ≡ capped_amount (s * l) → b4 ≡ b + list_blocks (held_stmts i) false + 1 + list_blocks (held_stmts j) false → n4 ≡ after → k4 ≡ body_of k again → xs' ≡ xs
      → L4 ≡ L0 ++ spots (flow cs (position_at f chain s) (For l i e j xs) b n k)
  for_laid s b n l e i j xs k L0 L1 L2 L3 L4 k1 c r m again after yt s2 b2 s3 b3 n3 s4 b4 n4 tn k3 k4 xs' h1 h2 h3 h4 hc hr hm haf hag hy htn hk1 hs2 hb2 hs3 hb3 hn3 hk3 hs4 hb4 hn4 hk4 hx =
      let w = position_at f chain s in
      let c0 = n + list_size cs (held_stmts i) false in
      let r0 = list_size cs (held_stmts j) false in
      let m0 = list_size cs xs false in
      let bc = b + list_blocks (held_stmts i) false in
      let bx = bc + 1 + list_blocks (held_stmts j) false in
      let after_is : after ≡ c0 + 1 + r0 = haf ∙ (λ z. hc z + 1 + hr z) in
      let again_is : again ≡ head r0 (c0 + 1) c0 = hag ∙ (λ z. head (hr z) (hc z + 1) (hc z)) in
      let o = Some (loop_at c0 (c0 + 1 + r0 + m0) c0 l false) in
      let init = plain_is s s b b n n (held_stmts i) (held_stmts i) (with_next k c0) k1 refl refl refl refl (hk1 ∙ ap (with_next k) hc) in
      let test = test_is s (l + 1) s2 bc b2 o tn e (head m0 (c0 + 1 + r0) (head r0 (c0 + 1) c0)) yt k.next hs2 hb2 (ap (λ x. ends.Loop x) (htn ∙ (λ z. turn_between (hc z) (after_is z + hm z) l false))) (hy ∙ (λ z. head (hm z) (after_is z) (again_is z))) in
      let step = often_is s l s3 (bc + 1) b3 (c0 + 1) n3 (held_stmts j) (held_stmts j) (with_next k c0) k3 hs3 hb3 (hn3 ∙ ap (λ z. z + 1) hc) refl (hk3 ∙ ap (with_next k) hc) in
      let body = often_is s l s4 bx b4 (c0 + 1 + r0) n4 xs xs' (body_of k (head r0 (c0 + 1) c0)) k4 hs4 hb4 (hn4 ∙ after_is) hx (hk4 ∙ ap (body_of k) again_is) in
      let A = list_spots cs (position_at f chain s) (held_stmts i) b n false k1 in
      let T = spot_at (position_at f chain s2) b2 (ends.Loop tn) yt k.next in
      let B = list_spots cs (position_at f chain s3) (held_stmts j) b3 n3 false k3 in
      let C = list_spots cs (position_at f chain s4) xs' b4 n4 false k4 in
      let p0 = list_flow cs w (held_stmts i) b n [] (with_next k c0) in
      let inner = times_as_often w l in
      let a0 = asks (times_as_often w (l + 1)) o e (block f bc) (head m0 (c0 + 1 + r0) (head r0 (c0 + 1) c0)) k.next in
      let p1 = list_flow cs inner (held_stmts j) (bc + 1) (c0 + 1) [] (with_next k c0) in
      let p2 = list_flow cs inner xs bx (c0 + 1 + r0) [] (body_of k (head r0 (c0 + 1) c0)) in
      h4 ∙ ap (λ y. y ++ C) (h3 ∙ ap (λ y. y ++ B) (h2 ∙ ap (λ y. y ++ T ∷ []) h1)) ∙ four L0 A T B C ∙ (λ z. L0 ++ (init z ++ (test z ∷ (step z ++ body z)))) ∙ ap (λ y. L0 ++ (spots p0 ++ (spot_of a0 ∷ y))) (sym (map-append spot_of p1 p2)) ∙ ap (λ y. L0 ++ y) (sym (map-append spot_of p0 (a0 ∷ (p1 ++ p2)))) ∙ ap (λ y. L0 ++ spots y) (sym (flow-For cs w l i j e xs b n k))
