-- Where the caps of block copies are within a limit, those of landings are: each is its call's.
use Rattle.std.proofs.Common.{◌≡◌, ℕ, zero, suc, ◌+◌, ◌≤◌, Bool, true, false, if◌then◌else◌, List, [], ◌∷◌, ◌++◌, length, Option, Some, None, refl, subst}
use Rattle.std.specs.Prelude.{slice_get}
use Rattle.c_tree.specs.declared.tree.Expr.{Expr}
use Rattle.c_tree.specs.declared.tree.Target.{Target}
use Rattle.c_tree.specs.declared.program.BlockName.{BlockName}
use Rattle.c_tree.specs.declared.program.Func.{Func}
use Rattle.c_tree.specs.declared.tree.Stmt.{Stmt, Row_of-Stmt, end_of-Stmt, more_of-Stmt, Held-Stmt-For-1, None', Some'}
use Rattle.c_tree.specs.declared.tree.Stmt.TheVariants.{Empty, Scalar, Array, Assign, Call, Break, Continue, Return, If', While', Do', For', Group'}
use Rattle.c_tree.specs.declared.tree.Stmt.TheBlock.{hidden-the_row-Stmt-0}
use Rattle.c_tree.specs.Meaning.Blocks.{is_simple, blocks, row_blocks, held_blocks}
use Rattle.c_tree.specs.Meaning.Statements.{block}
use Rattle.flow_laws.specs.Sites.{Position, times_as_often, Copy, Land, Site, Targets, asks, body_of, call_sites, flow, flush, head, held_flow, held_size, list_flow, one_end_site, number_past, row_flow, row_size, site_count, with_next}
use Rattle.flow_laws.specs.Graphs.{all_to, copy_of, copies}
use Rattle.flow_laws.proofs.Runs.CopiesSound.{row_flows}

abbrev pub BlockWithin : ℕ → Option BlockName → ℕ → Type 0
BlockWithin m None cap = Unit {0}
BlockWithin m (Some b) cap = cap ≤ m

abbrev pub BlocksWithin : ℕ → List Site → Type 0
BlocksWithin m [] = Unit {0}
BlocksWithin m (s ∷ g) = BlockWithin m s.node.block s.node.cap × BlocksWithin m g

abbrev pub AllWithin : ℕ → List Site → Type 0
AllWithin m [] = Unit {0}
AllWithin m (s ∷ g) = (s.node.cap ≤ m) × AllWithin m g

module _ (m : ℕ) where
  blocks_split : (a b : List Site) → BlocksWithin m (a ++ b) → BlocksWithin m a × BlocksWithin m b
  blocks_split [] b h = (tt, h)
  blocks_split (s ∷ a) b h = let r = blocks_split a b h.1 in ((h.0, r.0), r.1)

  all_join : (a b : List Site) → AllWithin m a → AllWithin m b → AllWithin m (a ++ b)
  all_join [] b h k = k
  all_join (s ∷ a) b h k = (h.0, all_join a b h.1 k)

  abbrev pub IsTame : List Site → Type 0
  IsTame g = BlocksWithin m g → AllWithin m g

  tame_join : (a b : List Site) → IsTame a → IsTame b → IsTame (a ++ b)
  tame_join a b h k both = let r = blocks_split a b both in all_join a b (h r.0) (k r.1)

  abbrev pub HaveTame : List Copy → Type 0
  HaveTame cs = (g : ℕ) (c : Copy) → slice_get cs g ≡ Some c → (h : List BlockName) (s n l : ℕ) → IsTame (c.sites h s n l)

  call_tame : (w : Position) (o : Option Copy) (t : Target) (es : List Expr) (b : BlockName) (n next : ℕ) → ((c : Copy) → o ≡ Some c → (h : List BlockName) (s n l : ℕ) → IsTame (c.sites h s n l)) → IsTame (call_sites w o t es b n next)
  call_tame w None t es b n next h k = (k.0, (k.0, tt))
  call_tame w (Some c) t es b n next h k =
      let landing = n + 1 + c.size in
      let inner = c.sites (w.chain ++ b ∷ []) w.scale (n + 1) landing in
      let land = one_end_site w (Land t c.result b) None next ∷ [] in
      (k.0, all_join inner land (h c refl (w.chain ++ b ∷ []) w.scale (n + 1) landing (blocks_split inner land k.1).0) (k.0, tt))

  flush_tame : (w : Position) (ss : List Stmt) (b : BlockName) (t : ℕ) → IsTame (flush w ss b t)
  flush_tame w [] b t k = tt
  flush_tame w (s ∷ ss) b t k = (k.0, tt)

  row_tame_choose : (w : Position) (ss : List Stmt) (b : BlockName) (t : ℕ) (p q1 q2 : List Site) → IsTame p → IsTame q1 → IsTame q2 → (c : Bool) → IsTame (if c then p else flush w ss b t ++ (q1 ++ q2))
  row_tame_choose w ss b t p q1 q2 hp h1 h2 true = hp
  row_tame_choose w ss b t p q1 q2 hp h1 h2 false = tame_join (flush w ss b t) (q1 ++ q2) (flush_tame w ss b t) (tame_join q1 q2 h1 h2)

  module _ (cs : List Copy) (tame : HaveTame cs) where
    mutual
      unfolding flow row_flow held_flow

      flow_tame : (w : Position) (st : Stmt) (b n : ℕ) (k : Targets) → IsTame (flow cs w st b n k)
      flow_tame w Empty b n k = λ h. tt
      flow_tame w (Scalar l e) b n k = λ h. tt
      flow_tame w (Array l es) b n k = λ h. tt
      flow_tame w (Assign p op e) b n k = λ h. tt
      flow_tame w (Call t c es) b n k = call_tame w (slice_get cs c) t es (block w.func b) n k.next (tame c)
      flow_tame w Break b n k = λ h. (h.0, tt)
      flow_tame w Continue b n k = λ h. (h.0, tt)
      flow_tame w (Return e) b n k = λ h. (h.0, tt)
      flow_tame w (If' e a x c y) b n k =
          let m = row_size cs x false in
          let p = row_flow cs w x (b + 1) (n + 1) [] k in
          let q = row_flow cs w y (b + 1 + row_blocks x false) (n + 1 + m) [] k in
          λ h. (h.0, tame_join p q (row_tame w x (b + 1) (n + 1) [] k) (row_tame w y (b + 1 + row_blocks x false) (n + 1 + m) [] k) h.1)
      flow_tame w (While' l e a x) b n k =
          λ h. (h.0, row_tame (times_as_often w l) x (b + 1) (n + 1) [] (body_of k n) h.1)
      flow_tame w (Do' l a x e) b n k =
          tame_join _ (asks (times_as_often w l) _ e (block w.func (b + row_blocks x false)) _ _ ∷ []) (row_tame (times_as_often w l) x b n [] (body_of k (n + row_size cs x false))) (λ h. (h.0, tt))
      flow_tame w (For' l i e j a x) b n k =
          let inside = times_as_often w l in
          let bc = b + held_blocks i in
          let c = n + held_size cs i in
          let r = held_size cs j in
          let again = head r (c + 1) c in
          let p = held_flow cs inside j (bc + 1) (c + 1) (with_next k c) in
          let q = row_flow cs inside x (bc + 1 + held_blocks j) (c + 1 + r) [] (body_of k again) in
          tame_join (held_flow cs w i b n (with_next k c)) _ (held_tame w i b n (with_next k c)) (λ h. (h.0, tame_join p q (held_tame inside j (bc + 1) (c + 1) (with_next k c)) (row_tame inside x (bc + 1 + held_blocks j) (c + 1 + r) [] (body_of k again)) h.1))
      flow_tame w (Group' a x) b n k = row_tame w x b n [] k

      row_tame : {m : _} (w : Position) (x : Row_of-Stmt m) (b n : ℕ) (ss : List Stmt) (k : Targets) → IsTame (row_flow cs w x b n ss k)
      row_tame w end_of-Stmt b n ss k = flush_tame w ss (block w.func b) k.next
      row_tame w (more_of-Stmt st rest) b n ss k =
          let n1 = number_past ss n in
          let n2 = n1 + site_count cs st false in
          let next = head (row_size cs rest false) n2 k.next in
          row_tame_choose w ss (block w.func b) (head (site_count cs st false) n1 next) _ _ _ (row_tame w rest b n (ss ++ st ∷ []) k) (flow_tame w st (number_past ss b) n1 (with_next k next)) (row_tame w rest (number_past ss b + blocks st false) n2 [] k) (is_simple st)

      held_tame : (w : Position) (x : Held-Stmt-For-1) (b n : ℕ) (k : Targets) → IsTame (held_flow cs w x b n k)
      held_tame w None' b n k = λ h. tt
      held_tame w (Some' a x) b n k = row_tame w x b n [] k

    list_tame : (w : Position) (xs : List Stmt) (b n : ℕ) (k : Targets) → IsTame (list_flow cs w xs b n [] k)
    list_tame w xs b n k = subst IsTame (row_flows cs w xs b n [] k) (row_tame w (hidden-the_row-Stmt-0 xs) b n [] k)

  -- ---- functions

  joined_tame : (cs : List Copy) (c : Copy) → HaveTame cs → ((h : List BlockName) (s n l : ℕ) → IsTame (c.sites h s n l)) → HaveTame (cs ++ c ∷ [])
  joined_tame [] c h k zero d e = let p : c ≡ d = cc in subst (λ x. (h : List BlockName) (s n l : ℕ) → IsTame (x.sites h s n l)) p k
  joined_tame [] c h k (suc g) d e = absurd (cc)
  joined_tame (x ∷ cs) c h k zero d e = h 0 d e
  joined_tame (x ∷ cs) c h k (suc g) d e = joined_tame cs c (λ i. h (suc i)) k g d e

  more_tame : (funcs : List Func) (cs : List Copy) → HaveTame cs → HaveTame (copies cs funcs)
  more_tame [] cs h = h
  more_tame (f ∷ fs) cs h =
      more_tame fs (cs ++ copy_of (length cs) f cs ∷ []) (joined_tame cs (copy_of (length cs) f cs) h (λ chain s n l. list_tame cs h (record { func = length cs; chain = chain; scale = s }) f.body 0 n (all_to l)))

  -- each function's copy, wherever it stands
  pub copies_tame : (funcs : List Func) → HaveTame (copies [] funcs)
  copies_tame funcs = more_tame funcs [] (λ g c e. absurd (cc))
