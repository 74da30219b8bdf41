-- The nodes of a part count what its amount says.
use Rattle.std.proofs.Common.{◌≡◌, ℕ, zero, suc, ◌+◌, ◌-◌, ◌^◌, ◌≤◌, min, Bool, true, false, if◌then◌else◌, List, [], ◌∷◌, ◌++◌, length, length-append, Option, Some, None, refl, sym, ap, ◌∙◌, arith}
use Rattle.std.specs.Prelude.{slice_get, unwrap_or}
use Rattle.c_tree.specs.declared.tree.Ty.{Ty}
use Rattle.c_tree.specs.declared.tree.Expr.{Expr}
use Rattle.c_tree.specs.declared.tree.Target.{Target}
use Rattle.c_tree.specs.declared.program.BlockName.{BlockName}
use Rattle.c_tree.specs.declared.program.Func.{Func}
use Rattle.c_tree.specs.declared.program.Local.{Local}
use Rattle.c_tree.specs.declared.tree.Stmt.{Stmt, Row_of-Stmt, end_of-Stmt, more_of-Stmt, Held-Stmt-For-1, None', Some'}
use Rattle.c_tree.specs.declared.tree.Stmt.TheVariants.{Empty, Scalar, Array, Assign, Call, Break, Continue, Return, If', While', Do', For', Group'}
use Rattle.c_tree.specs.declared.tree.Stmt.TheBlock.{hidden-the_row-Stmt-0}
use Rattle.c_tree.specs.Meaning.Blocks.{is_simple, blocks, row_blocks, held_blocks}
use Rattle.c_tree.specs.Meaning.Statements.{block}
use Rattle.flow_laws.specs.Sites.{Position, times_as_often, Simple, Jump, Give, Enter, Missing, Land, Copy, LoopCopy, Site, Targets, asks, body_of, call_sites, flow, flush, head, held_flow, held_size, list_flow, one_end_site, number_past, row_flow, row_size, site_count, with_next}
use Rattle.flow_laws.specs.Graphs.{all_to, copy_of, copies}
use Rattle.flow_laws.proofs.Graphs.PartSizes.{is_run}
use Rattle.flow_laws.proofs.Runs.CopiesSound.{row_flows}
use Rattle.graph_lists.specs.declared.sizes.Weights.{Weights}
use Rattle.graph_lists.specs.Amounts.{capped_amount, capped_sum, begun_amount, amount, row_amount, part_amount, list_amount, amounts}
use Rattle.graph_lists.proofs.AmountLayers.{row_is}

-- ---- what the nodes count

abbrev pub total : (Site → ℕ) → List Site → ℕ
total f [] = 0
total f (s ∷ g) = f s + total f g

pub total_append : (f : Site → ℕ) (a b : List Site) → total f (a ++ b) ≡ total f a + total f b
total_append f [] b = let z : total f b ≡ 0 + total f b = omega arith in z
total_append f (s ∷ a) b = omega (arith, total_append f a b)

-- each node counts the weight of its sort
pub record Weighs (f : Site → ℕ) (v : Weights) : Type 0 where
  pub simple : (w : Position) (ss : List Stmt) (b : BlockName) (t : ℕ) → f (one_end_site w (Simple ss) (Some b) t) ≡ 1
  pub jump : (w : Position) (b : BlockName) (t : ℕ) → f (one_end_site w Jump (Some b) t) ≡ 1
  pub give : (w : Position) (e : Option Expr) (b : BlockName) (t : ℕ) → f (one_end_site w (Give e) (Some b) t) ≡ 1
  pub enter : (w : Position) (t : Target) (ls : List Local) (es : List Expr) (b : BlockName) (n : ℕ) → f (one_end_site w (Enter t ls es) (Some b) n) ≡ 1
  pub missing : (w : Position) (b : BlockName) (t : ℕ) → f (one_end_site w Missing (Some b) t) ≡ 1
  pub nowhere : (w : Position) (t : ℕ) → f (one_end_site w Missing None t) ≡ v.landing
  pub lands : (w : Position) (t : Target) (ty : Option Ty) (b : BlockName) (n : ℕ) → f (one_end_site w (Land t ty b) None n) ≡ v.landing
  pub test : (w : Position) (l : Option LoopCopy) (e : Expr) (b : BlockName) (t u : ℕ) → f (asks w l e b t u) ≡ v.test

-- a copy of a function counts its amount, wherever it stands
abbrev pub Counts : (Site → ℕ) → Option Copy → Option ℕ → Type 0
Counts f None None = Unit {0}
Counts f None (Some d) = ⊥
Counts f (Some c) None = ⊥
Counts f (Some c) (Some d) = (h : List BlockName) (s n l : ℕ) → capped_amount (total f (c.sites h s n l)) ≡ d

abbrev pub AllCount : (Site → ℕ) → List Copy → List ℕ → Type 0
AllCount f cs ds = (g : ℕ) → Counts f (slice_get cs g) (slice_get ds g)

-- ---- sums of parts, with any last number

sum_one : (m a : ℕ) → 1 ≤ m → a ≡ 1 → min (a + 0) m ≡ 1
sum_one m a h e = omega (arith, h, e)

sum_call : (m b t l d : ℕ) → b ≡ 1 → min t m ≡ d → min (b + (t + (l + 0))) m ≡ min (min (d + 1) m + l) m
sum_call m b t l d e h = omega (arith, h, e)

sum_none : (m b l : ℕ) → b ≡ 1 → min (b + (l + 0)) m ≡ min (min (0 + 1) m + l) m
sum_none m b l e = omega (arith, e)

sum_two : (m p q x y : ℕ) → min p m ≡ x → min q m ≡ y → min (p + q) m ≡ min (x + y) m
sum_two m p q x y h k = omega (arith, h, k)

sum_after : (m b c p x : ℕ) → b ≡ c → min p m ≡ x → min (b + p) m ≡ min (c + x) m
sum_after m b c p x e h = omega (arith, h, e)

sum_last : (m p b c x : ℕ) → b ≡ c → min p m ≡ x → min (p + (b + 0)) m ≡ min (c + x) m
sum_last m p b c x e h = omega (arith, h, e)

sum_passed : (m r : ℕ) → min (1 + min (0 + r) m) m ≡ min (1 + r) m
sum_passed m r = omega arith

sum_stands : (m r : ℕ) → min (1 + r) m ≡ min (1 + min (0 + r) m) m
sum_stands m r = sym (sum_passed m r)

last : ℕ
last = 2 ^ 64 - 1

-- what is counted with the simple statements that were passed
abbrev pub with_passed : List Stmt → ℕ → ℕ
with_passed [] m = m
with_passed (s ∷ ss) m = capped_sum 1 m

pub simple_amount : (v : Weights) (ds : List ℕ) (st : Stmt) (run : Bool) → is_simple st ≡ true → amount v ds st run ≡ begun_amount run
unfolding amount
simple_amount v ds Empty run h = refl
simple_amount v ds (Scalar l e) run h = refl
simple_amount v ds (Array l es) run h = refl
simple_amount v ds (Assign p op e) run h = refl
simple_amount v ds _ run h = absurd (cc)

passed_total : (ss : List Stmt) (st : Stmt) (r : Bool → ℕ) (t z : ℕ) → z ≡ begun_amount (is_run ss) → t ≡ with_passed (ss ++ st ∷ []) (r (is_run (ss ++ st ∷ []))) → t ≡ with_passed ss (capped_sum z (r true))
passed_total [] st r t z e h = h ∙ ap (λ x. capped_sum x (r true)) (sym e)
passed_total (x ∷ xs) st r t z e h = h ∙ sum_stands (2 ^ 64 - 1) (r true) ∙ ap (λ x. capped_sum 1 (capped_sum x (r true))) (sym e)

module _ (f : Site → ℕ) (v : Weights) (weighs : Weighs f v) where
  call_total : (w : Position) (o : Option Copy) (d : Option ℕ) (t : Target) (es : List Expr) (b : BlockName) (n next : ℕ) → Counts f o d → capped_amount (total f (call_sites w o t es b n next)) ≡ capped_sum (capped_sum (unwrap_or d 0) 1) v.landing
  call_total w None None t es b n next h =
      ap capped_amount (λ i. f (one_end_site w Missing (Some b) (n + 1)) + (weighs.nowhere w next i + 0)) ∙ sum_none (2 ^ 64 - 1) (f (one_end_site w Missing (Some b) (n + 1))) v.landing (weighs.missing w b (n + 1))
  call_total w None (Some d) t es b n next h = absurd h
  call_total w (Some c) None t es b n next h = absurd h
  call_total w (Some c) (Some d) t es b n next h =
      let landing = n + 1 + c.size in
      let inner = c.sites (w.chain ++ b ∷ []) w.scale (n + 1) landing in
      let enter = one_end_site w (Enter t c.locals es) (Some b) (head c.size (n + 1) landing) in
      let land = one_end_site w (Land t c.result b) None next in
      ap capped_amount (λ i. f enter + total_append f inner (land ∷ []) i) ∙ ap capped_amount (λ i. f enter + (total f inner + (weighs.lands w t c.result b next i + 0))) ∙ sum_call (2 ^ 64 - 1) (f enter) (total f inner) v.landing d (weighs.enter w t c.locals es b (head c.size (n + 1) landing)) (h (w.chain ++ b ∷ []) w.scale (n + 1) landing)

  flush_total : (w : Position) (ss : List Stmt) (b : BlockName) (t : ℕ) (xs : List Site) (m : ℕ) → capped_amount (total f xs) ≡ m → capped_amount (total f (flush w ss b t ++ xs)) ≡ with_passed ss m
  flush_total w [] b t xs m h = h
  flush_total w (s ∷ ss) b t xs m h = sum_after (2 ^ 64 - 1) (f (one_end_site w (Simple (s ∷ ss)) (Some b) t)) 1 (total f xs) m (weighs.simple w (s ∷ ss) b t) h

  two_total : (p q : List Site) (x y : ℕ) → capped_amount (total f p) ≡ x → capped_amount (total f q) ≡ y → capped_amount (total f (p ++ q)) ≡ capped_sum x y
  two_total p q x y h k = ap capped_amount (total_append f p q) ∙ sum_two (2 ^ 64 - 1) (total f p) (total f q) x y h k

  asks_total : (w : Position) (l : Option LoopCopy) (e : Expr) (b : BlockName) (t u : ℕ) (p : List Site) (x : ℕ) → capped_amount (total f p) ≡ x → capped_amount (total f (asks w l e b t u ∷ p)) ≡ capped_sum v.test x
  asks_total w l e b t u p x h = sum_after (2 ^ 64 - 1) (f (asks w l e b t u)) v.test (total f p) x (weighs.test w l e b t u) h

  do_total : (w : Position) (l : Option LoopCopy) (e : Expr) (b : BlockName) (t u : ℕ) (p : List Site) (x : ℕ) → capped_amount (total f p) ≡ x → capped_amount (total f (p ++ asks w l e b t u ∷ [])) ≡ capped_sum v.test x
  do_total w l e b t u p x h = ap capped_amount (total_append f p (asks w l e b t u ∷ [])) ∙ sum_last (2 ^ 64 - 1) (total f p) (f (asks w l e b t u)) v.test x (weighs.test w l e b t u) h

  row_total_choose : (cs : List Copy) (ds : List ℕ) (w : Position) (st : Stmt) (ss : List Stmt) (r : Bool → ℕ) (b : BlockName) (t : ℕ) (p q1 q2 : List Site) → capped_amount (total f p) ≡ with_passed (ss ++ st ∷ []) (r (is_run (ss ++ st ∷ []))) → (is_simple st ≡ false → capped_amount (total f q1) ≡ amount v ds st (is_run ss)) → capped_amount (total f q2) ≡ r false → (c : Bool) → is_simple st ≡ c → capped_amount (total f (if c then p else flush w ss b t ++ (q1 ++ q2))) ≡ with_passed ss (capped_sum (amount v ds st (is_run ss)) (r c))
  row_total_choose cs ds w st ss r b t p q1 q2 hp h1 h2 true e =
      passed_total ss st r (capped_amount (total f p)) (amount v ds st (is_run ss)) (simple_amount v ds st (is_run ss) e) hp
  row_total_choose cs ds w st ss r b t p q1 q2 hp h1 h2 false e =
      flush_total w ss b t (q1 ++ q2) (capped_sum (amount v ds st (is_run ss)) (r false)) (two_total q1 q2 (amount v ds st (is_run ss)) (r false) (h1 e) h2)

  last_total : (w : Position) (ss : List Stmt) (b : BlockName) (t : ℕ) → capped_amount (total f (flush w ss b t)) ≡ with_passed ss 0
  last_total w [] b t = refl
  last_total w (s ∷ ss) b t = sum_after (2 ^ 64 - 1) (f (one_end_site w (Simple (s ∷ ss)) (Some b) t)) 1 0 0 (weighs.simple w (s ∷ ss) b t) refl

  one_total : (s : Site) → f s ≡ 1 → capped_amount (total f (s ∷ [])) ≡ 1
  one_total s e = sum_one (2 ^ 64 - 1) (f s) (omega arith) e

  module _ (cs : List Copy) (ds : List ℕ) (known : AllCount f cs ds) where
    mutual
      unfolding flow row_flow held_flow amount row_amount part_amount

      pub flow_total : (w : Position) (st : Stmt) (run : Bool) (b n : ℕ) (k : Targets) → is_simple st ≡ false → capped_amount (total f (flow cs w st b n k)) ≡ amount v ds st run
      flow_total w Empty run b n k h = absurd (cc)
      flow_total w (Scalar l e) run b n k h = absurd (cc)
      flow_total w (Array l es) run b n k h = absurd (cc)
      flow_total w (Assign p op e) run b n k h = absurd (cc)
      flow_total w (Call t c es) run b n k h = call_total w (slice_get cs c) (slice_get ds c) t es (block w.func b) n k.next (known c)
      flow_total w Break run b n k h = one_total (one_end_site w Jump (Some (block w.func b)) k.breaks) (weighs.jump w (block w.func b) k.breaks)
      flow_total w Continue run b n k h = one_total (one_end_site w Jump (Some (block w.func b)) k.continues) (weighs.jump w (block w.func b) k.continues)
      flow_total w (Return e) run b n k h = one_total (one_end_site w (Give e) (Some (block w.func b)) k.returns) (weighs.give w e (block w.func b) k.returns)
      flow_total w (If' e a x c y) run b n k h =
          let m = row_size cs x false in
          let p = row_flow cs w x (b + 1) (n + 1) [] k in
          let q = row_flow cs w y (b + 1 + row_blocks x false) (n + 1 + m) [] k in
          asks_total w None e (block w.func b) _ _ (p ++ q) _ (two_total p q _ _ (row_total w x (b + 1) (n + 1) [] k) (row_total w y (b + 1 + row_blocks x false) (n + 1 + m) [] k))
      flow_total w (While' l e a x) run b n k h =
          asks_total (times_as_often w (l + 1)) _ e (block w.func b) _ _ _ _ (row_total (times_as_often w l) x (b + 1) (n + 1) [] (body_of k n))
      flow_total w (Do' l a x e) run b n k h =
          do_total (times_as_often w l) _ e (block w.func (b + row_blocks x false)) _ _ _ _ (row_total (times_as_often w l) x b n [] (body_of k (n + row_size cs x false)))
      flow_total w (For' l i e j a x) run b n k h =
          let inside = times_as_often w l in
          let bc = b + held_blocks i in
          let c = n + held_size cs i in
          let r = held_size cs j in
          let again = head r (c + 1) c in
          let p = held_flow cs inside j (bc + 1) (c + 1) (with_next k c) in
          let q = row_flow cs inside x (bc + 1 + held_blocks j) (c + 1 + r) [] (body_of k again) in
          two_total (held_flow cs w i b n (with_next k c)) _ _ _ (held_total w i b n (with_next k c)) (asks_total (times_as_often w (l + 1)) _ e (block w.func bc) _ _ (p ++ q) _ (two_total p q _ _ (held_total inside j (bc + 1) (c + 1) (with_next k c)) (row_total inside x (bc + 1 + held_blocks j) (c + 1 + r) [] (body_of k again))))
      flow_total w (Group' a x) run b n k h = row_total w x b n [] k

      pub row_total : {m : _} (w : Position) (x : Row_of-Stmt m) (b n : ℕ) (ss : List Stmt) (k : Targets) → capped_amount (total f (row_flow cs w x b n ss k)) ≡ with_passed ss (row_amount v ds x (is_run ss))
      row_total w end_of-Stmt b n ss k = last_total w ss (block w.func b) k.next
      row_total w (more_of-Stmt st rest) b n ss k =
          let n1 = number_past ss n in
          let n2 = n1 + site_count cs st false in
          let next = head (row_size cs rest false) n2 k.next in
          row_total_choose cs ds w st ss (row_amount v ds rest) (block w.func b) (head (site_count cs st false) n1 next) _ _ _ (row_total w rest b n (ss ++ st ∷ []) k) (flow_total w st (is_run ss) (number_past ss b) n1 (with_next k next)) (row_total w rest (number_past ss b + blocks st false) n2 [] k) (is_simple st) refl

      pub held_total : (w : Position) (x : Held-Stmt-For-1) (b n : ℕ) (k : Targets) → capped_amount (total f (held_flow cs w x b n k)) ≡ part_amount v ds x
      held_total w None' b n k = refl
      held_total w (Some' a x) b n k = row_total w x b n [] k

    pub list_total : (w : Position) (xs : List Stmt) (b n : ℕ) (k : Targets) → capped_amount (total f (list_flow cs w xs b n [] k)) ≡ list_amount v ds xs false
    list_total w xs b n k =
        ap (λ g. capped_amount (total f g)) (sym (row_flows cs w xs b n [] k)) ∙ row_total w (hidden-the_row-Stmt-0 xs) b n [] k ∙ row_is v ds xs false

  -- ---- functions

  joined_counts : (cs : List Copy) (ds : List ℕ) → length cs ≡ length ds → AllCount f cs ds → (c : Copy) (d : ℕ) → ((h : List BlockName) (s n l : ℕ) → capped_amount (total f (c.sites h s n l)) ≡ d) → AllCount f (cs ++ c ∷ []) (ds ++ d ∷ [])
  joined_counts [] [] e h c d k zero = k
  joined_counts [] [] e h c d k (suc g) = tt
  joined_counts [] (y ∷ ds) e h c d k g = absurd (omega (arith, e))
  joined_counts (x ∷ cs) [] e h c d k g = absurd (omega (arith, e))
  joined_counts (x ∷ cs) (y ∷ ds) e h c d k zero = h 0
  joined_counts (x ∷ cs) (y ∷ ds) e h c d k (suc g) = joined_counts cs ds (omega (arith, e)) (λ i. h (suc i)) c d k g

  more_count : (funcs : List Func) (cs : List Copy) (ds : List ℕ) → length cs ≡ length ds → AllCount f cs ds → AllCount f (copies cs funcs) (amounts v ds funcs)
  more_count [] cs ds e h = h
  more_count (fn ∷ rest) cs ds e h =
      let c = copy_of (length cs) fn cs in
      let d = list_amount v ds fn.body false in
      more_count rest (cs ++ c ∷ []) (ds ++ d ∷ []) (omega (arith, e, length-append cs (c ∷ []), length-append ds (d ∷ []))) (joined_counts cs ds e h c d (λ chain s n l. list_total cs ds h (record { func = length cs; chain = chain; scale = s }) fn.body 0 n (all_to l)))

  pub all_count : (funcs : List Func) → AllCount f (copies [] funcs) (amounts v [] funcs)
  all_count funcs = more_count funcs [] [] refl (λ g. tt)
