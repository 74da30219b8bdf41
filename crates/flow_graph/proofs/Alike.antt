-- Scales that stay at one last number lay a part out alike.
use Rattle.std.proofs.Common.{◌≡◌, ℕ, zero, suc, ◌+◌, ◌-◌, ◌*◌, ◌^◌, ◌≤◌, ◌<◌, ◌⊎◌, inl, inr, min, Bool, true, false, if◌then◌else◌, List, [], ◌∷◌, ◌++◌, length, Option, Some, None, refl, sym, ap, ◌∙◌, subst, arith}
use Rattle.std.proofs.Math.Nat.{mul-suc}
use Rattle.std.proofs.lemmas.Bool.{cases_lt}
use Rattle.std.proofs.lemmas.List.{map-append}
use Rattle.std.specs.Prelude.{slice_get}
use Rattle.c_tree.specs.declared.tree.Expr.{Expr}
use Rattle.c_tree.specs.declared.tree.Target.{Target}
use Rattle.c_tree.specs.declared.program.BlockName.{BlockName}
use Rattle.c_tree.specs.declared.program.Func.{Func}
use Rattle.c_tree.specs.declared.tree.Stmt.{Stmt, Row_of-Stmt, end_of-Stmt, more_of-Stmt, Held-Stmt-For-1, None', Some'}
use Rattle.c_tree.specs.declared.tree.Stmt.TheVariants.{Empty, Scalar, Array, Assign, Call, Break, Continue, Return, If', While', Do', For', Group'}
use Rattle.c_tree.specs.declared.tree.Stmt.TheBlock.{hidden-the_row-Stmt-0}
use Rattle.c_tree.specs.Meaning.Blocks.{is_simple, blocks, row_blocks, held_blocks}
use Rattle.c_tree.specs.Meaning.Statements.{block}
use Rattle.flow_laws.specs.Sites.{Position, times_as_often, Content, Simple, Copy, LoopCopy, Jump, Give, Enter, Land, Missing, Site, Targets, asks, body_of, call_of, call_sites, flow, flush, head, held_flow, held_size, list_flow, loop_at, one_end_site, number_past, row_flow, row_size, site_count, with_next}
use Rattle.flow_laws.specs.Graphs.{all_to, copy_of, copies}
use Rattle.flow_laws.proofs.Runs.CopiesSound.{row_flows}
use Rattle.graph_lists.specs.Amounts.{capped_amount}
use Rattle.flow_graph.specs.Spots.{ends_of, test_ends, spot_of, spots}

-- ---- scales

abbrev last : ℕ
last = 2 ^ 64 - 1

low_times : (m a k : ℕ) → a ≤ m → min (min a m * k) m ≡ min (a * k) m
low_times m a k h = let e : min a m ≡ a = omega (arith, h) in ap (λ x. min (x * k) m) e

high_times : (m a k : ℕ) → m ≤ a → min (m * k) m ≡ min (a * k) m
high_times m a zero h = omega arith
high_times m a (suc k) h =
    let p : m * suc k ≡ m * k + m = mul-suc m k in
    let q : a * suc k ≡ a * k + a = mul-suc a k in
    omega (arith, h, p, q)

high_times_min : (m a k : ℕ) → m ≤ a → min (min a m * k) m ≡ min (a * k) m
high_times_min m a k h = let e : min a m ≡ m = omega (arith, h) in ap (λ x. min (x * k) m) e ∙ high_times m a k h

kept_product : (a k : ℕ) → capped_amount (capped_amount a * k) ≡ capped_amount (a * k)
kept_product a k = by_size (cases_lt a last)
  where
    by_size : (a < last) ⊎ (last ≤ a) → capped_amount (capped_amount a * k) ≡ capped_amount (a * k)
    by_size (inl h) = low_times last a k (omega (arith, h))
    by_size (inr h) = high_times_min last a k h

times_alike : (s s' k : ℕ) → capped_amount s ≡ capped_amount s' → capped_amount (s * k) ≡ capped_amount (s' * k)
times_alike s s' k e = sym (kept_product s k) ∙ ap (λ x. capped_amount (x * k)) e ∙ kept_product s' k

-- ---- parts

abbrev pub at_scale : Position → ℕ → Position
at_scale w s = record { func = w.func; chain = w.chain; scale = s }

join_alike : (p q p' q' : List Site) → spots p ≡ spots p' → spots q ≡ spots q' → spots (p ++ q) ≡ spots (p' ++ q')
join_alike p q p' q' h k = map-append spot_of p q ∙ (λ i. h i ++ k i) ∙ sym (map-append spot_of p' q')

one_alike : (w : Position) (s : ℕ) (c : Content) (b : Option BlockName) (t : ℕ) → capped_amount w.scale ≡ capped_amount s → spot_of (one_end_site w c b t) ≡ spot_of (one_end_site (at_scale w s) c b t)
one_alike w s c b t e = λ i. record { node = record { block = b; chain = w.chain; cap = e i }; call = call_of c; ends = ends_of c; yes = t; no = t }

asks_alike : (w : Position) (s : ℕ) (l : Option LoopCopy) (e : Expr) (b : BlockName) (t u : ℕ) → capped_amount w.scale ≡ capped_amount s → spot_of (asks w l e b t u) ≡ spot_of (asks (at_scale w s) l e b t u)
asks_alike w s l e b t u h = λ i. record { node = record { block = Some b; chain = w.chain; cap = h i }; call = None; ends = test_ends l; yes = t; no = u }

flush_alike : (w : Position) (s : ℕ) (ss : List Stmt) (b : BlockName) (t : ℕ) → capped_amount w.scale ≡ capped_amount s → spots (flush w ss b t) ≡ spots (flush (at_scale w s) ss b t)
flush_alike w s [] b t e = refl
flush_alike w s (x ∷ ss) b t e = λ i. one_alike w s (Simple (x ∷ ss)) (Some b) t e i ∷ []

row_alike_choose : (w : Position) (s : ℕ) (ss : List Stmt) (b : BlockName) (t : ℕ) (p q1 q2 p' q1' q2' : List Site) → capped_amount w.scale ≡ capped_amount s → spots p ≡ spots p' → spots q1 ≡ spots q1' → spots q2 ≡ spots q2' → (c : Bool) → spots (if c then p else flush w ss b t ++ (q1 ++ q2)) ≡ spots (if c then p' else flush (at_scale w s) ss b t ++ (q1' ++ q2'))
row_alike_choose w s ss b t p q1 q2 p' q1' q2' e hp h1 h2 true = hp
row_alike_choose w s ss b t p q1 q2 p' q1' q2' e hp h1 h2 false =
    join_alike (flush w ss b t) (q1 ++ q2) (flush (at_scale w s) ss b t) (q1' ++ q2') (flush_alike w s ss b t e) (join_alike q1 q2 q1' q2' h1 h2)

abbrev pub IsAlike : Copy → Type 0
IsAlike c = (h : List BlockName) (s s' n l : ℕ) → capped_amount s ≡ capped_amount s' → spots (c.sites h s n l) ≡ spots (c.sites h s' n l)

abbrev pub HaveAlike : List Copy → Type 0
HaveAlike cs = (g : ℕ) (c : Copy) → slice_get cs g ≡ Some c → IsAlike c

call_alike : (w : Position) (s : ℕ) (o : Option Copy) (t : Target) (es : List Expr) (b : BlockName) (n next : ℕ) → capped_amount w.scale ≡ capped_amount s → ((c : Copy) → o ≡ Some c → IsAlike c) → spots (call_sites w o t es b n next) ≡ spots (call_sites (at_scale w s) o t es b n next)
call_alike w s None t es b n next e h = λ i. one_alike w s Missing (Some b) (n + 1) e i ∷ (one_alike w s Missing None next e i ∷ [])
call_alike w s (Some c) t es b n next e h =
    let landing = n + 1 + c.size in
    let chain = w.chain ++ b ∷ [] in
    let inner = join_alike (c.sites chain w.scale (n + 1) landing) (one_end_site w (Land t c.result b) None next ∷ []) (c.sites chain s (n + 1) landing) (one_end_site (at_scale w s) (Land t c.result b) None next ∷ []) (h c refl chain w.scale s (n + 1) landing e) (λ i. one_alike w s (Land t c.result b) None next e i ∷ []) in
    λ i. one_alike w s (Enter t c.locals es) (Some b) (head c.size (n + 1) landing) e i ∷ inner i

module _ (cs : List Copy) (alike : HaveAlike cs) where
  mutual
    unfolding flow row_flow held_flow

    pub flow_alike : (w : Position) (s : ℕ) (st : Stmt) (b n : ℕ) (k : Targets) → capped_amount w.scale ≡ capped_amount s → spots (flow cs w st b n k) ≡ spots (flow cs (at_scale w s) st b n k)
    flow_alike w s Empty b n k same = refl
    flow_alike w s (Scalar l e) b n k same = refl
    flow_alike w s (Array l es) b n k same = refl
    flow_alike w s (Assign p op e) b n k same = refl
    flow_alike w s (Call t c es) b n k same = call_alike w s (slice_get cs c) t es (block w.func b) n k.next same (alike c)
    flow_alike w s Break b n k same = λ i. one_alike w s Jump (Some (block w.func b)) k.breaks same i ∷ []
    flow_alike w s Continue b n k same = λ i. one_alike w s Jump (Some (block w.func b)) k.continues same i ∷ []
    flow_alike w s (Return e) b n k same = λ i. one_alike w s (Give e) (Some (block w.func b)) k.returns same i ∷ []
    flow_alike w s (If' e a x c y) b n k same =
        let m = row_size cs x false in
        let both = join_alike (row_flow cs w x (b + 1) (n + 1) [] k) (row_flow cs w y (b + 1 + row_blocks x false) (n + 1 + m) [] k) (row_flow cs (at_scale w s) x (b + 1) (n + 1) [] k) (row_flow cs (at_scale w s) y (b + 1 + row_blocks x false) (n + 1 + m) [] k) (row_alike w s x (b + 1) (n + 1) [] k same) (row_alike w s y (b + 1 + row_blocks x false) (n + 1 + m) [] k same) in
        λ i. asks_alike w s None e (block w.func b) (head m (n + 1) k.next) (head (row_size cs y false) (n + 1 + m) k.next) same i ∷ both i
    flow_alike w s (While' l e a x) b n k same =
        let m = row_size cs x false in
        let body = row_alike (times_as_often w l) (s * l) x (b + 1) (n + 1) [] (body_of k n) (times_alike w.scale s l same) in
        λ i. asks_alike (times_as_often w (l + 1)) (s * (l + 1)) (Some (loop_at n (n + 1 + m) n l false)) e (block w.func b) (head m (n + 1) n) k.next (times_alike w.scale s (l + 1) same) i ∷ body i
    flow_alike w s (Do' l a x e) b n k same =
        let m = row_size cs x false in
        let bc = block w.func (b + row_blocks x false) in
        let inside = times_as_often w l in
        let often = times_alike w.scale s l same in
        let turn = Some (loop_at n (n + m + 1) (n + m) l true) in
        join_alike (row_flow cs inside x b n [] (body_of k (n + m))) (asks inside turn e bc n k.next ∷ []) (row_flow cs (at_scale inside (s * l)) x b n [] (body_of k (n + m))) (asks (at_scale inside (s * l)) turn e bc n k.next ∷ []) (row_alike inside (s * l) x b n [] (body_of k (n + m)) often) (λ i. asks_alike inside (s * l) turn e bc n k.next often i ∷ [])
    flow_alike w s (For' l i e j a x) b n k same =
        let inside = times_as_often w l in
        let within = at_scale inside (s * l) in
        let often = times_alike w.scale s l same in
        let bc = b + held_blocks i in
        let c = n + held_size cs i in
        let r = held_size cs j in
        let m = row_size cs x false in
        let bx = bc + 1 + held_blocks j in
        let again = head r (c + 1) c in
        let rest = join_alike (held_flow cs inside j (bc + 1) (c + 1) (with_next k c)) (row_flow cs inside x bx (c + 1 + r) [] (body_of k again)) (held_flow cs within j (bc + 1) (c + 1) (with_next k c)) (row_flow cs within x bx (c + 1 + r) [] (body_of k again)) (held_alike inside (s * l) j (bc + 1) (c + 1) (with_next k c) often) (row_alike inside (s * l) x bx (c + 1 + r) [] (body_of k again) often) in
        join_alike (held_flow cs w i b n (with_next k c)) _ (held_flow cs (at_scale w s) i b n (with_next k c)) _ (held_alike w s i b n (with_next k c) same) (λ z. asks_alike (times_as_often w (l + 1)) (s * (l + 1)) (Some (loop_at c (c + 1 + r + m) c l false)) e (block w.func bc) (head m (c + 1 + r) again) k.next (times_alike w.scale s (l + 1) same) z ∷ rest z)
    flow_alike w s (Group' a x) b n k same = row_alike w s x b n [] k same

    pub row_alike : {m : _} (w : Position) (s : ℕ) (x : Row_of-Stmt m) (b n : ℕ) (ss : List Stmt) (k : Targets) → capped_amount w.scale ≡ capped_amount s → spots (row_flow cs w x b n ss k) ≡ spots (row_flow cs (at_scale w s) x b n ss k)
    row_alike w s end_of-Stmt b n ss k same = flush_alike w s ss (block w.func b) k.next same
    row_alike w s (more_of-Stmt st rest) b n ss k same =
        let n1 = number_past ss n in
        let n2 = n1 + site_count cs st false in
        let next = head (row_size cs rest false) n2 k.next in
        row_alike_choose w s ss (block w.func b) (head (site_count cs st false) n1 next) _ _ _ _ _ _ same (row_alike w s rest b n (ss ++ st ∷ []) k same) (flow_alike w s st (number_past ss b) n1 (with_next k next) same) (row_alike w s rest (number_past ss b + blocks st false) n2 [] k same) (is_simple st)

    pub held_alike : (w : Position) (s : ℕ) (x : Held-Stmt-For-1) (b n : ℕ) (k : Targets) → capped_amount w.scale ≡ capped_amount s → spots (held_flow cs w x b n k) ≡ spots (held_flow cs (at_scale w s) x b n k)
    held_alike w s None' b n k same = refl
    held_alike w s (Some' a x) b n k same = row_alike w s x b n [] k same

  pub list_alike : (w : Position) (s : ℕ) (xs : List Stmt) (b n : ℕ) (k : Targets) → capped_amount w.scale ≡ capped_amount s → spots (list_flow cs w xs b n [] k) ≡ spots (list_flow cs (at_scale w s) xs b n [] k)
  list_alike w s xs b n k same =
      ap spots (sym (row_flows cs w xs b n [] k)) ∙ row_alike w s (hidden-the_row-Stmt-0 xs) b n [] k same ∙ ap spots (row_flows cs (at_scale w s) xs b n [] k)

-- ---- functions

joined_alike : (cs : List Copy) (c : Copy) → HaveAlike cs → IsAlike c → HaveAlike (cs ++ c ∷ [])
joined_alike [] c h k zero d e = let p : c ≡ d = cc in subst IsAlike p k
joined_alike [] c h k (suc g) d e = absurd (cc)
joined_alike (x ∷ cs) c h k zero d e = h 0 d e
joined_alike (x ∷ cs) c h k (suc g) d e = joined_alike cs c (λ i. h (suc i)) k g d e

more_alike : (funcs : List Func) (cs : List Copy) → HaveAlike cs → HaveAlike (copies cs funcs)
more_alike [] cs h = h
more_alike (f ∷ fs) cs h =
    more_alike fs (cs ++ copy_of (length cs) f cs ∷ []) (joined_alike cs (copy_of (length cs) f cs) h (λ chain s s' n l e. list_alike cs h (record { func = length cs; chain = chain; scale = s }) s' f.body 0 n (all_to l) e))

-- each function's copy, wherever it stands
pub copies_alike : (funcs : List Func) → HaveAlike (copies [] funcs)
copies_alike funcs = more_alike funcs [] (λ g c e. absurd (cc))
