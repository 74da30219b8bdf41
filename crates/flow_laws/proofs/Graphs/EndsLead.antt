-- Each end of a node leads to a node, and none to Entry.
use Rattle.std.proofs.Common.{◌≡◌, ℕ, zero, suc, ◌+◌, ◌<◌, ◌≤◌, Bool, true, false, if◌then◌else◌, List, [], ◌∷◌, ◌++◌, length, Option, Some, None, refl, sym, ap, ◌∙◌, subst, arith}
use Rattle.std.specs.Prelude.{slice_get}
use Rattle.c_tree.specs.declared.tree.Expr.{Expr}
use Rattle.c_tree.specs.declared.tree.Target.{Target}
use Rattle.c_tree.specs.declared.program.BlockName.{BlockName}
use Rattle.c_tree.specs.declared.program.Func.{Func}
use Rattle.c_tree.specs.declared.program.Program.{Program}
use Rattle.c_tree.specs.declared.tree.Stmt.{Stmt, Row_of-Stmt, end_of-Stmt, more_of-Stmt, Held-Stmt-For-1, None', Some'}
use Rattle.c_tree.specs.declared.tree.Stmt.TheVariants.{Empty, Scalar, Array, Assign, Call, Break, Continue, Return, If', While', Do', For', Group'}
use Rattle.c_tree.specs.declared.tree.Stmt.TheBlock.{hidden-the_row-Stmt-0}
use Rattle.c_tree.specs.Meaning.Blocks.{is_simple, blocks, row_blocks, held_blocks}
use Rattle.c_tree.specs.Meaning.Statements.{block}
use Rattle.flow_laws.specs.declared.graph.Way.{Way}
use Rattle.flow_laws.specs.declared.graph.Way.TheVariants.{Next, True, False}
use Rattle.flow_laws.specs.declared.graph.Edge.{Edge}
use Rattle.flow_laws.specs.Sites.{LoopCopy, Site, Position, Copy, Targets, times_as_often, one_end_site, asks, loop_at, head, with_next, body_of, number_past, flush, call_size, call_sites, if_sites, while_sites, do_sites, for_sites, site_count, row_size, held_size, flow, row_flow, held_flow, list_size, list_flow}
use Rattle.flow_laws.specs.Graphs.{all_to, copy_of, copies, sites_of, graph, edges}
use Rattle.flow_laws.proofs.Driving.DrivingSteps.{target}
use Rattle.flow_laws.proofs.Graphs.PartSizes.{HaveSizes, is_run, spanned, simple_size, plain_size, passed_length}
use Rattle.flow_laws.proofs.Runs.CopiesSound.{row_sizes, row_flows}
use Rattle.flow_laws.proofs.Graphs.EdgesDistinct.{leaves_source}
use Rattle.flow_laws.proofs.Loops.LoopConditions.{copy_sizes}
use Rattle.c_tree.specs.Keeping.WellFormed.{WellFormed}
use Rattle.std.proofs.lemmas.Option.{slice_get_within}
use Rattle.flow_laws.proofs.Runs.StatementLists.{past_le}
use Rattle.flow_laws.proofs.Graphs.FoundBlocks.{many_copies}

pub record LeadsOn (P : ℕ → Type 0) (s : Site) : Type 0 where
  pub yes : P s.yes
  pub no : P s.no

abbrev pub AllLead : (ℕ → Type 0) → List Site → Type 0
AllLead P [] = Unit {0}
AllLead P (s ∷ g) = LeadsOn P s × AllLead P g

pub record TargetsAre (P : ℕ → Type 0) (k : Targets) : Type 0 where
  pub next : P k.next
  pub breaks : P k.breaks
  pub continues : P k.continues
  pub returns : P k.returns

pub lead_append : (P : ℕ → Type 0) (a b : List Site) → AllLead P a → AllLead P b → AllLead P (a ++ b)
lead_append P [] b h k = k
lead_append P (s ∷ a) b h k = (h.0, lead_append P a b h.1 k)

pub lead_at : (P : ℕ → Type 0) (g : List Site) (i : ℕ) (s : Site) → AllLead P g → slice_get g i ≡ Some s → LeadsOn P s
lead_at P [] i s h e = absurd (cc)
lead_at P (x ∷ g) zero s h e = let p : x ≡ s = cc in subst (LeadsOn P) p h.0
lead_at P (x ∷ g) (suc i) s h e = lead_at P g i s h.1 e

-- a simple statement makes no list longer than it was with it
pub simple_span : (cs : List Copy) (ss : List Stmt) (st : Stmt) (r : Bool → ℕ) → is_simple st ≡ true → spanned (ss ++ st ∷ []) (r (is_run (ss ++ st ∷ []))) ≡ spanned ss (site_count cs st (is_run ss) + r (is_simple st))
simple_span cs ss st r is =
    passed_length ss st r (spanned (ss ++ st ∷ []) (r (is_run (ss ++ st ∷ [])))) (site_count cs st (is_run ss)) (simple_size cs st (is_run ss) is) refl ∙ ap (λ y. spanned ss (site_count cs st (is_run ss) + r y)) (sym is)

pub plain_span : (cs : List Copy) (ss : List Stmt) (st : Stmt) (n : ℕ) (r : Bool → ℕ) → is_simple st ≡ false → number_past ss n + (site_count cs st false + r false) ≡ n + spanned ss (site_count cs st (is_run ss) + r (is_simple st))
plain_span cs [] st n r is = omega (arith, ap r is)
plain_span cs (x ∷ ss) st n r is = omega (arith, plain_size cs st true is, ap r is)

module _ (P : ℕ → Type 0) (lo hi : ℕ) (all : (x : ℕ) → lo ≤ x → x < hi → P x) where
  single : (w : Position) (c : Rattle.flow_laws.specs.Sites.Content) (b : Option BlockName) (t : ℕ) → P t → AllLead P (one_end_site w c b t ∷ [])
  single w c b t h = (record { yes = h; no = h }, tt)

  head_leads : (m n next : ℕ) → lo ≤ n → n + m ≤ hi → P next → P (head m n next)
  head_leads zero n next le ge h = h
  head_leads (suc m) n next le ge h = all n le (omega (arith, ge))

  flush_leads : (w : Position) (ss : List Stmt) (b : BlockName) (t : ℕ) → P t → AllLead P (flush w ss b t)
  flush_leads w [] b t h = tt
  flush_leads w (s ∷ ss) b t h = (record { yes = h; no = h }, tt)

  next_is : (k : Targets) (n : ℕ) → TargetsAre P k → P n → TargetsAre P (with_next k n)
  next_is k n h p = record { next = p; breaks = h.breaks; continues = h.continues; returns = h.returns }

  body_is : (k : Targets) (n : ℕ) → TargetsAre P k → P n → TargetsAre P (body_of k n)
  body_is k n h p = record { next = p; breaks = h.next; continues = p; returns = h.returns }

  HaveLeads : List Copy → Type 0
  HaveLeads cs = (g : ℕ) (c : Copy) → slice_get cs g ≡ Some c → (h : List BlockName) (s n l : ℕ) → lo ≤ n → n + c.size ≤ hi → P l → AllLead P (c.sites h s n l)

  call_leads : (w : Position) (o : Option Copy) (t : Target) (es : List Expr) (b : BlockName) (n next : ℕ) → lo ≤ n → n + call_size o ≤ hi → P next → ((c : Copy) → o ≡ Some c → (h : List BlockName) (s n l : ℕ) → lo ≤ n → n + c.size ≤ hi → P l → AllLead P (c.sites h s n l)) → AllLead P (call_sites w o t es b n next)
  call_leads w None t es b n next le ge h f =
      let p = all (n + 1) (omega (arith, le)) (omega (arith, ge)) in
      (record { yes = p; no = p }, (record { yes = h; no = h }, tt))
  call_leads w (Some c) t es b n next le ge h f =
      let landing = n + 1 + c.size in
      let p = all landing (omega (arith, le)) (omega (arith, ge)) in
      let first = head_leads c.size (n + 1) landing (omega (arith, le)) (omega (arith, ge)) p in
      let chain = w.chain ++ b ∷ [] in
      (record { yes = first; no = first }, lead_append P (c.sites chain w.scale (n + 1) landing) _ (f c refl chain w.scale (n + 1) landing (omega (arith, le)) (omega (arith, ge)) p) (record { yes = h; no = h }, tt))

  row_choose : (w : Position) (ss : List Stmt) (b : BlockName) (t : ℕ) (p q1 q2 : List Site) (st : Stmt) → (is_simple st ≡ true → AllLead P p) → (is_simple st ≡ false → P t) → (is_simple st ≡ false → AllLead P q1) → (is_simple st ≡ false → AllLead P q2) → (c : Bool) → is_simple st ≡ c → AllLead P (if c then p else flush w ss b t ++ (q1 ++ q2))
  row_choose w ss b t p q1 q2 st hp ht h1 h2 true is = hp is
  row_choose w ss b t p q1 q2 st hp ht h1 h2 false is =
      lead_append P (flush w ss b t) (q1 ++ q2) (flush_leads w ss b t (ht is)) (lead_append P q1 q2 (h1 is) (h2 is))

  module _ (cs : List Copy) (copied : (g : ℕ) (c : Copy) → slice_get cs g ≡ Some c → (h : List BlockName) (s n l : ℕ) → lo ≤ n → n + c.size ≤ hi → P l → AllLead P (c.sites h s n l)) where
    mutual
      unfolding site_count row_size held_size flow row_flow held_flow

      pub st_ends : (w : Position) (st : Stmt) (b n : ℕ) (k : Targets) → is_simple st ≡ false → lo ≤ n → n + site_count cs st false ≤ hi → TargetsAre P k → AllLead P (flow cs w st b n k)
      st_ends w Empty b n k is le ge h = absurd (cc)
      st_ends w (Scalar l e) b n k is le ge h = absurd (cc)
      st_ends w (Array l es) b n k is le ge h = absurd (cc)
      st_ends w (Assign p op e) b n k is le ge h = absurd (cc)
      st_ends w (Call t c es) b n k is le ge h = call_leads w (slice_get cs c) t es (block w.func b) n k.next le ge h.next (copied c)
      st_ends w Break b n k is le ge h = (record { yes = h.breaks; no = h.breaks }, tt)
      st_ends w Continue b n k is le ge h = (record { yes = h.continues; no = h.continues }, tt)
      st_ends w (Return e) b n k is le ge h = (record { yes = h.returns; no = h.returns }, tt)
      st_ends w (If' e a x c y) b n k is le ge h =
          let m = row_size cs x false in
          let r = row_size cs y false in
          let yes = head_leads m (n + 1) k.next (omega (arith, le)) (omega (arith, ge)) h.next in
          let no = head_leads r (n + 1 + m) k.next (omega (arith, le)) (omega (arith, ge)) h.next in
          (record { yes = yes; no = no }, lead_append P _ _ (row_ends w x (b + 1) (n + 1) [] k (omega (arith, le)) (omega (arith, ge)) h) (row_ends w y (b + 1 + row_blocks x false) (n + 1 + m) [] k (omega (arith, le)) (omega (arith, ge)) h))
      st_ends w (While' l e a x) b n k is le ge h =
          let m = row_size cs x false in
          let here = all n le (omega (arith, ge)) in
          let yes = head_leads m (n + 1) n (omega (arith, le)) (omega (arith, ge)) here in
          (record { yes = yes; no = h.next }, row_ends (times_as_often w l) x (b + 1) (n + 1) [] (body_of k n) (omega (arith, le)) (omega (arith, ge)) (body_is k n h here))
      st_ends w (Do' l a x e) b n k is le ge h =
          let m = row_size cs x false in
          let c = n + m in
          let first = all n le (omega (arith, ge)) in
          let here = all c (omega (arith, le)) (omega (arith, ge)) in
          lead_append P _ _ (row_ends (times_as_often w l) x b n [] (body_of k c) le (omega (arith, ge)) (body_is k c h here)) (record { yes = first; no = h.next }, tt)
      st_ends w (For' l i e j a x) b n k is le ge h =
          let inside = times_as_often w l in
          let bc = b + held_blocks i in
          let c = n + held_size cs i in
          let r = held_size cs j in
          let m = row_size cs x false in
          let bx = bc + 1 + held_blocks j in
          let again = head r (c + 1) c in
          let here = all c (omega (arith, le)) (omega (arith, ge)) in
          let on = head_leads r (c + 1) c (omega (arith, le)) (omega (arith, ge)) here in
          let yes = head_leads m (c + 1 + r) again (omega (arith, le)) (omega (arith, ge)) on in
          lead_append P _ _ (held_ends w i b n (with_next k c) le (omega (arith, ge)) (next_is k c h here)) (record { yes = yes; no = h.next }, lead_append P _ _ (held_ends inside j (bc + 1) (c + 1) (with_next k c) (omega (arith, le)) (omega (arith, ge)) (next_is k c h here)) (row_ends inside x bx (c + 1 + r) [] (body_of k again) (omega (arith, le)) (omega (arith, ge)) (body_is k again h on)))
      st_ends w (Group' a x) b n k is le ge h = row_ends w x b n [] k le ge h

      pub row_ends : {m : _} (w : Position) (x : Row_of-Stmt m) (b n : ℕ) (ss : List Stmt) (k : Targets) → lo ≤ n → n + spanned ss (row_size cs x (is_run ss)) ≤ hi → TargetsAre P k → AllLead P (row_flow cs w x b n ss k)
      row_ends w end_of-Stmt b n ss k le ge h = flush_leads w ss (block w.func b) k.next h.next
      row_ends w (more_of-Stmt st rest) b n ss k le ge h =
          let n1 = number_past ss n in
          let z = site_count cs st false in
          let n2 = n1 + z in
          let r = row_size cs rest false in
          let next = head r n2 k.next in
          let kn = with_next k next in
          let low : lo ≤ n1 = omega (arith, le, past_le ss n) in
          let span = λ (is : is_simple st ≡ false). plain_span cs ss st n (row_size cs rest) is in
          let on = λ (is : is_simple st ≡ false). head_leads r n2 k.next (omega (arith, low)) (omega (arith, ge, span is)) h.next in
          row_choose w ss (block w.func b) (head z n1 next) _ (flow cs w st (number_past ss b) n1 kn) (row_flow cs w rest (number_past ss b + blocks st false) n2 [] k) st
          (λ is. row_ends w rest b n (ss ++ st ∷ []) k le (omega (arith, ge, simple_span cs ss st (row_size cs rest) is)) h)
          (λ is. head_leads z n1 next low (omega (arith, ge, span is)) (on is))
          (λ is. st_ends w st (number_past ss b) n1 kn is low (omega (arith, ge, span is)) (next_is k next h (on is)))
          (λ is. row_ends w rest (number_past ss b + blocks st false) n2 [] k (omega (arith, low)) (omega (arith, ge, span is)) h)
          (is_simple st) refl

      pub held_ends : (w : Position) (x : Held-Stmt-For-1) (b n : ℕ) (k : Targets) → lo ≤ n → n + held_size cs x ≤ hi → TargetsAre P k → AllLead P (held_flow cs w x b n k)
      held_ends w None' b n k le ge h = tt
      held_ends w (Some' a x) b n k le ge h = row_ends w x b n [] k le ge h

-- ---- functions

module _ (P : ℕ → Type 0) (lo hi : ℕ) (all : (x : ℕ) → lo ≤ x → x < hi → P x) where
  abbrev IsLed : Copy → Type 0
  IsLed c = (h : List BlockName) (s n l : ℕ) → lo ≤ n → n + c.size ≤ hi → P l → AllLead P (c.sites h s n l)

  abbrev AreLed : List Copy → Type 0
  AreLed [] = Unit {0}
  AreLed (c ∷ cs) = IsLed c × AreLed cs

  led_get : (cs : List Copy) → AreLed cs → (g : ℕ) (c : Copy) → slice_get cs g ≡ Some c → IsLed c
  led_get [] h g c e = absurd (cc)
  led_get (d ∷ cs) h zero c e = let p : d ≡ c = cc in subst IsLed p h.0
  led_get (d ∷ cs) h (suc g) c e = led_get cs h.1 g c e

  led_more : (cs : List Copy) (c : Copy) → AreLed cs → IsLed c → AreLed (cs ++ c ∷ [])
  led_more [] c h is = (is, tt)
  led_more (d ∷ cs) c h is = (h.0, led_more cs c h.1 is)

  copy_led : (cs : List Copy) (k : ℕ) (f : Func) → AreLed cs → IsLed (copy_of k f cs)
  copy_led cs k f h chain s n l le ge p =
      let w : Position = record { func = k; chain = chain; scale = s } in
      let r = hidden-the_row-Stmt-0 f.body in
      let to : TargetsAre P (all_to l) = record { next = p; breaks = p; continues = p; returns = p } in
      subst (AllLead P) (row_flows cs w f.body 0 n [] (all_to l)) (row_ends P lo hi all cs (led_get cs h) w r 0 n [] (all_to l) le (omega (arith, ge, row_sizes cs f.body false)) to)

  all_led : (funcs : List Func) (cs : List Copy) → AreLed cs → AreLed (copies cs funcs)
  all_led [] cs h = h
  all_led (f ∷ fs) cs h =
      all_led fs (cs ++ copy_of (length cs) f cs ∷ []) (led_more cs (copy_of (length cs) f cs) h (copy_led cs (length cs) f h))

  pub copies_led : (funcs : List Func) (g : ℕ) (c : Copy) → slice_get (copies [] funcs) g ≡ Some c → IsLed c
  copies_led funcs g c e = led_get (copies [] funcs) (all_led funcs [] tt) g c e

-- ---- the graph

-- the entry function has its copy
entry_copy : (cs : List Copy) (n : ℕ) → n < length cs → (c : Copy) × (slice_get cs n ≡ Some c)
entry_copy [] n lt = absurd (omega (arith, lt))
entry_copy (c ∷ cs) zero lt = (c, refl)
entry_copy (c ∷ cs) (suc n) lt = entry_copy cs n (omega (arith, lt))

-- a node but Entry
abbrev IsTarget : List Site → ℕ → Type 0
IsTarget g x = (1 ≤ x) × (x < length g)

whole_leads : (p : Program) (c : Copy) → slice_get (copies [] p.funcs) p.entry ≡ Some c → HaveSizes (copies [] p.funcs) → AllLead (IsTarget (sites_of (Some c))) (sites_of (Some c))
whole_leads p c is sizes =
    let g = sites_of (Some c) in
    let len : length g ≡ 2 + c.size = omega (arith, sizes p.entry c is [] 1 2 1) in
    let all : (x : ℕ) → 2 ≤ x → x < 2 + c.size → IsTarget g x = λ x le lt. (omega (arith, le), omega (arith, lt, len)) in
    let exit : IsTarget g 1 = (omega arith, omega (arith, len)) in
    let first = head_leads (IsTarget g) 2 (2 + c.size) all c.size 2 1 (omega arith) (omega arith) exit in
    (record { yes = first; no = first }, (record { yes = exit; no = exit }, copies_led (IsTarget g) 2 (2 + c.size) all p.funcs p.entry c is [] 1 2 1 (omega arith) (omega arith) exit))

pub target_is : (P : ℕ → Type 0) (s : Site) (t : Way) → LeadsOn P s → P (target s t)
target_is P s Next h = h.yes
target_is P s True h = h.yes
target_is P s False h = h.no

pub record JoinsNodes (g : List Site) (e : Edge) : Type 0 where
  pub from : e.from < length g
  pub not_entry : 1 ≤ e.to
  pub to : e.to < length g

site_leads : (g : List Site) → AllLead (IsTarget g) g → (j : ℕ) (e : Edge) → slice_get (edges g) j ≡ Some e → JoinsNodes g e
site_leads g h j e is =
    let s = leaves_source g j e is in
    let to = subst (λ d. IsTarget g d.to) (sym s.edge_is) (target_is (IsTarget g) s.site e.way (lead_at (IsTarget g) g e.from s.site h s.has)) in
    record { from = slice_get_within g e.from s.site s.has; not_entry = to.0; to = to.1 }

graph_leads : (p : Program) → WellFormed p → AllLead (IsTarget (graph p)) (graph p)
unfolding graph
graph_leads p h =
    let cs = copies [] p.funcs in
    let c = entry_copy cs p.entry (omega (arith, h.entry, many_copies [] p.funcs)) in
    subst (λ o. AllLead (IsTarget (sites_of o)) (sites_of o)) (sym c.1) (whole_leads p c.0 c.1 (copy_sizes p.funcs))

pub edges_join : (p : Program) → WellFormed p → (j : ℕ) (e : Edge) → slice_get (edges (graph p)) j ≡ Some e → JoinsNodes (graph p) e
edges_join p h = site_leads (graph p) (graph_leads p h)
