-- A list of statements, over any claims of its parts.
use Rattle.std.proofs.Common.{◌≡◌, ℕ, suc, ◌+◌, ◌≤◌, inr, Bool, true, false, if◌then◌else◌, List, [], ◌∷◌, ◌++◌, Option, Some, None, refl, sym, ap, ◌∙◌, subst, arith}
use Rattle.std.specs.Prelude.{option_and_then}
use Rattle.c_tree.specs.declared.program.BlockName.{BlockName}
use Rattle.c_tree.specs.declared.tree.Stmt.{Stmt, Row_of-Stmt, end_of-Stmt, more_of-Stmt}
use Rattle.c_tree.specs.declared.tree.Stmt.TheVariants.{Empty, Scalar, Array, Assign}
use Rattle.c_tree.specs.declared.value.Slot.{Slot}
use Rattle.c_tree.specs.declared.value.Store.{Store}
use Rattle.c_tree.specs.Meaning.Blocks.{is_simple, blocks}
use Rattle.c_tree.specs.Meaning.Statements.{Callee, Outcome, after, then_do, store_outcome, simple, block, exec}
use Rattle.flow_laws.specs.Sites.{Position, Copy, Site, Targets, flow, flush, head, number_past, row_flow, row_size, site_count, with_next}
use Rattle.flow_laws.specs.Driving.{store_after_all, memory}
use Rattle.flow_laws.proofs.Driving.DrivingSteps.{Counters, Undefined_, at, hit}
use Rattle.flow_laws.proofs.Caps.RunVisits.{Onces, begun_once, once}
use Rattle.flow_laws.proofs.Runs.RunClaims.{Leads, Halts, AllFresh, HasAt, wider, then_leads}
use Rattle.flow_laws.proofs.Graphs.PartSizes.{is_run, spanned, simple_size, simple_blocks, simple_exec, head_plus}
use Rattle.flow_laws.proofs.Runs.StatementParts.{pending_sum, pending_at, entering, pending_leads, pending_halts}
use Rattle.c_tree.proofs.Outcomes.{after_nothing}

-- z nodes from n on do what the outcome says
abbrev pub Claim : List Site → ℕ → ℕ → ℕ → ℕ → Targets → Store → List (List Slot) → Counters → Outcome → Type 0
Claim g x d n z k s fr left o =
    AllFresh n (n + z) (at (head z n k.next) (memory s fr None) left) → Leads g x d n (n + z) k (at (head z n k.next) (memory s fr None) left) fr o

pub claim_at : (g : List Site) (x d d' n z z' : ℕ) (k : Targets) (s : Store) (fr : List (List Slot)) (left : Counters) (o o' : Outcome) → d ≤ d' → z ≡ z' → o ≡ o' → Claim g x d n z k s fr left o → Claim g x d' n z' k s fr left o'
claim_at g x d d' n z z' k s fr left o o' le ez eo h =
    let more : Claim g x d' n z k s fr left o = λ fresh. wider g x d d' n (n + z) n (n + z) k (at (head z n k.next) (memory s fr None) left) fr o le (omega arith) (omega arith) (h fresh) in
    subst (λ y. Claim g x d' n y k s fr left o') ez (subst (λ y. Claim g x d' n z k s fr left y) eo more)

one_simple : (st : Stmt) (o : Option Store) → option_and_then (store_after_all []) o ≡ o
one_simple st None = refl
one_simple st (Some s) = refl

more_simple : (xs : List Stmt) (st : Stmt) → ((s : Store) → store_after_all (xs ++ st ∷ []) s ≡ option_and_then (simple st) (store_after_all xs s)) → (o : Option Store) → option_and_then (store_after_all (xs ++ st ∷ [])) o ≡ option_and_then (simple st) (option_and_then (store_after_all xs) o)
more_simple xs st h None = refl
more_simple xs st h (Some s) = h s

all_append : (ss : List Stmt) (st : Stmt) (s0 : Store) → store_after_all (ss ++ st ∷ []) s0 ≡ option_and_then (simple st) (store_after_all ss s0)
all_append [] st s0 = one_simple st (simple st s0)
all_append (x ∷ xs) st s0 = more_simple xs st (all_append xs st) (simple x s0)

all_more : (ss : List Stmt) (st : Stmt) (s0 s : Store) → store_after_all ss s0 ≡ Some s → store_after_all (ss ++ st ∷ []) s0 ≡ simple st s
all_more ss st s0 s h = all_append ss st s0 ∙ ap (option_and_then (simple st)) h

-- a block that is undefined
choose_halts : (w : Position) (g : List Site) (n t : ℕ) (x0 : Stmt) (ss : List Stmt) (b : BlockName) (s0 : Store) (fr : List (List Slot)) (left : Counters) (p q : List Site) → store_after_all (x0 ∷ ss) s0 ≡ None → (HasAt g n p → Halts g (at n (memory s0 fr None) left) Undefined_) → (c : Bool) → HasAt g n (if c then p else flush w (x0 ∷ ss) b t ++ q) → Halts g (at n (memory s0 fr None) left) Undefined_
choose_halts w g n t x0 ss b s0 fr left p q h next true has = next has
choose_halts w g n t x0 ss b s0 fr left p q h next false has = pending_halts w g n t x0 ss b s0 fr left q has h

pub row_halts : (g : List Site) (fs : List Copy) (w : Position) {m : _} (x : Row_of-Stmt m) (b n : ℕ) (x0 : Stmt) (ss : List Stmt) (k : Targets) (s0 : Store) (fr : List (List Slot)) (left : Counters) → store_after_all (x0 ∷ ss) s0 ≡ None → HasAt g n (row_flow fs w x b n (x0 ∷ ss) k) → Halts g (at n (memory s0 fr None) left) Undefined_
unfolding flow row_flow
row_halts g fs w end_of-Stmt b n x0 ss k s0 fr left h has =
    pending_halts w g n k.next x0 ss (block w.func b) s0 fr left [] has h
row_halts g fs w (more_of-Stmt st rest) b n x0 ss k s0 fr left h has =
    let n1 = n + 1 in
    let n2 = n1 + site_count fs st false in
    let next = head (row_size fs rest false) n2 k.next in
    let more = all_append (x0 ∷ ss) st s0 ∙ ap (option_and_then (simple st)) h in
    choose_halts w g n (head (site_count fs st false) n1 next) x0 ss (block w.func b) s0 fr left (row_flow fs w rest b n ((x0 ∷ ss) ++ st ∷ []) k) (flow fs w st (b + 1) n1 (with_next k next) ++ row_flow fs w rest (b + 1 + blocks st false) n2 [] k) h (λ p. row_halts g fs w rest b n x0 (ss ++ st ∷ []) k s0 fr left more p) (is_simple st) has

pub simple_once : (os : Onces) (cs : List Copy) (st : Stmt) (run : Bool) (x n : ℕ) → is_simple st ≡ true → once os cs st run x n ≡ begun_once run (hit x n)
unfolding once
simple_once os cs Empty run x n h = refl
simple_once os cs (Scalar l e) run x n h = refl
simple_once os cs (Array l es) run x n h = refl
simple_once os cs (Assign p op e) run x n h = refl
simple_once os cs _ run x n h = absurd (cc)

pub plain_once : (os : Onces) (cs : List Copy) (st : Stmt) (run : Bool) (x n : ℕ) → is_simple st ≡ false → once os cs st run x n ≡ once os cs st false x n
unfolding once
plain_once os cs Empty run x n h = absurd (cc)
plain_once os cs (Scalar l e) run x n h = absurd (cc)
plain_once os cs (Array l es) run x n h = absurd (cc)
plain_once os cs (Assign p op e) run x n h = absurd (cc)
plain_once os cs _ run x n h = refl

-- ---- a simple statement, after those that were passed

-- `go` is what follows, by the number of its block and whether a run goes on; `r` is how many nodes follow
module _ (g : List Site) (x0 : ℕ) (n b f : ℕ) (k : Targets) (os : Onces) (fs : List Copy) (cs : List Callee) (s0 s : Store) (fr : List (List Slot)) (left : Counters) (st : Stmt) (is : is_simple st ≡ true) (r : Bool → ℕ) (rd : Bool → ℕ → ℕ) (go : ℕ → Bool → Store → Outcome) where
  first_simple : (o : Option Store) → simple st s ≡ o → (simple st s ≡ None → Halts g (at n (memory s0 fr None) left) Undefined_) → ((s1 : Store) → simple st s ≡ Some s1 → Claim g x0 (hit x0 n + rd true (n + 1)) n (suc (r true)) k s0 fr left (after (block f b ∷ []) (go (b + 1) true s1))) → Claim g x0 (hit x0 n + rd true (n + 1)) n (suc (r true)) k s0 fr left (then_do (after (block f b ∷ []) (store_outcome o)) (go (b + 1) true))
  first_simple None e stuck next fresh = stuck e
  first_simple (Some s1) e stuck next fresh = next s1 e fresh

  next_simple : (o : Option Store) → simple st s ≡ o → (simple st s ≡ None → Halts g (at n (memory s0 fr None) left) Undefined_) → ((s1 : Store) → simple st s ≡ Some s1 → Claim g x0 (hit x0 n + rd true (n + 1)) n (suc (r true)) k s0 fr left (after (block f b ∷ []) (go (b + 1) true s1))) → Claim g x0 (hit x0 n + rd true (n + 1)) n (suc (r true)) k s0 fr left (after (block f b ∷ []) (then_do (after [] (store_outcome o)) (go (b + 1) true)))
  next_simple None e stuck next fresh = stuck e
  next_simple (Some s1) e stuck next fresh =
      claim_at g x0 (hit x0 n + rd true (n + 1)) (hit x0 n + rd true (n + 1)) n (suc (r true)) (suc (r true)) k s0 fr left (after (block f b ∷ []) (go (b + 1) true s1)) (after (block f b ∷ []) (after [] (go (b + 1) true s1))) (omega arith) refl (ap (after (block f b ∷ [])) (sym (after_nothing (go (b + 1) true s1)))) (next s1 e) fresh

  pub simple_row : (ss : List Stmt) → store_after_all ss s0 ≡ Some s → (store_after_all (ss ++ st ∷ []) s0 ≡ None → Halts g (at n (memory s0 fr None) left) Undefined_) → ((s1 : Store) → store_after_all (ss ++ st ∷ []) s0 ≡ Some s1 → Claim g x0 (pending_sum (ss ++ st ∷ []) (hit x0 n) (rd (is_run (ss ++ st ∷ [])) (number_past (ss ++ st ∷ []) n))) n (spanned (ss ++ st ∷ []) (r (is_run (ss ++ st ∷ [])))) k s0 fr left (entering (ss ++ st ∷ []) (block f b) (go (number_past (ss ++ st ∷ []) b) (is_run (ss ++ st ∷ [])) s1))) → Claim g x0 (pending_sum ss (hit x0 n) (once os fs st (is_run ss) x0 (number_past ss n) + rd (is_simple st) (number_past ss n + site_count fs st (is_run ss)))) n (spanned ss (site_count fs st (is_run ss) + r (is_simple st))) k s0 fr left (entering ss (block f b) (then_do (exec cs f st (number_past ss b) (is_run ss) s) (go (number_past ss b + blocks st (is_run ss)) (is_simple st))))
  simple_row [] all stuck next =
      let z : suc (r true) ≡ site_count fs st false + r (is_simple st) = omega (arith, simple_size fs st false is, ap r is) in
      let nb : b + 1 ≡ b + blocks st false = omega (arith, simple_blocks st false is) in
      let more = all_more [] st s0 s all in
      let nn : n + 1 ≡ n + site_count fs st false = omega (arith, simple_size fs st false is) in
      let same : rd true (n + 1) ≡ rd (is_simple st) (n + site_count fs st false) = (λ i. rd (sym is i) (nn i)) in
      let sum : hit x0 n + rd true (n + 1) ≤ once os fs st false x0 n + rd (is_simple st) (n + site_count fs st false) = omega (arith, same, simple_once os fs st false x0 n is) in
      let se = sym (simple_exec cs f st b false s is) in
      let si = sym is in
      claim_at g x0 (hit x0 n + rd true (n + 1)) (once os fs st false x0 n + rd (is_simple st) (n + site_count fs st false)) n (suc (r true)) (site_count fs st false + r (is_simple st)) k s0 fr left (then_do (after (block f b ∷ []) (store_outcome (simple st s))) (go (b + 1) true)) (then_do (exec cs f st b false s) (go (b + blocks st false) (is_simple st))) sum z (λ i. then_do (se i) (go (nb i) (si i))) (first_simple (simple st s) refl (λ e. stuck (more ∙ e)) (λ s1 e. next s1 (more ∙ e)))
  simple_row (x ∷ ss) all stuck next =
      let z : suc (r true) ≡ suc (site_count fs st true + r (is_simple st)) = omega (arith, simple_size fs st true is, ap r is) in
      let nb : b + 1 ≡ b + 1 + blocks st true = omega (arith, simple_blocks st true is) in
      let more = all_more (x ∷ ss) st s0 s all in
      let nn : n + 1 ≡ n + 1 + site_count fs st true = omega (arith, simple_size fs st true is) in
      let same : rd true (n + 1) ≡ rd (is_simple st) (n + 1 + site_count fs st true) = (λ i. rd (sym is i) (nn i)) in
      let sum : hit x0 n + rd true (n + 1) ≤ hit x0 n + (once os fs st true x0 (n + 1) + rd (is_simple st) (n + 1 + site_count fs st true)) = omega (arith, same) in
      let se = sym (simple_exec cs f st (b + 1) true s is) in
      let si = sym is in
      claim_at g x0 (hit x0 n + rd true (n + 1)) (hit x0 n + (once os fs st true x0 (n + 1) + rd (is_simple st) (n + 1 + site_count fs st true))) n (suc (r true)) (suc (site_count fs st true + r (is_simple st))) k s0 fr left (after (block f b ∷ []) (then_do (after [] (store_outcome (simple st s))) (go (b + 1) true))) (after (block f b ∷ []) (then_do (exec cs f st (b + 1) true s) (go (b + 1 + blocks st true) (is_simple st)))) sum z (λ i. after (block f b ∷ []) (then_do (se i) (go (nb i) (si i)))) (next_simple (simple st s) refl (λ e. stuck (more ∙ e)) (λ s1 e. next s1 (more ∙ e)))

-- ---- another statement, after the simple ones that were passed

span_end : (ss : List Stmt) (n m : ℕ) → n + spanned ss m ≡ number_past ss n + m
span_end [] n m = refl
span_end (x ∷ ss) n m = omega arith

span_head : (ss : List Stmt) (n z r next : ℕ) → pending_at ss n (head z (number_past ss n) (head r (number_past ss n + z) next)) ≡ head (spanned ss (z + r)) n next
span_head [] n z r next = sym (head_plus z r n next)
span_head (x ∷ ss) n z r next = refl

pub past_le : (ss : List Stmt) (n : ℕ) → n ≤ number_past ss n
past_le [] n = omega arith
past_le (x ∷ ss) n = omega arith

pub plain_row : (w : Position) (g : List Site) (x0 dz dr n z r : ℕ) (k : Targets) (ss : List Stmt) (b : BlockName) (s0 s : Store) (fr : List (List Slot)) (left : Counters) (o : Outcome) (go : Store → Outcome) (rest : List Site) → store_after_all ss s0 ≡ Some s → (let n1 = number_past ss n in let next = head r (n1 + z) k.next in HasAt g n (flush w ss b (head z n1 next) ++ rest) → ((left : Counters) → Claim g x0 dz n1 z (with_next k next) s fr left o) → ((s : Store) (left : Counters) → Claim g x0 dr (n1 + z) r k s fr left (go s)) → Claim g x0 (pending_sum ss (hit x0 n) (dz + dr)) n (spanned ss (z + r)) k s0 fr left (entering ss b (then_do o go)))
plain_row w g x0 dz dr n z r k ss b s0 s fr left o go rest all has first second =
    subst (λ hi. AllFresh n hi (at (head (spanned ss (z + r)) n k.next) (memory s0 fr None) left) → Leads g x0 d n hi k (at (head (spanned ss (z + r)) n k.next) (memory s0 fr None) left) fr (entering ss b (then_do o go))) (sym ends) (subst (λ c. AllFresh n (n2 + r) (at c (memory s0 fr None) left) → Leads g x0 d n (n2 + r) k (at c (memory s0 fr None) left) fr (entering ss b (then_do o go))) (span_head ss n z r k.next) whole)
  where
    d : ℕ
    d = pending_sum ss (hit x0 n) (dz + dr)

    n1 : ℕ
    n1 = number_past ss n

    n2 : ℕ
    n2 = n1 + z

    next : ℕ
    next = head r n2 k.next

    ends : n + spanned ss (z + r) ≡ n2 + r
    ends = omega (arith, span_end ss n (z + r))

    whole : AllFresh n (n2 + r) (at (pending_at ss n (head z n1 next)) (memory s0 fr None) left) → Leads g x0 d n (n2 + r) k (at (pending_at ss n (head z n1 next)) (memory s0 fr None) left) fr (entering ss b (then_do o go))
    whole fresh =
        pending_leads w g x0 (dz + dr) n (n2 + r) n (head z n1 next) k ss b s0 s fr left (then_do o go) rest (omega arith) (omega arith) has all fresh (λ left1 fresh1. then_leads g x0 dz dr (dz + dr) n1 n2 n (n2 + r) next k (at (head z n1 next) (memory s fr None) left1) fr o go (omega arith) (past_le ss n) (omega arith) (first left1 (λ l ge low. fresh1 l ge (omega (arith, low)))) (λ s2 left2 after2. wider g x0 dr dr n2 (n2 + r) n (n2 + r) k (at next (memory s2 fr None) left2) fr (go s2) (omega arith) (omega (arith, past_le ss n)) (omega arith) (second s2 left2 (λ l ge low. after2.fresh l (inr ge) (fresh1 l (omega (arith, ge)) low)))))
