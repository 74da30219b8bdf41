-- A run of a statement is driven through its part of the graph.
use Rattle.std.proofs.Common.{◌≡◌, ℕ, suc, ◌+◌, ◌-◌, ◌*◌, ◌<◌, ◌≤◌, inr, Bool, true, false, if◌then◌else◌, List, [], ◌∷◌, ◌++◌, length, Option, Some, None, refl, sym, ap, subst, arith}
use Rattle.std.specs.Prelude.{slice_get, option_map}
use Rattle.c_tree.specs.declared.tree.Ty.{Ty}
use Rattle.c_tree.specs.declared.program.BlockName.{BlockName}
use Rattle.c_tree.specs.declared.tree.Expr.{Expr}
use Rattle.c_tree.specs.declared.tree.Target.{Target}
use Rattle.c_tree.specs.declared.tree.Target.TheVariants.{Nothing, Assign as Into, Declare}
use Rattle.c_tree.specs.declared.tree.Var.TheVariants.{Local}
use Rattle.c_tree.specs.declared.tree.Stmt.{Stmt, Row_of-Stmt, end_of-Stmt, more_of-Stmt, Held-Stmt-For-1, None', Some'}
use Rattle.c_tree.specs.declared.tree.Stmt.TheVariants.{Empty, Scalar, Array, Assign, Call, Break, Continue, Return, If', While', Do', For', Group'}
use Rattle.c_tree.specs.declared.value.Value.{Value}
use Rattle.c_tree.specs.declared.value.Slot.{Slot}
use Rattle.c_tree.specs.declared.value.Store.{Store}
use Rattle.c_tree.specs.declared.value.Way.{Way}
use Rattle.c_tree.specs.declared.value.Way.TheVariants as way
use Rattle.c_tree.specs.Meaning.Values.{is_nonzero}
use Rattle.c_tree.specs.Meaning.Expressions.{val, all_values}
use Rattle.c_tree.specs.Meaning.Blocks.{is_simple, blocks, row_blocks, held_blocks}
use Rattle.c_tree.specs.Meaning.Statements.{unset_target, Callee, Back, Gives, CallUndefined, CallOverBound, Outcome, Ends, Undefined, OverBound, after, then_do, block, exec, row_exec, held_exec, call, come_back, give, return_value, while_turns, do_turns, with_value}
use Rattle.c_tree.specs.Meaning.Stores.{with_globals, put_number}
use Rattle.c_tree.specs.Meaning.Runs.{entry_slots, result_of}
use Rattle.flow_laws.specs.declared.graph.Way.TheVariants.{Next}
use Rattle.flow_laws.specs.Sites.{Position, times_as_often, Content, Copy, Enter, Give, Jump, Land, LoopCopy, Missing, Site, Targets, asks, body_of, call_sites, call_size, do_sites, flow, flush, for_sites, head, held_flow, held_size, if_sites, loop_at, one_end_site, number_past, row_flow, row_size, site_count, while_sites, with_next}
use Rattle.flow_laws.specs.Driving.{content_move, Move, Goes, Memory, Stuck, store_after_all, goes_with, landing_move, memory}
use Rattle.flow_laws.proofs.Driving.DrivingSteps.{is_over, Broken, Counters, State, Undefined_, at, hit, passed}
use Rattle.flow_laws.proofs.Caps.RunVisits.{Onces, call_once, once, row_once, held_once}
use Rattle.flow_laws.proofs.Caps.DoBoundsPositive.{IsFair, AreFair, HeldFair}
use Rattle.flow_laws.proofs.Driving.DrivenLists.{within_wider}
use Rattle.flow_laws.proofs.Runs.RunClaims.{aim, brought, Reaches, Halts, Leads, AllFresh, HasAt, has_front, has_back, wider, before, halts_here, then_leads, step_leads, status_stuck}
use Rattle.flow_laws.proofs.Graphs.PartSizes.{is_run, spanned, HaveSizes, head_plus, flow_length, row_length, held_length, plain_size, plain_blocks, plain_exec}
use Rattle.flow_laws.proofs.Runs.StatementParts.{pending_sum, edge, fresh_above, here_leads, if_leads, while_leads, do_leads, head_self, entering, pending_leads}
use Rattle.flow_laws.proofs.Runs.StatementLists.{plain_once, Claim, claim_at, row_halts, simple_row, plain_row}
use Rattle.plain_laws.proofs.Numbers.{successor_of_predecessor}

-- ---- callees

-- a callee's copy leads to its landing, with its result
pub record BackReaches (g : List Site) (x d lo hi landing : ℕ) (a : State) (fs : List (List Slot)) (ty : Option Ty) (t : List BlockName) (gs : List Slot) (r : Option Value) : Type 0 where
  pub locals : List Slot
  pub value : Option Value
  pub reaches : Reaches g x d lo hi a t landing (memory (record { locals = locals; globals = gs }) fs value)
  pub result_is : r ≡ result_of ty value

abbrev pub BackLeads : List Site → ℕ → ℕ → ℕ → ℕ → ℕ → State → List (List Slot) → Option Ty → Back → Type 0
BackLeads g x d lo hi landing a fs ty (Gives t gs r) = BackReaches g x d lo hi landing a fs ty t gs r
BackLeads g x d lo hi landing a fs ty CallUndefined = Halts g a Undefined_
BackLeads g x d lo hi landing a fs ty CallOverBound = Halts g a Broken

pub record IsCopy (g : List Site) (c : Copy) (callee : Callee) (most : ℕ → ℕ → ℕ) : Type 0 where
  pub size_is : (h : List BlockName) (s n l : ℕ) → length (c.sites h s n l) ≡ c.size
  pub leads : (h : List BlockName) (sc x n landing : ℕ) → HasAt g n (c.sites h sc n landing) → (vs : List Value) (gs : List Slot) (fs : List (List Slot)) (left : Counters) → (let a = at (head c.size n landing) (memory (record { locals = entry_slots c.locals vs; globals = gs }) fs None) left in AllFresh n (n + c.size) a → BackLeads g x (most x n) n (n + c.size) landing a fs c.result (callee vs gs))

abbrev pub Matched : List Site → Option Copy → Option Callee → (ℕ → ℕ → ℕ) → Type 0
Matched g None None most = Unit {0}
Matched g None (Some y) most = ⊥
Matched g (Some c) None most = ⊥
Matched g (Some c) (Some y) most = IsCopy g c y most

abbrev pub Agree : List Site → List Copy → List Callee → Onces → Type 0
Agree g fs cs os = (i : ℕ) → Matched g (slice_get fs i) (slice_get cs i) (os i)

matched_size : (g : List Site) (c : Copy) (o : Option Callee) (most : ℕ → ℕ → ℕ) → Matched g (Some c) o most → (h : List BlockName) (s n l : ℕ) → length (c.sites h s n l) ≡ c.size
matched_size g c None most h = absurd h
matched_size g c (Some y) most h = h.size_is

pub have_sizes : (g : List Site) (fs : List Copy) (cs : List Callee) (os : Onces) → Agree g fs cs os → HaveSizes fs
have_sizes g fs cs os h i c e =
    let P : Option Copy → Type 0 = λ o. Matched g o (slice_get cs i) (os i) in
    matched_size g c (slice_get cs i) (os i) (subst P e (h i))

-- ---- nodes with one end

pub arrive_leads : (g : List Site) (x d lo hi : ℕ) (k : Targets) (s : Store) (fs : List (List Slot)) (left : Counters) (w : Way) → Leads g x d lo hi k (at (aim k w) (memory s fs (brought w)) left) fs (Ends [] s w)
arrive_leads g x d lo hi k s fs left w = record { path = []; left = left; driven = refl; within = tt; trace = refl; capped = omega arith }

pub one_leads : (at_w : Position) (g : List Site) (x lo hi n : ℕ) (k : Targets) (c : Content) (b : BlockName) (s : Store) (fs : List (List Slot)) (left : Counters) (w : Way) (t : ℕ) → lo ≤ n → n < hi → aim k w ≡ t → slice_get g n ≡ Some (one_end_site at_w c (Some b) t) → content_move c (memory s fs None) ≡ Goes Next (memory s fs (brought w)) → is_over c Next left ≡ false → Leads g x (hit x n) lo hi k (at n (memory s fs None) left) fs (Ends (b ∷ []) s w)
one_leads at_w g x lo hi n k c b s fs left w t le lt e has moves over =
    step_leads g x 0 (hit x n) lo hi k n (memory s fs None) (memory s fs (brought w)) left fs (one_end_site at_w c (Some b) t) Next (Ends [] s w) (omega arith) le lt has moves over (let left' = passed (edge n Next t) left in let P : ℕ → Type 0 = λ y. Leads g x 0 lo hi k (at y (memory s fs (brought w)) left') fs (Ends [] s w) in subst P e (arrive_leads g x 0 lo hi k s fs left' w))

-- ---- the statements

pub return_leads : (w : Position) (g : List Site) (x lo hi n : ℕ) (k : Targets) (e : Option Expr) (b : BlockName) (s : Store) (fs : List (List Slot)) (left : Counters) → lo ≤ n → n < hi → slice_get g n ≡ Some (one_end_site w (Give e) (Some b) k.returns) → Leads g x (hit x n) lo hi k (at n (memory s fs None) left) fs (after (b ∷ []) (return_value e s))
return_leads w g x lo hi n k None b s fs left le lt has =
    one_leads w g x lo hi n k (Give None) b s fs left (way.Return None) k.returns le lt refl has refl refl
return_leads w g x lo hi n k (Some e) b s fs left le lt has = by_value (val e s) refl
  where
    by_value : (o : Option Value) → val e s ≡ o → Leads g x (hit x n) lo hi k (at n (memory s fs None) left) fs (after (b ∷ []) (with_value o (λ v. Ends [] s (way.Return (Some v)))))
    by_value None ev =
        halts_here g (at n (memory s fs None) left) Undefined_ (status_stuck g n (memory s fs None) left (one_end_site w (Give (Some e)) (Some b) k.returns) has (ap (λ o. goes_with (option_map (λ v. memory s fs (Some v)) o)) ev))
    by_value (Some v) ev =
        one_leads w g x lo hi n k (Give (Some e)) b s fs left (way.Return (Some v)) k.returns le lt refl has (ap (λ o. goes_with (option_map (λ v. memory s fs (Some v)) o)) ev) refl

-- ---- lists

pub pick : {T : Type 0} (g : List Site) (n : ℕ) (p q : List Site) (b c : Bool) → b ≡ c → (b ≡ true → HasAt g n p → T) → (b ≡ false → HasAt g n q → T) → HasAt g n (if c then p else q) → T
pick g n p q b true e one_end_site two has = one_end_site e has
pick g n p q b false e one_end_site two has = two e has

end_row : (w : Position) (g : List Site) (x0 n : ℕ) (k : Targets) (ss : List Stmt) (b : BlockName) (s0 s : Store) (fr : List (List Slot)) (left : Counters) → store_after_all ss s0 ≡ Some s → HasAt g n (flush w ss b k.next) → Claim g x0 (pending_sum ss (hit x0 n) 0) n (spanned ss 0) k s0 fr left (entering ss b (Ends [] s way.Next))
end_row w g x0 n k [] b s0 s fr left all has fresh =
    let e : s0 ≡ s = cc in
    let hi = n + 0 in
    subst (λ x. Leads g x0 0 n hi k (at k.next (memory s0 fr None) left) fr (Ends [] x way.Next)) e (here_leads g x0 0 n hi k.next k s0 fr left refl)
end_row w g x0 n k (x ∷ ss) b s0 s fr left all has fresh =
    pending_leads w g x0 0 n (n + 1) n k.next k (x ∷ ss) b s0 s fr left (Ends [] s way.Next) [] (omega arith) (omega arith) has all fresh (λ left1 fresh1. here_leads g x0 0 n (n + 1) k.next k s fr left1 refl)

more_halts : (g : List Site) (fs : List Copy) (w : Position) {m : _} (x : Row_of-Stmt m) (b n : ℕ) (ss : List Stmt) (st : Stmt) (k : Targets) (s0 : Store) (fr : List (List Slot)) (left : Counters) → HasAt g n (row_flow fs w x b n (ss ++ st ∷ []) k) → store_after_all (ss ++ st ∷ []) s0 ≡ None → Halts g (at n (memory s0 fr None) left) Undefined_
more_halts g fs w x b n [] st k s0 fr left has h = row_halts g fs w x b n st [] k s0 fr left h has
more_halts g fs w x b n (y ∷ ss) st k s0 fr left has h = row_halts g fs w x b n y (ss ++ st ∷ []) k s0 fr left h has

pub past_flush : (w : Position) (ss : List Stmt) (b : BlockName) (n t : ℕ) → n + length (flush w ss b t) ≡ number_past ss n
past_flush w [] b n t = omega arith
past_flush w (x ∷ ss) b n t = refl

-- ---- calls

-- the landing assigns the result
land_leads : (w : Position) (g : List Site) (x0 lo hi n : ℕ) (k : Targets) (t : Target) (ty : Option Ty) (call_block : BlockName) (ls : List Slot) (fs : List (List Slot)) (locals gs : List Slot) (value : Option Value) (left : Counters) → lo ≤ n → n < hi → slice_get g n ≡ Some (one_end_site w (Land t ty call_block) None k.next) → (r : Option Value) → result_of ty value ≡ r → Leads g x0 (hit x0 n) lo hi k (at n (memory (record { locals = locals; globals = gs }) (ls ∷ fs) value) left) fs (give t r (record { locals = ls; globals = gs }))
land_leads w g x0 lo hi n k t ty call_block ls fs locals gs value left le lt has r er = by_target t r has er
  where
    m : Memory
    m = memory (record { locals = locals; globals = gs }) (ls ∷ fs) value

    s : Store
    s = record { locals = ls; globals = gs }

    goes : (t : Target) (s1 : Store) → slice_get g n ≡ Some (one_end_site w (Land t ty call_block) None k.next) → landing_move t (result_of ty value) ls fs gs ≡ Goes Next (memory s1 fs None) → Leads g x0 (hit x0 n) lo hi k (at n m left) fs (Ends [] s1 way.Next)
    goes t s1 has e =
        step_leads g x0 0 (hit x0 n) lo hi k n m (memory s1 fs None) left fs (one_end_site w (Land t ty call_block) None k.next) Next (Ends [] s1 way.Next) (omega arith) le lt has e refl (here_leads g x0 0 lo hi k.next k s1 fs (passed (edge n Next k.next) left) refl)

    sticks : (t : Target) → slice_get g n ≡ Some (one_end_site w (Land t ty call_block) None k.next) → landing_move t (result_of ty value) ls fs gs ≡ Stuck → Halts g (at n m left) Undefined_
    sticks t has e = halts_here g (at n m left) Undefined_ (status_stuck g n m left (one_end_site w (Land t ty call_block) None k.next) has e)

    by_target : (t : Target) (r : Option Value) → slice_get g n ≡ Some (one_end_site w (Land t ty call_block) None k.next) → result_of ty value ≡ r → Leads g x0 (hit x0 n) lo hi k (at n m left) fs (give t r s)
    by_target Nothing r has er = goes Nothing s has refl
    by_target (Into x) None has er = sticks (Into x) has (ap (λ r. landing_move (Into x) r ls fs gs) er)
    by_target (Into x) (Some v) has er =
        goes (Into x) (put_number s x v) has (ap (λ r. landing_move (Into x) r ls fs gs) er)
    by_target (Declare l) None has er = sticks (Declare l) has (ap (λ r. landing_move (Declare l) r ls fs gs) er)
    by_target (Declare l) (Some v) has er =
        goes (Declare l) (put_number s (Local l) v) has (ap (λ r. landing_move (Declare l) r ls fs gs) er)

-- what a copy comes back with, and its landing
back_leads : (w : Position) (g : List Site) (x d n z : ℕ) (k : Targets) (t : Target) (ty : Option Ty) (call_block : BlockName) (s : Store) (fs : List (List Slot)) (a : State) (back : Back) → slice_get g (n + 1 + z) ≡ Some (one_end_site w (Land t ty call_block) None k.next) → BackLeads g x d (n + 1) (n + 1 + z) (n + 1 + z) a (s.locals ∷ fs) ty back → Leads g x (d + hit x (n + 1 + z)) n (n + suc (suc z)) k a fs (come_back t s back)
back_leads w g x d n z k t ty call_block s fs a (Gives u gs r) has h =
    let landing = n + 1 + z in
    let b : State = at landing (memory (record { locals = h.locals; globals = gs }) (s.locals ∷ fs) h.value) h.reaches.left in
    before g x d (hit x landing) n (n + suc (suc z)) k h.reaches.path a b fs u (give t r (with_globals s gs)) h.reaches.driven (within_wider (n + 1) landing n (n + suc (suc z)) h.reaches.path (omega arith) (omega arith) h.reaches.within) h.reaches.trace h.reaches.capped (land_leads w g x n (n + suc (suc z)) landing k t ty call_block s.locals fs h.locals gs h.value h.reaches.left (omega arith) (omega arith) has r (sym h.result_is))
back_leads w g x d n z k t ty call_block s fs a CallUndefined has h = h
back_leads w g x d n z k t ty call_block s fs a CallOverBound has h = h

call_whole : (w : Position) (g : List Site) (x n : ℕ) (most : ℕ → ℕ → ℕ) (k : Targets) (o : Option Copy) (y : Option Callee) (t : Target) (es : List Expr) (b : BlockName) (s : Store) (fs : List (List Slot)) (left : Counters) → Matched g o y most → HasAt g n (call_sites w o t es b n k.next) → Claim g x (call_once most o x n) n (call_size o) k s fs left (after (b ∷ []) (call y t (all_values es (unset_target t s)) (unset_target t s)))
call_whole w g x n most k None (Some y) t es b s fs left m has = absurd m
call_whole w g x n most k (Some c) None t es b s fs left m has = absurd m
call_whole w g x n most k None None t es b s fs left m has = λ fresh. halts_here g (at n (memory s fs None) left) Undefined_ (status_stuck g n (memory s fs None) left (one_end_site w Missing (Some b) (n + 1)) has.0 refl)
call_whole w g x n most k (Some c) (Some y) t es b s fs left m has = λ fresh. by_values (all_values es s') refl
  where
    s' : Store
    s' = unset_target t s

    landing : ℕ
    landing = n + 1 + c.size

    chain : List BlockName
    chain = w.chain ++ b ∷ []

    enter : Site
    enter = one_end_site w (Enter t c.locals es) (Some b) (head c.size (n + 1) landing)

    start : List Value → Memory
    start vs = memory (record { locals = entry_slots c.locals vs; globals = s'.globals }) (s'.locals ∷ fs) None

    moves : Option (List Value) → Move
    moves o = goes_with (option_map start o)

    by_values : (o : Option (List Value)) → all_values es s' ≡ o → Leads g x (call_once most (Some c) x n) n (n + suc (suc c.size)) k (at n (memory s fs None) left) fs (after (b ∷ []) (call (Some y) t o s'))
    by_values None ev =
        halts_here g (at n (memory s fs None) left) Undefined_ (status_stuck g n (memory s fs None) left enter has.0 (ap moves ev))
    by_values (Some vs) ev =
        let left1 = passed (edge n Next (head c.size (n + 1) landing)) left in
        let a1 : State = at (head c.size (n + 1) landing) (start vs) left1 in
        let land_at = (has_back g (n + 1) landing (c.sites chain w.scale (n + 1) landing) (one_end_site w (Land t c.result b) None k.next ∷ []) (omega (arith, m.size_is chain w.scale (n + 1) landing)) has.1).0 in
        let copy = m.leads chain w.scale x (n + 1) landing (has_front g (n + 1) (c.sites chain w.scale (n + 1) landing) (one_end_site w (Land t c.result b) None k.next ∷ []) has.1) vs s'.globals (s'.locals ∷ fs) left1 (fresh_above n (n + 1) (n + 1 + c.size) (head c.size (n + 1) landing) Next (start vs) left (omega arith)) in
        step_leads g x (most x (n + 1) + hit x landing) (call_once most (Some c) x n) n (n + suc (suc c.size)) k n (memory s fs None) (start vs) left fs enter Next (come_back t s' (y vs s'.globals)) (omega arith) (omega arith) (omega arith) has.0 (ap moves ev) refl (back_leads w g x (most x (n + 1)) n c.size k t c.result b s' fs a1 (y vs s'.globals) land_at copy)

-- ---- whole statements, over claims of their parts

if_whole : (w : Position) (g : List Site) (x dp dq n m r : ℕ) (k : Targets) (e : Expr) (b : BlockName) (s : Store) (fr : List (List Slot)) (left : Counters) (op oq : Outcome) (p q : List Site) → length p ≡ m → HasAt g n (if_sites w e b n m r k.next p q) → (HasAt g (n + 1) p → (left : Counters) → Claim g x dp (n + 1) m k s fr left op) → (HasAt g (n + 1 + m) q → (left : Counters) → Claim g x dq (n + 1 + m) r k s fr left oq) → Claim g x (hit x n + (dp + dq)) n (suc (m + r)) k s fr left (after (b ∷ []) (with_value (val e s) (λ v. if is_nonzero v then op else oq)))
if_whole w g x dp dq n m r k e b s fr left op oq p q len has cp cq fresh =
    if_leads w g x dp dq n m r k e b s fr left op oq has.0 (cp (has_front g (n + 1) p q has.1)) (cq (has_back g (n + 1) (n + 1 + m) p q (omega (arith, len)) has.1))

while_whole : (w : Position) (g : List Site) (x db l n m : ℕ) (k : Targets) (e : Expr) (b : BlockName) (s : Store) (fr : List (List Slot)) (left : Counters) (body : Store → Outcome) (p : List Site) → HasAt g n (while_sites w l e b n m k.next p) → (HasAt g (n + 1) p → (s : Store) (left : Counters) → Claim g x db (n + 1) m (body_of k n) s fr left (body s)) → Claim g x (suc l * hit x n + l * db) n (suc m) k s fr left (while_turns l b e body (λ s'. Ends [] s' way.Next) s)
while_whole w g x db l n m k e b s fr left body p has cp fresh =
    let loop = loop_at n (n + 1 + m) n l false in
    wider g x (suc l * hit x n + l * (0 + db)) (suc l * hit x n + l * db) n (n + 1 + m) n (n + suc m) k (at n (memory s fr None) left) fr (while_turns l b e body (λ s'. Ends [] s' way.Next) s) (omega arith) (omega arith) (omega arith) (while_leads (times_as_often w (l + 1)) g x db 0 k loop e b n (n + 1) (n + 1 + m) (head m (n + 1) n) n fr body (λ s'. Ends [] s' way.Next) (omega arith) (omega arith) refl refl refl has.0 (cp has.1) (λ s1 left1 fresh1. here_leads g x 0 (n + 1) (n + 1) n (with_next k n) s1 fr left1 refl) l s left (fresh loop (omega arith) (omega arith) refl))

do_whole : (w : Position) (g : List Site) (x db l n m : ℕ) (k : Targets) (e : Expr) (b : BlockName) (s : Store) (fr : List (List Slot)) (left : Counters) (body : Store → Outcome) (p : List Site) → 1 ≤ l → length p ≡ m → HasAt g n (do_sites w l e b n m k.next p) → (HasAt g n p → (s : Store) (left : Counters) → Claim g x db n m (body_of k (n + m)) s fr left (body s)) → Claim g x (l * (db + hit x (n + m))) n (suc m) k s fr left (do_turns l b e body s)
do_whole w g x db l n m k e b s fr left body p some len has cp fresh =
    let c = n + m in
    let loop = loop_at n (c + 1) c l true in
    let here = has_back g n c p (asks (times_as_often w l) (Some loop) e b n k.next ∷ []) (omega (arith, len)) has in
    let claim = λ (s1 : Store) (left1 : Counters). subst (λ y. AllFresh n c (at y (memory s1 fr None) left1) → Leads g x db n c (body_of k c) (at y (memory s1 fr None) left1) fr (body s1)) (head_self m n) (cp (has_front g n p (asks (times_as_often w l) (Some loop) e b n k.next ∷ []) has) s1 left1) in
    let fresh1 : AllFresh n c (at n (memory s fr None) left) = λ y ge low. fresh y ge (omega (arith, low)) in
    let done = do_leads (times_as_often w l) g x db k loop e b n c fr body (omega arith) refl refl refl here.0 claim (l - 1) s left (fresh loop (omega arith) (omega arith) refl) fresh1 in
    wider g x (l * (db + hit x c)) (l * (db + hit x c)) n (c + 1) n (n + suc m) k (at n (memory s fr None) left) fr (do_turns l b e body s) (omega arith) (omega arith) (omega arith) (subst (λ y. Leads g x (y * (db + hit x c)) n (c + 1) k (at n (memory s fr None) left) fr (do_turns y b e body s)) (successor_of_predecessor l some) done)

for_whole : (w : Position) (g : List Site) (x di dj db l n z r m : ℕ) (k : Targets) (e : Expr) (b : BlockName) (s : Store) (fr : List (List Slot)) (left : Counters) (first : Outcome) (step body : Store → Outcome) (i p q : List Site) → length i ≡ z → length p ≡ r → (let c = n + z in let again = head r (c + 1) c in HasAt g n (i ++ for_sites w l e b c r m k.next p q) → (HasAt g n i → (left : Counters) → Claim g x di n z (with_next k c) s fr left first) → (HasAt g (c + 1) p → (s : Store) (left : Counters) → Claim g x dj (c + 1) r (with_next k c) s fr left (step s)) → (HasAt g (c + 1 + r) q → (s : Store) (left : Counters) → Claim g x db (c + 1 + r) m (body_of k again) s fr left (body s)) → Claim g x (di + (suc l * hit x c + l * (dj + db))) n (z + suc (r + m)) k s fr left (then_do first (while_turns l b e body step)))
for_whole w g x di dj db l n z r m k e b s fr left first step body i p q leni lenp has ci cp cq =
    subst (λ y. AllFresh n hi (at y (memory s fr None) left) → Leads g x (di + dw) n hi k (at y (memory s fr None) left) fr (then_do first (while_turns l b e body step))) (sym (head_plus z (suc (r + m)) n k.next)) whole
  where
    c : ℕ
    c = n + z

    dw : ℕ
    dw = suc l * hit x (n + z) + l * (dj + db)

    nx : ℕ
    nx = c + 1 + r

    hi : ℕ
    hi = n + (z + suc (r + m))

    again : ℕ
    again = head r (c + 1) c

    loop : LoopCopy
    loop = loop_at c (nx + m) c l false

    here : HasAt g c (for_sites w l e b c r m k.next p q)
    here = has_back g n c i (for_sites w l e b c r m k.next p q) (omega (arith, leni)) has

    turns : (s : Store) (left : Counters) → left loop ≡ Some l → Leads g x dw c (nx + m) k (at c (memory s fr None) left) fr (while_turns l b e body step s)
    turns s1 left1 full =
        while_leads (times_as_often w (l + 1)) g x db dj k loop e b c nx (nx + m) (head m nx again) again fr body step (omega arith) (omega arith) refl refl refl here.0 (cq (has_back g (c + 1) nx p q (omega (arith, lenp)) here.1)) (cp (has_front g (c + 1) p q here.1)) l s1 left1 full

    whole : AllFresh n hi (at (head z n c) (memory s fr None) left) → Leads g x (di + dw) n hi k (at (head z n c) (memory s fr None) left) fr (then_do first (while_turns l b e body step))
    whole fresh =
        then_leads g x di dw (di + dw) n c n hi c k (at (head z n c) (memory s fr None) left) fr first (while_turns l b e body step) (omega arith) (omega arith) (omega arith) (ci (has_front g n i (for_sites w l e b c r m k.next p q) has) left (λ y ge low. fresh y ge (omega (arith, low)))) (λ s1 left1 after1. wider g x dw dw c (nx + m) n hi k (at c (memory s1 fr None) left1) fr (while_turns l b e body step s1) (omega arith) (omega arith) (omega arith) (turns s1 left1 (after1.fresh loop (inr (omega arith)) (fresh loop (omega arith) (omega arith)) refl)))

plain_whole : (w : Position) (g : List Site) (x0 dz dr n z r : ℕ) (k : Targets) (ss : List Stmt) (b : BlockName) (s0 s : Store) (fr : List (List Slot)) (left : Counters) (o : Outcome) (go : Store → Outcome) (p q : List Site) → length p ≡ z → store_after_all ss s0 ≡ Some s → (let n1 = number_past ss n in let next = head r (n1 + z) k.next in HasAt g n (flush w ss b (head z n1 next) ++ (p ++ q)) → (HasAt g n1 p → (left : Counters) → Claim g x0 dz n1 z (with_next k next) s fr left o) → (HasAt g (n1 + z) q → (s : Store) (left : Counters) → Claim g x0 dr (n1 + z) r k s fr left (go s)) → Claim g x0 (pending_sum ss (hit x0 n) (dz + dr)) n (spanned ss (z + r)) k s0 fr left (entering ss b (then_do o go)))
plain_whole w g x0 dz dr n z r k ss b s0 s fr left o go p q len all has cp cq =
    let n1 = number_past ss n in
    let t = head z n1 (head r (n1 + z) k.next) in
    let here = has_back g n n1 (flush w ss b t) (p ++ q) (past_flush w ss b n t) has in
    plain_row w g x0 dz dr n z r k ss b s0 s fr left o go (p ++ q) all has (cp (has_front g n1 p q here)) (cq (has_back g n1 (n1 + z) p q (omega (arith, len)) here))

module _ (g : List Site) (fs : List Copy) (cs : List Callee) (os : Onces) (agree : Agree g fs cs os) (x0 : ℕ) where
  sizes : HaveSizes fs
  sizes = have_sizes g fs cs os agree

  mutual
    unfolding site_count row_size held_size flow row_flow held_flow exec row_exec held_exec IsFair AreFair HeldFair once row_once held_once

    pub st_leads : (w : Position) (st : Stmt) (b n : ℕ) (k : Targets) (s : Store) (fr : List (List Slot)) (left : Counters) → is_simple st ≡ false → IsFair st → HasAt g n (flow fs w st b n k) → Claim g x0 (once os fs st false x0 n) n (site_count fs st false) k s fr left (exec cs w.func st b false s)
    st_leads w Empty b n k s fr left is fair has = absurd (cc)
    st_leads w (Scalar l e) b n k s fr left is fair has = absurd (cc)
    st_leads w (Array l es) b n k s fr left is fair has = absurd (cc)
    st_leads w (Assign p op e) b n k s fr left is fair has = absurd (cc)
    st_leads w (Call t c es) b n k s fr left is fair has = call_whole w g x0 n (os c) k (slice_get fs c) (slice_get cs c) t es (block w.func b) s fr left (agree c) has
    st_leads w Break b n k s fr left is fair has = λ fresh. one_leads w g x0 n (n + 1) n k Jump (block w.func b) s fr left way.Break k.breaks (omega arith) (omega arith) refl has.0 refl refl
    st_leads w Continue b n k s fr left is fair has = λ fresh. one_leads w g x0 n (n + 1) n k Jump (block w.func b) s fr left way.Continue k.continues (omega arith) (omega arith) refl has.0 refl refl
    st_leads w (Return e) b n k s fr left is fair has = λ fresh. return_leads w g x0 n (n + 1) n k e (block w.func b) s fr left (omega arith) (omega arith) has.0
    st_leads w (If' e a x c y) b n k s fr left is fair has =
        let m = row_size fs x false in
        let p = row_flow fs w x (b + 1) (n + 1) [] k in
        let q = row_flow fs w y (b + 1 + row_blocks x false) (n + 1 + m) [] k in
        if_whole w g x0 (row_once os fs x false x0 (n + 1)) (row_once os fs y false x0 (n + 1 + m)) n m (row_size fs y false) k e (block w.func b) s fr left _ _ p q (row_length fs w x (b + 1) (n + 1) [] k sizes) has (λ h left1. row_leads w x (b + 1) (n + 1) [] k s s fr left1 refl fair.0 h) (λ h left1. row_leads w y (b + 1 + row_blocks x false) (n + 1 + m) [] k s s fr left1 refl fair.1 h)
    st_leads w (While' l e a x) b n k s fr left is fair has =
        let inside = times_as_often w l in
        while_whole w g x0 (row_once os fs x false x0 (n + 1)) l n (row_size fs x false) k e (block w.func b) s fr left (row_exec cs w.func x (b + 1) false) (row_flow fs inside x (b + 1) (n + 1) [] (body_of k n)) has (λ h s1 left1. row_leads inside x (b + 1) (n + 1) [] (body_of k n) s1 s1 fr left1 refl fair h)
    st_leads w (Do' l a x e) b n k s fr left is fair has =
        let inside = times_as_often w l in
        let c = n + row_size fs x false in
        do_whole w g x0 (row_once os fs x false x0 n) l n (row_size fs x false) k e (block w.func (b + row_blocks x false)) s fr left (row_exec cs w.func x b false) (row_flow fs inside x b n [] (body_of k c)) fair.0 (row_length fs inside x b n [] (body_of k c) sizes) has (λ h s1 left1. row_leads inside x b n [] (body_of k c) s1 s1 fr left1 refl fair.1 h)
    st_leads w (For' l i e j a x) b n k s fr left is fair has =
        let inside = times_as_often w l in
        let bc = b + held_blocks i in
        let bx = bc + 1 + held_blocks j in
        let c = n + held_size fs i in
        let r = held_size fs j in
        let again = head r (c + 1) c in
        for_whole w g x0 (held_once os fs i x0 n) (held_once os fs j x0 (c + 1)) (row_once os fs x false x0 (c + 1 + r)) l n (held_size fs i) r (row_size fs x false) k e (block w.func bc) s fr left (held_exec cs w.func i b s) (held_exec cs w.func j (bc + 1)) (row_exec cs w.func x bx false) (held_flow fs w i b n (with_next k c)) (held_flow fs inside j (bc + 1) (c + 1) (with_next k c)) (row_flow fs inside x bx (c + 1 + r) [] (body_of k again)) (held_length fs w i b n (with_next k c) sizes) (held_length fs inside j (bc + 1) (c + 1) (with_next k c) sizes) has (λ h left1. held_leads w i b n (with_next k c) s fr left1 fair.0 h) (λ h s1 left1. held_leads inside j (bc + 1) (c + 1) (with_next k c) s1 fr left1 fair.1.0 h) (λ h s1 left1. row_leads inside x bx (c + 1 + r) [] (body_of k again) s1 s1 fr left1 refl fair.1.1 h)
    st_leads w (Group' a x) b n k s fr left is fair has = row_leads w x b n [] k s s fr left refl fair has

    pub row_leads : {m : _} (w : Position) (x : Row_of-Stmt m) (b n : ℕ) (ss : List Stmt) (k : Targets) (s0 s : Store) (fr : List (List Slot)) (left : Counters) → store_after_all ss s0 ≡ Some s → AreFair x → HasAt g n (row_flow fs w x b n ss k) → Claim g x0 (pending_sum ss (hit x0 n) (row_once os fs x (is_run ss) x0 (number_past ss n))) n (spanned ss (row_size fs x (is_run ss))) k s0 fr left (entering ss (block w.func b) (row_exec cs w.func x (number_past ss b) (is_run ss) s))
    row_leads w end_of-Stmt b n ss k s0 s fr left all fair has = end_row w g x0 n k ss (block w.func b) s0 s fr left all has
    row_leads w (more_of-Stmt st rest) b n ss k s0 s fr left all fair has =
        let n1 = number_past ss n in
        let z = site_count fs st false in
        let r = row_size fs rest false in
        let n2 = n1 + z in
        let next = head r n2 k.next in
        let dz = once os fs st false x0 n1 in
        let dr = row_once os fs rest false x0 n2 in
        let t = head z n1 next in
        let b2 = number_past ss b + blocks st false in
        let p1 = flow fs w st (number_past ss b) n1 (with_next k next) in
        let p2 = row_flow fs w rest b2 n2 [] k in
        pick g n (row_flow fs w rest b n (ss ++ st ∷ []) k) (flush w ss (block w.func b) t ++ (p1 ++ p2)) (is_simple st) (is_simple st) refl
        (λ is has1. simple_row g x0 n b w.func k os fs cs s0 s fr left st is (row_size fs rest) (λ run. row_once os fs rest run x0) (row_exec cs w.func rest) ss all (more_halts g fs w rest b n ss st k s0 fr left has1) (λ s1 all1. row_leads w rest b n (ss ++ st ∷ []) k s0 s1 fr left all1 fair.1 has1))
        (λ is has1. let psc = sym (plain_once os fs st (is_run ss) x0 n1 is) in let pb = sym (plain_blocks st (is_run ss) is) in let pe = sym (plain_exec cs w.func st (number_past ss b) (is_run ss) s is) in let pz = sym (plain_size fs st (is_run ss) is) in let si = sym is in let pd : pending_sum ss (hit x0 n) (dz + dr) ≡ pending_sum ss (hit x0 n) (once os fs st (is_run ss) x0 n1 + row_once os fs rest (is_simple st) x0 (n1 + site_count fs st (is_run ss))) = (λ i. pending_sum ss (hit x0 n) (psc i + row_once os fs rest (si i) x0 (n1 + pz i))) in claim_at g x0 (pending_sum ss (hit x0 n) (dz + dr)) (pending_sum ss (hit x0 n) (once os fs st (is_run ss) x0 n1 + row_once os fs rest (is_simple st) x0 (n1 + site_count fs st (is_run ss)))) n (spanned ss (z + r)) (spanned ss (site_count fs st (is_run ss) + row_size fs rest (is_simple st))) k s0 fr left (entering ss (block w.func b) (then_do (exec cs w.func st (number_past ss b) false s) (row_exec cs w.func rest b2 false))) (entering ss (block w.func b) (then_do (exec cs w.func st (number_past ss b) (is_run ss) s) (row_exec cs w.func rest (number_past ss b + blocks st (is_run ss)) (is_simple st)))) (omega (arith, pd)) (λ i. spanned ss (pz i + row_size fs rest (si i))) (λ i. entering ss (block w.func b) (then_do (pe i) (row_exec cs w.func rest (number_past ss b + pb i) (si i)))) (plain_whole w g x0 dz dr n z r k ss (block w.func b) s0 s fr left (exec cs w.func st (number_past ss b) false s) (row_exec cs w.func rest b2 false) p1 p2 (flow_length fs w st (number_past ss b) n1 (with_next k next) sizes is) all has1 (λ h left1. st_leads w st (number_past ss b) n1 (with_next k next) s fr left1 is fair.0 h) (λ h s1 left1. row_leads w rest b2 n2 [] k s1 s1 fr left1 refl fair.1 h)))
        has

    pub held_leads : (w : Position) (x : Held-Stmt-For-1) (b n : ℕ) (k : Targets) (s : Store) (fr : List (List Slot)) (left : Counters) → HeldFair x → HasAt g n (held_flow fs w x b n k) → Claim g x0 (held_once os fs x x0 n) n (held_size fs x) k s fr left (held_exec cs w.func x b s)
    held_leads w None' b n k s fr left fair has = λ fresh. here_leads g x0 0 n (n + 0) k.next k s fr left refl
    held_leads w (Some' a x) b n k s fr left fair has = row_leads w x b n [] k s s fr left refl fair has
