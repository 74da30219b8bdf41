-- Loops are nested: of two one lies in the other or they are apart, and an edge from outside leads to the first node.
use Rattle.std.proofs.Common.{◌≡◌, ◌⊎◌, inl, inr, ℕ, zero, suc, ◌+◌, ◌<◌, ◌≤◌, Bool, true, false, if◌then◌else◌, List, [], ◌∷◌, ◌++◌, length, Option, Some, None, refl, sym, subst, arith, length-append}
use Rattle.std.specs.Prelude.{slice_get}
use Rattle.c_tree.specs.declared.tree.Expr.{Expr}
use Rattle.c_tree.specs.declared.tree.Target.{Target}
use Rattle.c_tree.specs.declared.program.BlockName.{BlockName}
use Rattle.c_tree.specs.declared.program.Func.{Func}
use Rattle.c_tree.specs.declared.program.Program.{Program}
use Rattle.c_tree.specs.declared.tree.Stmt.{Stmt, Row_of-Stmt, end_of-Stmt, more_of-Stmt, Held-Stmt-For-1, None', Some'}
use Rattle.c_tree.specs.declared.tree.Stmt.TheVariants.{Empty, Scalar, Array, Assign, Call, Break, Continue, Return, If', While', Do', For', Group'}
use Rattle.c_tree.specs.declared.tree.Stmt.TheBlock.{hidden-the_row-Stmt-0}
use Rattle.c_tree.specs.Meaning.Blocks.{is_simple, blocks, row_blocks, held_blocks}
use Rattle.c_tree.specs.Meaning.Statements.{block}
use Rattle.flow_laws.specs.Sites.{LoopCopy, Content, Entry, Exit, Simple, Test, Jump, Give, Enter, Missing, Land, Site, Position, Copy, Targets, times_as_often, one_end_site, asks, loop_at, head, with_next, body_of, number_past, flush, call_size, call_sites, if_sites, while_sites, do_sites, for_sites, site_count, row_size, held_size, flow, row_flow, held_flow, list_size, list_flow}
use Rattle.flow_laws.specs.Graphs.{all_to, copy_of, copies, sites_of, graph, outermost}
use Rattle.flow_laws.specs.Loops.{AreNested}
use Rattle.flow_laws.proofs.Graphs.PartSizes.{HaveSizes, is_run, spanned, flow_length, row_length, held_length}
use Rattle.flow_laws.proofs.Runs.CopiesSound.{row_sizes, row_flows, list_length}
use Rattle.flow_laws.proofs.Runs.RunsDriven.{past_flush}
use Rattle.flow_laws.proofs.Graphs.EndsLead.{LeadsOn, AllLead, TargetsAre, lead_append, simple_span, plain_span, st_ends, row_ends, held_ends}
use Rattle.flow_laws.proofs.Runs.StatementLists.{past_le}

-- ---- loops of a part lie within it, and Exit is none of its nodes

abbrev pub IsInner : ℕ → ℕ → Content → Type 0
IsInner lo hi Exit = ⊥
IsInner lo hi (Test (Some l) e) = (lo ≤ l.from) × (l.past ≤ hi)
IsInner lo hi _ = Unit {0}

abbrev pub AllInner : ℕ → ℕ → List Site → Type 0
AllInner lo hi [] = Unit {0}
AllInner lo hi (s ∷ g) = IsInner lo hi s.content × AllInner lo hi g

pub inner_append : (lo hi : ℕ) (a b : List Site) → AllInner lo hi a → AllInner lo hi b → AllInner lo hi (a ++ b)
inner_append lo hi [] b h k = k
inner_append lo hi (s ∷ a) b h k = (h.0, inner_append lo hi a b h.1 k)

flush_inner : (lo hi : ℕ) (w : Position) (ss : List Stmt) (b : BlockName) (t : ℕ) → AllInner lo hi (flush w ss b t)
flush_inner lo hi w [] b t = tt
flush_inner lo hi w (s ∷ ss) b t = (tt, tt)

abbrev pub HaveInner : List Copy → Type 0
HaveInner cs = (g : ℕ) (c : Copy) → slice_get cs g ≡ Some c → (lo hi : ℕ) (h : List BlockName) (s n l : ℕ) → lo ≤ n → n + c.size ≤ hi → AllInner lo hi (c.sites h s n l)

call_inner : (lo hi : ℕ) (w : Position) (o : Option Copy) (t : Target) (es : List Expr) (b : BlockName) (n next : ℕ) → lo ≤ n → n + call_size o ≤ hi → ((c : Copy) → o ≡ Some c → (lo hi : ℕ) (h : List BlockName) (s n l : ℕ) → lo ≤ n → n + c.size ≤ hi → AllInner lo hi (c.sites h s n l)) → AllInner lo hi (call_sites w o t es b n next)
call_inner lo hi w None t es b n next le ge f = (tt, (tt, tt))
call_inner lo hi w (Some c) t es b n next le ge f =
    (tt, inner_append lo hi _ _ (f c refl lo hi (w.chain ++ b ∷ []) w.scale (n + 1) (n + 1 + c.size) (omega (arith, le)) (omega (arith, ge))) (tt, tt))

row_inner_choose : (lo hi : ℕ) (w : Position) (ss : List Stmt) (b : BlockName) (t : ℕ) (p q1 q2 : List Site) (st : Stmt) → (is_simple st ≡ true → AllInner lo hi p) → (is_simple st ≡ false → AllInner lo hi q1) → (is_simple st ≡ false → AllInner lo hi q2) → (c : Bool) → is_simple st ≡ c → AllInner lo hi (if c then p else flush w ss b t ++ (q1 ++ q2))
row_inner_choose lo hi w ss b t p q1 q2 st hp h1 h2 true is = hp is
row_inner_choose lo hi w ss b t p q1 q2 st hp h1 h2 false is =
    inner_append lo hi (flush w ss b t) (q1 ++ q2) (flush_inner lo hi w ss b t) (inner_append lo hi q1 q2 (h1 is) (h2 is))

module _ (lo hi : ℕ) (cs : List Copy) (copied : HaveInner cs) where
  mutual
    unfolding site_count row_size held_size flow row_flow held_flow

    pub st_inner : (w : Position) (st : Stmt) (b n : ℕ) (k : Targets) → is_simple st ≡ false → lo ≤ n → n + site_count cs st false ≤ hi → AllInner lo hi (flow cs w st b n k)
    st_inner w Empty b n k is le ge = absurd (cc)
    st_inner w (Scalar l e) b n k is le ge = absurd (cc)
    st_inner w (Array l es) b n k is le ge = absurd (cc)
    st_inner w (Assign p op e) b n k is le ge = absurd (cc)
    st_inner w (Call t c es) b n k is le ge = call_inner lo hi w (slice_get cs c) t es (block w.func b) n k.next le ge (copied c)
    st_inner w Break b n k is le ge = (tt, tt)
    st_inner w Continue b n k is le ge = (tt, tt)
    st_inner w (Return e) b n k is le ge = (tt, tt)
    st_inner w (If' e a x c y) b n k is le ge =
        let m = row_size cs x false in
        (tt, inner_append lo hi _ _ (row_inner w x (b + 1) (n + 1) [] k (omega (arith, le)) (omega (arith, ge))) (row_inner w y (b + 1 + row_blocks x false) (n + 1 + m) [] k (omega (arith, le)) (omega (arith, ge))))
    st_inner w (While' l e a x) b n k is le ge =
        ((le, omega (arith, ge)), row_inner (times_as_often w l) x (b + 1) (n + 1) [] (body_of k n) (omega (arith, le)) (omega (arith, ge)))
    st_inner w (Do' l a x e) b n k is le ge =
        let c = n + row_size cs x false in
        inner_append lo hi _ _ (row_inner (times_as_often w l) x b n [] (body_of k c) le (omega (arith, ge))) ((le, omega (arith, ge)), tt)
    st_inner w (For' l i e j a x) b n k is le ge =
        let inside = times_as_often w l in
        let bc = b + held_blocks i in
        let c = n + held_size cs i in
        let r = held_size cs j in
        let bx = bc + 1 + held_blocks j in
        let again = head r (c + 1) c in
        inner_append lo hi _ _ (held_inner w i b n (with_next k c) le (omega (arith, ge))) ((omega (arith, le), omega (arith, ge)), inner_append lo hi _ _ (held_inner inside j (bc + 1) (c + 1) (with_next k c) (omega (arith, le)) (omega (arith, ge))) (row_inner inside x bx (c + 1 + r) [] (body_of k again) (omega (arith, le)) (omega (arith, ge))))
    st_inner w (Group' a x) b n k is le ge = row_inner w x b n [] k le ge

    pub row_inner : {m : _} (w : Position) (x : Row_of-Stmt m) (b n : ℕ) (ss : List Stmt) (k : Targets) → lo ≤ n → n + spanned ss (row_size cs x (is_run ss)) ≤ hi → AllInner lo hi (row_flow cs w x b n ss k)
    row_inner w end_of-Stmt b n ss k le ge = flush_inner lo hi w ss (block w.func b) k.next
    row_inner w (more_of-Stmt st rest) b n ss k le ge =
        let n1 = number_past ss n in
        let z = site_count cs st false in
        let n2 = n1 + z in
        let next = head (row_size cs rest false) n2 k.next in
        let kn = with_next k next in
        let low : lo ≤ n1 = omega (arith, le, past_le ss n) in
        let span = λ (is : is_simple st ≡ false). plain_span cs ss st n (row_size cs rest) is in
        row_inner_choose lo hi w ss (block w.func b) (head z n1 next) _ (flow cs w st (number_past ss b) n1 kn) (row_flow cs w rest (number_past ss b + blocks st false) n2 [] k) st
        (λ is. row_inner w rest b n (ss ++ st ∷ []) k le (omega (arith, ge, simple_span cs ss st (row_size cs rest) is)))
        (λ is. st_inner w st (number_past ss b) n1 kn is low (omega (arith, ge, span is)))
        (λ is. row_inner w rest (number_past ss b + blocks st false) n2 [] k (omega (arith, low)) (omega (arith, ge, span is)))
        (is_simple st) refl

    pub held_inner : (w : Position) (x : Held-Stmt-For-1) (b n : ℕ) (k : Targets) → lo ≤ n → n + held_size cs x ≤ hi → AllInner lo hi (held_flow cs w x b n k)
    held_inner w None' b n k le ge = tt
    held_inner w (Some' a x) b n k le ge = row_inner w x b n [] k le ge

-- ---- what a loop has to do with a node

-- the node is not behind the first and before the last of an interval
abbrev pub Off : ℕ → ℕ → ℕ → Type 0
Off from number_past x = (x ≤ from) ⊎ (number_past ≤ x)

-- two intervals are apart
abbrev pub Apart : ℕ → ℕ → ℕ → ℕ → Type 0
Apart from number_past lo hi = (number_past ≤ lo) ⊎ (hi ≤ from)

abbrev pub NestsWith : LoopCopy → Content → Type 0
NestsWith l (Test (Some m) e) = AreNested l m
NestsWith l _ = Unit {0}

pub record Meets (l : LoopCopy) (n : ℕ) (s : Site) : Type 0 where
  pub skips : (n < l.from) ⊎ (l.past ≤ n) → LeadsOn (Off l.from l.past) s
  pub nests : NestsWith l s.content

abbrev pub AllMeet : LoopCopy → ℕ → List Site → Type 0
AllMeet l n [] = Unit {0}
AllMeet l n (s ∷ g) = Meets l n s × AllMeet l (n + 1) g

abbrev pub OfLoop : (LoopCopy → Type 0) → Content → Type 0
OfLoop P (Test (Some l) e) = P l
OfLoop P _ = Unit {0}

-- each loop of the first list meets each node of the second, of which the first has the number n
abbrev pub MeetAll : List Site → ℕ → List Site → Type 0
MeetAll [] n b = Unit {0}
MeetAll (s ∷ a) n b = OfLoop (λ l. AllMeet l n b) s.content × MeetAll a n b

-- ---- joined

of_map : (P Q : LoopCopy → Type 0) (c : Content) → ((l : LoopCopy) → P l → Q l) → OfLoop P c → OfLoop Q c
of_map P Q (Test (Some l) e) f h = f l h
of_map P Q (Test None e) f h = tt
of_map P Q Entry f h = tt
of_map P Q Exit f h = tt
of_map P Q (Simple ss) f h = tt
of_map P Q Jump f h = tt
of_map P Q (Give e) f h = tt
of_map P Q (Enter t ls es) f h = tt
of_map P Q Missing f h = tt
of_map P Q (Land t ty b) f h = tt

of_both : (P Q R : LoopCopy → Type 0) (c : Content) → ((l : LoopCopy) → P l → Q l → R l) → OfLoop P c → OfLoop Q c → OfLoop R c
of_both P Q R (Test (Some l) e) f h k = f l h k
of_both P Q R (Test None e) f h k = tt
of_both P Q R Entry f h k = tt
of_both P Q R Exit f h k = tt
of_both P Q R (Simple ss) f h k = tt
of_both P Q R Jump f h k = tt
of_both P Q R (Give e) f h k = tt
of_both P Q R (Enter t ls es) f h k = tt
of_both P Q R Missing f h k = tt
of_both P Q R (Land t ty b) f h k = tt

of_inner : (P : LoopCopy → Type 0) (lo hi : ℕ) (c : Content) → IsInner lo hi c → ((l : LoopCopy) → lo ≤ l.from → l.past ≤ hi → P l) → OfLoop P c
of_inner P lo hi (Test (Some l) e) h f = f l h.0 h.1
of_inner P lo hi (Test None e) h f = tt
of_inner P lo hi Entry h f = tt
of_inner P lo hi Exit h f = tt
of_inner P lo hi (Simple ss) h f = tt
of_inner P lo hi Jump h f = tt
of_inner P lo hi (Give e) h f = tt
of_inner P lo hi (Enter t ls es) h f = tt
of_inner P lo hi Missing h f = tt
of_inner P lo hi (Land t ty b) h f = tt

cross : (lo hi n : ℕ) (a b : List Site) → AllInner lo hi a → ((l : LoopCopy) → lo ≤ l.from → l.past ≤ hi → AllMeet l n b) → MeetAll a n b
cross lo hi n [] b h f = tt
cross lo hi n (s ∷ a) b h f = (of_inner (λ l. AllMeet l n b) lo hi s.content h.0 f, cross lo hi n a b h.1 f)

all_meet_append : (l : LoopCopy) (n m : ℕ) (a b : List Site) → n + length a ≡ m → AllMeet l n a → AllMeet l m b → AllMeet l n (a ++ b)
all_meet_append l n m [] b e h k = let p : m ≡ n = omega (arith, e) in subst (λ x. AllMeet l x b) p k
all_meet_append l n m (s ∷ a) b e h k = (h.0, all_meet_append l (n + 1) m a b (omega (arith, e)) h.1 k)

meet_append : (c : List Site) (n m : ℕ) (a b : List Site) → n + length a ≡ m → MeetAll c n a → MeetAll c m b → MeetAll c n (a ++ b)
meet_append [] n m a b e h k = tt
meet_append (s ∷ c) n m a b e h k =
    (of_both (λ l. AllMeet l n a) (λ l. AllMeet l m b) (λ l. AllMeet l n (a ++ b)) s.content (λ l x y. all_meet_append l n m a b e x y) h.0 k.0, meet_append c n m a b e h.1 k.1)

meet_both : (a b : List Site) (n : ℕ) (c : List Site) → MeetAll a n c → MeetAll b n c → MeetAll (a ++ b) n c
meet_both [] b n c h k = k
meet_both (s ∷ a) b n c h k = (h.0, meet_both a b n c h.1 k)

-- ---- loops that are apart from a part, and around it

apart_nests : (l : LoopCopy) (lo hi : ℕ) (c : Content) → IsInner lo hi c → Apart l.from l.past lo hi → NestsWith l c
apart_nests l lo hi (Test (Some m) e) h (inl x) = inr (inr (inl (omega (arith, x, h.0))))
apart_nests l lo hi (Test (Some m) e) h (inr x) = inr (inr (inr (omega (arith, x, h.1))))
apart_nests l lo hi (Test None e) h x = tt
apart_nests l lo hi Entry h x = tt
apart_nests l lo hi Exit h x = tt
apart_nests l lo hi (Simple ss) h x = tt
apart_nests l lo hi Jump h x = tt
apart_nests l lo hi (Give e) h x = tt
apart_nests l lo hi (Enter t ls es) h x = tt
apart_nests l lo hi Missing h x = tt
apart_nests l lo hi (Land t ty b) h x = tt

apart_meets : (l : LoopCopy) (lo hi n : ℕ) (g : List Site) → AllInner lo hi g → Apart l.from l.past lo hi → AllLead (Off l.from l.past) g → AllMeet l n g
apart_meets l lo hi n [] h x k = tt
apart_meets l lo hi n (s ∷ g) h x k =
    (record { skips = λ out. k.0; nests = apart_nests l lo hi s.content h.0 x }, apart_meets l lo hi (n + 1) g h.1 x k.1)

around_nests : (l : LoopCopy) (lo hi : ℕ) (c : Content) → l.from ≤ lo → hi ≤ l.past → IsInner lo hi c → NestsWith l c
around_nests l lo hi (Test (Some m) e) le ge h = inr (inl (omega (arith, le, h.0), omega (arith, ge, h.1)))
around_nests l lo hi (Test None e) le ge h = tt
around_nests l lo hi Entry le ge h = tt
around_nests l lo hi Exit le ge h = tt
around_nests l lo hi (Simple ss) le ge h = tt
around_nests l lo hi Jump le ge h = tt
around_nests l lo hi (Give e) le ge h = tt
around_nests l lo hi (Enter t ls es) le ge h = tt
around_nests l lo hi Missing le ge h = tt
around_nests l lo hi (Land t ty b) le ge h = tt

within : (from number_past n : ℕ) → from ≤ n → n < number_past → (n < from) ⊎ (number_past ≤ n) → ⊥
within from number_past n le lt (inl x) = omega (arith, le, x)
within from number_past n le lt (inr x) = omega (arith, lt, x)

around_meets : (l : LoopCopy) (n : ℕ) (g : List Site) → l.from ≤ n → n + length g ≤ l.past → AllInner l.from l.past g → AllMeet l n g
around_meets l n [] le ge h = tt
around_meets l n (s ∷ g) le ge h =
    (record { skips = λ out. absurd (within l.from l.past n le (omega (arith, ge)) out); nests = around_nests l l.from l.past s.content (omega arith) (omega arith) h.0 }, around_meets l (n + 1) g (omega (arith, le)) (omega (arith, ge)) h.1)

-- ---- one part after the other, and a condition before or behind the part around which its loop is

join_meets : (n m hi : ℕ) (a b : List Site) → n + length a ≡ m → AllInner n m a → AllInner m hi b → ((l : LoopCopy) → n ≤ l.from → l.past ≤ m → AllLead (Off l.from l.past) b) → ((l : LoopCopy) → m ≤ l.from → l.past ≤ hi → AllLead (Off l.from l.past) a) → MeetAll a n a → MeetAll b m b → MeetAll (a ++ b) n (a ++ b)
join_meets n m hi a b e ia ib lb la ha hb =
    meet_both a b n (a ++ b)
    (meet_append a n m a b e ha (cross n m m a b ia (λ l le ge. apart_meets l m hi m b ib (inl ge) (lb l le ge))))
    (meet_append b n m a b e (cross m hi n b a ib (λ l le ge. apart_meets l n m n a ia (inr le) (la l le ge))) hb)

-- the loop's condition meets a loop within it
asks_meets : (l0 l : LoopCopy) (w : Position) (e : Expr) (b : BlockName) (n t u : ℕ) → l0.from ≤ l.from → l.past ≤ l0.past → Off l.from l.past t → Off l.from l.past u → Meets l n (asks w (Some l0) e b t u)
asks_meets l0 l w e b n t u le ge yes_ no_ =
    record { skips = λ out. record { yes = yes_; no = no_ }; nests = inl (le, ge) }

first_meets : (w : Position) (l0 : LoopCopy) (e : Expr) (b : BlockName) (n hi t u : ℕ) (g : List Site) → l0.from ≡ n → l0.past ≡ hi → n + 1 + length g ≡ hi → AllInner n hi g → MeetAll g n (asks w (Some l0) e b t u ∷ []) → MeetAll g (n + 1) g → MeetAll (asks w (Some l0) e b t u ∷ g) n (asks w (Some l0) e b t u ∷ g)
first_meets w l0 e b n hi t u g from_is past_is len inner mine h =
    let ask = asks w (Some l0) e b t u in
    let own : AllInner l0.from l0.past (ask ∷ g) = ((omega arith, omega arith), subst (λ x. AllInner x l0.past g) (sym from_is) (subst (λ x. AllInner n x g) (sym past_is) inner)) in
    (around_meets l0 n (ask ∷ g) (omega (arith, from_is)) (omega (arith, past_is, len)) own, meet_append g n (n + 1) (ask ∷ []) g (omega arith) mine h)

last_meets : (w : Position) (l0 : LoopCopy) (e : Expr) (b : BlockName) (n c t u : ℕ) (g : List Site) → l0.from ≡ n → l0.past ≡ c + 1 → n + length g ≡ c → AllInner n (c + 1) g → MeetAll g c (asks w (Some l0) e b t u ∷ []) → MeetAll g n g → MeetAll (g ++ asks w (Some l0) e b t u ∷ []) n (g ++ asks w (Some l0) e b t u ∷ [])
last_meets w l0 e b n c t u g from_is past_is len inner mine h =
    let ask = asks w (Some l0) e b t u in
    let own : AllInner l0.from l0.past (g ++ ask ∷ []) = inner_append l0.from l0.past g (ask ∷ []) (subst (λ x. AllInner x l0.past g) (sym from_is) (subst (λ x. AllInner n x g) (sym past_is) inner)) ((omega arith, omega arith), tt) in
    let long = length-append g (ask ∷ []) in
    meet_both g (ask ∷ []) n (g ++ ask ∷ []) (meet_append g n c g (ask ∷ []) len h mine)
    (around_meets l0 n (g ++ ask ∷ []) (omega (arith, from_is)) (omega (arith, past_is, len, long)) own, tt)

-- ---- where the ends of parts lead

narrower : (lo hi from number_past x : ℕ) → lo ≤ from → number_past ≤ hi → Off lo hi x → Off from number_past x
narrower lo hi from number_past x le ge (inl h) = inl (omega (arith, h, le))
narrower lo hi from number_past x le ge (inr h) = inr (omega (arith, h, ge))

all_narrower : (lo hi from number_past : ℕ) (k : Targets) → lo ≤ from → number_past ≤ hi → TargetsAre (Off lo hi) k → TargetsAre (Off from number_past) k
all_narrower lo hi from number_past k le ge h =
    record { next = narrower lo hi from number_past k.next le ge h.next; breaks = narrower lo hi from number_past k.breaks le ge h.breaks; continues = narrower lo hi from number_past k.continues le ge h.continues; returns = narrower lo hi from number_past k.returns le ge h.returns }

next_are : (P : ℕ → Type 0) (k : Targets) (n : ℕ) → TargetsAre P k → P n → TargetsAre P (with_next k n)
next_are P k n h p = record { next = p; breaks = h.breaks; continues = h.continues; returns = h.returns }

body_are : (P : ℕ → Type 0) (k : Targets) (n : ℕ) → TargetsAre P k → P n → TargetsAre P (body_of k n)
body_are P k n h p = record { next = p; breaks = h.next; continues = p; returns = h.returns }

head_off : (from number_past m n next : ℕ) → Off from number_past n → Off from number_past next → Off from number_past (head m n next)
head_off from number_past zero n next h k = k
head_off from number_past (suc m) n next h k = h

-- a first node is passed only where there is none
head_before : (from number_past m n next : ℕ) → n ≤ from → (m ≡ 0 → Off from number_past next) → Off from number_past (head m n next)
head_before from number_past zero n next le k = k refl
head_before from number_past (suc m) n next le k = inl le

apart_off : (from number_past lo hi x : ℕ) → Apart from number_past lo hi → lo ≤ x → x < hi → Off from number_past x
apart_off from number_past lo hi x (inl h) le lt = inr (omega (arith, h, le))
apart_off from number_past lo hi x (inr h) le lt = inl (omega (arith, h, lt))

apart_part : (from number_past lo hi lo' hi' : ℕ) → Apart from number_past lo hi → lo ≤ lo' → hi' ≤ hi → Apart from number_past lo' hi'
apart_part from number_past lo hi lo' hi' (inl h) le ge = inl (omega (arith, h, le))
apart_part from number_past lo hi lo' hi' (inr h) le ge = inr (omega (arith, h, ge))

abbrev pub IsClosed : Copy → Type 0
IsClosed c = (from number_past : ℕ) (h : List BlockName) (s n l : ℕ) → Apart from number_past n (n + c.size) → Off from number_past l → AllLead (Off from number_past) (c.sites h s n l)

abbrev pub HaveClosed : List Copy → Type 0
HaveClosed cs = (g : ℕ) (c : Copy) → slice_get cs g ≡ Some c → IsClosed c

module _ (cs : List Copy) (closed : HaveClosed cs) (from number_past lo hi : ℕ) (apart : Apart from number_past lo hi) where
  abbrev P : ℕ → Type 0
  P = Off from number_past

  copied : (g : ℕ) (c : Copy) → slice_get cs g ≡ Some c → (h : List BlockName) (s n l : ℕ) → lo ≤ n → n + c.size ≤ hi → P l → AllLead P (c.sites h s n l)
  copied g c e h s n l le ge p = closed g c e from number_past h s n l (apart_part from number_past lo hi n (n + c.size) apart le ge) p

  pub st_closed : (w : Position) (st : Stmt) (b n : ℕ) (k : Targets) → is_simple st ≡ false → lo ≤ n → n + site_count cs st false ≤ hi → TargetsAre (Off from number_past) k → AllLead (Off from number_past) (flow cs w st b n k)
  st_closed w st b n k is le ge h = st_ends P lo hi (λ x ge lt. apart_off from number_past lo hi x apart ge lt) cs copied w st b n k is le ge h

  pub row_closed : {m : _} (w : Position) (x : Row_of-Stmt m) (b n : ℕ) (ss : List Stmt) (k : Targets) → lo ≤ n → n + spanned ss (row_size cs x (is_run ss)) ≤ hi → TargetsAre (Off from number_past) k → AllLead (Off from number_past) (row_flow cs w x b n ss k)
  row_closed w x b n ss k le ge h = row_ends P lo hi (λ x ge lt. apart_off from number_past lo hi x apart ge lt) cs copied w x b n ss k le ge h

  pub held_closed : (w : Position) (x : Held-Stmt-For-1) (b n : ℕ) (k : Targets) → lo ≤ n → n + held_size cs x ≤ hi → TargetsAre (Off from number_past) k → AllLead (Off from number_past) (held_flow cs w x b n k)
  held_closed w x b n k le ge h = held_ends P lo hi (λ x ge lt. apart_off from number_past lo hi x apart ge lt) cs copied w x b n k le ge h

-- what is said of a part with the ends k from n on below m: where loops apart from it are left alone
abbrev pub Closed : ℕ → ℕ → Targets → List Site → Type 0
Closed n m k g = (from number_past : ℕ) → Apart from number_past n m → TargetsAre (Off from number_past) k → AllLead (Off from number_past) g

-- ---- the statements, over their parts

flush_lead : (P : ℕ → Type 0) (w : Position) (ss : List Stmt) (b : BlockName) (t : ℕ) → P t → AllLead P (flush w ss b t)
flush_lead P w [] b t h = tt
flush_lead P w (s ∷ ss) b t h = (record { yes = h; no = h }, tt)

flush_meets : (w : Position) (ss : List Stmt) (b : BlockName) (t n : ℕ) (g : List Site) → MeetAll (flush w ss b t) n g
flush_meets w [] b t n g = tt
flush_meets w (s ∷ ss) b t n g = (tt, tt)

if_meets : (w : Position) (e : Expr) (b : BlockName) (n m r : ℕ) (k : Targets) (p q : List Site) → length p ≡ m → AllInner (n + 1) (n + 1 + m) p → AllInner (n + 1 + m) (n + 1 + m + r) q → AllInner n (n + 1 + m) p → Closed (n + 1) (n + 1 + m) k p → Closed (n + 1 + m) (n + 1 + m + r) k q → TargetsAre (Off n (n + suc (m + r))) k → MeetAll p (n + 1) p → MeetAll q (n + 1 + m) q → MeetAll (if_sites w e b n m r k.next p q) n (if_sites w e b n m r k.next p q)
if_meets w e b n m r k p q len ip iq ip' cp cq out hp hq =
    let mid = n + 1 + m in
    let hi = n + 1 + m + r in
    let ask = asks w None e b (head m (n + 1) k.next) (head r (n + 1 + m) k.next) in
    let inside = λ (from number_past : ℕ) (le : n ≤ from) (ge : number_past ≤ hi). all_narrower n (n + suc (m + r)) from number_past k le (omega (arith, ge)) out in
    join_meets n mid hi (ask ∷ p) q (omega (arith, len)) (tt, ip') iq
    (λ l le ge. cq l.from l.past (inl ge) (inside l.from l.past le (omega (arith, ge))))
    (λ l le ge. let h = inside l.from l.past (omega (arith, le)) ge in (record { yes = head_off l.from l.past m (n + 1) k.next (inl (omega (arith, le))) h.next; no = head_off l.from l.past r (n + 1 + m) k.next (inl le) h.next }, cp l.from l.past (inr le) h))
    (join_meets n (n + 1) mid (ask ∷ []) p (omega arith) (tt, tt) ip
    (λ l le ge. cp l.from l.past (inl ge) (inside l.from l.past le (omega (arith, ge))))
    (λ l le ge. let h = inside l.from l.past (omega (arith, le)) (omega (arith, ge)) in (record { yes = head_off l.from l.past m (n + 1) k.next (inl le) h.next; no = head_off l.from l.past r (n + 1 + m) k.next (inr ge) h.next }, tt))
    (tt, tt) hp)
    hq

while_meets : (w : Position) (l : ℕ) (e : Expr) (b : BlockName) (n m : ℕ) (k : Targets) (p : List Site) → length p ≡ m → AllInner (n + 1) (n + 1 + m) p → AllInner n (n + 1 + m) p → TargetsAre (Off n (n + suc m)) k → MeetAll p (n + 1) p → MeetAll (while_sites w l e b n m k.next p) n (while_sites w l e b n m k.next p)
while_meets w l e b n m k p len ip ip' out hp =
    let hi = n + 1 + m in
    let loop = loop_at n hi n l false in
    let w' = times_as_often w (l + 1) in
    first_meets w' loop e b n hi (head m (n + 1) n) k.next p refl refl (omega (arith, len)) ip'
    (cross (n + 1) hi n p _ ip (λ x le ge. (asks_meets loop x w' e b n (head m (n + 1) n) k.next (omega (arith, le)) ge (head_off x.from x.past m (n + 1) n (inl le) (inl (omega (arith, le)))) (narrower n (n + suc m) x.from x.past k.next (omega (arith, le)) (omega (arith, ge)) out.next), tt)))
    hp

do_meets : (w : Position) (l : ℕ) (e : Expr) (b : BlockName) (n m : ℕ) (k : Targets) (p : List Site) → length p ≡ m → AllInner n (n + m) p → AllInner n (n + m + 1) p → TargetsAre (Off n (n + suc m)) k → MeetAll p n p → MeetAll (do_sites w l e b n m k.next p) n (do_sites w l e b n m k.next p)
do_meets w l e b n m k p len ip ip' out hp =
    let c = n + m in
    let loop = loop_at n (c + 1) c l true in
    let w' = times_as_often w l in
    last_meets w' loop e b n c n k.next p refl refl (omega (arith, len)) ip'
    (cross n c c p _ ip (λ x le ge. (asks_meets loop x w' e b c n k.next le (omega (arith, ge)) (inl le) (narrower n (n + suc m) x.from x.past k.next le (omega (arith, ge)) out.next), tt)))
    hp

for_meets : (w : Position) (l : ℕ) (e : Expr) (b : BlockName) (n z r m : ℕ) (k : Targets) (i p q : List Site) → (let c = n + z in let again = head r (c + 1) c in length i ≡ z → length p ≡ r → length q ≡ m → AllInner n c i → AllInner (c + 1) (c + 1 + r) p → AllInner (c + 1 + r) (c + 1 + r + m) q → AllInner c (c + 1 + r + m) (p ++ q) → Closed n c (with_next k c) i → Closed (c + 1) (c + 1 + r) (with_next k c) p → Closed (c + 1 + r) (c + 1 + r + m) (body_of k again) q → TargetsAre (Off n (n + (z + suc (r + m)))) k → MeetAll i n i → MeetAll p (c + 1) p → MeetAll q (c + 1 + r) q → MeetAll (i ++ for_sites w l e b c r m k.next p q) n (i ++ for_sites w l e b c r m k.next p q))
for_meets w l e b n z r m k i p q leni lenp lenq ii ip iq ipq ci cp cq out hi hp hq =
    join_meets n c end i (ask ∷ (p ++ q)) (omega (arith, leni)) ii ((omega arith, omega arith), ipq)
    (λ x le ge. (record { yes = before x.past ge; no = (inside x.from x.past le (omega (arith, ge))).next }, lead_append (Off x.from x.past) p q (cp x.from x.past (inl (omega (arith, ge))) (next_are (Off x.from x.past) k c (inside x.from x.past le (omega (arith, ge))) (inr ge))) (cq x.from x.past (inl (omega (arith, ge))) (body_are (Off x.from x.past) k again (inside x.from x.past le (omega (arith, ge))) (head_off x.from x.past r (c + 1) c (inr (omega (arith, ge))) (inr ge))))))
    (λ x le ge. ci x.from x.past (inr le) (next_are (Off x.from x.past) k c (inside x.from x.past (omega (arith, le)) ge) (inl le)))
    hi
    (first_meets w' loop e b c end t k.next (p ++ q) refl refl (omega (arith, lenp, lenq, length-append p q)) ipq mine
    (join_meets (c + 1) mid end p q (omega (arith, lenp)) ip iq
    (λ x le ge. cq x.from x.past (inl ge) (body_are (Off x.from x.past) k again (inside x.from x.past (omega (arith, le)) (omega (arith, ge))) (head_off x.from x.past r (c + 1) c (inl le) (inl (omega (arith, le))))))
    (λ x le ge. cp x.from x.past (inr le) (next_are (Off x.from x.past) k c (inside x.from x.past (omega (arith, le)) ge) (inl (omega (arith, le)))))
    hp hq))
  where
    c : ℕ
    c = n + z

    mid : ℕ
    mid = c + 1 + r

    end : ℕ
    end = mid + m

    again : ℕ
    again = head r (c + 1) c

    t : ℕ
    t = head m mid again

    w' : Position
    w' = times_as_often w (l + 1)

    loop : LoopCopy
    loop = loop_at c end c l false

    ask : Site
    ask = asks w' (Some loop) e b t k.next

    inside : (from number_past : ℕ) → n ≤ from → number_past ≤ end → TargetsAre (Off from number_past) k
    inside from number_past le ge = all_narrower n (n + (z + suc (r + m))) from number_past k le (omega (arith, ge)) out

    before : {from : ℕ} (number_past : ℕ) → number_past ≤ c → Off from number_past t
    before {from} number_past ge = head_off from number_past m mid again (inr (omega (arith, ge))) (head_off from number_past r (c + 1) c (inr (omega (arith, ge))) (inr ge))

    mine : MeetAll (p ++ q) c (ask ∷ [])
    mine =
        meet_both p q c (ask ∷ [])
        (cross (c + 1) mid c p (ask ∷ []) ip (λ x le ge. (asks_meets loop x w' e b c t k.next (omega (arith, le)) (omega (arith, ge)) (head_off x.from x.past m mid again (inr ge) (head_off x.from x.past r (c + 1) c (inl le) (inl (omega (arith, le))))) (inside x.from x.past (omega (arith, le)) (omega (arith, ge))).next, tt)))
        (cross mid end c q (ask ∷ []) iq (λ x le ge. (asks_meets loop x w' e b c t k.next (omega (arith, le)) ge (head_off x.from x.past m mid again (inl le) (head_off x.from x.past r (c + 1) c (inl (omega (arith, le))) (inl (omega (arith, le))))) (inside x.from x.past (omega (arith, le)) ge).next, tt)))

abbrev pub IsMet : Copy → Type 0
IsMet c = (h : List BlockName) (s n l : ℕ) → Off n (n + c.size) l → MeetAll (c.sites h s n l) n (c.sites h s n l)

abbrev pub HaveMet : List Copy → Type 0
HaveMet cs = (g : ℕ) (c : Copy) → slice_get cs g ≡ Some c → IsMet c

call_meets : (w : Position) (o : Option Copy) (t : Target) (es : List Expr) (b : BlockName) (n next : ℕ) → ((c : Copy) → o ≡ Some c → (h : List BlockName) (s n l : ℕ) → length (c.sites h s n l) ≡ c.size) → ((c : Copy) → o ≡ Some c → (lo hi : ℕ) (h : List BlockName) (s n l : ℕ) → lo ≤ n → n + c.size ≤ hi → AllInner lo hi (c.sites h s n l)) → ((c : Copy) → o ≡ Some c → IsClosed c) → ((c : Copy) → o ≡ Some c → IsMet c) → Off n (n + call_size o) next → MeetAll (call_sites w o t es b n next) n (call_sites w o t es b n next)
call_meets w None t es b n next sizes inner closed met out = (tt, (tt, tt))
call_meets w (Some c) t es b n next sizes inner closed met out =
    join_meets n landing (landing + 1) (enter ∷ copy) (land ∷ []) (omega (arith, len)) (tt, inside n (omega arith)) (tt, tt)
    (λ x le ge. (off x.from x.past le (omega (arith, ge)), tt))
    (λ x le ge. let first = head_off x.from x.past c.size (n + 1) landing (inl (omega (arith, le))) (inl le) in (record { yes = first; no = first }, closed c refl x.from x.past chain w.scale (n + 1) landing (inr le) (inl le)))
    (join_meets n (n + 1) landing (enter ∷ []) copy (omega arith) (tt, tt) (inside (n + 1) (omega arith))
    (λ x le ge. closed c refl x.from x.past chain w.scale (n + 1) landing (inl ge) (inr (omega (arith, ge))))
    (λ x le ge. let first = head_off x.from x.past c.size (n + 1) landing (inl le) (inr ge) in (record { yes = first; no = first }, tt))
    (tt, tt)
    (met c refl chain w.scale (n + 1) landing (inr (omega arith))))
    (tt, tt)
  where
    landing : ℕ
    landing = n + 1 + c.size

    chain : List BlockName
    chain = w.chain ++ b ∷ []

    copy : List Site
    copy = c.sites chain w.scale (n + 1) landing

    enter : Site
    enter = one_end_site w (Enter t c.locals es) (Some b) (head c.size (n + 1) landing)

    land : Site
    land = one_end_site w (Land t c.result b) None next

    len : length copy ≡ c.size
    len = sizes c refl chain w.scale (n + 1) landing

    inside : (lo : ℕ) → lo ≤ n + 1 → AllInner lo landing copy
    inside lo le = inner c refl lo landing chain w.scale (n + 1) landing le (omega arith)

    off : (from number_past : ℕ) → n ≤ from → number_past ≤ landing + 1 → LeadsOn (Off from number_past) land
    off from number_past le ge = let h = narrower n (n + suc (suc c.size)) from number_past next le (omega (arith, ge)) out in record { yes = h; no = h }

-- the lists of a row: a block, a statement and the rest
row_both : (w : Position) (ss : List Stmt) (b : BlockName) (n z r : ℕ) (k : Targets) (q1 q2 : List Site) → (let n1 = number_past ss n in let n2 = n1 + z in let next = head r n2 k.next in length q1 ≡ z → AllInner n1 n2 q1 → AllInner n2 (n2 + r) q2 → AllInner n1 (n2 + r) (q1 ++ q2) → Closed n1 n2 (with_next k next) q1 → Closed n2 (n2 + r) k q2 → TargetsAre (Off n (n2 + r)) k → MeetAll q1 n1 q1 → MeetAll q2 n2 q2 → (let g = flush w ss b (head z n1 next) ++ (q1 ++ q2) in MeetAll g n g))
row_both w ss b n z r k q1 q2 len i1 i2 i12 c1 c2 out h1 h2 =
    join_meets n n1 hi (flush w ss b t) (q1 ++ q2) (past_flush w ss b n t) (flush_inner n n1 w ss b t) i12
    (λ x le ge. lead_append (Off x.from x.past) q1 q2 (c1 x.from x.past (inl ge) (kn_off x.from x.past le (omega (arith, ge)) (inr (omega (arith, ge))))) (c2 x.from x.past (inl (omega (arith, ge))) (inside x.from x.past le (omega (arith, ge)))))
    (λ x le ge. flush_lead (Off x.from x.past) w ss b t (head_before x.from x.past z n1 next le (λ none. head_off x.from x.past r n2 k.next (inl (omega (arith, le, none))) (inside x.from x.past (omega (arith, le, low)) ge).next)))
    (flush_meets w ss b t n (flush w ss b t))
    (join_meets n1 n2 hi q1 q2 (omega (arith, len)) i1 i2
    (λ x le ge. c2 x.from x.past (inl ge) (inside x.from x.past (omega (arith, le, low)) (omega (arith, ge))))
    (λ x le ge. c1 x.from x.past (inr le) (kn_off x.from x.past (omega (arith, le, low)) ge (inl le)))
    h1 h2)
  where
    n1 : ℕ
    n1 = number_past ss n

    n2 : ℕ
    n2 = n1 + z

    hi : ℕ
    hi = n2 + r

    next : ℕ
    next = head r n2 k.next

    t : ℕ
    t = head z n1 next

    low : n ≤ n1
    low = past_le ss n

    inside : (from number_past : ℕ) → n ≤ from → number_past ≤ hi → TargetsAre (Off from number_past) k
    inside from number_past le ge = all_narrower n hi from number_past k le ge out

    kn_off : (from number_past : ℕ) → n ≤ from → number_past ≤ hi → Off from number_past n2 → TargetsAre (Off from number_past) (with_next k next)
    kn_off from number_past le ge here =
        let h = inside from number_past le ge in
        next_are (Off from number_past) k next h (head_off from number_past r n2 k.next here h.next)

row_choose : (w : Position) (ss : List Stmt) (b : BlockName) (t n : ℕ) (p q1 q2 : List Site) (st : Stmt) → (is_simple st ≡ true → MeetAll p n p) → (is_simple st ≡ false → (let g = flush w ss b t ++ (q1 ++ q2) in MeetAll g n g)) → (c : Bool) → is_simple st ≡ c → (let g = if c then p else flush w ss b t ++ (q1 ++ q2) in MeetAll g n g)
row_choose w ss b t n p q1 q2 st hp hq true is = hp is
row_choose w ss b t n p q1 q2 st hp hq false is = hq is

module _ (cs : List Copy) (sizes : HaveSizes cs) (inner : HaveInner cs) (closed : HaveClosed cs) (met : HaveMet cs) where
  mutual
    unfolding site_count row_size held_size flow row_flow held_flow

    pub st_meets : (w : Position) (st : Stmt) (b n : ℕ) (k : Targets) → is_simple st ≡ false → TargetsAre (Off n (n + site_count cs st false)) k → MeetAll (flow cs w st b n k) n (flow cs w st b n k)
    st_meets w Empty b n k is out = absurd (cc)
    st_meets w (Scalar l e) b n k is out = absurd (cc)
    st_meets w (Array l es) b n k is out = absurd (cc)
    st_meets w (Assign p op e) b n k is out = absurd (cc)
    st_meets w (Call t c es) b n k is out = call_meets w (slice_get cs c) t es (block w.func b) n k.next (sizes c) (inner c) (closed c) (met c) out.next
    st_meets w Break b n k is out = (tt, tt)
    st_meets w Continue b n k is out = (tt, tt)
    st_meets w (Return e) b n k is out = (tt, tt)
    st_meets w (If' e a x c y) b n k is out =
        let m = row_size cs x false in
        let r = row_size cs y false in
        let n1 = n + 1 in
        let n2 = n + 1 + m in
        let bx = b + 1 in
        let by = b + 1 + row_blocks x false in
        let off = λ (from number_past : ℕ) (le : n ≤ from) (ge : number_past ≤ n2 + r). all_narrower n (n + suc (m + r)) from number_past k le (omega (arith, ge)) out in
        if_meets w e (block w.func b) n m r k (row_flow cs w x bx n1 [] k) (row_flow cs w y by n2 [] k) (row_length cs w x bx n1 [] k sizes) (row_inner n1 n2 cs inner w x bx n1 [] k (omega arith) (omega arith)) (row_inner n2 (n2 + r) cs inner w y by n2 [] k (omega arith) (omega arith)) (row_inner n n2 cs inner w x bx n1 [] k (omega arith) (omega arith)) (λ from number_past apart h. row_closed cs closed from number_past n1 n2 apart w x bx n1 [] k (omega arith) (omega arith) h) (λ from number_past apart h. row_closed cs closed from number_past n2 (n2 + r) apart w y by n2 [] k (omega arith) (omega arith) h) out (row_meets w x bx n1 [] k (off n1 (n1 + m) (omega arith) (omega arith))) (row_meets w y by n2 [] k (off n2 (n2 + r) (omega arith) (omega arith)))
    st_meets w (While' l e a x) b n k is out =
        let inside = times_as_often w l in
        let m = row_size cs x false in
        let n1 = n + 1 in
        let kb = body_of k n in
        let off = all_narrower n (n + suc m) n1 (n1 + m) k (omega arith) (omega arith) out in
        while_meets w l e (block w.func b) n m k (row_flow cs inside x (b + 1) n1 [] kb) (row_length cs inside x (b + 1) n1 [] kb sizes) (row_inner n1 (n1 + m) cs inner inside x (b + 1) n1 [] kb (omega arith) (omega arith)) (row_inner n (n1 + m) cs inner inside x (b + 1) n1 [] kb (omega arith) (omega arith)) out (row_meets inside x (b + 1) n1 [] kb (body_are (Off n1 (n1 + m)) k n off (inl (omega arith))))
    st_meets w (Do' l a x e) b n k is out =
        let inside = times_as_often w l in
        let m = row_size cs x false in
        let c = n + m in
        let kb = body_of k c in
        let off = all_narrower n (n + suc m) n c k (omega arith) (omega arith) out in
        do_meets w l e (block w.func (b + row_blocks x false)) n m k (row_flow cs inside x b n [] kb) (row_length cs inside x b n [] kb sizes) (row_inner n c cs inner inside x b n [] kb (omega arith) (omega arith)) (row_inner n (c + 1) cs inner inside x b n [] kb (omega arith) (omega arith)) out (row_meets inside x b n [] kb (body_are (Off n c) k c off (inr (omega arith))))
    st_meets w (For' l i e j a x) b n k is out =
        let inside = times_as_often w l in
        let bc = b + held_blocks i in
        let z = held_size cs i in
        let c = n + z in
        let r = held_size cs j in
        let m = row_size cs x false in
        let bx = bc + 1 + held_blocks j in
        let again = head r (c + 1) c in
        let mid = c + 1 + r in
        let kc = with_next k c in
        let kb = body_of k again in
        let off = λ (from number_past : ℕ) (le : n ≤ from) (ge : number_past ≤ mid + m). all_narrower n (n + (z + suc (r + m))) from number_past k le (omega (arith, ge)) out in
        for_meets w l e (block w.func bc) n z r m k (held_flow cs w i b n kc) (held_flow cs inside j (bc + 1) (c + 1) kc) (row_flow cs inside x bx mid [] kb) (held_length cs w i b n kc sizes) (held_length cs inside j (bc + 1) (c + 1) kc sizes) (row_length cs inside x bx mid [] kb sizes) (held_inner n c cs inner w i b n kc (omega arith) (omega arith)) (held_inner (c + 1) mid cs inner inside j (bc + 1) (c + 1) kc (omega arith) (omega arith)) (row_inner mid (mid + m) cs inner inside x bx mid [] kb (omega arith) (omega arith)) (inner_append c (mid + m) _ _ (held_inner c (mid + m) cs inner inside j (bc + 1) (c + 1) kc (omega arith) (omega arith)) (row_inner c (mid + m) cs inner inside x bx mid [] kb (omega arith) (omega arith))) (λ from number_past apart h. held_closed cs closed from number_past n c apart w i b n kc (omega arith) (omega arith) h) (λ from number_past apart h. held_closed cs closed from number_past (c + 1) mid apart inside j (bc + 1) (c + 1) kc (omega arith) (omega arith) h) (λ from number_past apart h. row_closed cs closed from number_past mid (mid + m) apart inside x bx mid [] kb (omega arith) (omega arith) h) out (held_meets w i b n kc (next_are (Off n c) k c (off n c (omega arith) (omega arith)) (inr (omega arith)))) (held_meets inside j (bc + 1) (c + 1) kc (next_are (Off (c + 1) (c + 1 + r)) k c (off (c + 1) (c + 1 + r) (omega arith) (omega arith)) (inl (omega arith)))) (row_meets inside x bx mid [] kb (body_are (Off mid (mid + m)) k again (off mid (mid + m) (omega arith) (omega arith)) (head_off mid (mid + m) r (c + 1) c (inl (omega arith)) (inl (omega arith)))))
    st_meets w (Group' a x) b n k is out = row_meets w x b n [] k out

    pub row_meets : {m : _} (w : Position) (x : Row_of-Stmt m) (b n : ℕ) (ss : List Stmt) (k : Targets) → TargetsAre (Off n (n + spanned ss (row_size cs x (is_run ss)))) k → MeetAll (row_flow cs w x b n ss k) n (row_flow cs w x b n ss k)
    row_meets w end_of-Stmt b n ss k out = flush_meets w ss (block w.func b) k.next n (flush w ss (block w.func b) k.next)
    row_meets w (more_of-Stmt st rest) b n ss k out =
        let n1 = number_past ss n in
        let b1 = number_past ss b in
        let z = site_count cs st false in
        let n2 = n1 + z in
        let r = row_size cs rest false in
        let hi = n2 + r in
        let next = head r n2 k.next in
        let kn = with_next k next in
        let b2 = b1 + blocks st false in
        let low : n ≤ n1 = past_le ss n in
        let q1 = flow cs w st b1 n1 kn in
        let q2 = row_flow cs w rest b2 n2 [] k in
        let span = λ (is : is_simple st ≡ false). plain_span cs ss st n (row_size cs rest) is in
        let off = λ (is : is_simple st ≡ false) (from number_past : ℕ) (le : n ≤ from) (ge : number_past ≤ hi). all_narrower n (n + spanned ss (site_count cs st (is_run ss) + row_size cs rest (is_simple st))) from number_past k le (omega (arith, ge, span is)) out in
        row_choose w ss (block w.func b) (head z n1 next) n (row_flow cs w rest b n (ss ++ st ∷ []) k) q1 q2 st
        (λ is. row_meets w rest b n (ss ++ st ∷ []) k (subst (λ y. TargetsAre (Off n (n + y)) k) (sym (simple_span cs ss st (row_size cs rest) is)) out))
        (λ is. row_both w ss (block w.func b) n z r k q1 q2 (flow_length cs w st b1 n1 kn sizes is) (st_inner n1 n2 cs inner w st b1 n1 kn is (omega arith) (omega arith)) (row_inner n2 hi cs inner w rest b2 n2 [] k (omega arith) (omega arith)) (inner_append n1 hi q1 q2 (st_inner n1 hi cs inner w st b1 n1 kn is (omega arith) (omega arith)) (row_inner n1 hi cs inner w rest b2 n2 [] k (omega arith) (omega arith))) (λ from number_past apart h. st_closed cs closed from number_past n1 n2 apart w st b1 n1 kn is (omega arith) (omega arith) h) (λ from number_past apart h. row_closed cs closed from number_past n2 hi apart w rest b2 n2 [] k (omega arith) (omega arith) h) (off is n hi (omega arith) (omega arith)) (st_meets w st b1 n1 kn is (next_are (Off n1 n2) k next (off is n1 n2 (omega (arith, low)) (omega arith)) (head_off n1 n2 r n2 k.next (inr (omega arith)) (off is n1 n2 (omega (arith, low)) (omega arith)).next))) (row_meets w rest b2 n2 [] k (off is n2 hi (omega (arith, low)) (omega arith))))
        (is_simple st) refl

    pub held_meets : (w : Position) (x : Held-Stmt-For-1) (b n : ℕ) (k : Targets) → TargetsAre (Off n (n + held_size cs x)) k → MeetAll (held_flow cs w x b n k) n (held_flow cs w x b n k)
    held_meets w None' b n k out = tt
    held_meets w (Some' a x) b n k out = row_meets w x b n [] k out

-- ---- the copies

record IsNested (c : Copy) : Type 0 where
  sizes : (h : List BlockName) (s n l : ℕ) → length (c.sites h s n l) ≡ c.size
  inner : (lo hi : ℕ) (h : List BlockName) (s n l : ℕ) → lo ≤ n → n + c.size ≤ hi → AllInner lo hi (c.sites h s n l)
  closed : IsClosed c
  met : IsMet c

abbrev AreAllNested : List Copy → Type 0
AreAllNested [] = Unit {0}
AreAllNested (c ∷ cs) = IsNested c × AreAllNested cs

nested_at : (cs : List Copy) → AreAllNested cs → (g : ℕ) (c : Copy) → slice_get cs g ≡ Some c → IsNested c
nested_at [] h g c e = absurd (cc)
nested_at (d ∷ cs) h zero c e = let p : d ≡ c = cc in subst IsNested p h.0
nested_at (d ∷ cs) h (suc g) c e = nested_at cs h.1 g c e

nested_more : (cs : List Copy) (c : Copy) → AreAllNested cs → IsNested c → AreAllNested (cs ++ c ∷ [])
nested_more [] c h is = (is, tt)
nested_more (d ∷ cs) c h is = (h.0, nested_more cs c h.1 is)

abbrev placed : ℕ → List BlockName → ℕ → Position
placed k chain scale = record { func = k; chain = chain; scale = scale }

all_are : (P : ℕ → Type 0) (l : ℕ) → P l → TargetsAre P (all_to l)
all_are P l h = record { next = h; breaks = h; continues = h; returns = h }

copy_nested : (cs : List Copy) (k : ℕ) (f : Func) → AreAllNested cs → IsNested (copy_of k f cs)
copy_nested cs k f h = let r = hidden-the_row-Stmt-0 f.body in record {
  sizes = λ chain s n l. list_length cs (placed k chain s) f.body n (all_to l) sizes;
  inner = λ lo hi chain s n l le ge. subst (AllInner lo hi) (flows chain s n l) (row_inner lo hi cs inner (placed k chain s) r 0 n [] (all_to l) le (omega (arith, ge, size_is)));
  closed = λ from number_past chain s n l apart off. subst (AllLead (Off from number_past)) (flows chain s n l) (row_closed cs closed from number_past n (n + list_size cs f.body false) apart (placed k chain s) r 0 n [] (all_to l) (omega arith) (omega (arith, size_is)) (all_are (Off from number_past) l off));
  met = λ chain s n l off. subst (λ g. MeetAll g n g) (flows chain s n l) (row_meets cs sizes inner closed met (placed k chain s) r 0 n [] (all_to l) (all_are (Off n (n + row_size cs r false)) l (subst (λ z. Off n (n + z) l) (sym size_is) off)));
}
  where
    size_is : row_size cs (hidden-the_row-Stmt-0 f.body) false ≡ list_size cs f.body false
    size_is = row_sizes cs f.body false

    flows : (chain : List BlockName) (s n l : ℕ) → row_flow cs (placed k chain s) (hidden-the_row-Stmt-0 f.body) 0 n [] (all_to l) ≡ list_flow cs (placed k chain s) f.body 0 n [] (all_to l)
    flows chain s n l = row_flows cs (placed k chain s) f.body 0 n [] (all_to l)

    sizes : HaveSizes cs
    sizes g c e = (nested_at cs h g c e).sizes

    inner : HaveInner cs
    inner g c e = (nested_at cs h g c e).inner

    closed : HaveClosed cs
    closed g c e = (nested_at cs h g c e).closed

    met : HaveMet cs
    met g c e = (nested_at cs h g c e).met

all_nested : (funcs : List Func) (cs : List Copy) → AreAllNested cs → AreAllNested (copies cs funcs)
all_nested [] cs h = h
all_nested (f ∷ fs) cs h =
    all_nested fs (cs ++ copy_of (length cs) f cs ∷ []) (nested_more cs (copy_of (length cs) f cs) h (copy_nested cs (length cs) f h))

-- ---- the graph

nodes_meet : (o : Option Copy) → ((c : Copy) → o ≡ Some c → IsNested c) → MeetAll (sites_of o) 0 (sites_of o)
nodes_meet None h = (tt, tt)
nodes_meet (Some c) h =
    let is = h c refl in
    let g = c.sites [] 1 2 1 in
    let entry = one_end_site outermost Entry None (head c.size 2 1) in
    let exit = one_end_site outermost Exit None 1 in
    let inner = is.inner 2 (2 + c.size) [] 1 2 1 (omega arith) (omega arith) in
    (tt, (tt, meet_append g 0 2 (entry ∷ (exit ∷ [])) g refl (cross 2 (2 + c.size) 0 g (entry ∷ (exit ∷ [])) inner (λ l le ge. let first = head_off l.from l.past c.size 2 1 (inl le) (inl (omega (arith, le))) in (record { skips = λ out. record { yes = first; no = first }; nests = tt }, (record { skips = λ out. record { yes = inl (omega (arith, le)); no = inl (omega (arith, le)) }; nests = tt }, tt)))) (is.met [] 1 2 1 (inl (omega arith)))))

pub graph_meets : (p : Program) → MeetAll (graph p) 0 (graph p)
unfolding graph
graph_meets p =
    nodes_meet (slice_get (copies [] p.funcs) p.entry) (nested_at (copies [] p.funcs) (all_nested p.funcs [] tt) p.entry)

-- all nodes but the first two are inner ones, and so are all loops
pub record HasInner (g : List Site) : Type 0 where
  pub past : ℕ
  pub inner : (n : ℕ) (s : Site) → 2 ≤ n → slice_get g n ≡ Some s → IsInner 2 past s.content
  pub loops : (n : ℕ) (s : Site) → slice_get g n ≡ Some s → OfLoop (λ l. 2 ≤ l.from) s.content

inner_at : (lo hi : ℕ) (g : List Site) (n : ℕ) (s : Site) → AllInner lo hi g → slice_get g n ≡ Some s → IsInner lo hi s.content
inner_at lo hi [] n s h e = absurd (cc)
inner_at lo hi (x ∷ g) zero s h e = let p : x ≡ s = cc in subst (λ y. IsInner lo hi y.content) p h.0
inner_at lo hi (x ∷ g) (suc n) s h e = inner_at lo hi g n s h.1 e

behind_two : (lo hi : ℕ) (x y : Site) (g : List Site) → AllInner lo hi g → (n : ℕ) (s : Site) → 2 ≤ n → slice_get (x ∷ (y ∷ g)) n ≡ Some s → IsInner lo hi s.content
behind_two lo hi x y g h zero s le e = absurd (omega (arith, le))
behind_two lo hi x y g h (suc zero) s le e = absurd (omega (arith, le))
behind_two lo hi x y g h (suc (suc n)) s le e = inner_at lo hi g n s h e

loops_behind : (hi : ℕ) (x y : Site) (g : List Site) → OfLoop (λ l. 2 ≤ l.from) x.content → OfLoop (λ l. 2 ≤ l.from) y.content → AllInner 2 hi g → (n : ℕ) (s : Site) → slice_get (x ∷ (y ∷ g)) n ≡ Some s → OfLoop (λ l. 2 ≤ l.from) s.content
loops_behind hi x y g hx hy h zero s e = let p : x ≡ s = cc in subst (λ z. OfLoop (λ l. 2 ≤ l.from) z.content) p hx
loops_behind hi x y g hx hy h (suc zero) s e = let p : y ≡ s = cc in subst (λ z. OfLoop (λ l. 2 ≤ l.from) z.content) p hy
loops_behind hi x y g hx hy h (suc (suc n)) s e =
    of_inner (λ l. 2 ≤ l.from) 2 hi s.content (inner_at 2 hi g n s h e) (λ l le ge. le)

none_behind : (x : Site) (n : ℕ) (s : Site) → 2 ≤ n → slice_get (x ∷ []) n ≡ Some s → IsInner 2 2 s.content
none_behind x zero s le e = absurd (omega (arith, le))
none_behind x (suc n) s le e = absurd (cc)

no_loops : (x : Site) → OfLoop (λ l. 2 ≤ l.from) x.content → (n : ℕ) (s : Site) → slice_get (x ∷ []) n ≡ Some s → OfLoop (λ l. 2 ≤ l.from) s.content
no_loops x h zero s e = let p : x ≡ s = cc in subst (λ z. OfLoop (λ l. 2 ≤ l.from) z.content) p h
no_loops x h (suc n) s e = absurd (cc)

nodes_inner : (o : Option Copy) → ((c : Copy) → o ≡ Some c → IsNested c) → HasInner (sites_of o)
nodes_inner None h = let x = one_end_site outermost Missing None 1 in record { past = 2; inner = none_behind x; loops = no_loops x tt }
nodes_inner (Some c) h =
    let g = c.sites [] 1 2 1 in
    let hi = 2 + c.size in
    let inner = (h c refl).inner 2 hi [] 1 2 1 (omega arith) (omega arith) in
    let entry = one_end_site outermost Entry None (head c.size 2 1) in
    let exit = one_end_site outermost Exit None 1 in
    record { past = hi; inner = behind_two 2 hi entry exit g inner; loops = loops_behind hi entry exit g tt tt inner }

pub graph_inner : (p : Program) → HasInner (graph p)
unfolding graph
graph_inner p =
    nodes_inner (slice_get (copies [] p.funcs) p.entry) (nested_at (copies [] p.funcs) (all_nested p.funcs [] tt) p.entry)
