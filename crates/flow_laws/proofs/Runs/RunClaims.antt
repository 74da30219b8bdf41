-- What a run says of the graph, and how it composes.
use Rattle.std.proofs.Common.{◌≡◌, ℕ, ◌+◌, ◌<◌, ◌≤◌, true, false, if◌then◌else◌, List, [], ◌∷◌, ◌++◌, length, Option, Some, None, refl, ap, ◌∙◌, subst, arith, append_assoc}
use Rattle.std.specs.Prelude.{slice_get}
use Rattle.std.proofs.Common.{length-append}
use Rattle.std.proofs.Math.Seq.{get_or-append_seam}
use Rattle.std.proofs.lemmas.Option.{slice_get-get_or}
use Rattle.c_tree.specs.declared.program.BlockName.{BlockName}
use Rattle.c_tree.specs.declared.value.Value.{Value}
use Rattle.c_tree.specs.declared.value.Slot.{Slot}
use Rattle.c_tree.specs.declared.value.Store.{Store}
use Rattle.c_tree.specs.declared.value.Way.{Way}
use Rattle.c_tree.specs.declared.value.Way.TheVariants as way
use Rattle.c_tree.specs.Meaning.Statements.{Outcome, Ends, Undefined, OverBound, after, then_do, turn_do}
use Rattle.flow_laws.specs.declared.graph.Way.{Way as EdgeWay}
use Rattle.flow_laws.specs.declared.graph.Edge.{Edge}
use Rattle.flow_laws.specs.Sites.{LoopCopy, Site, Targets, body_of, with_next}
use Rattle.flow_laws.specs.Graphs.{leaves}
use Rattle.flow_laws.specs.Driving.{Goes, Memory, Stuck, content_move, memory}
use Rattle.flow_laws.proofs.Driving.DrivingSteps.{Broken, Counters, Driven, Going, State, Status, Undefined_, at, blocks_at, hit, is_over, listed, moved, passed, status, status_at, target, trace_of, visits}
use Rattle.flow_laws.proofs.Driving.DrivenLists.{driven_append, trace_append, Within, within_append, within_wider, After, IsFresh, driven_after}
use Rattle.std.proofs.lemmas.List.{append-nil}

-- where a way leads, and the value that it brings
abbrev pub aim : Targets → Way → ℕ
aim k way.Next = k.next
aim k way.Break = k.breaks
aim k way.Continue = k.continues
aim k (way.Return v) = k.returns

abbrev pub brought : Way → Option Value
brought way.Next = None
brought way.Break = None
brought way.Continue = None
brought (way.Return v) = v

-- from a a list of edges with sources from lo on below hi leads to the node n
pub record Reaches (g : List Site) (x d lo hi : ℕ) (a : State) (t : List BlockName) (n : ℕ) (m : Memory) : Type 0 where
  pub path : List Edge
  pub left : Counters
  pub driven : Driven g path a (at n m left)
  pub within : Within lo hi path
  pub trace : trace_of g path ≡ t
  pub capped : visits x path ≤ d

-- from a a list of edges leads to a state with no edge
pub record Halts (g : List Site) (a : State) (h : Status) : Type 0 where
  pub path : List Edge
  pub last : State
  pub driven : Driven g path a last
  pub is : status g last ≡ h

abbrev pub Leads : List Site → ℕ → ℕ → ℕ → ℕ → Targets → State → List (List Slot) → Outcome → Type 0
Leads g x d lo hi k a fs (Ends t s w) = Reaches g x d lo hi a t (aim k w) (memory s fs (brought w))
Leads g x d lo hi k a fs Undefined = Halts g a Undefined_
Leads g x d lo hi k a fs OverBound = Halts g a Broken

-- the counters of the loop_copies from lo on up to hi are full where they are entered
abbrev pub AllFresh : ℕ → ℕ → State → Type 0
AllFresh lo hi a = (l : LoopCopy) → lo ≤ l.from → l.past ≤ hi → IsFresh l a

pub wider : (g : List Site) (x d d' lo hi lo' hi' : ℕ) (k : Targets) (a : State) (fs : List (List Slot)) (o : Outcome) → d ≤ d' → lo' ≤ lo → hi ≤ hi' → Leads g x d lo hi k a fs o → Leads g x d' lo' hi' k a fs o
wider g x d d' lo hi lo' hi' k a fs (Ends t s w) more le ge h =
    record { path = h.path; left = h.left; driven = h.driven; within = within_wider lo hi lo' hi' h.path le ge h.within; trace = h.trace; capped = omega (arith, more, h.capped) }
wider g x d d' lo hi lo' hi' k a fs Undefined more le ge h = h
wider g x d d' lo hi lo' hi' k a fs OverBound more le ge h = h

pub visits_append : (x : ℕ) (p q : List Edge) → visits x (p ++ q) ≡ visits x p + visits x q
visits_append x [] q = omega arith
visits_append x (e ∷ p) q = omega (arith, visits_append x p q)

pub halts_before : (g : List Site) (p : List Edge) (a b : State) (h : Status) → Driven g p a b → Halts g b h → Halts g a h
halts_before g p a b h d r =
    record { path = p ++ r.path; last = r.last; driven = driven_append g p r.path a b r.last d r.driven; is = r.is }

-- a list before what comes next
pub before : (g : List Site) (x c d lo hi : ℕ) (k : Targets) (p : List Edge) (a b : State) (fs : List (List Slot)) (t : List BlockName) (o : Outcome) → Driven g p a b → Within lo hi p → trace_of g p ≡ t → visits x p ≤ c → Leads g x d lo hi k b fs o → Leads g x (c + d) lo hi k a fs (after t o)
before g x c d lo hi k p a b fs t (Ends u s w) dr i e v r = record {
  path = p ++ r.path;
  left = r.left;
  driven = driven_append g p r.path a b (at (aim k w) (memory s fs (brought w)) r.left) dr r.driven;
  within = within_append lo hi p r.path i r.within;
  trace = trace_append g p r.path ∙ ap (λ y. y ++ trace_of g r.path) e ∙ ap (λ y. t ++ y) r.trace;
  capped = omega (arith, visits_append x p r.path, v, r.capped);
}
before g x c d lo hi k p a b fs t Undefined dr i e v r = halts_before g p a b Undefined_ dr r
before g x c d lo hi k p a b fs t OverBound dr i e v r = halts_before g p a b Broken dr r

-- what follows a part from lo on below mid, at the node n
abbrev pub Follows : List Site → ℕ → ℕ → ℕ → ℕ → ℕ → ℕ → Targets → State → List (List Slot) → ℕ → (Store → Outcome) → Type 0
Follows g x d lo mid lo' hi' k a fs n go =
    (s : Store) (left : Counters) → After lo mid a (at n (memory s fs None) left) → Leads g x d lo' hi' k (at n (memory s fs None) left) fs (go s)

go_on : (g : List Site) (x c d y lo mid lo' hi' n : ℕ) (k k1 : Targets) (a : State) (fs : List (List Slot)) (t : List BlockName) (s : Store) (go : Store → Outcome) → c + d ≤ y → lo' ≤ lo → mid ≤ hi' → Reaches g x c lo mid a t n (memory s fs None) → Follows g x d lo mid lo' hi' k a fs n go → Leads g x y lo' hi' k a fs (after t (go s))
go_on g x c d y lo mid lo' hi' n k k1 a fs t s go sum le ge r next =
    let b : State = at n (memory s fs None) r.left in
    wider g x (c + d) y lo' hi' lo' hi' k a fs (after t (go s)) sum (omega arith) (omega arith) (before g x c d lo' hi' k r.path a b fs t (go s) r.driven (within_wider lo mid lo' hi' r.path le ge r.within) r.trace r.capped (next s r.left (driven_after g lo mid r.path a b r.within r.driven)))

pub then_leads : (g : List Site) (x c d y lo mid lo' hi' n : ℕ) (k : Targets) (a : State) (fs : List (List Slot)) (o : Outcome) (go : Store → Outcome) → c + d ≤ y → lo' ≤ lo → mid ≤ hi' → Leads g x c lo mid (with_next k n) a fs o → Follows g x d lo mid lo' hi' k a fs n go → Leads g x y lo' hi' k a fs (then_do o go)
then_leads g x c d y lo mid lo' hi' n k a fs (Ends t s way.Next) go sum le ge r next =
    go_on g x c d y lo mid lo' hi' n k k a fs t s go sum le ge r next
then_leads g x c d y lo mid lo' hi' n k a fs (Ends t s way.Break) go sum le ge r next =
    wider g x c y lo mid lo' hi' k a fs (Ends t s way.Break) (omega (arith, sum)) le ge r
then_leads g x c d y lo mid lo' hi' n k a fs (Ends t s way.Continue) go sum le ge r next =
    wider g x c y lo mid lo' hi' k a fs (Ends t s way.Continue) (omega (arith, sum)) le ge r
then_leads g x c d y lo mid lo' hi' n k a fs (Ends t s (way.Return v)) go sum le ge r next =
    wider g x c y lo mid lo' hi' k a fs (Ends t s (way.Return v)) (omega (arith, sum)) le ge r
then_leads g x c d y lo mid lo' hi' n k a fs Undefined go sum le ge r next = r
then_leads g x c d y lo mid lo' hi' n k a fs OverBound go sum le ge r next = r

pub turn_leads : (g : List Site) (x c d y lo mid lo' hi' n : ℕ) (k : Targets) (a : State) (fs : List (List Slot)) (o : Outcome) (go : Store → Outcome) → c + d ≤ y → lo' ≤ lo → mid ≤ hi' → Leads g x c lo mid (body_of k n) a fs o → Follows g x d lo mid lo' hi' k a fs n go → Leads g x y lo' hi' k a fs (turn_do o go)
turn_leads g x c d y lo mid lo' hi' n k a fs (Ends t s way.Next) go sum le ge r next =
    go_on g x c d y lo mid lo' hi' n k k a fs t s go sum le ge r next
turn_leads g x c d y lo mid lo' hi' n k a fs (Ends t s way.Continue) go sum le ge r next =
    go_on g x c d y lo mid lo' hi' n k k a fs t s go sum le ge r next
turn_leads g x c d y lo mid lo' hi' n k a fs (Ends t s way.Break) go sum le ge r next =
    wider g x c y lo mid lo' hi' k a fs (Ends t s way.Next) (omega (arith, sum)) le ge r
turn_leads g x c d y lo mid lo' hi' n k a fs (Ends t s (way.Return v)) go sum le ge r next =
    wider g x c y lo mid lo' hi' k a fs (Ends t s (way.Return v)) (omega (arith, sum)) le ge r
turn_leads g x c d y lo mid lo' hi' n k a fs Undefined go sum le ge r next = r
turn_leads g x c d y lo mid lo' hi' n k a fs OverBound go sum le ge r next = r

-- ---- one node

pub status_going : (g : List Site) (n : ℕ) (m m' : Memory) (left : Counters) (nd : Site) (t : EdgeWay) → slice_get g n ≡ Some nd → content_move nd.content m ≡ Goes t m' → is_over nd.content t left ≡ false → status g (at n m left) ≡ Going (leaves n t (target nd t)) (at (target nd t) m' (passed (leaves n t (target nd t)) left))
unfolding status
status_going g n m m' left nd t has moves over =
    let a : State = at n m left in
    let e : Edge = leaves n t (target nd t) in
    ap (λ o. status_at o a) has ∙ ap (moved nd a) moves ∙ ap (λ b. if b then Broken else Going e (at e.to m' (passed e left))) over

pub status_stuck : (g : List Site) (n : ℕ) (m : Memory) (left : Counters) (nd : Site) → slice_get g n ≡ Some nd → content_move nd.content m ≡ Stuck → status g (at n m left) ≡ Undefined_
unfolding status
status_stuck g n m left nd has moves =
    let a : State = at n m left in
    ap (λ o. status_at o a) has ∙ ap (moved nd a) moves

pub status_broken : (g : List Site) (n : ℕ) (m m' : Memory) (left : Counters) (nd : Site) (t : EdgeWay) → slice_get g n ≡ Some nd → content_move nd.content m ≡ Goes t m' → is_over nd.content t left ≡ true → status g (at n m left) ≡ Broken
unfolding status
status_broken g n m m' left nd t has moves over =
    let a : State = at n m left in
    let e : Edge = leaves n t (target nd t) in
    ap (λ o. status_at o a) has ∙ ap (moved nd a) moves ∙ ap (λ b. if b then Broken else Going e (at e.to m' (passed e left))) over

pub halts_here : (g : List Site) (a : State) (h : Status) → status g a ≡ h → Halts g a h
halts_here g a h e = record { path = []; last = a; driven = refl; is = e }

-- a node that is left, and what comes next
pub step_leads : (g : List Site) (x d y lo hi : ℕ) (k : Targets) (n : ℕ) (m m' : Memory) (left : Counters) (fs : List (List Slot)) (nd : Site) (t : EdgeWay) (o : Outcome) → hit x n + d ≤ y → lo ≤ n → n < hi → slice_get g n ≡ Some nd → content_move nd.content m ≡ Goes t m' → is_over nd.content t left ≡ false → Leads g x d lo hi k (at (target nd t) m' (passed (leaves n t (target nd t)) left)) fs o → Leads g x y lo hi k (at n m left) fs (after (listed nd.node.block) o)
step_leads g x d y lo hi k n m m' left fs nd t o sum le lt has moves over r =
    let e : Edge = leaves n t (target nd t) in
    let b : State = at e.to m' (passed e left) in
    wider g x (hit x n + d) y lo hi lo hi k (at n m left) fs (after (listed nd.node.block) o) sum (omega arith) (omega arith) (before g x (hit x n) d lo hi k (e ∷ []) (at n m left) b fs (listed nd.node.block) o (b, status_going g n m m' left nd t has moves over, refl) (le, lt, tt) (append-nil (blocks_at (slice_get g n)) ∙ ap blocks_at has) (omega arith) r)

-- ---- nodes stand in a graph

abbrev pub HasAt : List Site → ℕ → List Site → Type 0
HasAt g n [] = Unit {0}
HasAt g n (x ∷ xs) = (slice_get g n ≡ Some x) × HasAt g (n + 1) xs

pub has_front : (g : List Site) (n : ℕ) (a b : List Site) → HasAt g n (a ++ b) → HasAt g n a
has_front g n [] b h = tt
has_front g n (x ∷ a) b h = (h.0, has_front g (n + 1) a b h.1)

pub has_back : (g : List Site) (n m : ℕ) (a b : List Site) → n + length a ≡ m → HasAt g n (a ++ b) → HasAt g m b
has_back g n m [] b e h = let p : n ≡ m = omega (arith, e) in subst (λ x. HasAt g x b) p h
has_back g n m (x ∷ a) b e h = has_back g (n + 1) m a b (omega (arith, e)) h.1

pub has_all : (xs pre : List Site) → HasAt (pre ++ xs) (length pre) xs
has_all [] pre = tt
has_all (x ∷ xs) pre =
    let within : length pre < length (pre ++ x ∷ xs) = omega (arith, length-append pre (x ∷ xs)) in
    let here = slice_get-get_or (pre ++ x ∷ xs) (length pre) x within ∙ ap Some (get_or-append_seam pre x xs x) in
    let n : length (pre ++ x ∷ []) ≡ length pre + 1 = omega (arith, length-append pre (x ∷ [])) in
    let rest = has_all xs (pre ++ x ∷ []) in
    let rest' = subst (λ l. HasAt l (length (pre ++ x ∷ [])) xs) (append_assoc pre (x ∷ []) xs) rest in
    (here, subst (λ m. HasAt (pre ++ x ∷ xs) m xs) n rest')
