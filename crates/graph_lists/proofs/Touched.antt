-- A list keeps all bounds exactly where one pass with a counter for each loop says so.
use Rattle.std.proofs.Common.{◌≡◌, ◌<◌, ◌≤◌, ℕ, zero, suc, ◌+◌, Bool, true, false, if◌then◌else◌, List, [], ◌∷◌, ◌++◌, length, length-append, drop, get_or, append_assoc, replicate, Option, Some, None, refl, sym, ap, ◌∙◌, arith}
use Rattle.std.specs.Prelude.{◌==◌, ◌&&◌, nat_lt, slice_get, slice_set}
use Rattle.std.specs.List.{list_all}
use Rattle.std.proofs.lemmas.Bool.{lt-ltb, ltb-true, ltb-false, eqb-true, eq-eqb, ne_eqb, and_from}
use Rattle.std.proofs.lemmas.List.{length-map, get_or-set_other}
use Rattle.std.proofs.lemmas.Option.{slice_get-get_or}
use Rattle.std.proofs.lemmas.Grind.{get_or-set_at}
use Rattle.flow_laws.specs.declared.graph.Edge.{Edge}
use Rattle.flow_laws.specs.declared.graph.Loop.{Loop}
use Rattle.flow_laws.specs.Sites.{Content, Entry, Exit, Simple, Test, Jump, Give, Enter, Missing, Land, Site}
use Rattle.flow_laws.specs.Graphs.{edges, edges_from, outs, loops, loops_at, loop_copies, loop_of}
use Rattle.flow_laws.specs.Paths.{is_in_list, most_turns, after_turn, keeps_from, keeps, keeps_each}
use Rattle.graph_lists.specs.declared.touch.Touch.{Touch}
use Rattle.graph_lists.specs.declared.touch.Touch.TheVariants.{Enters, Turns}
use Rattle.graph_lists.specs.Touches.{with_touch, touches_of, all_touches, is_low, are_low, Counters, none_entered, counters, with_turns_left, on_turn, is_kept_at, is_kept_over, is_kept_by_row, is_kept_by}
use Rattle.plain_laws.proofs.Booleans.{and-false}

-- ---- what a pass leaves alone

-- the loops' numbers are k or more
abbrev pub From : ℕ → List Touch → Type 0
From k [] = Unit {0}
From k (Enters j n ∷ ts) = (k ≤ j) × From k ts
From k (Turns j ∷ ts) = (k ≤ j) × From k ts

from_more : (k i : ℕ) (ts : List Touch) → k ≤ i → From i ts → From k ts
from_more k i [] le f = tt
from_more k i (Enters j n ∷ ts) le f = (omega (arith, le, f.0), from_more k i ts le f.1)
from_more k i (Turns j ∷ ts) le f = (omega (arith, le, f.0), from_more k i ts le f.1)

from_with : (k i : ℕ) (l : Loop) (j : ℕ) (ts : List Touch) → k ≤ i → From k ts → (en tu : Bool) → From k (with_touch (if en then Some (Enters i (most_turns l)) else (if tu then Some (Turns i) else None)) ts)
from_with k i l j ts le f true tu = (le, f)
from_with k i l j ts le f false true = (le, f)
from_with k i l j ts le f false false = f

pub touches_from : (k : ℕ) (ls : List Loop) (j : ℕ) → From k (touches_of k ls j)
touches_from k [] j = tt
touches_from k (l ∷ ls) j =
    let rest = from_more k (k + 1) (touches_of (k + 1) ls j) (omega arith) (touches_from (k + 1) ls j) in
    from_with k k l j (touches_of (k + 1) ls j) (omega arith) rest (is_in_list j l.into) (j == l.turn)

put_off : (left : Counters) (k j : ℕ) (n : Option ℕ) → k < j → with_turns_left left j n k ≡ left k
put_off left k j n lt = ap (λ b. if b then n else left k) (ne_eqb k j (λ e. omega (arith, lt, e)))

put_on : (left : Counters) (k : ℕ) (n : Option ℕ) → with_turns_left left k n k ≡ n
put_on left k n = ap (λ b. if b then n else left k) (eq-eqb k k refl)

-- what is said of the counter of an earlier loop can be said before
apart : (k : ℕ) (ts : List Touch) → From (k + 1) ts → (f : Option ℕ → Bool) (go : Counters → Bool) (left : Counters) → is_kept_over ts left (λ m. f (m k) && go m) ≡ (f (left k) && is_kept_over ts left go)
apart k [] h f go left = refl
apart k (Enters j n ∷ ts) h f go left =
    apart k ts h.1 f go (with_turns_left left j (Some n)) ∙ ap (λ y. f y && is_kept_over ts (with_turns_left left j (Some n)) go) (put_off left k j (Some n) (omega (arith, h.0)))
apart k (Turns j ∷ ts) h f go left = by (apart k ts h.1 f go) (left j)
  where
    by : ((m : Counters) → is_kept_over ts m (λ m. f (m k) && go m) ≡ (f (m k) && is_kept_over ts m go)) → (o : Option ℕ) → on_turn o (is_kept_over ts left (λ m. f (m k) && go m)) (λ n. is_kept_over ts (with_turns_left left j (Some n)) (λ m. f (m k) && go m)) ≡ (f (left k) && on_turn o (is_kept_over ts left go) (λ n. is_kept_over ts (with_turns_left left j (Some n)) go))
    by next None = next left
    by next (Some zero) = sym (and-false (f (left k)))
    by next (Some (suc n)) =
        next (with_turns_left left j (Some n)) ∙ ap (λ y. f y && is_kept_over ts (with_turns_left left j (Some n)) go) (put_off left k j (Some n) (omega (arith, h.0)))

-- the same of what no counter tells
aside : (ts : List Touch) (b : Bool) (go : Counters → Bool) (left : Counters) → is_kept_over ts left (λ m. b && go m) ≡ (b && is_kept_over ts left go)
aside ts true go left = refl
aside [] false go left = refl
aside (Enters j n ∷ ts) false go left = aside ts false go (with_turns_left left j (Some n))
aside (Turns j ∷ ts) false go left = by (aside ts false go) (left j)
  where
    by : ((m : Counters) → is_kept_over ts m (λ m. false && go m) ≡ (false && is_kept_over ts m go)) → (o : Option ℕ) → on_turn o (is_kept_over ts left (λ m. false && go m)) (λ n. is_kept_over ts (with_turns_left left j (Some n)) (λ m. false && go m)) ≡ false
    by next None = next left
    by next (Some zero) = refl
    by next (Some (suc n)) = next (with_turns_left left j (Some n))

-- ---- the loops, of which the first has the number k, each by its counter

abbrev keeps_left : Loop → Option ℕ → List ℕ → Bool
keeps_left l left q = keeps_from (λ j. is_in_list j l.into) (λ j. j == l.turn) (most_turns l) left q

abbrev each_left : ℕ → List Loop → Counters → List ℕ → Bool
each_left k [] left q = true
each_left k (l ∷ ls) left q = keeps_left l (left k) q && each_left (k + 1) ls left q

-- earlier counters do not matter
unseen : (k i : ℕ) (ls : List Loop) (left : Counters) (n : Option ℕ) (q : List ℕ) → i < k → each_left k ls (with_turns_left left i n) q ≡ each_left k ls left q
unseen k i [] left n q lt = refl
unseen k i (l ∷ ls) left n q lt =
    let off : with_turns_left left i n k ≡ left k = ap (λ b. if b then n else left k) (ne_eqb k i (λ e. omega (arith, lt, e))) in
    λ z. keeps_left l (off z) q && unseen (k + 1) i ls left n q (omega (arith, lt)) z

no_loops : (k : ℕ) (left : Counters) (ls : List Loop) → each_left k ls left [] ≡ true
no_loops k left [] = refl
no_loops k left (l ∷ ls) = no_loops (k + 1) left ls

none_is : (k : ℕ) (ls : List Loop) (q : List ℕ) → each_left k ls none_entered q ≡ keeps_each ls q
none_is k [] q = refl
none_is k (l ∷ ls) q = ap (λ y. keeps l q && y) (none_is (k + 1) ls q)

-- one edge more, at one loop and the later ones
abbrev Rest : ℕ → List Loop → ℕ → List ℕ → Type 0
Rest k ls j q =
    (left : Counters) → each_left k ls left (j ∷ q) ≡ is_kept_over (touches_of k ls j) left (λ m. each_left k ls m q)

abbrev step_left : Bool → Bool → Loop → Option ℕ → List ℕ → Bool
step_left en tu l left q =
    if en then keeps_left l (Some (most_turns l)) q else (if tu then after_turn left (λ m. keeps_left l m q) else keeps_left l left q)

one_step : (k : ℕ) (l : Loop) (ls : List Loop) (j : ℕ) (q : List ℕ) → Rest (k + 1) ls j q → (en tu : Bool) (left : Counters) → (step_left en tu l (left k) q && each_left (k + 1) ls left (j ∷ q)) ≡ is_kept_over (with_touch (if en then Some (Enters k (most_turns l)) else (if tu then Some (Turns k) else None)) (touches_of (k + 1) ls j)) left (λ m. keeps_left l (m k) q && each_left (k + 1) ls m q)
one_step k l ls j q rest en tu left = by en tu
  where
    ts : List Touch
    ts = touches_of (k + 1) ls j

    f : Option ℕ → Bool
    f m = keeps_left l m q

    go : Counters → Bool
    go m = each_left (k + 1) ls m q

    -- with this counter of the loop, the later loops are as before
    at : (n : Option ℕ) → (f n && each_left (k + 1) ls left (j ∷ q)) ≡ is_kept_over ts (with_turns_left left k n) (λ m. f (m k) && go m)
    at n =
        let same = sym (unseen (k + 1) k ls left n (j ∷ q) (omega arith)) ∙ rest (with_turns_left left k n) in
        (λ z. f (sym (put_on left k n) z) && same z) ∙ sym (apart k ts (touches_from (k + 1) ls j) f go (with_turns_left left k n))

    alone : (f (left k) && each_left (k + 1) ls left (j ∷ q)) ≡ is_kept_over ts left (λ m. f (m k) && go m)
    alone = ap (λ y. f (left k) && y) (rest left) ∙ sym (apart k ts (touches_from (k + 1) ls j) f go left)

    turn : (o : Option ℕ) → left k ≡ o → (after_turn o f && each_left (k + 1) ls left (j ∷ q)) ≡ on_turn o (is_kept_over ts left (λ m. f (m k) && go m)) (λ n. is_kept_over ts (with_turns_left left k (Some n)) (λ m. f (m k) && go m))
    turn None is = ap (λ y. f y && each_left (k + 1) ls left (j ∷ q)) (sym is) ∙ alone
    turn (Some zero) is = refl
    turn (Some (suc n)) is = at (Some n)

    by : (en tu : Bool) → (step_left en tu l (left k) q && each_left (k + 1) ls left (j ∷ q)) ≡ is_kept_over (with_touch (if en then Some (Enters k (most_turns l)) else (if tu then Some (Turns k) else None)) ts) left (λ m. f (m k) && go m)
    by true tu = at (Some (most_turns l))
    by false true = turn (left k) refl
    by false false = alone

one_more : (k : ℕ) (ls : List Loop) (j : ℕ) (q : List ℕ) → Rest k ls j q
one_more k [] j q left = refl
one_more k (l ∷ ls) j q left = one_step k l ls j q (one_more (k + 1) ls j q) (is_in_list j l.into) (j == l.turn) left

-- ---- the table

pub table_long : (ls : List Loop) (i : ℕ) (es : List Edge) → length (all_touches ls i es) ≡ length es
table_long ls i [] = refl
table_long ls i (e ∷ es) = ap suc (table_long ls (i + 1) es)

row_at : (ls : List Loop) (i : ℕ) (es : List Edge) (j : ℕ) → nat_lt j (length es) ≡ true → slice_get (all_touches ls i es) j ≡ Some (touches_of 0 ls (i + j))
row_at ls i [] j lt = let no = ltb-true j 0 lt in absurd (omega (arith, no))
row_at ls i (e ∷ es) zero lt = let z : i ≡ i + 0 = omega arith in ap (λ n. Some (touches_of 0 ls n)) z
row_at ls i (e ∷ es) (suc j) lt =
    let below = ltb-true (suc j) (length (e ∷ es)) lt in
    let z : i + 1 + j ≡ i + suc j = omega arith in
    row_at ls (i + 1) es j (lt-ltb j (length es) (omega (arith, below))) ∙ ap (λ n. Some (touches_of 0 ls n)) z

pub row_is : (ls : List Loop) (es : List Edge) (table : List (List Touch)) (j : ℕ) (row : List Touch) → table ≡ all_touches ls 0 es → j < length es → row ≡ get_or table j row → row ≡ touches_of 0 ls j
row_is ls es table j row same lt is =
    let z : 0 + j ≡ j = omega arith in
    let within : j < length table = omega (arith, lt, ap length same, table_long ls 0 es) in
    let both : Some row ≡ Some (touches_of 0 ls (0 + j)) = ap Some is ∙ sym (slice_get-get_or table j row within) ∙ ap (λ t. slice_get t j) same ∙ row_at ls 0 es j (lt-ltb j (length es) lt) in
    let rows : row ≡ touches_of 0 ls (0 + j) = cc in
    rows ∙ ap (touches_of 0 ls) z

no_row : (ls : List Loop) (i : ℕ) (es : List Edge) (j : ℕ) → nat_lt j (length es) ≡ false → slice_get (all_touches ls i es) j ≡ None
no_row ls i [] j ge = refl
no_row ls i (e ∷ es) zero ge = let lt : nat_lt 0 (length (e ∷ es)) ≡ true = lt-ltb 0 (length (e ∷ es)) (omega arith) in absurd (cc)
no_row ls i (e ∷ es) (suc j) ge = no_row ls (i + 1) es j (below (nat_lt j (length es)) refl)
  where
    below : (b : Bool) → nat_lt j (length es) ≡ b → nat_lt j (length es) ≡ false
    below false is = is
    below true is =
        let lt = ltb-true j (length es) is in
        let more : nat_lt (suc j) (length (e ∷ es)) ≡ true = lt-ltb (suc j) (length (e ∷ es)) (omega (arith, lt)) in
        absurd (cc)

kept_left : (ls : List Loop) (es : List Edge) (q : List ℕ) (left : Counters) → is_kept_by (all_touches ls 0 es) left q ≡ (list_all (λ j. nat_lt j (length es)) q && each_left 0 ls left q)
kept_left ls es [] left = sym (no_loops 0 left ls)
kept_left ls es (j ∷ q) left = by (kept_left ls es q) (nat_lt j (length es)) refl
  where
    all : Bool
    all = list_all (λ i. nat_lt i (length es)) q

    by : ((m : Counters) → is_kept_by (all_touches ls 0 es) m q ≡ (all && each_left 0 ls m q)) → (b : Bool) → nat_lt j (length es) ≡ b → is_kept_by (all_touches ls 0 es) left (j ∷ q) ≡ ((nat_lt j (length es) && all) && each_left 0 ls left (j ∷ q))
    by next false is =
        ap (λ r. is_kept_by_row r left (λ m. is_kept_by (all_touches ls 0 es) m q)) (no_row ls 0 es j is) ∙ ap (λ b. (b && all) && each_left 0 ls left (j ∷ q)) (sym is)
    by next true is =
        let z : 0 + j ≡ j = omega arith in
        let row = row_at ls 0 es j is ∙ ap (λ n. Some (touches_of 0 ls n)) z in
        ap (λ r. is_kept_by_row r left (λ m. is_kept_by (all_touches ls 0 es) m q)) row ∙ (λ i. is_kept_over (touches_of 0 ls j) left (λ m. next m i)) ∙ aside (touches_of 0 ls j) all (λ m. each_left 0 ls m q) left ∙ ap (λ y. all && y) (sym (one_more 0 ls j q left)) ∙ ap (λ b. (b && all) && each_left 0 ls left (j ∷ q)) (sym is)

pub kept_is : (ls : List Loop) (es : List Edge) (q : List ℕ) → is_kept_by (all_touches ls 0 es) none_entered q ≡ (list_all (λ j. nat_lt j (length es)) q && keeps_each ls q)
kept_is ls es q =
    kept_left ls es q none_entered ∙ ap (λ y. list_all (λ j. nat_lt j (length es)) q && y) (none_is 0 ls q)

-- ---- the loops' numbers are low

low_with : (k : ℕ) (l : Loop) (ts : List Touch) → k < 1024 → are_low ts ≡ true → (en tu : Bool) → are_low (with_touch (if en then Some (Enters k (most_turns l)) else (if tu then Some (Turns k) else None)) ts) ≡ true
low_with k l ts lt h true tu = and_from (nat_lt k 1024) (are_low ts) (lt-ltb k 1024 lt) h
low_with k l ts lt h false true = and_from (nat_lt k 1024) (are_low ts) (lt-ltb k 1024 lt) h
low_with k l ts lt h false false = h

row_low : (k : ℕ) (ls : List Loop) (j : ℕ) → k + length ls ≤ 1024 → are_low (touches_of k ls j) ≡ true
row_low k [] j le = refl
row_low k (l ∷ ls) j le =
    low_with k l (touches_of (k + 1) ls j) (omega (arith, le)) (row_low (k + 1) ls j (omega (arith, le))) (is_in_list j l.into) (j == l.turn)

pub all_low : (ls : List Loop) (j : ℕ) (es : List Edge) → length ls ≤ 1024 → list_all are_low (all_touches ls j es) ≡ true
all_low ls j [] le = refl
all_low ls j (e ∷ es) le =
    and_from (are_low (touches_of 0 ls j)) (list_all are_low (all_touches ls (j + 1) es)) (row_low 0 ls j (omega (arith, le))) (all_low ls (j + 1) es le)

-- ---- each loop has two edges

two_each : (n : ℕ) (s : Site) (c : Content) → length (loops_at c) + length (loops_at c) ≤ length (outs n s c)
two_each n s Exit = omega arith
two_each n s (Test None x) = omega arith
two_each n s (Test (Some l) x) = omega arith
two_each n s Entry = omega arith
two_each n s (Simple ss) = omega arith
two_each n s Jump = omega arith
two_each n s (Give x) = omega arith
two_each n s (Enter t ls xs) = omega arith
two_each n s Missing = omega arith
two_each n s (Land t ty b) = omega arith

two_all : (n : ℕ) (g : List Site) → length (loop_copies g) + length (loop_copies g) ≤ length (edges_from n g)
two_all n [] = omega arith
two_all n (s ∷ g) =
    omega (arith, two_each n s s.content, two_all (n + 1) g, length-append (loops_at s.content) (loop_copies g), length-append (outs n s s.content) (edges_from (n + 1) g))

pub few_loops : (g : List Site) → length (edges g) ≤ 2048 → length (loops g) ≤ 1024
unfolding edges
few_loops g le =
    let two = two_all 0 g in
    omega (arith, le, two, length-map (loop_copies g) (loop_of g))

-- ---- a counter in the array

set_one : (left : List (Option ℕ)) (k j : ℕ) (n : Option ℕ) → k < length left → (b : Bool) → (j == k) ≡ b → counters (slice_set left k n) j ≡ (if b then n else counters left j)
set_one left k j n lt true is = get_or-set_at left k j n None (eqb-true j k is) lt
set_one left k j n lt false is =
    get_or-set_other left k j n None (λ e. let on = eq-eqb j k e in let no : true ≡ false = sym on ∙ is in absurd (cc))

pub set_is : (left : List (Option ℕ)) (k : ℕ) (n : Option ℕ) → k < length left → counters (slice_set left k n) ≡ with_turns_left (counters left) k n
set_is left k n lt = λ i j. set_one left k j n lt (j == k) refl i

-- the number of a touch is a place in the array
pub low_enters : (k n : ℕ) → is_low (Enters k n) ≡ true → k < 1024
low_enters k n h = ltb-true k 1024 h

pub low_turns : (k : ℕ) → is_low (Turns k) ≡ true → k < 1024
low_turns k h = ltb-true k 1024 h

-- ---- one row more

some_drop : (es : List Edge) (i : ℕ) → i < length es → (e : Edge) × (drop i es ≡ e ∷ drop (i + 1) es)
some_drop [] i lt = absurd (omega (arith, lt))
some_drop (e ∷ es) zero lt = (e, refl)
some_drop (e ∷ es) (suc i) lt =
    let z : suc i + 1 ≡ suc (i + 1) = omega arith in
    let next = some_drop es i (omega (arith, lt)) in
    (next.0, next.1 ∙ ap (λ m. next.0 ∷ drop m (e ∷ es)) (sym z))

pub row_step : (ls : List Loop) (es : List Edge) (i : ℕ) (old new whole : List (List Touch)) → i < length es → new ≡ old ++ touches_of 0 ls i ∷ [] → old ++ all_touches ls i (drop i es) ≡ whole → new ++ all_touches ls (i + 1) (drop (i + 1) es) ≡ whole
row_step ls es i old new whole lt h k =
    let rest = all_touches ls (i + 1) (drop (i + 1) es) in
    ap (λ y. y ++ rest) h ∙ append_assoc old (touches_of 0 ls i ∷ []) rest ∙ ap (λ y. old ++ all_touches ls i y) (sym (some_drop es i lt).1) ∙ k

-- ---- passes

some_rest : {X : Type 0} (xs : List X) (i : ℕ) (d : X) → i < length xs → drop i xs ≡ get_or xs i d ∷ drop (i + 1) xs
some_rest [] i d lt = absurd (omega (arith, lt))
some_rest (x ∷ xs) zero d lt = refl
some_rest (x ∷ xs) (suc i) d lt =
    let z : suc i + 1 ≡ suc (i + 1) = omega arith in
    some_rest xs i d (omega (arith, lt)) ∙ ap (λ m. get_or xs i d ∷ drop m (x ∷ xs)) (sym z)

pub keep_step : (ts : List Touch) (i : ℕ) (d : Touch) (old new : Counters) (r : Bool) → i < length ts → ((go : Counters → Bool) → is_kept_at (get_or ts i d) old go ≡ (r && go new)) → r ≡ true → (go : Counters → Bool) → is_kept_over (drop i ts) old go ≡ is_kept_over (drop (i + 1) ts) new go
keep_step ts i d old new r lt h is go =
    ap (λ y. is_kept_over y old go) (some_rest ts i d lt) ∙ h (λ m. is_kept_over (drop (i + 1) ts) m go) ∙ ap (λ b. b && is_kept_over (drop (i + 1) ts) new go) is

none_at : (n j : ℕ) → counters (replicate n None) j ≡ None
none_at zero j = refl
none_at (suc n) zero = refl
none_at (suc n) (suc j) = none_at n j

pub none_all : (n : ℕ) → counters (replicate n None) ≡ none_entered
none_all n = λ i j. none_at n j i

pub list_step : (table : List (List Touch)) (left : Counters) (list : List ℕ) (i : ℕ) → i < length list → is_kept_by table left (drop i list) ≡ is_kept_by_row (slice_get table (get_or list i 0)) left (λ m. is_kept_by table m (drop (i + 1) list))
list_step table left list i lt = ap (λ y. is_kept_by table left y) (some_rest list i 0 lt)

pub got_row : (table : List (List Touch)) (j : ℕ) (row : List Touch) → true ≡ nat_lt j (length table) → row ≡ get_or table j row → slice_get table j ≡ Some row
got_row table j row lt is = slice_get-get_or table j row (ltb-true j (length table) (sym lt)) ∙ ap Some (sym is)

past_row : (table : List (List Touch)) (j : ℕ) → length table ≤ j → slice_get table j ≡ None
past_row [] j le = refl
past_row (row ∷ table) zero le = absurd (omega (arith, le))
past_row (row ∷ table) (suc j) le = past_row table j (omega (arith, le))

pub got_none : (table : List (List Touch)) (j : ℕ) → false ≡ nat_lt j (length table) → slice_get table j ≡ None
got_none table j ge = past_row table j (ltb-false j (length table) (sym ge))
