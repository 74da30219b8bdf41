-- Counters of the turns that are left: by what an edge does to loops, they are those behind one edge more, and tell whether it keeps the
-- loops' bounds.
use Rattle.std.proofs.Common.{◌≡◌, ◌≢◌, ◌≤◌, ◌<◌, ℕ, zero, suc, ◌+◌, Bool, true, false, if◌then◌else◌, List, [], ◌∷◌, ◌++◌, length, drop, get_or, Option, Some, None, refl, sym, ap, ◌∙◌, subst, arith}
use Rattle.std.specs.Prelude.{◌↔◌, ◌==◌, ◌&&◌, nat_lt, slice_get, slice_set}
use Rattle.std.specs.List.{list_all}
use Rattle.std.proofs.lemmas.Bool.{lt-ltb, and_parts, and_from}
use Rattle.std.proofs.lemmas.List.{length-set, get_or-set_same, get_or-set_other}
use Rattle.std.proofs.lemmas.Option.{slice_get-get_or}
use Rattle.flow_laws.specs.declared.graph.Loop.{Loop}
use Rattle.flow_laws.specs.Paths.{is_in_list, most_turns, keeps_each, each_allows, allows, turns_left, turns_left_from, turns_left_on, one_less, has_turn}
use Rattle.flow_laws.proofs.Driving.BoundsStep.{left_on, each_on, each_by_number}
use Rattle.graph_lists.specs.declared.touch.Touch.{Touch}
use Rattle.graph_lists.specs.declared.touch.Touch.TheVariants.{Enters, Turns}
use Rattle.graph_lists.specs.Touches.{with_touch, touches_of}
use Rattle.graph_lists.proofs.Touched.{From, touches_from}
use Rattle.path_walk.specs.Counters.{left_of, is_below, may_touch, after_touches, MayTurn, AreOn, AreAfter}
use Rattle.plain_laws.proofs.Lists.{drop-read, drop-past, drop-number}

-- ---- entries

set_at : (left : List (Option ℕ)) (k : ℕ) (n : Option ℕ) → k < length left → left_of (slice_set left k n) k ≡ n
set_at left k n lt = get_or-set_same left k n None lt

set_off : (left : List (Option ℕ)) (k j : ℕ) (n : Option ℕ) → j ≢ k → left_of (slice_set left k n) j ≡ left_of left j
set_off left k j n off = get_or-set_other left k j n None off

-- what an edge does to the loop number i, which may turn m times
abbrev touch : ℕ → ℕ → Bool → Bool → Option Touch
touch i m en tu = if en then Some (Enters i m) else (if tu then Some (Turns i) else None)

-- ---- the loops' numbers are those of counters

below_with : (n i m : ℕ) (ts : List Touch) → i < n → list_all (is_below n) ts ≡ true → (en tu : Bool) → list_all (is_below n) (with_touch (touch i m en tu) ts) ≡ true
below_with n i m ts lt h true tu = and_from (nat_lt i n) (list_all (is_below n) ts) (lt-ltb i n lt) h
below_with n i m ts lt h false true = and_from (nat_lt i n) (list_all (is_below n) ts) (lt-ltb i n lt) h
below_with n i m ts lt h false false = h

row_below : (n i : ℕ) (ls : List Loop) (e : ℕ) → i + length ls ≤ n → list_all (is_below n) (touches_of i ls e) ≡ true
row_below n i [] e le = refl
row_below n i (l ∷ ls) e le =
    below_with n i (most_turns l) (touches_of (i + 1) ls e) (omega (arith, le)) (row_below n (i + 1) ls e (omega (arith, le))) (is_in_list e l.into) (e == l.turn)

pub all_below : (ls : List Loop) (e n : ℕ) (ts : List Touch) → ts ≡ touches_of 0 ls e → n ≡ length ls → list_all (is_below n) ts ≡ true
all_below ls e n ts is many = ap (λ y. list_all (is_below n) y) is ∙ row_below n 0 ls e (omega (arith, many))

-- ---- the counters behind one edge more

after_long : (left : List (Option ℕ)) (ts : List Touch) → length (after_touches left ts) ≡ length left
after_long left [] = refl
after_long left (Enters k n ∷ ts) = after_long (slice_set left k (Some n)) ts ∙ length-set left k (Some n)
after_long left (Turns k ∷ ts) = after_long (slice_set left k (one_less (left_of left k))) ts ∙ length-set left k (one_less (left_of left k))

-- what loops from the number k on do leaves those before alone
apart : (left : List (Option ℕ)) (ts : List Touch) (k j : ℕ) → From k ts → j < k → left_of (after_touches left ts) j ≡ left_of left j
apart left [] k j f lt = refl
apart left (Enters i n ∷ ts) k j f lt =
    apart (slice_set left i (Some n)) ts k j f.1 lt ∙ set_off left i j (Some n) (λ e. omega (arith, lt, e, f.0))
apart left (Turns i ∷ ts) k j f lt =
    apart (slice_set left i (one_less (left_of left i))) ts k j f.1 lt ∙ set_off left i j (one_less (left_of left i)) (λ e. omega (arith, lt, e, f.0))

here : (i m : ℕ) (left : List (Option ℕ)) (ts : List Touch) → i < length left → From (i + 1) ts → (en tu : Bool) → left_of (after_touches left (with_touch (touch i m en tu) ts)) i ≡ (if en then Some m else (if tu then one_less (left_of left i) else left_of left i))
here i m left ts lt f true tu = apart (slice_set left i (Some m)) ts (i + 1) i f (omega arith) ∙ set_at left i (Some m) lt
here i m left ts lt f false true =
    apart (slice_set left i (one_less (left_of left i))) ts (i + 1) i f (omega arith) ∙ set_at left i (one_less (left_of left i)) lt
here i m left ts lt f false false = apart left ts (i + 1) i f (omega arith)

later : (i m e : ℕ) (left : List (Option ℕ)) (ts : List Touch) (n : ℕ) (l : Loop) → n ≢ i → ((new : List (Option ℕ)) → length new ≡ length left → left_of (after_touches new ts) n ≡ turns_left_on l e (left_of new n)) → (en tu : Bool) → left_of (after_touches left (with_touch (touch i m en tu) ts)) n ≡ turns_left_on l e (left_of left n)
later i m e left ts n l off ih true tu =
    ih (slice_set left i (Some m)) (length-set left i (Some m)) ∙ ap (turns_left_on l e) (set_off left i n (Some m) off)
later i m e left ts n l off ih false true =
    let less = one_less (left_of left i) in
    ih (slice_set left i less) (length-set left i less) ∙ ap (turns_left_on l e) (set_off left i n less off)
later i m e left ts n l off ih false false = ih left refl

row_on : (i : ℕ) (ls : List Loop) (e : ℕ) (left : List (Option ℕ)) → i + length ls ≤ length left → (k n : ℕ) (l : Loop) → n ≡ i + k → slice_get ls k ≡ Some l → left_of (after_touches left (touches_of i ls e)) n ≡ turns_left_on l e (left_of left n)
row_on i [] e left le k n l is_n is = absurd (cc is)
row_on i (x ∷ ls) e left le zero n l is_n is =
    let same : x ≡ l = cc in
    let at : i ≡ n = omega (arith, is_n) in
    let first = here i (most_turns x) left (touches_of (i + 1) ls e) (omega (arith, le)) (touches_from (i + 1) ls e) (is_in_list e x.into) (e == x.turn) in
    subst (λ y. left_of (after_touches left (touches_of i (x ∷ ls) e)) n ≡ turns_left_on y e (left_of left n)) same (subst (λ j. left_of (after_touches left (touches_of i (x ∷ ls) e)) j ≡ turns_left_on x e (left_of left j)) at first)
row_on i (x ∷ ls) e left le (suc k) n l is_n is =
    later i (most_turns x) e left (touches_of (i + 1) ls e) n l (λ same. omega (arith, same, is_n)) (λ new long. row_on (i + 1) ls e new (omega (arith, le, long)) k n l (omega (arith, is_n)) is) (is_in_list e x.into) (e == x.turn)

pub are_on : (ls : List Loop) (e : ℕ) (ts : List Touch) (old new : List (Option ℕ)) → ts ≡ touches_of 0 ls e → length old ≡ length ls → new ≡ after_touches old ts → AreOn ls e old new
are_on ls e ts old new is many same = record {
  each = λ k l has. ap (λ y. left_of y k) by ∙ row_on 0 ls e old (omega (arith, many)) k k l (omega arith) has;
  as_many = ap length by ∙ after_long old (touches_of 0 ls e);
}
  where
    by : new ≡ after_touches old (touches_of 0 ls e)
    by = same ∙ ap (after_touches old) is

-- ---- whether an edge keeps the bounds

may_with : (left : List (Option ℕ)) (i m : ℕ) (ts : List Touch) (en tu : Bool) → list_all (may_touch left) (with_touch (touch i m en tu) ts) ≡ ((if en then true else (if tu then has_turn (left_of left i) else true)) && list_all (may_touch left) ts)
may_with left i m ts true tu = refl
may_with left i m ts false true = refl
may_with left i m ts false false = refl

row_may : (left : List (Option ℕ)) (i : ℕ) (x : Loop) (ls : List Loop) (e : ℕ) → list_all (may_touch left) (touches_of i (x ∷ ls) e) ≡ (allows x e (left_of left i) && list_all (may_touch left) (touches_of (i + 1) ls e))
row_may left i x ls e = may_with left i (most_turns x) (touches_of (i + 1) ls e) (is_in_list e x.into) (e == x.turn)

may_at : (left : List (Option ℕ)) (i : ℕ) (ls : List Loop) (e : ℕ) → list_all (may_touch left) (touches_of i ls e) ≡ true → (k n : ℕ) (l : Loop) → n ≡ i + k → slice_get ls k ≡ Some l → allows l e (left_of left n) ≡ true
may_at left i [] e h k n l is_n is = absurd (cc is)
may_at left i (x ∷ ls) e h zero n l is_n is =
    let same : x ≡ l = cc in
    let at : i ≡ n = omega (arith, is_n) in
    let first = (and_parts (allows x e (left_of left i)) (list_all (may_touch left) (touches_of (i + 1) ls e)) (sym (row_may left i x ls e) ∙ h)).0 in
    subst (λ (y : Loop). allows y e (left_of left n) ≡ true) same (subst (λ j. allows x e (left_of left j) ≡ true) at first)
may_at left i (x ∷ ls) e h (suc k) n l is_n is =
    may_at left (i + 1) ls e (and_parts (allows x e (left_of left i)) (list_all (may_touch left) (touches_of (i + 1) ls e)) (sym (row_may left i x ls e) ∙ h)).1 k n l (omega (arith, is_n)) is

may_all : (left : List (Option ℕ)) (i : ℕ) (ls : List Loop) (e : ℕ) → ((k n : ℕ) (l : Loop) → n ≡ i + k → slice_get ls k ≡ Some l → allows l e (left_of left n) ≡ true) → list_all (may_touch left) (touches_of i ls e) ≡ true
may_all left i [] e h = refl
may_all left i (x ∷ ls) e h =
    row_may left i x ls e ∙ and_from (allows x e (left_of left i)) (list_all (may_touch left) (touches_of (i + 1) ls e)) (h 0 i x (omega arith) refl) (may_all left (i + 1) ls e (λ k n l is_n is. h (suc k) n l (omega (arith, is_n)) is))

pub may_turn_is : (ls : List Loop) (e : ℕ) (ts : List Touch) (left : List (Option ℕ)) (r : Bool) → ts ≡ touches_of 0 ls e → r ≡ list_all (may_touch left) ts → (r ≡ true) ↔ MayTurn ls left e
may_turn_is ls e ts left r is h = (
  λ yes k l has. may_at left 0 ls e (sym by ∙ yes) k k l (omega arith) has,
  λ may. by ∙ may_all left 0 ls e (λ k n l is_n has. let at : k ≡ n = omega (arith, is_n) in subst (λ j. allows l e (left_of left j) ≡ true) at (may k l has)),
)
  where
    by : r ≡ list_all (may_touch left) (touches_of 0 ls e)
    by = h ∙ ap (λ y. list_all (may_touch left) y) is

-- ---- the bounds, one edge on

pub kept_on : (ls : List Loop) (q : List ℕ) (left : List (Option ℕ)) (e : ℕ) → keeps_each ls q ≡ true → AreAfter ls q left → MayTurn ls left e → keeps_each ls (q ++ e ∷ []) ≡ true
kept_on ls q left e kept after may =
    each_on ls q e ∙ and_from (keeps_each ls q) (each_allows ls q e) kept ((each_by_number ls q e).1 (λ k l is. subst (λ m. allows l e m ≡ true) (after.each k l is) (may k l is)))

pub on_kept : (ls : List Loop) (q : List ℕ) (left : List (Option ℕ)) (e : ℕ) → AreAfter ls q left → keeps_each ls (q ++ e ∷ []) ≡ true → MayTurn ls left e
on_kept ls q left e after kept k l is =
    let allowed = (and_parts (keeps_each ls q) (each_allows ls q e) (sym (each_on ls q e) ∙ kept)).1 in
    subst (λ m. allows l e m ≡ true) (sym (after.each k l is)) ((each_by_number ls q e).0 allowed k l is)

pub after_on : (ls : List Loop) (q : List ℕ) (old new : List (Option ℕ)) (e : ℕ) → AreAfter ls q old → AreOn ls e old new → AreAfter ls (q ++ e ∷ []) new
after_on ls q old new e after on = record {
  each = λ k l is. on.each k l is ∙ ap (turns_left_on l e) (after.each k l is) ∙ sym (left_on l q e);
  as_many = on.as_many ∙ after.as_many;
}

-- ---- passes

-- no loop is entered
abbrev pub NoneStands : List (Option ℕ) → Type 0
NoneStands left = (k : ℕ) → left_of left k ≡ None

pub none_more : (left : List (Option ℕ)) → NoneStands left → NoneStands (left ++ None ∷ [])
none_more [] h zero = refl
none_more [] h (suc k) = refl
none_more (x ∷ left) h zero = h 0
none_more (x ∷ left) h (suc k) = none_more left (λ j. h (suc j)) k

-- behind the first n edges of a list
pub record IsAlong (ls : List Loop) (list : List ℕ) (left : List (Option ℕ)) (n : ℕ) : Type 0 where
  pub each : (k : ℕ) (l : Loop) → slice_get ls k ≡ Some l → turns_left_from l (left_of left k) (drop n list) ≡ turns_left l list
  pub as_many : length left ≡ length ls

pub along_start : (ls : List Loop) (list : List ℕ) (left : List (Option ℕ)) → NoneStands left → length left ≡ length ls → IsAlong ls list left 0
along_start ls list left none many = record { each = λ k l is. ap (λ m. turns_left_from l m list) (none k); as_many = many }

pub along_next : (ls : List Loop) (list : List ℕ) (old new : List (Option ℕ)) (n : ℕ) → n < length list → IsAlong ls list old n → AreOn ls (get_or list n 0) old new → IsAlong ls list new (n + 1)
along_next ls list old new n lt h on = record {
  each = λ k l has. ap (λ m. turns_left_from l m (drop (n + 1) list)) (on.each k l has) ∙ ap (turns_left_from l (left_of old k)) (sym (drop-number list n lt)) ∙ h.each k l has;
  as_many = on.as_many ∙ h.as_many;
}

pub along_all : (ls : List Loop) (list : List ℕ) (left : List (Option ℕ)) (n : ℕ) → length list ≤ n → IsAlong ls list left n → AreAfter ls list left
along_all ls list left n le h = record {
  each = λ k l is. sym (ap (turns_left_from l (left_of left k)) (drop-past list n le)) ∙ h.each k l is;
  as_many = h.as_many;
}
