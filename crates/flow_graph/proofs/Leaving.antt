-- The edges that leave a node are those that are laid out for it, and a loop copy stands where it is laid out.
use Rattle.std.proofs.Common.{◌≡◌, ◌<◌, ◌⊎◌, inl, inr, ℕ, zero, suc, ◌+◌, List, [], ◌∷◌, ◌++◌, length, take, Some, None, refl, sym, ap, ◌∙◌, subst, arith, length-append}
use Rattle.std.specs.Prelude.{slice_get, slice_index_or, map}
use Rattle.std.proofs.lemmas.List.{map-append}
use Rattle.flow_laws.specs.declared.graph.Way.TheVariants.{Next, True, False}
use Rattle.flow_laws.specs.declared.graph.Edge.{Edge}
use Rattle.flow_laws.specs.Sites.{Content, Entry, Exit, Simple, Test, Jump, Give, Enter, Missing, Land, Site}
use Rattle.flow_laws.specs.Graphs.{edges, edges_from, outs, first_out, leaves, loops_at, loop_copies}
use Rattle.flow_laws.proofs.Loops.LoopConditions.{AllTested, IsTested}
use Rattle.graph_lists.specs.declared.onward.Outs.{Outs}
use Rattle.graph_lists.specs.declared.onward.Outs.TheVariants.{Nowhere}
use Rattle.flow_graph.specs.Spots.{spot_of, spots, ends_of}
use Rattle.graph_lists.specs.Joints.{outs_of}
use Rattle.graph_lists.specs.Leaving.{IsOutBy, Leave, IsAmong, AreOuts, outs_from, all_outs}
use Rattle.graph_lists.specs.Spans.{span_of, ends_spans, spot_spans}
use Rattle.graph_lists.proofs.Steps.{outs_long}
use Rattle.flow_graph.proofs.Drawn.{outs_are}
use Rattle.plain_laws.proofs.Lists.{get-front, get-second}

-- ---- parts of lists

-- an entry of two lists is one of the first, or one of the second
record Later {A : Type 0} (xs ys : List A) (j : ℕ) (e : A) : Type 0 where
  rest : ℕ
  number : j ≡ length xs + rest
  is : slice_get ys rest ≡ Some e

abbrev Parted : {A : Type 0} → List A → List A → ℕ → A → Type 0
Parted xs ys j e = (slice_get xs j ≡ Some e) ⊎ Later xs ys j e

one_later : {A : Type 0} (x : A) (xs ys : List A) (j : ℕ) (e : A) → Parted xs ys j e → Parted (x ∷ xs) ys (suc j) e
one_later x xs ys j e (inl h) = inl h
one_later x xs ys j e (inr h) = inr (record { rest = h.rest; number = omega (arith, h.number); is = h.is })

parted : {A : Type 0} (xs ys : List A) (j : ℕ) (e : A) → slice_get (xs ++ ys) j ≡ Some e → Parted xs ys j e
parted [] ys j e h = inr (record { rest = j; number = omega arith; is = h })
parted (x ∷ xs) ys zero e h = inl h
parted (x ∷ xs) ys (suc j) e h = one_later x xs ys j e (parted xs ys j e h)

-- ---- the edges of a node stand at its first number

at_number : (g : List Site) (n m k : ℕ) (s : Site) (e : Edge) → slice_get g m ≡ Some s → slice_get (outs (n + m) s s.content) k ≡ Some e → slice_get (edges_from n g) (length (edges_from n (take m g)) + k) ≡ Some e
at_number [] n m k s e h is = absurd (cc)
at_number (y ∷ g) n zero k s e h is =
    let p : s ≡ y = cc in
    let z : n + 0 ≡ n = omega arith in
    let none : 0 + k ≡ k = omega arith in
    let here : slice_get (outs n y y.content) k ≡ Some e = subst (λ (t : Site). slice_get (outs n t t.content) k ≡ Some e) p (subst (λ q. slice_get (outs q s s.content) k ≡ Some e) z is) in
    ap (slice_get (outs n y y.content ++ edges_from (n + 1) g)) none ∙ get-front (outs n y y.content) (edges_from (n + 1) g) k e here
at_number (y ∷ g) n (suc m) k s e h is =
    let z : n + suc m ≡ n + 1 + m = omega arith in
    let o = outs n y y.content in
    let rest = edges_from (n + 1) (take m g) in
    let later : slice_get (edges_from (n + 1) g) (length rest + k) ≡ Some e = at_number g (n + 1) m k s e h (subst (λ q. slice_get (outs q s s.content) k ≡ Some e) z is) in
    let place : length (o ++ rest) + k ≡ length o + (length rest + k) = omega (arith, length-append o rest) in
    ap (slice_get (o ++ edges_from (n + 1) g)) place ∙ get-second o (edges_from (n + 1) g) (length rest + k) e later

pub out_at : (g : List Site) (n k : ℕ) (s : Site) (e : Edge) → slice_get g n ≡ Some s → slice_get (outs n s s.content) k ≡ Some e → slice_get (edges g) (first_out g n + k) ≡ Some e
unfolding edges
out_at g n k s e h is =
    let z : n ≡ 0 + n = omega arith in
    at_number g 0 n k s e h (subst (λ q. slice_get (outs q s s.content) k ≡ Some e) z is)

-- ---- and each edge is one of a node's

record IsOut (g : List Site) (n j : ℕ) (e : Edge) : Type 0 where
  index : ℕ
  site : Site
  place : ℕ
  has : slice_get g index ≡ Some site
  is : slice_get (outs (n + index) site site.content) place ≡ Some e
  number : j ≡ length (edges_from n (take index g)) + place

one_out : (s : Site) (g : List Site) (n j : ℕ) (e : Edge) → ((r : ℕ) → slice_get (edges_from (n + 1) g) r ≡ Some e → IsOut g (n + 1) r e) → Parted (outs n s s.content) (edges_from (n + 1) g) j e → IsOut (s ∷ g) n j e
one_out s g n j e next (inl h) =
    let z : n ≡ n + 0 = omega arith in
    record { index = 0; site = s; place = j; has = refl; is = subst (λ q. slice_get (outs q s s.content) j ≡ Some e) z h; number = omega arith }
one_out s g n j e next (inr b) =
    let o = next b.rest b.is in
    let z : n + 1 + o.index ≡ n + suc o.index = omega arith in
    let rest = edges_from (n + 1) (take o.index g) in
    record { index = suc o.index; site = o.site; place = o.place; has = o.has; is = subst (λ q. slice_get (outs q o.site o.site.content) o.place ≡ Some e) z o.is; number = omega (arith, b.number, o.number, length-append (outs n s s.content) rest) }

is_out : (g : List Site) (n j : ℕ) (e : Edge) → slice_get (edges_from n g) j ≡ Some e → IsOut g n j e
is_out [] n j e h = absurd (cc)
is_out (s ∷ g) n j e h =
    one_out s g n j e (λ r x. is_out g (n + 1) r e x) (parted (outs n s s.content) (edges_from (n + 1) g) j e h)

one_from : (n t k : ℕ) (e : Edge) → slice_get (leaves n Next t ∷ []) k ≡ Some e → (e.from ≡ n) × (k ≡ 0)
one_from n t zero e h = let p : leaves n Next t ≡ e = cc in (ap (λ (d : Edge). d.from) (sym p), refl)
one_from n t (suc k) e h = absurd (cc)

two_from : (n t u k : ℕ) (e : Edge) → slice_get (leaves n True t ∷ (leaves n False u ∷ [])) k ≡ Some e → (e.from ≡ n) × ((k ≡ 0) ⊎ (k ≡ 1))
two_from n t u zero e h = let p : leaves n True t ≡ e = cc in (ap (λ (d : Edge). d.from) (sym p), inl refl)
two_from n t u (suc zero) e h = let p : leaves n False u ≡ e = cc in (ap (λ (d : Edge). d.from) (sym p), inr refl)
two_from n t u (suc (suc k)) e h = absurd (cc)

from_is : (n : ℕ) (s : Site) (c : Content) (k : ℕ) (e : Edge) → slice_get (outs n s c) k ≡ Some e → e.from ≡ n
from_is n s Exit k e h = absurd (cc)
from_is n s (Test l x) k e h = (two_from n s.yes s.no k e h).0
from_is n s Entry k e h = (one_from n s.yes k e h).0
from_is n s (Simple ss) k e h = (one_from n s.yes k e h).0
from_is n s Jump k e h = (one_from n s.yes k e h).0
from_is n s (Give x) k e h = (one_from n s.yes k e h).0
from_is n s (Enter t ls es) k e h = (one_from n s.yes k e h).0
from_is n s Missing k e h = (one_from n s.yes k e h).0
from_is n s (Land t ty b) k e h = (one_from n s.yes k e h).0

-- ---- what leaves a node

one_at : (es : List Edge) (n first t : ℕ) → ((k : ℕ) (e : Edge) → slice_get (leaves n Next t ∷ []) k ≡ Some e → slice_get es (first + k) ≡ Some e) → IsOutBy es n first Next
one_at es n first t h =
    let z : first ≡ first + 0 = omega arith in
    record { edge = leaves n Next t; is = ap (slice_get es) z ∙ h 0 (leaves n Next t) refl; from_is = refl; way_is = refl }

two_at : (es : List Edge) (n first t u : ℕ) → ((k : ℕ) (e : Edge) → slice_get (leaves n True t ∷ (leaves n False u ∷ [])) k ≡ Some e → slice_get es (first + k) ≡ Some e) → IsOutBy es n first True × IsOutBy es n (first + 1) False
two_at es n first t u h =
    let z : first ≡ first + 0 = omega arith in
    (record { edge = leaves n True t; is = ap (slice_get es) z ∙ h 0 (leaves n True t) refl; from_is = refl; way_is = refl }, record { edge = leaves n False u; is = h 1 (leaves n False u) refl; from_is = refl; way_is = refl })

leave_by : (es : List Edge) (n first : ℕ) (s : Site) (c : Content) → ((k : ℕ) (e : Edge) → slice_get (outs n s c) k ≡ Some e → slice_get es (first + k) ≡ Some e) → Leave es n (outs_from first (ends_of c))
leave_by es n first s Exit h = tt
leave_by es n first s (Test None x) h = two_at es n first s.yes s.no h
leave_by es n first s (Test (Some l) x) h = two_at es n first s.yes s.no h
leave_by es n first s Entry h = one_at es n first s.yes h
leave_by es n first s (Simple ss) h = one_at es n first s.yes h
leave_by es n first s Jump h = one_at es n first s.yes h
leave_by es n first s (Give x) h = one_at es n first s.yes h
leave_by es n first s (Enter t ls xs) h = one_at es n first s.yes h
leave_by es n first s Missing h = one_at es n first s.yes h
leave_by es n first s (Land t ty b) h = one_at es n first s.yes h

one_among : (n t k first j : ℕ) (e : Edge) → slice_get (leaves n Next t ∷ []) k ≡ Some e → j ≡ first + k → j ≡ first
one_among n t k first j e h is = omega (arith, is, (one_from n t k e h).1)

either_is : (first k j : ℕ) → j ≡ first + k → ((k ≡ 0) ⊎ (k ≡ 1)) → (j ≡ first) ⊎ (j ≡ first + 1)
either_is first k j is (inl h) = inl (omega (arith, is, h))
either_is first k j is (inr h) = inr (omega (arith, is, h))

two_among : (n t u k first j : ℕ) (e : Edge) → slice_get (leaves n True t ∷ (leaves n False u ∷ [])) k ≡ Some e → j ≡ first + k → (j ≡ first) ⊎ (j ≡ first + 1)
two_among n t u k first j e h is = either_is first k j is (two_from n t u k e h).1

among : (n k first j : ℕ) (s : Site) (c : Content) (e : Edge) → slice_get (outs n s c) k ≡ Some e → j ≡ first + k → IsAmong (outs_from first (ends_of c)) j
among n k first j s Exit e h is = absurd (cc)
among n k first j s (Test None x) e h is = two_among n s.yes s.no k first j e h is
among n k first j s (Test (Some l) x) e h is = two_among n s.yes s.no k first j e h is
among n k first j s Entry e h is = one_among n s.yes k first j e h is
among n k first j s (Simple ss) e h is = one_among n s.yes k first j e h is
among n k first j s Jump e h is = one_among n s.yes k first j e h is
among n k first j s (Give x) e h is = one_among n s.yes k first j e h is
among n k first j s (Enter t ls xs) e h is = one_among n s.yes k first j e h is
among n k first j s Missing e h is = one_among n s.yes k first j e h is
among n k first j s (Land t ty b) e h is = one_among n s.yes k first j e h is

all_among : (g : List Site) (n : ℕ) (s : Site) → slice_get g n ≡ Some s → (j : ℕ) (e : Edge) → slice_get (edges g) j ≡ Some e → e.from ≡ n → IsAmong (outs_from (first_out g n) (ends_of s.content)) j
unfolding edges
all_among g n s h j e is from =
    let o = is_out g 0 j e is in
    let z : 0 + o.index ≡ o.index = omega arith in
    let index : o.index ≡ n = sym z ∙ sym (from_is (0 + o.index) o.site o.site.content o.place e o.is) ∙ from in
    let both : Some o.site ≡ Some s = sym o.has ∙ ap (slice_get g) index ∙ h in
    let site : o.site ≡ s = cc in
    let place : slice_get (outs (0 + o.index) s s.content) o.place ≡ Some e = subst (λ (t : Site). slice_get (outs (0 + o.index) t t.content) o.place ≡ Some e) site o.is in
    among (0 + o.index) o.place (first_out g n) j s s.content e place (o.number ∙ ap (λ m. length (edges_from 0 (take m g)) + o.place) index)

pub outs_of_node : (g : List Site) (n : ℕ) (s : Site) → slice_get g n ≡ Some s → AreOuts (edges g) n (outs_from (first_out g n) (ends_of s.content))
outs_of_node g n s h =
    record { leave = leave_by (edges g) n (first_out g n) s s.content (λ k e is. out_at g n k s e h is); all = all_among g n s h }

-- ---- the table of nodes

long_outs : (n : ℕ) (s : Site) → length (outs n s s.content) ≡ length (outs_of 0 (spot_of s))
long_outs n s = ap length (outs_are n s.content s refl) ∙ outs_long n 0 (ends_of s.content) s.yes s.no

table_at : (g : List Site) (n m first : ℕ) (s : Site) → slice_get g n ≡ Some s → slice_get (all_outs first (spots g)) n ≡ Some (outs_from (first + length (edges_from m (take n g))) (ends_of s.content))
table_at [] n m first s h = absurd (cc)
table_at (y ∷ g) zero m first s h =
    let p : y ≡ s = cc in
    let z : first ≡ first + 0 = omega arith in
    λ i. Some (outs_from (z i) (ends_of (p i).content))
table_at (y ∷ g) (suc n) m first s h =
    let rest = edges_from (m + 1) (take n g) in
    let z : first + length (outs_of 0 (spot_of y)) + length rest ≡ first + length (outs m y y.content ++ rest) = omega (arith, length-append (outs m y y.content) rest, long_outs m y) in
    table_at g n (m + 1) (first + length (outs_of 0 (spot_of y))) s h ∙ ap (λ k. Some (outs_from k (ends_of s.content))) z

pub table_long : (first : ℕ) (g : List Site) → length (all_outs first (spots g)) ≡ length g
table_long first [] = refl
table_long first (s ∷ g) = ap suc (table_long (first + length (outs_of 0 (spot_of s))) g)

some_site : (g : List Site) (n : ℕ) → n < length g → (s : Site) × (slice_get g n ≡ Some s)
some_site [] n h = absurd (omega (arith, h))
some_site (s ∷ g) zero h = (s, refl)
some_site (s ∷ g) (suc n) h = some_site g n (omega (arith, h))

first_is : (g : List Site) (n : ℕ) → 0 + length (edges_from 0 (take n g)) ≡ first_out g n
unfolding edges
first_is g n = omega arith

pub table_outs : (g : List Site) (n : ℕ) (o : Outs) → n < length g → slice_get (all_outs 0 (spots g)) n ≡ Some o → AreOuts (edges g) n o
table_outs g n o h is =
    let s = some_site g n h in
    let both : Some o ≡ Some (outs_from (first_out g n) (ends_of s.0.content)) = sym is ∙ table_at g n 0 0 s.0 s.1 ∙ ap (λ k. Some (outs_from k (ends_of s.0.content))) (first_is g n) in
    let same : outs_from (first_out g n) (ends_of s.0.content) ≡ o = cc in
    subst (AreOuts (edges g) n) same (outs_of_node g n s.0 s.1)

some_at : (xs : List Outs) (n : ℕ) (d : Outs) → n < length xs → slice_get xs n ≡ Some (slice_index_or xs n d)
some_at [] n d h = absurd (omega (arith, h))
some_at (x ∷ xs) zero d h = refl
some_at (x ∷ xs) (suc n) d h = some_at xs n d (omega (arith, h))

pub table_index : (g : List Site) (xs : List Outs) (n : ℕ) → n < length g → xs ≡ all_outs 0 (spots g) → AreOuts (edges g) n (slice_index_or xs n Nowhere)
table_index g xs n h is =
    let all = all_outs 0 (spots g) in
    let within : n < length all = omega (arith, h, table_long 0 g) in
    subst (λ ys. AreOuts (edges g) n (slice_index_or ys n Nowhere)) (sym is) (table_outs g n (slice_index_or all n Nowhere) h (some_at all n Nowhere within))

-- ---- where loop copies stand

one_span : (n : ℕ) (c : Content) → IsTested n c → map span_of (loops_at c) ≡ ends_spans n (ends_of c)
one_span n Exit t = refl
one_span n (Test None x) t = refl
one_span n (Test (Some l) x) t = ap (λ m. record { from = l.from; past = l.past; test = m } ∷ []) t.test
one_span n Entry t = refl
one_span n (Simple ss) t = refl
one_span n Jump t = refl
one_span n (Give x) t = refl
one_span n (Enter a ls xs) t = refl
one_span n Missing t = refl
one_span n (Land a ty b) t = refl

pub spans_are : (n : ℕ) (g : List Site) → AllTested n g → map span_of (loop_copies g) ≡ spot_spans n (spots g)
spans_are n [] t = refl
spans_are n (s ∷ g) t =
    map-append span_of (loops_at s.content) (loop_copies g) ∙ (λ i. one_span n s.content t.0 i ++ spans_are (n + 1) g t.1 i)
