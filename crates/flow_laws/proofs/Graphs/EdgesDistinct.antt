-- The number of an edge is determined by its source and its way, and each edge leaves its source.
use Rattle.std.proofs.Common.{◌≡◌, ℕ, zero, suc, ◌+◌, ◌<◌, ◌⊎◌, inl, inr, Bool, true, false, if◌then◌else◌, List, [], ◌∷◌, ◌++◌, length, take, Option, Some, refl, sym, ap, ◌∙◌, subst, arith, length-append}
use Rattle.std.specs.Prelude.{slice_get, ◌==◌, ◌&&◌}
use Rattle.std.proofs.lemmas.Bool.{eqb-true, eq-eqb, ne_eqb, and_parts}
use Rattle.c_tree.specs.declared.tree.Expr.{Expr}
use Rattle.flow_laws.specs.declared.graph.Way.{Way}
use Rattle.flow_laws.specs.declared.graph.Way.TheVariants.{Next, True, False}
use Rattle.flow_laws.specs.declared.graph.Edge.{Edge}
use Rattle.flow_laws.specs.Sites.{LoopCopy, Content, Entry, Exit, Simple, Test, Jump, Give, Enter, Missing, Land, Site}
use Rattle.flow_laws.specs.Graphs.{leaves, outs, edges_from, edges, first_out, positions}
use Rattle.flow_laws.specs.Paths.{is_in_list}
use Rattle.flow_laws.proofs.Driving.DrivingSteps.{target, turns, is_true_end}
use Rattle.std.specs.Cmp.{both_ways}
use Rattle.plain_laws.proofs.Lists.{get-second}

-- ---- parts of lists

-- an entry of two lists is one of the first, or one of the second
pub record Behind {A : Type 0} (xs ys : List A) (j : ℕ) (e : A) : Type 0 where
  pub rest : ℕ
  pub number : j ≡ length xs + rest
  pub is : slice_get ys rest ≡ Some e

abbrev InEither : {A : Type 0} → List A → List A → ℕ → A → Type 0
InEither xs ys j e = (slice_get xs j ≡ Some e) ⊎ Behind xs ys j e

behind_more : {A : Type 0} (x : A) (xs ys : List A) (j : ℕ) (e : A) → InEither xs ys j e → InEither (x ∷ xs) ys (suc j) e
behind_more x xs ys j e (inl h) = inl h
behind_more x xs ys j e (inr h) = inr (record { rest = h.rest; number = omega (arith, h.number); is = h.is })

in_either : {A : Type 0} (xs ys : List A) (j : ℕ) (e : A) → slice_get (xs ++ ys) j ≡ Some e → InEither xs ys j e
in_either [] ys j e h = inr (record { rest = j; number = omega arith; is = h })
in_either (x ∷ xs) ys zero e h = inl h
in_either (x ∷ xs) ys (suc j) e h = behind_more x xs ys j e (in_either xs ys j e h)

-- ---- the edges of one node

-- the place of an edge among those of its source
abbrev pub place_of : Way → ℕ
place_of Next = 0
place_of True = 0
place_of False = 1

pub record OutIs (n : ℕ) (s : Site) (k : ℕ) (e : Edge) : Type 0 where
  pub edge_is : e ≡ leaves n e.way (target s e.way)
  pub place : k ≡ place_of e.way

next_out : (n : ℕ) (s : Site) (k : ℕ) (e : Edge) → slice_get (leaves n Next s.yes ∷ []) k ≡ Some e → OutIs n s k e
next_out n s zero e h =
    let p : leaves n Next s.yes ≡ e = cc in
    subst (OutIs n s 0) p (record { edge_is = refl; place = refl })
next_out n s (suc k) e h = absurd (cc)

test_out : (n : ℕ) (s : Site) (k : ℕ) (e : Edge) → slice_get (leaves n True s.yes ∷ (leaves n False s.no ∷ [])) k ≡ Some e → OutIs n s k e
test_out n s zero e h =
    let p : leaves n True s.yes ≡ e = cc in
    subst (OutIs n s 0) p (record { edge_is = refl; place = refl })
test_out n s (suc zero) e h =
    let p : leaves n False s.no ≡ e = cc in
    subst (OutIs n s 1) p (record { edge_is = refl; place = refl })
test_out n s (suc (suc k)) e h = absurd (cc)

out_is : (n : ℕ) (s : Site) (c : Content) (k : ℕ) (e : Edge) → slice_get (outs n s c) k ≡ Some e → OutIs n s k e
out_is n s Exit k e h = absurd (cc)
out_is n s (Test l x) k e h = test_out n s k e h
out_is n s Entry k e h = next_out n s k e h
out_is n s (Simple ss) k e h = next_out n s k e h
out_is n s Jump k e h = next_out n s k e h
out_is n s (Give x) k e h = next_out n s k e h
out_is n s (Enter t ls es) k e h = next_out n s k e h
out_is n s Missing k e h = next_out n s k e h
out_is n s (Land t ty b) k e h = next_out n s k e h

-- ---- the edges of all nodes, of which the first has the number n

pub record OutOf (g : List Site) (n j : ℕ) (e : Edge) : Type 0 where
  pub index : ℕ
  pub site : Site
  pub has : slice_get g index ≡ Some site
  pub edge_is : e ≡ leaves (n + index) e.way (target site e.way)
  pub number : j ≡ length (edges_from n (take index g)) + place_of e.way

out_more : (s : Site) (g : List Site) (n j : ℕ) (e : Edge) → Behind (outs n s s.content) (edges_from (n + 1) g) j e → ((r : ℕ) → slice_get (edges_from (n + 1) g) r ≡ Some e → OutOf g (n + 1) r e) → OutOf (s ∷ g) n j e
out_more s g n j e b next =
    let o = next b.rest b.is in
    let z : n + 1 + o.index ≡ n + suc o.index = omega arith in
    let len = length-append (outs n s s.content) (edges_from (n + 1) (take o.index g)) in
    record { index = suc o.index; site = o.site; has = o.has; edge_is = subst (λ y. e ≡ leaves y e.way (target o.site e.way)) z o.edge_is; number = omega (arith, b.number, o.number, len) }

out_part : (s : Site) (g : List Site) (n j : ℕ) (e : Edge) → ((r : ℕ) → slice_get (edges_from (n + 1) g) r ≡ Some e → OutOf g (n + 1) r e) → InEither (outs n s s.content) (edges_from (n + 1) g) j e → OutOf (s ∷ g) n j e
out_part s g n j e next (inl x) =
    let o = out_is n s s.content j e x in
    let z : n ≡ n + 0 = omega arith in
    record { index = 0; site = s; has = refl; edge_is = subst (λ y. e ≡ leaves y e.way (target s e.way)) z o.edge_is; number = omega (arith, o.place) }
out_part s g n j e next (inr b) = out_more s g n j e b next

out_of : (g : List Site) (n j : ℕ) (e : Edge) → slice_get (edges_from n g) j ≡ Some e → OutOf g n j e
out_of [] n j e h = absurd (cc)
out_of (s ∷ g) n j e h =
    out_part s g n j e (λ r x. out_of g (n + 1) r e x) (in_either (outs n s s.content) (edges_from (n + 1) g) j e h)

-- ---- each edge leaves its source, and has its number by its source and its way

pub record LeavesSource (g : List Site) (j : ℕ) (e : Edge) : Type 0 where
  pub site : Site
  pub has : slice_get g e.from ≡ Some site
  pub edge_is : e ≡ leaves e.from e.way (target site e.way)
  pub number : j ≡ first_out g e.from + place_of e.way

pub leaves_source : (g : List Site) (j : ℕ) (e : Edge) → slice_get (edges g) j ≡ Some e → LeavesSource g j e
unfolding edges
leaves_source g j e h =
    let o = out_of g 0 j e h in
    let z : 0 + o.index ≡ o.index = omega arith in
    let from : e.from ≡ o.index = ap (λ y. y.from) o.edge_is ∙ z in
    record { site = o.site; has = ap (slice_get g) from ∙ o.has; edge_is = subst (λ y. e ≡ leaves y e.way (target o.site e.way)) (z ∙ sym from) o.edge_is; number = subst (λ y. j ≡ length (edges_from 0 (take y g)) + place_of e.way) (sym from) o.number }

-- no two edges have one source and one way
pub one_number : (g : List Site) (j k : ℕ) (e d : Edge) → slice_get (edges g) j ≡ Some e → slice_get (edges g) k ≡ Some d → e.from ≡ d.from → e.way ≡ d.way → j ≡ k
one_number g j k e d h i from way =
    (leaves_source g j e h).number ∙ (λ t. first_out g (from t) + place_of (way t)) ∙ sym (leaves_source g k d i).number

-- ---- the first edge of a condition is its `True`

first_is : (g : List Site) (n i : ℕ) (s : Site) (l : Option LoopCopy) (x : Expr) → slice_get g i ≡ Some s → s.content ≡ Test l x → slice_get (edges_from n g) (length (edges_from n (take i g))) ≡ Some (leaves (n + i) True s.yes)
first_is [] n i s l x h c = absurd (cc)
first_is (y ∷ g) n zero s l x h c =
    let p : y ≡ s = cc in
    let z : n ≡ n + 0 = omega arith in
    let content : y.content ≡ Test l x = ap (λ q. q.content) p ∙ c in
    let P : Content → Type 0 = λ q. slice_get (outs n y q ++ edges_from (n + 1) g) 0 ≡ Some (leaves n True y.yes) in
    subst (λ q. slice_get (edges_from n (y ∷ g)) 0 ≡ Some (leaves (n + 0) True q.yes)) p (subst (λ q. slice_get (edges_from n (y ∷ g)) 0 ≡ Some (leaves q True y.yes)) z (subst P (sym content) refl))
first_is (y ∷ g) n (suc i) s l x h c =
    let z : n + 1 + i ≡ n + suc i = omega arith in
    let o = outs n y y.content in
    let len = length-append o (edges_from (n + 1) (take i g)) in
    ap (slice_get (o ++ edges_from (n + 1) g)) len ∙ get-second o (edges_from (n + 1) g) (length (edges_from (n + 1) (take i g))) (leaves (n + 1 + i) True s.yes) (first_is g (n + 1) i s l x h c) ∙ ap (λ q. Some (leaves q True s.yes)) z

pub first_true : (g : List Site) (i : ℕ) (s : Site) (l : Option LoopCopy) (x : Expr) → slice_get g i ≡ Some s → s.content ≡ Test l x → slice_get (edges g) (first_out g i) ≡ Some (leaves i True s.yes)
unfolding edges
first_true g i s l x h c =
    let z : 0 + i ≡ i = omega arith in
    first_is g 0 i s l x h c ∙ ap (λ q. Some (leaves q True s.yes)) z

-- ---- the numbers of a loop's edges

true_end : (t : Way) → is_true_end t ≡ true → t ≡ True
true_end Next e = absurd (cc)
true_end True e = refl
true_end False e = absurd (cc)

-- an edge turns the loop exactly where it has the number of the first edge of the loop's condition
pub turn_number : (g : List Site) (j : ℕ) (e : Edge) (l : LoopCopy) (s : Site) (x : Expr) → slice_get (edges g) j ≡ Some e → slice_get g l.test ≡ Some s → s.content ≡ Test (Some l) x → (j == first_out g l.test) ≡ turns l e
turn_number g j e l s x h has content = both_ways (j == first_out g l.test) (turns l e) there back
  where
    here : slice_get (edges g) (first_out g l.test) ≡ Some (leaves l.test True s.yes)
    here = first_true g l.test s (Some l) x has content

    there : (j == first_out g l.test) ≡ true → turns l e ≡ true
    there is =
        let same : j ≡ first_out g l.test = eqb-true j (first_out g l.test) is in
        let both : Some e ≡ Some (leaves l.test True s.yes) = sym h ∙ ap (slice_get (edges g)) same ∙ here in
        let edge : leaves l.test True s.yes ≡ e = cc in
        subst (λ y. turns l y ≡ true) edge (ap (λ y. y && true) (eq-eqb l.test l.test refl))

    back : turns l e ≡ true → (j == first_out g l.test) ≡ true
    back is =
        let both = and_parts (e.from == l.test) (is_true_end e.way) is in
        let from : e.from ≡ l.test = eqb-true e.from l.test both.0 in
        eq-eqb j (first_out g l.test) (one_number g j (first_out g l.test) e (leaves l.test True s.yes) h here from (true_end e.way both.1))

-- ---- the numbers of the edges with a property

chosen_off : (j i : ℕ) (b y : Bool) (is : List ℕ) → (j == i) ≡ false → is_in_list j is ≡ y → is_in_list j (if b then i ∷ is else is) ≡ y
chosen_off j i true y is off rest = ap (λ z. if z then true else is_in_list j is) off ∙ rest
chosen_off j i false y is off rest = rest

chosen_on : (j i : ℕ) (b : Bool) (is : List ℕ) → (j == i) ≡ true → is_in_list j is ≡ false → is_in_list j (if b then i ∷ is else is) ≡ b
chosen_on j i true is on rest = ap (λ z. if z then true else is_in_list j is) on
chosen_on j i false is on rest = rest

below_out : (p : Edge → Bool) (es : List Edge) (i j : ℕ) → j < i → is_in_list j (positions i p es) ≡ false
below_out p [] i j lt = refl
below_out p (e ∷ es) i j lt =
    chosen_off j i (p e) false (positions (i + 1) p es) (ne_eqb j i (λ e. omega (arith, lt, e))) (below_out p es (i + 1) j (omega (arith, lt)))

among_from : (p : Edge → Bool) (es : List Edge) (i k : ℕ) (e : Edge) → slice_get es k ≡ Some e → is_in_list (i + k) (positions i p es) ≡ p e
among_from p [] i k e h = absurd (cc)
among_from p (d ∷ es) i zero e h =
    let same : d ≡ e = cc in
    subst (λ y. is_in_list (i + 0) (positions i p (d ∷ es)) ≡ p y) same (chosen_on (i + 0) i (p d) (positions (i + 1) p es) (eq-eqb (i + 0) i (omega arith)) (below_out p es (i + 1) (i + 0) (omega arith)))
among_from p (d ∷ es) i (suc k) e h =
    let z : i + 1 + k ≡ i + suc k = omega arith in
    let rest = subst (λ y. is_in_list y (positions (i + 1) p es) ≡ p e) z (among_from p es (i + 1) k e h) in
    chosen_off (i + suc k) i (p d) (p e) (positions (i + 1) p es) (ne_eqb (i + suc k) i (λ e. omega (arith, e))) rest

pub among_number : (p : Edge → Bool) (es : List Edge) (j : ℕ) (e : Edge) → slice_get es j ≡ Some e → is_in_list j (positions 0 p es) ≡ p e
among_number p es j e h =
    let z : 0 + j ≡ j = omega arith in
    subst (λ y. is_in_list y (positions 0 p es) ≡ p e) z (among_from p es 0 j e h)
