-- Where a walk stands: it begins at the prefix, goes on by the one edge that may follow, and stops with the answer.
use Rattle.std.proofs.Common.{◌≡◌, ◌≢◌, ◌≤◌, ◌<◌, ◌⊎◌, inl, inr, ⊎_elim, ℕ, zero, suc, ◌-◌, true, false, if◌then◌else◌, List, [], ◌∷◌, ◌++◌, length, Option, Some, None, refl, sym, ap, ◌∙◌, subst, arith, tests, append-nil, get_or}
use Rattle.std.specs.Prelude.{slice_get, slice_set, slice_index, is_some, ◌==◌, IfOk, Result}
use Rattle.std.proofs.lemmas.Bool.{false≢true, ne_eqb}
use Rattle.std.proofs.lemmas.List.{length-set, get_or-set_same, get_or-set_other}
use Rattle.std.proofs.lemmas.Option.{slice_get_within}
use Rattle.std.proofs.lemmas.Result.{IfOk-weaker}
use Rattle.c_tree.specs.declared.program.Program.{Program}
use Rattle.c_tree.specs.Keeping.WellFormed.{WellFormed}
use Rattle.flow_laws.specs.declared.graph.Edge.{Edge}
use Rattle.flow_laws.specs.Sites.{Copy}
use Rattle.flow_laws.specs.Graphs.{copies, sites_of, graph, edges, loops}
use Rattle.flow_laws.specs.Paths.{end_node, end_node_on, follows, keeps_each, edge_count, IsPath}
use Rattle.flow_laws.proofs.Graphs.EndsLead.{edges_join}
use Rattle.flow_laws.proofs.Counts.ListsJoined.{goes_on, leads_on, counts_join}
use Rattle.path_walk.specs.declared.next.Next.{Next}
use Rattle.path_walk.specs.declared.next.Next.TheVariants.{Long, Whole, Dead}
use Rattle.path_walk.specs.declared.step.Step.{Step}
use Rattle.path_walk.specs.declared.step.Step.TheVariants.{Stuck, On, Parts}
use Rattle.path_walk.specs.Counters.{AreOn, AreAfter}
use Rattle.path_walk.specs.Walks.{MayFollow, MustFollow, IsForced, IsAnswer, IsWithin, BeginsAs}
use Rattle.path_walk.specs.Steps.{IsFree, IsChosen, Stands, LeadsTo, fork_of}
use Rattle.path_walk.proofs.Counting.{kept_on, on_kept, after_on}
use Rattle.path_walk.proofs.Covers.{count_one, further, cover}
use Rattle.plain_laws.proofs.Numbers.{same_or_other}

no_cons : (done after : List ℕ) (e : ℕ) → [] ≡ done ++ (e ∷ after) → ⊥
no_cons [] after e h = cc
no_cons (d ∷ done) after e h = cc

pub stands_start : (p : Program) (prefix room : List ℕ) (left : List (Option ℕ)) (at : ℕ) → LeadsTo p prefix at → keeps_each (loops (graph p)) prefix ≡ true → AreAfter (loops (graph p)) prefix left → Stands p prefix room prefix room left at
stands_start p prefix room left at there kept turns = record {
  more = [];
  is = sym (append-nil prefix);
  forced = λ done after e is. absurd (no_cons done after e is);
  leads = there;
  kept = kept;
  turns = turns;
  room_is = λ e. omega arith;
  as_many = refl;
}

-- ---- what is free is what may follow

on_list : (list list' : List ℕ) (e : ℕ) (P : List ℕ → Type 0) → list ≡ list' → P (list ++ e ∷ []) → P (list' ++ e ∷ [])
on_list list list' e P is h = subst (λ l. P (l ++ e ∷ [])) is h

abbrev Contiguous : Program → List ℕ → Type 0
Contiguous p q = follows (edges (graph p)) q ≡ true

abbrev Kept : Program → List ℕ → Type 0
Kept p q = keeps_each (loops (graph p)) q ≡ true

free_follows : (p : Program) (prefix room list free : List ℕ) (left : List (Option ℕ)) (at e : ℕ) → (s : Stands p prefix room list free left at) → IsFree p free left at e → MayFollow p prefix room s.more e
free_follows p prefix room list free left at e s f = record {
  contiguous = on_list list (prefix ++ s.more) e (Contiguous p) s.is ((goes_on (edges (graph p)) list at e s.leads).1 f.leaves);
  kept = on_list list (prefix ++ s.more) e (Kept p) s.is (kept_on (loops (graph p)) list left e s.kept s.turns f.may.turns);
  has_room = omega (arith, s.room_is e, f.may.has_room);
}

follows_free : (p : Program) (prefix room list free : List ℕ) (left : List (Option ℕ)) (at e : ℕ) → (s : Stands p prefix room list free left at) → MayFollow p prefix room s.more e → IsFree p free left at e
follows_free p prefix room list free left at e s may = record {
  leaves = (goes_on (edges (graph p)) list at e s.leads).0 (on_list (prefix ++ s.more) list e (Contiguous p) (sym s.is) may.contiguous);
  may = record {
    has_room = omega (arith, s.room_is e, may.has_room);
    turns = on_kept (loops (graph p)) list left e s.turns (on_list (prefix ++ s.more) list e (Kept p) (sym s.is) may.kept);
  };
}

-- ---- one edge more

-- what was taken before, or last
last_or : (more done after : List ℕ) (e d : ℕ) → more ++ e ∷ [] ≡ done ++ (d ∷ after) → ((rest : List ℕ) × (more ≡ done ++ (d ∷ rest))) ⊎ ((done ≡ more) × (d ≡ e))
last_or [] [] after e d h = inr (refl, cc)
last_or [] (x ∷ done) after e d h = let tail : [] ≡ done ++ (d ∷ after) = cc in absurd (no_cons done after d tail)
last_or (m ∷ more) [] after e d h = let head : m ≡ d = cc in inl (more, ap (λ k. k ∷ more) head)
last_or (m ∷ more) (x ∷ done) after e d h =
    let head : m ≡ x = cc in
    let tail : more ++ e ∷ [] ≡ done ++ (d ∷ after) = cc in
    ⊎_elim
    (λ before. inl (before.0, λ i. head i ∷ before.1 i))
    (λ last. inr ((λ i. sym head i ∷ last.0 i), last.1))
    (last_or more done after e d tail)

forced_on : (p : Program) (prefix room more : List ℕ) (e : ℕ) → IsForced p prefix room more → MustFollow p prefix room more e → IsForced p prefix room (more ++ e ∷ [])
forced_on p prefix room more e forced must done after d is =
    ⊎_elim
    (λ before. forced done before.0 d before.1)
    (λ last. subst (λ l. MustFollow p prefix room l d) (sym last.0) (subst (MustFollow p prefix room more) (sym last.1) must))
    (last_or more done after e d is)

count_other : (e j : ℕ) → e ≢ j → edge_count (e ∷ []) j ≡ 0
count_other e j other = ap (λ b. if b then 1 else 0) (ne_eqb e j other)

-- the room is less by the edge
room_on : (room free more : List ℕ) (e : ℕ) → e < length free → ((j : ℕ) → slice_index free j ≡ slice_index room j - edge_count more j) → (j : ℕ) → slice_index (slice_set free e (slice_index free e - 1)) j ≡ slice_index room j - edge_count (more ++ e ∷ []) j
room_on room free more e lt is j =
    let parts = counts_join more (e ∷ []) j in
    ⊎_elim
    (λ same.
    let once : edge_count (e ∷ []) j ≡ 1 = ap (λ k. edge_count (e ∷ []) k) same ∙ count_one e in
    let set : slice_index (slice_set free e (slice_index free e - 1)) j ≡ slice_index free e - 1 = ap (λ k. slice_index (slice_set free e (slice_index free e - 1)) k) same ∙ get_or-set_same free e (slice_index free e - 1) 0 lt in
    let old : slice_index free e ≡ slice_index room j - edge_count more j = ap (slice_index free) (sym same) ∙ is j in
    omega (arith, parts, once, set, old))
    (λ other.
    let never = count_other e j (λ k. other (sym k)) in
    let set = get_or-set_other free e j (slice_index free e - 1) 0 other in
    let old = is j in
    omega (arith, parts, never, set, old))
    (same_or_other j e)

pub stands_on : (p : Program) (prefix room list free : List ℕ) (left : List (Option ℕ)) (at e : ℕ) (list' free' : List ℕ) (left' : List (Option ℕ)) (d : Edge) → length room ≡ length (edges (graph p)) → Stands p prefix room list free left at → length list ≤ 16384 → IsChosen p free left at (On e) → list' ≡ list ++ e ∷ [] → free' ≡ slice_set free e (slice_index free e - 1) → AreOn (loops (graph p)) e left left' → slice_get (edges (graph p)) e ≡ Some d → Stands p prefix room list' free' left' d.to
stands_on p prefix room list free left at e list' free' left' d rooms s short chosen is_list is_free on is_d = record {
  more = s.more ++ e ∷ [];
  is = is_list ∙ ap (λ l. l ++ e ∷ []) s.is ∙ further prefix s.more e;
  forced = forced_on p prefix room s.more e s.forced (record {
    short = subst (λ l. length l ≤ 16384) s.is short;
    may = free_follows p prefix room list free left at e s chosen.0;
    alone = λ other may. chosen.1 other (follows_free p prefix room list free left at other s may);
  });
  leads = subst (λ l. LeadsTo p l d.to) (sym is_list) (leads_on (edges (graph p)) list at e d s.leads is_d from);
  kept = subst (Kept p) (sym is_list) (kept_on (loops (graph p)) list left e s.kept s.turns chosen.0.may.turns);
  turns = subst (λ l. AreAfter (loops (graph p)) l left') (sym is_list) (after_on (loops (graph p)) list left left' e s.turns on);
  room_is = λ j. ap (λ l. slice_index l j) is_free ∙ room_on room free s.more e within s.room_is j;
  as_many = ap length is_free ∙ length-set free e (slice_index free e - 1) ∙ s.as_many;
}
  where
    from : d.from ≡ at
    from =
        let leaves = chosen.0.leaves in
        let both : Some leaves.0 ≡ Some d = sym leaves.1 ∙ is_d in
        let edge : leaves.0 ≡ d = cc in
        subst (λ (x : Edge). x.from ≡ at) edge leaves.2

    within : e < length free
    within = let lt = slice_get_within (edges (graph p)) e d is_d in let many = s.as_many in omega (arith, lt, many, rooms)

-- ---- the answers

pub long : (p : Program) (prefix room list free : List ℕ) (left : List (Option ℕ)) (at : ℕ) → Stands p prefix room list free left at → 16385 ≤ length list → IsAnswer p prefix room (Long list)
long p prefix room list free left at s le = (s.more, s.is, record { forced = s.forced; long = subst (λ l. 16385 ≤ length l) s.is le })

pub whole : (p : Program) (prefix room list free : List ℕ) (left : List (Option ℕ)) (at : ℕ) → Stands p prefix room list free left at → length list ≤ 16384 → at ≡ 1 → IsAnswer p prefix room (Whole list)
whole p prefix room list free left at s short exit = (
  s.more,
  s.is,
  record {
    forced = s.forced;
    short = subst (λ l. length l ≤ 16384) s.is short;
    path = subst (IsPath (edges (graph p))) s.is (s.leads ∙ ap Some exit);
  },
)

pub dead : (p : Program) (prefix room list free : List ℕ) (left : List (Option ℕ)) (at : ℕ) → Stands p prefix room list free left at → length list ≤ 16384 → at ≢ 1 → IsChosen p free left at Stuck → IsAnswer p prefix room (Dead list)
dead p prefix room list free left at s short other chosen = (
  s.more,
  s.is,
  record {
    forced = s.forced;
    short = subst (λ l. length l ≤ 16384) s.is short;
    no_path = λ path. let both : Some at ≡ Some 1 = sym s.leads ∙ subst (IsPath (edges (graph p))) (sym s.is) path in other (cc);
    none = λ e may. chosen e (follows_free p prefix room list free left at e s may);
  },
)

pub parted : (p : Program) (prefix room list free : List ℕ) (left : List (Option ℕ)) (at a b : ℕ) → Stands p prefix room list free left at → length list ≤ 16384 → IsChosen p free left at (Parts a b) → IsAnswer p prefix room (fork_of list a b)
parted p prefix room list free left at a b s short chosen = record {
  more = s.more;
  left = a;
  right = b;
  first = ap (λ l. l ++ a ∷ []) s.is;
  second = ap (λ l. l ++ b ∷ []) s.is;
  fork = record {
    forced = s.forced;
    short = subst (λ l. length l ≤ 16384) s.is short;
    left_may = free_follows p prefix room list free left at a s chosen.0;
    left_is = chosen.2;
    right_may = free_follows p prefix room list free left at b s chosen.1;
    right_is = chosen.3;
    others = λ e may. chosen.4 e (follows_free p prefix room list free left at e s may);
  };
}

-- ---- edges of a list that leads on

-- ---- the node to which a list leads is one of the graph

some_sites : (o : Option Copy) → 0 < length (sites_of o)
some_sites None = omega arith
some_sites (Some c) = omega arith

some_nodes : (p : Program) → 0 < length (graph p)
unfolding graph
some_nodes p = some_sites (slice_get (copies [] p.funcs) p.entry)

node_step : (m : ℕ) (o : Option Edge) (go : ℕ → Option ℕ) (n : ℕ) (P : Type 0) → ((e : Edge) → o ≡ Some e → go e.to ≡ Some n → P) → end_node_on m o go ≡ Some n → P
node_step m None go n P each leads = absurd (cc)
node_step m (Some e) go n P each leads =
    elim (e.from == m) as (λ b. (if b then go e.to else None) ≡ Some n → P) [ true ↦ λ k. each e refl k | false ↦ λ k. absurd (cc) ] leads

node_from : (p : Program) (q : List ℕ) (m n : ℕ) → WellFormed p → m < length (graph p) → end_node (edges (graph p)) m q ≡ Some n → n < length (graph p)
node_from p [] m n formed lt h = let same : m ≡ n = cc in subst (λ k. k < length (graph p)) same lt
node_from p (j ∷ q) m n formed lt h =
    node_step m (slice_get (edges (graph p)) j) (λ k. end_node (edges (graph p)) k q) n (n < length (graph p)) (λ e is rest. node_from p q e.to n formed (edges_join p formed j e is).to rest) h

pub node_of : (p : Program) (q : List ℕ) (n : ℕ) → WellFormed p → LeadsTo p q n → n < length (graph p)
node_of p q n formed h = node_from p q 0 n formed (some_nodes p) h

-- ---- as the code has them

pub stands_begin : (p : Program) (prefix room list free : List ℕ) (left : List (Option ℕ)) (at : ℕ) → list ≡ prefix → free ≡ room → LeadsTo p prefix at → keeps_each (loops (graph p)) prefix ≡ true → AreAfter (loops (graph p)) prefix left → Stands p prefix room list free left at
stands_begin p prefix room list free left at is_list is_free there kept turns =
    subst (λ l. Stands p prefix room l free left at) (sym is_list) (subst (λ f. Stands p prefix room prefix f left at) (sym is_free) (stands_start p prefix room left at there kept turns))

pub chosen_at : (p : Program) (r r' : List ℕ) (l l' : List (Option ℕ)) (at : ℕ) (x y : Step) → r ≡ r' → l ≡ l' → x ≡ y → IsChosen p r l at x → IsChosen p r' l' at y
chosen_at p r r' l l' at x y is_r is_l is h = subst (IsChosen p r' l' at) is (subst (λ z. IsChosen p r' z at x) is_l (subst (λ z. IsChosen p z l at x) is_r h))

pub if_forked : {E : Type 0} (p : Program) (prefix room : List ℕ) (n : Next) (r : Result Next E) → IsAnswer p prefix room n → IfOk r (λ x. x ≡ n) → IfOk r (λ x. IsAnswer p prefix room x)
if_forked p prefix room n r h is = IfOk-weaker r (λ x. x ≡ n) (λ x. IsAnswer p prefix room x) (λ x same. subst (IsAnswer p prefix room) (sym same) h) is

pub if_covers : {E : Type 0} (p : Program) (prefix room : List ℕ) (n : Next) (r : Result Next E) → IsAnswer p prefix room n → IfOk r (λ x. x ≡ n) → IfOk r (λ x. (q : List ℕ) → IsWithin p prefix room q → BeginsAs x q)
if_covers p prefix room n r h is = IfOk-weaker r (λ x. x ≡ n) (λ x. (q : List ℕ) → IsWithin p prefix room q → BeginsAs x q) (λ x same. cover p prefix room x (subst (IsAnswer p prefix room) (sym same) h)) is
