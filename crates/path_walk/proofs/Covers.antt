-- Each path within the room begins as the answer says.
use Rattle.std.proofs.Common.{◌≡◌, ◌≤◌, inl, inr, ⊎_elim, ℕ, ◌+◌, true, List, [], ◌∷◌, ◌++◌, refl, sym, ap, ◌∙◌, subst, arith, append_assoc, append-nil, if◌then◌else◌}
use Rattle.std.specs.Prelude.{slice_index, is_some}
use Rattle.std.proofs.lemmas.Bool.{eq-eqb, false≢true}
use Rattle.c_tree.specs.declared.program.Program.{Program}
use Rattle.flow_laws.specs.declared.graph.Edge.{Edge}
use Rattle.flow_laws.specs.Graphs.{graph, edges, loops}
use Rattle.flow_laws.specs.Paths.{follows, edge_count, IsPath, keeps_each}
use Rattle.flow_laws.specs.Claims.{Begins}
use Rattle.flow_laws.proofs.Counts.ListsJoined.{follows_begin, paths_end, counts_join}
use Rattle.flow_laws.proofs.Driving.BoundsStep.{each_begin}
use Rattle.path_walk.specs.declared.next.Next.{Next}
use Rattle.path_walk.specs.declared.next.Next.TheVariants.{Long, Whole, Dead, Fork}
use Rattle.path_walk.specs.Walks.{MayFollow, IsForced, IsFork, IsWithin, IsAnswer, BeginsAs}

path_follows : (es : List Edge) (q : List ℕ) → IsPath es q → follows es q ≡ true
path_follows es q path = ap is_some path

pub count_one : (e : ℕ) → edge_count (e ∷ []) e ≡ 1
count_one e = ap (λ b. if b then 1 else 0) (eq-eqb e e refl)

-- no edge follows a path
pub ends_at_exit : (p : Program) (q : List ℕ) (e : ℕ) → IsPath (edges (graph p)) q → follows (edges (graph p)) (q ++ e ∷ []) ≡ true → ⊥
ends_at_exit p q e path on = false≢true (sym (paths_end p q e path) ∙ on)

-- ---- what a path within the room does

pub step_on : (a : List ℕ) (e : ℕ) (rest : List ℕ) → a ++ (e ∷ rest) ≡ (a ++ e ∷ []) ++ rest
step_on a e rest = sym (append_assoc a (e ∷ []) rest)

pub further : (prefix done : List ℕ) (e : ℕ) → (prefix ++ done) ++ e ∷ [] ≡ prefix ++ (done ++ e ∷ [])
further prefix done e = append_assoc prefix done (e ∷ [])

-- the path goes on behind the prefix and `done` with what the room allows
record GoesOn (p : Program) (prefix room done w : List ℕ) : Type 0 where
  path : IsPath (edges (graph p)) w
  kept : keeps_each (loops (graph p)) w ≡ true
  rest : List ℕ
  is : w ≡ (prefix ++ done) ++ rest
  no_further : (e : ℕ) → edge_count done e + edge_count rest e ≤ slice_index room e

follow : (p : Program) (prefix room done w rest : List ℕ) (e : ℕ) → IsPath (edges (graph p)) w → keeps_each (loops (graph p)) w ≡ true → w ≡ (prefix ++ done) ++ (e ∷ rest) → edge_count done e + edge_count (e ∷ rest) e ≤ slice_index room e → MayFollow p prefix room done e
follow p prefix room done w rest e path kept is within =
    let on : w ≡ ((prefix ++ done) ++ e ∷ []) ++ rest = is ∙ step_on (prefix ++ done) e rest in
    let parts = counts_join (e ∷ []) rest e in
    let once = count_one e in
    record {
      contiguous = follows_begin (edges (graph p)) ((prefix ++ done) ++ e ∷ []) rest (path_follows (edges (graph p)) (((prefix ++ done) ++ e ∷ []) ++ rest) (subst (IsPath (edges (graph p))) on path));
      kept = each_begin (loops (graph p)) ((prefix ++ done) ++ e ∷ []) rest (subst (λ q. keeps_each (loops (graph p)) q ≡ true) on kept);
      has_room = omega (arith, parts, once, within);
    }

-- it does not end where an edge may follow
stops : (p : Program) (prefix room done w : List ℕ) (e : ℕ) → IsPath (edges (graph p)) w → w ≡ (prefix ++ done) ++ [] → MayFollow p prefix room done e → ⊥
stops p prefix room done w e path is may =
    ends_at_exit p (prefix ++ done) e (subst (IsPath (edges (graph p))) (is ∙ append-nil (prefix ++ done)) path) may.contiguous

on_room : (room done rest : List ℕ) (d e : ℕ) → d ≡ e → ((j : ℕ) → edge_count done j + edge_count (d ∷ rest) j ≤ slice_index room j) → (j : ℕ) → edge_count (done ++ e ∷ []) j + edge_count rest j ≤ slice_index room j
on_room room done rest d e same within j =
    let le : edge_count done j + edge_count (e ∷ rest) j ≤ slice_index room j = subst (λ k. edge_count done j + edge_count (k ∷ rest) j ≤ slice_index room j) same (within j) in
    let parts = counts_join (e ∷ []) rest j in
    let whole = counts_join done (e ∷ []) j in
    omega (arith, le, parts, whole)

-- it begins with what had to follow
along : (p : Program) (prefix room more w : List ℕ) → IsForced p prefix room more → IsPath (edges (graph p)) w → keeps_each (loops (graph p)) w ≡ true → (done after rest : List ℕ) → more ≡ done ++ after → w ≡ (prefix ++ done) ++ rest → ((e : ℕ) → edge_count done e + edge_count rest e ≤ slice_index room e) → GoesOn p prefix room more w
along p prefix room more w forced path kept done [] rest is_more is within =
    let same : done ≡ more = sym (is_more ∙ append-nil done) in
    subst (λ m. GoesOn p prefix room m w) same (record { path = path; kept = kept; rest = rest; is = is; no_further = within })
along p prefix room more w forced path kept done (e ∷ after) [] is_more is within =
    absurd (stops p prefix room done w e path is (forced done after e is_more).may)
along p prefix room more w forced path kept done (e ∷ after) (d ∷ rest) is_more is within =
    let may = follow p prefix room done w rest d path kept is (within d) in
    let same : d ≡ e = (forced done after e is_more).alone d may in
    along p prefix room more w forced path kept (done ++ e ∷ []) after rest
    (is_more ∙ step_on done e after)
    (is ∙ ap (λ k. (prefix ++ done) ++ (k ∷ rest)) same ∙ step_on (prefix ++ done) e rest ∙ ap (λ l. l ++ rest) (further prefix done e))
    (on_room room done rest d e same within)

goes_on : (p : Program) (prefix room more q : List ℕ) → IsForced p prefix room more → IsWithin p prefix room q → GoesOn p prefix room more q
goes_on p prefix room more q forced within =
    along p prefix room more q forced within.path within.kept [] more within.rest refl (within.begins ∙ ap (λ l. l ++ within.rest) (sym (append-nil prefix))) (λ e. let le = within.no_further e in omega (arith, le))

begins : (p : Program) (prefix room more list q : List ℕ) → list ≡ prefix ++ more → IsForced p prefix room more → IsWithin p prefix room q → Begins list q
begins p prefix room more list q is forced within =
    let g = goes_on p prefix room more q forced within in
    (g.rest, g.is ∙ ap (λ l. l ++ g.rest) (sym is))

-- where none may follow and the list is no path, no path goes on
dead : (p : Program) (prefix room more q rest : List ℕ) → (IsPath (edges (graph p)) (prefix ++ more) → ⊥) → ((e : ℕ) → MayFollow p prefix room more e → ⊥) → IsPath (edges (graph p)) q → keeps_each (loops (graph p)) q ≡ true → q ≡ (prefix ++ more) ++ rest → ((e : ℕ) → edge_count more e + edge_count rest e ≤ slice_index room e) → ⊥
dead p prefix room more q [] no_path none path kept is within = no_path (subst (IsPath (edges (graph p))) (is ∙ append-nil (prefix ++ more)) path)
dead p prefix room more q (e ∷ rest) no_path none path kept is within = none e (follow p prefix room more q rest e path kept is (within e))

parts : (p : Program) (prefix room more a b q rest : List ℕ) (left right : ℕ) → a ≡ (prefix ++ more) ++ left ∷ [] → b ≡ (prefix ++ more) ++ right ∷ [] → IsFork p prefix room more left right → IsPath (edges (graph p)) q → keeps_each (loops (graph p)) q ≡ true → q ≡ (prefix ++ more) ++ rest → ((e : ℕ) → edge_count more e + edge_count rest e ≤ slice_index room e) → BeginsAs (Fork a b) q
parts p prefix room more a b q [] left right is_a is_b fork path kept is within = absurd (stops p prefix room more q left path is fork.left_may)
parts p prefix room more a b q (e ∷ rest) left right is_a is_b fork path kept is within =
    let may = follow p prefix room more q rest e path kept is (within e) in
    let on = is ∙ step_on (prefix ++ more) e rest in
    ⊎_elim
    (λ same. inl (rest, on ∙ ap (λ k. ((prefix ++ more) ++ k ∷ []) ++ rest) same ∙ ap (λ l. l ++ rest) (sym is_a)))
    (λ same. inr (rest, on ∙ ap (λ k. ((prefix ++ more) ++ k ∷ []) ++ rest) same ∙ ap (λ l. l ++ rest) (sym is_b)))
    (fork.others e may)

pub cover : (p : Program) (prefix room : List ℕ) (next : Next) → IsAnswer p prefix room next → (q : List ℕ) → IsWithin p prefix room q → BeginsAs next q
cover p prefix room (Long l) h q within = begins p prefix room h.0 l q h.1 h.2.forced within
cover p prefix room (Whole l) h q within = begins p prefix room h.0 l q h.1 h.2.forced within
cover p prefix room (Dead l) h q within =
    let g = goes_on p prefix room h.0 q h.2.forced within in
    dead p prefix room h.0 q g.rest h.2.no_path h.2.none g.path g.kept g.is g.no_further
cover p prefix room (Fork a b) h q within =
    let g = goes_on p prefix room h.more q h.fork.forced within in
    parts p prefix room h.more a b q g.rest h.left h.right h.first h.second h.fork g.path g.kept g.is g.no_further
