-- What is told of the loops of a graph, and that a path which keeps their bounds turns them no more than that allows.
use Rattle.std.proofs.Common.{◌≡◌, ◌⊎◌, inl, inr, ℕ, zero, suc, ◌+◌, ◌*◌, ◌<◌, ◌≤◌, Bool, true, false, if◌then◌else◌, List, [], ◌∷◌, Option, Some, None, refl, sym, ap, ◌∙◌, subst, arith}
use Rattle.std.specs.Prelude.{slice_get, is_some, ◌==◌}
use Rattle.std.proofs.lemmas.Bool.Decides.{nat_tests}
use Rattle.std.proofs.lemmas.Bool.{eqb-true, and_parts}
use Rattle.c_tree.specs.declared.tree.Expr.{Expr}
use Rattle.c_tree.specs.declared.program.Program.{Program}
use Rattle.flow_laws.specs.declared.graph.Edge.{Edge}
use Rattle.flow_laws.specs.declared.graph.Loop.{Loop}
use Rattle.flow_laws.specs.Sites.{LoopCopy, Test, Site}
use Rattle.flow_laws.specs.Graphs.{graph, edges, first_out, enters, is_in, loop_copies, loop_of, loops}
use Rattle.flow_laws.specs.Loops.{AreNested}
use Rattle.flow_laws.specs.Paths.{end_node, follows, IsPath, times, edge_count, total, most_turns, Keeps, KeepsEach, after_turn, keeps_from}
use Rattle.flow_laws.proofs.Driving.DrivingSteps.{limit, turns, is_true_end}
use Rattle.flow_laws.proofs.Driving.DrivenLists.{enters_from}
use Rattle.flow_laws.proofs.Driving.CountersKeepBounds.{keeps_counter}
use Rattle.flow_laws.proofs.Graphs.EdgesDistinct.{leaves_source}
use Rattle.flow_laws.proofs.Graphs.EndsLead.{target_is}
use Rattle.flow_laws.proofs.Loops.LoopConditions.{TestIs, graph_turned}
use Rattle.flow_laws.proofs.Driving.CountersAndBounds.{IsLoopAt}
use Rattle.flow_laws.proofs.Runs.RunsAreDrivenPaths.{AllOf, to_list, from_list, loop_at_node, turn_is, edges_keep, each_to_all}
use Rattle.flow_laws.proofs.Runs.EdgeNumbers.{Names, times_names}
use Rattle.flow_laws.proofs.Counts.CountSums.{total_positions, total_names}
use Rattle.flow_laws.proofs.Driving.TurnsBounded.{IsTurnedWithin, turns_under, each_is_of}
use Rattle.flow_laws.proofs.Counts.ListsConserved.{EdgesOf, edges_of, Chained}
use Rattle.flow_laws.proofs.Loops.LoopsNested.{Off, NestsWith, Meets, AllMeet, OfLoop, MeetAll, graph_meets, graph_inner}

-- ---- loops of the list

loop_in : (P : LoopCopy → Type 0) (ls : List LoopCopy) (k : ℕ) (l : LoopCopy) → AllOf P ls → slice_get ls k ≡ Some l → P l
loop_in P [] k l h is = absurd (cc)
loop_in P (x ∷ ls) zero l h is = let same : x ≡ l = cc in subst P same h.0
loop_in P (x ∷ ls) (suc k) l h is = loop_in P ls k l h.1 is

-- a loop of the graph, with its condition's node
pub record LoopIn (g : List Site) (l : LoopCopy) : Type 0 where
  pub node : ℕ
  pub test : Expr
  pub is : IsLoopAt g node l test

pub loop_stands : (p : Program) (k : ℕ) (l : LoopCopy) → slice_get (loop_copies (graph p)) k ≡ Some l → LoopIn (graph p) l
loop_stands p k l is =
    let g = graph p in
    loop_in (LoopIn g) (loop_copies g) k l (to_list (LoopIn g) g (λ i s m c has content. record { node = i; test = c; is = loop_at_node g i s m c (graph_turned p) has content })) is

-- ---- what a loop meets

all_at : (l : LoopCopy) (n i : ℕ) (g : List Site) (s : Site) → AllMeet l n g → slice_get g i ≡ Some s → Meets l (n + i) s
all_at l n i [] s h e = absurd (cc)
all_at l n zero (x ∷ g) s h e =
    let p : x ≡ s = cc in
    let z : n ≡ n + 0 = omega arith in
    subst (λ y. Meets l y s) z (subst (Meets l n) p h.0)
all_at l n (suc i) (x ∷ g) s h e =
    let z : n + 1 + i ≡ n + suc i = omega arith in
    subst (λ y. Meets l y s) z (all_at l (n + 1) i g s h.1 e)

of_at : (a : List Site) (n i : ℕ) (b : List Site) (s : Site) (l : LoopCopy) (e : Expr) → MeetAll a n b → slice_get a i ≡ Some s → s.content ≡ Test (Some l) e → AllMeet l n b
of_at [] n i b s l e h has is = absurd (cc)
of_at (x ∷ a) n zero b s l e h has is =
    let p : x ≡ s = cc in
    subst (OfLoop (λ m. AllMeet m n b)) (ap (λ y. y.content) p ∙ is) h.0
of_at (x ∷ a) n (suc i) b s l e h has is = of_at a n i b s l e h.1 has is

pub meets_at : (p : Program) (l : LoopCopy) (i : ℕ) (s : Site) → LoopIn (graph p) l → slice_get (graph p) i ≡ Some s → Meets l i s
meets_at p l i s h has =
    let g = graph p in
    let z : 0 + i ≡ i = omega arith in
    subst (λ y. Meets l y s) z (all_at l 0 i g s (of_at g 0 h.node g h.is.node l h.test (graph_meets p) h.is.has h.is.content) has)

-- ---- the condition lies in the loop

in_both : (from past n : ℕ) → from ≤ n → n < past → is_in from past n ≡ true
in_both from past n le lt = grind (arith, nat_tests)

both_in : (from past n : ℕ) → is_in from past n ≡ true → (from ≤ n) × (n < past)
both_in from past n h = (grind (arith, nat_tests), grind (arith, nat_tests))

not_in : (from past n : ℕ) → is_in from past n ≡ false → (n < from) ⊎ (past ≤ n)
not_in from past n h = grind (arith, nat_tests)

pub test_within : (p : Program) (k : ℕ) (l : LoopCopy) → slice_get (loop_copies (graph p)) k ≡ Some l → is_in l.from l.past l.test ≡ true
test_within p k l is =
    let t = (loop_stands p k l is).is.turned in
    in_both l.from l.past l.test (omega (arith, t.test, t.low)) (omega (arith, t.test, t.high))

-- ---- an edge from outside leads to the first node

pub edge_off : (p : Program) (l : LoopCopy) (j : ℕ) (e : Edge) → LoopIn (graph p) l → slice_get (edges (graph p)) j ≡ Some e → (e.from < l.from) ⊎ (l.past ≤ e.from) → Off l.from l.past e.to
edge_off p l j e h is out =
    let s = leaves_source (graph p) j e is in
    let m = meets_at p l e.from s.site h s.has in
    subst (λ d. Off l.from l.past d.to) (sym s.edge_is) (target_is (Off l.from l.past) s.site e.way (m.skips out))

pub differ_less : (from n : ℕ) → n ≤ from → (from ≡ n → ⊥) → n < from
differ_less from n le differ = grind (arith, nat_tests)

first_of : (from past n : ℕ) → Off from past n → from ≤ n → n < past → n ≡ from
first_of from past n (inl h) le lt = omega (arith, h, le)
first_of from past n (inr h) le lt = absurd (omega (arith, h, lt))

pub first_reached : (p : Program) (k : ℕ) (l : LoopCopy) (j : ℕ) (e : Edge) → slice_get (loop_copies (graph p)) k ≡ Some l → slice_get (edges (graph p)) j ≡ Some e → is_in l.from l.past e.from ≡ false → is_in l.from l.past e.to ≡ true → e.to ≡ l.from
first_reached p k l j e is has out inside =
    let both = both_in l.from l.past e.to inside in
    first_of l.from l.past e.to (edge_off p l j e (loop_stands p k l is) has (not_in l.from l.past e.from out)) both.0 both.1

-- ---- of two loops one lies in the other or they are apart

pub are_nested : (p : Program) (k i : ℕ) (l m : LoopCopy) → slice_get (loop_copies (graph p)) k ≡ Some l → slice_get (loop_copies (graph p)) i ≡ Some m → AreNested l m
are_nested p k i l m is im =
    let a = loop_stands p k l is in
    let b = loop_stands p i m im in
    subst (NestsWith l) b.is.content (meets_at p l b.node b.is.node a b.is.has).nests

-- ---- a path that keeps the bounds turns a loop no more than it enters it allows

behind_entry : (p : Program) (l : LoopCopy) → LoopIn (graph p) l → 2 ≤ l.from
behind_entry p l h =
    subst (OfLoop (λ m. 2 ≤ m.from)) h.is.content ((graph_inner p).loops h.node h.is.node h.is.has)

abbrev Outside : LoopCopy → ℕ → Type 0
Outside l n = (n < l.from) ⊎ (l.past ≤ n)

stays_outside : (l : LoopCopy) (e : Edge) → Outside l e.from → enters l e ≡ false → Off l.from l.past e.to → Outside l e.to
stays_outside l e out none (inr h) = inr h
stays_outside l e out none (inl h) = inl (less (λ same. let on = enters_from l e same out in let bad : true ≡ false = sym on ∙ none in absurd (cc)))
  where
    less : (l.from ≡ e.to → ⊥) → e.to < l.from
    less differ = differ_less l.from e.to h differ

no_turn : (l : LoopCopy) (e : Edge) (n : ℕ) → TestIs n l → Outside l e.from → turns l e ≡ true → ⊥
no_turn l e n is out tu = by_side out
  where
    from : e.from ≡ l.test
    from = eqb-true e.from l.test (and_parts (e.from == l.test) (is_true_end e.way) tu).0

    by_side : Outside l e.from → ⊥
    by_side (inl h) = omega (arith, h, from, is.test, is.low)
    by_side (inr h) = omega (arith, h, from, is.test, is.high)

-- as long as a loop was not entered, none of its turns is taken
enters_first : (p : Program) (l : LoopCopy) (is : LoopIn (graph p) l) (js : List ℕ) (q : List Edge) (n m : ℕ) → Names (edges (graph p)) js q → Chained n q m → Outside l n → keeps_from (enters l) (turns l) (limit l) None q ≡ true → keeps_from (enters l) (turns l) (limit l) (Some 0) q ≡ true
enters_first p l is [] [] n m names chained out h = refl
enters_first p l is [] (e ∷ q) n m names chained out h = absurd names
enters_first p l is (j ∷ js) [] n m names chained out h = absurd names
enters_first p l is (j ∷ js) (e ∷ q) n m names chained out h =
    by_edge (enters l e) (turns l e) refl refl (λ none k. enters_first p l is js q e.to m names.1 chained.1 (stays_outside l e from none (edge_off p l j e is names.0 from)) k) h
  where
    from : Outside l e.from
    from = subst (Outside l) (sym chained.0) out

    by_edge : (en tu : Bool) → enters l e ≡ en → turns l e ≡ tu → (enters l e ≡ false → keeps_from (enters l) (turns l) (limit l) None q ≡ true → keeps_from (enters l) (turns l) (limit l) (Some 0) q ≡ true) → (if en then keeps_from (enters l) (turns l) (limit l) (Some (limit l)) q else (if tu then after_turn None (λ x. keeps_from (enters l) (turns l) (limit l) x q) else keeps_from (enters l) (turns l) (limit l) None q)) ≡ true → (if en then keeps_from (enters l) (turns l) (limit l) (Some (limit l)) q else (if tu then after_turn (Some 0) (λ x. keeps_from (enters l) (turns l) (limit l) x q) else keeps_from (enters l) (turns l) (limit l) (Some 0) q)) ≡ true
    by_edge true tu ee te next k = k
    by_edge false true ee te next k = absurd (no_turn l e is.node is.is.turned from te)
    by_edge false false ee te next k = next ee k

kept_row : (p : Program) (js : List ℕ) (m : ℕ) (r : EdgesOf (edges (graph p)) js 0 m) → KeepsEach (loops (graph p)) js → (n : ℕ) (l : LoopCopy) (c : Expr) → IsLoopAt (graph p) n l c → IsTurnedWithin js (loop_of (graph p) l)
kept_row p js m r keeps n l c is =
    let g = graph p in
    let at_l : LoopIn g l = record { node = n; test = c; is = is } in
    let each = from_list (λ m. Keeps (loop_of g m) js) g (each_to_all g (loop_copies g) js keeps) in
    let by = edges_keep g n l c js r.list is r.names (each n is.node l c is.has is.content) in
    let low = behind_entry p l at_l in
    let first = enters_first p l at_l js r.list 0 m r.names r.chained (inl (omega (arith, low))) (keeps_counter (enters l) (turns l) (limit l) r.list by) in
    let under : times (turns l) r.list ≤ limit l * times (enters l) r.list = (let u = turns_under n l r.list 0 is.turned first in omega (arith, u)) in
    let turned = times_names (edges g) (λ j. j == first_out g l.test) (turns l) (turn_is g n l c is) js r.list r.names in
    let entered = total_positions js (enters l) 0 (edges g) ∙ total_names (enters l) (edges g) js r.list r.names in
    subst (λ y. edge_count js (first_out g l.test) ≤ limit l * y) (sym entered) (subst (λ y. y ≤ limit l * times (enters l) r.list) (sym turned) under)

pub list_rows : (p : Program) (q : List ℕ) (m : ℕ) → end_node (edges (graph p)) 0 q ≡ Some m → KeepsEach (loops (graph p)) q → (k : ℕ) (l : Loop) → slice_get (loops (graph p)) k ≡ Some l → edge_count q l.turn ≤ most_turns l * total q l.into
list_rows p q m leads keeps k l e =
    let g = graph p in
    let r = edges_of (edges g) q 0 m leads in
    each_is_of g q (loop_copies g) (to_list (λ l. IsTurnedWithin q (loop_of g l)) g (λ n s l c has is. kept_row p q m r keeps n l c (loop_at_node g n s l c (graph_turned p) has is))) k l e

pub kept_rows : (p : Program) (q : List ℕ) → IsPath (edges (graph p)) q → KeepsEach (loops (graph p)) q → (k : ℕ) (l : Loop) → slice_get (loops (graph p)) k ≡ Some l → edge_count q l.turn ≤ most_turns l * total q l.into
kept_rows p q path = list_rows p q 1 path

-- where a contiguous list leads
pub end_of : (o : Option ℕ) → is_some o ≡ true → (m : ℕ) × (o ≡ Some m)
end_of None h = absurd (cc)
end_of (Some m) h = (m, refl)

pub contiguous_rows : (p : Program) (q : List ℕ) → follows (edges (graph p)) q ≡ true → KeepsEach (loops (graph p)) q → (k : ℕ) (l : Loop) → slice_get (loops (graph p)) k ≡ Some l → edge_count q l.turn ≤ most_turns l * total q l.into
contiguous_rows p q h = let end = end_of (end_node (edges (graph p)) 0 q) h in list_rows p q end.0 end.1
