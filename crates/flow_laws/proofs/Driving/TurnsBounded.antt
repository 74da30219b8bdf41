-- A counter that keeps a list: the turns are at most those that are left and the bound times the entries.
use Rattle.std.proofs.Common.{◌≡◌, ◌≤◌, ℕ, zero, suc, ◌+◌, ◌*◌, Bool, true, false, if◌then◌else◌, List, [], ◌∷◌, map, Some, refl, subst, arith}
use Rattle.std.specs.Prelude.{slice_get, ◌==◌}
use Rattle.std.proofs.lemmas.Bool.{eqb-true, and_parts}
use Rattle.flow_laws.specs.declared.graph.Loop.{Loop}
use Rattle.flow_laws.specs.declared.graph.Edge.{Edge}
use Rattle.flow_laws.specs.Sites.{LoopCopy, Site}
use Rattle.flow_laws.specs.Graphs.{enters, loop_of}
use Rattle.flow_laws.proofs.Driving.DrivingSteps.{is_true_end, limit, turns}
use Rattle.flow_laws.specs.Paths.{times, edge_count, total, most_turns, after_turn, keeps_from}
use Rattle.flow_laws.proofs.Driving.DrivenLists.{not_enters}
use Rattle.flow_laws.proofs.Loops.LoopConditions.{TestIs}
use Rattle.flow_laws.proofs.Runs.RunsAreDrivenPaths.{AllOf}

-- ---- counts

apart : (n : ℕ) (l : LoopCopy) (e : Edge) → TestIs n l → turns l e ≡ true → enters l e ≡ false
apart n l e is tu =
    let from : e.from ≡ l.test = eqb-true (e.from) (l.test) (and_parts (e.from == l.test) (is_true_end e.way) tu).0 in
    not_enters l e (omega (arith, from, is.test, is.low)) (omega (arith, from, is.test, is.high))

count_by : (l : LoopCopy) (q : List Edge) (n : ℕ) (en tu : Bool) → (tu ≡ true → en ≡ false) → ((m : ℕ) → keeps_from (enters l) (turns l) (limit l) (Some m) q ≡ true → times (turns l) q ≤ m + (limit l) * times (enters l) q) → (if en then keeps_from (enters l) (turns l) (limit l) (Some (limit l)) q else (if tu then after_turn (Some n) (λ m. keeps_from (enters l) (turns l) (limit l) m q) else keeps_from (enters l) (turns l) (limit l) (Some n) q)) ≡ true → (if tu then suc (times (turns l) q) else times (turns l) q) ≤ n + (limit l) * (if en then suc (times (enters l) q) else times (enters l) q)
count_by l q n true true off next k = let bad = off refl in absurd (cc)
count_by l q n true false off next k = omega (arith, next (limit l) k)
count_by l q zero false true off next k = absurd (cc)
count_by l q (suc n) false true off next k = omega (arith, next n k)
count_by l q n false false off next k = next n k

pub turns_under : (i : ℕ) (l : LoopCopy) (q : List Edge) (n : ℕ) → TestIs i l → keeps_from (enters l) (turns l) (limit l) (Some n) q ≡ true → times (turns l) q ≤ n + (limit l) * times (enters l) q
turns_under i l [] n is k = omega arith
turns_under i l (e ∷ q) n is k =
    count_by l q n (enters l e) (turns l e) (apart i l e is) (λ m. turns_under i l q m is) k

-- the turns of a loop copy are at most so many for each edge into it
abbrev pub IsTurnedWithin : List ℕ → Loop → Type 0
IsTurnedWithin js l = edge_count js l.turn ≤ most_turns l * total js l.into

pub each_is_of : (g : List Site) (js : List ℕ) (ls : List LoopCopy) → AllOf (λ l. IsTurnedWithin js (loop_of g l)) ls → (k : ℕ) (l : Loop) → slice_get (map (loop_of g) ls) k ≡ Some l → IsTurnedWithin js l
each_is_of g js [] h k l e = absurd (cc)
each_is_of g js (x ∷ ls) h zero l e = let p : loop_of g x ≡ l = cc in subst (IsTurnedWithin js) p h.0
each_is_of g js (x ∷ ls) h (suc k) l e = each_is_of g js ls h.1 k l e
