-- To where a stretch goes on.
use Rattle.std.proofs.Common.{◌≡◌, ◌≤◌, ◌<◌, ℕ, zero, suc, ◌+◌, ◌*◌, List, [], ◌∷◌, ◌++◌, length, Option, Some, None, true, false, refl, sym, ap, ◌∙◌, subst, arith, append_assoc, append-nil, if◌then◌else◌, All}
use Rattle.std.specs.Prelude.{slice_get, ◌==◌}
use Rattle.std.proofs.lemmas.Bool.{false≢true, eqb-true}
use Rattle.c_tree.specs.declared.program.Program.{Program}
use Rattle.flow_laws.specs.declared.graph.Edge.{Edge}
use Rattle.flow_laws.specs.Graphs.{graph, edges, loops}
use Rattle.flow_laws.specs.Paths.{keeps_each, follows, edge_count, IsPath}
use Rattle.flow_laws.specs.Claims.{IsDriven}
use Rattle.flow_laws.proofs.Driving.DrivenPrefixes.{each_is}
use Rattle.flow_laws.proofs.Driving.BoundsStep.{each_begin}
use Rattle.flow_laws.proofs.Counts.ListsJoined.{counts_join}
use Rattle.flow_graph.specs.Plans.{Planned}
use Rattle.path_walk.specs.declared.next.Next.{Next}
use Rattle.path_walk.specs.declared.next.Next.TheVariants as next
use Rattle.path_walk.specs.Walks.{IsForced, IsDead, IsAnswer}
use Rattle.cond_laws.specs.Weights.{weight, sum_weight, edge_weight}
use Rattle.ipet_rows.specs.Counts.{edge_counts}
use Rattle.race_item.specs.declared.region.Cut.{Cut}
use Rattle.race_item.specs.declared.region.Region.{Region}
use Rattle.race_item.specs.Regions.{Covers, IsFront, IsInBox, upper_limit}
use Rattle.race_item.specs.Facts.{IsRefuted, IsHeavy}
use Rattle.race_item.specs.Forks.{IsWithinLimits, IsRoomBehind}
use Rattle.race_item.proofs.Boxes.{count_within}
use Rattle.race_item.proofs.Fronts.{driven_may}
use Rattle.race_item.proofs.Named.{all_named}
use Rattle.race_item.proofs.Extended.{may_go, may_follow, must_go}
use Rattle.race_item.proofs.Forced.{walk_forced}
use Rattle.item_turn.specs.Stretches.{IsStretch, IsOnFrom, IsOnward, onward_of}
use Rattle.path_walk.proofs.Covers.{step_on}

-- ---- stretches

pub stretch_on : (p : Program) (r : Region) (q room more : List ℕ) → IsStretch p r q → IsRoomBehind p r.cuts q room → IsForced p q room more → IsStretch p r (q ++ more)
stretch_on p r q room more stretch rooms forced = record {
  forced = walk_forced p r q room more stretch.forced rooms forced;
  begins = (stretch.begins.0 ++ more, ap (λ l. l ++ more) stretch.begins.1 ∙ append_assoc r.prefix stretch.begins.0 more);
}

on_front : (p : Program) (r : Region) (room more : List ℕ) → IsStretch p r (r.prefix ++ more) → IsRoomBehind p r.cuts r.prefix room → IsForced p r.prefix room more → IsFront p r (r.prefix ++ more)
on_front p r room more stretch rooms forced =
    record { contiguous = stretch.forced.contiguous; begins = (more, refl); forced = must_go p r room more rooms forced }

pub on_from : (p : Program) (r : Region) (q room more : List ℕ) → IsStretch p r q → IsRoomBehind p r.cuts q room → IsForced p q room more → IsOnFrom p r q (q ++ more)
on_from p r q room more stretch rooms forced =
    let on = stretch_on p r q room more stretch rooms forced in
    record {
      stretch = on;
      front = λ same. subst (λ l. IsFront p r (l ++ more)) (sym same) (on_front p r room more (subst (λ l. IsStretch p r (l ++ more)) same on) (subst (λ l. IsRoomBehind p r.cuts l room) same rooms) (subst (λ l. IsForced p l room more) same forced));
    }

-- ---- where there is no way on

-- a driven path keeps the bounds, and so does each list with which it begins
pub unkept : (plan : Planned) (r : Region) (q : List ℕ) → IsStretch plan.program r q → keeps_each (loops (graph plan.program)) q ≡ false → IsRefuted plan r
unkept plan r q stretch broken w driven covers =
    let p = plan.program in
    let begins = stretch.forced.begins_all w driven covers in
    let kept = (each_is (loops (graph p)) w).0 driven.2.drives.keeps in
    false≢true (sym broken ∙ each_begin (loops (graph p)) q begins.0 (subst (λ l. keeps_each (loops (graph p)) l ≡ true) begins.1 kept))

beyond : (es : List Edge) (e : ℕ) → slice_get es e ≡ None → length es ≤ e
beyond [] e is = omega arith
beyond (d ∷ es) zero is = absurd (cc)
beyond (d ∷ es) (suc e) is = let rest = beyond es e is in omega (arith, rest)

uncounted : (q : List ℕ) (n e : ℕ) → All (λ j. j < n) q → n ≤ e → edge_count q e ≡ 0
uncounted [] n e named le = refl
uncounted (j ∷ q) n e named le =
    let below : j < n = named 0 0 (omega arith) in
    let rest = uncounted q n e (λ k d lt. named (suc k) d (omega arith)) le in
    elim (j == e) as (λ b. (j == e) ≡ b → (if b then suc (edge_count q e) else edge_count q e) ≡ 0) [
      | true ↦ λ same. let is = eqb-true j e same in absurd (omega (arith, below, le, is))
      | false ↦ λ other. rest
    ] refl

limit_at : (p : Program) (cuts : List Cut) (q w rest : List ℕ) (e : ℕ) → follows (edges (graph p)) q ≡ true → IsInBox p cuts (edge_counts p w) → w ≡ q ++ rest → (o : Option Edge) → slice_get (edges (graph p)) e ≡ o → edge_count q e ≤ upper_limit p cuts e
limit_at p cuts q w rest e on inside is None none =
    let zero_times = uncounted q (length (edges (graph p))) e (all_named (edges (graph p)) q on) (beyond (edges (graph p)) e none) in
    omega (arith, zero_times)
limit_at p cuts q w rest e on inside is (Some d) there =
    let most = count_within p cuts w e d inside there in
    let joined = subst (λ l. edge_count l e ≡ edge_count q e + edge_count rest e) (sym is) (counts_join q rest e) in
    omega (arith, most, joined)

pub no_room : (plan : Planned) (r : Region) (q : List ℕ) → IsStretch plan.program r q → ¬ IsWithinLimits plan.program r.cuts q → IsRefuted plan r
no_room plan r q stretch passed w driven covers =
    let begins = stretch.forced.begins_all w driven covers in
    passed (λ e. limit_at plan.program r.cuts q w begins.0 e stretch.forced.contiguous covers.counts_in begins.1 (slice_get (edges (graph plan.program)) e) refl)

no_end : (p : Program) (r : Region) (q room more w : List ℕ) → IsRoomBehind p r.cuts q room → IsDead p q room more → IsDriven p w → Covers p r w → (rest : List ℕ) → w ≡ (q ++ more) ++ rest → ⊥
no_end p r q room more w rooms dead driven covers [] is =
    dead.no_path (subst (IsPath (edges (graph p))) (is ∙ append-nil (q ++ more)) driven.2.path)
no_end p r q room more w rooms dead driven covers (e ∷ rest) is =
    dead.none e (may_follow p r.cuts q room more e rooms (driven_may p r.cuts driven.0 w (q ++ more) rest e driven.2.drives covers.counts_in (is ∙ step_on (q ++ more) e rest)))

pub dead_end : (plan : Planned) (r : Region) (q room more : List ℕ) → IsStretch plan.program r q → IsRoomBehind plan.program r.cuts q room → IsDead plan.program q room more → IsRefuted plan r
dead_end plan r q room more stretch rooms dead w driven covers =
    let begins = (stretch_on plan.program r q room more stretch rooms dead.forced).forced.begins_all w driven covers in
    no_end plan.program r q room more w rooms dead driven covers begins.0 begins.1

-- ---- long lists are heavy

one_weighs : (p : Program) (o : Option Edge) → (d : Edge) × (o ≡ Some d) → 16 ≤ edge_weight p o
one_weighs p None h = absurd (cc)
one_weighs p (Some e) h = omega arith

there : (es : List Edge) (j : ℕ) → j < length es → (d : Edge) × (slice_get es j ≡ Some d)
there [] j lt = absurd (omega (arith, lt))
there (d ∷ es) zero lt = (d, refl)
there (d ∷ es) (suc j) lt = there es j (omega (arith, lt))

edges_weigh : (p : Program) (q : List ℕ) → All (λ e. e < length (edges (graph p))) q → 16 * length q ≤ sum_weight p q
edges_weigh p [] named = omega arith
edges_weigh p (j ∷ q) named =
    let rest = edges_weigh p q (λ k d lt. named (suc k) d (omega arith)) in
    let first = one_weighs p (slice_get (edges (graph p)) j) (there (edges (graph p)) j (named 0 0 (omega arith))) in
    omega (arith, rest, first)

pub long_is_heavy : (p : Program) (q : List ℕ) → follows (edges (graph p)) q ≡ true → 16385 ≤ length q → IsHeavy p q
unfolding weight
long_is_heavy p q on long =
    let all = edges_weigh p q (all_named (edges (graph p)) q on) in
    omega (arith, all, long)

-- ---- the answer

pub onward : (plan : Planned) (r : Region) (q room : List ℕ) (next : Next) → IsStretch plan.program r q → IsRoomBehind plan.program r.cuts q room → IsAnswer plan.program q room next → IsOnward plan r q (onward_of next)
onward plan r q room (next.Dead l) stretch rooms answer = dead_end plan r q room answer.0 stretch rooms answer.2
onward plan r q room (next.Whole l) stretch rooms answer =
    (subst (IsOnFrom plan.program r q) (sym answer.1) (on_from plan.program r q room answer.0 stretch rooms answer.2.forced), subst (IsPath (edges (graph plan.program))) (sym answer.1) answer.2.path)
onward plan r q room (next.Long l) stretch rooms answer =
    let on = on_from plan.program r q room answer.0 stretch rooms answer.2.forced in
    (subst (IsOnFrom plan.program r q) (sym answer.1) on, subst (IsHeavy plan.program) (sym answer.1) (long_is_heavy plan.program (q ++ answer.0) on.stretch.forced.contiguous answer.2.long))
onward plan r q room (next.Fork a b) stretch rooms answer =
    let on = on_from plan.program r q room answer.more stretch rooms answer.fork.forced in (
      record {
        stem = q ++ answer.more;
        left = answer.left;
        right = answer.right;
        first = answer.first;
        second = answer.second;
        stretch = on.stretch;
        parts = record {
          left_may = may_go plan.program r.cuts q room answer.more answer.left rooms answer.fork.left_may;
          left_is = answer.fork.left_is;
          right_may = may_go plan.program r.cuts q room answer.more answer.right rooms answer.fork.right_may;
          right_is = answer.fork.right_is;
          others = λ e may. answer.fork.others e (may_follow plan.program r.cuts q room answer.more e rooms may);
        };
      },
      on,
    )
