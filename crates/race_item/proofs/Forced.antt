-- Forced lists: a region's prefix and its fronts are, and a forced list goes on by an edge by which it must, by what its
-- extension takes, and past a fork of which one side covers no driven path.
use Rattle.std.proofs.Common.{◌≡◌, ⊎_elim, ℕ, List, [], ◌∷◌, ◌++◌, refl, sym, ap, ◌∙◌, subst, append_assoc, append-nil, IsTrue}
use Rattle.c_tree.specs.declared.program.Program.{Program}
use Rattle.flow_laws.specs.Graphs.{graph, edges}
use Rattle.flow_laws.specs.Paths.{IsPath}
use Rattle.flow_laws.specs.Claims.{Begins, IsDriven}
use Rattle.flow_graph.specs.Plans.{Planned}
use Rattle.path_walk.specs.Walks.{IsForced}
use Rattle.race_item.specs.declared.region.Region.{Region}
use Rattle.race_item.specs.Regions.{Covers, MayGoOn, MustGoOn, IsFront}
use Rattle.race_item.specs.Items.{IsItem}
use Rattle.race_item.specs.Facts.{IsRefuted}
use Rattle.race_item.specs.Forks.{region_behind, IsRoomBehind}
use Rattle.race_item.specs.Forced.{IsForcedFor, GoesOnByTwo}
use Rattle.race_item.proofs.Fronts.{driven_may, not_at_exit, begins_with_front}
use Rattle.race_item.proofs.Extended.{may_go, may_follow}
use Rattle.path_walk.proofs.Covers.{step_on}

pub prefix_forced : (plan : Planned) (r : Region) → IsItem plan r → IsForcedFor plan.program r r.prefix
prefix_forced plan r item = record { contiguous = item.contiguous; begins_all = λ w driven covers. covers.begins }

pub front_forced : (p : Program) (r : Region) (q : List ℕ) → IsFront p r q → IsForcedFor p r q
front_forced p r q front =
    record { contiguous = front.contiguous; begins_all = λ w driven covers. begins_with_front p r q w front driven covers }

-- a driven path that begins with a list which may go on goes on by an edge that may follow
pub by_an_edge : (p : Program) (r : Region) (q w : List ℕ) (e : ℕ) → MayGoOn p r.cuts q e → IsDriven p w → Covers p r w → (rest : List ℕ) → w ≡ q ++ rest → (d : ℕ) × MayGoOn p r.cuts q d × Begins (q ++ d ∷ []) w
by_an_edge p r q w e may driven covers [] is =
    absurd (not_at_exit p r.cuts q e may (subst (IsPath (edges (graph p))) (is ∙ append-nil q) driven.2.path))
by_an_edge p r q w e may driven covers (d ∷ rest) is =
    let on : w ≡ (q ++ d ∷ []) ++ rest = is ∙ step_on q d rest in
    (d, driven_may p r.cuts driven.0 w q rest d driven.2.drives covers.counts_in on, (rest, on))

same_end : (q w : List ℕ) (d e : ℕ) → d ≡ e → Begins (q ++ d ∷ []) w → Begins (q ++ e ∷ []) w
same_end q w d e same = subst (λ k. Begins (q ++ k ∷ []) w) same

pub must_forced : (p : Program) (r : Region) (q : List ℕ) (e : ℕ) → IsForcedFor p r q → MustGoOn p r.cuts q e → IsForcedFor p r (q ++ e ∷ [])
must_forced p r q e forced must = record {
  contiguous = must.may.contiguous;
  begins_all = λ w driven covers.
      let begins = forced.begins_all w driven covers in
      let on = by_an_edge p r q w e must.may driven covers begins.0 begins.1 in
      same_end q w on.0 e (must.alone on.0 on.1) on.2;
}

-- what the extension of a forced list has taken so far
along : (p : Program) (r : Region) (q room more : List ℕ) → IsRoomBehind p r.cuts q room → IsForced p q room more → (done after : List ℕ) → more ≡ done ++ after → IsForcedFor p r (q ++ done) → IsForcedFor p r (q ++ more)
along p r q room more rooms forced done [] is so_far =
    subst (λ l. IsForcedFor p r (q ++ l)) (sym (is ∙ append-nil done)) so_far
along p r q room more rooms forced done (e ∷ after) is so_far =
    let must = forced done after e is in
    let next = must_forced p r (q ++ done) e so_far (record { may = may_go p r.cuts q room done e rooms must.may; alone = λ other may. must.alone other (may_follow p r.cuts q room done other rooms may) }) in
    along p r q room more rooms forced (done ++ e ∷ []) after (is ∙ step_on done e after) (subst (IsForcedFor p r) (append_assoc q done (e ∷ [])) next)

pub walk_forced : (p : Program) (r : Region) (q room more : List ℕ) → IsForcedFor p r q → IsRoomBehind p r.cuts q room → IsForced p q room more → IsForcedFor p r (q ++ more)
walk_forced p r q room more start rooms forced =
    along p r q room more rooms forced [] more refl (subst (IsForcedFor p r) (sym (append-nil q)) start)

pub past_fork_forced : (plan : Planned) (r : Region) (q : List ℕ) (on other : ℕ) → IsForcedFor plan.program r q → GoesOnByTwo plan.program r.cuts q on other → IsRefuted plan (region_behind r q other) → IsForcedFor plan.program r (q ++ on ∷ [])
past_fork_forced plan r q on other forced two refuted = record {
  contiguous = two.may.contiguous;
  begins_all = λ w driven covers.
      let begins = forced.begins_all w driven covers in
      let next = by_an_edge plan.program r q w on two.may driven covers begins.0 begins.1 in
      ⊎_elim (λ same. same_end q w next.0 on same next.2) (λ same. absurd (refuted w driven (record { counts_in = covers.counts_in; begins = same_end q w next.0 other same next.2 }))) (two.others next.0 next.1);
}
