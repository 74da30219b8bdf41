-- What the answers of calls say of an item, where the calls were given its plan and its lists by other names.
use Rattle.std.proofs.Common.{◌≡◌, ◌∷◌, ◌++◌, [], ℕ, List, length, sym, ap, ◌∙◌, subst, arith, append-nil, length-append}
use Rattle.flow_graph.specs.Plans.{Planned}
use Rattle.ipet_rows.specs.Sound.{PlanRows}
use Rattle.race_item.specs.declared.region.Region.{Region}
use Rattle.race_item.specs.Regions.{IsFront}
use Rattle.race_item.specs.Items.{IsItem}
use Rattle.race_item.specs.Facts.{IsOutOfConflicts}
use Rattle.item_turn.specs.declared.trial.Trial.{Trial}
use Rattle.item_turn.specs.Trials.{IsTrial, IsGivenUp}

-- the trial of a list of a plan, by their other names
pub tried : (plan plan' : Planned) (q q' : List ℕ) (limit : ℕ) (t t' : Trial) → plan' ≡ plan → q' ≡ q → t ≡ t' → IsTrial plan'.program q' limit t → IsTrial plan.program q limit t'
tried plan plan' q q' limit t t' is_plan is_list is h =
    subst (λ (x : Planned). IsTrial x.program q limit t') is_plan (subst (λ l. IsTrial plan'.program l limit t') is_list (subst (IsTrial plan'.program q' limit) is h))

pub plan_is : (rows : PlanRows) (rows' : PlanRows) (plan : Planned) → plan ≡ rows'.plan → rows' ≡ rows → plan ≡ rows.plan
plan_is rows rows' plan is same = is ∙ ap (λ (s : PlanRows). s.plan) same

-- a list is no longer than itself
no_more : (q more after : List ℕ) (e : ℕ) → q ≡ (q ++ more) ++ (e ∷ after) → ⊥
no_more q more after e is =
    let all = ap length is in
    let both = length-append (q ++ more) (e ∷ after) in
    let front = length-append q more in
    omega (arith, all, both, front)

-- the prefix of an item is a front of it
pub prefix_front : (plan : Planned) (r : Region) → IsItem plan r → IsFront plan.program r r.prefix
prefix_front plan r item = record {
  contiguous = item.contiguous;
  begins = ([], sym (append-nil r.prefix));
  forced = λ more after e is. absurd (no_more r.prefix more after e is);
}

pub given_up : (plan : Planned) (r : Region) (q : List ℕ) (limit : ℕ) → IsFront plan.program r q → IsGivenUp plan.program q limit → IsOutOfConflicts plan r limit
given_up plan r q limit front up =
    record { front = q; is_front = front; worked = up.worked; input_number = up.input_number; zeros_fail = up.zeros_fail }
