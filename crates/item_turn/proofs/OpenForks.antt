-- A fork whose stem some input drives splits an item, with children of lower bounds.
use Rattle.std.proofs.Common.{◌≡◌, inl, inr, ⊎_elim, ℕ, List, [], ◌∷◌, ◌++◌, refl, sym, ap, ◌∙◌, subst, append_assoc}
use Rattle.c_tree.specs.Keeping.WellFormed.{WellFormed}
use Rattle.flow_laws.specs.Graphs.{graph, loops}
use Rattle.flow_laws.specs.Driving.{Drives}
use Rattle.flow_laws.specs.Claims.{IsDriven, IsDrivenList}
use Rattle.flow_laws.proofs.Driving.DrivenPrefixes.{driven_front, each_is}
use Rattle.flow_laws.proofs.Caps.KeptListsWithinCaps.{contiguous_capped}
use Rattle.race_item.specs.declared.region.Child.{Child}
use Rattle.race_item.specs.Lists.{SomeOf}
use Rattle.race_item.specs.Regions.{region, Covers, MayGoOn, child_of, children_of}
use Rattle.race_item.specs.Items.{ItemOf, IsItem}
use Rattle.race_item.specs.Facts.{IsPartOf, IsSplit, IsLonger}
use Rattle.race_item.proofs.Forced.{by_an_edge}
use Rattle.race_item.proofs.Forks.{same_front, not_begins, apart, longer_by}
use Rattle.item_turn.specs.Stretches.{IsStretch, PartsAt, AreFork}
use Rattle.item_turn.specs.Steps.{IsChild}

-- the region behind an edge of a stem, with a bound of its own, is a part
part : (item : ItemOf) (stem : List ℕ) (e : ℕ) (c : Child) → WellFormed item.rows.plan.program → IsItem item.rows.plan item.region → IsStretch item.rows.plan.program item.region stem → MayGoOn item.rows.plan.program item.region.cuts stem e → IsDrivenList item.rows.plan.program stem → IsChild item (stem ++ e ∷ []) c → IsPartOf item.rows.plan item.region (region item.region.cuts (stem ++ e ∷ []) c.bound)
part item stem e c formed is stretch may reached child =
    let p = item.rows.plan.program in
    let r = item.region in
    record {
      item = record {
        vector = is.vector;
        contiguous = may.contiguous;
        within_caps = contiguous_capped p (stem ++ e ∷ []) formed may.contiguous ((each_is (loops (graph p)) (stem ++ e ∷ [])).1 may.kept);
        reached = λ before last same. subst (IsDrivenList p) (same_front stem before e last same) reached;
        bounds = λ q driven covers. child.bounds q driven (record { counts_in = covers.counts_in; begins = covers.begins }) (is.bounds q driven (record {
          counts_in = covers.counts_in;
          begins = (stretch.begins.0 ++ (e ∷ covers.begins.0), covers.begins.1 ∙ append_assoc stem (e ∷ []) covers.begins.0 ∙ ap (λ l. l ++ (e ∷ covers.begins.0)) stretch.begins.1 ∙ append_assoc r.prefix stretch.begins.0 (e ∷ covers.begins.0));
        }));
      };
      inside = λ x h. h;
      longer = subst (λ l. IsLonger r.prefix (l ++ e ∷ [])) (sym stretch.begins.1) (longer_by r.prefix stretch.begins.0 e);
      lower = child.lower;
    }

child_is : (item : ItemOf) (q : List ℕ) (c : Child) → IsChild item q c → region item.region.cuts q c.bound ≡ child_of item.region c
child_is item q c child = λ i. region (sym child.cuts i) (sym child.prefix_is i) c.bound

-- a path that begins with the stem goes on by one of the two edges
goes : (item : ItemOf) (stem w : List ℕ) (left right m n : ℕ) → PartsAt item.rows.plan.program item.region stem left right → IsDriven item.rows.plan.program w → Covers item.rows.plan.program item.region w → (rest : List ℕ) → w ≡ stem ++ rest → SomeOf (λ child. Covers item.rows.plan.program child w) (region item.region.cuts (stem ++ left ∷ []) m ∷ region item.region.cuts (stem ++ right ∷ []) n ∷ [])
goes item stem w left right m n parts driven covers rest is =
    let on = by_an_edge item.rows.plan.program item.region stem w left parts.left_may driven covers rest is in
    ⊎_elim
    (λ same. inl (record { counts_in = covers.counts_in; begins = (on.2.0, on.2.1 ∙ ap (λ k. (stem ++ k ∷ []) ++ on.2.0) same) }))
    (λ same. inr (inl (record { counts_in = covers.counts_in; begins = (on.2.0, on.2.1 ∙ ap (λ k. (stem ++ k ∷ []) ++ on.2.0) same) })))
    (parts.others on.0 on.1)

splits : (item : ItemOf) (stem : List ℕ) (left right : ℕ) (c d : Child) → WellFormed item.rows.plan.program → IsItem item.rows.plan item.region → IsStretch item.rows.plan.program item.region stem → PartsAt item.rows.plan.program item.region stem left right → IsDrivenList item.rows.plan.program stem → IsChild item (stem ++ left ∷ []) c → IsChild item (stem ++ right ∷ []) d → IsSplit item.rows.plan item.region (region item.region.cuts (stem ++ left ∷ []) c.bound ∷ region item.region.cuts (stem ++ right ∷ []) d.bound ∷ [])
splits item stem left right c d formed is stretch parts reached one two =
    let p = item.rows.plan.program in
    let r = item.region in
    let other = apart p left right parts.left_is parts.right_is in
    record {
      several = inl refl;
      reached = (reached.0, reached.1, driven_front p reached.0 r.prefix stretch.begins.0 (subst (Drives p reached.0) stretch.begins.1 reached.2));
      parts = (part item stem left c formed is stretch parts.left_may reached one, (part item stem right d formed is stretch parts.right_may reached two, tt));
      apart = (((λ h. not_begins stem h.0 left right other h.1, λ h. not_begins stem h.0 right left (λ same. other (sym same)) h.1), tt), (tt, tt));
      covered = λ q driven covers. let begins = stretch.forced.begins_all q driven covers in goes item stem q left right c.bound d.bound parts driven covers begins.0 begins.1;
    }

pub open_splits : (item : ItemOf) (a b : List ℕ) (c d : Child) → WellFormed item.rows.plan.program → IsItem item.rows.plan item.region → (f : AreFork item.rows.plan.program item.region a b) → IsDrivenList item.rows.plan.program f.stem → IsChild item a c → IsChild item b d → IsSplit item.rows.plan item.region (children_of item.region (c ∷ d ∷ []))
open_splits item a b c d formed is f reached one two =
    let first : IsChild item (f.stem ++ f.left ∷ []) c = subst (λ q. IsChild item q c) f.first one in
    let second : IsChild item (f.stem ++ f.right ∷ []) d = subst (λ q. IsChild item q d) f.second two in
    subst (IsSplit item.rows.plan item.region) (λ i. child_is item (f.stem ++ f.left ∷ []) c first i ∷ child_is item (f.stem ++ f.right ∷ []) d second i ∷ []) (splits item f.stem f.left f.right c d formed is f.stretch f.parts reached first second)
