-- What the trials of an input come to: the fork of a region is one, a split at it is lawful, and a path settles exactly where all is said.
use Rattle.std.proofs.Common.{◌≡◌, ◌≤◌, ◌<◌, ℕ, zero, suc, ◌+◌, ◌-◌, Bool, true, false, List, [], ◌∷◌, ◌++◌, length, take, Option, Some, None, refl, sym, ap, ◌∙◌, subst, arith}
use Rattle.std.specs.Prelude.{slice_get, is_some, IsTrue, IsSomeAnd, ◌&&◌, ◌↔◌, nat_le, MatchOption}
use Rattle.std.specs.List.{list_all}
use Rattle.std.proofs.lemmas.Bool.{false≢true, and_parts, and_from}
use Rattle.std.proofs.lemmas.Bool.Decides.{nat_tests}
use Rattle.c_tree.specs.Keeping.WellFormed.{WellFormed}
use Rattle.c_tree.specs.declared.program.Program.{Program}
use Rattle.c_tree.specs.declared.program.Input.{Input}
use Rattle.flow_laws.specs.Graphs.{graph, edges, loops}
use Rattle.flow_laws.specs.Paths.{follows, keeps_each}
use Rattle.flow_graph.specs.Plans.{Planned}
use Rattle.ipet_rows.specs.Counts.{edge_counts}
use Rattle.path_walk.specs.declared.next.Next.{Next}
use Rattle.path_walk.specs.declared.next.Next.TheVariants.{Fork}
use Rattle.path_walk.specs.Walks.{IsAnswer}
use Rattle.path_walk.proofs.Unique.{one_answer}
use Rattle.race_item.specs.declared.region.Cut.{Cut}
use Rattle.race_item.specs.declared.region.Child.{Child}
use Rattle.race_item.specs.declared.region.Region.{Region}
use Rattle.race_item.specs.Lists.{EachOf}
use Rattle.race_item.specs.Regions.{IsWithin}
use Rattle.race_item.specs.Items.{IsItem}
use Rattle.race_item.specs.Facts.{IsSplit}
use Rattle.race_item.specs.Forks.{IsWithinLimits, IsRoomBehind, ForkOf, SplitsAt, FindsBy, region_behind}
use Rattle.race_item.specs.Trials.{HasNoFork, IsOnlyFork, IsNoFork, IsLightAndDriven, SplitsNowhere, MaySettle, is_within, keeps_cuts}
use Rattle.race_item.proofs.Boxes.{driven_in_box}
use Rattle.race_item.proofs.Forks.{same_front, fork_splits}
use Rattle.race_item.proofs.Extended.{extension_forks, forks_extend}

-- ---- the fork of a region

pub unkept : (p : Program) (r : Region) → keeps_each (loops (graph p)) r.prefix ≡ false → HasNoFork p r
unkept p r broken a b h = false≢true (sym broken ∙ h.fork.kept)

pub without_room : (p : Program) (r : Region) → ¬ IsWithinLimits p r.cuts r.prefix → HasNoFork p r
without_room p r passed a b h = passed h.fork.within

differ : (next : Next) (a b : List ℕ) → IsNoFork next → next ≡ Fork a b → ⊥
differ next a b none is = subst IsNoFork is none

pub no_answer : (p : Program) (r : Region) (room : List ℕ) (next : Next) → IsRoomBehind p r.cuts r.prefix room → IsAnswer p r.prefix room next → IsNoFork next → HasNoFork p r
no_answer p r room next rooms answer none a b h =
    differ next a b none (one_answer p r.prefix room next (Fork a b) answer (forks_extend p r room a b rooms h))

same_first : (a b c d : List ℕ) → Fork c d ≡ Fork a b → c ≡ a
same_first a b c d h = cc

pub only_fork : (p : Program) (r : Region) (room a b : List ℕ) → IsTrue (keeps_each (loops (graph p)) r.prefix) → IsWithinLimits p r.cuts r.prefix → IsRoomBehind p r.cuts r.prefix room → IsAnswer p r.prefix room (Fork a b) → IsOnlyFork p r a b
only_fork p r room a b kept within rooms answer = record {
  fork = extension_forks p r room a b kept within rooms answer;
  only = λ c d h. same_first a b c d (one_answer p r.prefix room (Fork c d) (Fork a b) (forks_extend p r room c d rooms h) answer);
}

pub some_fork : (p : Program) (r : Region) (room : List ℕ) (next : Next) (o : Option (List ℕ × List ℕ)) → IsTrue (keeps_each (loops (graph p)) r.prefix) → IsWithinLimits p r.cuts r.prefix → IsRoomBehind p r.cuts r.prefix room → IsAnswer p r.prefix room next → MatchOption o (IsNoFork next) (λ lists. next ≡ Fork lists.0 lists.1) → MatchOption o (HasNoFork p r) (λ lists. IsOnlyFork p r lists.0 lists.1)
some_fork p r room next None kept within rooms answer none = no_answer p r room next rooms answer none
some_fork p r room next (Some lists) kept within rooms answer is =
    only_fork p r room lists.0 lists.1 kept within rooms (subst (IsAnswer p r.prefix room) is answer)

-- no fork, no split
pub no_split : (p : Program) (r : Region) (input : Input) → HasNoFork p r → SplitsNowhere p r input
no_split p r input none stem left right splits =
    none (stem ++ left ∷ []) (stem ++ right ∷ []) (record { stem = stem; left = left; right = right; first = refl; second = refl; fork = splits.fork })

-- ---- its stem

take_front : (s : List ℕ) (x : ℕ) → take (length (s ++ x ∷ []) - 1) (s ++ x ∷ []) ≡ s
take_front s x = ap (λ n. take n (s ++ x ∷ [])) (let n = length-back s x in omega (arith, n)) ∙ take_all s x
  where
    length-back : (s : List ℕ) (x : ℕ) → length (s ++ x ∷ []) ≡ suc (length s)
    length-back [] x = refl
    length-back (y ∷ s) x = ap suc (length-back s x)

    take_all : (s : List ℕ) (x : ℕ) → take (length s) (s ++ x ∷ []) ≡ s
    take_all [] x = refl
    take_all (y ∷ s) x = ap (λ l. y ∷ l) (take_all s x)

pub stem_is : (a stem : List ℕ) (left : ℕ) → a ≡ stem ++ left ∷ [] → take (length a - 1) a ≡ stem
stem_is a stem left is = ap (λ l. take (length l - 1) l) is ∙ take_front stem left

pub stem_there : (a stem : List ℕ) (left : ℕ) → a ≡ stem ++ left ∷ [] → 1 ≤ length a
stem_there a [] left is = let n : length a ≡ 1 = ap length is in omega (arith, n)
stem_there a (y ∷ stem) left is = let n : length a ≡ suc (length (stem ++ left ∷ [])) = ap length is in omega (arith, n)

pub stem_follows : (p : Program) (r : Region) (a b q : List ℕ) → (h : ForkOf p r a b) → q ≡ h.stem → follows (edges (graph p)) q ≡ true
stem_follows p r a b q h is = subst (λ l. follows (edges (graph p)) l ≡ true) (sym is) h.fork.front.contiguous

pub splits_nowhere : (p : Program) (r : Region) (input : Input) (a b q : List ℕ) → (h : IsOnlyFork p r a b) → q ≡ h.fork.stem → ¬ IsLightAndDriven p q input → SplitsNowhere p r input
splits_nowhere p r input a b q h is not_driven stem left right splits =
    let first = h.only (stem ++ left ∷ []) (stem ++ right ∷ []) (record { stem = stem; left = left; right = right; first = refl; second = refl; fork = splits.fork }) in
    let same : stem ≡ h.fork.stem = same_front stem h.fork.stem left h.fork.left (first ∙ h.fork.first) in
    not_driven (subst (λ l. IsLightAndDriven p l input) (same ∙ sym is) (record { light = splits.light; driven = splits.driven }))

pub splits_at : (p : Program) (r : Region) (input : Input) (a b q : List ℕ) → (h : ForkOf p r a b) → q ≡ h.stem → IsLightAndDriven p q input → SplitsAt p r input h.stem h.left h.right
splits_at p r input a b q h is tried =
    let at : IsLightAndDriven p h.stem input = subst (λ l. IsLightAndDriven p l input) is tried in
    record { fork = h.fork; light = at.light; driven = at.driven }

-- ---- its children

abbrev pub child_by : List Cut → List ℕ → ℕ → Child
child_by cuts prefix bound = record { cuts = cuts; prefix = prefix; bound = bound }

pub two_children : (none one two : List Child) (x y x' y' : Child) → none ≡ [] → one ≡ none ++ x ∷ [] → two ≡ one ++ y ∷ [] → x ≡ x' → y ≡ y' → two ≡ x' ∷ y' ∷ []
two_children none one two x y x' y' is_none is_one is_two is_x is_y =
    is_two ∙ ap (λ (l : List Child). l ++ y ∷ []) (is_one ∙ ap (λ (l : List Child). l ++ x ∷ []) is_none) ∙ (λ i. is_x i ∷ is_y i ∷ [])

-- ---- cuts

at_most : (a b : ℕ) → nat_le a b ≡ true → a ≤ b
at_most a b h = grind (arith, nat_tests)

most_at : (a b : ℕ) → a ≤ b → nat_le a b ≡ true
most_at a b h = grind (arith, nat_tests)

not_most : (a b : ℕ) → b < a → nat_le a b ≡ false
not_most a b h = grind (arith, nat_tests)

-- a count from the lower limit on lies within the cut where it is at most the upper one
pub within_low : (cut : Cut) (m n : ℕ) {o : Option ℕ} → m ≡ n → o ≡ Some n → cut.lo ≤ m → nat_le m cut.hi ≡ is_within cut o
within_low cut m n same is le =
    let low : nat_le cut.lo n ≡ true = most_at cut.lo n (omega (arith, same, le)) in
    ap (λ k. nat_le k cut.hi) same ∙ sym (ap (λ b. b && nat_le n cut.hi) low) ∙ sym (ap (is_within cut) is)

-- and a smaller one does not
pub below_low : (cut : Cut) (m n : ℕ) {o : Option ℕ} → m ≡ n → o ≡ Some n → m < cut.lo → nat_le cut.lo m ≡ is_within cut o
below_low cut m n same is lt =
    let low : nat_le cut.lo n ≡ false = not_most cut.lo n (omega (arith, same, lt)) in
    ap (λ k. nat_le cut.lo k) same ∙ low ∙ sym (ap (λ b. b && nat_le n cut.hi) low) ∙ sym (ap (is_within cut) is)

within_is : (cut : Cut) (o : Option ℕ) → (is_within cut o ≡ true) ↔ IsSomeAnd o (λ n. (cut.lo ≤ n) × (n ≤ cut.hi))
within_is cut None = (λ h. absurd (false≢true h), λ h. absurd h)
within_is cut (Some n) = (
  λ h. let parts = and_parts (nat_le cut.lo n) (nat_le n cut.hi) h in (at_most cut.lo n parts.0, at_most n cut.hi parts.1),
  λ h. and_from (nat_le cut.lo n) (nat_le n cut.hi) (most_at cut.lo n h.0) (most_at n cut.hi h.1),
)

pub cuts_is : (p : Program) (q : List ℕ) (cuts : List Cut) → (keeps_cuts p q cuts ≡ true) ↔ EachOf (IsWithin (edge_counts p q)) cuts
cuts_is p q [] = (λ h. tt, λ h. refl)
cuts_is p q (cut ∷ cuts) = (
  λ h. let parts = and_parts (is_within cut (slice_get (edge_counts p q) cut.edge)) (keeps_cuts p q cuts) h in ((within_is cut (slice_get (edge_counts p q) cut.edge)).0 parts.0, (cuts_is p q cuts).0 parts.1),
  λ h. and_from (is_within cut (slice_get (edge_counts p q) cut.edge)) (keeps_cuts p q cuts) ((within_is cut (slice_get (edge_counts p q) cut.edge)).1 h.0) ((cuts_is p q cuts).1 h.1),
)

pub cuts_at : (plan plan' : Planned) (r : Region) (path : List ℕ) (cuts : List Cut) (kept : Bool) → plan' ≡ plan → cuts ≡ r.cuts → kept ≡ keeps_cuts plan'.program path cuts → (kept ≡ true) ↔ EachOf (IsWithin (edge_counts plan.program path)) r.cuts
cuts_at plan plan' r path cuts kept is_plan is_cuts is =
    let whole : kept ≡ keeps_cuts plan.program path r.cuts = is ∙ (λ i. keeps_cuts (is_plan i).program path (is_cuts i)) in
    let both = cuts_is plan.program path r.cuts in
    (λ h. both.0 (sym whole ∙ h), λ w. whole ∙ both.1 w)

-- ---- a path

pub path_follows : (plan : Planned) (r : Region) (path : List ℕ) → MaySettle plan r path → follows (edges (graph plan.program)) path ≡ true
path_follows plan r path may = ap is_some may.is_path

pub finds_may : (plan : Planned) (r : Region) (path : List ℕ) (input : Input) → FindsBy plan r path input → MaySettle plan r path
finds_may plan r path input finds = record {
  is_path = finds.is_path;
  begins = finds.covered.begins;
  within = finds.covered.counts_in.within;
  dearest = finds.dearest;
}

pub finds_driven : (plan : Planned) (r : Region) (path : List ℕ) (input : Input) → FindsBy plan r path input → IsLightAndDriven plan.program path input
finds_driven plan r path input finds = record { light = finds.light; driven = finds.driven }

pub may_find : (plan : Planned) (r : Region) (path : List ℕ) (input : Input) → WellFormed plan.program → MaySettle plan r path → IsLightAndDriven plan.program path input → FindsBy plan r path input
may_find plan r path input formed may tried = record {
  is_path = may.is_path;
  light = tried.light;
  covered = record {
    counts_in = record {
      caps = (driven_in_box plan.program path formed (input, tried.driven.fitting, record { path = may.is_path; drives = tried.driven.driving })).caps;
      within = may.within;
    };
    begins = may.begins;
  };
  driven = tried.driven;
  dearest = may.dearest;
}
