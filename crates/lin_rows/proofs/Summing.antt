-- A number into which others are taken one by one, and that stops where a step leaves i128.
use Rattle.std.proofs.Common.{◌≡◌, ◌↔◌, ℤ, ◌+ℤ◌, ◌-ℤ◌, List, [], ◌∷◌, FitsSigned, refl, sym, ◌∙◌, arith, Option, Some, None}
use lib.IntN.{+ℤ_assoc, +ℤ_idr}
use Rattle.std.specs.Int.{w128}
use Rattle.std.specs.List.{fold}
use Rattle.std.specs.Option.{SomeIff}
use Rattle.std.proofs.lemmas.Int.{ints}
use Rattle.lin_rows.proofs.StepLists.{stays-nil, stays-cons}
use Rattle.lin_rows.specs.Steps.{total, steps_by, StaysInI128}

-- two steps and those after them
pub stays-two : (y z : ℤ) (zs : List ℤ) → StaysInI128 (y ∷ z ∷ zs) ↔ (FitsSigned w128 y × FitsSigned w128 z × StaysInI128 zs)
stays-two y z zs =
    let first = stays-cons y (z ∷ zs) in
    let second = stays-cons z zs in (
      λ h. ((first.0 h).0, (second.0 (first.0 h).1).0, (second.0 (first.0 h).1).1),
      λ h. first.1 (h.0, second.1 (h.1, h.2)),
    )

-- a second step that is made exactly where it fits, after a first one that fits
pub SomeIff-two : (r : Option ℤ) (y z : ℤ) → FitsSigned w128 y → SomeIff r (FitsSigned w128 z) z → SomeIff r (FitsSigned w128 y × FitsSigned w128 z) z
SomeIff-two None y z f h = λ k. h k.1
SomeIff-two (Some x) y z f h = ((f, h.0), h.1)

-- what adding and taking a list one by one come to
pub fold-plus : (s : ℤ) (zs : List ℤ) → fold (λ sum z. sum +ℤ z) s zs ≡ s +ℤ total zs
fold-plus s [] = sym (+ℤ_idr s)
fold-plus s (z ∷ zs) = fold-plus (s +ℤ z) zs ∙ +ℤ_assoc s z (total zs)

pub fold-minus : (r : ℤ) (zs : List ℤ) → fold (λ rest z. rest -ℤ z) r zs ≡ r -ℤ total zs
fold-minus r [] = omega (arith, ints)
fold-minus r (z ∷ zs) = let rest = fold-minus (r -ℤ z) zs in omega (arith, ints)

-- the numbers of `all` are to be taken into `start`: that has come to `sum`, and `rest` is still to be taken
pub record Reached (op : ℤ → ℤ → ℤ) (start : ℤ) (all : List ℤ) (sum : ℤ) (rest : List ℤ) : Type 0 where
  pub fits : FitsSigned w128 sum
  pub stays : StaysInI128 (steps_by op start all) ↔ StaysInI128 (steps_by op sum rest)
  pub whole : fold op start all ≡ fold op sum rest

pub Reached-start : (op : ℤ → ℤ → ℤ) (start : ℤ) (all : List ℤ) → FitsSigned w128 start → Reached op start all start all
Reached-start op start all fits = record { fits = fits; stays = (λ h. h, λ h. h); whole = refl }

-- the next number was taken
pub Reached-next : {op : ℤ → ℤ → ℤ} {start : ℤ} {all : List ℤ} {sum : ℤ} {rest : List ℤ} {z : ℤ} → Reached op start all sum (z ∷ rest) → FitsSigned w128 z × FitsSigned w128 (op sum z) → Reached op start all (op sum z) rest
Reached-next {op} {sum} {rest} {z} r both =
    let step = stays-two z (op sum z) (steps_by op (op sum z) rest) in
    record {
      fits = both.1;
      stays = (λ k. (step.0 (r.stays.0 k)).2, λ k. r.stays.1 (step.1 (both.0, both.1, k)));
      whole = r.whole;
    }

-- the next number cannot be taken
pub Reached-stop : {op : ℤ → ℤ → ℤ} {start : ℤ} {all : List ℤ} {sum : ℤ} {rest : List ℤ} {z : ℤ} → Reached op start all sum (z ∷ rest) → ¬ (FitsSigned w128 z × FitsSigned w128 (op sum z)) → ¬ StaysInI128 (steps_by op start all)
Reached-stop {op} {sum} {rest} {z} r fails k =
    let step = (stays-two z (op sum z) (steps_by op (op sum z) rest)).0 (r.stays.0 k) in
    fails (step.0, step.1)

-- all are taken
pub Reached-all : {op : ℤ → ℤ → ℤ} {start : ℤ} {all : List ℤ} {sum : ℤ} → Reached op start all sum [] → StaysInI128 (steps_by op start all) × (sum ≡ fold op start all)
Reached-all r = (r.stays.1 stays-nil, sym r.whole)
