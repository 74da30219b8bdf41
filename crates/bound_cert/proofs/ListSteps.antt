-- Lists of numbers that are taken one after another.
use Rattle.std.proofs.Common.{◌≡◌, ℤ, List, [], ◌∷◌, ◌++◌, ap, refl}
use Rattle.std.specs.List.{fold}
use Rattle.lin_rows.specs.Steps.{steps_by}

pub steps-append : (op : ℤ → ℤ → ℤ) (s : ℤ) (ys zs : List ℤ) → steps_by op s (ys ++ zs) ≡ steps_by op s ys ++ steps_by op (fold op s ys) zs
steps-append op s [] zs = refl
steps-append op s (y ∷ ys) zs = ap (λ steps. y ∷ op s y ∷ steps) (steps-append op (op s y) ys zs)

pub fold-append : (op : ℤ → ℤ → ℤ) (s : ℤ) (ys zs : List ℤ) → fold op s (ys ++ zs) ≡ fold op (fold op s ys) zs
fold-append op s [] zs = refl
fold-append op s (y ∷ ys) zs = fold-append op (op s y) ys zs
