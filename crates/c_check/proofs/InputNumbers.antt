-- The place of an input number among those of its variable, and behind them.
use Rattle.std.proofs.Common.{◌≡◌, ℕ, ◌-◌, ◌<◌, ◌≤◌, zero, suc, List, [], ◌∷◌, ◌++◌, map, length, replicate, Some, None, refl, ap, ◌∙◌, sym, arith}
use Rattle.std.specs.Prelude.{slice_get}
use Rattle.c_tree.specs.declared.unit.RawTop.{RawTop}
use Rattle.c_tree.specs.declared.unit.RawTop.TheVariants as top
use Rattle.c_tree.specs.Checking.Refusals.{outer_count, outer_inputs}
use Rattle.std.proofs.lemmas.List.{append-nil}

pub among_copies : {A : Type 0} (n : ℕ) (x : A) (ys : List A) (k : ℕ) → k < n → slice_get (replicate n x ++ ys) k ≡ Some x
among_copies zero x ys k h = absurd (omega arith)
among_copies (suc n) x ys zero h = refl
among_copies (suc n) x ys (suc k) h = among_copies n x ys k (omega arith)

pub behind_copies : {A : Type 0} (n : ℕ) (x : A) (ys : List A) (k : ℕ) → n ≤ k → slice_get (replicate n x ++ ys) k ≡ slice_get ys (k - n)
behind_copies zero x ys k h = let e : k ≡ k - 0 = omega arith in ap (slice_get ys) e
behind_copies (suc n) x ys zero h = absurd (omega arith)
behind_copies (suc n) x ys (suc k) h =
    let e : k - n ≡ suc k - suc n = omega arith in behind_copies n x ys k (omega arith) ∙ ap (slice_get ys) e

pub among_mapped : {A B : Type 0} (f : A → B) (xs : List A) (ys : List B) (k : ℕ) (x : A) → slice_get xs k ≡ Some x → slice_get (map f xs ++ ys) k ≡ Some (f x)
among_mapped f [] ys k x h = cc
among_mapped f (y ∷ xs) ys zero x h = let e : y ≡ x = cc in ap (λ z. Some (f z)) e
among_mapped f (y ∷ xs) ys (suc k) x h = among_mapped f xs ys k x h

pub behind_mapped : {A B : Type 0} (f : A → B) (xs : List A) (ys : List B) (k : ℕ) → slice_get xs k ≡ None → slice_get (map f xs ++ ys) k ≡ slice_get ys (k - length xs)
behind_mapped f [] ys k h = let e : k ≡ k - 0 = omega arith in ap (slice_get ys) e
behind_mapped f (x ∷ xs) ys zero h = cc
behind_mapped f (x ∷ xs) ys (suc k) h =
    let e : k - length xs ≡ suc k - suc (length xs) = omega arith in behind_mapped f xs ys k h ∙ ap (slice_get ys) e

-- of a declaration and those behind it
pub outer_inputs-cons : (t : RawTop) (ts : List RawTop) (n at : ℕ) → outer_inputs (t ∷ []) ≡ replicate n at ++ [] → outer_inputs (t ∷ ts) ≡ replicate n at ++ outer_inputs ts
outer_inputs-cons t ts n at h = whole t ∙ ap (λ ns. ns ++ outer_inputs ts) (h ∙ append-nil (replicate n at))
  where
    whole : (u : RawTop) → outer_inputs (u ∷ ts) ≡ outer_inputs (u ∷ []) ++ outer_inputs ts
    whole (top.Outer constant t x e) = ap (λ ns. ns ++ outer_inputs ts) (sym (append-nil (replicate (outer_count e) x.at)))
    whole (top.Global kept constant t x sh) = refl
    whole (top.Func g) = refl

pub ruleset input_numbers = (among_copies, behind_copies, among_mapped, behind_mapped)
