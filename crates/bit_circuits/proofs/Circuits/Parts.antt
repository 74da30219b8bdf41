-- The parts of words, as slices have them.
use Rattle.std.proofs.Common.{◌≡◌, ◌==◌, ℕ, zero, suc, ◌+◌, ◌-◌, ◌*◌, ◌/◌, ◌%◌, ◌<◌, ◌≤◌, ℤ, pos, neg_ℤ, cond, List, [], ◌∷◌, ◌++◌, length, take, get_or, append_assoc, append-nil, refl, sym, ap, ◌∙◌, subst, arith}
use Rattle.bit_circuits.specs.Words.{true_literal, false_literal, falses, constant_bits, top, lower, top_turned}
use Rattle.bit_circuits.specs.Formula.{variables_from}

pub take-lower : (xs : List ℤ) → take (length xs - 1) xs ≡ lower xs
take-lower [] = refl
take-lower (x ∷ []) = refl
take-lower (x ∷ y ∷ ys) = let e : length (x ∷ y ∷ ys) - 1 ≡ suc (length (y ∷ ys) - 1) = omega arith in ap (λ k. take k (x ∷ y ∷ ys)) e ∙ ap (λ l. x ∷ l) (take-lower (y ∷ ys))

pub last-top : (xs : List ℤ) → get_or xs (length xs - 1) false_literal ≡ top xs
last-top [] = refl
last-top (x ∷ []) = refl
last-top (x ∷ y ∷ ys) = let e : length (x ∷ y ∷ ys) - 1 ≡ suc (length (y ∷ ys) - 1) = omega arith in ap (λ k. get_or (x ∷ y ∷ ys) k false_literal) e ∙ last-top (y ∷ ys)

pub turned-parts : (xs : List ℤ) → 0 < length xs → lower xs ++ neg_ℤ (top xs) ∷ [] ≡ top_turned xs
turned-parts [] h = absurd (omega arith)
turned-parts (x ∷ []) h = refl
turned-parts (x ∷ y ∷ ys) h = ap (λ l. x ∷ l) (turned-parts (y ∷ ys) (omega arith))

-- one bit more of a constant, and of an input's variables
pub constant_bits-more : (out next whole : List ℤ) (k j n : ℕ) (bit : ℤ) → next ≡ out ++ bit ∷ [] → k ≡ suc j → bit ≡ cond (n % 2 == 0) false_literal true_literal → out ++ constant_bits k n ≡ whole → next ++ constant_bits j (n / 2) ≡ whole
constant_bits-more out next whole k j n bit e f b all =
    ap (λ l. l ++ constant_bits j (n / 2)) e ∙ append_assoc out (bit ∷ []) (constant_bits j (n / 2)) ∙ ap (λ x. out ++ (x ∷ constant_bits j (n / 2))) b ∙ ap (λ m. out ++ constant_bits m n) (sym f) ∙ all

pub variables-more : (out next whole : List ℤ) (k j n : ℕ) → next ≡ out ++ pos n ∷ [] → k ≡ suc j → out ++ variables_from k n ≡ whole → next ++ variables_from j (n + 1) ≡ whole
variables-more out next whole k j n e f all =
    let s : n + 1 ≡ suc n = omega arith in
    ap (λ l. l ++ variables_from j (n + 1)) e ∙ append_assoc out (pos n ∷ []) (variables_from j (n + 1)) ∙ ap (λ m. out ++ (pos n ∷ variables_from j m)) s ∙ ap (λ m. out ++ variables_from m n) (sym f) ∙ all
