-- What a sink was given, piece by piece.
use Rattle.std.proofs.Common.{◌≡◌, ℕ, zero, suc, ◌+◌, ◌≤◌, List, [], ◌∷◌, ◌++◌, length, take, drop, Option, Some, None, Result, Ok, Err, refl, sym, ◌∙◌, ap, subst, arith, length-append}
use Rattle.std.specs.Prelude.{option_map, OnErr}
use Rattle.wc_outside.specs.Growth.{Grew, GrewByPrefix}
use Rattle.std.proofs.lemmas.List.{append_assoc}
use Rattle.wc_outside.proofs.Writing.{Grew-append}

twice : (old : Option (List ℕ)) (a b : List ℕ) → option_map (λ w. w ++ b) (option_map (λ w. w ++ a) old) ≡ option_map (λ w. w ++ (a ++ b)) old
twice None a b = refl
twice (Some w) a b = ap Some (append_assoc w a b)

take_front : (k : ℕ) (b rest : List ℕ) → k ≤ length b → take k (b ++ rest) ≡ take k b
take_front zero b rest h = refl
take_front (suc k) [] rest h = absurd (omega (arith, h))
take_front (suc k) (x ∷ b) rest h = ap (λ l. x ∷ l) (take_front k b rest (omega (arith, h)))

one_more : (n k : ℕ) → suc n + k ≡ suc (n + k)
one_more n k = omega arith

take_behind : (a b : List ℕ) (k : ℕ) → take (length a + k) (a ++ b) ≡ a ++ take k b
take_behind [] b k = ap (λ n. take n b) (omega arith)
take_behind (x ∷ a) b k = ap (λ n. take n (x ∷ (a ++ b))) (one_more (length a) k) ∙ ap (λ l. x ∷ l) (take_behind a b k)

-- a piece and a part of the next one are a part of the whole
pub grew_in_part : (old mid new : Option (List ℕ)) (a b rest : List ℕ) → Grew old mid a → GrewByPrefix mid new b → GrewByPrefix old new (a ++ (b ++ rest))
grew_in_part old mid new a b rest h k = record {
  count = length a + k.count;
  within = omega (arith, k.within, length-append a (b ++ rest), length-append b rest);
  grew = subst (Grew old new) (sym (take_behind a (b ++ rest) k.count ∙ ap (λ l. a ++ l) (take_front k.count b rest k.within))) (Grew-append old mid new a (take k.count b) h k.grew);
}

-- a text is its front, cut anywhere, and its back
pub cut : (n : ℕ) (a text : List ℕ) → n ≤ length text → (front back : List ℕ) → front ≡ take n text → back ≡ drop n text → a ++ (front ++ back) ≡ a ++ text
cut n a text h front back f b = ap (λ l. a ++ l) (λ i. f i ++ b i) ∙ ap (λ l. a ++ l) (take_drop n text)
  where
    take_drop : (n : ℕ) (text : List ℕ) → take n text ++ drop n text ≡ text
    take_drop zero text = refl
    take_drop (suc n) [] = refl
    take_drop (suc n) (x ∷ text) = ap (λ l. x ∷ l) (take_drop n text)

pub on_err : {A E : Type 0} (r : Result A E) (P : Type 0) → P → OnErr r P
on_err (Ok a) P p = tt
on_err (Err e) P p = p
