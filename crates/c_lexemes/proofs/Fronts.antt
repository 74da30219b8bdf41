-- The longest front of a list that passes a test, and the first byte of a token.
use Rattle.std.proofs.Common.{◌≡◌, ℕ, zero, suc, ◌+◌, ◌<◌, ◌≤◌, Bool, true, false, cond, not, ◌&&◌, ◌||◌, eqb, List, [], ◌∷◌, length, take, refl, sym, arith, one-add, add-one}
use Rattle.std.specs.Prelude.{bytes_eq}
use Rattle.std.specs.List.{list_all, prefix_len}
use Rattle.std.proofs.lemmas.Bool.Decides.{nat_tests}
use Rattle.std.proofs.lemmas.Slice.Eq.{bytes_eq-Decides}
use Rattle.c_tree.specs.Tokens.Characters.{begins, is_blank, is_digit, is_nondigit}
use Rattle.c_tree.specs.Tokens.TokenKinds.{is_among, keywords, marks, continues_number}
use Rattle.c_lexemes.specs.Lengths.{continues, number_length}
use Rattle.std.proofs.lemmas.Bool.{and_parts}

-- ---- the longest front

pub all_front : (p : ℕ → Bool) (xs : List ℕ) → list_all p (take (prefix_len p xs) xs) ≡ true
all_front p [] = refl
all_front p (x ∷ xs) = by_test (all_front p xs) (p x) refl
  where
    by_test : list_all p (take (prefix_len p xs) xs) ≡ true → (b : Bool) → p x ≡ b → list_all p (take (cond b (1 + prefix_len p xs) 0) (x ∷ xs)) ≡ true
    by_test ih true e = rw (one-add, e) ih
    by_test ih false e = refl

pub all_beyond : (p : ℕ → Bool) (xs : List ℕ) (m : ℕ) → prefix_len p xs < m → m ≤ length xs → list_all p (take m xs) ≡ false
all_beyond p [] m more within = absurd (omega arith)
all_beyond p (x ∷ xs) zero more within = absurd (omega arith)
all_beyond p (x ∷ xs) (suc m) more within = by_test (λ h. all_beyond p xs m h (omega arith)) (p x) refl more
  where
    by_test : (prefix_len p xs < m → list_all p (take m xs) ≡ false) → (b : Bool) → p x ≡ b → cond b (1 + prefix_len p xs) 0 < suc m → (p x && list_all p (take m xs)) ≡ false
    by_test ih true e h = rw e (ih (omega arith))
    by_test ih false e h = rw e refl

pub number_front : (last : ℕ) (xs : List ℕ) → continues_number last (take (number_length last xs) xs) ≡ true
unfolding continues_number number_length continues
number_front last [] = refl
number_front last (x ∷ xs) = by_test (number_front x xs) (continues last x) refl
  where
    by_test : continues_number x (take (number_length x xs) xs) ≡ true → (b : Bool) → continues last x ≡ b → continues_number last (take (cond b (number_length x xs + 1) 0) (x ∷ xs)) ≡ true
    by_test ih true e = rw (add-one, e) ih
    by_test ih false e = refl

pub number_beyond : (last : ℕ) (xs : List ℕ) (m : ℕ) → number_length last xs < m → m ≤ length xs → continues_number last (take m xs) ≡ false
unfolding continues_number number_length continues
number_beyond last [] m more within = absurd (omega arith)
number_beyond last (x ∷ xs) zero more within = absurd (omega arith)
number_beyond last (x ∷ xs) (suc m) more within = by_test (λ h. number_beyond x xs m h (omega arith)) (continues last x) refl more
  where
    by_test : (number_length x xs < m → continues_number x (take m xs) ≡ false) → (b : Bool) → continues last x ≡ b → cond b (number_length x xs + 1) 0 < suc m → (continues last x && continues_number x (take m xs)) ≡ false
    by_test ih true e h = rw e (ih (omega arith))
    by_test ih false e h = rw e refl

-- ---- the first byte

pub keywords_begin : list_all (begins is_nondigit) keywords ≡ true
unfolding keywords is_nondigit
keywords_begin = refl
