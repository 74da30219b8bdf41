-- Sums that stay at the last number, and one step along a list of statements.
use Rattle.std.proofs.Common.{◌≡◌, ℕ, zero, suc, ◌+◌, ◌-◌, ◌^◌, ◌<◌, ◌≤◌, min, Bool, false, List, [], ◌∷◌, ◌++◌, take, length-append, drop, get_or, length, refl, sym, ap, ◌∙◌, arith, add-one, drop-cons, append-nil, append_assoc, length-take}
use Rattle.std.proofs.Math.Seq.{take-append_seam}
use Rattle.c_tree.specs.declared.tree.Stmt.{Stmt}
use Rattle.c_tree.specs.Meaning.Blocks.{is_simple}
use Rattle.graph_lists.specs.declared.sizes.Weights.{Weights}
use Rattle.graph_lists.specs.Amounts.{capped_sum, amount, list_amount, amounts}
use Rattle.c_tree.specs.declared.program.Func.{Func}
use Rattle.plain_laws.proofs.Lists.{drop-read, drop-past}
use Rattle.plain_laws.proofs.Numbers.{min_of_low}

joined : (m a b c : ℕ) → min (min (a + b) m + c) m ≡ min (a + min (b + c) m) m
joined m a b c = omega arith

pub plus_plus : (a b c : ℕ) → capped_sum (capped_sum a b) c ≡ capped_sum a (capped_sum b c)
plus_plus a b c = joined (2 ^ 64 - 1) a b c

again : (m a b : ℕ) → min (0 + min (a + b) m) m ≡ min (a + b) m
again m a b = omega arith

pub list_kept : (v : Weights) (ds : List ℕ) (xs : List Stmt) (run : Bool) → capped_sum 0 (list_amount v ds xs run) ≡ list_amount v ds xs run
list_kept v ds [] run = omega arith
list_kept v ds (x ∷ xs) run = again (2 ^ 64 - 1) (amount v ds x run) (list_amount v ds xs (is_simple x))

pub one_more : (v : Weights) (ds : List ℕ) (xs : List Stmt) (i : ℕ) (x : Stmt) (run next : Bool) (sum one : ℕ) → i < length xs → x ≡ get_or xs i x
    → one ≡ amount v ds x run → next ≡ is_simple x → capped_sum (capped_sum sum one) (list_amount v ds (drop (i + 1) xs) next) ≡ capped_sum sum (list_amount v ds (drop i xs) run)
one_more v ds xs i x run next sum one lt e is simple =
    let rest = list_amount v ds (drop (i + 1) xs) in
    let here : list_amount v ds (drop i xs) run ≡ capped_sum (amount v ds x run) (rest (is_simple x)) = ap (λ ys. list_amount v ds ys run) (drop-read xs i x lt e) in
    plus_plus sum one (rest next) ∙ (λ j. capped_sum sum (capped_sum (is j) (rest (simple j)))) ∙ ap (capped_sum sum) (sym here)

pub at_end : (v : Weights) (ds : List ℕ) (xs : List Stmt) (i sum total : ℕ) (run : Bool) → length xs ≤ i → sum < 2 ^ 64 → capped_sum sum (list_amount v ds (drop i xs) run) ≡ total → sum ≡ total
at_end v ds xs i sum total run h lt e =
    min_of_low (2 ^ 64 - 1) sum (omega (arith, lt)) ∙ sym (ap (λ ys. capped_sum sum (list_amount v ds ys run)) (drop-past xs i h)) ∙ e

-- ---- functions in turn

pub amounts_split : (v : Weights) (ds : List ℕ) (fs : List Func) (n : ℕ) → amounts v ds fs ≡ amounts v (amounts v ds (take n fs)) (drop n fs)
amounts_split v ds [] zero = refl
amounts_split v ds [] (suc n) = refl
amounts_split v ds (f ∷ fs) zero = refl
amounts_split v ds (f ∷ fs) (suc n) = amounts_split v (ds ++ list_amount v ds f.body false ∷ []) fs n

pub amounts_length : (v : Weights) (ds : List ℕ) (fs : List Func) → length (amounts v ds fs) ≡ length ds + length fs
amounts_length v ds [] = omega arith
amounts_length v ds (f ∷ fs) = omega (arith, amounts_length v (ds ++ list_amount v ds f.body false ∷ []) fs, length-append ds (list_amount v ds f.body false ∷ []))

later : Weights → List ℕ → List Func → List ℕ
later v ds [] = []
later v ds (f ∷ fs) = list_amount v ds f.body false ∷ later v (ds ++ list_amount v ds f.body false ∷ []) fs

amounts_more : (v : Weights) (ds : List ℕ) (fs : List Func) → amounts v ds fs ≡ ds ++ later v ds fs
unfolding later
amounts_more v ds [] = sym (append-nil ds)
amounts_more v ds (f ∷ fs) =
    let d = list_amount v ds f.body false in
    amounts_more v (ds ++ d ∷ []) fs ∙ append_assoc ds (d ∷ []) (later v (ds ++ d ∷ []) fs)

pub amounts_take : (v : Weights) (fs : List Func) (n : ℕ) → n < length fs → take n (amounts v [] fs) ≡ amounts v [] (take n fs)
amounts_take v fs n h =
    let ds = amounts v [] (take n fs) in
    let rest = drop n fs in
    let size : n ≡ length ds = omega (arith, h, amounts_length v [] (take n fs), length-take n fs) in
    ap (take n) (amounts_split v [] fs n ∙ amounts_more v ds rest) ∙ ap (λ z. take z (ds ++ later v ds rest)) size ∙ take-append_seam ds (later v ds rest)
