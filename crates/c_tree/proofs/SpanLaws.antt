-- There is a scale for each block, and a span without calls is the sum of the scales.
use Rattle.std.proofs.Common.{◌≡◌, ℕ, ◌+◌, ◌*◌, Bool, true, false, List, [], ◌∷◌, ◌++◌, length, refl, ap, ◌∙◌, arith, length-append}
use Rattle.std.specs.Prelude.{sum}
use Rattle.std.proofs.lemmas.List.Sums.{sum_by-append}
use Rattle.c_tree.specs.declared.tree.Stmt.{Stmt, Row_of-Stmt, end_of-Stmt, more_of-Stmt, Held-Stmt-For-1, None', Some'}
use Rattle.c_tree.specs.declared.tree.Stmt.TheVariants.{Empty, Scalar, Array, Assign, Call, Break, Continue, Return, If', While', Do', For', Group'}
use Rattle.c_tree.specs.Meaning.Blocks.{is_simple, begun_blocks, blocks, row_blocks, held_blocks}
use Rattle.c_tree.specs.Meaning.Spans.{begun_scale, scales, row_scales, held_scales, begun_span, span, row_span, held_span}

begun_length : (k : ℕ) (run : Bool) → length (begun_scale k run) ≡ begun_blocks run
begun_length k true = refl
begun_length k false = refl

mutual
  unfolding blocks row_blocks held_blocks scales row_scales held_scales

  pub length_scales : (k : ℕ) (st : Stmt) (run : Bool) → length (scales k st run) ≡ blocks st run
  length_scales k Empty run = begun_length k run
  length_scales k (Scalar l e) run = begun_length k run
  length_scales k (Array l es) run = begun_length k run
  length_scales k (Assign p op e) run = begun_length k run
  length_scales k (Call t f es) run = refl
  length_scales k Break run = refl
  length_scales k Continue run = refl
  length_scales k (Return e) run = refl
  length_scales k (If' e a x c y) run =
      omega (arith, length-append (row_scales k x false) (row_scales k y false), length_row k x false, length_row k y false)
  length_scales k (While' b e a x) run = omega (arith, length_row (k * b) x false)
  length_scales k (Do' b a x e) run =
      omega (arith, length-append (row_scales (k * b) x false) (k * b ∷ []), length_row (k * b) x false)
  length_scales k (For' b i e j a x) run =
      omega (arith, length-append (held_scales k i) (k * (b + 1) ∷ (held_scales (k * b) j ++ row_scales (k * b) x false)), length-append (held_scales (k * b) j) (row_scales (k * b) x false), length_held k i, length_held (k * b) j, length_row (k * b) x false)
  length_scales k (Group' a x) run = length_row k x false

  length_row : {m : _} (k : ℕ) (x : Row_of-Stmt m) (run : Bool) → length (row_scales k x run) ≡ row_blocks x run
  length_row k end_of-Stmt run = refl
  length_row k (more_of-Stmt s rest) run =
      omega (arith, length-append (scales k s run) (row_scales k rest (is_simple s)), length_scales k s run, length_row k rest (is_simple s))

  length_held : (k : ℕ) (x : Held-Stmt-For-1) → length (held_scales k x) ≡ held_blocks x
  length_held k None' = refl
  length_held k (Some' a x) = length_row k x false

-- ---- the sum of the scales

begun_total : (k : ℕ) (run : Bool) → begun_span k run ≡ sum (begun_scale k run)
begun_total k true = refl
begun_total k false = omega arith

sum_cons : (x : ℕ) (xs : List ℕ) → sum (x ∷ xs) ≡ x + sum xs
sum_cons x xs = let one : sum (x ∷ []) ≡ x = omega arith in sum_by-append (λ n. n) (x ∷ []) xs ∙ ap (λ n. n + sum xs) one

sum_append : (xs ys : List ℕ) → sum (xs ++ ys) ≡ sum xs + sum ys
sum_append xs ys = sum_by-append (λ n. n) xs ys

if_total : (k p q : ℕ) (xs ys : List ℕ) → p ≡ sum xs → q ≡ sum ys → k + p + q ≡ sum (k ∷ (xs ++ ys))
if_total k p q xs ys hp hq = omega (arith, hp, hq, sum_cons k (xs ++ ys), sum_append xs ys)

while_total : (k p : ℕ) (xs : List ℕ) → p ≡ sum xs → k + p ≡ sum (k ∷ xs)
while_total k p xs hp = omega (arith, hp, sum_cons k xs)

do_total : (k p : ℕ) (xs : List ℕ) → p ≡ sum xs → p + k ≡ sum (xs ++ (k ∷ []))
do_total k p xs hp = omega (arith, hp, sum_append xs (k ∷ []), sum_cons k [])

row_total : (p q : ℕ) (xs ys : List ℕ) → p ≡ sum xs → q ≡ sum ys → p + q ≡ sum (xs ++ ys)
row_total p q xs ys hp hq = omega (arith, hp, hq, sum_append xs ys)

for_total : (k p q r : ℕ) (xs ys zs : List ℕ) → p ≡ sum xs → q ≡ sum ys → r ≡ sum zs → p + k + q + r ≡ sum (xs ++ (k ∷ (ys ++ zs)))
for_total k p q r xs ys zs hp hq hr =
    omega (arith, hp, hq, hr, sum_append xs (k ∷ (ys ++ zs)), sum_cons k (ys ++ zs), sum_append ys zs)

call_total : (k : ℕ) → k + k * 0 ≡ sum (k ∷ [])
call_total k = omega arith

one_total : (k : ℕ) → k ≡ sum (k ∷ [])
one_total k = omega arith

mutual
  unfolding scales row_scales held_scales span row_span held_span

  pub span_without_calls : (k : ℕ) (st : Stmt) (run : Bool) → span [] k st run ≡ sum (scales k st run)
  span_without_calls k Empty run = begun_total k run
  span_without_calls k (Scalar l e) run = begun_total k run
  span_without_calls k (Array l es) run = begun_total k run
  span_without_calls k (Assign p op e) run = begun_total k run
  span_without_calls k (Call t f es) run = call_total k
  span_without_calls k Break run = one_total k
  span_without_calls k Continue run = one_total k
  span_without_calls k (Return e) run = one_total k
  span_without_calls k (If' e a x c y) run =
      if_total k (row_span [] k x false) (row_span [] k y false) (row_scales k x false) (row_scales k y false) (row_without k x false) (row_without k y false)
  span_without_calls k (While' b e a x) run =
      while_total (k * (b + 1)) (row_span [] (k * b) x false) (row_scales (k * b) x false) (row_without (k * b) x false)
  span_without_calls k (Do' b a x e) run =
      do_total (k * b) (row_span [] (k * b) x false) (row_scales (k * b) x false) (row_without (k * b) x false)
  span_without_calls k (For' b i e j a x) run =
      for_total (k * (b + 1)) (held_span [] k i) (held_span [] (k * b) j) (row_span [] (k * b) x false) (held_scales k i) (held_scales (k * b) j) (row_scales (k * b) x false) (held_without k i) (held_without (k * b) j) (row_without (k * b) x false)
  span_without_calls k (Group' a x) run = row_without k x false

  row_without : {m : _} (k : ℕ) (x : Row_of-Stmt m) (run : Bool) → row_span [] k x run ≡ sum (row_scales k x run)
  row_without k end_of-Stmt run = refl
  row_without k (more_of-Stmt s rest) run =
      row_total (span [] k s run) (row_span [] k rest (is_simple s)) (scales k s run) (row_scales k rest (is_simple s)) (span_without_calls k s run) (row_without k rest (is_simple s))

  held_without : (k : ℕ) (x : Held-Stmt-For-1) → held_span [] k x ≡ sum (held_scales k x)
  held_without k None' = refl
  held_without k (Some' a x) = row_without k x false
