-- Words: lists of literals, lowest bit first. The literals 1 and -1, of variable 1, are true and false.
use Rattle.std.specs.Prelude.{
  ℕ,
  zero,
  suc,
  ◌+◌,
  ◌*◌,
  ◌/◌,
  ◌%◌,
  ◌==◌,
  ℤ,
  pos,
  negsuc,
  neg_ℤ,
  Bool,
  if◌then◌else◌,
  List,
  [],
  ◌∷◌,
  ◌++◌,
  map,
  length,
  take,
  drop,
  replicate,
}
use Rattle.std.specs.List.{slice_index_or}
use Rattle.bv_term.specs.Words.{flag}
use Rattle.bit_circuits.specs.declared.gate.Gate.{Gate}
use Rattle.bit_circuits.specs.declared.gate.Gate.TheVariants as gates
use Rattle.bit_circuits.specs.Circuits.{Circuit, done, gate, ◌>>=◌}

-- the number that the literals write, where `v` tells which are true
abbrev pub word_value : (ℤ → Bool) → List ℤ → ℕ
word_value v [] = 0
word_value v (l ∷ ls) = flag (v l) + 2 * word_value v ls

abbrev pub true_literal : ℤ
true_literal = pos 1

abbrev pub false_literal : ℤ
false_literal = negsuc 0

abbrev pub falses : ℕ → List ℤ
falses k = replicate k false_literal

-- the lowest k bits of a number
abbrev pub constant_bits : ℕ → ℕ → List ℤ
constant_bits zero n = []
constant_bits (suc k) n = (if n % 2 == 0 then false_literal else true_literal) ∷ constant_bits k (n / 2)

-- a truth value, as a word of k bits
abbrev pub truth_word : ℕ → ℤ → List ℤ
truth_word zero l = []
truth_word (suc k) l = l ∷ falses k

-- the highest bit
abbrev pub top : List ℤ → ℤ
top [] = false_literal
top (l ∷ []) = l
top (l ∷ m ∷ ms) = top (m ∷ ms)

-- the bits but for the highest
abbrev pub lower : List ℤ → List ℤ
lower [] = []
lower (l ∷ []) = []
lower (l ∷ m ∷ ms) = l ∷ lower (m ∷ ms)

-- with the highest bit turned
abbrev pub top_turned : List ℤ → List ℤ
top_turned [] = []
top_turned (l ∷ []) = neg_ℤ l ∷ []
top_turned (l ∷ m ∷ ms) = l ∷ top_turned (m ∷ ms)

-- ---- gates for each bit

unfoldable pub each : (ℤ → Gate) → List ℤ → Circuit (List ℤ)
each g [] = done []
each g (x ∷ xs) = gate (g x) >>= (λ l. each g xs >>= (λ ls. done (l ∷ ls)))

unfoldable pub pairwise : (ℤ → ℤ → Gate) → List ℤ → List ℤ → Circuit (List ℤ)
pairwise g [] ys = done []
pairwise g (x ∷ xs) [] = done []
pairwise g (x ∷ xs) (y ∷ ys) = gate (g x y) >>= (λ l. pairwise g xs ys >>= (λ ls. done (l ∷ ls)))

-- whether `c` or one of the bits is true
unfoldable pub any : ℤ → List ℤ → Circuit ℤ
any c [] = done c
any c (x ∷ xs) = gate (gates.Or c x) >>= (λ d. any d xs)

-- whether `c` is true or the words differ
unfoldable pub differ : ℤ → List ℤ → List ℤ → Circuit ℤ
differ c [] ys = done c
differ c (x ∷ xs) [] = done c
differ c (x ∷ xs) (y ∷ ys) = gate (gates.Xor x y) >>= (λ d. gate (gates.Or c d) >>= (λ e. differ e xs ys))

-- ---- sums

-- the sum of two words of one width and the carry `c`, one bit wider
unfoldable pub sum : ℤ → List ℤ → List ℤ → Circuit (List ℤ)
sum c [] ys = done (c ∷ [])
sum c (x ∷ xs) [] = done (c ∷ [])
sum c (x ∷ xs) (y ∷ ys) =
    gate (gates.Xor x y) >>= (λ h. gate (gates.Xor h c) >>= (λ s. gate (gates.Majority x y c) >>= (λ d.
    sum d xs ys >>= (λ ls. done (s ∷ ls)))))

-- the carry of that sum
unfoldable pub carry : ℤ → List ℤ → List ℤ → Circuit ℤ
carry c [] ys = done c
carry c (x ∷ xs) [] = done c
carry c (x ∷ xs) (y ∷ ys) = gate (gates.Majority x y c) >>= (λ d. carry d xs ys)

unfoldable pub add : List ℤ → List ℤ → Circuit (List ℤ)
add xs ys = sum false_literal xs ys >>= (λ s. done (lower s))

unfoldable pub subtract : List ℤ → List ℤ → Circuit (List ℤ)
subtract xs ys = sum true_literal xs (map neg_ℤ ys) >>= (λ s. done (lower s))

unfoldable pub negate : List ℤ → Circuit (List ℤ)
negate xs = subtract (falses (length xs)) xs

unfoldable pub less : List ℤ → List ℤ → Circuit ℤ
less xs ys = carry true_literal xs (map neg_ℤ ys) >>= (λ d. done (neg_ℤ d))

unfoldable pub less_signed : List ℤ → List ℤ → Circuit ℤ
less_signed xs ys = less (top_turned xs) (top_turned ys)

unfoldable pub equal : List ℤ → List ℤ → Circuit ℤ
equal xs ys = differ false_literal xs ys >>= (λ d. done (neg_ℤ d))

unfoldable pub choose : ℤ → List ℤ → List ℤ → Circuit (List ℤ)
choose c xs ys = pairwise (gates.Choice c) xs ys

-- the second word where the first is not 0, and else the third
unfoldable pub if_some : List ℤ → List ℤ → List ℤ → Circuit (List ℤ)
if_some cs xs ys = any false_literal cs >>= (λ c. choose c xs ys)

-- ---- products

-- the word where `c` is true, and else 0
unfoldable pub masked_word : ℤ → List ℤ → Circuit (List ℤ)
masked_word c xs = each (gates.And c) xs

-- `sum` has what the rows so far left above the bits that are done
unfoldable pub rows : List ℤ → List ℤ → List ℤ → Circuit (List ℤ)
rows so_far xs [] = done []
rows so_far xs (y ∷ ys) =
    masked_word y xs >>= (λ row. sum false_literal so_far row >>= (λ s.
    rows (lower (drop 1 s)) (lower xs) ys >>= (λ ls. done (slice_index_or s 0 false_literal ∷ ls))))

unfoldable pub multiply : List ℤ → List ℤ → Circuit (List ℤ)
multiply xs ys = rows (falses (length xs)) xs ys

-- ---- quotients

pub record Divided : Type 0 where
  pub quotient : List ℤ
  pub remainder : List ℤ

-- the bits of the dividend from the highest on: each goes below the remainder so far, from which the divisor is taken
-- where it fits. (The highest bit of the remainder so far is false, since there are bits of the dividend left.)
unfoldable pub divide : List ℤ → List ℤ → Circuit Divided
divide [] ds = done (record { quotient = []; remainder = falses (length ds) })
divide (x ∷ xs) ds =
    divide xs ds >>= (λ higher. let rest = lower (x ∷ higher.remainder) in
    sum true_literal rest (map neg_ℤ ds) >>= (λ s.
    choose (top s) (lower s) rest >>= (λ remainder_bits.
    done (record { quotient = top s ∷ higher.quotient; remainder = remainder_bits }))))

-- the quotient, which is 0 where the divisor is
unfoldable pub quotient_bits : List ℤ → List ℤ → Circuit (List ℤ)
quotient_bits xs ds = divide xs ds >>= (λ divided. any false_literal ds >>= (λ some. masked_word some divided.quotient))

-- the remainder, which is the dividend where the divisor is 0
unfoldable pub remainder_bits : List ℤ → List ℤ → Circuit (List ℤ)
remainder_bits xs ds = divide xs ds >>= (λ divided. done divided.remainder)

-- 0 less the word where `c` is true
unfoldable pub negate_if : ℤ → List ℤ → Circuit (List ℤ)
negate_if c xs = negate xs >>= (λ negated. choose c negated xs)

unfoldable pub magnitude : List ℤ → Circuit (List ℤ)
magnitude xs = negate_if (top xs) xs

unfoldable pub quotient_signed : List ℤ → List ℤ → Circuit (List ℤ)
quotient_signed xs ds =
    magnitude xs >>= (λ dividend. magnitude ds >>= (λ divisor. quotient_bits dividend divisor >>= (λ q.
    gate (gates.Xor (top xs) (top ds)) >>= (λ c. negate_if c q))))

unfoldable pub remainder_signed : List ℤ → List ℤ → Circuit (List ℤ)
remainder_signed xs ds =
    magnitude xs >>= (λ dividend. magnitude ds >>= (λ divisor. remainder_bits dividend divisor >>=
    (λ r. negate_if (top xs) r)))

-- ---- shifts

abbrev pub moved_up : ℕ → List ℤ → List ℤ
moved_up k xs = take (length xs) (falses k ++ xs)

abbrev pub moved_down : ℤ → ℕ → List ℤ → List ℤ
moved_down fill k xs = drop k xs ++ replicate k fill

-- by the bits of a count, the lowest of which moves by k
unfoldable pub stages : (ℕ → List ℤ → List ℤ) → ℕ → List ℤ → List ℤ → Circuit (List ℤ)
stages move k [] xs = done xs
stages move k (c ∷ cs) xs = choose c (move k xs) xs >>= (λ ys. stages move (2 * k) cs ys)

unfoldable pub shift_up : List ℤ → List ℤ → Circuit (List ℤ)
shift_up xs count = stages moved_up 1 (take 5 count) xs

unfoldable pub shift_down : ℤ → List ℤ → List ℤ → Circuit (List ℤ)
shift_down fill xs count = stages (moved_down fill) 1 (take 5 count) xs
