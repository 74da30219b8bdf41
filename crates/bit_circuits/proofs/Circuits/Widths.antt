-- How wide the outcomes of circuits are.
use Rattle.std.proofs.Common.{◌≡◌, ℕ, zero, suc, ◌+◌, ◌-◌, ◌<◌, ◌≤◌, ℤ, List, [], ◌∷◌, ◌++◌, map, neg_ℤ, length, get_or, drop, refl, sym, ap, ◌∙◌, subst, arith}
use Rattle.std.specs.List.{slice_index_or}
use Rattle.std.proofs.lemmas.List.{get_or_default, append-nil, drop_all}
use Rattle.bit_circuits.specs.declared.gate.Gate.{Gate}
use Rattle.bit_circuits.specs.declared.netlist.Netlist.{Netlist}
use Rattle.bit_circuits.specs.Circuits.{Circuit, done, gate, ◌>>=◌}
use Rattle.bit_circuits.specs.Words.{true_literal, false_literal, falses, top, lower, sum, masked_word, each, pairwise, choose, rows, multiply, Divided, divide, any, quotient_bits, remainder_bits}
use Rattle.bit_circuits.specs.Runs.{next_of, Adds}
use Rattle.bit_circuits.proofs.Construction.Running.{done-adds, then-adds}
use Rattle.bit_circuits.proofs.Circuits.Loops.{taken, at_one, one_more}

masked_word-width : (c : ℤ) (xs : List ℤ) (n : ℕ) → length (masked_word c xs n).out ≡ length xs
unfolding masked_word each ◌>>=◌ gate done
masked_word-width c [] n = refl
masked_word-width c (x ∷ xs) n = ap suc (masked_word-width c xs (suc n))

pub sum-width : (c : ℤ) (xs ys : List ℤ) (n : ℕ) → length xs ≡ length ys → length (sum c xs ys n).out ≡ suc (length xs)
unfolding sum ◌>>=◌ gate done
sum-width c [] ys n h = refl
sum-width c (x ∷ xs) [] n h = absurd (omega arith)
sum-width c (x ∷ xs) (y ∷ ys) n h = ap suc (sum-width _ xs ys _ (omega arith))

pub pairwise-width : (g : ℤ → ℤ → Gate) (xs ys : List ℤ) (n : ℕ) → length xs ≡ length ys → length (pairwise g xs ys n).out ≡ length xs
unfolding pairwise ◌>>=◌ gate done
pairwise-width g [] ys n h = refl
pairwise-width g (x ∷ xs) [] n h = absurd (omega arith)
pairwise-width g (x ∷ xs) (y ∷ ys) n h = ap suc (pairwise-width g xs ys _ (omega arith))

pub masked_word-wide : {s t : Netlist} (c : ℤ) {ls : List ℤ} (xs : List ℤ) → Adds (masked_word c xs) s t ls → length ls ≡ length xs
masked_word-wide {s} {t} c {ls} xs a = ap length a.out ∙ masked_word-width c xs (next_of s)

pub sum-wide : {s t : Netlist} (c : ℤ) {ls : List ℤ} (xs ys : List ℤ) → length xs ≡ length ys → Adds (sum c xs ys) s t ls → length ls ≡ suc (length xs)
sum-wide {s} {t} c {ls} xs ys same a = ap length a.out ∙ sum-width c xs ys (next_of s) same

pub choose-wide : {s t : Netlist} (c : ℤ) {ls : List ℤ} (xs ys : List ℤ) → length xs ≡ length ys → Adds (choose c xs ys) s t ls → length ls ≡ length xs
unfolding choose
choose-wide {s} {t} c {ls} xs ys same a = ap length a.out ∙ pairwise-width _ xs ys (next_of s) same

-- ---- rows

rows-adds : (y f z : ℤ) (so xs ys row total ls : List ℤ) (s s1 s2 t : Netlist) → f ≡ false_literal → z ≡ slice_index_or total 0 false_literal → Adds (masked_word y xs) s s1 row → Adds (sum f so row) s1 s2 total
    → Adds (rows (lower (drop 1 total)) (lower xs) ys) s2 t ls → Adds (rows so xs (y ∷ ys)) s t (z ∷ ls)
unfolding rows
rows-adds y f z so xs ys row total ls s s1 s2 t ef ez a b r =
    then-adds _ _ s s1 t row _ a (then-adds _ _ s1 s2 t total _ (subst (λ k. Adds (sum k so row) s1 s2 total) ef b)
    (then-adds _ _ s2 t t ls _ r (subst (λ k. Adds (done (slice_index_or total 0 false_literal ∷ ls)) t t (k ∷ ls)) (sym ez) (done-adds (slice_index_or total 0 false_literal ∷ ls) t))))

pub rows-more : (Q : Netlist → List ℤ → Type 0) (so xs ys row total so2 xs2 out next : List ℤ) (i : ℕ) (y f z : ℤ) (s s1 s2 : Netlist) → i < length ys → y ≡ get_or ys i y → z ≡ slice_index_or total 0 false_literal → f ≡ false_literal
    → Adds (masked_word y xs) s s1 row → Adds (sum f so row) s1 s2 total → so2 ≡ lower (drop 1 total) → xs2 ≡ lower xs → next ≡ out ++ z ∷ []
    → ((t : Netlist) (ls : List ℤ) → Adds (rows so xs (drop i ys)) s t ls → Q t (out ++ ls))
    → (t : Netlist) (ls : List ℤ) → Adds (rows so2 xs2 (drop (i + 1) ys)) s2 t ls → Q t (next ++ ls)
rows-more Q so xs ys row total so2 xs2 out next i y f z s s1 s2 h iy iz ef a b es ex e whole t ls rest =
    let r : Adds (rows (lower (drop 1 total)) (lower xs) (drop (i + 1) ys)) s2 t ls = subst (λ k. Adds (rows k (lower xs) (drop (i + 1) ys)) s2 t ls) es (subst (λ k. Adds (rows so2 k (drop (i + 1) ys)) s2 t ls) ex rest) in
    one_more (Q t) out next ls z e (whole t (z ∷ ls) (at_one (rows so xs) ys i y s t (z ∷ ls) h iy
    (rows-adds y f z so xs (drop (i + 1) ys) row total ls s s1 s2 t ef iz a b r)))

pub rows-end : (Q : Netlist → List ℤ → Type 0) (so xs ys out : List ℤ) (i : ℕ) (s : Netlist) → length ys ≤ i
    → ((t : Netlist) (ls : List ℤ) → Adds (rows so xs (drop i ys)) s t ls → Q t (out ++ ls)) → Q s out
unfolding rows
rows-end Q so xs ys out i s h whole =
    subst (Q s) (append-nil out) (whole s [] (subst (λ l. Adds (rows so xs l) s s []) (sym (drop_all i ys h)) (done-adds [] s)))

pub length-rest : (k : ℕ) (s : List ℤ) → length s ≡ suc k → length (drop 1 s) ≡ k
length-rest k [] h = absurd (omega arith)
length-rest k (l ∷ ls) h = omega arith

pub multiply-adds : (xs ys so out ls : List ℤ) (s t : Netlist) → so ≡ falses (length xs) → out ≡ [] → Adds (rows so xs ys) s t ls → Adds (multiply xs ys) s t (out ++ ls)
unfolding multiply
multiply-adds xs ys so out ls s t e f a = subst (λ o. Adds (rows (falses (length xs)) xs ys) s t (o ++ ls)) (sym f) (subst (λ k. Adds (rows k xs ys) s t ls) e a)

-- ---- quotients

pub divide-none : (ds q r : List ℤ) (s : Netlist) → q ≡ [] → r ≡ falses (length ds) → Adds (divide [] ds) s s (record { quotient = q; remainder = r })
unfolding divide
divide-none ds q r s eq er = subst (λ k. Adds (divide [] ds) s s (record { quotient = k; remainder = r })) (sym eq) (subst (λ k. Adds (divide [] ds) s s (record { quotient = []; remainder = k })) (sym er) (done-adds _ s))

pub divide-adds : (x f z : ℤ) (xs ds others rest total low r0 q0 r q : List ℤ) (s s1 s2 s3 : Netlist) → Adds (divide xs ds) s s1 (record { quotient = q0; remainder = r0 }) → rest ≡ lower (x ∷ r0) → f ≡ true_literal → others ≡ map neg_ℤ ds
    → Adds (sum f rest others) s1 s2 total → z ≡ top total → low ≡ lower total → Adds (choose z low rest) s2 s3 r → q ≡ z ∷ q0 → Adds (divide (x ∷ xs) ds) s s3 (record { quotient = q; remainder = r })
unfolding divide
divide-adds x f z xs ds others rest total low r0 q0 r q s s1 s2 s3 a er ef eo b ez el c eq =
    let b2 : Adds (sum true_literal (lower (x ∷ r0)) (map neg_ℤ ds)) s1 s2 total =
    subst (λ k. Adds (sum true_literal (lower (x ∷ r0)) k) s1 s2 total) eo (subst (λ k. Adds (sum true_literal k others) s1 s2 total) er (subst (λ k. Adds (sum k rest others) s1 s2 total) ef b)) in
    let c2 : Adds (choose (top total) (lower total) (lower (x ∷ r0))) s2 s3 r =
    subst (λ k. Adds (choose (top total) (lower total) k) s2 s3 r) er (subst (λ k. Adds (choose (top total) k rest) s2 s3 r) el (subst (λ k. Adds (choose k low rest) s2 s3 r) ez c)) in
    then-adds _ _ s s1 s3 (record { quotient = q0; remainder = r0 }) _ a (then-adds _ _ s1 s2 s3 total _ b2 (then-adds _ _ s2 s3 s3 r _ c2
    (subst (λ k. Adds {A = Divided} (done {A = Divided} (record { quotient = top total ∷ q0; remainder = r })) s3 s3 (record { quotient = k; remainder = r })) (sym (eq ∙ ap (λ k. k ∷ q0) ez)) (done-adds _ s3))))

pub divide-more : (xs ds others rest total low r0 q0 r q : List ℤ) (i : ℕ) (x f z : ℤ) (s s1 s2 s3 : Netlist) → 0 < i → i ≤ length xs → x ≡ get_or xs (i - 1) x
    → Adds (divide (drop i xs) ds) s s1 (record { quotient = q0; remainder = r0 }) → rest ≡ lower (x ∷ r0) → f ≡ true_literal → others ≡ map neg_ℤ ds
    → Adds (sum f rest others) s1 s2 total → z ≡ top total → low ≡ lower total → Adds (choose z low rest) s2 s3 r → q ≡ z ∷ q0 → Adds (divide (drop (i - 1) xs) ds) s s3 (record { quotient = q; remainder = r })
divide-more xs ds others rest total low r0 q0 r q i x f z s s1 s2 s3 some le ix a er ef eo b ez el c eq =
    let here : drop (i - 1) xs ≡ x ∷ drop (i - 1 + 1) xs = taken xs (i - 1) x (omega arith) ix in
    let back : i - 1 + 1 ≡ i = omega arith in
    subst (λ l. Adds (divide l ds) s s3 (record { quotient = q; remainder = r })) (sym (here ∙ ap (λ k. x ∷ drop k xs) back)) (divide-adds x f z (drop i xs) ds others rest total low r0 q0 r q s s1 s2 s3 a er ef eo b ez el c eq)

pub quotient_bits-adds : (xs ds q r q2 l : List ℤ) (f c : ℤ) (s s1 s2 : Netlist) (s3 : Netlist) → f ≡ false_literal → q2 ≡ q → Adds (divide xs ds) s s1 (record { quotient = q; remainder = r }) → Adds (any f ds) s1 s2 c → Adds (masked_word c q2) s2 s3 l → Adds (quotient_bits xs ds) s s3 l
unfolding quotient_bits
quotient_bits-adds xs ds q r q2 l f c s s1 s2 s3 ef eq a b m =
    then-adds _ _ s s1 s3 (record { quotient = q; remainder = r }) l a (then-adds _ _ s1 s2 s3 c l (subst (λ k. Adds (any k ds) s1 s2 c) ef b) (subst (λ k. Adds (masked_word c k) s2 s3 l) eq m))

pub remainder_bits-adds : (xs ds q r : List ℤ) (s t : Netlist) → Adds (divide xs ds) s t (record { quotient = q; remainder = r }) → Adds (remainder_bits xs ds) s t r
unfolding remainder_bits
remainder_bits-adds xs ds q r s t a = then-adds _ _ s t t (record { quotient = q; remainder = r }) r a (done-adds r t)
