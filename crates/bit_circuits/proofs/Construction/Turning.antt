-- Signed circuits and shifts, as code takes their steps.
use Rattle.std.proofs.Common.{◌≡◌, ℕ, zero, suc, ◌+◌, ◌-◌, ◌*◌, ◌^◌, ◌<◌, ◌≤◌, ℤ, map, neg_ℤ, List, [], ◌∷◌, ◌++◌, length, get_or, drop, take, replicate, length-append, length-take, length-drop, refl, sym, ap, ◌∙◌, subst, arith}
use Rattle.std.proofs.lemmas.List.{append-nil, drop_all}
use Rattle.bit_circuits.specs.declared.gate.Gate.TheVariants as gates
use Rattle.bit_circuits.specs.declared.netlist.Netlist.{Netlist}
use Rattle.bit_circuits.specs.declared.moving.Move.{Move}
use Rattle.bit_circuits.specs.declared.moving.Move.TheVariants as moves
use Rattle.bit_circuits.specs.Circuits.{Circuit, done, gate, ◌>>=◌}
use Rattle.bit_circuits.specs.Words.{true_literal, falses, top, lower, sum, subtract, negate, choose, negate_if, magnitude, quotient_bits, remainder_bits, quotient_signed, remainder_signed, moved_up, moved_down, stages}
use Rattle.bit_circuits.specs.Moves.{move_of}
use Rattle.bit_circuits.specs.Runs.{next_of, Adds}
use Rattle.bit_circuits.proofs.WordArithmetic.Values.{length-falses, length-lower, length-neg}
use Rattle.bit_circuits.proofs.Construction.Running.{done-adds, then-adds}
use Rattle.bit_circuits.proofs.Circuits.Loops.{at_one}
use Rattle.bit_circuits.proofs.Circuits.Widths.{sum-width, pairwise-width}

negate-width : (xs : List ℤ) (n : ℕ) → length (negate xs n).out ≡ length xs
unfolding negate subtract ◌>>=◌ done
negate-width xs n =
    let f = falses (length xs) in
    let same : length f ≡ length (map neg_ℤ xs) = length-falses (length xs) ∙ sym (length-neg xs) in
    length-lower (length f) (sum true_literal f (map neg_ℤ xs) n).out (sum-width true_literal f (map neg_ℤ xs) n same) ∙ length-falses (length xs)

pub negate-wide : {s t : Netlist} {ls : List ℤ} (xs : List ℤ) → Adds (negate xs) s t ls → length ls ≡ length xs
negate-wide {s} xs a = ap length a.out ∙ negate-width xs (next_of s)

negate_if-width : (c : ℤ) (xs : List ℤ) (n : ℕ) → length (negate_if c xs n).out ≡ length xs
unfolding negate_if choose ◌>>=◌
negate_if-width c xs n = pairwise-width _ (negate xs n).out xs _ (negate-width xs n) ∙ negate-width xs n

pub magnitude-wide : {s t : Netlist} {ls : List ℤ} (xs : List ℤ) → Adds (magnitude xs) s t ls → length ls ≡ length xs
unfolding magnitude
magnitude-wide {s} xs a = ap length a.out ∙ negate_if-width (top xs) xs (next_of s)

pub negate_if-adds : (c : ℤ) (xs ns ms l : List ℤ) (s t u : Netlist) → ms ≡ ns → Adds (negate xs) s t ns → Adds (choose c ms xs) t u l → Adds (negate_if c xs) s u l
unfolding negate_if
negate_if-adds c xs ns ms l s t u e a b = then-adds _ _ s t u ns l a (subst (λ k. Adds (choose c k xs) t u l) e b)

pub magnitude-adds : (z : ℤ) (xs l : List ℤ) (s t : Netlist) → z ≡ top xs → Adds (negate_if z xs) s t l → Adds (magnitude xs) s t l
unfolding magnitude
magnitude-adds z xs l s t e a = subst (λ k. Adds (negate_if k xs) s t l) e a

pub quotient_signed-adds : (xs ds as' bs as2 bs2 q q2 l : List ℤ) (x d c : ℤ) (s s1 s2 s3 s4 s5 : Netlist) → as2 ≡ as' → bs2 ≡ bs → x ≡ top xs → d ≡ top ds → q2 ≡ q
    → Adds (magnitude xs) s s1 as' → Adds (magnitude ds) s1 s2 bs → Adds (quotient_bits as2 bs2) s2 s3 q → Adds (gate (gates.Xor x d)) s3 s4 c → Adds (negate_if c q2) s4 s5 l → Adds (quotient_signed xs ds) s s5 l
unfolding quotient_signed
quotient_signed-adds xs ds as' bs as2 bs2 q q2 l x d c s s1 s2 s3 s4 s5 ea eb ex ed eq a b m g n =
    then-adds _ _ s s1 s5 as' l a (then-adds _ _ s1 s2 s5 bs l b (then-adds _ _ s2 s3 s5 q l (subst (λ k. Adds (quotient_bits as' k) s2 s3 q) eb (subst (λ k. Adds (quotient_bits k bs2) s2 s3 q) ea m))
    (then-adds _ _ s3 s4 s5 c l (subst (λ k. Adds (gate (gates.Xor (top xs) k)) s3 s4 c) ed (subst (λ k. Adds (gate (gates.Xor k d)) s3 s4 c) ex g)) (subst (λ k. Adds (negate_if c k) s4 s5 l) eq n))))

pub remainder_signed-adds : (xs ds as' bs as2 bs2 r r2 l : List ℤ) (x : ℤ) (s s1 s2 s3 s4 : Netlist) → as2 ≡ as' → bs2 ≡ bs → x ≡ top xs → r2 ≡ r
    → Adds (magnitude xs) s s1 as' → Adds (magnitude ds) s1 s2 bs → Adds (remainder_bits as2 bs2) s2 s3 r → Adds (negate_if x r2) s3 s4 l → Adds (remainder_signed xs ds) s s4 l
unfolding remainder_signed
remainder_signed-adds xs ds as' bs as2 bs2 r r2 l x s s1 s2 s3 s4 ea eb ex er a b m n =
    then-adds _ _ s s1 s4 as' l a (then-adds _ _ s1 s2 s4 bs l b (then-adds _ _ s2 s3 s4 r l (subst (λ k. Adds (remainder_bits as' k) s2 s3 r) eb (subst (λ k. Adds (remainder_bits k bs2) s2 s3 r) ea m))
    (subst (λ k. Adds (negate_if (top xs) k) s3 s4 l) er (subst (λ k. Adds (negate_if k r2) s3 s4 l) ex n))))

-- ---- shifts

pub move-wide : (kind : Move) (k : ℕ) (xs : List ℤ) → k ≤ length xs → length (move_of kind k xs) ≡ length xs
move-wide moves.Up k xs h = length-take (length xs) (falses k ++ xs) ∙ omega (arith, length-append (falses k) xs, length-falses k)
move-wide (moves.Down fill) k xs h = length-append (drop k xs) (replicate k fill) ∙ omega (arith, length-drop k xs, copies k fill)
  where
    copies : (k : ℕ) (l : ℤ) → length (replicate k l) ≡ k
    copies zero l = refl
    copies (suc k) l = ap suc (copies k l)

stages-adds : (kind : Move) (k : ℕ) (c : ℤ) (cs xs ms ys l : List ℤ) (s s1 t : Netlist) → ms ≡ move_of kind k xs → Adds (choose c ms xs) s s1 ys → Adds (stages (move_of kind) (2 * k) cs ys) s1 t l → Adds (stages (move_of kind) k (c ∷ cs) xs) s t l
unfolding stages
stages-adds kind k c cs xs ms ys l s s1 t e a r = then-adds _ _ s s1 t ys l (subst (λ m. Adds (choose c m xs) s s1 ys) e a) r

pub stages-more : (Q : Netlist → List ℤ → Type 0) (kind : Move) (k k2 : ℕ) (cs xs ms ys : List ℤ) (i : ℕ) (c : ℤ) (s s1 : Netlist) → i < length cs → c ≡ get_or cs i c → k2 ≡ k * 2 → ms ≡ move_of kind k xs → Adds (choose c ms xs) s s1 ys
    → ((t : Netlist) (l : List ℤ) → Adds (stages (move_of kind) k (drop i cs) xs) s t l → Q t l)
    → (t : Netlist) (l : List ℤ) → Adds (stages (move_of kind) k2 (drop (i + 1) cs) ys) s1 t l → Q t l
stages-more Q kind k k2 cs xs ms ys i c s s1 h ic ek e a whole t l rest =
    let double : k2 ≡ 2 * k = ek ∙ omega arith in
    whole t l (at_one (λ b. stages (move_of kind) k b xs) cs i c s t l h ic
    (stages-adds kind k c (drop (i + 1) cs) xs ms ys l s s1 t e a (subst (λ j. Adds (stages (move_of kind) j (drop (i + 1) cs) ys) s1 t l) double rest)))

pub stages-end : (Q : Netlist → List ℤ → Type 0) (kind : Move) (k : ℕ) (cs xs : List ℤ) (i : ℕ) (s : Netlist) → length cs ≤ i → ((t : Netlist) (l : List ℤ) → Adds (stages (move_of kind) k (drop i cs) xs) s t l → Q t l) → Q s xs
unfolding stages
stages-end Q kind k cs xs i s h whole = whole s xs (subst (λ b. Adds (stages (move_of kind) k b xs) s s xs) (sym (drop_all i cs h)) (done-adds xs s))

pub stages-start : (kind : Move) (cs xs ys l : List ℤ) (s t : Netlist) → ys ≡ xs → Adds (stages (move_of kind) 1 cs ys) s t l → Adds (stages (move_of kind) 1 cs xs) s t l
stages-start kind cs xs ys l s t e a = subst (λ k. Adds (stages (move_of kind) 1 cs k) s t l) e a
