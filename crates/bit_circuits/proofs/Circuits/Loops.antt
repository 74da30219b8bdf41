-- Loops over the bits of words: what the rest adds, the whole adds.
use Rattle.std.proofs.Common.{◌≡◌, ℕ, suc, ◌+◌, ◌<◌, ◌≤◌, ℤ, List, [], ◌∷◌, ◌++◌, length, get_or, drop, append_assoc, append-nil, refl, sym, ap, ◌∙◌, subst, arith}
use Rattle.std.proofs.Math.Seq.{drop-cons}
use Rattle.std.proofs.lemmas.List.{drop_all}
use Rattle.bit_circuits.specs.declared.gate.Gate.{Gate}
use Rattle.bit_circuits.specs.declared.gate.Gate.TheVariants as gates
use Rattle.bit_circuits.specs.declared.netlist.Netlist.{Netlist}
use Rattle.bit_circuits.specs.Circuits.{Circuit, done, gate, ◌>>=◌}
use Rattle.bit_circuits.specs.Words.{sum, carry, pairwise, each, masked_word, any, differ}
use Rattle.bit_circuits.specs.Runs.{Adds}
use Rattle.bit_circuits.proofs.Construction.Running.{done-adds, then-adds}

pub taken : (xs : List ℤ) (i : ℕ) (x : ℤ) → i < length xs → x ≡ get_or xs i x → drop i xs ≡ x ∷ drop (i + 1) xs
taken xs i x h is = let e : suc i ≡ i + 1 = omega arith in drop-cons xs i x h ∙ ap (λ y. y ∷ drop (suc i) xs) (sym is) ∙ ap (λ k. x ∷ drop k xs) e

-- a circuit of one word, or of two, at what is left of them
pub at_one : {A : Type 0} (F : List ℤ → Circuit A) (xs : List ℤ) (i : ℕ) (x : ℤ) (s t : Netlist) (y : A) → i < length xs → x ≡ get_or xs i x → Adds (F (x ∷ drop (i + 1) xs)) s t y → Adds (F (drop i xs)) s t y
at_one F xs i x s t y h is a = subst (λ l. Adds (F l) s t y) (sym (taken xs i x h is)) a

pub at_two : {A : Type 0} (F : List ℤ → List ℤ → Circuit A) (xs ys : List ℤ) (i : ℕ) (x y : ℤ) (s t : Netlist) (z : A) → i < length xs → length xs ≡ length ys → x ≡ get_or xs i x → y ≡ get_or ys i y
    → Adds (F (x ∷ drop (i + 1) xs) (y ∷ drop (i + 1) ys)) s t z → Adds (F (drop i xs) (drop i ys)) s t z
at_two F xs ys i x y s t z h same ix iy a =
    subst (λ l. Adds (F l (drop i ys)) s t z) (sym (taken xs i x h ix)) (subst (λ l. Adds (F (x ∷ drop (i + 1) xs) l) s t z) (sym (taken ys i y (omega arith) iy)) a)

-- one bit more of an outcome
pub one_more : (Q : List ℤ → Type 0) (out next ls : List ℤ) (bit : ℤ) → next ≡ out ++ bit ∷ [] → Q (out ++ (bit ∷ ls)) → Q (next ++ ls)
one_more Q out next ls bit e q = subst Q (sym (append_assoc out (bit ∷ []) ls) ∙ ap (λ l. l ++ ls) (sym e)) q

sum-adds : (x y c half bit d : ℤ) (s s1 s2 s3 t : Netlist) (xs ys ls : List ℤ) → Adds (gate (gates.Xor x y)) s s1 half → Adds (gate (gates.Xor half c)) s1 s2 bit → Adds (gate (gates.Majority x y c)) s2 s3 d
    → Adds (sum d xs ys) s3 t ls → Adds (sum c (x ∷ xs) (y ∷ ys)) s t (bit ∷ ls)
unfolding sum
sum-adds x y c half bit d s s1 s2 s3 t xs ys ls a b m r =
    then-adds _ _ s s1 t half _ a (then-adds _ _ s1 s2 t bit _ b (then-adds _ _ s2 s3 t d _ m (then-adds _ _ s3 t t ls _ r (done-adds (bit ∷ ls) t))))

pub sum-more : (Q : Netlist → List ℤ → Type 0) (xs ys out next : List ℤ) (i : ℕ) (x y c half bit d : ℤ) (s s1 s2 s3 : Netlist) → i < length xs → length xs ≡ length ys → x ≡ get_or xs i x → y ≡ get_or ys i y
    → Adds (gate (gates.Xor x y)) s s1 half → Adds (gate (gates.Xor half c)) s1 s2 bit → Adds (gate (gates.Majority x y c)) s2 s3 d → next ≡ out ++ bit ∷ []
    → ((t : Netlist) (ls : List ℤ) → Adds (sum c (drop i xs) (drop i ys)) s t ls → Q t (out ++ ls))
    → (t : Netlist) (ls : List ℤ) → Adds (sum d (drop (i + 1) xs) (drop (i + 1) ys)) s3 t ls → Q t (next ++ ls)
sum-more Q xs ys out next i x y c half bit d s s1 s2 s3 h same ix iy a b m e whole t ls rest =
    one_more (Q t) out next ls bit e (whole t (bit ∷ ls) (at_two (sum c) xs ys i x y s t (bit ∷ ls) h same ix iy (sum-adds x y c half bit d s s1 s2 s3 t (drop (i + 1) xs) (drop (i + 1) ys) ls a b m rest)))

-- nothing is left
pub sum-end : (Q : Netlist → List ℤ → Type 0) (xs ys out next : List ℤ) (i : ℕ) (c : ℤ) (s : Netlist) → length xs ≤ i → length xs ≡ length ys → next ≡ out ++ c ∷ []
    → ((t : Netlist) (ls : List ℤ) → Adds (sum c (drop i xs) (drop i ys)) s t ls → Q t (out ++ ls)) → Q s next
unfolding sum
sum-end Q xs ys out next i c s h same e whole =
    subst (Q s) (sym e) (whole s (c ∷ []) (subst (λ l. Adds (sum c l (drop i ys)) s s (c ∷ [])) (sym (drop_all i xs h)) (done-adds (c ∷ []) s)))

carry-adds : (x y c d z : ℤ) (s s1 t : Netlist) (xs ys : List ℤ) → Adds (gate (gates.Majority x y c)) s s1 d → Adds (carry d xs ys) s1 t z → Adds (carry c (x ∷ xs) (y ∷ ys)) s t z
unfolding carry
carry-adds x y c d z s s1 t xs ys a r = then-adds _ _ s s1 t d _ a r

pub carry-more : (Q : Netlist → ℤ → Type 0) (xs ys : List ℤ) (i : ℕ) (x y c d : ℤ) (s s1 : Netlist) → i < length xs → length xs ≡ length ys → x ≡ get_or xs i x → y ≡ get_or ys i y
    → Adds (gate (gates.Majority x y c)) s s1 d
    → ((t : Netlist) (z : ℤ) → Adds (carry c (drop i xs) (drop i ys)) s t z → Q t z)
    → (t : Netlist) (z : ℤ) → Adds (carry d (drop (i + 1) xs) (drop (i + 1) ys)) s1 t z → Q t z
carry-more Q xs ys i x y c d s s1 h same ix iy a whole t z rest =
    whole t z (at_two (carry c) xs ys i x y s t z h same ix iy (carry-adds x y c d z s s1 t (drop (i + 1) xs) (drop (i + 1) ys) a rest))

pub carry-end : (Q : Netlist → ℤ → Type 0) (xs ys : List ℤ) (i : ℕ) (c : ℤ) (s : Netlist) → length xs ≤ i → ((t : Netlist) (z : ℤ) → Adds (carry c (drop i xs) (drop i ys)) s t z → Q t z) → Q s c
unfolding carry
carry-end Q xs ys i c s h whole = whole s c (subst (λ l. Adds (carry c l (drop i ys)) s s c) (sym (drop_all i xs h)) (done-adds c s))

pairwise-adds : (g : ℤ → ℤ → Gate) (x y bit : ℤ) (s s1 t : Netlist) (xs ys ls : List ℤ) → Adds (gate (g x y)) s s1 bit → Adds (pairwise g xs ys) s1 t ls → Adds (pairwise g (x ∷ xs) (y ∷ ys)) s t (bit ∷ ls)
unfolding pairwise
pairwise-adds g x y bit s s1 t xs ys ls a r = then-adds _ _ s s1 t bit _ a (then-adds _ _ s1 t t ls _ r (done-adds (bit ∷ ls) t))

pub pairwise-more : (Q : Netlist → List ℤ → Type 0) (g : ℤ → ℤ → Gate) (xs ys out next : List ℤ) (i : ℕ) (x y bit : ℤ) (s s1 : Netlist) → i < length xs → length xs ≡ length ys → x ≡ get_or xs i x → y ≡ get_or ys i y
    → Adds (gate (g x y)) s s1 bit → next ≡ out ++ bit ∷ []
    → ((t : Netlist) (ls : List ℤ) → Adds (pairwise g (drop i xs) (drop i ys)) s t ls → Q t (out ++ ls))
    → (t : Netlist) (ls : List ℤ) → Adds (pairwise g (drop (i + 1) xs) (drop (i + 1) ys)) s1 t ls → Q t (next ++ ls)
pairwise-more Q g xs ys out next i x y bit s s1 h same ix iy a e whole t ls rest =
    one_more (Q t) out next ls bit e (whole t (bit ∷ ls) (at_two (pairwise g) xs ys i x y s t (bit ∷ ls) h same ix iy (pairwise-adds g x y bit s s1 t (drop (i + 1) xs) (drop (i + 1) ys) ls a rest)))

pub pairwise-end : (Q : Netlist → List ℤ → Type 0) (g : ℤ → ℤ → Gate) (xs ys out : List ℤ) (i : ℕ) (s : Netlist) → length xs ≤ i
    → ((t : Netlist) (ls : List ℤ) → Adds (pairwise g (drop i xs) (drop i ys)) s t ls → Q t (out ++ ls)) → Q s out
unfolding pairwise
pairwise-end Q g xs ys out i s h whole =
    subst (Q s) (append-nil out) (whole s [] (subst (λ l. Adds (pairwise g l (drop i ys)) s s []) (sym (drop_all i xs h)) (done-adds [] s)))

masked_word-adds : (c x bit : ℤ) (s s1 t : Netlist) (xs ls : List ℤ) → Adds (gate (gates.And c x)) s s1 bit → Adds (masked_word c xs) s1 t ls → Adds (masked_word c (x ∷ xs)) s t (bit ∷ ls)
unfolding masked_word each
masked_word-adds c x bit s s1 t xs ls a r = then-adds _ _ s s1 t bit _ a (then-adds _ _ s1 t t ls _ r (done-adds (bit ∷ ls) t))

pub masked_word-more : (Q : Netlist → List ℤ → Type 0) (c : ℤ) (xs out next : List ℤ) (i : ℕ) (x bit : ℤ) (s s1 : Netlist) → i < length xs → x ≡ get_or xs i x
    → Adds (gate (gates.And c x)) s s1 bit → next ≡ out ++ bit ∷ []
    → ((t : Netlist) (ls : List ℤ) → Adds (masked_word c (drop i xs)) s t ls → Q t (out ++ ls))
    → (t : Netlist) (ls : List ℤ) → Adds (masked_word c (drop (i + 1) xs)) s1 t ls → Q t (next ++ ls)
masked_word-more Q c xs out next i x bit s s1 h ix a e whole t ls rest =
    one_more (Q t) out next ls bit e (whole t (bit ∷ ls) (at_one (masked_word c) xs i x s t (bit ∷ ls) h ix (masked_word-adds c x bit s s1 t (drop (i + 1) xs) ls a rest)))

pub masked_word-end : (Q : Netlist → List ℤ → Type 0) (c : ℤ) (xs out : List ℤ) (i : ℕ) (s : Netlist) → length xs ≤ i
    → ((t : Netlist) (ls : List ℤ) → Adds (masked_word c (drop i xs)) s t ls → Q t (out ++ ls)) → Q s out
unfolding masked_word each
masked_word-end Q c xs out i s h whole =
    subst (Q s) (append-nil out) (whole s [] (subst (λ l. Adds (masked_word c l) s s []) (sym (drop_all i xs h)) (done-adds [] s)))

any-adds : (c x d z : ℤ) (s s1 t : Netlist) (xs : List ℤ) → Adds (gate (gates.Or c x)) s s1 d → Adds (any d xs) s1 t z → Adds (any c (x ∷ xs)) s t z
unfolding any
any-adds c x d z s s1 t xs a r = then-adds _ _ s s1 t d _ a r

pub any-more : (Q : Netlist → ℤ → Type 0) (xs : List ℤ) (i : ℕ) (x c d : ℤ) (s s1 : Netlist) → i < length xs → x ≡ get_or xs i x
    → Adds (gate (gates.Or c x)) s s1 d
    → ((t : Netlist) (z : ℤ) → Adds (any c (drop i xs)) s t z → Q t z)
    → (t : Netlist) (z : ℤ) → Adds (any d (drop (i + 1) xs)) s1 t z → Q t z
any-more Q xs i x c d s s1 h ix a whole t z rest = whole t z (at_one (any c) xs i x s t z h ix (any-adds c x d z s s1 t (drop (i + 1) xs) a rest))

pub any-end : (Q : Netlist → ℤ → Type 0) (xs : List ℤ) (i : ℕ) (c : ℤ) (s : Netlist) → length xs ≤ i → ((t : Netlist) (z : ℤ) → Adds (any c (drop i xs)) s t z → Q t z) → Q s c
unfolding any
any-end Q xs i c s h whole = whole s c (subst (λ l. Adds (any c l) s s c) (sym (drop_all i xs h)) (done-adds c s))

differ-adds : (c x y bit d z : ℤ) (s s1 s2 t : Netlist) (xs ys : List ℤ) → Adds (gate (gates.Xor x y)) s s1 bit → Adds (gate (gates.Or c bit)) s1 s2 d → Adds (differ d xs ys) s2 t z → Adds (differ c (x ∷ xs) (y ∷ ys)) s t z
unfolding differ
differ-adds c x y bit d z s s1 s2 t xs ys a b r = then-adds _ _ s s1 t bit _ a (then-adds _ _ s1 s2 t d _ b r)

pub differ-more : (Q : Netlist → ℤ → Type 0) (xs ys : List ℤ) (i : ℕ) (x y c bit d : ℤ) (s s1 s2 : Netlist) → i < length xs → length xs ≡ length ys → x ≡ get_or xs i x → y ≡ get_or ys i y
    → Adds (gate (gates.Xor x y)) s s1 bit → Adds (gate (gates.Or c bit)) s1 s2 d
    → ((t : Netlist) (z : ℤ) → Adds (differ c (drop i xs) (drop i ys)) s t z → Q t z)
    → (t : Netlist) (z : ℤ) → Adds (differ d (drop (i + 1) xs) (drop (i + 1) ys)) s2 t z → Q t z
differ-more Q xs ys i x y c bit d s s1 s2 h same ix iy a b whole t z rest =
    whole t z (at_two (differ c) xs ys i x y s t z h same ix iy (differ-adds c x y bit d z s s1 s2 t (drop (i + 1) xs) (drop (i + 1) ys) a b rest))

pub differ-end : (Q : Netlist → ℤ → Type 0) (xs ys : List ℤ) (i : ℕ) (c : ℤ) (s : Netlist) → length xs ≤ i → ((t : Netlist) (z : ℤ) → Adds (differ c (drop i xs) (drop i ys)) s t z → Q t z) → Q s c
unfolding differ
differ-end Q xs ys i c s h whole = whole s c (subst (λ l. Adds (differ c l (drop i ys)) s s c) (sym (drop_all i xs h)) (done-adds c s))
