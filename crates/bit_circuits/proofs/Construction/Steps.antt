-- Circuits of a few steps, as code takes them.
use Rattle.std.proofs.Common.{◌≡◌, ℕ, ◌+◌, ◌-◌, ◌<◌, ◌≤◌, ℤ, neg_ℤ, List, [], ◌∷◌, ◌++◌, map, length, take, Result, Ok, Err, IfOk, refl, sym, ap, ◌∙◌, subst, arith}
use Rattle.bit_circuits.specs.declared.gate.Gate.{Gate}
use Rattle.bit_circuits.specs.declared.gate.Gate.TheVariants as gates
use Rattle.bit_circuits.specs.declared.netlist.Netlist.{Netlist}
use Rattle.bit_circuits.specs.Circuits.{Circuit, done, gate, ◌>>=◌}
use Rattle.bit_circuits.specs.Words.{truth_word, true_literal, false_literal, falses, lower, top_turned, sum, carry, differ, any, pairwise, add, subtract, negate, less, less_signed, equal, choose, if_some}
use Rattle.bit_circuits.specs.Runs.{Adds}
use Rattle.bit_circuits.proofs.Construction.Running.{done-adds, then-adds}
use Rattle.bit_circuits.proofs.Circuits.Parts.{take-lower}

pub ok_more : {X E : Type 0} (P Q : X → Type 0) (r : Result X E) → ((x : X) → P x → Q x) → IfOk r P → IfOk r Q
ok_more P Q (Ok x) f h = f x h
ok_more P Q (Err e) f h = tt

pub adds_same : {A : Type 0} (c d : Circuit A) (s t : Netlist) (x y : A) → c ≡ d → x ≡ y → Adds c s t x → Adds d s t y
adds_same c d s t x y e f a = subst (λ z. Adds d s t z) f (subst (λ z. Adds z s t x) e a)

pub add-adds : (xs ys l next : List ℤ) (f : ℤ) (s t : Netlist) → f ≡ false_literal → next ≡ lower l → Adds (sum f xs ys) s t l → Adds (add xs ys) s t next
unfolding add
add-adds xs ys l next f s t ef en a = then-adds _ _ s t t l next (subst (λ k. Adds (sum k xs ys) s t l) ef a) (adds_same _ _ t t _ _ refl (sym en) (done-adds (lower l) t))

pub subtract-adds : (xs ys zs l next : List ℤ) (f : ℤ) (s t : Netlist) → f ≡ true_literal → zs ≡ map neg_ℤ ys → next ≡ lower l → Adds (sum f xs zs) s t l → Adds (subtract xs ys) s t next
unfolding subtract
subtract-adds xs ys zs l next f s t ef ez en a =
    then-adds _ _ s t t l next (subst (λ k. Adds (sum k xs (map neg_ℤ ys)) s t l) ef (subst (λ k. Adds (sum f xs k) s t l) ez a)) (adds_same _ _ t t _ _ refl (sym en) (done-adds (lower l) t))

pub negate-adds : (xs zs l : List ℤ) (s t : Netlist) → zs ≡ falses (length xs) → Adds (subtract zs xs) s t l → Adds (negate xs) s t l
unfolding negate
negate-adds xs zs l s t ez a = subst (λ k. Adds (subtract k xs) s t l) ez a

pub less-adds : (xs ys zs : List ℤ) (f d z : ℤ) (s t : Netlist) → f ≡ true_literal → zs ≡ map neg_ℤ ys → z ≡ neg_ℤ d → Adds (carry f xs zs) s t d → Adds (less xs ys) s t z
unfolding less
less-adds xs ys zs f d z s t ef ez e a =
    then-adds _ _ s t t d z (subst (λ k. Adds (carry k xs (map neg_ℤ ys)) s t d) ef (subst (λ k. Adds (carry f xs k) s t d) ez a)) (adds_same _ _ t t _ _ refl (sym e) (done-adds (neg_ℤ d) t))

pub less_signed-adds : (xs ys ms ns : List ℤ) (z : ℤ) (s t : Netlist) → ms ≡ top_turned xs → ns ≡ top_turned ys → Adds (less ms ns) s t z → Adds (less_signed xs ys) s t z
unfolding less_signed
less_signed-adds xs ys ms ns z s t em en a = subst (λ k. Adds (less k (top_turned ys)) s t z) em (subst (λ k. Adds (less ms k) s t z) en a)

pub equal-adds : (xs ys : List ℤ) (f d z : ℤ) (s t : Netlist) → f ≡ false_literal → z ≡ neg_ℤ d → Adds (differ f xs ys) s t d → Adds (equal xs ys) s t z
unfolding equal
equal-adds xs ys f d z s t ef e a = then-adds _ _ s t t d z (subst (λ k. Adds (differ k xs ys) s t d) ef a) (adds_same _ _ t t _ _ refl (sym e) (done-adds (neg_ℤ d) t))

pub choose-adds : (c : ℤ) (xs ys l : List ℤ) (s t : Netlist) → Adds (pairwise (λ x y. gates.Choice c x y) xs ys) s t l → Adds (choose c xs ys) s t l
unfolding choose
choose-adds c xs ys l s t a = a

pub if_some-adds : (cs xs ys l : List ℤ) (f c : ℤ) (s t u : Netlist) → f ≡ false_literal → Adds (any f cs) s t c → Adds (choose c xs ys) t u l → Adds (if_some cs xs ys) s u l
unfolding if_some
if_some-adds cs xs ys l f c s t u ef a b = then-adds _ _ s t u c l (subst (λ k. Adds (any k cs) s t c) ef a) b

pub flag-adds : (c : Circuit ℤ) (s t : Netlist) (d : ℤ) (w : List ℤ) → Adds c s t d → w ≡ truth_word 32 d → Adds (c >>= (λ l. done (truth_word 32 l))) s t w
flag-adds c s t d w a e = then-adds c _ s t t d w a (subst (λ k. Adds (done (truth_word 32 d)) t t k) (sym e) (done-adds (truth_word 32 d) t))

pub done-same : (x y : List ℤ) (s : Netlist) → y ≡ x → Adds (done x) s s y
done-same x y s e = subst (λ k. Adds (done x) s s k) (sym e) (done-adds x s)
