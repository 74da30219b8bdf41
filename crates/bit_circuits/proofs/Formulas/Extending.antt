-- Gates in whose order each names earlier variables hold of one assignment that goes on from a given one.
use Rattle.std.proofs.Common.{◌≡◌, ℕ, zero, suc, ◌+◌, ◌*◌, ◌<◌, ◌≤◌, ℤ, pos, negsuc, Bool, true, false, not, List, [], ◌∷◌, ◌++◌, length, unsigned_abs, length-append, refl, sym, ap, ◌∙◌, subst, arith}
use Rattle.std.specs.List.{slice_index_or}
use Rattle.std.proofs.lemmas.List.{get_or_append_left}
use Rattle.std.proofs.Math.Seq.{get_or-append_seam}
use Rattle.cnf_form.specs.Truth.{literal_true}
use Rattle.bv_term.specs.Words.{flag}
use Rattle.bit_circuits.specs.declared.gate.Gate.{Gate}
use Rattle.bit_circuits.specs.declared.gate.Gate.TheVariants as gates
use Rattle.bit_circuits.specs.Gates.{gate_value, exclusive_or, majority}
use Rattle.bit_circuits.specs.Words.{word_value}
use Rattle.bit_circuits.proofs.Circuits.Building.{IsBelow, Below, operands, Scoped, Holds, IsBelow-later, Below-later}
use Rattle.plain_laws.proofs.Lists.{length-push}

-- the assignment goes on with the value of each gate
pub extended : List Bool → List Gate → List Bool
extended values [] = values
extended values (g ∷ gs) = extended (values ++ gate_value (literal_true values) g ∷ []) gs

literal_true-push : (values more : List Bool) (l : ℤ) → IsBelow (suc (length values)) l → literal_true (values ++ more) l ≡ literal_true values l
literal_true-push values more (pos zero) b = refl
literal_true-push values more (pos (suc n)) b = get_or_append_left values more false n (omega (arith, b.below))
literal_true-push values more (negsuc n) b = ap not (get_or_append_left values more false n (omega (arith, b.below)))

literal_true-last : (values : List Bool) (b : Bool) → literal_true (values ++ b ∷ []) (pos (suc (length values))) ≡ b
literal_true-last values b = get_or-append_seam values b [] false

-- what it says of earlier variables stays
pub extended-same : (values : List Bool) (gs : List Gate) (l : ℤ) → IsBelow (suc (length values)) l → literal_true (extended values gs) l ≡ literal_true values l
unfolding extended
extended-same values [] l b = refl
extended-same values (g ∷ gs) l b =
    let v = gate_value (literal_true values) g in
    extended-same (values ++ v ∷ []) gs l (IsBelow-later (omega (arith, length-push values v)) b) ∙ literal_true-push values (v ∷ []) l b

gate_value-same : (v w : ℤ → Bool) (n : ℕ) (g : Gate) → Below n (operands g) → ((l : ℤ) → IsBelow n l → v l ≡ w l) → gate_value v g ≡ gate_value w g
gate_value-same v w n (gates.And l m) b same = simp (same l b.0, same m b.1.0)
gate_value-same v w n (gates.Or l m) b same = simp (same l b.0, same m b.1.0)
gate_value-same v w n (gates.Xor l m) b same = simp (same l b.0, same m b.1.0)
gate_value-same v w n (gates.Majority l m k) b same = simp (same l b.0, same m b.1.0, same k b.1.1.0)
gate_value-same v w n (gates.Choice c l m) b same = simp (same c b.0, same l b.1.0, same m b.1.1.0)

pub word_value-same : (v w : ℤ → Bool) (n : ℕ) (ls : List ℤ) → Below n ls → ((l : ℤ) → IsBelow n l → v l ≡ w l) → word_value v ls ≡ word_value w ls
word_value-same v w n [] b same = refl
word_value-same v w n (l ∷ ls) b same = ap (λ z. flag z + 2 * word_value v ls) (same l b.0) ∙ ap (λ z. flag (w l) + 2 * z) (word_value-same v w n ls b.1 same)

pub extended-holds : (values : List Bool) (n : ℕ) (gs : List Gate) → n ≡ suc (length values) → Scoped n gs → Holds (literal_true (extended values gs)) n gs
unfolding extended
extended-holds values n [] e s = tt
extended-holds values n (g ∷ gs) e s =
    let v = gate_value (literal_true values) g in
    let next = values ++ v ∷ [] in
    let size : suc (length next) ≡ suc n = ap suc (length-push values v) ∙ ap suc (sym e) in
    let here : IsBelow (suc (length next)) (pos n) = record { some = omega arith; below = omega arith } in
    let own : literal_true (extended next gs) (pos n) ≡ v = extended-same next gs (pos n) here ∙ ap (λ k. literal_true next (pos k)) e ∙ literal_true-last values v in
    let same : gate_value (literal_true (extended next gs)) g ≡ v =
    gate_value-same (literal_true (extended next gs)) (literal_true values) n g s.0 (λ l b. extended-same next gs l (IsBelow-later (omega arith) b) ∙ literal_true-push values (v ∷ []) l (IsBelow-later (omega arith) b)) in
    (own ∙ sym same, extended-holds next (suc n) gs (sym size) s.1)

pub length-extended : (values : List Bool) (gs : List Gate) → length (extended values gs) ≡ length values + length gs
unfolding extended
length-extended values [] = omega arith
length-extended values (g ∷ gs) = length-extended (values ++ gate_value (literal_true values) g ∷ []) gs ∙ ap (λ k. k + length gs) (length-push values (gate_value (literal_true values) g)) ∙ omega arith
