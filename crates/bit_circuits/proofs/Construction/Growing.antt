-- The loop over terms.
use Rattle.std.proofs.Common.{◌≡◌, ℕ, zero, suc, ◌+◌, ◌<◌, ◌≤◌, ℤ, Bool, true, List, [], ◌∷◌, ◌++◌, map, length, get_or, drop, All, IsTrue, length-append, append_assoc, refl, sym, ap, ◌∙◌, subst, arith}
use Rattle.std.proofs.Math.Seq.{drop-cons}
use Rattle.std.proofs.lemmas.List.{drop_all, map-append}
use Rattle.cnf_form.specs.Truth.{literal_true}
use Rattle.bv_term.specs.declared.op.Op.{Op}
use Rattle.bit_circuits.specs.declared.netlist.Netlist.{Netlist}
use Rattle.bit_circuits.specs.Circuits.{Circuit, number_after, done, ◌>>=◌}
use Rattle.bit_circuits.specs.Formula.{first_of, bits_at, op_bits, terms_bits}
use Rattle.bit_circuits.specs.Fitting.{IsOver}
use Rattle.bit_circuits.specs.Runs.{next_of, Adds}
use Rattle.bit_circuits.proofs.Circuits.Building.{Below, IsTruth, le-past}
use Rattle.bit_circuits.proofs.Construction.Running.{number_after-length, done-adds, then-adds}
use Rattle.bit_circuits.proofs.WordArithmetic.Terms.{Words, Words-later, Words-push, Below-bits_at, length-bits_at, op_bits-builds}
use Rattle.bit_circuits.proofs.Formulas.Meaning.{true_literal-of}

-- after a circuit, the next variable
pub next-adds : {A : Type 0} (c : Circuit A) (s t : Netlist) (x : A) → Adds c s t x → next_of t ≡ number_after (next_of s) (c (next_of s)).gates
next-adds c s t x a =
    ap (λ k. k + length t.gates.items) a.first ∙ ap (λ l. s.first + length l) a.gates ∙ omega (arith, length-append s.gates.items (c (next_of s)).gates, number_after-length (next_of s) (c (next_of s)).gates)

-- the word of an operator, behind those so far
pub words-more : (inputs : ℕ) (words : List (List ℤ)) (o : Op) (w : List ℤ) (s t : Netlist) → first_of inputs ≤ next_of s → IsOver inputs o → Words (next_of s) words → Adds (op_bits (bits_at words) o) s t w
    → Words (next_of t) (words ++ w ∷ []) × (first_of inputs ≤ next_of t)
words-more inputs words o w s t le over h a =
    let n = next_of s in
    let b = (op_bits-builds (literal_true []) ⊥ inputs (λ k. 0) n (bits_at words) o (true_literal-of [] ⊥ (λ given. absurd given)) over
    (record { past = le; scope = λ t. Below-bits_at n words t (omega arith) h; wide = λ t. length-bits_at n words t h; reads = λ given. absurd given })).built (λ given. absurd given) in
    let next : next_of t ≡ number_after n (op_bits (bits_at words) o n).gates = next-adds (op_bits (bits_at words) o) s t w a in
    let below : Below (next_of t) w = subst (λ k. Below k w) (sym next) (subst (λ l. Below (number_after n (op_bits (bits_at words) o n).gates) l) (sym a.out) b.1.scope) in
    let wide : length w ≡ 32 = ap length a.out ∙ b.1.wide in
    let up : n ≤ next_of t = omega (arith, next, le-past n (op_bits (bits_at words) o n).gates) in
    (Words-push (next_of t) words w (Words-later n (next_of t) words up h) below wide, omega arith)

terms-adds : (words : List (List ℤ)) (o : Op) (ops : List Op) (w : List ℤ) (out : List (List ℤ)) (s s1 t : Netlist) → Adds (op_bits (bits_at words) o) s s1 w → Adds (terms_bits (words ++ w ∷ []) ops) s1 t out → Adds (terms_bits words (o ∷ ops)) s t out
unfolding terms_bits
terms-adds words o ops w out s s1 t a r = then-adds _ _ s s1 t w out a r

op-taken : (ops : List Op) (i : ℕ) (o d : Op) → i < length ops → o ≡ get_or ops i d → drop i ops ≡ o ∷ drop (i + 1) ops
op-taken ops i o d h is = let e : suc i ≡ i + 1 = omega arith in drop-cons ops i d h ∙ ap (λ y. y ∷ drop (suc i) ops) (sym is) ∙ ap (λ k. o ∷ drop k ops) e

pub terms-more : (Q : Netlist → List (List ℤ) → Type 0) (ops : List Op) (words next : List (List ℤ)) (i : ℕ) (o d : Op) (w : List ℤ) (s s1 : Netlist) → i < length ops → o ≡ get_or ops i d → Adds (op_bits (bits_at words) o) s s1 w → next ≡ words ++ w ∷ []
    → ((t : Netlist) (out : List (List ℤ)) → Adds (terms_bits words (drop i ops)) s t out → Q t out)
    → (t : Netlist) (out : List (List ℤ)) → Adds (terms_bits next (drop (i + 1) ops)) s1 t out → Q t out
terms-more Q ops words next i o d w s s1 h is a e whole t out rest =
    whole t out (subst (λ l. Adds (terms_bits words l) s t out) (sym (op-taken ops i o d h is))
    (terms-adds words o (drop (i + 1) ops) w out s s1 t a (subst (λ l. Adds (terms_bits l (drop (i + 1) ops)) s1 t out) e rest)))

pub terms-end : (Q : Netlist → List (List ℤ) → Type 0) (ops : List Op) (words : List (List ℤ)) (i : ℕ) (s : Netlist) → length ops ≤ i → ((t : Netlist) (out : List (List ℤ)) → Adds (terms_bits words (drop i ops)) s t out → Q t out) → Q s words
unfolding terms_bits
terms-end Q ops words i s h whole = whole s words (subst (λ l. Adds (terms_bits words l) s s words) (sym (drop_all i ops h)) (done-adds words s))
