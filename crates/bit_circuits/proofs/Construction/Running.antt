-- What code adds to a netlist, step by step.
use Rattle.std.proofs.Common.{◌≡◌, ℕ, zero, suc, ◌+◌, ℤ, pos, List, [], ◌∷◌, ◌++◌, length, append_assoc, append-nil, length-append, refl, sym, ap, ◌∙◌, subst, arith}
use Rattle.bit_circuits.specs.declared.gate.Gate.{Gate}
use Rattle.bit_circuits.specs.declared.netlist.Netlist.{Netlist}
use Rattle.bit_circuits.specs.Circuits.{Wired, Circuit, number_after, done, gate, ◌>>=◌}
use Rattle.bit_circuits.specs.Runs.{next_of, Adds}

pub number_after-length : (n : ℕ) (gs : List Gate) → number_after n gs ≡ n + length gs
number_after-length n [] = omega arith
number_after-length n (g ∷ gs) = number_after-length (suc n) gs ∙ omega arith

pub done-adds : {A : Type 0} (x : A) (s : Netlist) → Adds (done x) s s x
unfolding done
done-adds x s = record { first = refl; out = refl; gates = sym (append-nil s.gates.items) }

pub then-adds : {A B : Type 0} (c : Circuit A) (f : A → Circuit B) (s t u : Netlist) (x : A) (y : B) → Adds c s t x → Adds (f x) t u y → Adds (c >>= f) s u y
unfolding ◌>>=◌
then-adds c f s t u x y a b =
    let n = next_of s in
    let gs = (c n).gates in
    let next : next_of t ≡ number_after n gs = ap (λ k. k + length t.gates.items) a.first ∙ ap (λ l. s.first + length l) a.gates ∙ omega (arith, length-append s.gates.items gs, number_after-length n gs) in
    let same : f x (next_of t) ≡ f (c n).out (number_after n gs) = ap (λ z. f z (next_of t)) a.out ∙ ap (f (c n).out) next in
    record {
      first = b.first ∙ a.first;
      out = b.out ∙ ap (λ w. w.out) same;
      gates = b.gates ∙ ap (λ l. l ++ (f x (next_of t)).gates) a.gates ∙ append_assoc s.gates.items gs (f x (next_of t)).gates ∙ ap (λ w. s.gates.items ++ (gs ++ w.gates)) same;
    }

pub gate-adds : (g : Gate) (s t : Netlist) (l : ℤ) → t.first ≡ s.first → t.gates.items ≡ s.gates.items ++ g ∷ [] → l ≡ pos (next_of s) → Adds (gate g) s t l
unfolding gate
gate-adds g s t l first gates out = record { first = first; out = out; gates = gates }
