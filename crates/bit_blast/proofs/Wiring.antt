-- The gates of terms, as code laid them out, give the variables and clauses of the definition.
use Rattle.std.proofs.Common.{◌≡◌, ℕ, ◌+◌, ◌*◌, ◌++◌, ℤ, List, [], ◌∷◌, map, length, sym, ap, ◌∙◌, subst, arith}
use Rattle.bv_term.specs.declared.op.Op.{Op}
use Rattle.bv_term.specs.Stores.{Terms}
use Rattle.bit_circuits.specs.declared.netlist.Netlist.{Netlist}
use Rattle.bit_circuits.specs.Tidy.{tidy_clauses}
use Rattle.bit_circuits.specs.Gates.{gates_clauses}
use Rattle.bit_circuits.specs.Words.{true_literal}
use Rattle.bit_circuits.specs.Formula.{first_of, bits_at, terms_bits, terms_wired, variables_of, clauses_of, VariablesOf, ClausesOf}
use Rattle.bit_circuits.specs.Runs.{next_of, Adds}

pub record IsWired (terms : Terms) (netlist : Netlist) (out : List (List ℤ)) : Type 0 where
  pub first : netlist.first ≡ first_of (length terms.inputs)
  pub gates : netlist.gates.items ≡ (terms_wired (length terms.inputs) terms.ops).gates
  pub words : out ≡ (terms_wired (length terms.inputs) terms.ops).out

pub wired : (terms : Terms) (ops : List Op) (n : ℕ) (old new : Netlist) (words : List (List ℤ)) → n ≡ length terms.inputs → ops ≡ terms.ops → old.first ≡ first_of n → old.gates.items ≡ [] → Adds (terms_bits [] ops) old new words → IsWired terms new words
wired terms ops n old new words n-is ops-is first none a =
    let start : old.first ≡ first_of (length terms.inputs) = first ∙ ap first_of n-is in
    let next : next_of old ≡ first_of (length terms.inputs) = omega (arith, start, ap length none) in
    record {
      first = a.first ∙ start;
      gates = a.gates ∙ ap (λ l. l ++ (terms_bits [] ops (next_of old)).gates) none ∙ ap (λ k. (terms_bits [] ops k).gates) next ∙ ap (λ o. (terms_bits [] o (first_of (length terms.inputs))).gates) ops-is;
      words = a.out ∙ ap (λ k. (terms_bits [] ops k).out) next ∙ ap (λ o. (terms_bits [] o (first_of (length terms.inputs))).out) ops-is;
    }

pub variables-are : (terms : Terms) (netlist : Netlist) (words : List (List ℤ)) (k : ℕ) → IsWired terms netlist words → k + 1 ≡ next_of netlist → k ≡ VariablesOf terms
unfolding variables_of
variables-are terms netlist words k w e = omega (arith, e, w.first, ap length w.gates)

pub clauses-are : (terms : Terms) (conditions : List ℕ) (netlist : Netlist) (words clauses : List (List ℤ)) → IsWired terms netlist words
    → clauses ≡ (true_literal ∷ []) ∷ (gates_clauses netlist.first netlist.gates.items ++ tidy_clauses (map (bits_at words) conditions)) → clauses ≡ ClausesOf terms conditions
unfolding clauses_of
clauses-are terms conditions netlist words clauses w e =
    e
    ∙ ap (λ k. (true_literal ∷ []) ∷ (gates_clauses k netlist.gates.items ++ tidy_clauses (map (bits_at words) conditions))) w.first
    ∙ ap (λ gs. (true_literal ∷ []) ∷ (gates_clauses (first_of (length terms.inputs)) gs ++ tidy_clauses (map (bits_at words) conditions))) w.gates
    ∙ ap (λ ws. (true_literal ∷ []) ∷ (gates_clauses (first_of (length terms.inputs)) (terms_wired (length terms.inputs) terms.ops).gates ++ tidy_clauses (map (bits_at ws) conditions))) w.words
