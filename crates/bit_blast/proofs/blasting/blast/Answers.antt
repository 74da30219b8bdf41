use Rattle.std.proofs.Common.{◌≡◌, List, ℤ, map, length, Vec, Global, sym, ap, ◌∙◌, subst}
use Rattle.bit_circuits.specs.declared.literal.Literal.{Literal}
use Rattle.bit_blast.proofs.Wiring.{IsWired, wired, variables-are, clauses-are}
use Rattle.bit_blast.proofs.blasting.blast.Goals as goal

pub returns-in-Some-clause-variables : goal.returns-in-Some-clause-variables
returns-in-Some-clause-variables c =
    let items = λ (w : Vec Literal Global). w.items in
    let w = wired c.args.terms.now c.as_slice.result.now (length c.inputs-inputs.result.now) c.without_gates-netlist.result c.terms_bits.new.netlist (map items c.in_ok-words.words.items) (ap length c.inputs-inputs.ensures)
    (c.as_slice.ensures.value ∙ c.in_ok-ops.ensures.value) c.without_gates-netlist.ensures.first c.without_gates-netlist.ensures.gates c.in_ok-words.ensures in
    c.in-Some.ensures.variables ∙ variables-are c.args.terms.now c.terms_bits.new.netlist (map items c.in_ok-words.words.items) c.last_variable.result w c.last_variable.ensures

pub returns-in-Some-clause-clauses : goal.returns-in-Some-clause-clauses
returns-in-Some-clause-clauses c =
    let items = λ (w : Vec Literal Global). w.items in
    let w = wired c.args.terms.now c.as_slice.result.now (length c.inputs-inputs.result.now) c.without_gates-netlist.result c.terms_bits.new.netlist (map items c.in_ok-words.words.items) (ap length c.inputs-inputs.ensures)
    (c.as_slice.ensures.value ∙ c.in_ok-ops.ensures.value) c.without_gates-netlist.ensures.first c.without_gates-netlist.ensures.gates c.in_ok-words.ensures in
    let lent : IsWired c.args.terms.now c.terms_bits.new.netlist (map items c.as_slice-2.result.now) = subst (λ ws. IsWired c.args.terms.now c.terms_bits.new.netlist (map items ws)) (sym c.as_slice-2.ensures.value) w in
    clauses-are c.args.terms.now c.args.conditions.now c.terms_bits.new.netlist (map items c.as_slice-2.result.now) c.in-Some.cnf.clauses lent (c.in-Some.ensures.clauses ∙ c.in_ok-clauses.ensures)
