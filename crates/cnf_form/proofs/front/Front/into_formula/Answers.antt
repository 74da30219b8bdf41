use Rattle.std.proofs.Common.{arith}
use Rattle.cnf_form.proofs.front.Front.into_formula.Goals as goal

pub invariant_of-result : goal.invariant_of-result
invariant_of-result c =
    let front = c.requires.keeps.is_front in
    rw c.from_vec.ensures (record { few_variables = front.few_variables; few_clauses = omega (arith, front.within, front.few_clauses); each = front.each; named = front.named })
