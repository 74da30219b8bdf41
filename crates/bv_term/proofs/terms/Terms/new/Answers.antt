use Rattle.std.proofs.Common.{Bool, List, [], sym, subst, arith}
use Rattle.std.specs.List.{IsDistinct}
use Rattle.bv_term.specs.declared.op.Op.{Op}
use Rattle.bv_term.specs.Stores.{IsStore}
use Rattle.bv_term.proofs.terms.Terms.new.Goals as goal

without_terms : IsStore (record { inputs = []; ops = [] })
unfolding IsDistinct
without_terms = record {
  few_inputs = omega arith;
  few_terms = omega arith;
  fits = tt;
  once = tt;
}

pub invariant_of-result : goal.invariant_of-result
invariant_of-result c =
    subst (λ (l : List Op). IsStore (record { inputs = c.new.result.items; ops = l })) (sym c.new-2.ensures.empty) (subst (λ (l : List Bool). IsStore (record { inputs = l; ops = [] })) (sym c.new.ensures.items) without_terms)
