use Rattle.std.proofs.Common.{subst, ◌∙◌}
use Rattle.std.proofs.lemmas.List.Elements.{All-more}
use Rattle.cnf_form.specs.Literals.{NamesUpTo}
use Rattle.cnf_form.proofs.Naming.{AreClauses-more}
use Rattle.cnf_form.proofs.cnf.all_name_up_to.Goals as goal

pub loop-clause-preserved : goal.loop-clause-preserved
loop-clause-preserved c =
    let before = c.loop-clause.invariant in
    record {
      each = AreClauses-more c.args.clauses.now c.loop-clause.clause-index c.clause-item.result c.literals.result.now c.loop-clause-test.true c.clause-item.is c.literals.ensures.value before.each c.literals.ensures.clause;
      named = All-more (NamesUpTo c.args.variables) c.args.clauses.now c.loop-clause.clause-index c.clause-item.result c.loop-clause-test.true before.named (subst (NamesUpTo c.args.variables) (c.literals.ensures.value ∙ c.clause-item.is) (c.names_up_to.ensures.0 c.if-not-names_up_to.false));
    }
