use Rattle.std.proofs.Common.{subst}
use Rattle.sat_search.specs.declared.verdict.Verdict.TheVariants.{Unsat, GaveUp}
use Rattle.sat_search.specs.Verdicts.{IsVerdict}
use Rattle.path_search.proofs.asking.ask.Goals as goal

pub returns-in-Ok-Unsat : goal.returns-in-Ok-Unsat
returns-in-Ok-Unsat c =
    let unsat = c.in-Ok-Unsat in (
      unsat.field-0-0,
      subst (λ f. IsVerdict f c.args.limit (Unsat unsat.field-0-0)) c.cnf.ensures
          (subst (IsVerdict c.cnf.result.now c.args.limit) unsat.field-0-is unsat.ensures.verdict),
    )

pub returns-in-Ok-GaveUp : goal.returns-in-Ok-GaveUp
returns-in-Ok-GaveUp c =
    let gave_up = c.in-Ok-GaveUp in (
      gave_up.field-0-0,
      subst (λ f. IsVerdict f c.args.limit (GaveUp gave_up.field-0-0)) c.cnf.ensures
          (subst (IsVerdict c.cnf.result.now c.args.limit) gave_up.field-0-is gave_up.ensures.verdict),
    )
