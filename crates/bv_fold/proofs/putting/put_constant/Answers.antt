use Rattle.bv_fold.specs.Standing.{IsPut}
use Rattle.bv_fold.specs.declared.stand.Stand.TheVariants as stand
use Rattle.bv_term.specs.declared.op.Op.TheVariants as op
use Rattle.bv_fold.proofs.PutTerms.{if_ok, constant_put}
use Rattle.bv_fold.proofs.putting.put_constant.Goals as goal

pub returns-clause-put : goal.returns-clause-put
returns-clause-put c =
    let old = c.args.terms.now in
    let new = c.put_operator.new.terms in
    if_ok (IsPut old new (stand.Operator (op.Const c.args.word))) (IsPut old new (stand.Constant c.args.word)) c.put_operator.result
    c.put_operator.ensures.put (λ t put. constant_put old new c.args.word t put)
