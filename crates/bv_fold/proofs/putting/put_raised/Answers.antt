use Rattle.bv_fold.specs.Standing.{IsPut}
use Rattle.bv_fold.specs.declared.stand.Stand.TheVariants as stand
use Rattle.bv_term.specs.declared.op.Op.TheVariants as op
use Rattle.bv_fold.proofs.Extended.{extended_again}
use Rattle.bv_fold.proofs.PutTerms.{if_ok, raised_put}
use Rattle.bv_fold.proofs.putting.put_raised.Goals as goal

pub returns-clause-kept : goal.returns-clause-kept
returns-clause-kept c =
    extended_again c.args.terms.now c.put_constant.new.terms c.put_operator.new.terms c.put_constant.ensures.kept c.put_operator.ensures.kept

pub returns-clause-put : goal.returns-clause-put
returns-clause-put c =
    let old = c.args.terms.now in
    let mid = c.put_constant.new.terms in
    let new = c.put_operator.new.terms in
    let constant = c.in_ok-constant.constant in
    if_ok (IsPut mid new (stand.Operator (op.Shl c.args.term constant))) (IsPut old new (stand.Raised c.args.term c.args.count)) c.put_operator.result
    c.put_operator.ensures.put
    (λ r put. raised_put old mid new c.args.term constant c.args.count r c.put_constant.ensures.kept c.put_operator.ensures.kept c.requires c.in_ok-constant.ensures.put put)
