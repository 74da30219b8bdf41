use Rattle.bv_fold.proofs.PutTerms.{put_only_adds, operator_put, operator_found}
use Rattle.bv_fold.proofs.Extended.{extended_itself}
use Rattle.bv_fold.proofs.putting.put_operator.Goals as goal

pub returns-clause-kept : goal.returns-clause-kept
returns-clause-kept c = put_only_adds c.put.result c.args.terms.now c.put.new.self c.args.op c.put.ensures.inputs c.put.ensures.ops c.put.ensures.kept

pub returns-clause-put : goal.returns-clause-put
returns-clause-put c =
    operator_put c.put.result c.args.terms.now c.put.new.self c.args.op c.len.ensures.store.fits c.requires
    c.put.ensures.inputs c.put.ensures.number c.put.ensures.ops

pub returns-clause-found : goal.returns-clause-found
returns-clause-found c = operator_found c.put.result c.args.terms.now c.put.new.self c.args.op c.put.ensures.number c.put.ensures.ops

pub returns-then-len-eq4294967295-clause-kept : goal.returns-then-len-eq4294967295-clause-kept
returns-then-len-eq4294967295-clause-kept c = extended_itself c.args.terms.now
