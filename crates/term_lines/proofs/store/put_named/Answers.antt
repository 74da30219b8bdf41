use Rattle.std.specs.Prelude.{length}
use Rattle.std.proofs.Common.{rules, subst}
use Rattle.bv_term.specs.Stores.{FitsOp}
use Rattle.term_lines.proofs.store.put_named.Goals as goal

-- src/store.rt:39:21
pub put-requires : goal.put-requires
put-requires c = subst (λ n. FitsOp (length c.args.terms.now.inputs) n c.in-Some.op) c.len.ensures.number (c.in-Some.ensures (length c.args.terms.now.inputs))
