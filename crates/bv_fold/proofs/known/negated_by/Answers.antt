use Rattle.std.proofs.Common.{Option, Some, None, ap, ◌∙◌}
use Rattle.std.specs.Prelude.{IfSome}
use Rattle.bv_fold.proofs.known.negated_by.Goals as goal

pub other_than_zero-requires : goal.other_than_zero-requires
other_than_zero-requires c = let b = rw c.in-Eq.is at c.op_at.ensures.below in record { left = b.0; right = b.1.0 }

given : {A : Type 0} {P Q : A → Type 0} (r : Option A) → IfSome r P → ((x : A) → P x → Q x) → IfSome r Q
given None h k = tt
given (Some x) h k = k x h

pub returns-in-Eq : goal.returns-in-Eq
returns-in-Eq c = given c.other_than_zero.result c.other_than_zero.ensures (λ x h. h c.args.term (c.op_at.ensures.op ∙ ap Some c.in-Eq.is))
