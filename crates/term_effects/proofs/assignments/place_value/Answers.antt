use Rattle.std.proofs.Common.{arith}
use Rattle.term_steps.proofs.Growing.{held_read}
use Rattle.term_steps.proofs.ExpressionRuns.{mapped}
use Rattle.term_effects.proofs.EffectRuns.{place_elem_runs}
use Rattle.term_effects.proofs.assignments.place_value.Goals as goal

pub named-requires : goal.named-requires
named-requires c = held_read c.in-Scalar.x c.held.ensures c.requires (omega arith)

pub element-requires-clause-slot_in : goal.element-requires-clause-slot_in
element-requires-clause-slot_in c = held_read c.in-Elem.x c.held-in-Elem.ensures c.requires c.in_ok-at-in-Elem.ensures.grows

pub returns-in_ok-at-in-Elem : goal.returns-in_ok-at-in-Elem
returns-in_ok-at-in-Elem c = mapped _ c.element.result c.element.ensures (λ j h. place_elem_runs c.args.store.now c.in-Elem.x _ c.held-in-Elem.ensures c.in-Elem.is c.in_ok-at-in-Elem.ensures h)
