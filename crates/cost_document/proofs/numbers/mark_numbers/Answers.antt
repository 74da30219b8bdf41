use Rattle.std.proofs.Common.{length, ◌∙◌}
use Rattle.std.specs.Map.Iter.{deref_pair}
use Rattle.std.proofs.lemmas.Map.Iter.{rest_more}
use Rattle.cost_document.proofs.NumberedKeys.{forward, marks_begin, marks_more}
use Rattle.cost_document.proofs.numbers.mark_numbers.Goals as goal

pub range-key-items-requires : goal.range-key-items-requires
range-key-items-requires c = forward c.args.function.now c.in_ok-first.first c.in_ok-past.past c.in_ok-first.ensures c.in_ok-past.ensures

pub loop-key-init : goal.loop-key-init
loop-key-init c =
    marks_begin c.args.function.now c.in_ok-first.first c.in_ok-past.past _ _ _ c.in_ok-first.ensures c.in_ok-past.ensures
    (c.into_iter-key-iterator.ensures.into_iter_gives ∙ c.range-key-items.ensures.between tt) c.requires.unmarked

pub loop-key-preserved : goal.loop-key-preserved
loop-key-preserved c =
    let left = rest_more deref_pair _ _ c.next.result (c.in-Some.key, c.in-Some._value) c.in-Some.is c.next.ensures.steps in
    marks_more c.args.function.now _ _ (length c.args.held.now) _ _ _ _ _ _ c.number_in.result c.requires.few left c.as_bytes.ensures.value c.as_bytes-in-loop-key.ensures.value c.number_in.ensures c.mark.ensures c.loop-key.invariant
