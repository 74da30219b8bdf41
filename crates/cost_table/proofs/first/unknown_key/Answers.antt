use Rattle.std.proofs.Common.{rules, ap, Some, sym, ◌∙◌}
use Rattle.std.specs.Map.Iter.{deref_pair}
use Rattle.std.proofs.lemmas.Map.Iter.{rest_more}
use Rattle.cost_table.proofs.FirstKeys.{found, goes_on}
use Rattle.cost_table.proofs.first.unknown_key.Goals as goal

pub returns-then-not-contains : goal.returns-then-not-contains
returns-then-not-contains c =
    let left = rest_more deref_pair _ _ c.next.result (c.in-Some.key, c.in-Some._value) c.in-Some.is c.next.ensures.steps in
    let here = found _ _ _ _ _ c.loop-key.invariant left (search rules) in
    ap Some c.as_str-then-not-contains.ensures.value ∙ sym here

pub loop-key-preserved : goal.loop-key-preserved
loop-key-preserved c =
    let left = rest_more deref_pair _ _ c.next.result (c.in-Some.key, c.in-Some._value) c.in-Some.is c.next.ensures.steps in
    goes_on _ _ _ _ _ c.loop-key.invariant left (search rules)
