use Rattle.std.proofs.Common.{rules, ap, Some, sym, ◌∙◌}
use Rattle.std.specs.Map.Iter.{deref_pair}
use Rattle.std.proofs.lemmas.Map.Iter.{rest_more}
use Rattle.cost_document.specs.Documents.{is_stray}
use Rattle.cost_table.proofs.FirstKeys.{found, goes_on}
use Rattle.cost_table.proofs.first.first_stray.Goals as goal

pub returns-then-is_stray : goal.returns-then-is_stray
returns-then-is_stray c =
    let left = rest_more deref_pair _ _ c.next.result (c.in-Some.key, c.in-Some.value) c.in-Some.is c.next.ensures.steps in
    let here = found is_stray _ _ _ _ c.loop-key.invariant left (search rules) in
    ap Some c.as_str-then-is_stray.ensures.value ∙ sym here

pub loop-key-preserved : goal.loop-key-preserved
loop-key-preserved c =
    let left = rest_more deref_pair _ _ c.next.result (c.in-Some.key, c.in-Some.value) c.in-Some.is c.next.ensures.steps in
    goes_on is_stray _ _ _ _ c.loop-key.invariant left (search rules)
