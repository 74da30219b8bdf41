use Rattle.std.proofs.Common.{◌+◌, drop, sym, ap, ◌∙◌}
use Rattle.std.specs.Prelude.{slice_get}
use Rattle.c_tree.specs.Checking.Refusals.{outer_inputs}
use Rattle.c_check.proofs.InputNumbers.{among_copies, behind_copies, outer_inputs-cons}
use Rattle.c_check.proofs.entry.outer_input_at.Goals as goal
use Rattle.plain_laws.proofs.Lists.{drop-read}

pub returns-then-left-count : goal.returns-then-left-count
returns-then-left-count c =
    let x = c.top-item.result in
    let rest = drop (c.loop-top.top-index + 1) c.args.tops.now in
    let at = drop-read c.args.tops.now c.loop-top.top-index x c.loop-top-test.true c.top-item.is in
    let r = c.inputs_of-count.result in
    let split = outer_inputs-cons x rest r.count r.at c.inputs_of-count.ensures in
    sym (among_copies r.count r.at (outer_inputs rest) c.loop-top.left c.if-left-count.true)
    ∙ ap (λ ns. slice_get ns c.loop-top.left) (sym split)
    ∙ ap (λ ts. slice_get (outer_inputs ts) c.loop-top.left) (sym at) ∙ c.loop-top.invariant

pub loop-top-preserved : goal.loop-top-preserved
loop-top-preserved c =
    let x = c.top-item.result in
    let rest = drop (c.loop-top.top-index + 1) c.args.tops.now in
    let at = drop-read c.args.tops.now c.loop-top.top-index x c.loop-top-test.true c.top-item.is in
    let r = c.inputs_of-count.result in
    let split = outer_inputs-cons x rest r.count r.at c.inputs_of-count.ensures in
    sym (behind_copies r.count r.at (outer_inputs rest) c.loop-top.left c.if-left-count.false)
    ∙ ap (λ ns. slice_get ns c.loop-top.left) (sym split)
    ∙ ap (λ ts. slice_get (outer_inputs ts) c.loop-top.left) (sym at) ∙ c.loop-top.invariant
