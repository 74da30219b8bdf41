use Rattle.std.proofs.Common.{[], map, ap, ◌∙◌}
use Rattle.c_tree.specs.Keeping.Programs.{Program}
use Rattle.c_tree.specs.Checking.Refusals.{wide_func_faults}
use Rattle.c_faults.specs.Verdicts.{after_all}
use Rattle.c_spans.specs.Capped.{capped_span}
use Rattle.c_tree.specs.Meaning.Spans.{spans}
use Rattle.c_check.proofs.Judged.{judged_first}
use Rattle.c_check.proofs.checking.judged.Goals as goal

pub returns-clause-first : goal.returns-clause-first
returns-clause-first c =
    let e = c.in_ok-named.ensures in
    let last = c.ask_of_spans.ensures ∙ (λ i. after_all c.ask_of_inputs.new.verdict (wide_func_faults (c.deref.ensures.value i) (c.as_slice-2.ensures i))) in
    judged_first c.args.unit.now c.args.entry.now _ _ _ _ c.in_ok-spans.spans.items c.in_ok-named.named.funcs e.first c.ask_of_entry.ensures c.ask_of_inputs.ensures last (c.in_ok-spans.ensures ∙ ap (λ fs. map capped_span (spans [] fs)) c.as_slice.ensures) (ap (λ (p : Program). p.funcs) e.named)
