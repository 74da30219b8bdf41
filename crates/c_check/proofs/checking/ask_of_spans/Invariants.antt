use Rattle.std.proofs.Common.{◌≡◌, drop}
use Rattle.c_tree.specs.Checking.Refusals.{wide_func_faults}
use Rattle.c_faults.specs.Verdicts.{after_all}
use Rattle.c_check.proofs.checking.ask_of_spans.Given as goal

-- the functions so far are asked of
abbrev pub invariant-loop-top : goal.invariant-loop-top
invariant-loop-top l =
    after_all l.verdict (wide_func_faults (drop l.number l.spans) (drop l.top-index l.tops)) ≡ after_all l.initial.verdict (wide_func_faults l.spans l.tops)
