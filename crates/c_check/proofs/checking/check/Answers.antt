use Rattle.c_check.proofs.checking.check.Goals as goal

pub invariant_of-result : goal.invariant_of-result
invariant_of-result c =
    record { unit = c.args.unit; entry = c.args.entry.now; spelled = c.requires.spelled; typed = c.in_ok-globals.ensures.named }
