use Rattle.std.proofs.Common.{ap, ◌∙◌}
use Rattle.std.specs.Prelude.{unwrap_or}
use Rattle.c_tree.specs.Keeping.Programs.{Program}
use Rattle.c_tree.specs.Checking.Naming.{entry_number, program_of}
use Rattle.c_check.proofs.checking.walked.Goals as goal

pub returns-clause-named : goal.returns-clause-named
unfolding program_of
returns-clause-named c =
    let r = c.in_ok-globals.ensures in
    let e = c.in_ok-entry.ensures ∙ ap (λ l. unwrap_or (entry_number l c.args.entry.now) 0) (c.as_slice.ensures ∙ r.funcs) in
    λ i. let p : Program = record { globals = r.globals i; funcs = r.funcs i; entry = e i } in p
