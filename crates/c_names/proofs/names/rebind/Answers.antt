use Rattle.std.proofs.Common.{Option, Some, sym, ap, ◌∙◌}
use Rattle.std.specs.Prelude.{bytes_eq, if◌then◌else◌}
use Rattle.c_names.specs.declared.names.Binding.{Binding}
use Rattle.c_names.specs.Tables.{looked_up}
use Rattle.c_names.proofs.NameTables.{Rebinds-changed}
use Rattle.c_names.proofs.names.rebind.Goals as goal

pub returns-in-Ok-clause-rebound : goal.returns-in-Ok-clause-rebound
returns-in-Ok-clause-rebound c = λ q.
    Rebinds-changed c.args.latest.now c.insert.new.self c.args.name.now (Some c.in-Some.binding) c.in-Ok.ensures.updates q
    ∙ ap (λ (w : Option Binding). if bytes_eq c.args.name.now q then w else looked_up c.args.latest.now q) (sym c.in-Some.is)

pub returns-in-None-clause-rebound : goal.returns-in-None-clause-rebound
returns-in-None-clause-rebound c = λ q.
    Rebinds-changed c.args.latest.now c.remove.new.self c.args.name.now _ c.remove.ensures.updates q
    ∙ ap (λ (w : Option Binding). if bytes_eq c.args.name.now q then w else looked_up c.args.latest.now q) (sym c.in-None.is)
