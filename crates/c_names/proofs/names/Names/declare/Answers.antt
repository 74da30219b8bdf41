use Rattle.std.proofs.Common.{sym, ◌∙◌, subst}
use Rattle.c_names.specs.Tables.{IsTable}
use Rattle.c_names.proofs.NameTables.{IsTable-push}
use Rattle.c_names.proofs.names.Names.declare.Goals as goal

pub invariant_of-self-in-Ok-rebind : goal.invariant_of-self-in-Ok-rebind
invariant_of-self-in-Ok-rebind c =
    let table = c.self.invariant in
    let hidden = c.copied-hidden.ensures ∙ c.get.ensures.value ∙ table.shows c.args.name.now in
    subst (IsTable c.rebind.new.latest) (sym c.in-Ok.ensures.items) (IsTable-push _ _ c.self.inside.declared.items _ table c.in-Ok-rebind.ensures.rebound hidden)
