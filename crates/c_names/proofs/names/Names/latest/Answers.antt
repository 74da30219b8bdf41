use Rattle.std.proofs.Common.{sym, ap, ◌∙◌, option_map}
use Rattle.c_tree.specs.Checking.Scopes as scope
use Rattle.c_names.specs.Tables.{known_as}
use Rattle.c_names.proofs.NameTables.{latest-known}
use Rattle.c_names.proofs.names.Names.latest.Goals as goal

pub returns : goal.returns
returns c =
    let q = c.args.name.now in
    ap (option_map (known_as q)) (c.copied.ensures ∙ c.get.ensures.value ∙ c.self.invariant.shows q)
    ∙ sym (latest-known c.self.inside.declared.items q)
    ∙ ap (λ ks. scope.latest ks q) c.self.view_is
