use Rattle.std.proofs.Common.{◌-◌, ap, ◌∙◌}
use Rattle.path_cond.proofs.StartRuns.{array_given}
use Rattle.path_cond.proofs.starts.array_slot.Goals as goal

pub returns : goal.returns
returns c =
    array_given c.args.ty c.args.count c.saturating_sub-missing.result c.args.given c.in_ok-elements.elements (c.saturating_sub-missing.ensures ∙ ap (λ n. c.args.count - n) c.len.ensures) c.in_ok-more.ensures c.requires.there c.requires.few c.requires.short c.in_ok-elements.ensures
