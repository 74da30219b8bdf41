use Rattle.std.proofs.Common.{length, drop}
use Rattle.std.proofs.lemmas.Bool.Decides.{Decides-eqb}
use Rattle.std.proofs.lemmas.Slice.Eq.{starts_is}
use Rattle.race_item.proofs.path.begins.Goals as goal

pub returns : goal.returns
returns c =
    let starts = starts_is Decides-eqb c.args.path.now c.args.prefix.now c.starts_with.result c.starts_with.ensures.value in
    (λ h. (drop (length c.args.prefix.now) c.args.path.now, starts.0 h), λ b. starts.1 b.0 b.1)
