use Rattle.std.proofs.Common.{◌∙◌}
use Rattle.count_box.proofs.Kept.{Narrows-none, Narrows-then, same_length}
use Rattle.item_bounds.proofs.left.tighten_often.Goals as goal

pub loop-init : goal.loop-init
loop-init c = Narrows-none _ _

pub tighten-requires : goal.tighten-requires
tighten-requires c = same_length c.loop.within c.args.within.now c.loop.invariant.inwards ∙ c.requires

pub loop-preserved : goal.loop-preserved
loop-preserved c =
    Narrows-then c.loop.invariant (record { inwards = c.tighten.ensures.inwards; kept = c.tighten.ensures.kept }) (λ x inside met. met)

pub returns-in-Empty-clause-empty : goal.returns-in-Empty-clause-empty
returns-in-Empty-clause-empty c is x inside met =
    c.tighten.ensures.empty c.in-Empty.is x (c.loop.invariant.kept x inside met) met
