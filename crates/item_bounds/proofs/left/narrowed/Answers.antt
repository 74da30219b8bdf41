use Rattle.count_box.proofs.Kept.{Narrows-then, Narrows-weaker}
use Rattle.item_bounds.proofs.left.narrowed.Goals as goal

pub returns-clause-narrowed : goal.returns-clause-narrowed
returns-clause-narrowed c is =
    let cut = Narrows-weaker (c.cut_all.ensures.narrowed c.in-Narrowed.is) (λ x all. all.0) in
    let raised = Narrows-then cut (c.raise_all.ensures.narrowed c.in-Narrowed-raise_all.is) (λ x inside all. all.1) in
    Narrows-then raised (c.tighten_often.ensures.narrowed is) (λ x inside all. all.2)
