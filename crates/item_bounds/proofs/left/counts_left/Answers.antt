use Rattle.std.proofs.Common.{ap, sym, subst, ◌∙◌, length, All, ◌≡◌}
use Rattle.std.specs.List.{AllZip}
use Rattle.flow_laws.specs.Graphs.{graph, edges}
use Rattle.lin_rows.specs.Meeting.{MeetsRow}
use Rattle.ipet_rows.specs.CapsBound.{caps_of_edges}
use Rattle.count_box.proofs.Kept.{Holds, same_length}
use Rattle.item_bounds.proofs.Covered.{caps_long, at_most_of}
use Rattle.item_bounds.proofs.left.counts_left.Goals as goal

pub narrowed-requires : goal.narrowed-requires
narrowed-requires c =
    let g = graph c.args.rows.now.plan.program in
    let box = rw c.plan-2.ensures at c.in_ok-within.ensures in
    ap length box ∙ caps_long g (edges g) ∙ sym c.rows.ensures.edges

pub returns-in-Narrowed-clause-some : goal.returns-in-Narrowed-clause-some
returns-in-Narrowed-clause-some c x left =
    let g = graph c.args.rows.now.plan.program in
    let box = rw c.plan-2.ensures at c.in_ok-within.ensures in
    let narrows = rw c.as_slice.ensures at (c.narrowed.ensures.narrowed c.in-Narrowed.is) in
    let inside = subst (λ ls. AllZip Holds ls x) (sym box) left.inside.caps in
    let long = rw c.plan.ensures at c.in_ok-counts.ensures.edges in
    let least = at_most_of c.args.rows.now.plan.program x c.in_ok-counts.counts c.args.prefix.now long c.in_ok-counts.ensures.most left.least in
    let met = subst (λ rs. All (MeetsRow x) rs) (sym c.rows.ensures.value) left.meets in
    narrows.kept x inside (left.inside.within, least, met)

pub returns-in-Narrowed-clause-limits : goal.returns-in-Narrowed-clause-limits
returns-in-Narrowed-clause-limits c =
    let g = graph c.args.rows.now.plan.program in
    let box = rw c.plan-2.ensures at c.in_ok-within.ensures in
    let narrows = c.narrowed.ensures.narrowed c.in-Narrowed.is in
    same_length c.narrowed.new.within c.in_ok-within.within narrows.inwards ∙ ap length box ∙ caps_long g (edges g)

pub returns-clause-none : goal.returns-clause-none
returns-clause-none c x left =
    let g = graph c.args.rows.now.plan.program in
    let box = rw c.plan-2.ensures at c.in_ok-within.ensures in
    let empty = rw c.as_slice.ensures at (c.narrowed.ensures.empty c.in-Empty.is) in
    let inside = subst (λ ls. AllZip Holds ls x) (sym box) left.inside.caps in
    let long = rw c.plan.ensures at c.in_ok-counts.ensures.edges in
    let least = at_most_of c.args.rows.now.plan.program x c.in_ok-counts.counts c.args.prefix.now long c.in_ok-counts.ensures.most left.least in
    let met = subst (λ rs. All (MeetsRow x) rs) (sym c.rows.ensures.value) left.meets in
    empty x inside left.inside.within least met
