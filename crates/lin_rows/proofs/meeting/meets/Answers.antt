use Rattle.std.proofs.Common.{rules, ◌≡◌, ap, ◌∙◌, sym, FitsSigned, ◌&&◌, Bool}
use Rattle.std.specs.Int.{w128}
use Rattle.std.proofs.lemmas.Int.{to_z-of_z}
use Rattle.std.proofs.lemmas.List.{drop_more, drop_all}
use Rattle.lin_rows.proofs.StepLists.{Tells-none, Tells-some}
use Rattle.lin_rows.proofs.RowsTested.{Tested-next, Tested-stop, Tested-all}
use Rattle.lin_rows.proofs.meeting.meets.Goals as goal
use Rattle.lin_rows.proofs.meeting.meets.Goals.{then-met, else-met}

pub returns-in_err-left : goal.returns-in_err-left
returns-in_err-left c =
    let x = c.args.counts.now in
    let row = c.row-item.result in
    let rest = drop_more c.rows-row-items.result.now c.loop-row.row-index row c.loop-row-test.true in
    let tested = rw (rest, ← c.row-item.is) at c.loop-row.invariant in
    let fails = rw c.terms.ensures at c.in_err-left.ensures in
    let tells = Tells-none {T = Bool} _ (Tested-stop c.args.rows.now x c.loop-row.met row _ tested fails) in
    rw c.from_residual.ensures (record { none = tells.none; some = tells.some; value = search rules })

pub loop-row-preserved : goal.loop-row-preserved
loop-row-preserved c =
    let x = c.args.counts.now in
    let row = c.row-item.result in
    let rest = drop_more c.rows-row-items.result.now c.loop-row.row-index row c.loop-row-test.true in
    let tested = rw (rest, ← c.row-item.is) at c.loop-row.invariant in
    let stays = rw c.terms.ensures at c.in_ok-left.ensures in
    let fits_left : FitsSigned w128 c.in_ok-left.left = search rules in
    let fits_right : FitsSigned w128 row.right = search rules in
    let holds = rw stays.1 at (simp to_z-of_z at c.compares-holds.ensures) in
    let next = Tested-next x _ c.loop-row.met c.compares-holds.result row _ tested stays.0 holds in
    let is : c.if-met.met ≡ (c.loop-row.met && c.compares-holds.result) =
    elim c.if-met.branch [
      | then-met w ↦ w.met-is ∙ ap (λ b. b && c.compares-holds.result) (sym w.if-met.true)
      | else-met w ↦ w.met-is ∙ w.if-met.false ∙ ap (λ b. b && c.compares-holds.result) (sym w.if-met.false)
    ] in
    rw is next

pub returns : goal.returns
returns c =
    let x = c.args.counts.now in
    let tested = rw (drop_all c.loop-row.row-index c.rows-row-items.result.now c.loop-row-test.false) at c.loop-row.invariant in
    let all = Tested-all c.args.rows.now x c.loop-row.met tested in
    let tells = Tells-some c.loop-row.met _ all.0 in
    record { none = tells.none; some = tells.some; value = all.1 }
