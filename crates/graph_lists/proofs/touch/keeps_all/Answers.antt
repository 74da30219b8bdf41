use Rattle.std.proofs.Common.{◌∙◌, ◌+◌, ap, sym, drop}
use Rattle.std.specs.Prelude.{◌&&◌}
use Rattle.graph_lists.specs.Touches.{Counters, counters, is_kept_by, is_kept_over, is_kept_by_row}
use Rattle.graph_lists.proofs.Touched.{none_all, list_step, got_row, got_none}
use Rattle.graph_lists.proofs.touch.keeps_all.Goals as goal

pub loop-number-init : goal.loop-number-init
loop-number-init c = ap (λ (m : Counters). is_kept_by c.args.touches.now m c.args.list.now) (none_all 1024)

pub returns-in_default : goal.returns-in_default
returns-in_default c =
    let table = c.args.touches.now in
    let list = c.args.list.now in
    let l = c.loop-number in
    let old = counters l.left in
    sym (ap (λ r. is_kept_by_row r old (λ m. is_kept_by table m (drop (l.number-index + 1) list))) (got_none table _ c.in_default.ensures.lookup.0)) ∙ sym (list_step table old list l.number-index c.loop-number-test.true) ∙ l.invariant

pub returns-then-not-keep_each : goal.returns-then-not-keep_each
returns-then-not-keep_each c =
    let table = c.args.touches.now in
    let list = c.args.list.now in
    let l = c.loop-number in
    let old = counters l.left in
    let go = λ (m : Counters). is_kept_by table m (drop (l.number-index + 1) list) in
    let step = ap (λ r. is_kept_by_row r old go) (got_row table _ c.in-Some.row.now c.in-Some.ensures.lookup.0 c.in-Some.ensures.lookup.1) ∙ ap (λ ts. is_kept_over ts old go) (sym c.as_slice.ensures) ∙ c.keep_each.ensures go ∙ ap (λ b. b && go (counters c.keep_each.new.left)) c.if-not-keep_each.true in
    sym step ∙ sym (list_step table old list l.number-index c.loop-number-test.true) ∙ l.invariant

pub loop-number-preserved : goal.loop-number-preserved
loop-number-preserved c =
    let table = c.args.touches.now in
    let list = c.args.list.now in
    let l = c.loop-number in
    let old = counters l.left in
    let go = λ (m : Counters). is_kept_by table m (drop (l.number-index + 1) list) in
    let step = ap (λ r. is_kept_by_row r old go) (got_row table _ c.in-Some.row.now c.in-Some.ensures.lookup.0 c.in-Some.ensures.lookup.1) ∙ ap (λ ts. is_kept_over ts old go) (sym c.as_slice.ensures) ∙ c.keep_each.ensures go ∙ ap (λ b. b && go (counters c.keep_each.new.left)) c.if-not-keep_each.false in
    sym step ∙ sym (list_step table old list l.number-index c.loop-number-test.true) ∙ l.invariant
