use Rattle.std.proofs.Common.{◌<◌, ◌+◌, ◌∙◌, [], length, sym, ap, arith, drop}
use Rattle.c_tree.specs.Meaning.Statements.{held_stmts}
use Rattle.flow_laws.specs.BlockLists.{blocks_of_stmt, blocks_of_list}
use Rattle.path_weight.specs.Sought.{sought, block_part}
use Rattle.path_weight.proofs.Seeking.{err_is, on_ok, on_err, for_parts, simple_step, plain_step, no_run}
use Rattle.path_weight.proofs.blocks.+seek.Goals as goal

pub seek-returns-in_err-left-in-For-3 : goal.seek-returns-in_err-left-in-For-3
seek-returns-in_err-left-in-For-3 t c =
    let s = c.args.scope in
    let w = block_part s.locals.now s.globals.now s.func in
    let f = c.in-For in
    let parts = for_parts w c.args.stmt.now f.field-0 f.first f.step f.condition f.body c.args.left c.in_ok-left-in-For.left c.in_ok-left-in-For-2.left f.is (sym c.seek_part.ensures ∙ c.in_ok-left-in-For.was) (sym c.seek_condition-in-For.ensures ∙ c.in_ok-left-in-For-2.was) in
    err_is c.from_residual-in_err-left-in-For-3.result c.in_err-left-in-For-3.field-0.0 c.from_residual-in_err-left-in-For-3.ensures.1 ∙ sym (parts ∙ on_err w (blocks_of_list [] (held_stmts f.step)) (blocks_of_list [] f.body) c.in_ok-left-in-For-2.left c.in_err-left-in-For-3.field-0.0 (sym c.seek_part-in-For.ensures ∙ c.in_err-left-in-For-3.was))

pub seek-returns-in_ok-left-in-For-3 : goal.seek-returns-in_ok-left-in-For-3
seek-returns-in_ok-left-in-For-3 t c =
    let s = c.args.scope in
    let w = block_part s.locals.now s.globals.now s.func in
    let f = c.in-For in
    let parts = for_parts w c.args.stmt.now f.field-0 f.first f.step f.condition f.body c.args.left c.in_ok-left-in-For.left c.in_ok-left-in-For-2.left f.is (sym c.seek_part.ensures ∙ c.in_ok-left-in-For.was) (sym c.seek_condition-in-For.ensures ∙ c.in_ok-left-in-For-2.was) in
    c.seek_list-in-For.ensures ∙ ap (λ xs. sought w (blocks_of_list [] xs) c.in_ok-left-in-For-3.left) c.as_slice-in-For.ensures ∙ sym (parts ∙ on_ok w (blocks_of_list [] (held_stmts f.step)) (blocks_of_list [] f.body) c.in_ok-left-in-For-2.left c.in_ok-left-in-For-3.left (sym c.seek_part-in-For.ensures ∙ c.in_ok-left-in-For-3.was))

pub seek_list-loop-at-preserved-then-is_simple : goal.seek_list-loop-at-preserved-then-is_simple
seek_list-loop-at-preserved-then-is_simple t c =
    let l = c.loop-at in
    let s = c.args.scope in
    let w = block_part s.locals.now s.globals.now s.func in
    let lt : l.at < length c.args.list.now = omega arith in
    record {
      begun = omega (arith, l.invariant.begun);
      whole = ap (λ bs. sought w bs l.left) (simple_step c.args.list.now l.begun l.at c.index-list-at.result l.invariant.begun lt c.index-list-at.is (sym c.is_simple.ensures ∙ c.if-is_simple.true)) ∙ l.invariant.whole;
    }

pub seek_list-returns-in_err-left-2 : goal.seek_list-returns-in_err-left-2
seek_list-returns-in_err-left-2 t c =
    let l = c.loop-at in
    let s = c.args.scope in
    let w = block_part s.locals.now s.globals.now s.func in
    let xs = c.args.list.now in
    let x = c.index-list-at.result in
    let lt : l.at < length xs = omega arith in
    let here = plain_step w xs l.begun l.at x l.left c.in_ok-left.left lt c.index-list-at.is (sym c.is_simple.ensures ∙ c.if-is_simple.false) (sym c.seek_run.ensures ∙ c.in_ok-left.was) in
    err_is c.from_residual-in_err-left-2.result c.in_err-left-2.field-0.0 c.from_residual-in_err-left-2.ensures.1 ∙ sym (sym l.invariant.whole ∙ here ∙ on_err w (blocks_of_stmt x) (blocks_of_list [] (drop (l.at + 1) xs)) c.in_ok-left.left c.in_err-left-2.field-0.0 (sym c.seek.ensures ∙ c.in_err-left-2.was))

pub seek_list-loop-at-preserved : goal.seek_list-loop-at-preserved
seek_list-loop-at-preserved t c =
    let l = c.loop-at in
    let s = c.args.scope in
    let w = block_part s.locals.now s.globals.now s.func in
    let xs = c.args.list.now in
    let x = c.index-list-at.result in
    let lt : l.at < length xs = omega arith in
    let here = plain_step w xs l.begun l.at x l.left c.in_ok-left.left lt c.index-list-at.is (sym c.is_simple.ensures ∙ c.if-is_simple.false) (sym c.seek_run.ensures ∙ c.in_ok-left.was) in
    record {
      begun = omega arith;
      whole = ap (λ bs. sought w bs c.in_ok-left-2.left) (no_run xs l.at) ∙ sym (sym l.invariant.whole ∙ here ∙ on_ok w (blocks_of_stmt x) (blocks_of_list [] (drop (l.at + 1) xs)) c.in_ok-left.left c.in_ok-left-2.left (sym c.seek.ensures ∙ c.in_ok-left-2.was));
    }
