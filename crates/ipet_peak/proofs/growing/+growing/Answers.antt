-- Each piece makes a tree of those before it, and all of them the function's.
use Rattle.std.proofs.lemmas.Grind.{common_steps}
use Rattle.std.proofs.Common.{Some, rules, arith, ◌^◌, take, ap, sym, ◌∙◌, subst, refl}
use Rattle.std.specs.Prelude.{IfOk}
use Rattle.ipet_peak.specs.Pieces.{part_at, stack_after, parts_made}
use Rattle.ipet_peak.specs.Trees.{parts_of, IsTreeOf, EachKeepsWays}
use Rattle.ipet_peak.proofs.Grown.{last_room, Standing, grown_step, none_made, above_length, one_above, one_made, grown}
use Rattle.ipet_peak.proofs.growing.+growing.Goals as goal
use Rattle.std.proofs.result.Match.{if_ok_then}
use Rattle.plain_laws.proofs.Lists.{get-read}

pub callee_tree-returns-else-callee-funcs : goal.callee_tree-returns-else-callee-funcs
callee_tree-returns-else-callee-funcs t c =
    subst (λ p. IfOk c.no_tree.result (λ z. IsTreeOf z p)) (sym (none_made c.args.funcs.now c.args.callee c.if-callee-funcs.false)) c.no_tree.ensures

pub func_tree-pieces-init : goal.func_tree-pieces-init
func_tree-pieces-init t c =
    let qs = parts_made (take c.args.func c.args.funcs.now) in
    record { whole = ap (λ ts. stack_after qs c.as_slice-left.result.now (parts_of ts)) c.new-trees.ensures; kept = subst EachKeepsWays (sym c.new-trees.ensures) tt }

pub func_tree-make-requires : goal.func_tree-make-requires
func_tree-make-requires t c =
    let a = c.args in
    let long = above_length a.funcs.now a.func c.requires.func in
    let got = get-read a.funcs.now a.func c.index-funcs-func.result c.requires.func c.index-funcs-func.is ∙ ap Some (sym c.as_slice-left.ensures) in
    let whole = c.pieces.invariant.whole ∙ one_made a.funcs.now a.func c.as_slice-left.result.now c.requires.one got in
    let room = last_room (parts_made (take a.func a.funcs.now)) c.pieces.left.now c.in-Some.rest.now c.in-Some.piece.now (parts_of c.pieces.trees) _ (2 ^ 126) c.in-Some.ensures.cases.0 whole c.requires.room in
    (first_of (omega (arith, long), omega (arith, long, c.decreases), search rules, grind (arith, common_steps)), (one_above a.funcs.now _ a.func refl c.requires.one, (c.pieces.invariant.kept, room)))

pub func_tree-pieces-preserved : goal.func_tree-pieces-preserved
func_tree-pieces-preserved t c =
    grown_step (parts_made (take c.args.func c.args.funcs.now)) c.pieces.left.now c.in-Some.rest.now c.in-Some.piece.now c.pieces.trees c.make.new.trees c.push.new.self c.in_ok-tree.tree _ c.in-Some.ensures.cases.0 c.in_ok-tree.ensures c.in_ok-push.ensures.ok c.pieces.invariant

pub func_tree-returns : goal.func_tree-returns
func_tree-returns t c =
    let a = c.args in
    let qs = parts_made (take a.func a.funcs.now) in
    let got = get-read a.funcs.now a.func c.index-funcs-func.result c.requires.func c.index-funcs-func.is ∙ ap Some (sym c.as_slice-left.ensures) in
    let standing = subst (Standing qs c.pieces.left.now c.pieces.trees) (one_made a.funcs.now a.func c.as_slice-left.result.now c.requires.one got) c.pieces.invariant in
    if_ok_then c.take_last.result _ _ (λ z is. grown qs c.pieces.left.now c.pieces.trees (part_at (parts_made a.funcs.now) a.func) z c.in_default.ensures.cases standing is) c.take_last.ensures.last
