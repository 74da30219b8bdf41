use Rattle.std.proofs.Common.{◌≡◌, ◌∙◌, ap, sym, refl, arith, Some, None}
use Rattle.std.specs.Prelude.{slice_get}
use Rattle.flow_graph.specs.Layout.{position_at, spot_at}
use Rattle.graph_lists.specs.declared.spot.Ends.TheVariants as ends
use Rattle.flow_graph.proofs.Layouts.Called.{known, unknown, room, called, missed}
use Rattle.flow_graph.proofs.layout.put_call.Goals as goal

pub overflow_cast-size : goal.overflow_cast-size
overflow_cast-size c =
    let a = c.args in
    let e : slice_get a.scope.above.now a.callee ≡ Some c.in-Some.size = sym c.size_above.ensures ∙ c.in-Some.is in
    let k = known a.scope.funcs.now a.scope.above.now a.scope.func a.callee c.in-Some.size a.at.node c.requires.known e c.requires.room in
    omega (arith, room _ c.in-Some.size a.at.node k c.requires.room)

pub overflow_add-first-2 : goal.overflow_add-first-2
overflow_add-first-2 c =
    let a = c.args in
    let e : slice_get a.scope.above.now a.callee ≡ Some c.in-Some.size = sym c.size_above.ensures ∙ c.in-Some.is in
    let k = known a.scope.funcs.now a.scope.above.now a.scope.func a.callee c.in-Some.size a.at.node c.requires.known e c.requires.room in
    omega (arith, room _ c.in-Some.size a.at.node k c.requires.room)

pub returns-in_default-clause-items : goal.returns-in_default-clause-items
returns-in_default-clause-items c t es =
    let a = c.args in
    let e : slice_get a.scope.above.now a.callee ≡ None = sym c.size_above.ensures ∙ c.in_default.is in
    missed a.scope.funcs.now a.scope.func a.callee a.scope.chain.now a.at.scale a.at.block a.at.node a.next a.out.now c.put.new.out c.push.new.self c.in_ok-landing.landing t es (unknown a.scope.funcs.now a.scope.above.now a.scope.func a.callee c.requires.known e) c.in_ok-put.ensures.items c.in_ok-push.ensures.ok c.in_ok-landing.ensures

pub returns-clause-items : goal.returns-clause-items
returns-clause-items c t es =
    let a = c.args in
    let e : slice_get a.scope.above.now a.callee ≡ Some c.in-Some.size = sym c.size_above.ensures ∙ c.in-Some.is in
    let k = known a.scope.funcs.now a.scope.above.now a.scope.func a.callee c.in-Some.size a.at.node c.requires.known e c.requires.room in
    let enter = c.in_ok-enter.ensures ∙ ap (λ x. spot_at (position_at a.scope.func a.scope.chain.now a.at.scale) a.at.block ends.Once x x) c.head-head.ensures in
    called a.scope.funcs.now a.scope.func a.callee a.scope.chain.now a.at.scale a.at.block a.at.node a.next c.in-Some.size a.out.now c.push-2.new.self c.push-3.new.self c.in_ok-enter.enter c.in_ok-landing-2.landing _ _ t es k c.requires.room c.in_ok-push-2.ensures.ok c.in_ok-push-3.ensures.ok enter refl refl c.in_ok-landing-2.ensures
