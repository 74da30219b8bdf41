use Rattle.std.proofs.Common.{[], ◌∙◌, ◌++◌, ap, sym, arith, min, ◌+◌, ◌-◌, ◌^◌}
use Rattle.std.specs.Prelude.{slice_get}
use Rattle.flow_laws.specs.Graphs.{copies}
use Rattle.flow_graph.specs.Layout.{laid_back}
use Rattle.flow_graph.proofs.Layouts.Unfolded.{long, size_is, no_copy, has_room, copied, too_far}
use Rattle.flow_graph.proofs.unfold.push_copy.Goals as goal
use Rattle.std.proofs.result.Match.{if_ok_then}
use Rattle.std.proofs.lemmas.Option.{slice_get_within}

pub returns-in_default : goal.returns-in_default
returns-in_default c =
    let a = c.args in
    no_copy (slice_get (copies [] a.funcs.now) a.callee) (slice_get a.sizes.now a.callee) a.chain.now a.scale a.first _ (size_is a.funcs.now a.sizes.now c.requires.sizes a.callee) (sym c.size_of.ensures ∙ c.in_default.is)

pub push_body-requires-clause-func : goal.push_body-requires-clause-func
push_body-requires-clause-func c =
    let a = c.args in
    let b = slice_get_within a.sizes.now a.callee c.in-Some.size (sym c.size_of.ensures ∙ c.in-Some.is) in
    omega (arith, b, long a.funcs.now a.sizes.now c.requires.sizes)

pub push_body-requires-clause-room : goal.push_body-requires-clause-room
push_body-requires-clause-room c =
    let a = c.args in
    let e = sym c.in-Some.is ∙ c.size_of.ensures ∙ size_is a.funcs.now a.sizes.now c.requires.sizes a.callee in
    has_room (slice_get (copies [] a.funcs.now) a.callee) c.in-Some.size c.saturating_add-landing.result a.first e (c.saturating_add-landing.ensures ∙ ap (λ z. min (c.in-Some.size + z) (2 ^ 64 - 1)) c.from.ensures) c.if-landing-lt4294967296.true

pub returns-then-landing-lt4294967296 : goal.returns-then-landing-lt4294967296
returns-then-landing-lt4294967296 c =
    let a = c.args in
    let e = sym c.in-Some.is ∙ c.size_of.ensures ∙ size_is a.funcs.now a.sizes.now c.requires.sizes a.callee in
    if_ok_then c.push_body.result _ _ (λ u h. h ∙ ap (λ y. y ++ laid_back (copies [] a.funcs.now) a.todo.now) (copied (slice_get (copies [] a.funcs.now) a.callee) c.in-Some.size c.saturating_add-landing.result a.first a.scale a.chain.now e (c.saturating_add-landing.ensures ∙ ap (λ z. min (c.in-Some.size + z) (2 ^ 64 - 1)) c.from.ensures) c.if-landing-lt4294967296.true)) c.push_body.ensures

pub returns-else-landing-lt4294967296 : goal.returns-else-landing-lt4294967296
returns-else-landing-lt4294967296 c =
    let a = c.args in
    let e = sym c.in-Some.is ∙ c.size_of.ensures ∙ size_is a.funcs.now a.sizes.now c.requires.sizes a.callee in
    too_far (slice_get (copies [] a.funcs.now) a.callee) c.in-Some.size c.saturating_add-landing.result a.first a.scale a.chain.now _ e (c.saturating_add-landing.ensures ∙ ap (λ z. min (c.in-Some.size + z) (2 ^ 64 - 1)) c.from.ensures) c.if-landing-lt4294967296.false
