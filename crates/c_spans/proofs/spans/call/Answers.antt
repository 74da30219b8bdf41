use Rattle.std.proofs.Common.{◌≡◌, ℕ, ◌+◌, ◌*◌, Option, sym, ap, ◌∙◌, arith}
use Rattle.std.specs.Prelude.{unwrap_or}
use Rattle.c_spans.specs.Capped.{capped_span}
use Rattle.c_spans.proofs.CappedSpans.{capped_span-right}
use Rattle.c_spans.proofs.spans.call.Goals as goal
use Rattle.std.proofs.lemmas.Option.{slice_get_past}
use Rattle.plain_laws.proofs.Lists.{get-read}

pub returns-in-Some : goal.returns-in-Some
returns-in-Some c =
    let k = c.args.k in
    let s = c.in-Some.span.now in
    c.sum.ensures ∙ ap (λ n. capped_span (k + n)) c.product.ensures ∙ capped_span-right k (k * s)
    ∙ ap (λ (o : Option ℕ). capped_span (k + k * unwrap_or o 0)) (sym (get-read c.args.above.now c.args.callee s c.in-Some.ensures.lookup.3.0 c.in-Some.ensures.lookup.1))

pub returns-in-None : goal.returns-in-None
returns-in-None c =
    let k = c.args.k in
    let alone : k ≡ k + k * 0 = omega arith in
    c.cut.ensures ∙ ap capped_span alone
    ∙ ap (λ (o : Option ℕ). capped_span (k + k * unwrap_or o 0)) (sym (slice_get_past c.args.above.now c.args.callee c.in-None.ensures.lookup.3))
