use Rattle.std.proofs.Common.{◌+◌, sym, ◌∙◌, ap, arith}
use Rattle.std.specs.Fmt.{decimal}
use Rattle.std.proofs.lemmas.Fmt.{decimal_injective}
use Rattle.cnf_form.proofs.Logs.LogLines.{stray_hint}
use Rattle.cnf_form.proofs.log_line.read_hints.Goals as goal

pub returns-in_default-number_of : goal.returns-in_default-number_of
returns-in_default-number_of c =
    stray_hint c.args.clause c.loop-token.hints.items c.args.text.now c.loop-token.rest.now c.in-Some.token.now c.in-Some.behind.now c.loop-token.invariant.text c.requires c.loop-token.invariant.small c.in-Some.ensures.some
    (λ h less. c.in_default-number_of.ensures (h + 1) (omega (arith, less)))

pub returns-then-number-eq0 : goal.returns-then-number-eq0
returns-then-number-eq0 c =
    stray_hint c.args.clause c.loop-token.hints.items c.args.text.now c.loop-token.rest.now c.in-Some.token.now c.in-Some.behind.now c.loop-token.invariant.text c.requires c.loop-token.invariant.small c.in-Some.ensures.some
    (λ h less same. omega (arith, decimal_injective 0 (h + 1) (omega arith) (omega (arith, less)) (sym (c.in-Some-number_of.ensures.1 ∙ ap decimal c.if-number-eq0.true) ∙ same)))
