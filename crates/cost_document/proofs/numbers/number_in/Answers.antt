use Rattle.std.proofs.Common.{sym, subst, arith}
use Rattle.cost_document.specs.Marking.{IsNumberOfKey}
use Rattle.cost_document.proofs.NumberedKeys.{no_colon, no_digits, fits}
use Rattle.cost_document.proofs.numbers.number_in.Goals as goal

pub returns-in_default-behind : goal.returns-in_default-behind
returns-in_default-behind c = no_colon c.args.key.now c.args.function.now c.in-Some.numbered.now c.in-Some.ensures c.in_default-behind.ensures

pub returns-in_default-number_of : goal.returns-in_default-number_of
returns-in_default-number_of c =
    no_digits c.args.key.now c.args.function.now c.in-Some.numbered.now c.in-Some-behind.digits.now c.in-Some.ensures c.in-Some-behind.ensures
    (λ n small. c.in_default-number_of.ensures n (omega (arith, small)))

pub returns : goal.returns
returns c =
    subst (IsNumberOfKey c.args.key.now c.args.function.now) (sym c.ok.ensures.value)
    (fits c.args.key.now c.args.function.now c.in-Some.numbered.now c.in-Some-behind.digits.now c.in-Some-number_of.number c.try_from.result c.in-Some.ensures c.in-Some-behind.ensures
    c.in-Some-number_of.ensures.0 c.in-Some-number_of.ensures.1 c.try_from.ensures)
