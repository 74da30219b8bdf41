use Rattle.std.proofs.Common.{◌≡◌, sym, ◌∙◌, ap}
use Rattle.std.specs.Fmt.{decimal}
use Rattle.std.proofs.lemmas.Bool.{false≢true}
use Rattle.std.proofs.lemmas.Bool.Decides.{Decides-eqb}
use Rattle.std.proofs.lemmas.Slice.Eq.{slice_eq-Decides}
use Rattle.std.proofs.lemmas.Fmt.{parse-decimal_wide}
use Rattle.text_lines.proofs.Decimals.{wide, is_text}
use Rattle.text_lines.proofs.number.number_of.Goals as goal

pub returns-in_default : goal.returns-in_default
returns-in_default c = λ n small is. c.in_default.ensures.cases.0 (is_text c.args.bytes.now n small is)

pub returns-in_default-parse : goal.returns-in_default-parse
returns-in_default-parse c = λ n small is.
    let read = parse-decimal_wide 128 n c.in-Ok.text.now c.parse.result small (wide n small) (c.in-Ok.ensures.cases.0 ∙ is) c.parse.ensures.value.0 in
    let not_read = c.in_default-parse.is in
    cc

pub returns-else-eq : goal.returns-else-eq
returns-else-eq c = λ n small is.
    let read = parse-decimal_wide 128 n c.in-Ok.text.now c.parse.result small (wide n small) (c.in-Ok.ensures.cases.0 ∙ is) c.parse.ensures.value.0 in
    let was = c.in-Ok-parse.is in
    let number : n ≡ c.in-Ok-parse.number = cc in
    let equal = slice_eq-Decides Decides-eqb c.as_bytes.result.now c.args.bytes.now c.eq.result c.eq.ensures in
    false≢true (sym c.if-eq.false ∙ equal.1 (c.as_bytes.ensures.value ∙ c.format.ensures.text ∙ ap decimal (sym number) ∙ sym is))
