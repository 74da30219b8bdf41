use Rattle.std.proofs.Common.{sym, ap, ◌∙◌}
use Rattle.std.specs.Result.{result_ok}
use Rattle.c_input.proofs.InputSteps.{number_is_text, number_is_read, text_is_read, text_is}
use Rattle.c_input.proofs.reading.number_of.Goals as goal

pub returns-in_err-ok : goal.returns-in_err-ok
returns-in_err-ok c = λ z small is.
    absurd (text_is_read _ c.from_utf8.result (number_is_text z c.args.bytes.now small is) (sym c.ok.ensures.value ∙ c.in_err-ok.was) c.from_utf8.ensures.cases)

pub returns : goal.returns
returns c = λ z small is.
    let text = text_is _ c.from_utf8.result c.in_ok-ok.field-0 (sym c.ok.ensures.value ∙ c.in_ok-ok.was) c.from_utf8.ensures.cases in
    c.ok-2.ensures.value ∙ ap result_ok (number_is_read z c.in_ok-ok.field-0.now c.parse.result small (text ∙ is) c.parse.ensures.value.0)
