use Rattle.std.proofs.Common.{◌++◌, length, refl, drop, sym, ap, ◌∙◌, append-nil, append_assoc}
use Rattle.std.proofs.lemmas.Option.{slice_get_read}
use Rattle.std.specs.Fmt.{signed_decimal}
use Rattle.c_input.specs.InputTexts.{led_numbers}
use Rattle.c_input.proofs.InputParts.{drop_none}
use Rattle.c_input.proofs.InputSteps.{no_numbers, write_step}
use Rattle.c_input.proofs.writing.led.Goals as goal

pub returns-in_default : goal.returns-in_default
returns-in_default c =
    let ls = c.args.leads.now in
    let i = c.loop-i.i in
    let text = c.loop-i.text.items in
    let none = drop_none c.args.numbers.now i (sym c.in_default.ensures) in
    sym (append-nil text) ∙ ap (λ more. text ++ more) (sym (no_numbers (drop i ls))) ∙ ap (λ zs. text ++ led_numbers (drop i ls) zs) (sym none) ∙ c.loop-i.invariant

pub loop-i-preserved : goal.loop-i-preserved
loop-i-preserved c =
    let ls = c.args.leads.now in
    let i = c.loop-i.i in
    let text = c.loop-i.text.items in
    let lead = c.index-leads-i.result in
    let number = signed_decimal c.in-Some.number.now in
    let there = slice_get_read ls (length ls) i lead refl c.loop-i-test.true c.index-leads-i.is in
    let pushed = c.in_ok-push_number.ensures ∙ append_assoc text c.as_slice.result.now number ∙ ap (λ lead. text ++ (lead ++ number)) c.as_slice.ensures in
    write_step ls c.args.numbers.now i lead c.in-Some.number.now text c.push_number.new.text.items _ there (sym c.in-Some.ensures) pushed c.loop-i.invariant
