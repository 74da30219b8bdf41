use Rattle.std.proofs.Common.{◌∙◌}
use Rattle.std.specs.Fmt.{signed_decimal}
use Rattle.c_input.proofs.InputSteps.{behind_label, number_found, kept, none_some, some_same}
use Rattle.c_input.proofs.reading.number_behind.Goals as goal

pub returns-in_err-number : goal.returns-in_err-number
returns-in_err-number c = λ label more z long small apart is.
    let behind = behind_label label (signed_decimal z) more c.args.text.now c.after-behind.result.now c.args.count long is c.after-behind.ensures in
    let found = number_found z more c.after-behind.result.now c.number_len-end.result small apart behind c.number_len-end.ensures.value in
    absurd (none_some c.number_of.result z c.in_err-number.was (c.number_of.ensures z small found.0))

pub returns : goal.returns
returns c = λ label more z long small apart is.
    let behind = behind_label label (signed_decimal z) more c.args.text.now c.after-behind.result.now c.args.count long is c.after-behind.ensures in
    let found = number_found z more c.after-behind.result.now c.number_len-end.result small apart behind c.number_len-end.ensures.value in
    let number = some_same c.number_of.result c.in_ok-number.number z c.in_ok-number.was (c.number_of.ensures z small found.0) in
    (kept c.in_ok-number.number z small number, c.after.ensures ∙ found.1)
