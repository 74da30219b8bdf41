use Rattle.std.proofs.Common.{◌∙◌}
use Rattle.c_input.proofs.InputRead.{finds, nothing_read, checked_read}
use Rattle.c_input.proofs.reading.read_input.Goals as goal

pub returns-in-None : goal.returns-in-None
returns-in-None c =
    let told = finds c.args.program.now c.as_slice.result.now c.as_bytes.result.now c.args.text.now c.in_ok-numbers_in.field-0 (c.as_slice.ensures ∙ c.in_ok-leads.ensures) c.as_bytes.ensures.value c.in_ok-numbers_in.ensures in
    record { input = nothing_read c.args.program.now c.args.text.now c.in_ok-numbers_in.field-0 told c.in-None.is }

pub returns : goal.returns
returns c =
    let told = finds c.args.program.now c.as_slice.result.now c.as_bytes.result.now c.args.text.now c.in_ok-numbers_in.field-0 (c.as_slice.ensures ∙ c.in_ok-leads.ensures) c.as_bytes.ensures.value c.in_ok-numbers_in.ensures in
    record { input = checked_read c.args.program.now c.as_bytes-in-Some.result.now c.args.text.now c.in-Some.values c.in_ok-numbers_in.field-0 c.checked.result told c.in-Some.is c.as_bytes-in-Some.ensures.value c.checked.ensures }
