use Rattle.std.proofs.Common.{◌≡◌, ◌++◌, drop}
use Rattle.c_input.specs.InputTexts.{led_numbers}
use Rattle.c_input.proofs.writing.led.Given as goal

abbrev pub invariant-loop-i : goal.invariant-loop-i
invariant-loop-i l = l.text.items ++ led_numbers (drop l.i l.leads) (drop l.i l.numbers) ≡ led_numbers l.leads l.numbers
