use Rattle.std.proofs.Common.{◌≡◌, List, ℤ, drop}
use Rattle.c_input.specs.InputTexts.{led_numbers}
use Rattle.c_input.specs.Reading.{Suits, Remains}
use Rattle.c_input.proofs.reading.numbers_in.Given as goal

abbrev pub invariant-loop-lead : goal.invariant-loop-lead
invariant-loop-lead l =
    (zs : List ℤ) → Suits l.leads zs → l.text ≡ drop 1 (led_numbers l.leads zs) → Remains (drop l.lead-index l.leads) l.values l.rest zs
