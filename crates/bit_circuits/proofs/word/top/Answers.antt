use Rattle.std.proofs.Common.{◌≡◌, ◌<◌, ◌-◌, length, arith, ◌∙◌}
use Rattle.std.proofs.lemmas.Bool.Decides.{nat_tests}
use Rattle.std.proofs.lemmas.List.{get_or_default}
use Rattle.bit_circuits.specs.Words.{false_literal}
use Rattle.bit_circuits.proofs.Circuits.Parts.{last-top}
use Rattle.bit_circuits.proofs.word.top.Goals as goal

pub returns-else-is_empty : goal.returns-else-is_empty
returns-else-is_empty c =
    let xs = c.args.xs.now in
    let h : length xs - 1 < length xs = grind (arith, nat_tests) in
    c.index-xs-xs.is ∙ get_or_default xs (length xs - 1) c.index-xs-xs.result false_literal h ∙ last-top xs
