use Rattle.std.proofs.Common.{◌+◌, drop, false}
use Rattle.c_tree.specs.Meaning.Blocks.{list_blocks}
use Rattle.peak_laws.specs.ProgramParts.{list_part}
use Rattle.ipet_peak.specs.Pieces.{parts_above, costs_after}
use Rattle.ipet_peak.proofs.PartSteps.{Stands}
use Rattle.ipet_peak.proofs.pieces.+pieces.Given as goal

-- what is added, and then the rest, is the whole
abbrev pub invariant-list_pieces-loop-stmt : goal.invariant-list_pieces-loop-stmt
invariant-list_pieces-loop-stmt l =
    let qs = parts_above l.scope.costs.now l.scope.funcs.now in
    let cost = costs_after l.scope.costs.now l.scope.funcs.now in
    Stands qs cost (drop l.stmt-index l.list) l.run l.block l.out l.initial.out (list_part qs cost l.list l.at false) (l.at + list_blocks l.list false)
