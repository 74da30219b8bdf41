use Rattle.std.proofs.Common.{◌≡◌, length}
use Rattle.cnf_form.specs.LogReading.{InLog}
use Rattle.cnf_form.proofs.log_text.read_lines.Given as goal

abbrev pub invariant-loop-rest : goal.invariant-loop-rest
invariant-loop-rest l = record {
  place : InLog l.text l.rest l.count l.lines.items;
  seen : l.seen ≡ length l.lines.items;
}

abbrev pub decreases-loop-rest : goal.decreases-loop-rest
decreases-loop-rest l = length l.rest
