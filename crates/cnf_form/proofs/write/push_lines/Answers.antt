use Rattle.std.proofs.Common.{All, subst, arith}
use Rattle.std.proofs.lemmas.List.{take_all}
use Rattle.std.proofs.lemmas.Grind.{common_steps}
use Rattle.std.proofs.lemmas.List.Elements.{All-more}
use Rattle.cnf_form.specs.Forms.{IsLogLine}
use Rattle.cnf_form.proofs.write.push_lines.Goals as goal

pub loop-line-preserved : goal.loop-line-preserved
loop-line-preserved c = record {
  text = grind (arith, common_steps);
  each = All-more IsLogLine c.args.lines.now c.loop-line.line-index c.line-item.result c.loop-line-test.true c.loop-line.invariant.each (subst IsLogLine c.line-item.is c.in_ok-push_line.ensures.each);
}

pub returns-clause-each : goal.returns-clause-each
returns-clause-each c = subst (All IsLogLine) (take_all c.loop-line.line-index c.args.lines.now c.loop-line-test.false) c.loop-line.invariant.each
