use Rattle.std.proofs.Common.{length}
use Rattle.text_lines.proofs.Leaving.{is_empty}
use Rattle.cnf_form.proofs.Logs.LogTexts.{behind_head, head_cut_off, no_head_here, empty_text}
use Rattle.cnf_form.proofs.log_text.read_log.Goals as goal

pub returns-then-is_empty-clause-fault : goal.returns-then-is_empty-clause-fault
returns-then-is_empty-clause-fault c = empty_text c.args.text.now (is_empty (length c.args.text.now) c.is_empty.result c.is_empty.ensures c.if-is_empty.true)

pub read_lines-requires : goal.read_lines-requires
read_lines-requires c = behind_head c.args.text.now c.first_line.result.0.now c.first_line.result.1.now c.in-Is.count c.first_line.ensures c.in-Is.ensures

pub returns-in-MayGrow-clause-fault : goal.returns-in-MayGrow-clause-fault
returns-in-MayGrow-clause-fault c = head_cut_off c.args.text.now c.first_line.result.0.now c.first_line.result.1.now c.first_line.ensures c.in-MayGrow.ensures

pub returns-in-Breaks-clause-fault : goal.returns-in-Breaks-clause-fault
returns-in-Breaks-clause-fault c = no_head_here c.args.text.now c.first_line.result.0.now c.first_line.result.1.now c.first_line.ensures c.in-Breaks.ensures
