use Rattle.cnf_form.proofs.write.write_log.Goals as goal

pub returns-in-Ok-clause-form : goal.returns-in-Ok-clause-form
returns-in-Ok-clause-form c = record { written = c.in-Ok.ensures.text; few = c.args.log.now.few; each = c.in-Ok.ensures.each }
