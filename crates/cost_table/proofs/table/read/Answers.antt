use Rattle.std.proofs.lemmas.Bool.{true≢false}
use Rattle.std.proofs.Common.{sym, ◌∙◌}
use Rattle.cost_document.proofs.Reading.{document_read, document_refused}
use Rattle.cost_table.proofs.table.read.Goals as goal

pub returns-in-Ok-clause-document : goal.returns-in-Ok-clause-document
returns-in-Ok-clause-document c = document_read _ _ c.in-Ok.ensures.ok.0 c.in-Ok.ensures.ok.1

pub returns-else-is_memory-clause-refused : goal.returns-else-is_memory-clause-refused
returns-else-is_memory-clause-refused c other = document_refused _ (c.in-Err.ensures.refused (λ memory. absurd (true≢false (sym (c.is_memory.ensures.1 memory) ∙ c.if-is_memory.false))))
