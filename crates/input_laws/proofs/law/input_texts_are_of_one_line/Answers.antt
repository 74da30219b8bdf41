use Rattle.input_laws.proofs.OneLine.{text_feedless}
use Rattle.input_laws.proofs.law.input_texts_are_of_one_line.Goals as goal

pub returns : goal.returns
returns c = text_feedless
