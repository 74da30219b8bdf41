use Rattle.c_tree.proofs.laws.symbols.tables_agree.Goals as goal
use Rattle.c_tree.specs.Tokens.TokenKinds.{marks, keywords}
use Rattle.std.specs.Prelude.{refl}

pub returns-clause-marks_have_symbols : goal.returns-clause-marks_have_symbols
unfolding marks
returns-clause-marks_have_symbols c = refl

pub returns-clause-symbols_have_marks : goal.returns-clause-symbols_have_marks
unfolding marks
returns-clause-symbols_have_marks c = refl

pub returns-clause-words_are_keywords : goal.returns-clause-words_are_keywords
unfolding keywords
returns-clause-words_are_keywords c = refl
