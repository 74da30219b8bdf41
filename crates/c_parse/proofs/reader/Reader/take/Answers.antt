use Rattle.std.proofs.lemmas.List.{take_rest}
use Rattle.c_parse.proofs.Tokens.{lexemes-tail}
use Rattle.c_parse.proofs.reader.Reader.take.Goals as goal

pub returns : goal.returns
returns c = rw take_rest (lexemes-tail _ _ _ c.self.view_is)
