use Rattle.std.proofs.Common.{ap, sym}
use Rattle.c_tree.specs.Tokens.Symbols.{Lexeme, lexeme}
use Rattle.c_parse.proofs.Tokens.{head_lexeme-lexemes}
use Rattle.c_parse.proofs.reader.Reader.place.Goals as goal

pub returns : goal.returns
unfolding lexeme
returns c = sym (ap (λ (t : Lexeme). t.at) (head_lexeme-lexemes _ _ _ _ c.requires c.self.view_is))
