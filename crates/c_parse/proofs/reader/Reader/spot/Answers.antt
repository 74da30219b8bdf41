use Rattle.std.proofs.Common.{ap, sym}
use Rattle.c_tree.specs.Tokens.Symbols.{Lexeme, lexeme, spot}
use Rattle.c_parse.proofs.Tokens.{head_lexeme-lexemes}
use Rattle.c_parse.proofs.reader.Reader.spot.Goals as goal

pub returns : goal.returns
unfolding lexeme
returns c = rw c.in_ok-name.ensures (sym (ap (λ (t : Lexeme). spot t) (head_lexeme-lexemes _ _ _ _ c.requires c.self.view_is)))
