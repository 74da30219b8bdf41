use Rattle.std.proofs.Common.{ap, sym, ◌∙◌}
use Rattle.c_tree.specs.Tokens.Symbols.{Lexeme, lexeme}
use Rattle.parse_laws.specs.Lexeme.{raw_bound}
use Rattle.c_parse.proofs.Tokens.{head_lexeme-lexemes}
use Rattle.parse_laws.proofs.Reading.Steps.{head_lexeme-is}
use Rattle.c_parse.proofs.reader.Reader.loop_bound.Goals as goal

pub returns : goal.returns
unfolding lexeme
returns c =
    let first = head_lexeme-lexemes _ _ _ _ c.requires.some c.self.view_is in
    let is = ap (λ (t : Lexeme). t.symbol) (sym first) ∙ head_lexeme-is _ _ c.requires.bound in
    rw (c.bound_of.ensures _ is) (sym (ap (λ (t : Lexeme). raw_bound t) first))
