use Rattle.std.proofs.Common.{ap, sym, ◌∙◌}
use Rattle.c_tree.specs.Tokens.Symbols.{Lexeme, lexeme}
use Rattle.parse_laws.specs.Lexeme.{constant_expr}
use Rattle.c_parse.proofs.Tokens.{head_lexeme-lexemes}
use Rattle.parse_laws.proofs.Reading.Steps.{head_lexeme-is}
use Rattle.c_parse.proofs.reader.Reader.constant.Goals as goal

pub returns-clause-value : goal.returns-clause-value
unfolding lexeme
returns-clause-value c =
    let first = head_lexeme-lexemes _ _ _ _ c.requires.some c.self.view_is in
    let is = ap (λ (t : Lexeme). t.symbol) (sym first) ∙ head_lexeme-is _ _ c.requires.number in
    rw (c.constant_of-ty.ensures.ty, c.constant_of-ty.ensures.value _ is) (sym (ap (λ (t : Lexeme). constant_expr t) first))
