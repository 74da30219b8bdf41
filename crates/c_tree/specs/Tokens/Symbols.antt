-- What a token of a text is to the grammar.
use Rattle.std.specs.Prelude.{ℕ, true, if◌then◌else◌, List, [], ◌∷◌, map, codes}
use Rattle.std.specs.Str.{bytes_eq}
use Rattle.c_tree.specs.declared.token.Kind.{Kind}
use Rattle.c_tree.specs.declared.token.Kind.TheVariants as kind
use Rattle.c_tree.specs.declared.token.Token.{Token}
use Rattle.c_tree.specs.declared.tree.Ty.{Ty}
use Rattle.c_tree.specs.declared.tree.Ty.TheVariants as ty
use Rattle.c_tree.specs.declared.tree.BinOp.TheVariants as op
use Rattle.c_tree.specs.declared.unit.Spot.{Spot}
use Rattle.c_tree.specs.declared.symbol.Symbol.{Symbol}
use Rattle.c_tree.specs.declared.symbol.Symbol.TheVariants as s
use Rattle.c_tree.specs.Tokens.Places.{spelling}

-- a keyword or a punctuator, after its bytes
abbrev pub Spelled : Type 0
Spelled = List ℕ × Symbol

-- the keywords of the grammar (C11 6.4.1)
abbrev pub keyword_symbols : List Spelled
keyword_symbols = (codes "int", s.Int) ∷ (codes "unsigned", s.Unsigned) ∷ (codes "signed", s.Signed)
    ∷ (codes "void", s.Void)
    ∷ (codes "if", s.If) ∷ (codes "else", s.Else) ∷ (codes "return", s.Return) ∷ (codes "while", s.While)
    ∷ (codes "for", s.For)
    ∷ (codes "do", s.Do) ∷ (codes "break", s.Break) ∷ (codes "continue", s.Continue)
    ∷ (codes "const", s.Const) ∷ (codes "static", s.Static) ∷ (codes "extern", s.Extern) ∷ []

-- its punctuators (C11 6.4.6)
abbrev pub mark_symbols : List Spelled
mark_symbols = (codes "(", s.LeftParen) ∷ (codes ")", s.RightParen) ∷ (codes "{", s.LeftBrace)
    ∷ (codes "}", s.RightBrace)
    ∷ (codes "[", s.LeftBracket) ∷ (codes "]", s.RightBracket) ∷ (codes ";", s.Semicolon) ∷ (codes ",", s.Comma)
    ∷ (codes "=", s.Assign) ∷ (codes "?", s.Question) ∷ (codes ":", s.Colon) ∷ (codes "~", s.Tilde)
    ∷ (codes "!", s.Exclamation)
    ∷ (codes "++", s.Step op.Add) ∷ (codes "--", s.Step op.Sub)
    ∷ (codes "+", s.Operator op.Add) ∷ (codes "-", s.Operator op.Sub) ∷ (codes "*", s.Operator op.Mul)
    ∷ (codes "/", s.Operator op.Div)
    ∷ (codes "%", s.Operator op.Rem) ∷ (codes "<<", s.Operator op.Shl) ∷ (codes ">>", s.Operator op.Shr)
    ∷ (codes "<", s.Operator op.Lt) ∷ (codes ">", s.Operator op.Gt) ∷ (codes "<=", s.Operator op.Le)
    ∷ (codes ">=", s.Operator op.Ge)
    ∷ (codes "==", s.Operator op.Eq) ∷ (codes "!=", s.Operator op.Ne) ∷ (codes "&", s.Operator op.And)
    ∷ (codes "^", s.Operator op.Xor)
    ∷ (codes "|", s.Operator op.Or) ∷ (codes "&&", s.Operator op.Both) ∷ (codes "||", s.Operator op.Either)
    ∷ (codes "+=", s.Compound op.Add) ∷ (codes "-=", s.Compound op.Sub) ∷ (codes "*=", s.Compound op.Mul)
    ∷ (codes "/=", s.Compound op.Div)
    ∷ (codes "%=", s.Compound op.Rem) ∷ (codes "<<=", s.Compound op.Shl) ∷ (codes ">>=", s.Compound op.Shr)
    ∷ (codes "&=", s.Compound op.And) ∷ (codes "^=", s.Compound op.Xor) ∷ (codes "|=", s.Compound op.Or) ∷ []

abbrev pub look_up : List Spelled → List ℕ → Symbol
look_up [] bytes = s.Other
look_up (entry ∷ rest) bytes = if bytes_eq bytes entry.0 then entry.1 else look_up rest bytes

-- what a token of this kind with these bytes is
abbrev pub symbol_of : Kind → List ℕ → Symbol
symbol_of kind.Word bytes = look_up keyword_symbols bytes
symbol_of kind.Name bytes = s.Name
symbol_of (kind.Number unsigned value) bytes = s.Number
symbol_of kind.Mark bytes = look_up mark_symbols bytes
symbol_of (kind.Bound number) bytes = s.Bound

-- the type of an integer constant (C11 6.4.4.1); `int` for any other token
abbrev pub constant_type : Kind → Ty
constant_type (kind.Number true value) = ty.Unsigned
constant_type _ = ty.Int

-- the value of an integer constant, or the number of a loop bound; 0 for any other token
abbrev pub value_of : Kind → ℕ
value_of (kind.Number unsigned value) = value
value_of (kind.Bound number) = number
value_of _ = 0

-- a token read together with its text; `at` is the place of its first byte
pub record Lexeme : Type 0 where
  pub symbol : Symbol
  pub bytes : List ℕ
  pub ty : Ty
  pub value : ℕ
  pub at : ℕ

unfoldable pub lexeme : List ℕ → Token → Lexeme
lexeme text t = record {
  symbol = symbol_of t.kind (spelling text t);
  bytes = spelling text t;
  ty = constant_type t.kind;
  value = value_of t.kind;
  at = t.from;
}

unfoldable pub lexemes : List ℕ → List Token → List Lexeme
lexemes text tokens = map (lexeme text) tokens

-- a token as a name
abbrev pub spot : Lexeme → Spot
spot t = record { name = t.bytes; at = t.at }
