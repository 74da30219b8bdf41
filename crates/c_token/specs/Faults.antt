-- What keeps a text from being tokens.
use Rattle.std.specs.Prelude.{◌≡◌, ℕ, ◌<◌, true, false, List, length, take, drop}
use Rattle.c_tree.specs.declared.token.Token.{Token}
use Rattle.c_tree.specs.Tokens.Characters.{begins, is_blank}
use Rattle.c_tree.specs.Tokens.Lexing.{opens_directive, directive_of, is_skipped, is_bound_line, Reaches}
use Rattle.c_lexemes.specs.Unread.{HasNoToken, IsOpenComment, IsBadNumber}

-- nothing begins here: no token, no blank, no comment (it would begin with the mark `/`), no line of `#`
pub record IsStrayByte (before here : List ℕ) : Type 0 where
  pub some : 0 < length here
  pub no_blank : begins is_blank here ≡ false
  pub no_directive : opens_directive before here ≡ false
  pub no_token : HasNoToken here

-- a line of `#` that is none of the permitted ones
pub record IsBadDirective (before here : List ℕ) : Type 0 where
  pub opens : opens_directive before here ≡ true
  pub not_skipped : is_skipped (directive_of here) ≡ false
  pub no_bound : is_bound_line (directive_of here) ≡ false

-- From the text's start tokens and what separates them reach a place, and of the bytes before and behind it P is true.
pub record StopsAt (text : List ℕ) (P : List ℕ → List ℕ → Type 0) (at : ℕ) : Type 0 where
  pub tokens : List Token
  pub reached : Reaches text at 0 tokens
  pub stops : P (take at text) (drop at text)

-- no token begins at a place that is reached
abbrev pub HasStrayByte : List ℕ → ℕ → Type 0
HasStrayByte text at = StopsAt text IsStrayByte at

abbrev pub HasOpenComment : List ℕ → ℕ → Type 0
HasOpenComment text at = StopsAt text (λ before here. IsOpenComment here) at

abbrev pub HasBadNumber : List ℕ → ℕ → Type 0
HasBadNumber text at = StopsAt text (λ before here. IsBadNumber here) at

abbrev pub HasBadDirective : List ℕ → ℕ → Type 0
HasBadDirective text at = StopsAt text IsBadDirective at
