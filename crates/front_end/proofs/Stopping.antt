-- What the readers' answers say of a text.
use Rattle.std.proofs.Common.{◌≡◌, ◌≤◌, ℕ, ◌↔◌, List, length, Result, Err, refl, subst}
use Rattle.std.specs.Prelude.{IsOkAnd}
use Rattle.c_tree.specs.declared.token.Token.{Token}
use Rattle.c_tree.specs.declared.unit.Unit.{Unit as Tree}
use Rattle.c_tree.specs.Grammar.Heights.{unit_height}
use Rattle.c_tree.specs.Tokens.Lexing.{Lexes}
use Rattle.c_tree.specs.Grammar.Spelling.{Spells}
use Rattle.c_token.specs.declared.fault.TokenFault.{TokenFault}
use Rattle.c_token.specs.declared.fault.TokenFault.TheVariants as token
use Rattle.c_token.specs.Faults.{HasStrayByte, HasOpenComment, HasBadNumber, HasBadDirective}
use Rattle.c_token.specs.Answers.{UnlessNoMemory}
use Rattle.c_token.proofs.Answering.{lexed_once}
use Rattle.c_parse.specs.declared.fault.ParseFault.{ParseFault}
use Rattle.c_parse.specs.declared.fault.ParseFault.TheVariants as parse
use Rattle.c_parse.specs.Answers.{Gives, IsRefusal}
use Rattle.front_end.specs.Accepted.{IsRead}
use Rattle.front_end.specs.Refusing.{RefusesText}
use Rattle.front_end.specs.Halts.{IsStop, token_stop, parse_stop}

-- the work on a text with a fault stops as the fault says
pub token_failed : {T : Type 0} (text entry : List ℕ) (fault : TokenFault) (P : List Token → T → Type 0) → length text ≤ 1048576
    → ((at : ℕ) → let r : Result T TokenFault = Err fault in UnlessNoMemory r ((r ≡ Err (token.Byte at)) ↔ HasStrayByte text at))
    → ((at : ℕ) → let r : Result T TokenFault = Err fault in UnlessNoMemory r ((r ≡ Err (token.Comment at)) ↔ HasOpenComment text at))
    → ((at : ℕ) → let r : Result T TokenFault = Err fault in UnlessNoMemory r ((r ≡ Err (token.Number at)) ↔ HasBadNumber text at))
    → ((at : ℕ) → let r : Result T TokenFault = Err fault in UnlessNoMemory r ((r ≡ Err (token.Directive at)) ↔ HasBadDirective text at))
    → ((ts : List Token) → Lexes text ts → let r : Result T TokenFault = Err fault in UnlessNoMemory r (IsOkAnd r (P ts)))
    → IsStop (token_stop fault) (λ r. RefusesText r text entry)
token_failed text entry (token.Byte at) P short byte comment number directive complete =
    (record { short = short; none = λ ts lexes. complete ts lexes }, (byte at).0 refl)
token_failed text entry (token.Comment at) P short byte comment number directive complete =
    (record { short = short; none = λ ts lexes. complete ts lexes }, (comment at).0 refl)
token_failed text entry (token.Number at) P short byte comment number directive complete =
    (record { short = short; none = λ ts lexes. complete ts lexes }, (number at).0 refl)
token_failed text entry (token.Directive at) P short byte comment number directive complete =
    (record { short = short; none = λ ts lexes. complete ts lexes }, (directive at).0 refl)
token_failed text entry token.NoMemory P short byte comment number directive complete = tt

-- the work on tokens that spell no tree stops so
pub parse_failed : (text entry : List ℕ) (tokens : List Token) (fault : ParseFault) → length text ≤ 1048576 → Lexes text tokens
    → ((unit : Tree) → Spells text tokens unit → unit_height unit ≤ 128 → fault ≡ parse.NoMemory)
    → IsRefusal text tokens fault → IsStop (parse_stop fault) (λ r. RefusesText r text entry)
parse_failed text entry tokens (parse.Syntax at) short lexed read refused = record {
  short = short;
  tokens = tokens;
  lexed = lexed;
  place = refused;
  none = λ unit h. none unit h;
}
  where
    none : (unit : Tree) → IsRead text unit → ⊥
    none unit h =
        let same = lexed_once text h.of_text.tokens tokens h.of_text.lexed lexed in
        let no_memory = read unit (subst (λ ts. Spells text ts unit) same h.of_text.spelled) h.low in
        absurd (cc)
parse_failed text entry tokens (parse.Depth at) short lexed read refused = refused
parse_failed text entry tokens parse.NoMemory short lexed read refused = tt
