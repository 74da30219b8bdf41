-- Keywords, and the marks of one byte that stand as tokens whatever follows.
use Rattle.std.proofs.Common.{◌≡◌, ℕ, true, false, List, [], ◌∷◌, Some, refl}
use Rattle.std.specs.Prelude.{codes}
use Rattle.std.specs.List.{list_all}
use Rattle.c_tree.specs.declared.tree.Ty.{Ty}
use Rattle.c_tree.specs.declared.tree.Ty.TheVariants as ty
use Rattle.c_tree.specs.declared.token.Kind.TheVariants as kind
use Rattle.c_tree.specs.Tokens.Characters.{is_digit, is_nondigit, is_name_byte, is_sign}
use Rattle.c_tree.specs.Tokens.TokenKinds.{is_number_run, keywords, kind_of}
use Rattle.print_laws.specs.PrintedExpressions.{type_text}
use Rattle.print_laws.proofs.Composing.Composed.{Stands}
use Rattle.print_laws.proofs.Apart.Standing.{EndsNumber, word_stands}
use Rattle.print_laws.proofs.Apart.StandingMarks.{left_paren_stands, right_paren_stands, left_bracket_stands, right_bracket_stands, left_brace_stands, right_brace_stands, semicolon_stands, comma_stands}

-- ---- keywords

-- the bytes are a keyword before each byte that no name goes on with
pub record IsKeyword (bytes : List ℕ) : Type 0 where
  pub first : ℕ
  pub more : List ℕ
  pub split : bytes ≡ first ∷ more
  pub stands : (c : ℕ) (after : List ℕ) → is_name_byte c ≡ false → Stands kind.Word (first ∷ more) (c ∷ after)

keyword : (d : ℕ) (ds : List ℕ) → is_nondigit d ≡ true → list_all is_name_byte ds ≡ true → kind_of (d ∷ ds) ≡ Some kind.Word → IsKeyword (d ∷ ds)
keyword d ds first all is = record { first = d; more = ds; split = refl; stands = λ c after. word_stands d ds kind.Word c after first all is }

pub type_word : (t : Ty) → IsKeyword (type_text t)
unfolding type_text kind_of is_number_run keywords is_name_byte is_nondigit is_digit
type_word ty.Int = keyword 105 (codes "nt") refl refl refl
type_word ty.Unsigned = keyword 117 (codes "nsigned") refl refl refl

pub int_word : IsKeyword (codes "int")
unfolding kind_of is_number_run keywords is_name_byte is_nondigit is_digit
int_word = keyword 105 (codes "nt") refl refl refl

pub void_word : IsKeyword (codes "void")
unfolding kind_of is_number_run keywords is_name_byte is_nondigit is_digit
void_word = keyword 118 (codes "oid") refl refl refl

pub extern_word : IsKeyword (codes "extern")
unfolding kind_of is_number_run keywords is_name_byte is_nondigit is_digit
extern_word = keyword 101 (codes "xtern") refl refl refl

pub return_word : IsKeyword (codes "return")
unfolding kind_of is_number_run keywords is_name_byte is_nondigit is_digit
return_word = keyword 114 (codes "eturn") refl refl refl

pub break_word : IsKeyword (codes "break")
unfolding kind_of is_number_run keywords is_name_byte is_nondigit is_digit
break_word = keyword 98 (codes "reak") refl refl refl

pub continue_word : IsKeyword (codes "continue")
unfolding kind_of is_number_run keywords is_name_byte is_nondigit is_digit
continue_word = keyword 99 (codes "ontinue") refl refl refl

pub if_word : IsKeyword (codes "if")
unfolding kind_of is_number_run keywords is_name_byte is_nondigit is_digit
if_word = keyword 105 (codes "f") refl refl refl

pub else_word : IsKeyword (codes "else")
unfolding kind_of is_number_run keywords is_name_byte is_nondigit is_digit
else_word = keyword 101 (codes "lse") refl refl refl

pub while_word : IsKeyword (codes "while")
unfolding kind_of is_number_run keywords is_name_byte is_nondigit is_digit
while_word = keyword 119 (codes "hile") refl refl refl

pub do_word : IsKeyword (codes "do")
unfolding kind_of is_number_run keywords is_name_byte is_nondigit is_digit
do_word = keyword 100 (codes "o") refl refl refl

pub for_word : IsKeyword (codes "for")
unfolding kind_of is_number_run keywords is_name_byte is_nondigit is_digit
for_word = keyword 102 (codes "or") refl refl refl

-- ---- marks

-- the byte is a mark before each byte, and no number goes on with it
pub record IsSingle (c : ℕ) : Type 0 where
  pub ends : EndsNumber c
  pub stands : (next : ℕ) (after : List ℕ) → Stands kind.Mark (c ∷ []) (next ∷ after)

pub left_paren : IsSingle 40
unfolding is_name_byte is_nondigit is_digit is_sign
left_paren = record { ends = record { no_name = refl; no_dot = refl; no_sign = refl }; stands = left_paren_stands }

pub right_paren : IsSingle 41
unfolding is_name_byte is_nondigit is_digit is_sign
right_paren = record { ends = record { no_name = refl; no_dot = refl; no_sign = refl }; stands = right_paren_stands }

pub left_bracket : IsSingle 91
unfolding is_name_byte is_nondigit is_digit is_sign
left_bracket = record { ends = record { no_name = refl; no_dot = refl; no_sign = refl }; stands = left_bracket_stands }

pub right_bracket : IsSingle 93
unfolding is_name_byte is_nondigit is_digit is_sign
right_bracket = record { ends = record { no_name = refl; no_dot = refl; no_sign = refl }; stands = right_bracket_stands }

pub left_brace : IsSingle 123
unfolding is_name_byte is_nondigit is_digit is_sign
left_brace = record { ends = record { no_name = refl; no_dot = refl; no_sign = refl }; stands = left_brace_stands }

pub right_brace : IsSingle 125
unfolding is_name_byte is_nondigit is_digit is_sign
right_brace = record { ends = record { no_name = refl; no_dot = refl; no_sign = refl }; stands = right_brace_stands }

pub semicolon : IsSingle 59
unfolding is_name_byte is_nondigit is_digit is_sign
semicolon = record { ends = record { no_name = refl; no_dot = refl; no_sign = refl }; stands = semicolon_stands }

pub comma : IsSingle 44
unfolding is_name_byte is_nondigit is_digit is_sign
comma = record { ends = record { no_name = refl; no_dot = refl; no_sign = refl }; stands = comma_stands }
