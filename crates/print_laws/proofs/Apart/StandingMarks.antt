-- Marks stand as tokens where what follows cannot extend them.
use Rattle.std.proofs.Common.{◌≡◌, ℕ, true, false, eqb, List, ◌∷◌, ◌++◌, Some, refl}
use Rattle.std.specs.Prelude.{codes}
use Rattle.c_tree.specs.declared.token.Kind.TheVariants.{Mark}
use Rattle.c_tree.specs.declared.tree.BinOp.{BinOp}
use Rattle.c_tree.specs.declared.tree.BinOp.TheVariants as op
use Rattle.c_tree.specs.declared.tree.UnOp.{UnOp}
use Rattle.c_tree.specs.declared.tree.UnOp.TheVariants as un
use Rattle.c_tree.specs.Tokens.Characters.{is_nondigit, is_digit, is_name_byte}
use Rattle.c_tree.specs.Tokens.TokenKinds.{marks, keywords, is_name, is_number_run, could_be_token, kind_of}
use Rattle.c_tree.specs.Keeping.WellFormed.{is_compound}
use Rattle.c_tree.specs.Tokens.Lexing.{opens_block_comment, opens_line_comment}
use Rattle.print_laws.specs.PrintedExpressions.{un_text, bin_text}
use Rattle.print_laws.proofs.Composing.Composed.{Stands}

mark : (w : List ℕ) (c : ℕ) (after : List ℕ) → kind_of w ≡ Some Mark → could_be_token w ≡ true → ((more : List ℕ) → could_be_token (w ++ c ∷ more) ≡ false)
    → opens_block_comment (w ++ c ∷ after) ≡ false → opens_line_comment (w ++ c ∷ after) ≡ false → Stands Mark w (c ∷ after)
mark w c after is could stops block line =
    record { next = c; after = after; goes_on = refl; kind_is = is; could_be = could; stops = stops; no_block_comment = block; no_line_comment = line }

-- ---- before any byte

pub left_paren_stands : (c : ℕ) (after : List ℕ) → Stands Mark (codes "(") (c ∷ after)
unfolding could_be_token is_name is_number_run marks keywords kind_of opens_block_comment opens_line_comment is_name_byte is_nondigit is_digit
left_paren_stands c after = mark (codes "(") c after refl refl (λ more. refl) refl refl

pub right_paren_stands : (c : ℕ) (after : List ℕ) → Stands Mark (codes ")") (c ∷ after)
unfolding could_be_token is_name is_number_run marks keywords kind_of opens_block_comment opens_line_comment is_name_byte is_nondigit is_digit
right_paren_stands c after = mark (codes ")") c after refl refl (λ more. refl) refl refl

pub left_bracket_stands : (c : ℕ) (after : List ℕ) → Stands Mark (codes "[") (c ∷ after)
unfolding could_be_token is_name is_number_run marks keywords kind_of opens_block_comment opens_line_comment is_name_byte is_nondigit is_digit
left_bracket_stands c after = mark (codes "[") c after refl refl (λ more. refl) refl refl

pub right_bracket_stands : (c : ℕ) (after : List ℕ) → Stands Mark (codes "]") (c ∷ after)
unfolding could_be_token is_name is_number_run marks keywords kind_of opens_block_comment opens_line_comment is_name_byte is_nondigit is_digit
right_bracket_stands c after = mark (codes "]") c after refl refl (λ more. refl) refl refl

pub left_brace_stands : (c : ℕ) (after : List ℕ) → Stands Mark (codes "{") (c ∷ after)
unfolding could_be_token is_name is_number_run marks keywords kind_of opens_block_comment opens_line_comment is_name_byte is_nondigit is_digit
left_brace_stands c after = mark (codes "{") c after refl refl (λ more. refl) refl refl

pub right_brace_stands : (c : ℕ) (after : List ℕ) → Stands Mark (codes "}") (c ∷ after)
unfolding could_be_token is_name is_number_run marks keywords kind_of opens_block_comment opens_line_comment is_name_byte is_nondigit is_digit
right_brace_stands c after = mark (codes "}") c after refl refl (λ more. refl) refl refl

pub semicolon_stands : (c : ℕ) (after : List ℕ) → Stands Mark (codes ";") (c ∷ after)
unfolding could_be_token is_name is_number_run marks keywords kind_of opens_block_comment opens_line_comment is_name_byte is_nondigit is_digit
semicolon_stands c after = mark (codes ";") c after refl refl (λ more. refl) refl refl

pub comma_stands : (c : ℕ) (after : List ℕ) → Stands Mark (codes ",") (c ∷ after)
unfolding could_be_token is_name is_number_run marks keywords kind_of opens_block_comment opens_line_comment is_name_byte is_nondigit is_digit
comma_stands c after = mark (codes ",") c after refl refl (λ more. refl) refl refl

pub tilde_stands : (c : ℕ) (after : List ℕ) → Stands Mark (codes "~") (c ∷ after)
unfolding could_be_token is_name is_number_run marks keywords kind_of opens_block_comment opens_line_comment is_name_byte is_nondigit is_digit
tilde_stands c after = mark (codes "~") c after refl refl (λ more. refl) refl refl

-- ---- before a blank

pub assign_stands : (after : List ℕ) → Stands Mark (codes "=") (32 ∷ after)
unfolding could_be_token is_name is_number_run marks keywords kind_of opens_block_comment opens_line_comment is_name_byte is_nondigit is_digit
assign_stands after = mark (codes "=") 32 after refl refl (λ more. refl) refl refl

pub question_stands : (after : List ℕ) → Stands Mark (codes "?") (32 ∷ after)
unfolding could_be_token is_name is_number_run marks keywords kind_of opens_block_comment opens_line_comment is_name_byte is_nondigit is_digit
question_stands after = mark (codes "?") 32 after refl refl (λ more. refl) refl refl

pub colon_stands : (after : List ℕ) → Stands Mark (codes ":") (32 ∷ after)
unfolding could_be_token is_name is_number_run marks keywords kind_of opens_block_comment opens_line_comment is_name_byte is_nondigit is_digit
colon_stands after = mark (codes ":") 32 after refl refl (λ more. refl) refl refl

pub binary_stands : (o : BinOp) (after : List ℕ) → Stands Mark (bin_text o) (32 ∷ after)
unfolding could_be_token is_name is_number_run marks keywords kind_of opens_block_comment opens_line_comment is_name_byte is_nondigit is_digit bin_text
binary_stands op.Mul after = mark (codes "*") 32 after refl refl (λ more. refl) refl refl
binary_stands op.Div after = mark (codes "/") 32 after refl refl (λ more. refl) refl refl
binary_stands op.Rem after = mark (codes "%") 32 after refl refl (λ more. refl) refl refl
binary_stands op.Add after = mark (codes "+") 32 after refl refl (λ more. refl) refl refl
binary_stands op.Sub after = mark (codes "-") 32 after refl refl (λ more. refl) refl refl
binary_stands op.Shl after = mark (codes "<<") 32 after refl refl (λ more. refl) refl refl
binary_stands op.Shr after = mark (codes ">>") 32 after refl refl (λ more. refl) refl refl
binary_stands op.Lt after = mark (codes "<") 32 after refl refl (λ more. refl) refl refl
binary_stands op.Gt after = mark (codes ">") 32 after refl refl (λ more. refl) refl refl
binary_stands op.Le after = mark (codes "<=") 32 after refl refl (λ more. refl) refl refl
binary_stands op.Ge after = mark (codes ">=") 32 after refl refl (λ more. refl) refl refl
binary_stands op.Eq after = mark (codes "==") 32 after refl refl (λ more. refl) refl refl
binary_stands op.Ne after = mark (codes "!=") 32 after refl refl (λ more. refl) refl refl
binary_stands op.And after = mark (codes "&") 32 after refl refl (λ more. refl) refl refl
binary_stands op.Xor after = mark (codes "^") 32 after refl refl (λ more. refl) refl refl
binary_stands op.Or after = mark (codes "|") 32 after refl refl (λ more. refl) refl refl
binary_stands op.Both after = mark (codes "&&") 32 after refl refl (λ more. refl) refl refl
binary_stands op.Either after = mark (codes "||") 32 after refl refl (λ more. refl) refl refl

pub compound_stands : (o : BinOp) (after : List ℕ) → is_compound o ≡ true → Stands Mark (bin_text o ++ codes "=") (32 ∷ after)
unfolding could_be_token is_name is_number_run marks keywords kind_of opens_block_comment opens_line_comment is_name_byte is_nondigit is_digit bin_text
compound_stands op.Mul after is = mark (codes "*=") 32 after refl refl (λ more. refl) refl refl
compound_stands op.Div after is = mark (codes "/=") 32 after refl refl (λ more. refl) refl refl
compound_stands op.Rem after is = mark (codes "%=") 32 after refl refl (λ more. refl) refl refl
compound_stands op.Add after is = mark (codes "+=") 32 after refl refl (λ more. refl) refl refl
compound_stands op.Sub after is = mark (codes "-=") 32 after refl refl (λ more. refl) refl refl
compound_stands op.Shl after is = mark (codes "<<=") 32 after refl refl (λ more. refl) refl refl
compound_stands op.Shr after is = mark (codes ">>=") 32 after refl refl (λ more. refl) refl refl
compound_stands op.Lt after is = absurd (cc)
compound_stands op.Gt after is = absurd (cc)
compound_stands op.Le after is = absurd (cc)
compound_stands op.Ge after is = absurd (cc)
compound_stands op.Eq after is = absurd (cc)
compound_stands op.Ne after is = absurd (cc)
compound_stands op.And after is = mark (codes "&=") 32 after refl refl (λ more. refl) refl refl
compound_stands op.Xor after is = mark (codes "^=") 32 after refl refl (λ more. refl) refl refl
compound_stands op.Or after is = mark (codes "|=") 32 after refl refl (λ more. refl) refl refl
compound_stands op.Both after is = absurd (cc)
compound_stands op.Either after is = absurd (cc)

-- ---- a unary operator before its operand

pub unary_stands : (o : UnOp) (c : ℕ) (after : List ℕ) → eqb 43 c ≡ false → eqb 45 c ≡ false → eqb 61 c ≡ false → Stands Mark (un_text o) (c ∷ after)
unfolding could_be_token is_name is_number_run marks keywords kind_of opens_block_comment opens_line_comment is_name_byte is_nondigit is_digit un_text
unary_stands un.Plus c after plus minus equals = mark (codes "+") c after refl refl (λ more. rw (plus, equals) refl) refl refl
unary_stands un.Minus c after plus minus equals = mark (codes "-") c after refl refl (λ more. rw (minus, equals) refl) refl refl
unary_stands un.Flip c after plus minus equals = mark (codes "~") c after refl refl (λ more. refl) refl refl
unary_stands un.Not c after plus minus equals = mark (codes "!") c after refl refl (λ more. rw equals refl) refl refl
