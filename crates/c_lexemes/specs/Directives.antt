-- What a line of `#` says.
use Rattle.std.specs.Prelude.{◌≡◌, ℕ, ◌+◌, true, false, List, length, Option, MatchOption}
use Rattle.std.specs.Str.Parse.{digits_value}
use Rattle.c_tree.specs.Tokens.Lexing.{
  is_skipped,
  is_bound_line,
  is_bound_operand,
  operand_of,
  operand_digits,
  operand_rest,
}
use Rattle.c_lexemes.specs.declared.directive.Directive.{Directive}
use Rattle.c_lexemes.specs.declared.directive.Directive.TheVariants.{Skipped, LoopBound, Other}

-- the number of an operand, and how many bytes stand behind its digits
abbrev pub IsOperand : List ℕ → Option (ℕ × ℕ) → Type 0
IsOperand operand r = MatchOption r (is_bound_operand operand ≡ false) (λ found. (is_bound_operand operand ≡ true)
    × (found.0 ≡ digits_value 10 (operand_digits operand)) × (found.1 ≡ length (operand_rest operand)))

-- a bound counts the bytes up to its last digit
abbrev pub IsDirective : List ℕ → Directive → Type 0
IsDirective line Skipped = is_skipped line ≡ true
IsDirective line (LoopBound value size) = (is_bound_line line ≡ true)
    × (value ≡ digits_value 10 (operand_digits (operand_of line))) × (size + length (operand_rest (operand_of line))
    ≡ length line)
IsDirective line Other = (is_skipped line ≡ false) × (is_bound_line line ≡ false)
