-- The forms of the texts of formulas and logs, as they are read. They say nothing of how a text is read or written.
use Rattle.std.specs.Prelude.{
  ◌≡◌,
  ◌==◌,
  ℕ,
  ℤ,
  pos,
  ◌≤◌,
  ◌^◌,
  ◌<◌,
  Bool,
  true,
  false,
  not,
  ◌||◌,
  List,
  [],
  ◌∷◌,
  ◌++◌,
  length,
  codes,
  map,
  filter,
  All,
  if◌then◌else◌,
}
use Rattle.std.specs.List.{flat_map}
use Rattle.std.specs.Fmt.{decimal, signed_decimal}
use Rattle.cnf_form.specs.declared.log.LogLine.{LogLine}
use Rattle.cnf_form.specs.Literals.{most, IsClause, NamesUpTo}
use Rattle.text_lines.specs.Lines.{lines_of}
use Rattle.cnf_form.specs.Texts.{log_text}

-- ---- formulas

-- a blank, a tab or a line feed
abbrev pub is_gap : ℕ → Bool
is_gap b = b == 32 || b == 9 || b == 10

-- a byte before the first piece
abbrev pub onto_piece : ℕ → List (List ℕ) → List (List ℕ)
onto_piece b [] = (b ∷ []) ∷ []
onto_piece b (piece ∷ pieces) = (b ∷ piece) ∷ pieces

-- what stands before, between and after the gaps
abbrev pub pieces : List ℕ → List (List ℕ)
pieces [] = [] ∷ []
pieces (b ∷ bs) = if is_gap b then [] ∷ pieces bs else onto_piece b (pieces bs)

abbrev pub has_bytes : List ℕ → Bool
has_bytes [] = false
has_bytes (b ∷ bs) = true

-- the words of a text: what stands between gaps and is not empty
abbrev pub words : List ℕ → List (List ℕ)
words bytes = filter has_bytes (pieces bytes)

abbrev pub begins_with : ℕ → List ℕ → Bool
begins_with c [] = false
begins_with c (b ∷ bs) = b == c

-- the lines of a text that do not begin with `c`, which marks a comment
abbrev pub told_lines : List ℕ → List (List ℕ)
told_lines text = filter (λ line. not (begins_with 99 line)) (lines_of text)

-- the numbers of some clauses: the literals of each, and then 0
abbrev pub numbers_of : List (List ℤ) → List ℤ
numbers_of clauses = flat_map (λ literals. literals ++ pos 0 ∷ []) clauses

-- a formula: clauses over the variables from 1 to a number
pub record IsFormula (variables : ℕ) (clauses : List (List ℤ)) : Type 0 where
  pub few_variables : variables ≤ most
  pub few_clauses : length clauses ≤ most
  pub each : All IsClause clauses
  pub named : All (NamesUpTo variables) clauses

-- the text of a formula, comments aside: the line `p cnf V C`, which begins with its `p`, and then the numbers of the
-- clauses, with gaps between them
pub record IsCnfText (text : List ℕ) (variables : ℕ) (clauses : List (List ℤ)) : Type 0 where
  pub head : List ℕ
  pub body : List (List ℕ)
  pub lines : told_lines text ≡ head ∷ body
  pub marked : begins_with 112 head ≡ true
  pub numbers : words head ≡ codes "p" ∷ codes "cnf" ∷ decimal variables ∷ decimal (length clauses) ∷ []
  pub clauses_follow : words (flat_map (λ line. line) body) ≡ map signed_decimal (numbers_of clauses)
  pub formula : IsFormula variables clauses

-- the text is that of a formula
pub record IsFormulaText (text : List ℕ) : Type 0 where
  pub variables : ℕ
  pub clauses : List (List ℤ)
  pub formula : IsCnfText text variables clauses

-- ---- logs

-- a line of a log: a clause, and hints of 32 bits
pub record IsLogLine (line : LogLine) : Type 0 where
  pub clause : IsClause line.clause
  pub hints : All (λ hint. hint < 2 ^ 32) line.hints

-- the text of a log is exactly the text that is written
pub record IsLogText (text : List ℕ) (lines : List LogLine) : Type 0 where
  pub written : text ≡ log_text lines
  pub few : length lines ≤ most
  pub each : All IsLogLine lines

-- the text is that of a log
pub record IsLogFile (text : List ℕ) : Type 0 where
  pub lines : List LogLine
  pub log : IsLogText text lines
