-- The texts of formulas and logs, as they are written.
use Rattle.std.specs.Prelude.{ℕ, ℤ, List, ◌+◌, ◌++◌, length, codes}
use Rattle.std.specs.List.{flat_map}
use Rattle.std.specs.Fmt.{decimal, signed_decimal}
use Rattle.cnf_form.specs.declared.log.LogLine.{LogLine}

-- the literals of a clause, each followed by a blank
abbrev pub literals_text : List ℤ → List ℕ
literals_text literals = flat_map (λ l. signed_decimal l ++ codes " ") literals

-- a clause ends with 0 and a line feed
abbrev pub clause_text : List ℤ → List ℕ
clause_text literals = literals_text literals ++ codes "0\n"

-- a formula: the numbers of its variables and its clauses, and then its clauses
abbrev pub cnf_text : ℕ → List (List ℤ) → List ℕ
cnf_text variables clauses =
    codes "p cnf " ++ decimal variables ++ codes " " ++ decimal (length clauses) ++ codes "\n"
    ++ flat_map clause_text clauses

-- the hints of a line: a blank before each, and each number one greater, since 0 ends them
abbrev pub hints_text : List ℕ → List ℕ
hints_text hints = flat_map (λ h. codes " " ++ decimal (h + 1)) hints

-- a line of a log: its clause up to 0, and its hints up to 0
abbrev pub line_text : LogLine → List ℕ
line_text line = literals_text line.clause ++ codes "0" ++ hints_text line.hints ++ codes " 0\n"

-- a log: the number of its lines, and then its lines
abbrev pub log_text : List LogLine → List ℕ
log_text lines = codes "p log " ++ decimal (length lines) ++ codes "\n" ++ flat_map line_text lines
