-- Where the reader of a formula is.
use Rattle.std.specs.Prelude.{◌≡◌, ◌≤◌, ◌+◌, ℕ, List, [], ◌++◌, length}
use Rattle.cnf_form.specs.declared.front.Front.{Front}
use Rattle.text_lines.specs.Lines.{Begins}
use Rattle.cnf_form.specs.Forms.{IsFormulaText}
use Rattle.text_lines.specs.Cutting.{AreLines}
use Rattle.cnf_form.specs.Passing.{AreComments, AreClauseLines}
use Rattle.cnf_form.specs.Reading.{front_words}

-- what may follow the lines before `rest`: where it is empty their last one may lack its line feed, and nothing may
abbrev pub MayFollow : List ℕ → List ℕ → Type 0
MayFollow rest more = length rest ≡ 0 → more ≡ []

-- so many lines of the text stand before `rest`, and they begin a formula
pub record IsAt (text before rest : List ℕ) (line : ℕ) : Type 0 where
  pub split : text ≡ before ++ rest
  pub lines : AreLines (MayFollow rest) before line
  pub begins : Begins IsFormulaText before
  pub few : line + length rest ≤ length text

-- among the comments before the head
pub record InComments (text rest : List ℕ) (line : ℕ) : Type 0 where
  pub before : List ℕ
  pub is_at : IsAt text before rest line
  pub comments : AreComments before

-- behind the head
pub record BehindHead (text rest : List ℕ) (line variables count : ℕ) : Type 0 where
  pub before : List ℕ
  pub is_at : IsAt text before rest line
  pub clauses : AreClauseLines (MayFollow rest) before variables count []

-- among the clauses
pub record InClauses (text rest : List ℕ) (line : ℕ) (front : Front) : Type 0 where
  pub before : List ℕ
  pub is_at : IsAt text before rest line
  pub clauses : AreClauseLines (MayFollow rest) before front.variables front.count (front_words front.clauses.items
      front.literals.items)
