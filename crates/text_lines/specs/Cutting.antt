-- The lines of a text, cut off one by one.
use Rattle.std.specs.Prelude.{◌≡◌, ◌<◌, ◌==◌, ℕ, not, true, List, [], ◌∷◌, ◌++◌, ◌⊎◌, length}
use Rattle.std.specs.List.{list_all}
use Rattle.text_lines.specs.Lines.{lines_of}

-- no line feed
abbrev pub HasNoFeed : List ℕ → Type 0
HasNoFeed bytes = list_all (λ b. not (b == 10)) bytes ≡ true

-- a line with its line feed
pub record EndsInFeed (line : List ℕ) : Type 0 where
  pub visible : List ℕ
  pub is : line ≡ visible ++ 10 ∷ []
  pub no_feed : HasNoFeed visible

-- a line without one
pub record IsUnfinished (line : List ℕ) : Type 0 where
  pub some : 0 < length line
  pub no_feed : HasNoFeed line

-- the first line of a text, and what stands behind it
pub record CutsLine (text line rest : List ℕ) : Type 0 where
  pub split : text ≡ line ++ rest
  pub shape : EndsInFeed line ⊎ (IsUnfinished line × (rest ≡ []))

-- so many lines stand before what `May` follow
pub record AreLines (May : List ℕ → Type 0) (before : List ℕ) (number : ℕ) : Type 0 where
  pub count : length (lines_of before) ≡ number
  pub whole : (more : List ℕ) → May more → lines_of (before ++ more) ≡ lines_of before ++ lines_of more

-- anything may follow
abbrev pub Anything : List ℕ → Type 0
Anything more = Unit {0}
