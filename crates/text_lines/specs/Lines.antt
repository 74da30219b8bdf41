-- The lines of a text, and the first line at which a text leaves a form.
use Rattle.std.specs.Prelude.{◌==◌, ℕ, ◌+◌, ◌<◌, ◌≤◌, List, [], ◌∷◌, ◌++◌, length, take, if◌then◌else◌}
use Rattle.std.specs.List.{flat_map}

-- a byte before the first line
abbrev pub onto_first : ℕ → List (List ℕ) → List (List ℕ)
onto_first b [] = (b ∷ []) ∷ []
onto_first b (line ∷ lines) = (b ∷ line) ∷ lines

-- the lines of a text: each runs to and with its line feed, or to the end of the text, and has at least one byte
abbrev pub lines_of : List ℕ → List (List ℕ)
lines_of [] = []
lines_of (b ∷ bs) = if b == 10 then (b ∷ []) ∷ lines_of bs else onto_first b (lines_of bs)

-- the first k lines of a text
abbrev pub front : ℕ → List ℕ → List ℕ
front k text = flat_map (λ line. line) (take k (lines_of text))

-- the text begins a text of the form
pub record Begins (IsText : List ℕ → Type 0) (text : List ℕ) : Type 0 where
  pub more : List ℕ
  pub whole : IsText (text ++ more)

-- k is the first line such that the lines up to and with it begin no text of the form; where there is no such line,
-- and the text is none of the form, k is the number of its lines
pub record LeavesAt (IsText : List ℕ → Type 0) (text : List ℕ) (k : ℕ) : Type 0 where
  pub none : ¬ IsText text
  pub within : k ≤ length (lines_of text)
  pub before : (j : ℕ) → j < k → Begins IsText (front (j + 1) text)
  pub here : k < length (lines_of text) → ¬ Begins IsText (front (k + 1) text)
