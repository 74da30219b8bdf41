-- The lines of a formula, one by one.
use Rattle.std.specs.Prelude.{◌≡◌, ◌≤◌, ◌<◌, ℕ, true, codes, List, [], ◌∷◌, ◌++◌, length, slice_index}
use Rattle.std.specs.List.{flat_map}
use Rattle.std.specs.Fmt.{decimal}
use Rattle.cnf_form.specs.declared.head.Head.{Head}
use Rattle.cnf_form.specs.declared.head.Head.TheVariants.{Is, MayGrow, Breaks}
use Rattle.cnf_form.specs.Literals.{most}
use Rattle.text_lines.specs.Cutting.{HasNoFeed, EndsInFeed}
use Rattle.cnf_form.specs.Forms.{is_gap, words, begins_with, told_lines}

-- the line `p cnf V C`
pub record IsHead (line : List ℕ) (variables count : ℕ) : Type 0 where
  pub marked : begins_with 112 line ≡ true
  pub numbers : words line ≡ codes "p" ∷ codes "cnf" ∷ decimal variables ∷ decimal count ∷ []
  pub few_variables : variables ≤ most
  pub few_clauses : count ≤ most

-- all of them are comments
pub record AreComments (before : List ℕ) : Type 0 where
  pub told : told_lines before ≡ []

-- there is a head, and the lines behind it have these words
pub record AreClauseLines (May : List ℕ → Type 0) (before : List ℕ) (variables count : ℕ) (seen : List (List ℕ)) : Type
    0 where
  pub head : List ℕ
  pub body : List (List ℕ)
  pub told : told_lines before ≡ head ∷ body
  pub is_head : IsHead head variables count
  pub follow : (more : List ℕ) → May more → words (flat_map (λ line. line) body ++ more) ≡ seen ++ words more

-- no line that goes on from this one is a head
pub record IsNoHead (line : List ℕ) : Type 0 where
  pub never : (more : List ℕ) (variables count : ℕ) → (EndsInFeed line → more ≡ []) → ¬ IsHead (line ++ more) variables
      count

-- the line has no line feed and is no head, and further bytes make it one
pub record StopsInHead (line : List ℕ) : Type 0 where
  pub unfinished : ¬ EndsInFeed line
  pub none : (variables count : ℕ) → ¬ IsHead line variables count
  pub more : List ℕ
  pub no_feed : HasNoFeed more
  pub variables : ℕ
  pub count : ℕ
  pub is_head : IsHead (line ++ (more ++ 10 ∷ [])) variables count

-- how the first line that is told goes
abbrev pub IsHeadOf : List ℕ → Head → Type 0
IsHeadOf line (Is variables count) = IsHead line variables count
IsHeadOf line MayGrow = StopsInHead line
IsHeadOf line Breaks = IsNoHead line

-- such a line breaks off where it has its line feed, and else may grow
abbrev pub LacksWord : List ℕ → Head → Type 0
LacksWord line (Is variables count) = ⊥
LacksWord line MayGrow = ¬ EndsInFeed line
LacksWord line Breaks = EndsInFeed line

-- nothing, or first a gap
pub record BeginsApart (more : List ℕ) : Type 0 where
  pub gap : 0 < length more → is_gap (slice_index more 0) ≡ true

-- the words of the line up to `rest`, behind those seen before it
pub record UpTo (seen : List (List ℕ)) (line rest : List ℕ) (now : List (List ℕ)) : Type 0 where
  pub before : List ℕ
  pub split : line ≡ before ++ rest
  pub same : (more : List ℕ) → (length rest ≡ 0 → BeginsApart more) → seen ++ words (line ++ more) ≡ now
      ++ words (rest ++ more)
