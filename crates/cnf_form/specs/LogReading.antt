-- The lines of a log's text, one by one.
use Rattle.std.specs.Prelude.{◌≡◌, ◌≢◌, ◌≤◌, ◌<◌, ◌+◌, ℕ, codes, List, ◌∷◌, ◌++◌, length, All}
use Rattle.std.specs.List.{flat_map}
use Rattle.std.specs.Fmt.{decimal}
use Rattle.cnf_form.specs.declared.log.LogLine.{LogLine}
use Rattle.cnf_form.specs.declared.log_head.LogHead.{LogHead}
use Rattle.cnf_form.specs.declared.log_head.LogHead.TheVariants.{
  Is as HeadIs,
  MayGrow as HeadMayGrow,
  Breaks as HeadBreaks,
}
use Rattle.cnf_form.specs.declared.log_line.LogCourse.{LogCourse}
use Rattle.cnf_form.specs.declared.log_line.LogCourse.TheVariants.{Is, MayGrow, Breaks}
use Rattle.cnf_form.specs.Literals.{most}
use Rattle.cnf_form.specs.Texts.{line_text}
use Rattle.cnf_form.specs.Forms.{IsLogLine}
use Rattle.cnf_form.specs.Words.{IsSolid}

-- the line `p log N`
abbrev pub log_head : ℕ → List ℕ
log_head count = codes "p log " ++ decimal count ++ codes "\n"

-- the line is this one
pub record IsLogHead (line : List ℕ) (count : ℕ) : Type 0 where
  pub few : count ≤ most
  pub whole : line ≡ log_head count

-- further bytes make it one, and it lacks some
pub record StopsInLogHead (line : List ℕ) : Type 0 where
  pub more : List ℕ
  pub some : 0 < length more
  pub count : ℕ
  pub few : count ≤ most
  pub whole : line ++ more ≡ log_head count

-- no further bytes do, nor is it one
pub record IsNoLogHead (line : List ℕ) : Type 0 where
  pub never : (more : List ℕ) (count : ℕ) → count ≤ most → line ++ more ≢ log_head count

abbrev pub IsLogHeadOf : List ℕ → LogHead → Type 0
IsLogHeadOf line (HeadIs count) = IsLogHead line count
IsLogHeadOf line HeadMayGrow = StopsInLogHead line
IsLogHeadOf line HeadBreaks = IsNoLogHead line

-- the line is this one of a log
pub record IsLineOf (line : List ℕ) (log_line : LogLine) : Type 0 where
  pub is_line : IsLogLine log_line
  pub whole : line ≡ line_text log_line

-- further bytes make it one, and it lacks some
pub record StopsInLine (line : List ℕ) : Type 0 where
  pub more : List ℕ
  pub some : 0 < length more
  pub log_line : LogLine
  pub is_line : IsLogLine log_line
  pub whole : line ++ more ≡ line_text log_line

-- no further bytes do, nor is it one
pub record IsNoLine (line : List ℕ) : Type 0 where
  pub never : (more : List ℕ) (log_line : LogLine) → IsLogLine log_line → line ++ more ≢ line_text log_line

abbrev pub IsLogCourse : List ℕ → LogCourse → Type 0
IsLogCourse line (Is log_line) = IsLineOf line log_line
IsLogCourse line MayGrow = StopsInLine line
IsLogCourse line Breaks = IsNoLine line

-- a text up to its first gap, which is this one, and what stands behind
pub record CutsAt (gap : ℕ) (text token behind : List ℕ) : Type 0 where
  pub split : text ≡ token ++ gap ∷ behind
  pub solid : IsSolid token

-- the first gap of a text is no such one
pub record HasNoCut (gap : ℕ) (text : List ℕ) : Type 0 where
  pub none : (token behind : List ℕ) → IsSolid token → text ≢ token ++ gap ∷ behind

-- hints, each number one greater, with a blank behind it
abbrev pub hints_behind : List ℕ → List ℕ
hints_behind hints = flat_map (λ h. decimal (h + 1) ++ codes " ") hints

-- a log's text so far
abbrev pub log_before : ℕ → List LogLine → List ℕ
log_before count lines = log_head count ++ flat_map line_text lines

-- so many lines are to stand in the text; these do, and then the rest
pub record InLog (text rest : List ℕ) (count : ℕ) (lines : List LogLine) : Type 0 where
  pub split : text ≡ log_before count lines ++ rest
  pub few : count ≤ most
  pub within : length lines ≤ count
  pub each : All IsLogLine lines
