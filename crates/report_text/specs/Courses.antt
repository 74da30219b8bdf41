-- How a text goes that is to be one of some lines.
use Rattle.std.specs.Prelude.{◌≡◌, ◌≢◌, ◌≤◌, ◌<◌, ℕ, false, Option, Some, List, ◌++◌, length, codes}
use Rattle.report_text.specs.declared.report.ReportLine.{ReportLine}
use Rattle.report_text.specs.declared.course.LineCourse.{LineCourse}
use Rattle.report_text.specs.declared.course.LineCourse.TheVariants.{Is, MayGrow, Breaks}
use Rattle.report_text.specs.declared.course.NumberCourse.{NumberCourse}
use Rattle.report_text.specs.declared.course.NumberCourse.TheVariants as number
use Rattle.report_text.specs.declared.report.ReportLine.TheVariants.{
  Copies,
  Ipet,
  Bound,
  Found,
  Exact,
  Inexact,
  Best,
  Spent as SpentLine,
}
use Rattle.report_text.specs.declared.report.Spent.TheVariants.{Turns, Conflicts}
use Rattle.report_text.specs.declared.kind.Kind.{Kind}
use Rattle.report_text.specs.declared.kind.Kind.TheVariants as kind
use Rattle.report_text.specs.Texts.{same, numbered_line, line_text}

-- ---- one of these lines

pub record IsOne (Among : ReportLine → Type 0) (text : List ℕ) (line : ReportLine) : Type 0 where
  pub among : Among line
  pub whole : text ≡ line_text line

-- further bytes make one of it
pub record Stops (Among : ReportLine → Type 0) (text : List ℕ) : Type 0 where
  pub line : ReportLine
  pub among : Among line
  pub more : List ℕ
  pub some : 0 < length more
  pub whole : text ++ more ≡ line_text line

-- none do
pub record IsNone (Among : ReportLine → Type 0) (text : List ℕ) : Type 0 where
  pub never : (line : ReportLine) (more : List ℕ) → Among line → text ++ more ≢ line_text line

abbrev pub IsCourse : (ReportLine → Type 0) → List ℕ → LineCourse → Type 0
IsCourse Among text (Is line) = IsOne Among text line
IsCourse Among text MayGrow = Stops Among text
IsCourse Among text Breaks = IsNone Among text

-- the course of a text that is to be a line of the one or of the other
abbrev pub either : LineCourse → LineCourse → LineCourse
either (Is line) other = Is line
either MayGrow (Is line) = Is line
either MayGrow other = MayGrow
either Breaks other = other

-- ---- a number behind words

-- at most the limit, and not the excepted one
abbrev pub IsChoice : ℕ → Option ℕ → ℕ → Type 0
IsChoice limit except n = (n ≤ limit) × (same except (Some n) ≡ false)

pub record IsNumbered (words : List ℕ) (limit : ℕ) (except : Option ℕ) (text : List ℕ) (n : ℕ) : Type 0 where
  pub choice : IsChoice limit except n
  pub whole : text ≡ numbered_line words n

pub record StopsInNumber (words : List ℕ) (limit : ℕ) (except : Option ℕ) (text : List ℕ) : Type 0 where
  pub n : ℕ
  pub choice : IsChoice limit except n
  pub more : List ℕ
  pub some : 0 < length more
  pub whole : text ++ more ≡ numbered_line words n

pub record IsNoNumber (words : List ℕ) (limit : ℕ) (except : Option ℕ) (text : List ℕ) : Type 0 where
  pub never : (n : ℕ) (more : List ℕ) → IsChoice limit except n → text ++ more ≢ numbered_line words n

abbrev pub IsNumberCourse : List ℕ → ℕ → Option ℕ → List ℕ → NumberCourse → Type 0
IsNumberCourse words limit except text (number.Is n) = IsNumbered words limit except text n
IsNumberCourse words limit except text number.MayGrow = StopsInNumber words limit except text
IsNumberCourse words limit except text number.Breaks = IsNoNumber words limit except text

-- ---- lines with a number

abbrev pub kind_words : Kind → List ℕ
kind_words kind.Copies = codes "blocks "
kind_words kind.Ipet = codes "ipet "
kind_words kind.Bound = codes "bound "
kind_words kind.Found = codes "found "
kind_words kind.Exact = codes "exact "
kind_words kind.Inexact = codes "inexact "
kind_words kind.Best = codes "best "
kind_words kind.Turns = codes "spent turns "
kind_words kind.Conflicts = codes "spent conflicts "

abbrev pub kind_line : Kind → ℕ → ReportLine
kind_line kind.Copies n = Copies n
kind_line kind.Ipet n = Ipet n
kind_line kind.Bound n = Bound (Some n)
kind_line kind.Found n = Found n
kind_line kind.Exact n = Exact n
kind_line kind.Inexact n = Inexact n
kind_line kind.Best n = Best (Some n)
kind_line kind.Turns n = SpentLine Turns n
kind_line kind.Conflicts n = SpentLine Conflicts n

-- the greatest number
abbrev pub kind_limit : Kind → ℕ
kind_limit kind.Copies = 4294967295
kind_limit kind.Turns = 4294967295
kind_limit kind.Conflicts = 4294967295
kind_limit other = 340282366920938463463374607431768211455

-- a line of the kind, with another number than the excepted one
pub record IsOfKind (kind : Kind) (except : Option ℕ) (line : ReportLine) : Type 0 where
  pub n : ℕ
  pub choice : IsChoice (kind_limit kind) except n
  pub is : line ≡ kind_line kind n
