-- Courses of lines from courses of their parts.
use Rattle.std.proofs.Common.{◌≡◌, ◌≢◌, ℕ, ◌<◌, ◌≤◌, ◌⊎◌, inl, inr, Option, List, [], ◌∷◌, ◌++◌, length, refl, sym, ◌∙◌, ap, arith, length-append}
use Rattle.std.proofs.lemmas.List.{append-nil}
use Rattle.report_text.specs.declared.report.ReportLine.{ReportLine}
use Rattle.report_text.specs.declared.kind.Kind.{Kind}
use Rattle.report_text.specs.declared.kind.Kind.TheVariants as kind
use Rattle.report_text.specs.declared.course.LineCourse.{LineCourse}
use Rattle.report_text.specs.declared.course.LineCourse.TheVariants.{Is, MayGrow, Breaks}
use Rattle.report_text.specs.Texts.{numbered_line, line_text}
use Rattle.report_text.specs.Courses.{IsOne, Stops, IsNone, IsCourse, either, IsNumbered, StopsInNumber, IsNoNumber, kind_words, kind_line, kind_limit, IsOfKind}

pub either_is : (P Q : ReportLine → Type 0) (text : List ℕ) (one other : LineCourse) → IsCourse P text one → IsCourse Q text other → IsCourse (λ line. P line ⊎ Q line) text (either one other)
either_is P Q text (Is line) other a b = record { among = inl a.among; whole = a.whole }
either_is P Q text MayGrow (Is line) a b = record { among = inr b.among; whole = b.whole }
either_is P Q text MayGrow MayGrow a b = record { line = a.line; among = inl a.among; more = a.more; some = a.some; whole = a.whole }
either_is P Q text MayGrow Breaks a b = record { line = a.line; among = inl a.among; more = a.more; some = a.some; whole = a.whole }
either_is P Q text Breaks (Is line) a b = record { among = inr b.among; whole = b.whole }
either_is P Q text Breaks MayGrow a b = record { line = b.line; among = inr b.among; more = b.more; some = b.some; whole = b.whole }
either_is P Q text Breaks Breaks a b = record {
  never = λ line more among is. by_case line more is among;
}
  where
    by_case : (line : ReportLine) (more : List ℕ) → text ++ more ≡ line_text line → P line ⊎ Q line → ⊥
    by_case line more is (inl p) = a.never line more p is
    by_case line more is (inr q) = b.never line more q is

pub among_same : (P Q : ReportLine → Type 0) (text : List ℕ) (course : LineCourse) → ((line : ReportLine) → P line → Q line) → ((line : ReportLine) → Q line → P line) → IsCourse P text course → IsCourse Q text course
among_same P Q text (Is line) to from is = record { among = to line is.among; whole = is.whole }
among_same P Q text MayGrow to from is = record { line = is.line; among = to is.line is.among; more = is.more; some = is.some; whole = is.whole }
among_same P Q text Breaks to from is = record { never = λ line more among. is.never line more (from line among) }

-- ---- lines with a number

kind_text : (kind : Kind) (n : ℕ) → line_text (kind_line kind n) ≡ numbered_line (kind_words kind) n
kind_text kind.Copies n = refl
kind_text kind.Ipet n = refl
kind_text kind.Bound n = refl
kind_text kind.Found n = refl
kind_text kind.Exact n = refl
kind_text kind.Inexact n = refl
kind_text kind.Best n = refl
kind_text kind.Turns n = refl
kind_text kind.Conflicts n = refl

pub kind_is : (kind : Kind) (except : Option ℕ) (text : List ℕ) (n : ℕ) → IsNumbered (kind_words kind) (kind_limit kind) except text n → IsOne (IsOfKind kind except) text (kind_line kind n)
kind_is kind except text n is = record { among = record { n = n; choice = is.choice; is = refl }; whole = is.whole ∙ sym (kind_text kind n) }

pub kind_stops : (kind : Kind) (except : Option ℕ) (text : List ℕ) → StopsInNumber (kind_words kind) (kind_limit kind) except text → Stops (IsOfKind kind except) text
kind_stops kind except text stops = record {
  line = kind_line kind stops.n;
  among = record { n = stops.n; choice = stops.choice; is = refl };
  more = stops.more;
  some = stops.some;
  whole = stops.whole ∙ sym (kind_text kind stops.n);
}

pub kind_none : (kind : Kind) (except : Option ℕ) (text : List ℕ) → IsNoNumber (kind_words kind) (kind_limit kind) except text → IsNone (IsOfKind kind except) text
kind_none kind except text none = record {
  never = λ line more among is. none.never among.n more among.choice (is ∙ ap line_text among.is ∙ kind_text kind among.n);
}

pub some_limit : (kind : Kind) → 0 < kind_limit kind
some_limit kind.Copies = omega arith
some_limit kind.Ipet = omega arith
some_limit kind.Bound = omega arith
some_limit kind.Found = omega arith
some_limit kind.Exact = omega arith
some_limit kind.Inexact = omega arith
some_limit kind.Best = omega arith
some_limit kind.Turns = omega arith
some_limit kind.Conflicts = omega arith

-- ---- fixed lines

pub fixed_none : (text : List ℕ) (line : ReportLine) → ((rest : List ℕ) → line_text line ≢ text ++ rest) → IsNone (λ other. other ≡ line) text
fixed_none text line none = record { never = λ other more among is. none more (ap line_text (sym among) ∙ sym is) }

pub fixed_stops : (text : List ℕ) (line : ReportLine) (rest : List ℕ) → line_text line ≡ text ++ rest → length text < length (line_text line) → Stops (λ other. other ≡ line) text
fixed_stops text line rest split less = record { line = line; among = refl; more = rest; some = omega (arith, ap length split, length-append text rest); whole = sym split }

pub fixed_is : (text : List ℕ) (line : ReportLine) (rest : List ℕ) → line_text line ≡ text ++ rest → length (line_text line) ≤ length text → IsOne (λ other. other ≡ line) text line
fixed_is text line [] split more = record { among = refl; whole = sym (append-nil text) ∙ sym split }
fixed_is text line (b ∷ bs) split more = absurd (omega (arith, ap length split, length-append text (b ∷ bs), more))
