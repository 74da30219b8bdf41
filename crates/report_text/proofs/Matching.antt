-- The lines of a report's text: what they begin, and where they break off.
use Rattle.std.proofs.Common.{◌≡◌, ℕ, ◌+◌, Some, None, List, [], ◌∷◌, ◌++◌, length, map, refl, sym, ◌∙◌, ap, subst, arith, append_assoc, length-append}
use Rattle.std.proofs.lemmas.List.{append-nil, length-map}
use Rattle.std.proofs.lemmas.List.Concat.{flat_map-append}
use Rattle.text_lines.specs.Lines.{lines_of, Begins, LeavesAt}
use Rattle.text_lines.specs.Cutting.{EndsInFeed, CutsLine, AreLines, Anything}
use Rattle.text_lines.proofs.Joining.{joins_feed}
use Rattle.text_lines.proofs.Leaving.{begins_front, leaves_here, leaves_end}
use Rattle.text_lines.proofs.Onward.{onward, shape_of, stands, open_line}
use Rattle.report_text.specs.declared.report.ReportLine.{ReportLine}
use Rattle.report_text.specs.declared.report.ReportLine.TheVariants.{Copies, Ipet, Input, Nothing, Best, Spent as SpentLine}
use Rattle.report_text.specs.declared.report.Spent.TheVariants.{Turns}
use Rattle.report_text.specs.declared.stage.Stage.{Stage}
use Rattle.report_text.specs.declared.stage.Stage.TheVariants.{Start, BehindCopies, Watching, BehindExact, BehindInexact, BehindBest, Whole}
use Rattle.report_text.specs.Texts.{line_text, lines_text}
use Rattle.report_text.specs.Courses.{IsOne, Stops, IsNone}
use Rattle.report_text.specs.Form.{Allows, next, Leads, IsFormOf, IsFormText, IsReadTo}
use Rattle.report_text.proofs.Injective.{line_of, line_ends, one_line}

-- ---- lines that follow one another

pub leads_on : (from : Stage) (ls more : List ReportLine) (mid to : Stage) → Leads from ls mid → Leads mid more to → Leads from (ls ++ more) to
leads_on from [] more mid to one other = subst (λ s. Leads s more to) (sym one) other
leads_on from (l ∷ ls) more mid to one other = (one.0, leads_on (next from l) ls more mid to one.1 other)

-- each stage may lead to a whole report
record Completes (stage : Stage) : Type 0 where
  more : List ReportLine
  leads : Leads stage more Whole

completes : (stage : Stage) → Completes stage
completes Whole = record { more = []; leads = refl }
completes BehindBest = record { more = SpentLine Turns 0 ∷ []; leads = ((omega arith, refl), refl) }
completes BehindInexact = record { more = Best None ∷ SpentLine Turns 0 ∷ []; leads = (tt, ((omega arith, refl), refl)) }
completes BehindExact = record { more = Input [] ∷ []; leads = ((refl, λ k d less. absurd (omega (arith, less))), refl) }
completes (Watching None) = record { more = Nothing ∷ []; leads = (tt, refl) }
completes (Watching (Some before)) = record { more = Nothing ∷ []; leads = (tt, refl) }
completes BehindCopies = record { more = Ipet 0 ∷ Nothing ∷ []; leads = (omega arith, (tt, refl)) }
completes Start = record { more = Copies 0 ∷ Ipet 0 ∷ Nothing ∷ []; leads = (omega arith, (omega arith, (tt, refl))) }

pub form_begins : (ls : List ReportLine) (stage : Stage) → Leads Start ls stage → Begins IsFormText (lines_text ls)
form_begins ls stage leads =
    let rest = completes stage in
    record { more = lines_text rest.more; whole = record { lines = ls ++ rest.more; form = record { leads = leads_on Start ls rest.more stage Whole leads rest.leads; written = sym (flat_map-append line_text ls rest.more) } } }

-- ---- the lines of their text

pub text_lines : (from : Stage) (ls : List ReportLine) (to : Stage) (x : List ℕ) → Leads from ls to → lines_of (lines_text ls ++ x) ≡ map line_text ls ++ lines_of x
text_lines from [] to x leads = refl
text_lines from (l ∷ ls) to x leads =
    let joins = joins_feed Anything (line_text l) (line_ends l (line_of from l leads.0)) in
    ap lines_of (append_assoc (line_text l) (lines_text ls) x) ∙ joins.lines (lines_text ls ++ x) tt ∙ ap (λ t. line_text l ∷ t) (text_lines (next from l) ls to x leads.1)

lines_alone : (ls : List ReportLine) (to : Stage) → Leads Start ls to → lines_of (lines_text ls) ≡ map line_text ls
lines_alone ls to leads = ap lines_of (sym (append-nil (lines_text ls))) ∙ text_lines Start ls to [] leads ∙ append-nil (map line_text ls)

are_lines : (ls : List ReportLine) (to : Stage) → Leads Start ls to → AreLines Anything (lines_text ls) (length ls)
are_lines ls to leads = record {
  count = ap length (lines_alone ls to leads) ∙ length-map ls line_text;
  whole = λ more u. text_lines Start ls to more leads ∙ ap (λ t. t ++ lines_of more) (sym (lines_alone ls to leads));
}

-- lines whose text begins like this
record Matches (ls : List ReportLine) (to : Stage) (x : List ℕ) (all : List ReportLine) : Type 0 where
  rest : List ReportLine
  is : all ≡ ls ++ rest
  leads : Leads to rest Whole
  same : lines_of x ≡ map line_text rest

matches : (from : Stage) (ls : List ReportLine) (to : Stage) (x : List ℕ) (all : List ReportLine) → Leads from ls to → Leads from all Whole → map line_text ls ++ lines_of x ≡ map line_text all → Matches ls to x all
matches from [] to x all one other same = record { rest = all; is = refl; leads = subst (λ s. Leads s all Whole) one other; same = same }
matches from (l ∷ ls) to x [] one other same = cc
matches from (l ∷ ls) to x (a ∷ ats) one other same =
    let head : line_text l ≡ line_text a = cc in
    let tail : map line_text ls ++ lines_of x ≡ map line_text ats = cc in
    let first = one_line l a (line_of from l one.0) (line_of from a other.0) head in
    let rest = matches (next from l) ls to x ats one.1 (subst (λ z. Leads (next from z) ats Whole) (sym first) other.1) tail in
    record { rest = rest.rest; is = ap (λ z. z ∷ ats) (sym first) ∙ ap (λ zs. l ∷ zs) rest.is; leads = rest.leads; same = rest.same }

found : (ls : List ReportLine) (to : Stage) (x text : List ℕ) (all : List ReportLine) → Leads Start ls to → text ≡ lines_text ls ++ x → IsFormOf text all → Matches ls to x all
found ls to x text all leads split is = matches Start ls to x all leads is.leads (sym (text_lines Start ls to x leads) ∙ ap lines_of (sym split ∙ is.written) ∙ lines_alone all Whole is.leads)

-- a text has one list of lines
pub one_form : (text : List ℕ) (one other : List ReportLine) → IsFormOf text one → IsFormOf text other → one ≡ other
one_form text one other is_one is_other =
    let all = found one Whole [] text other is_one.leads (is_one.written ∙ sym (append-nil (lines_text one))) is_other in
    by_rest all.rest all.is all.same
  where
    by_rest : (rest : List ReportLine) → other ≡ one ++ rest → [] ≡ map line_text rest → one ≡ other
    by_rest [] is same = sym (is ∙ append-nil one)
    by_rest (r ∷ rs) is same = cc

-- ---- where a line breaks off

-- the first of further lines
record First (stage : Stage) (w : List ℕ) : Type 0 where
  line : ReportLine
  allowed : Allows stage line
  is : w ≡ line_text line

first_of : (stage : Stage) (w : List ℕ) (ws : List (List ℕ)) (rest : List ReportLine) → Leads stage rest Whole → w ∷ ws ≡ map line_text rest → First stage w
first_of stage w ws [] leads same = cc
first_of stage w ws (r ∷ rs) leads same = record { line = r; allowed = leads.0; is = cc }

pub no_line_here : (text rest line after : List ℕ) (ls : List ReportLine) (stage : Stage) → IsReadTo text rest ls stage → CutsLine rest line after → IsNone (Allows stage) line → LeavesAt IsFormText text (length ls)
no_line_here text rest line after ls stage place cut none =
    let now = stands rest line after cut in
    leaves_here IsFormText text (lines_text ls) line after (length ls) (place.split ∙ ap (λ r. lines_text ls ++ r) cut.split) (are_lines ls stage place.leads) now.alone now.joined (form_begins ls stage place.leads) (λ begins.
    let on = onward line begins.more (shape_of rest line after cut) in
    let all = found ls stage (line ++ begins.more) ((lines_text ls ++ line) ++ begins.more) begins.whole.lines place.leads (append_assoc (lines_text ls) line begins.more) begins.whole.form in
    let first = first_of stage (line ++ on.ending) on.rest all.rest all.leads (sym on.lines ∙ all.same) in
    none.never first.line on.ending first.allowed first.is)

pub next_line : (text rest line after : List ℕ) (ls : List ReportLine) (stage : Stage) (l : ReportLine) → IsReadTo text rest ls stage → CutsLine rest line after → IsOne (Allows stage) line l → IsReadTo text after (ls ++ l ∷ []) (next stage l)
next_line text rest line after ls stage l place cut is = record {
  split = place.split ∙ ap (λ r. lines_text ls ++ r) (cut.split ∙ ap (λ t. t ++ after) is.whole) ∙ sym (append_assoc (lines_text ls) (line_text l) after)
      ∙ ap (λ t. t ++ after) (ap (λ t. lines_text ls ++ t) (sym (append-nil (line_text l))) ∙ sym (flat_map-append line_text ls (l ∷ [])));
  leads = leads_on Start ls (l ∷ []) stage (next stage l) place.leads (is.among, refl);
}

pub line_cut_off : (text rest line after : List ℕ) (ls : List ReportLine) (stage : Stage) → IsReadTo text rest ls stage → CutsLine rest line after → Stops (Allows stage) line → LeavesAt IsFormText text (length ls + 1)
line_cut_off text rest line after ls stage place cut stops =
    let bare = open_line rest line after stops.more (line_text stops.line) cut (line_ends stops.line (line_of stage stops.line stops.among)) stops.some stops.whole in
    let now = stands rest line after cut in
    let whole : text ≡ lines_text ls ++ line = place.split ∙ ap (λ r. lines_text ls ++ r) (cut.split ∙ ap (λ a. line ++ a) bare.0 ∙ append-nil line) in
    let all : lines_of text ≡ map line_text ls ++ line ∷ [] = ap lines_of whole ∙ text_lines Start ls stage line place.leads ∙ ap (λ t. map line_text ls ++ t) now.alone in
    let longer = form_begins (ls ++ stops.line ∷ []) (next stage stops.line) (leads_on Start ls (stops.line ∷ []) stage (next stage stops.line) place.leads (stops.among, refl)) in
    leaves_end IsFormText text (length ls + 1)
    (λ form.
    let matched = found ls stage line text form.lines place.leads whole form.form in
    let first = first_of stage line [] matched.rest matched.leads (sym now.alone ∙ matched.same) in
    bare.1 (subst EndsInFeed (sym first.is) (line_ends first.line (line_of stage first.line first.allowed))))
    (subst (Begins IsFormText) (sym whole) (begins_front IsFormText (lines_text ls ++ line) stops.more (subst (Begins IsFormText)
    (flat_map-append line_text ls (stops.line ∷ []) ∙ ap (λ t. lines_text ls ++ t) (append-nil (line_text stops.line) ∙ sym stops.whole) ∙ sym (append_assoc (lines_text ls) line stops.more)) longer)))
    (omega (arith, ap length all, length-append (map line_text ls) (line ∷ []), length-map ls line_text))

at_end : (text rest : List ℕ) (ls : List ReportLine) (stage : Stage) → IsReadTo text rest ls stage → length rest ≡ 0 → text ≡ lines_text ls
at_end text [] ls stage place none = place.split ∙ append-nil (lines_text ls)
at_end text (b ∷ bs) ls stage place none = absurd (omega (arith, none))

pub unfinished : (text rest : List ℕ) (ls : List ReportLine) (stage : Stage) → IsReadTo text rest ls stage → length rest ≡ 0 → (stage ≡ Whole → ⊥) → LeavesAt IsFormText text (length ls)
unfinished text rest ls stage place none short =
    let whole = at_end text rest ls stage place none in
    leaves_end IsFormText text (length ls)
    (λ form.
    let matched = found ls stage [] text form.lines place.leads (whole ∙ sym (append-nil (lines_text ls))) form.form in
    short (by_rest matched.rest matched.leads matched.same))
    (subst (Begins IsFormText) (sym whole) (form_begins ls stage place.leads))
    (ap (λ t. length (lines_of t)) whole ∙ (are_lines ls stage place.leads).count)
  where
    by_rest : (rest : List ReportLine) → Leads stage rest Whole → [] ≡ map line_text rest → stage ≡ Whole
    by_rest [] leads same = leads
    by_rest (r ∷ rs) leads same = cc

pub whole_form : (text rest : List ℕ) (ls : List ReportLine) (stage : Stage) → IsReadTo text rest ls stage → length rest ≡ 0 → stage ≡ Whole → IsFormOf text ls
whole_form text rest ls stage place none full = record { leads = subst (Leads Start ls) full place.leads; written = at_end text rest ls stage place none }

pub lines_few : (text rest : List ℕ) (ls : List ReportLine) (stage : Stage) → IsReadTo text rest ls stage → length (lines_text ls) + length rest ≡ length text
lines_few text rest ls stage place = omega (arith, ap length place.split, length-append (lines_text ls) rest)
