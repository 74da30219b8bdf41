-- The lines of a log's text: what they begin, and where they break off.
use Rattle.std.proofs.Common.{◌≡◌, ◌≢◌, ℕ, zero, suc, ◌+◌, ◌-◌, ◌^◌, ◌<◌, ◌≤◌, List, [], ◌∷◌, ◌++◌, length, map, codes, All, refl, sym, ◌∙◌, ap, subst, arith, append_assoc, length-append, ne_eqb}
use Rattle.std.specs.List.{flat_map}
use Rattle.std.specs.Fmt.{decimal}
use Rattle.std.proofs.lemmas.List.{append-nil, length-map}
use Rattle.std.proofs.lemmas.List.Concat.{flat_map-append}
use Rattle.std.proofs.lemmas.List.Elements.{All-nil, All-push, All-head, All-tail}
use Rattle.std.proofs.lemmas.Fmt.{decimal_injective}
use Rattle.cnf_form.specs.declared.log.LogLine.{LogLine}
use Rattle.cnf_form.specs.Literals.{most}
use Rattle.cnf_form.specs.Texts.{literals_text, hints_text, line_text, log_text}
use Rattle.text_lines.specs.Lines.{lines_of, Begins, LeavesAt}
use Rattle.cnf_form.specs.Forms.{IsLogLine, IsLogText, IsLogFile}
use Rattle.text_lines.specs.Cutting.{HasNoFeed, EndsInFeed, CutsLine, AreLines, Anything}
use Rattle.cnf_form.specs.LogReading.{log_head, IsLogHead, StopsInLogHead, IsNoLogHead, IsLineOf, StopsInLine, IsNoLine, log_before, InLog}
use Rattle.cnf_form.proofs.Words.Written.{IsNumeric-decimal, AllVisible, AllVisible-append, AllVisible-numeric}
use Rattle.cnf_form.proofs.Formulas.CnfWritten.{visible-literals}
use Rattle.cnf_form.proofs.Formulas.Fronts.{empty_clause}
use Rattle.text_lines.proofs.Joining.{joins_feed}
use Rattle.text_lines.proofs.Onward.{onward, shape_of, stands, open_line}
use Rattle.text_lines.proofs.Leaving.{begins_front, leaves_here, leaves_end}
use Rattle.cnf_form.proofs.Words.Tokens.{solid_decimal, cut_same}
use Rattle.cnf_form.proofs.Logs.LogLines.{line_parts, line_of_clause, same_line}
use Rattle.plain_laws.proofs.Lists.{cons-parts}

-- ---- written lines end in their line feed

no_feed_visible : (bytes : List ℕ) → AllVisible bytes → HasNoFeed bytes
no_feed_visible [] visible = refl
no_feed_visible (b ∷ bs) visible = rw (ne_eqb b 10 (λ feed. omega (arith, feed, visible.0)), no_feed_visible bs visible.1) refl

visible-hints : (hints : List ℕ) → All (λ hint. hint < 2 ^ 32) hints → AllVisible (hints_text hints)
visible-hints [] each = tt
visible-hints (h ∷ hs) each =
    let small = All-head (λ hint. hint < 2 ^ 32) h hs each in
    (omega arith, AllVisible-append (decimal (h + 1)) (hints_text hs) (AllVisible-numeric (decimal (h + 1)) (IsNumeric-decimal (h + 1) (omega (arith, small))).each) (visible-hints hs (All-tail (λ hint. hint < 2 ^ 32) h hs each)))

pub line_ends : (line : LogLine) → IsLogLine line → EndsInFeed (line_text line)
line_ends line is = record {
  visible = literals_text line.clause ++ (codes "0" ++ (hints_text line.hints ++ codes " 0"));
  is = line_parts line ∙ sym (append_assoc (literals_text line.clause) (48 ∷ (hints_text line.hints ++ codes " 0")) (10 ∷ []) ∙ ap (λ t. literals_text line.clause ++ 48 ∷ t) (append_assoc (hints_text line.hints) (codes " 0") (10 ∷ [])));
  no_feed = no_feed_visible (literals_text line.clause ++ (48 ∷ (hints_text line.hints ++ codes " 0")))
      (AllVisible-append (literals_text line.clause) (48 ∷ (hints_text line.hints ++ codes " 0")) (visible-literals line.clause is.clause.each)
      (omega arith, AllVisible-append (hints_text line.hints) (codes " 0") (visible-hints line.hints is.hints) (omega arith, (omega arith, tt))));
}

pub head_ends : (count : ℕ) → count ≤ most → EndsInFeed (log_head count)
head_ends count few = record {
  visible = codes "p log " ++ decimal count;
  is = sym (append_assoc (codes "p log ") (decimal count) (10 ∷ []));
  no_feed = no_feed_visible (codes "p log " ++ decimal count)
      (AllVisible-append (codes "p log ") (decimal count) (omega arith, (omega arith, (omega arith, (omega arith, (omega arith, (omega arith, tt)))))) (AllVisible-numeric (decimal count) (IsNumeric-decimal count (omega (arith, few))).each));
}

-- ---- the lines of a log's text

lines_behind : (lines : List LogLine) (x : List ℕ) → All IsLogLine lines → lines_of (flat_map line_text lines ++ x) ≡ map line_text lines ++ lines_of x
lines_behind [] x each = refl
lines_behind (l ∷ ls) x each =
    let joins = joins_feed Anything (line_text l) (line_ends l (All-head IsLogLine l ls each)) in
    ap lines_of (append_assoc (line_text l) (flat_map line_text ls) x) ∙ joins.lines (flat_map line_text ls ++ x) tt ∙ ap (λ t. line_text l ∷ t) (lines_behind ls x (All-tail IsLogLine l ls each))

lines_whole : (count : ℕ) (lines : List LogLine) (x : List ℕ) → count ≤ most → All IsLogLine lines → lines_of (log_before count lines ++ x) ≡ log_head count ∷ (map line_text lines ++ lines_of x)
lines_whole count lines x few each =
    let joins = joins_feed Anything (log_head count) (head_ends count few) in
    ap lines_of (append_assoc (log_head count) (flat_map line_text lines) x) ∙ joins.lines (flat_map line_text lines ++ x) tt ∙ ap (λ t. log_head count ∷ t) (lines_behind lines x each)

lines_alone : (count : ℕ) (lines : List LogLine) → count ≤ most → All IsLogLine lines → lines_of (log_before count lines) ≡ log_head count ∷ map line_text lines
lines_alone count lines few each = ap lines_of (sym (append-nil (log_before count lines))) ∙ lines_whole count lines [] few each ∙ ap (λ t. log_head count ∷ t) (append-nil (map line_text lines))

are_lines : (count : ℕ) (lines : List LogLine) → count ≤ most → All IsLogLine lines → AreLines Anything (log_before count lines) (length lines + 1)
are_lines count lines few each = record {
  count = omega (arith, ap length (lines_alone count lines few each), length-map lines line_text);
  whole = λ more u. lines_whole count lines more few each ∙ ap (λ ls. ls ++ lines_of more) (sym (lines_alone count lines few each));
}

text_is : (lines : List LogLine) → log_text lines ≡ log_before (length lines) lines
text_is lines = refl

log_lines : (text : List ℕ) (lines : List LogLine) → IsLogText text lines → lines_of text ≡ log_head (length lines) ∷ map line_text lines
log_lines text lines is = ap lines_of (is.written ∙ text_is lines) ∙ lines_alone (length lines) lines is.few is.each

same_head : (m n : ℕ) → m ≤ most → n ≤ most → log_head m ≡ log_head n → m ≡ n
same_head m n few few_too same =
    let behind : decimal m ++ 10 ∷ [] ≡ decimal n ++ 10 ∷ [] = cc in
    decimal_injective m n (omega (arith, few)) (omega (arith, few_too)) (cut_same (decimal m) (decimal n) 10 10 [] [] (solid_decimal m (omega (arith, few))) (solid_decimal n (omega (arith, few_too))) refl refl behind).token

-- the lines of a log whose text begins like this
record Matches (count : ℕ) (lines : List LogLine) (x : List ℕ) (all : List LogLine) : Type 0 where
  number : length all ≡ count
  rest : map line_text lines ++ lines_of x ≡ map line_text all

matches : (text : List ℕ) (count : ℕ) (lines : List LogLine) (x : List ℕ) (all : List LogLine) → text ≡ log_before count lines ++ x → count ≤ most → All IsLogLine lines → IsLogText text all → Matches count lines x all
matches text count lines x all split few each is =
    let both = cons-parts (log_head count) (log_head (length all)) (map line_text lines ++ lines_of x) (map line_text all) (sym (lines_whole count lines x few each) ∙ ap lines_of (sym split) ∙ log_lines text all is) in
    record { number = sym (same_head count (length all) few is.few both.0); rest = both.1 }

-- a line at its place
record LineAt (lines : List LogLine) (w : List ℕ) (all : List LogLine) : Type 0 where
  line : LogLine
  is_line : IsLogLine line
  is : w ≡ line_text line
  less : length lines < length all

line_at : (lines : List LogLine) (w : List ℕ) (ws : List (List ℕ)) (all : List LogLine) → All IsLogLine all → map line_text lines ++ w ∷ ws ≡ map line_text all → LineAt lines w all
line_at [] w ws [] each same = cc
line_at [] w ws (a ∷ ats) each same = record { line = a; is_line = All-head IsLogLine a ats each; is = cc; less = omega arith }
line_at (l ∷ ls) w ws [] each same = cc
line_at (l ∷ ls) w ws (a ∷ ats) each same =
    let tail : map line_text ls ++ w ∷ ws ≡ map line_text ats = cc in
    let rest = line_at ls w ws ats (All-tail IsLogLine a ats each) tail in
    record { line = rest.line; is_line = rest.is_line; is = rest.is; less = omega (arith, rest.less) }

-- ---- a text is that of one log

same_lines : (cs ds : List LogLine) → All IsLogLine cs → All IsLogLine ds → map line_text cs ≡ map line_text ds → cs ≡ ds
same_lines [] [] one other same = refl
same_lines [] (d ∷ ds) one other same = cc
same_lines (c ∷ cs) [] one other same = cc
same_lines (c ∷ cs) (d ∷ ds) one other same =
    let head : line_text c ≡ line_text d = cc in
    let tail : map line_text cs ≡ map line_text ds = cc in
    let first = same_line c d (All-head IsLogLine c cs one) (All-head IsLogLine d ds other) head in
    let rest = same_lines cs ds (All-tail IsLogLine c cs one) (All-tail IsLogLine d ds other) tail in
    ap (λ z. z ∷ cs) first ∙ ap (λ zs. d ∷ zs) rest

pub one_log : (text : List ℕ) (cs ds : List LogLine) → IsLogText text cs → IsLogText text ds → cs ≡ ds
one_log text cs ds one other =
    same_lines cs ds one.each other.each (cons-parts (log_head (length cs)) (log_head (length ds)) (map line_text cs) (map line_text ds) (sym (log_lines text cs one) ∙ log_lines text ds other)).1

-- ---- completing

-- by lines without literals and hints
least_each : (lines : List LogLine) (k : ℕ) → All IsLogLine lines → (all : List LogLine) × (All IsLogLine all) × (length all ≡ length lines + k) × (more : List LogLine) × (all ≡ lines ++ more)
least_each lines zero each = (lines, each, omega arith, [], sym (append-nil lines))
least_each lines (suc k) each =
    let line : LogLine = record { clause = []; hints = [] } in
    let rest = least_each (lines ++ line ∷ []) k (All-push IsLogLine lines line each (line_of_clause [] empty_clause)) in
    (rest.0, rest.1, omega (arith, rest.2, length-append lines (line ∷ [])), line ∷ rest.3, rest.4 ∙ append_assoc lines (line ∷ []) rest.3)

pub log_begins : (count : ℕ) (lines : List LogLine) → count ≤ most → length lines ≤ count → All IsLogLine lines → Begins IsLogFile (log_before count lines)
log_begins count lines few within each =
    let full = least_each lines (count - length lines) each in
    let number : length full.0 ≡ count = omega (arith, full.2, within) in
    record {
      more = flat_map line_text full.3;
      whole = record {
        lines = full.0;
        log = record {
          written = append_assoc (log_head count) (flat_map line_text lines) (flat_map line_text full.3) ∙ ap (λ t. log_head count ++ t) (sym (flat_map-append line_text lines full.3) ∙ ap (flat_map line_text) (sym full.4)) ∙ ap (λ n. log_before n full.0) (sym number) ∙ sym (text_is full.0);
          few = omega (arith, number, few);
          each = full.1;
        };
      };
    }

-- ---- where a line breaks off

here : (text rest line after : List ℕ) (count : ℕ) (lines : List LogLine) → InLog text rest count lines → CutsLine rest line after → ¬ Begins IsLogFile (log_before count lines ++ line) → LeavesAt IsLogFile text (length lines + 1)
here text rest line after count lines place cut stuck =
    let now = stands rest line after cut in
    leaves_here IsLogFile text (log_before count lines) line after (length lines + 1) (place.split ∙ ap (λ r. log_before count lines ++ r) cut.split) (are_lines count lines place.few place.each) now.alone now.joined (log_begins count lines place.few place.within place.each) stuck

found : (line after rest more : List ℕ) (count : ℕ) (lines all : List LogLine) → count ≤ most → All IsLogLine lines → CutsLine rest line after → IsLogText ((log_before count lines ++ line) ++ more) all → (ending : List ℕ) × LineAt lines (line ++ ending) all × (length all ≡ count)
found line after rest more count lines all few each cut is =
    let on = onward line more (shape_of rest line after cut) in
    let match_all = matches ((log_before count lines ++ line) ++ more) count lines (line ++ more) all (append_assoc (log_before count lines) line more) few each is in
    (on.ending, line_at lines (line ++ on.ending) on.rest all is.each (ap (λ ls. map line_text lines ++ ls) (sym on.lines) ∙ match_all.rest), match_all.number)

pub no_line_here : (text rest line after : List ℕ) (count : ℕ) (lines : List LogLine) → InLog text rest count lines → CutsLine rest line after → IsNoLine line → LeavesAt IsLogFile text (length lines + 1)
no_line_here text rest line after count lines place cut none = here text rest line after count lines place cut (λ begins.
    let at = found line after rest begins.more count lines begins.whole.lines place.few place.each cut begins.whole.log in
    none.never at.0 at.1.line at.1.is_line at.1.is)

pub too_many : (text rest line after : List ℕ) (count : ℕ) (lines : List LogLine) → InLog text rest count lines → CutsLine rest line after → length lines ≡ count → LeavesAt IsLogFile text (length lines + 1)
too_many text rest line after count lines place cut full = here text rest line after count lines place cut (λ begins.
    let at = found line after rest begins.more count lines begins.whole.lines place.few place.each cut begins.whole.log in
    omega (arith, at.1.less, at.2, full))

pub line_cut_off : (text rest line after : List ℕ) (count : ℕ) (lines : List LogLine) → InLog text rest count lines → CutsLine rest line after → length lines < count → StopsInLine line → LeavesAt IsLogFile text (length lines + 2)
line_cut_off text rest line after count lines place cut room stops =
    let bare = open_line rest line after stops.more (line_text stops.log_line) cut (line_ends stops.log_line stops.is_line) stops.some stops.whole in
    let now = stands rest line after cut in
    let whole : text ≡ log_before count lines ++ line = place.split ∙ ap (λ r. log_before count lines ++ r) (cut.split ∙ ap (λ a. line ++ a) bare.0 ∙ append-nil line) in
    let all : lines_of text ≡ log_head count ∷ (map line_text lines ++ line ∷ []) = ap lines_of whole ∙ lines_whole count lines line place.few place.each ∙ ap (λ ls. log_head count ∷ (map line_text lines ++ ls)) now.alone in
    let longer = log_begins count (lines ++ stops.log_line ∷ []) place.few (omega (arith, length-append lines (stops.log_line ∷ []), room)) (All-push IsLogLine lines stops.log_line place.each stops.is_line) in
    leaves_end IsLogFile text (length lines + 2)
    (λ file.
    let matched = matches text count lines line file.lines whole place.few place.each file.log in
    let at = line_at lines line [] file.lines file.log.each (ap (λ ls. map line_text lines ++ ls) (sym now.alone) ∙ matched.rest) in
    bare.1 (subst EndsInFeed (sym at.is) (line_ends at.line at.is_line)))
    (subst (Begins IsLogFile) (sym whole) (begins_front IsLogFile (log_before count lines ++ line) stops.more (subst (Begins IsLogFile)
    (ap (λ t. log_head count ++ t) (flat_map-append line_text lines (stops.log_line ∷ []) ∙ ap (λ t. flat_map line_text lines ++ t) (append-nil (line_text stops.log_line))) ∙ sym (append_assoc (log_head count) (flat_map line_text lines) (line_text stops.log_line))
    ∙ ap (λ t. log_before count lines ++ t) (sym stops.whole) ∙ sym (append_assoc (log_before count lines) line stops.more)) longer)))
    (omega (arith, ap length all, length-append (map line_text lines) (line ∷ []), length-map lines line_text))

pub next_line : (text rest line after : List ℕ) (count : ℕ) (lines : List LogLine) (log_line : LogLine) → InLog text rest count lines → CutsLine rest line after → length lines < count → IsLineOf line log_line → InLog text after count (lines ++ log_line ∷ [])
next_line text rest line after count lines log_line place cut room is = record {
  split = place.split ∙ ap (λ r. log_before count lines ++ r) (cut.split ∙ ap (λ l. l ++ after) is.whole) ∙ sym (append_assoc (log_before count lines) (line_text log_line) after)
      ∙ ap (λ t. t ++ after) (append_assoc (log_head count) (flat_map line_text lines) (line_text log_line) ∙ ap (λ t. log_head count ++ t) (ap (λ t. flat_map line_text lines ++ t) (sym (append-nil (line_text log_line))) ∙ sym (flat_map-append line_text lines (log_line ∷ []))));
  few = place.few;
  within = omega (arith, length-append lines (log_line ∷ []), room);
  each = All-push IsLogLine lines log_line place.each is.is_line;
}

-- ---- at the end of the text

at_end : (text rest : List ℕ) (count : ℕ) (lines : List LogLine) → InLog text rest count lines → length rest ≡ 0 → text ≡ log_before count lines
at_end text [] count lines place none = place.split ∙ append-nil (log_before count lines)
at_end text (b ∷ bs) count lines place none = absurd (omega (arith, none))

pub too_few : (text rest : List ℕ) (count : ℕ) (lines : List LogLine) → InLog text rest count lines → length rest ≡ 0 → length lines ≢ count → LeavesAt IsLogFile text (length lines + 1)
too_few text rest count lines place none short =
    let whole = at_end text rest count lines place none in
    leaves_end IsLogFile text (length lines + 1)
    (λ file.
    let matched = matches text count lines [] file.lines (whole ∙ sym (append-nil (log_before count lines))) place.few place.each file.log in
    short (omega (arith, ap length matched.rest, length-append (map line_text lines) (lines_of []), length-map lines line_text, length-map file.lines line_text, matched.number)))
    (subst (Begins IsLogFile) (sym whole) (log_begins count lines place.few place.within place.each))
    (omega (arith, ap (λ t. length (lines_of t)) whole, (are_lines count lines place.few place.each).count))

pub whole_log : (text rest : List ℕ) (count : ℕ) (lines : List LogLine) → InLog text rest count lines → length rest ≡ 0 → length lines ≡ count → IsLogText text lines
whole_log text rest count lines place none full = record {
  written = at_end text rest count lines place none ∙ ap (λ n. log_before n lines) (sym full) ∙ sym (text_is lines);
  few = omega (arith, full, place.few);
  each = place.each;
}

-- ---- the first line

pub behind_head : (text line rest : List ℕ) (count : ℕ) → CutsLine text line rest → IsLogHead line count → InLog text rest count []
behind_head text line rest count cut is = record {
  split = cut.split ∙ ap (λ l. l ++ rest) (is.whole ∙ sym (append-nil (log_head count)));
  few = is.few;
  within = omega arith;
  each = All-nil IsLogLine;
}

nothing_begins : Begins IsLogFile []
nothing_begins = begins_front IsLogFile [] (log_before 0 []) (log_begins 0 [] (omega arith) (omega arith) (All-nil IsLogLine))

nothing_before : AreLines Anything [] 0
nothing_before = record { count = refl; whole = λ more u. refl }

pub empty_text : (text : List ℕ) → length text ≡ 0 → LeavesAt IsLogFile text 0
empty_text [] none = leaves_end IsLogFile [] 0 (λ file. absurd (omega (arith, ap length (log_lines [] file.lines file.log)))) nothing_begins refl
empty_text (b ∷ bs) none = absurd (omega (arith, none))

pub no_head_here : (text line rest : List ℕ) → CutsLine text line rest → IsNoLogHead line → LeavesAt IsLogFile text 0
no_head_here text line rest cut none =
    let now = stands text line rest cut in
    leaves_here IsLogFile text [] line rest 0 cut.split nothing_before now.alone now.joined nothing_begins (λ begins.
    let on = onward line begins.more (shape_of text line rest cut) in
    let file = begins.whole in
    let first = cons-parts (line ++ on.ending) (log_head (length file.lines)) on.rest (map line_text file.lines) (sym on.lines ∙ log_lines (line ++ begins.more) file.lines file.log) in
    none.never on.ending (length file.lines) file.log.few first.0)

pub head_cut_off : (text line rest : List ℕ) → CutsLine text line rest → StopsInLogHead line → LeavesAt IsLogFile text 1
head_cut_off text line rest cut stops =
    let bare = open_line text line rest stops.more (log_head stops.count) cut (head_ends stops.count stops.few) stops.some stops.whole in
    let now = stands text line rest cut in
    let whole : text ≡ line = cut.split ∙ ap (λ a. line ++ a) bare.0 ∙ append-nil line in
    let begins = log_begins stops.count [] stops.few (omega arith) (All-nil IsLogLine) in
    leaves_end IsLogFile text 1
    (λ file.
    let first = cons-parts line (log_head (length file.lines)) [] (map line_text file.lines) (sym now.alone ∙ ap lines_of (sym whole) ∙ log_lines text file.lines file.log) in
    bare.1 (subst EndsInFeed (sym first.0) (head_ends (length file.lines) file.log.few)))
    (subst (Begins IsLogFile) (sym whole) (begins_front IsLogFile line stops.more (subst (Begins IsLogFile) (append-nil (log_head stops.count) ∙ sym stops.whole) begins)))
    (ap (λ t. length (lines_of t)) whole ∙ ap length now.alone)
