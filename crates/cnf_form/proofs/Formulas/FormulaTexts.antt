-- The lines of a formula's text: what they begin, and where they break off.
use Rattle.std.proofs.Common.{◌≡◌, ℕ, pos, suc, zero, ◌+◌, ◌-◌, ◌<◌, ◌≤◌, true, false, not, ◌⊎◌, ◌==◌, List, [], ◌∷◌, ◌++◌, length, replicate, unsigned_abs, codes, refl, sym, ◌∙◌, ap, subst, arith, append_assoc, inl, inr}
use Rattle.std.specs.List.{flat_map}
use Rattle.std.specs.Fmt.{decimal, signed_decimal}
use Rattle.std.proofs.lemmas.List.{append-nil}
use Rattle.std.proofs.lemmas.List.Concat.{flat_map-append}
use Rattle.std.proofs.lemmas.Fmt.{decimal_injective}
use Rattle.std.proofs.lemmas.List.Elements.{All-nil}
use Rattle.std.proofs.lemmas.List.Folds.{list_all-append}
use Rattle.cnf_form.specs.Literals.{most, IsClause, NamesUpTo}
use Rattle.text_lines.specs.Lines.{Begins}
use Rattle.cnf_form.specs.Forms.{words, begins_with, told_lines, IsFormula, IsFormulaText}
use Rattle.text_lines.specs.Cutting.{HasNoFeed, EndsInFeed, IsUnfinished, AreLines, Anything}
use Rattle.cnf_form.specs.Passing.{IsHead, AreComments, AreClauseLines, IsNoHead, StopsInHead}
use Rattle.cnf_form.specs.Reading.{front_words, AreOfFormula, Reaches, BreaksOff, StopsShort}
use Rattle.cnf_form.proofs.Formulas.OneFormula.{third}
use Rattle.cnf_form.proofs.Formulas.Heads.{zero_is}
use Rattle.cnf_form.proofs.Formulas.Fronts.{empty_clause}
use Rattle.cnf_form.proofs.Formulas.Bodies.{completed}
use Rattle.cnf_form.proofs.Words.Advancing.{Follows, follows_feed, one_comment, one_head, one_more, comment_between, told_with, told_plain, next_told, words_feed, begins_on}
use Rattle.text_lines.proofs.Joining.{one_line, some_line}
use Rattle.text_lines.proofs.Leaving.{begins_front}
use Rattle.plain_laws.proofs.Lists.{cons-parts}

-- what stands behind the lines so far, as a text of a formula has it
pub of_lines : (May : List ℕ → Type 0) (before more : List ℕ) (n variables count : ℕ) (seen : List (List ℕ)) → AreLines May before n → AreClauseLines May before variables count seen → May more → May (flat_map (λ line. line) (told_lines more))
    → IsFormulaText (before ++ more) → AreOfFormula variables count (seen ++ words (flat_map (λ line. line) (told_lines more)))
of_lines May before more n variables count seen lines clauses may may_told text =
    let is = text.formula in
    let told = sym (told_with May before more n lines may ∙ ap (λ ls. ls ++ told_lines more) clauses.told) ∙ is.lines in
    let same = cons-parts clauses.head is.head (clauses.body ++ told_lines more) is.body told in
    let heads = sym clauses.is_head.numbers ∙ ap words same.0 ∙ is.numbers in
    let few_variables = clauses.is_head.few_variables in
    let few_clauses = clauses.is_head.few_clauses in
    let other_variables = is.formula.few_variables in
    let other_clauses = is.formula.few_clauses in
    let variables_are = decimal_injective variables text.variables (omega arith) (omega arith) (third (codes "p") (codes "cnf") (decimal variables) (decimal text.variables) (decimal count) (decimal (length text.clauses)) heads) in
    let count_is = decimal_injective count (length text.clauses) (omega arith) (omega arith) (fourth (codes "p") (codes "cnf") (decimal variables) (decimal text.variables) (decimal count) (decimal (length text.clauses)) heads) in
    record {
      clauses = text.clauses;
      formula = subst (λ v. IsFormula v text.clauses) (sym variables_are) is.formula;
      number = sym count_is;
      same = sym (clauses.follow (flat_map (λ line. line) (told_lines more)) may_told) ∙ ap words (sym (flat_map-append (λ (line : List ℕ). line) clauses.body (told_lines more)) ∙ ap (flat_map (λ line. line)) same.1) ∙ is.clauses_follow;
    }
  where
    fourth : (p q x y m n : List ℕ) → p ∷ q ∷ x ∷ m ∷ [] ≡ p ∷ q ∷ y ∷ n ∷ [] → m ≡ n
    fourth p q x y m n h = cc

-- ---- completing

zeros : ℕ → List ℕ
zeros zero = []
zeros (suc k) = 48 ∷ 10 ∷ zeros k

told_zeros : (k : ℕ) → flat_map (λ line. line) (told_lines (zeros k)) ≡ zeros k
unfolding zeros
told_zeros zero = refl
told_zeros (suc k) = ap (λ t. 48 ∷ 10 ∷ t) (told_zeros k)

words_zeros : (k : ℕ) → words (zeros k) ≡ replicate k (signed_decimal (pos 0))
unfolding zeros
words_zeros zero = refl
words_zeros (suc k) = words_feed (48 ∷ []) (zeros k) ∙ ap (λ ws. (48 ∷ []) ∷ ws) (words_zeros k) ∙ ap (λ w. w ∷ replicate k (decimal 0)) (sym zero_is)

pub viable : (before : List ℕ) (n variables count : ℕ) (seen : List (List ℕ)) → AreLines Anything before n → AreClauseLines Anything before variables count seen → Reaches variables count seen → Begins IsFormulaText before
viable before n variables count seen lines clauses reaches =
    let within = reaches.is_front.within in
    let k : ℕ = count - length reaches.clauses in
    let full = completed (count - length reaches.clauses) variables count reaches.clauses reaches.literals reaches.is_front (omega arith) in
    record {
      more = zeros (count - length reaches.clauses);
      whole = record {
        variables = variables;
        clauses = full.clauses;
        formula = record {
          head = clauses.head;
          body = clauses.body ++ told_lines (zeros (count - length reaches.clauses));
          lines = told_with Anything before (zeros (count - length reaches.clauses)) n lines tt ∙ ap (λ ls. ls ++ told_lines (zeros (count - length reaches.clauses))) clauses.told;
          marked = clauses.is_head.marked;
          numbers = clauses.is_head.numbers ∙ ap (λ c. codes "p" ∷ codes "cnf" ∷ decimal variables ∷ decimal c ∷ []) (sym full.number);
          clauses_follow =
              ap words (flat_map-append (λ (line : List ℕ). line) clauses.body (told_lines (zeros (count - length reaches.clauses))) ∙ ap (λ t. flat_map (λ line. line) clauses.body ++ t) (told_zeros (count - length reaches.clauses)))
              ∙ clauses.follow (zeros (count - length reaches.clauses)) tt ∙ ap (λ ws. seen ++ ws) (words_zeros (count - length reaches.clauses))
              ∙ ap (λ ws. ws ++ replicate (count - length reaches.clauses) (signed_decimal (pos 0))) reaches.same ∙ full.same;
          formula = full.formula;
        };
      };
    }

pub viable_comments : (before : List ℕ) (n : ℕ) → AreLines Anything before n → AreComments before → Begins IsFormulaText before
viable_comments before n lines comments = record {
  more = codes "p cnf 0 0";
  whole = record {
    variables = 0;
    clauses = [];
    formula = record {
      head = codes "p cnf 0 0";
      body = [];
      lines = told_with Anything before (codes "p cnf 0 0") n lines tt ∙ ap (λ ls. ls ++ told_lines (codes "p cnf 0 0")) comments.told;
      marked = refl;
      numbers = rw zero_is refl;
      clauses_follow = refl;
      formula = record { few_variables = omega arith; few_clauses = omega arith; each = All-nil IsClause; named = All-nil (NamesUpTo 0) };
    };
  };
}

-- a line, with a line feed at its end
record Closing (line : List ℕ) : Type 0 where
  ending : List ℕ
  ends : EndsInFeed (line ++ ending)
  same : words (line ++ ending) ≡ words line

pub some_of : (line : List ℕ) → EndsInFeed line ⊎ IsUnfinished line → 0 < length line
some_of line (inl ends) = some_line line ends
some_of line (inr unfinished) = unfinished.some

closing : (line : List ℕ) → EndsInFeed line ⊎ IsUnfinished line → Closing line
closing line (inl ends) = record { ending = []; ends = subst EndsInFeed (sym (append-nil line)) ends; same = ap words (append-nil line) }
closing line (inr unfinished) = record { ending = 10 ∷ []; ends = record { visible = line; is = refl; no_feed = unfinished.no_feed }; same = words_feed line [] ∙ append-nil (words line) }

closed_begins : (before line : List ℕ) (c : Closing line) → Begins IsFormulaText (before ++ (line ++ c.ending)) → Begins IsFormulaText (before ++ line)
closed_begins before line c begins = begins_front IsFormulaText (before ++ line) c.ending (subst (Begins IsFormulaText) (sym (append_assoc before line c.ending)) begins)

pub comment_begins : (before line : List ℕ) (n : ℕ) → AreLines Anything before n → AreComments before → EndsInFeed line ⊎ IsUnfinished line → begins_with 99 line ≡ true → Begins IsFormulaText (before ++ line)
comment_begins before line n lines comments shape comment =
    let c = closing line shape in
    let follows = follows_feed Anything (line ++ c.ending) c.ends in
    closed_begins before line c (viable_comments (before ++ (line ++ c.ending)) (n + 1) (one_line Anything before (line ++ c.ending) n lines follows.joins)
    (one_comment Anything before (line ++ c.ending) n lines follows (begins_on 99 line c.ending (some_of line shape) ∙ comment) comments))

pub between_begins : (before line : List ℕ) (n variables count : ℕ) (seen : List (List ℕ)) → AreLines Anything before n → AreClauseLines Anything before variables count seen → Reaches variables count seen → EndsInFeed line ⊎ IsUnfinished line → begins_with 99 line ≡ true
    → Begins IsFormulaText (before ++ line)
between_begins before line n variables count seen lines clauses reaches shape comment =
    let c = closing line shape in
    let follows = follows_feed Anything (line ++ c.ending) c.ends in
    closed_begins before line c (viable (before ++ (line ++ c.ending)) (n + 1) variables count seen (one_line Anything before (line ++ c.ending) n lines follows.joins)
    (comment_between Anything before (line ++ c.ending) n variables count seen lines follows (begins_on 99 line c.ending (some_of line shape) ∙ comment) clauses) reaches)

pub clauses_begin : (before line : List ℕ) (n variables count : ℕ) (seen : List (List ℕ)) → AreLines Anything before n → AreClauseLines Anything before variables count seen → Reaches variables count (seen ++ words line) → EndsInFeed line ⊎ IsUnfinished line → begins_with 99 line ≡ false
    → Begins IsFormulaText (before ++ line)
clauses_begin before line n variables count seen lines clauses reaches shape plain =
    let c = closing line shape in
    let follows = follows_feed Anything (line ++ c.ending) c.ends in
    closed_begins before line c (viable (before ++ (line ++ c.ending)) (n + 1) variables count (seen ++ words (line ++ c.ending)) (one_line Anything before (line ++ c.ending) n lines follows.joins)
    (one_more Anything before (line ++ c.ending) n variables count seen lines follows (begins_on 99 line c.ending (some_of line shape) ∙ plain) clauses) (subst (λ ws. Reaches variables count (seen ++ ws)) (sym c.same) reaches))

nothing_read : (variables count : ℕ) → variables ≤ most → count ≤ most → Reaches variables count []
unfolding front_words
nothing_read variables count few_variables few_clauses = record {
  clauses = [];
  literals = [];
  is_front = record { few_variables = few_variables; few_clauses = few_clauses; within = omega arith; each = record { each = All-nil IsClause }; named = All-nil (NamesUpTo variables); clause = empty_clause; up_to = All-nil (λ l. unsigned_abs l ≤ variables); ended = λ full. refl };
  same = refl;
}

pub head_begins : (before line : List ℕ) (n variables count : ℕ) → AreLines Anything before n → AreComments before → IsHead line variables count → EndsInFeed line ⊎ IsUnfinished line → begins_with 99 line ≡ false → Begins IsFormulaText (before ++ line)
head_begins before line n variables count lines comments is shape plain =
    let c = closing line shape in
    let follows = follows_feed Anything (line ++ c.ending) c.ends in
    let some = some_of line shape in
    let head : IsHead (line ++ c.ending) variables count = record { marked = begins_on 112 line c.ending some ∙ is.marked; numbers = c.same ∙ is.numbers; few_variables = is.few_variables; few_clauses = is.few_clauses } in
    closed_begins before line c (viable (before ++ (line ++ c.ending)) (n + 1) variables count [] (one_line Anything before (line ++ c.ending) n lines follows.joins)
    (one_head Anything before (line ++ c.ending) n variables count lines follows (begins_on 99 line c.ending some ∙ plain) comments head) (nothing_read variables count is.few_variables is.few_clauses))

-- ---- breaking off

head_breaks_told : (before line more : List ℕ) (n : ℕ) → AreLines Anything before n → AreComments before → told_lines ((before ++ line) ++ more) ≡ told_lines (line ++ more)
head_breaks_told before line more n lines comments = ap told_lines (append_assoc before line more) ∙ told_with Anything before (line ++ more) n lines tt ∙ ap (λ ls. ls ++ told_lines (line ++ more)) comments.told

pub head_breaks : (before line : List ℕ) (n : ℕ) → AreLines Anything before n → AreComments before → EndsInFeed line ⊎ IsUnfinished line → begins_with 99 line ≡ false → IsNoHead line → ¬ Begins IsFormulaText (before ++ line)
head_breaks before line n lines comments shape plain stray begun =
    let is = begun.whole.formula in
    let next = next_told line begun.more shape plain in
    let same = cons-parts (line ++ next.ending) is.head (told_lines next.rest) is.body (sym (head_breaks_told before line begun.more n lines comments ∙ next.told) ∙ is.lines) in
    stray.never next.ending begun.whole.variables (length begun.whole.clauses) next.closed
    (record { marked = ap (begins_with 112) same.0 ∙ is.marked; numbers = ap words same.0 ∙ is.numbers; few_variables = is.formula.few_variables; few_clauses = is.formula.few_clauses })

pub clauses_break : (before line : List ℕ) (n variables count : ℕ) (seen : List (List ℕ)) → AreLines Anything before n → AreClauseLines Anything before variables count seen → EndsInFeed line ⊎ IsUnfinished line → begins_with 99 line ≡ false → BreaksOff variables count seen line
    → ¬ Begins IsFormulaText (before ++ line)
clauses_break before line n variables count seen lines clauses shape plain breaks begun =
    let next = next_told line begun.more shape plain in
    let of = of_lines Anything before (line ++ begun.more) n variables count seen lines clauses tt tt (subst IsFormulaText (append_assoc before line begun.more) begun.whole) in
    breaks.never (next.ending ++ flat_map (λ line. line) (told_lines next.rest))
    (subst (λ t. AreOfFormula variables count (seen ++ words t)) (ap (flat_map (λ line. line)) next.told ∙ append_assoc line next.ending (flat_map (λ line. line) (told_lines next.rest))) of)

-- ---- stopping short

only_unfinished : (line : List ℕ) → EndsInFeed line ⊎ IsUnfinished line → ¬ EndsInFeed line → IsUnfinished line
only_unfinished line (inl ends) none = absurd (none ends)
only_unfinished line (inr unfinished) none = unfinished

pub longer_line : (line more : List ℕ) → IsUnfinished line → HasNoFeed more → EndsInFeed (line ++ (more ++ 10 ∷ []))
longer_line line more unfinished no_feed = record {
  visible = line ++ more;
  is = sym (append_assoc line more (10 ∷ []));
  no_feed = list_all-append (λ b. not (b == 10)) line more ∙ rw (unfinished.no_feed, no_feed) refl;
}

pub head_stops : (before line : List ℕ) (n : ℕ) → AreLines Anything before n → AreComments before → EndsInFeed line ⊎ IsUnfinished line → begins_with 99 line ≡ false → StopsInHead line → Begins IsFormulaText (before ++ line)
head_stops before line n lines comments shape plain stops =
    let ends = longer_line line stops.more (only_unfinished line shape stops.unfinished) stops.no_feed in
    begins_front IsFormulaText (before ++ line) (stops.more ++ 10 ∷ []) (subst (Begins IsFormulaText) (sym (append_assoc before line (stops.more ++ 10 ∷ [])))
    (head_begins before (line ++ (stops.more ++ 10 ∷ [])) n stops.variables stops.count lines comments stops.is_head (inl ends) (begins_on 99 line (stops.more ++ 10 ∷ []) (some_of line shape) ∙ plain)))

pub head_not_yet : (May : List ℕ → Type 0) (before line : List ℕ) (n : ℕ) → AreLines Anything before n → AreComments before → Follows May line → begins_with 99 line ≡ false → StopsInHead line → ¬ IsFormulaText (before ++ line)
head_not_yet May before line n lines comments follows plain stops text =
    let is = text.formula in
    let same = cons-parts line is.head [] is.body (sym (told_with Anything before line n lines tt ∙ ap (λ ls. ls ++ told_lines line) comments.told ∙ told_plain May line follows plain) ∙ is.lines) in
    stops.none text.variables (length text.clauses) (record { marked = ap (begins_with 112) same.0 ∙ is.marked; numbers = ap words same.0 ∙ is.numbers; few_variables = is.formula.few_variables; few_clauses = is.formula.few_clauses })

pub clauses_stop : (before line : List ℕ) (n variables count : ℕ) (seen : List (List ℕ)) → AreLines Anything before n → AreClauseLines Anything before variables count seen → EndsInFeed line ⊎ IsUnfinished line → begins_with 99 line ≡ false → StopsShort variables count seen line
    → Begins IsFormulaText (before ++ line)
clauses_stop before line n variables count seen lines clauses shape plain stops =
    let ends = longer_line line stops.more (only_unfinished line shape stops.unfinished) stops.no_feed in
    begins_front IsFormulaText (before ++ line) (stops.more ++ 10 ∷ []) (subst (Begins IsFormulaText) (sym (append_assoc before line (stops.more ++ 10 ∷ [])))
    (clauses_begin before (line ++ (stops.more ++ 10 ∷ [])) n variables count seen lines clauses stops.reaches (inl ends) (begins_on 99 line (stops.more ++ 10 ∷ []) (some_of line shape) ∙ plain)))

pub clauses_not_yet : (May : List ℕ → Type 0) (before line : List ℕ) (n variables count : ℕ) (seen : List (List ℕ)) → AreLines Anything before n → AreClauseLines Anything before variables count seen → Follows May line → begins_with 99 line ≡ false → StopsShort variables count seen line
    → ¬ IsFormulaText (before ++ line)
clauses_not_yet May before line n variables count seen lines clauses follows plain stops text =
    stops.none (subst (λ t. AreOfFormula variables count (seen ++ words t)) (ap (flat_map (λ line. line)) (told_plain May line follows plain) ∙ append-nil line) (of_lines Anything before line n variables count seen lines clauses tt tt text))
