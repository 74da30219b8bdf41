-- The reader of a formula, one line further, and where it stops.
use Rattle.std.proofs.Common.{◌≡◌, ◌≢◌, ℕ, ◌+◌, ◌<◌, true, false, ◌⊎◌, List, [], ◌∷◌, ◌++◌, length, refl, sym, ◌∙◌, ap, subst, arith, append_assoc, codes, inl, inr}
use Rattle.std.specs.List.{flat_map}
use Rattle.std.specs.Fmt.{decimal}
use Rattle.std.proofs.lemmas.List.{append-nil}
use Rattle.cnf_form.specs.declared.front.Front.{Front}
use Rattle.cnf_form.specs.declared.course.Course.TheVariants.{Fits, MayGrow, Breaks}
use Rattle.text_lines.specs.Lines.{lines_of, Begins, LeavesAt}
use Rattle.cnf_form.specs.Forms.{words, begins_with, told_lines, IsCnfText, IsFormulaText}
use Rattle.text_lines.specs.Cutting.{EndsInFeed, IsUnfinished, CutsLine, AreLines, Anything}
use Rattle.cnf_form.specs.Passing.{IsHead, AreComments, AreClauseLines, IsNoHead, StopsInHead}
use Rattle.cnf_form.specs.Reading.{front_words, Keeps, AreOfFormula, Reaches, TakesTold}
use Rattle.cnf_form.specs.Places.{MayFollow, IsAt, InComments, BehindHead, InClauses}
use Rattle.cnf_form.proofs.Words.Advancing.{Follows, follows_feed, follows_end, one_comment, one_head, one_more, comment_between}
use Rattle.text_lines.proofs.Joining.{one_line}
use Rattle.text_lines.proofs.Leaving.{leaves_here, leaves_end}
use Rattle.cnf_form.proofs.Formulas.Bodies.{too_few, enough, whole_formula}
use Rattle.cnf_form.proofs.Formulas.FormulaTexts.{of_lines, viable_comments, comment_begins, between_begins, clauses_begin, head_begins, head_breaks, clauses_break, head_stops, head_not_yet, clauses_stop, clauses_not_yet}
use Rattle.text_lines.proofs.Onward.{shape_of, cut_shorter}

-- ---- the next line

closed_lines : (rest before : List ℕ) (n : ℕ) → 0 < length rest → AreLines (MayFollow rest) before n → AreLines Anything before n
closed_lines rest before n some lines = record { count = lines.count; whole = λ more u. lines.whole more (λ none. absurd (omega (arith, none, some))) }

closed_clauses : (rest before : List ℕ) (variables count : ℕ) (seen : List (List ℕ)) → 0 < length rest → AreClauseLines (MayFollow rest) before variables count seen → AreClauseLines Anything before variables count seen
closed_clauses rest before variables count seen some clauses = record { head = clauses.head; body = clauses.body; told = clauses.told; is_head = clauses.is_head; follow = λ more u. clauses.follow more (λ none. absurd (omega (arith, none, some))) }

follows_of : (rest line after : List ℕ) → CutsLine rest line after → Follows (MayFollow after) line
follows_of rest line after cut = by_shape cut.shape
  where
    by_shape : EndsInFeed line ⊎ (IsUnfinished line × (after ≡ [])) → Follows (MayFollow after) line
    by_shape (inl ends) = follows_feed (MayFollow after) line ends
    by_shape (inr unfinished) = follows_end (MayFollow after) line unfinished.0 (λ more may. may (ap length unfinished.1))

nothing_after : (rest line after : List ℕ) → CutsLine rest line after → ¬ EndsInFeed line → after ≡ []
nothing_after rest line after cut none = by_shape cut.shape
  where
    by_shape : EndsInFeed line ⊎ (IsUnfinished line × (after ≡ [])) → after ≡ []
    by_shape (inl ends) = absurd (none ends)
    by_shape (inr unfinished) = unfinished.1

follows_itself : (rest : List ℕ) → MayFollow rest rest
follows_itself [] none = refl
follows_itself (b ∷ bs) none = absurd (omega (arith, none))

next_place : (text before rest line after : List ℕ) (n : ℕ) → IsAt text before rest n → CutsLine rest line after → 0 < length rest → Begins IsFormulaText (before ++ line) → IsAt text (before ++ line) after (n + 1)
next_place text before rest line after n is_at cut some begins = record {
  split = is_at.split ∙ ap (λ r. before ++ r) cut.split ∙ sym (append_assoc before line after);
  lines = one_line (MayFollow after) before line n (closed_lines rest before n some is_at.lines) (follows_of rest line after cut).joins;
  begins = begins;
  few = omega (arith, is_at.few, cut_shorter rest line after cut);
}

pub next_comment : (text rest line after : List ℕ) (n : ℕ) → InComments text rest n → CutsLine rest line after → 0 < length rest → begins_with 99 line ≡ true → InComments text after (n + 1)
next_comment text rest line after n place cut some comment =
    let lines = closed_lines rest place.before n some place.is_at.lines in
    record {
      before = place.before ++ line;
      is_at = next_place text place.before rest line after n place.is_at cut some (comment_begins place.before line n lines place.comments (shape_of rest line after cut) comment);
      comments = one_comment (MayFollow after) place.before line n lines (follows_of rest line after cut) comment place.comments;
    }

pub next_head : (text rest line after : List ℕ) (n variables count : ℕ) → InComments text rest n → CutsLine rest line after → 0 < length rest → begins_with 99 line ≡ false → IsHead line variables count → BehindHead text after (n + 1) variables count
next_head text rest line after n variables count place cut some plain is =
    let lines = closed_lines rest place.before n some place.is_at.lines in
    record {
      before = place.before ++ line;
      is_at = next_place text place.before rest line after n place.is_at cut some (head_begins place.before line n variables count lines place.comments is (shape_of rest line after cut) plain);
      clauses = one_head (MayFollow after) place.before line n variables count lines (follows_of rest line after cut) plain place.comments is;
    }

reached : (front : Front) → Keeps front → Reaches front.variables front.count (front_words front.clauses.items front.literals.items)
reached front keeps = record { clauses = front.clauses.items; literals = front.literals.items; is_front = keeps.is_front; same = refl }

-- after a line of clauses, or a comment among them
pub record Further (text after : List ℕ) (n : ℕ) (front : Front) : Type 0 where
  pub keeps : Keeps front
  pub place : InClauses text after n front

pub next_clauses : (text rest line after : List ℕ) (n : ℕ) (old new : Front) → Keeps old → InClauses text rest n old → CutsLine rest line after → 0 < length rest → TakesTold old new line Fits → Further text after (n + 1) new
next_clauses text rest line after n old new keeps place cut some (inl skips) =
    let lines = closed_lines rest place.before n some place.is_at.lines in
    let clauses = closed_clauses rest place.before old.variables old.count (front_words old.clauses.items old.literals.items) some place.clauses in
    let here : Further text after (n + 1) old = record {
      keeps = keeps;
      place = record {
        before = place.before ++ line;
        is_at = next_place text place.before rest line after n place.is_at cut some (between_begins place.before line n old.variables old.count (front_words old.clauses.items old.literals.items) lines clauses (reached old keeps) (shape_of rest line after cut) skips.comment);
        clauses = comment_between (MayFollow after) place.before line n old.variables old.count (front_words old.clauses.items old.literals.items) lines (follows_of rest line after cut) skips.comment clauses;
      };
    } in
    subst (Further text after (n + 1)) (sym skips.same) here
next_clauses text rest line after n old new keeps place cut some (inr takes) =
    let went = takes.takes in
    let lines = closed_lines rest place.before n some place.is_at.lines in
    let clauses = closed_clauses rest place.before old.variables old.count (front_words old.clauses.items old.literals.items) some place.clauses in
    let follows = follows_of rest line after cut in
    let reaches = subst (λ c. Reaches old.variables c (front_words old.clauses.items old.literals.items ++ words line)) went.count (subst (λ v. Reaches v new.count (front_words old.clauses.items old.literals.items ++ words line)) went.variables (subst (Reaches new.variables new.count) went.same (reached new went.keeps))) in
    let more = one_more (MayFollow after) place.before line n old.variables old.count (front_words old.clauses.items old.literals.items) lines follows takes.plain clauses in
    record {
      keeps = went.keeps;
      place = record {
        before = place.before ++ line;
        is_at = next_place text place.before rest line after n place.is_at cut some (clauses_begin place.before line n old.variables old.count (front_words old.clauses.items old.literals.items) lines clauses reaches (shape_of rest line after cut) takes.plain);
        clauses = subst (λ v. AreClauseLines (MayFollow after) (place.before ++ line) v new.count (front_words new.clauses.items new.literals.items)) (sym went.variables)
            (subst (λ c. AreClauseLines (MayFollow after) (place.before ++ line) old.variables c (front_words new.clauses.items new.literals.items)) (sym went.count)
            (subst (AreClauseLines (MayFollow after) (place.before ++ line) old.variables old.count) (sym went.same) more));
      };
    }

-- ---- where it stops

here_at : (text before rest line after : List ℕ) (n : ℕ) → IsAt text before rest n → CutsLine rest line after → 0 < length rest → ¬ Begins IsFormulaText (before ++ line) → LeavesAt IsFormulaText text n
here_at text before rest line after n is_at cut some stuck =
    let follows = follows_of rest line after cut in
    leaves_here IsFormulaText text before line after n (is_at.split ∙ ap (λ r. before ++ r) cut.split) (closed_lines rest before n some is_at.lines) follows.joins.alone (follows.joins.lines after (follows_itself after)) is_at.begins stuck

end_at : (text before rest line after : List ℕ) (n : ℕ) → IsAt text before rest n → CutsLine rest line after → 0 < length rest → ¬ EndsInFeed line → Begins IsFormulaText (before ++ line) → ¬ IsFormulaText (before ++ line) → LeavesAt IsFormulaText text (n + 1)
end_at text before rest line after n is_at cut some unfinished begins none =
    let whole : text ≡ before ++ line = is_at.split ∙ ap (λ r. before ++ r) (cut.split ∙ ap (λ a. line ++ a) (nothing_after rest line after cut unfinished) ∙ append-nil line) in
    let lines = one_line (MayFollow after) before line n (closed_lines rest before n some is_at.lines) (follows_of rest line after cut).joins in
    leaves_end IsFormulaText text (n + 1) (λ is. none (subst IsFormulaText whole is)) (subst (Begins IsFormulaText) (sym whole) begins) (ap (λ t. length (lines_of t)) whole ∙ lines.count)

pub no_head_here : (text rest line after : List ℕ) (n : ℕ) → InComments text rest n → CutsLine rest line after → 0 < length rest → begins_with 99 line ≡ false → IsNoHead line → LeavesAt IsFormulaText text n
no_head_here text rest line after n place cut some plain stray =
    here_at text place.before rest line after n place.is_at cut some (head_breaks place.before line n (closed_lines rest place.before n some place.is_at.lines) place.comments (shape_of rest line after cut) plain stray)

pub head_cut_off : (text rest line after : List ℕ) (n : ℕ) → InComments text rest n → CutsLine rest line after → 0 < length rest → begins_with 99 line ≡ false → StopsInHead line → LeavesAt IsFormulaText text (n + 1)
head_cut_off text rest line after n place cut some plain stops =
    let lines = closed_lines rest place.before n some place.is_at.lines in
    end_at text place.before rest line after n place.is_at cut some stops.unfinished (head_stops place.before line n lines place.comments (shape_of rest line after cut) plain stops)
    (head_not_yet (MayFollow after) place.before line n lines place.comments (follows_of rest line after cut) plain stops)

pub no_clauses_here : (text rest line after : List ℕ) (n : ℕ) (old new : Front) → InClauses text rest n old → CutsLine rest line after → 0 < length rest → TakesTold old new line Breaks → LeavesAt IsFormulaText text n
no_clauses_here text rest line after n old new place cut some (inl skips) = let other : Breaks ≡ Fits = skips.course_is in cc
no_clauses_here text rest line after n old new place cut some (inr takes) =
    here_at text place.before rest line after n place.is_at cut some (clauses_break place.before line n old.variables old.count (front_words old.clauses.items old.literals.items) (closed_lines rest place.before n some place.is_at.lines)
    (closed_clauses rest place.before old.variables old.count (front_words old.clauses.items old.literals.items) some place.clauses) (shape_of rest line after cut) takes.plain takes.takes)

pub clauses_cut_off : (text rest line after : List ℕ) (n : ℕ) (old new : Front) → InClauses text rest n old → CutsLine rest line after → 0 < length rest → TakesTold old new line MayGrow → LeavesAt IsFormulaText text (n + 1)
clauses_cut_off text rest line after n old new place cut some (inl skips) = let other : MayGrow ≡ Fits = skips.course_is in cc
clauses_cut_off text rest line after n old new place cut some (inr takes) =
    let lines = closed_lines rest place.before n some place.is_at.lines in
    let clauses = closed_clauses rest place.before old.variables old.count (front_words old.clauses.items old.literals.items) some place.clauses in
    end_at text place.before rest line after n place.is_at cut some takes.takes.unfinished (clauses_stop place.before line n old.variables old.count (front_words old.clauses.items old.literals.items) lines clauses (shape_of rest line after cut) takes.plain takes.takes)
    (clauses_not_yet (MayFollow after) place.before line n old.variables old.count (front_words old.clauses.items old.literals.items) lines clauses (follows_of rest line after cut) takes.plain takes.takes)

-- ---- at the end of the text

at_end : (text before rest : List ℕ) (n : ℕ) → IsAt text before rest n → length rest ≡ 0 → text ≡ before
at_end text before [] n is_at none = is_at.split ∙ append-nil before
at_end text before (b ∷ bs) n is_at none = absurd (omega (arith, none))

pub only_comments : (text rest : List ℕ) (n : ℕ) → InComments text rest n → length rest ≡ 0 → LeavesAt IsFormulaText text n
only_comments text rest n place none =
    let whole = at_end text place.before rest n place.is_at none in
    leaves_end IsFormulaText text n (λ is. let told = sym place.comments.told ∙ ap told_lines (sym whole) ∙ is.formula.lines in absurd (omega (arith, ap length told))) (subst (Begins IsFormulaText) (sym whole) place.is_at.begins)
    (ap (λ t. length (lines_of t)) whole ∙ place.is_at.lines.count)

pub missing_clauses : (text rest : List ℕ) (n : ℕ) (front : Front) → Keeps front → InClauses text rest n front → length rest ≡ 0 → length front.clauses.items ≢ front.count → LeavesAt IsFormulaText text n
missing_clauses text rest n front keeps place none short =
    let whole = at_end text place.before rest n place.is_at none in
    let within = keeps.is_front.within in
    let few : length front.clauses.items < front.count = omega (arith, short) in
    leaves_end IsFormulaText text n
    (λ is. too_few front.variables front.count front.clauses.items front.literals.items keeps.is_front few
    (subst (λ ws. AreOfFormula front.variables front.count ws) (append-nil (front_words front.clauses.items front.literals.items))
    (of_lines (MayFollow rest) place.before [] n front.variables front.count (front_words front.clauses.items front.literals.items) place.is_at.lines place.clauses (λ e. refl) (λ e. refl) (subst IsFormulaText (whole ∙ sym (append-nil place.before)) is))))
    (subst (Begins IsFormulaText) (sym whole) place.is_at.begins)
    (ap (λ t. length (lines_of t)) whole ∙ place.is_at.lines.count)

pub whole_text : (text rest : List ℕ) (n : ℕ) (front : Front) → Keeps front → InClauses text rest n front → length rest ≡ 0 → length front.clauses.items ≡ front.count → IsCnfText text front.variables front.clauses.items
whole_text text rest n front keeps place none full =
    let whole = at_end text place.before rest n place.is_at none in
    record {
      head = place.clauses.head;
      body = place.clauses.body;
      lines = ap told_lines whole ∙ place.clauses.told;
      marked = place.clauses.is_head.marked;
      numbers = place.clauses.is_head.numbers ∙ ap (λ c. codes "p" ∷ codes "cnf" ∷ decimal front.variables ∷ decimal c ∷ []) (sym full);
      clauses_follow = ap words (sym (append-nil (flat_map (λ line. line) place.clauses.body))) ∙ place.clauses.follow [] (λ e. refl) ∙ append-nil (front_words front.clauses.items front.literals.items)
          ∙ enough front.variables front.count front.clauses.items front.literals.items keeps.is_front (omega (arith, full));
      formula = whole_formula front.variables front.count front.clauses.items front.literals.items keeps.is_front;
    }

-- ---- at its start

pub at_beginning : (text : List ℕ) → InComments text text 0
at_beginning text =
    let lines : AreLines Anything [] 0 = record { count = refl; whole = λ more u. refl } in
    let comments : AreComments [] = record { told = refl } in
    record {
      before = [];
      is_at = record { split = refl; lines = record { count = refl; whole = λ more u. refl }; begins = viable_comments [] 0 lines comments; few = omega arith };
      comments = comments;
    }

pub behind : (text rest : List ℕ) (n variables count : ℕ) (front : Front) → BehindHead text rest n variables count → front.variables ≡ variables → front.count ≡ count → front.clauses.items ≡ [] → front.literals.items ≡ [] → InClauses text rest n front
unfolding front_words
behind text rest n variables count front place variables_are count_is clauses literals = record {
  before = place.before;
  is_at = place.is_at;
  clauses = rw (variables_are, count_is, clauses, literals) place.clauses;
}
