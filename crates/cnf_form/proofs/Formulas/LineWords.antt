-- What the words of a line do with the clauses before it.
use Rattle.std.proofs.Common.{◌≡◌, ◌≢◌, ℕ, ℤ, pos, ◌<◌, Bool, true, false, not, ◌⊎◌, List, [], ◌∷◌, ◌++◌, length, refl, sym, ◌∙◌, ap, subst, arith, append_assoc, length-append, inl, inr, ne_eqb}
use Rattle.std.specs.List.{list_all}
use Rattle.std.specs.Fmt.{signed_decimal}
use Rattle.std.proofs.lemmas.Bool.{false≢true}
use Rattle.std.proofs.lemmas.List.{append-nil}
use Rattle.std.proofs.lemmas.List.Folds.{list_all-append}
use Rattle.cnf_form.specs.Forms.{is_gap, words}
use Rattle.cnf_form.specs.Words.{AreGaps, IsSolid, CutsWord}
use Rattle.text_lines.specs.Cutting.{HasNoFeed, EndsInFeed}
use Rattle.cnf_form.specs.Passing.{BeginsApart, UpTo}
use Rattle.cnf_form.specs.declared.front.Front.{Front}
use Rattle.cnf_form.specs.declared.course.Course.{Course}
use Rattle.cnf_form.specs.declared.course.Course.TheVariants.{Fits, MayGrow, Breaks}
use Rattle.cnf_form.specs.Reading.{IsNew, IsFront, front_words, GoesOnBy, Grows, AreOfFormula, Reaches, BreaksOff, StopsShort, Keeps, TakesLine, EndsAt}
use Rattle.cnf_form.proofs.Words.Written.{AllNumeric, IsNumeric-signed, words-word}
use Rattle.cnf_form.proofs.Words.Wording.{words-gaps, words-solid, words-last, cut_whole, cut_open}
use Rattle.cnf_form.proofs.Formulas.Fronts.{ended, ended_words, longer, longer_words}
use Rattle.cnf_form.proofs.Words.Growing.{small_number}
use Rattle.cnf_form.proofs.Formulas.Bodies.{goes_on}
use Rattle.plain_laws.proofs.Booleans.{and-false}

pub cut_some : (text word rest : List ℕ) → CutsWord text word rest → length rest < length text
cut_some text word rest cut = omega (arith, cut.some, ap length cut.split, length-append cut.gaps (word ++ rest), length-append word rest)

pub nothing_apart : BeginsApart []
nothing_apart = record { gap = λ some. absurd (omega (arith, some)) }

-- the words from a word on
pub words_from : (text word rest more : List ℕ) → CutsWord text word rest → (length rest ≡ 0 → BeginsApart more) → words (text ++ more) ≡ word ∷ words (rest ++ more)
words_from text word (b ∷ bs) more cut last = cut_whole text word (b ∷ bs) more cut (omega arith)
words_from text word [] more cut last = cut_open text word [] more cut refl ∙ by_more more (last refl)
  where
    by_more : (more : List ℕ) → BeginsApart more → words (word ++ more) ≡ word ∷ words more
    by_more [] apart = ap words (append-nil word) ∙ words-last word cut.solid cut.some
    by_more (b ∷ bs) apart = let gap = apart.gap (omega arith) in words-solid word bs b cut.solid cut.some gap ∙ ap (λ ws. word ∷ ws) (sym (words-gaps (b ∷ []) bs (rw gap refl)))

-- what an unfinished word goes on to
pub record SolidFront (word text : List ℕ) : Type 0 where
  pub front : List ℕ
  pub rest : List (List ℕ)
  pub is : words (word ++ text) ≡ (word ++ front) ∷ rest

solid_more : (word : List ℕ) (b : ℕ) → IsSolid word → is_gap b ≡ false → IsSolid (word ++ b ∷ [])
solid_more word b solid plain = list_all-append (λ b. not (is_gap b)) word (b ∷ []) ∙ rw (solid, plain) refl

pub solid_front : (text word : List ℕ) → IsSolid word → 0 < length word → SolidFront word text
solid_front [] word solid some = record { front = []; rest = []; is = ap words (append-nil word) ∙ words-last word solid some ∙ ap (λ w. w ∷ []) (sym (append-nil word)) }
solid_front (b ∷ bs) word solid some = by_gap (is_gap b) refl (λ plain. solid_front bs (word ++ b ∷ []) (solid_more word b solid plain) (omega (arith, length-append word (b ∷ []))))
  where
    by_gap : (g : Bool) → is_gap b ≡ g → (is_gap b ≡ false → SolidFront (word ++ b ∷ []) bs) → SolidFront word (b ∷ bs)
    by_gap true e go = record { front = []; rest = words bs; is = words-solid word bs b solid some e ∙ ap (λ w. w ∷ words bs) (sym (append-nil word)) }
    by_gap false e go =
        let more = go e in
        record { front = b ∷ more.front; rest = more.rest; is = ap words (sym (append_assoc word (b ∷ []) bs)) ∙ more.is ∙ ap (λ w. w ∷ more.rest) (append_assoc word (b ∷ []) more.front) }

solid_end : (before word visible : List ℕ) → IsSolid word → 0 < length word → before ++ word ≢ visible ++ 10 ∷ []
solid_end [] word visible solid some same =
    false≢true (sym (and-false (list_all (λ b. not (is_gap b)) visible)) ∙ sym (list_all-append (λ b. not (is_gap b)) visible (10 ∷ [])) ∙ ap (list_all (λ b. not (is_gap b))) (sym same) ∙ solid)
solid_end (x ∷ xs) word [] solid some same = let tail : xs ++ word ≡ [] = cc in omega (arith, ap length tail, length-append xs word)
solid_end (x ∷ xs) word (y ∷ ys) solid some same = let tail : xs ++ word ≡ ys ++ 10 ∷ [] = cc in solid_end xs word ys solid some tail

numeric-right : (xs ys : List ℕ) → AllNumeric (xs ++ ys) → AllNumeric ys
numeric-right [] ys numeric = numeric
numeric-right (x ∷ xs) ys numeric = numeric-right xs ys numeric.2

no_feed_numeric : (bytes : List ℕ) → AllNumeric bytes → HasNoFeed bytes
no_feed_numeric [] numeric = refl
no_feed_numeric (b ∷ bs) numeric = rw (ne_eqb b 10 (λ feed. omega (arith, feed, numeric.0)), no_feed_numeric bs numeric.2) refl

-- the clauses, gone on with a number
went_on : (variables count : ℕ) (clauses : List (List ℤ)) (literals : List ℤ) (number : ℤ) → IsFront variables count clauses literals → length clauses < count → (number ≡ pos 0) ⊎ IsNew variables literals number
    → Reaches variables count (front_words clauses literals ++ signed_decimal number ∷ [])
went_on variables count clauses literals number front room (inl is) =
    record { clauses = clauses ++ literals ∷ []; literals = []; is_front = ended variables count clauses literals front room; same = ap (λ z. front_words clauses literals ++ signed_decimal z ∷ []) is ∙ sym (ended_words clauses literals) }
went_on variables count clauses literals number front room (inr new) =
    record { clauses = clauses; literals = literals ++ number ∷ []; is_front = longer variables count clauses literals number front room new; same = sym (longer_words clauses literals number) }

-- ---- a word with which they do not go on

pub at_word : (seen : List (List ℕ)) (line rest : List ℕ) (now : List (List ℕ)) (word after more : List ℕ) → UpTo seen line rest now → CutsWord rest word after → (length after ≡ 0 → BeginsApart more) → seen ++ words (line ++ more) ≡ now ++ word ∷ words (after ++ more)
at_word seen line rest now word after more up cut last =
    let some = cut_some rest word after cut in
    up.same more (λ none. absurd (omega (arith, none, some))) ∙ ap (λ ws. now ++ ws) (words_from rest word after more cut last)

pub at_open : (seen : List (List ℕ)) (line rest : List ℕ) (now : List (List ℕ)) (word after more : List ℕ) → UpTo seen line rest now → CutsWord rest word after → length after ≡ 0 → seen ++ words (line ++ more) ≡ now ++ words (word ++ more)
at_open seen line rest now word after more up cut last =
    let some = cut_some rest word after cut in
    up.same more (λ none. absurd (omega (arith, none, some))) ∙ ap (λ ws. now ++ ws) (cut_open rest word after more cut last)

-- a line that ends with a word has no line feed
pub open_end : (seen : List (List ℕ)) (line rest : List ℕ) (now : List (List ℕ)) (word after : List ℕ) → UpTo seen line rest now → CutsWord rest word after → length after ≡ 0 → ¬ EndsInFeed line
open_end seen line rest now word (b ∷ bs) up cut last ends = omega (arith, last)
open_end seen line rest now word [] up cut last ends =
    solid_end (up.before ++ cut.gaps) word ends.visible cut.solid cut.some
    (append_assoc up.before cut.gaps word ∙ ap (λ w. up.before ++ (cut.gaps ++ w)) (sym (append-nil word)) ∙ ap (λ r. up.before ++ r) (sym cut.split) ∙ sym up.split ∙ ends.is)

pub stops_short : (variables count : ℕ) (clauses : List (List ℤ)) (literals : List ℤ) (seen : List (List ℕ)) (line rest word after : List ℕ) → IsFront variables count clauses literals → UpTo seen line rest (front_words clauses literals) → CutsWord rest word after
    → length after ≡ 0 → Grows variables count clauses literals word → ((number : ℤ) → ¬ GoesOnBy variables count clauses literals word number) → StopsShort variables count seen line
stops_short variables count clauses literals seen line rest word after front up cut last grows none =
    let now : List (List ℕ) = front_words clauses literals in
    let goes = grows.goes_on in
    let numeric = IsNumeric-signed grows.number (small_number variables literals grows.number goes.fits) in
    let all = subst AllNumeric (sym goes.written) numeric.each in
    record {
      unfinished = open_end seen line rest (front_words clauses literals) word after up cut last;
      none = λ formula. goes_on variables count clauses literals word (words (after ++ [])) front
          (subst (AreOfFormula variables count) (ap (λ l. seen ++ words l) (sym (append-nil line)) ∙ at_word seen line rest (front_words clauses literals) word after [] up cut (λ e. nothing_apart)) formula) none;
      more = grows.more;
      no_feed = no_feed_numeric grows.more (numeric-right word grows.more all);
      reaches = subst (Reaches variables count)
          (ap (λ w. front_words clauses literals ++ w ∷ []) (sym goes.written)
          ∙ ap (λ ws. front_words clauses literals ++ ws) (sym (words-word (word ++ grows.more) 10 [] (record { some = omega (arith, cut.some, length-append word grows.more); each = all }) refl) ∙ ap words (append_assoc word grows.more (10 ∷ [])))
          ∙ sym (at_open seen line rest (front_words clauses literals) word after (grows.more ++ 10 ∷ []) up cut last))
          (went_on variables count clauses literals grows.number front goes.room goes.fits);
    }

pub breaks_off : (variables count : ℕ) (clauses : List (List ℤ)) (literals : List ℤ) (seen : List (List ℕ)) (line rest word after : List ℕ) → IsFront variables count clauses literals → UpTo seen line rest (front_words clauses literals) → CutsWord rest word after
    → (length after ≡ 0 → ¬ Grows variables count clauses literals word) → ((number : ℤ) → ¬ GoesOnBy variables count clauses literals word number) → BreaksOff variables count seen line
breaks_off variables count clauses literals seen line rest word [] front up cut stuck none = record {
  never = λ more formula.
      let solid = solid_front more word cut.solid cut.some in
      goes_on variables count clauses literals (word ++ solid.front) solid.rest front
      (subst (AreOfFormula variables count) (at_open seen line rest (front_words clauses literals) word [] more up cut refl ∙ ap (λ ws. front_words clauses literals ++ ws) solid.is) formula)
      (λ number goes. stuck refl (record { more = solid.front; number = number; goes_on = goes }));
}
breaks_off variables count clauses literals seen line rest word (b ∷ bs) front up cut stuck none = record {
  never = λ more formula.
      goes_on variables count clauses literals word (words ((b ∷ bs) ++ more)) front
      (subst (AreOfFormula variables count) (at_word seen line rest (front_words clauses literals) word (b ∷ bs) more up cut (λ e. absurd (omega (arith, e)))) formula) none;
}

-- one more word
pub one_word : (seen : List (List ℕ)) (line rest : List ℕ) (now new : List (List ℕ)) (word after : List ℕ) → UpTo seen line rest now → CutsWord rest word after → new ≡ now ++ word ∷ [] → UpTo seen line after new
one_word seen line rest now new word after up cut is = record {
  before = up.before ++ (cut.gaps ++ word);
  split = up.split ∙ ap (λ r. up.before ++ r) (cut.split ∙ sym (append_assoc cut.gaps word after)) ∙ sym (append_assoc up.before (cut.gaps ++ word) after);
  same = λ more last. at_word seen line rest now word after more up cut last ∙ sym (append_assoc now (word ∷ []) (words (after ++ more))) ∙ ap (λ ws. ws ++ words (after ++ more)) (sym is);
}

-- no word is left
pub no_word : (seen : List (List ℕ)) (line rest : List ℕ) (now : List (List ℕ)) → UpTo seen line rest now → AreGaps rest → now ≡ seen ++ words line
no_word seen line rest now up gaps =
    sym (append-nil now) ∙ ap (λ ws. now ++ ws) (sym (words-gaps rest [] gaps)) ∙ sym (up.same [] (λ e. nothing_apart)) ∙ ap (λ l. seen ++ words l) (append-nil line)

pub takes_line : (old now : Front) (line rest word after : List ℕ) (course : Course) → Keeps now → now.variables ≡ old.variables → now.count ≡ old.count
    → UpTo (front_words old.clauses.items old.literals.items) line rest (front_words now.clauses.items now.literals.items) → CutsWord rest word after
    → ((number : ℤ) → ¬ GoesOnBy now.variables now.count now.clauses.items now.literals.items word number) → EndsAt now word after course → TakesLine old now line course
takes_line old now line rest word after Fits keeps variables count up cut none ends = absurd ends
takes_line old now line rest word after MayGrow keeps variables count up cut none ends =
    subst (λ v. StopsShort v old.count (front_words old.clauses.items old.literals.items) line) variables (subst (λ n. StopsShort now.variables n (front_words old.clauses.items old.literals.items) line) count
    (stops_short now.variables now.count now.clauses.items now.literals.items (front_words old.clauses.items old.literals.items) line rest word after keeps.is_front up cut ends.last ends.grows none))
takes_line old now line rest word after Breaks keeps variables count up cut none ends =
    subst (λ v. BreaksOff v old.count (front_words old.clauses.items old.literals.items) line) variables (subst (λ n. BreaksOff now.variables n (front_words old.clauses.items old.literals.items) line) count
    (breaks_off now.variables now.count now.clauses.items now.literals.items (front_words old.clauses.items old.literals.items) line rest word after keeps.is_front up cut (λ last grows. ends (record { last = last; grows = grows })) none))
