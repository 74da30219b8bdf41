-- The line `p cnf V C`, word by word.
use Rattle.std.proofs.Common.{◌≡◌, ◌≢◌, ℕ, ◌<◌, ◌≤◌, true, List, [], ◌∷◌, ◌++◌, length, codes, refl, sym, ◌∙◌, ap, arith, length-append}
use Rattle.std.specs.Fmt.{decimal}
use Rattle.std.proofs.lemmas.Bool.{false≢true}
use Rattle.std.proofs.lemmas.List.{append-nil}
use Rattle.std.proofs.lemmas.Fmt.{decimal_digit}
use Rattle.cnf_form.specs.declared.head.Head.{Head}
use Rattle.cnf_form.specs.declared.head.Head.TheVariants.{Is, MayGrow, Breaks}
use Rattle.cnf_form.specs.Literals.{most}
use Rattle.cnf_form.specs.Forms.{words, begins_with}
use Rattle.cnf_form.specs.Words.{AreGaps, CutsWord}
use Rattle.text_lines.specs.Cutting.{HasNoFeed}
use Rattle.cnf_form.specs.Passing.{IsNoHead, StopsInHead, IsHeadOf, LacksWord, BeginsApart, UpTo}
use Rattle.cnf_form.proofs.Words.Wording.{words-gaps}
use Rattle.cnf_form.proofs.Words.Growing.{number_front}
use Rattle.cnf_form.proofs.Formulas.LineWords.{at_word, at_open, solid_front, open_end, no_word, nothing_apart}
use Rattle.cnf_form.proofs.Words.Advancing.{begins_on}

-- the words of a head
abbrev pub head_words : ℕ → ℕ → List (List ℕ)
head_words variables count = codes "p" ∷ codes "cnf" ∷ decimal variables ∷ decimal count ∷ []

-- ---- a word that a head does not have there

record WordAt (line more : List ℕ) (now : List (List ℕ)) (word after : List ℕ) : Type 0 where
  ending : List ℕ
  rest : List (List ℕ)
  is : words (line ++ more) ≡ now ++ (word ++ ending) ∷ rest
  closed : 0 < length after → ending ≡ []

word_at : (line rest : List ℕ) (now : List (List ℕ)) (word after more : List ℕ) → UpTo [] line rest now → CutsWord rest word after → WordAt line more now word after
word_at line rest now word (b ∷ bs) more up cut =
    record { ending = []; rest = words ((b ∷ bs) ++ more); is = at_word [] line rest now word (b ∷ bs) more up cut (λ e. absurd (omega (arith, e))) ∙ ap (λ w. now ++ w ∷ words ((b ∷ bs) ++ more)) (sym (append-nil word)); closed = λ some. refl }
word_at line rest now word [] more up cut =
    let solid = solid_front more word cut.solid cut.some in
    record { ending = solid.front; rest = solid.rest; is = at_open [] line rest now word [] more up cut refl ∙ ap (λ ws. now ++ ws) solid.is; closed = λ some. absurd (omega (arith, some)) }

pub no_head : (line rest : List ℕ) (now : List (List ℕ)) (word after : List ℕ) → UpTo [] line rest now → CutsWord rest word after
    → ((variables count : ℕ) (ending : List ℕ) (others : List (List ℕ)) → variables ≤ most → count ≤ most → (0 < length after → ending ≡ []) → now ++ (word ++ ending) ∷ others ≡ head_words variables count → ⊥) → IsNoHead line
no_head line rest now word after up cut none = record {
  never = λ more variables count last is.
      let at = word_at line rest now word after more up cut in
      none variables count at.ending at.rest is.few_variables is.few_clauses at.closed (sym at.is ∙ is.numbers);
}

-- no number there
pub no_number_at : (word ending : List ℕ) (n limit : ℕ) → limit ≡ most → 0 < length word → n ≤ most → ((m : ℕ) → m ≤ limit → word ≢ decimal m) → word ++ ending ≡ decimal n → ⊥
no_number_at word ending n limit top some small none same =
    let front = number_front word ending n some (omega (arith, small)) same in
    none front.0 (omega (arith, front.1)) front.2

pub only_p : (word ending : List ℕ) → 0 < length word → word ++ ending ≡ 112 ∷ [] → word ≡ 112 ∷ []
only_p [] ending some same = absurd (omega (arith, some))
only_p (a ∷ []) ending some same = cc
only_p (a ∷ b ∷ bs) ending some same = absurd (omega (arith, ap length same, length-append (a ∷ b ∷ bs) ending))

pub front_of_cnf : (word ending : List ℕ) → 0 < length word → word ++ ending ≡ 99 ∷ 110 ∷ 102 ∷ [] → word ≢ 99 ∷ [] → word ≢ 99 ∷ 110 ∷ [] → word ≢ 99 ∷ 110 ∷ 102 ∷ [] → ⊥
front_of_cnf [] ending some same one two three = omega (arith, some)
front_of_cnf (a ∷ []) ending some same one two three = let first : a ≡ 99 = cc in one cc
front_of_cnf (a ∷ b ∷ []) ending some same one two three = let first : a ≡ 99 = cc in let second : b ≡ 110 = cc in two cc
front_of_cnf (a ∷ b ∷ c ∷ []) ending some same one two three = let first : a ≡ 99 = cc in let second : b ≡ 110 = cc in let third : c ≡ 102 = cc in three cc
front_of_cnf (a ∷ b ∷ c ∷ d ∷ ds) ending some same one two three = omega (arith, ap length same, length-append (a ∷ b ∷ c ∷ d ∷ ds) ending)

-- ---- a head that lacks a word

some_marked : (line : List ℕ) → begins_with 112 line ≡ true → 0 < length line
some_marked [] marked = absurd (false≢true marked)
some_marked (b ∷ bs) marked = omega arith

pub lacks : (line rest : List ℕ) (now : List (List ℕ)) (more : List ℕ) (variables count : ℕ) (answer : Head) → begins_with 112 line ≡ true → UpTo [] line rest now → AreGaps rest → length now < 4 → variables ≤ most → count ≤ most
    → HasNoFeed more → BeginsApart (more ++ 10 ∷ []) → now ++ words (more ++ 10 ∷ []) ≡ head_words variables count → LacksWord line answer → IsHeadOf line answer
lacks line rest now more variables count (Is v n) marked up gaps few few_variables few_clauses no_feed apart same answer = absurd answer
lacks line rest now more variables count MayGrow marked up gaps few few_variables few_clauses no_feed apart same answer = record {
  unfinished = answer;
  none = λ v n is. omega (arith, few, ap length (no_word [] line rest now up gaps ∙ is.numbers));
  more = more;
  no_feed = no_feed;
  variables = variables;
  count = count;
  is_head = record {
    marked = begins_on 112 line (more ++ 10 ∷ []) (some_marked line marked) ∙ marked;
    numbers = up.same (more ++ 10 ∷ []) (λ e. apart) ∙ ap (λ ws. now ++ ws) (words-gaps rest (more ++ 10 ∷ []) gaps) ∙ same;
    few_variables = few_variables;
    few_clauses = few_clauses;
  };
}
lacks line rest now more variables count Breaks marked up gaps few few_variables few_clauses no_feed apart same answer = record {
  never = λ others v n last is. omega (arith, few, ap length (no_word [] line rest now up gaps ∙ ap words (sym (append-nil line) ∙ ap (λ m. line ++ m) (sym (last answer))) ∙ is.numbers));
}

-- one whose last word may grow
pub stops_in_word : (line rest : List ℕ) (now : List (List ℕ)) (word after more : List ℕ) (variables count : ℕ) → begins_with 112 line ≡ true → UpTo [] line rest now → CutsWord rest word after → length after ≡ 0 → length now < 3 → variables ≤ most → count ≤ most
    → HasNoFeed more → now ++ words (word ++ (more ++ 10 ∷ [])) ≡ head_words variables count → StopsInHead line
stops_in_word line rest now word after more variables count marked up cut last few few_variables few_clauses no_feed same = record {
  unfinished = open_end [] line rest now word after up cut last;
  none = λ v n is.
      let here = at_word [] line rest now word after [] up cut (λ e. nothing_apart) in
      omega (arith, few, ap length (sym here ∙ ap words (append-nil line) ∙ is.numbers), length-append now (word ∷ words (after ++ [])), no_words after last);
  more = more;
  no_feed = no_feed;
  variables = variables;
  count = count;
  is_head = record {
    marked = begins_on 112 line (more ++ 10 ∷ []) (some_marked line marked) ∙ marked;
    numbers = at_open [] line rest now word after (more ++ 10 ∷ []) up cut last ∙ same;
    few_variables = few_variables;
    few_clauses = few_clauses;
  };
}
  where
    no_words : (a : List ℕ) → length a ≡ 0 → length (words (a ++ [])) ≡ 0
    no_words [] none = refl
    no_words (x ∷ xs) none = absurd (omega (arith, none))

pub zero_is : decimal 0 ≡ 48 ∷ []
zero_is = decimal_digit 0 (omega arith)

pub apart_blank : (more : List ℕ) → BeginsApart (32 ∷ more)
apart_blank more = record { gap = λ some. refl }

pub at_start : (line : List ℕ) → UpTo [] line line []
at_start line = record { before = []; split = refl; same = λ more last. refl }
