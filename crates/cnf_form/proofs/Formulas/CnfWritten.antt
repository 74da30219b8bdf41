-- The written text of a formula is a text of its form.
use Rattle.std.proofs.Common.{◌≡◌, ℕ, ℤ, pos, ◌≤◌, false, not, List, [], ◌∷◌, ◌++◌, length, codes, map, filter, All, refl, sym, ◌∙◌, ap, arith, append_assoc}
use Rattle.std.specs.List.{flat_map}
use Rattle.std.specs.Fmt.{decimal, signed_decimal}
use Rattle.std.proofs.lemmas.List.{map-append}
use Rattle.std.proofs.lemmas.List.Folds.{flat_map-map}
use Rattle.std.proofs.lemmas.List.Elements.{All-head, All-tail}
use Rattle.std.proofs.lemmas.Fmt.{decimal_digit}
use Rattle.cnf_form.specs.Literals.{most, IsLiteral, IsClause}
use Rattle.cnf_form.specs.Texts.{literals_text, clause_text, cnf_text}
use Rattle.text_lines.specs.Lines.{lines_of}
use Rattle.cnf_form.specs.Forms.{words, begins_with, told_lines, numbers_of, IsFormula, IsCnfText}
use Rattle.cnf_form.proofs.Words.Written.{IsNumeric-decimal, IsNumeric-signed, words-word, begins_not, AllVisible, AllVisible-append, AllVisible-numeric, lines_of-line}

-- the words of written literals
words-literals : (literals : List ℤ) (rest : List ℕ) → All IsLiteral literals → words (literals_text literals ++ rest) ≡ map signed_decimal literals ++ words rest
words-literals [] rest each = refl
words-literals (l ∷ ls) rest each =
    let first = IsNumeric-signed l (All-head IsLiteral l ls each).1 in
    ap words (append_assoc (signed_decimal l ++ codes " ") (literals_text ls) rest ∙ append_assoc (signed_decimal l) (codes " ") (literals_text ls ++ rest))
    ∙ words-word (signed_decimal l) 32 (literals_text ls ++ rest) first refl
    ∙ ap (λ ws. signed_decimal l ∷ ws) (words-literals ls rest (All-tail IsLiteral l ls each))

numbers-more : (c ns : List ℤ) → map signed_decimal ((c ++ pos 0 ∷ []) ++ ns) ≡ map signed_decimal c ++ (48 ∷ []) ∷ map signed_decimal ns
numbers-more c ns =
    map-append signed_decimal (c ++ pos 0 ∷ []) ns
    ∙ ap (λ ws. ws ++ map signed_decimal ns) (map-append signed_decimal c (pos 0 ∷ []))
    ∙ append_assoc (map signed_decimal c) (decimal 0 ∷ []) (map signed_decimal ns)
    ∙ ap (λ d. map signed_decimal c ++ d ∷ map signed_decimal ns) (decimal_digit 0 (omega arith))

-- the words of written clauses
words-clauses : (clauses : List (List ℤ)) → All IsClause clauses → words (flat_map clause_text clauses) ≡ map signed_decimal (numbers_of clauses)
words-clauses [] each = refl
words-clauses (c ∷ cs) each =
    let rest = flat_map clause_text cs in
    ap words (append_assoc (literals_text c) (codes "0\n") rest)
    ∙ words-literals c (48 ∷ 10 ∷ rest) (All-head IsClause c cs each).each
    ∙ ap (λ ws. map signed_decimal c ++ (48 ∷ []) ∷ ws) (words-clauses cs (All-tail IsClause c cs each))
    ∙ sym (numbers-more c (numbers_of cs))

pub visible-literals : (literals : List ℤ) → All IsLiteral literals → AllVisible (literals_text literals)
visible-literals [] each = tt
visible-literals (l ∷ ls) each =
    let first = IsNumeric-signed l (All-head IsLiteral l ls each).1 in
    AllVisible-append (signed_decimal l ++ codes " ") (literals_text ls) (AllVisible-append (signed_decimal l) (codes " ") (AllVisible-numeric (signed_decimal l) first.each) (omega arith, tt)) (visible-literals ls (All-tail IsLiteral l ls each))

-- the lines of written clauses
lines-clauses : (clauses : List (List ℤ)) → All IsClause clauses → lines_of (flat_map clause_text clauses) ≡ map clause_text clauses
lines-clauses [] each = refl
lines-clauses (c ∷ cs) each =
    let rest = flat_map clause_text cs in
    let visible = AllVisible-append (literals_text c) (48 ∷ []) (visible-literals c (All-head IsClause c cs each).each) (omega arith, tt) in
    ap lines_of (append_assoc (literals_text c) (codes "0\n") rest ∙ sym (append_assoc (literals_text c) (48 ∷ []) (10 ∷ rest)))
    ∙ lines_of-line (literals_text c ++ 48 ∷ []) rest visible
    ∙ ap (λ line. line ∷ lines_of rest) (append_assoc (literals_text c) (48 ∷ []) (10 ∷ []))
    ∙ ap (λ lines. clause_text c ∷ lines) (lines-clauses cs (All-tail IsClause c cs each))

-- none of them is a comment
clause_no_comment : (literals : List ℤ) → All IsLiteral literals → begins_with 99 (clause_text literals) ≡ false
clause_no_comment [] each = refl
clause_no_comment (l ∷ ls) each =
    ap (begins_with 99) (append_assoc (signed_decimal l ++ codes " ") (literals_text ls) (codes "0\n") ∙ append_assoc (signed_decimal l) (codes " ") (literals_text ls ++ codes "0\n"))
    ∙ begins_not (signed_decimal l) (codes " " ++ (literals_text ls ++ codes "0\n")) (IsNumeric-signed l (All-head IsLiteral l ls each).1)

told-clauses : (clauses : List (List ℤ)) → All IsClause clauses → filter (λ line. not (begins_with 99 line)) (map clause_text clauses) ≡ map clause_text clauses
told-clauses [] each = refl
told-clauses (c ∷ cs) each =
    rw (clause_no_comment c (All-head IsClause c cs each).each, told-clauses cs (All-tail IsClause c cs each)) refl

-- the head line, without its line feed
head_of : ℕ → ℕ → List ℕ
head_of variables count = codes "p cnf " ++ (decimal variables ++ (codes " " ++ decimal count))

visible-head : (variables count : ℕ) → variables ≤ most → count ≤ most → AllVisible (head_of variables count)
unfolding head_of
visible-head variables count few_variables few_clauses =
    let first = AllVisible-numeric (decimal variables) (IsNumeric-decimal variables (omega arith)).each in
    let second = AllVisible-numeric (decimal count) (IsNumeric-decimal count (omega arith)).each in
    AllVisible-append (codes "p cnf ") (decimal variables ++ (codes " " ++ decimal count)) (omega arith, (omega arith, (omega arith, (omega arith, (omega arith, (omega arith, tt))))))
    (AllVisible-append (decimal variables) (codes " " ++ decimal count) first (omega arith, second))

words-head : (variables count : ℕ) → variables ≤ most → count ≤ most → words (head_of variables count ++ 10 ∷ []) ≡ codes "p" ∷ codes "cnf" ∷ decimal variables ∷ decimal count ∷ []
unfolding head_of
words-head variables count few_variables few_clauses =
    ap (λ ws. codes "p" ∷ codes "cnf" ∷ ws)
    (ap words (append_assoc (decimal variables) (32 ∷ decimal count) (10 ∷ []))
    ∙ words-word (decimal variables) 32 (decimal count ++ 10 ∷ []) (IsNumeric-decimal variables (omega arith)) refl
    ∙ ap (λ ws. decimal variables ∷ ws) (words-word (decimal count) 10 [] (IsNumeric-decimal count (omega arith)) refl))

text_by_lines : (variables : ℕ) (clauses : List (List ℤ)) → cnf_text variables clauses ≡ head_of variables (length clauses) ++ 10 ∷ flat_map clause_text clauses
unfolding head_of
text_by_lines variables clauses = simp append_assoc

told-text : (variables : ℕ) (clauses : List (List ℤ)) → IsFormula variables clauses → told_lines (head_of variables (length clauses) ++ 10 ∷ flat_map clause_text clauses) ≡ (head_of variables (length clauses) ++ 10 ∷ []) ∷ map clause_text clauses
unfolding head_of
told-text variables clauses formula =
    ap (filter (λ line. not (begins_with 99 line))) (lines_of-line (head_of variables (length clauses)) (flat_map clause_text clauses) (visible-head variables (length clauses) formula.few_variables formula.few_clauses))
    ∙ ap (λ lines. (head_of variables (length clauses) ++ 10 ∷ []) ∷ filter (λ line. not (begins_with 99 line)) lines) (lines-clauses clauses formula.each)
    ∙ ap (λ lines. (head_of variables (length clauses) ++ 10 ∷ []) ∷ lines) (told-clauses clauses formula.each)

pub cnf_text_has_form : (variables : ℕ) (clauses : List (List ℤ)) → IsFormula variables clauses → IsCnfText (cnf_text variables clauses) variables clauses
unfolding head_of
cnf_text_has_form variables clauses formula = record {
  head = head_of variables (length clauses) ++ 10 ∷ [];
  body = map clause_text clauses;
  lines = ap told_lines (text_by_lines variables clauses) ∙ told-text variables clauses formula;
  marked = refl;
  numbers = words-head variables (length clauses) formula.few_variables formula.few_clauses;
  clauses_follow = ap words (flat_map-map (λ line. line) clause_text clauses) ∙ words-clauses clauses formula.each;
  formula = formula;
}
