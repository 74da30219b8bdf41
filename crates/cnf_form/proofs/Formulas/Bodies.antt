-- The words of a formula's clauses: with what they go on, how they end, and that they can always be completed.
use Rattle.std.proofs.Common.{◌≡◌, ◌≢◌, ℕ, ℤ, pos, suc, zero, ◌+◌, ◌<◌, ◌≤◌, ◌⊎◌, ◌==◌, List, [], ◌∷◌, ◌++◌, length, get_or, map, replicate, All, unsigned_abs, refl, sym, ◌∙◌, ap, subst, arith, append_assoc, length-append, inl, inr, ne_eqb}
use Rattle.std.specs.Fmt.{signed_decimal}
use Rattle.std.proofs.lemmas.List.{append-nil, get_or_append_left, get_or_at}
use Rattle.std.proofs.lemmas.List.Elements.{All-head, All-tail}
use Rattle.std.proofs.lemmas.List.Folds.{list_any_none}
use Rattle.cnf_form.specs.Literals.{IsLiteral, IsClause, NamesUpTo}
use Rattle.cnf_form.specs.Forms.{numbers_of, IsFormula}
use Rattle.cnf_form.specs.Reading.{IsNew, IsFront, front_words, GoesOnBy, AreOfFormula}
use Rattle.cnf_form.proofs.Formulas.OneFormula.{AllSmall, same_numbers, same_clause, no_number, small_clauses, not_zero}
use Rattle.cnf_form.proofs.Formulas.Fronts.{ended, ended_words}

-- ---- small numbers

small-left : (xs ys : List ℤ) → AllSmall (xs ++ ys) → AllSmall xs
unfolding AllSmall
small-left [] ys small = tt
small-left (x ∷ xs) ys small = (small.0, small-left xs ys small.1)

small-append : (xs ys : List ℤ) → AllSmall xs → AllSmall ys → AllSmall (xs ++ ys)
unfolding AllSmall
small-append [] ys one other = other
small-append (x ∷ xs) ys one other = (one.0, small-append xs ys one.1 other)

small-literals : (literals : List ℤ) → All IsLiteral literals → AllSmall literals
unfolding AllSmall
small-literals [] each = tt
small-literals (l ∷ ls) each = ((All-head IsLiteral l ls each).1, small-literals ls (All-tail IsLiteral l ls each))

-- ---- written numbers at a word

record Split (numbers : List ℤ) (seen : List (List ℕ)) (word : List ℕ) : Type 0 where
  front : List ℤ
  number : ℤ
  rest : List ℤ
  is : numbers ≡ front ++ number ∷ rest
  seen_are : seen ≡ map signed_decimal front
  word_is : word ≡ signed_decimal number

split_more : (n : ℤ) (ns : List ℤ) (w : List ℕ) (ws : List (List ℕ)) (word : List ℕ) → w ≡ signed_decimal n → Split ns ws word → Split (n ∷ ns) (w ∷ ws) word
split_more n ns w ws word first more = record {
  front = n ∷ more.front;
  number = more.number;
  rest = more.rest;
  is = ap (λ k. n ∷ k) more.is;
  seen_are = ap (λ v. v ∷ ws) first ∙ ap (λ v. signed_decimal n ∷ v) more.seen_are;
  word_is = more.word_is;
}

split_at : (numbers : List ℤ) (seen : List (List ℕ)) (word : List ℕ) (rest : List (List ℕ)) → seen ++ word ∷ rest ≡ map signed_decimal numbers → Split numbers seen word
split_at [] [] word rest same = cc
split_at [] (w ∷ ws) word rest same = cc
split_at (n ∷ ns) [] word rest same = record { front = []; number = n; rest = ns; is = refl; seen_are = refl; word_is = cc }
split_at (n ∷ ns) (w ∷ ws) word rest same =
    let first : w ≡ signed_decimal n = cc in
    let tail : ws ++ word ∷ rest ≡ map signed_decimal ns = cc in
    split_more n ns w ws word first (split_at ns ws word rest tail)

-- ---- clauses behind clauses

record Behind (all before : List (List ℤ)) (numbers : List ℤ) : Type 0 where
  clauses : List (List ℤ)
  is : all ≡ before ++ clauses
  same : numbers_of clauses ≡ numbers

strip : (before all : List (List ℤ)) (numbers : List ℤ) → All IsClause before → All IsClause all → numbers_of all ≡ numbers_of before ++ numbers → Behind all before numbers
strip [] all numbers one other same = record { clauses = all; is = refl; same = same }
strip (c ∷ cs) [] numbers one other same = absurd (no_number c (numbers_of cs ++ numbers) (same ∙ append_assoc (c ++ pos 0 ∷ []) (numbers_of cs) numbers))
strip (c ∷ cs) (d ∷ ds) numbers one other same =
    let both = same_clause d c (numbers_of ds) (numbers_of cs ++ numbers) (All-head IsClause d ds other).each (All-head IsClause c cs one).each (same ∙ append_assoc (c ++ pos 0 ∷ []) (numbers_of cs) numbers) in
    let first : d ≡ c = both.0 in
    let rest = strip cs ds numbers (All-tail IsClause c cs one) (All-tail IsClause d ds other) both.1 in
    record { clauses = rest.clauses; is = ap (λ e. e ∷ ds) first ∙ ap (λ e. c ∷ e) rest.is; same = rest.same }

-- literals are no whole clause, since no 0 ends them
no_end : (literals d rest : List ℤ) → All IsLiteral literals → (d ++ pos 0 ∷ []) ++ rest ≢ literals
no_end [] [] rest each same = cc
no_end [] (y ∷ ys) rest each same = cc
no_end (x ∷ xs) [] rest each same = let first : x ≡ pos 0 = cc in not_zero x (All-head IsLiteral x xs each) first
no_end (x ∷ xs) (y ∷ ys) rest each same = let tail : (ys ++ pos 0 ∷ []) ++ rest ≡ xs = cc in no_end xs ys rest (All-tail IsLiteral x xs each) tail

-- what stands behind some literals of a clause: its end, or a literal more
record LiteralMore (clause literals : List ℤ) (number : ℤ) : Type 0 where
  tail : List ℤ
  is : clause ≡ literals ++ number ∷ tail

next_of : (literals d rest : List ℤ) (number : ℤ) (more : List ℤ) → All IsLiteral literals → (d ++ pos 0 ∷ []) ++ rest ≡ literals ++ number ∷ more → (number ≡ pos 0) ⊎ LiteralMore d literals number
next_of [] [] rest number more each same = inl cc
next_of [] (y ∷ ys) rest number more each same = let first : y ≡ number = cc in inr (record { tail = ys; is = ap (λ z. z ∷ ys) first })
next_of (x ∷ xs) [] rest number more each same = let first : x ≡ pos 0 = cc in absurd (not_zero x (All-head IsLiteral x xs each) first)
next_of (x ∷ xs) (y ∷ ys) rest number more each same =
    let first : y ≡ x = cc in
    let tail : (ys ++ pos 0 ∷ []) ++ rest ≡ xs ++ number ∷ more = cc in
    with_first first (next_of xs ys rest number more (All-tail IsLiteral x xs each) tail)
  where
    with_first : y ≡ x → (number ≡ pos 0) ⊎ LiteralMore ys xs number → (number ≡ pos 0) ⊎ LiteralMore (y ∷ ys) (x ∷ xs) number
    with_first first (inl zero_is) = inl zero_is
    with_first first (inr found) = inr (record { tail = found.tail; is = ap (λ z. z ∷ ys) first ∙ ap (λ zs. x ∷ zs) found.is })

-- a literal of a clause is new to those before it
pub new_in : (variables : ℕ) (literals tail : List ℤ) (number : ℤ) → IsClause (literals ++ number ∷ tail) → NamesUpTo variables (literals ++ number ∷ tail) → IsNew variables literals number
new_in variables literals tail number clause up_to = record {
  literal = subst IsLiteral (here number) (clause.each (length literals) number within);
  up_to = subst (λ (l : ℤ). unsigned_abs l ≤ variables) (here number) (up_to (length literals) number within);
  unnamed = list_any_none (λ l. unsigned_abs l == unsigned_abs number) literals (λ k d less. ne_eqb (unsigned_abs (get_or literals k d)) (unsigned_abs number) (λ same.
      clause.once k (length literals) d less within (ap unsigned_abs (get_or_append_left literals (number ∷ tail) d k less) ∙ same ∙ ap unsigned_abs (sym (here d)))));
}
  where
    within : length literals < length (literals ++ number ∷ tail)
    within = omega (arith, length-append literals (number ∷ tail))

    here : (d : ℤ) → get_or (literals ++ number ∷ tail) (length literals) d ≡ number
    here d = get_or_at literals number tail d (length literals) refl

-- ---- with what they go on

record NextNumber (variables count : ℕ) (clauses : List (List ℤ)) (literals : List ℤ) (word : List ℕ) : Type 0 where
  number : ℤ
  goes_on : GoesOnBy variables count clauses literals word number

pub goes_on : (variables count : ℕ) (clauses : List (List ℤ)) (literals : List ℤ) (word : List ℕ) (rest : List (List ℕ)) → IsFront variables count clauses literals → AreOfFormula variables count (front_words clauses literals ++ word ∷ rest)
    → ((number : ℤ) → ¬ GoesOnBy variables count clauses literals word number) → ⊥
unfolding front_words
goes_on variables count clauses literals word rest front formula none =
    let split = split_at (numbers_of formula.clauses) (map signed_decimal (numbers_of clauses ++ literals)) word rest formula.same in
    let small = small-left split.front (split.number ∷ split.rest) (subst AllSmall split.is (small_clauses formula.clauses formula.formula.each)) in
    let front_small = small-append (numbers_of clauses) literals (small_clauses clauses front.each.each) (small-literals literals front.clause.each) in
    let same = same_numbers split.front (numbers_of clauses ++ literals) small front_small (sym split.seen_are) in
    let behind = strip clauses formula.clauses (literals ++ split.number ∷ split.rest) front.each.each formula.formula.each (split.is ∙ ap (λ ns. ns ++ split.number ∷ split.rest) same ∙ append_assoc (numbers_of clauses) literals (split.number ∷ split.rest)) in
    by_clauses split.number split.rest split.word_is behind.clauses behind.is behind.same
  where
    by_next : (d : List ℤ) (ds : List (List ℤ)) (number : ℤ) → word ≡ signed_decimal number → formula.clauses ≡ clauses ++ d ∷ ds → (number ≡ pos 0) ⊎ LiteralMore d literals number → ⊥
    by_next d ds number written is (inl zero_is) = none number (record { room = omega (arith, formula.number, ap length is, length-append clauses (d ∷ ds)); written = written; fits = inl zero_is })
    by_next d ds number written is (inr more) =
        let at : get_or formula.clauses (length clauses) [] ≡ d = ap (λ (cs : List (List ℤ)). get_or cs (length clauses) []) is ∙ get_or_at clauses d ds [] (length clauses) refl in
        let less : length clauses < length formula.clauses = omega (arith, ap length is, length-append clauses (d ∷ ds)) in
        let clause : IsClause (literals ++ number ∷ more.tail) = subst IsClause (at ∙ more.is) (formula.formula.each (length clauses) [] less) in
        let up_to : NamesUpTo variables (literals ++ number ∷ more.tail) = subst (NamesUpTo variables) (at ∙ more.is) (formula.formula.named (length clauses) [] less) in
        none number (record { room = omega (arith, formula.number); written = written; fits = inr (new_in variables literals more.tail number clause up_to) })

    by_clauses : (number : ℤ) (after : List ℤ) → word ≡ signed_decimal number → (ds : List (List ℤ)) → formula.clauses ≡ clauses ++ ds → numbers_of ds ≡ literals ++ number ∷ after → ⊥
    by_clauses number after written [] is same = omega (arith, ap length same, length-append literals (number ∷ after))
    by_clauses number after written (d ∷ ds) is same = by_next d ds number written is (next_of literals d (numbers_of ds) number after front.clause.each same)

-- clauses that are too few make no formula
pub too_few : (variables count : ℕ) (clauses : List (List ℤ)) (literals : List ℤ) → IsFront variables count clauses literals → length clauses < count → ¬ AreOfFormula variables count (front_words clauses literals)
unfolding front_words
too_few variables count clauses literals front few formula =
    let front_small = small-append (numbers_of clauses) literals (small_clauses clauses front.each.each) (small-literals literals front.clause.each) in
    let same = same_numbers (numbers_of clauses ++ literals) (numbers_of formula.clauses) front_small (small_clauses formula.clauses formula.formula.each) formula.same in
    let behind = strip clauses formula.clauses literals front.each.each formula.formula.each (sym same) in
    by_clauses behind.clauses behind.is behind.same
  where
    by_clauses : (ds : List (List ℤ)) → formula.clauses ≡ clauses ++ ds → numbers_of ds ≡ literals → ⊥
    by_clauses [] is same = omega (arith, formula.number, ap length is, length-append clauses (let none : List (List ℤ) = [] in none))
    by_clauses (d ∷ ds) is same = no_end literals d (numbers_of ds) front.clause.each same

-- ---- how they end

pub enough : (variables count : ℕ) (clauses : List (List ℤ)) (literals : List ℤ) → IsFront variables count clauses literals → count ≤ length clauses → front_words clauses literals ≡ map signed_decimal (numbers_of clauses)
unfolding front_words
enough variables count clauses literals front full = ap (map signed_decimal) (ap (λ ls. numbers_of clauses ++ ls) (front.ended full) ∙ append-nil (numbers_of clauses))

pub whole_formula : (variables count : ℕ) (clauses : List (List ℤ)) (literals : List ℤ) → IsFront variables count clauses literals → IsFormula variables clauses
whole_formula variables count clauses literals front =
    let within = front.within in
    let few = front.few_clauses in
    record { few_variables = front.few_variables; few_clauses = omega arith; each = front.each.each; named = front.named }

-- by so many further 0
pub completed : (k variables count : ℕ) (clauses : List (List ℤ)) (literals : List ℤ) → IsFront variables count clauses literals → length clauses + k ≡ count → AreOfFormula variables count (front_words clauses literals ++ replicate k (signed_decimal (pos 0)))
completed zero variables count clauses literals front is =
    record { clauses = clauses; formula = whole_formula variables count clauses literals front; number = omega arith; same = append-nil (front_words clauses literals) ∙ enough variables count clauses literals front (omega arith) }
completed (suc k) variables count clauses literals front is =
    let rest = completed k variables count (clauses ++ literals ∷ []) [] (ended variables count clauses literals front (omega arith)) (omega (arith, length-append clauses (literals ∷ []))) in
    record {
      clauses = rest.clauses;
      formula = rest.formula;
      number = rest.number;
      same = sym (append_assoc (front_words clauses literals) (signed_decimal (pos 0) ∷ []) (replicate k (signed_decimal (pos 0)))) ∙ ap (λ ws. ws ++ replicate k (signed_decimal (pos 0))) (sym (ended_words clauses literals)) ∙ rest.same;
    }
