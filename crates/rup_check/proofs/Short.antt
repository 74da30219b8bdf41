-- How long a worked log can be, and what it needs.
use Rattle.std.proofs.Common.{◌≡◌, ◌≢◌, ℕ, zero, suc, ℤ, ◌^◌, ◌<◌, ◌≤◌, List, [], ◌∷◌, length, get_or, take, map, Option, Some, None, Contains, IsSomeAnd, slice_get, eqb, false, refl, sym, ◌∙◌, ap, subst, arith, append-nil}
use Rattle.std.proofs.lemmas.Bool.{eqb-true, ne_eqb}
use Rattle.std.proofs.lemmas.List.{length-map, get_or-map, get_or-take, length-take-le}
use Rattle.std.proofs.lemmas.List.Elements.{All-contains, Contains-get_or, Contains-append_right}
use Rattle.std.proofs.lemmas.Map.Keys.{IsDistinct-from_apart}
use Rattle.std.proofs.lemmas.Map.Steps.{length-le_from_distinct_below}
use Rattle.std.proofs.lemmas.Map.Views.{Contains-from_any}
use Rattle.std.proofs.lemmas.Option.{get_or_from_slice_get}
use Rattle.cnf_form.specs.Literals.{IsClause, AreClauses, NamesUpTo}
use Rattle.cnf_form.specs.declared.log.LogLine.{LogLine}
use Rattle.cnf_form.specs.declared.log.Log.{Log}
use Rattle.cnf_form.specs.declared.cnf.Cnf.{Cnf}
use Rattle.rup_check.specs.Follows.{Follows}
use Rattle.rup_check.specs.Accepted.{clauses_of, FollowsAt}
use Rattle.rup_check.specs.Closed.{IsClosed, Teaches}
use Rattle.rup_check.specs.Worked.{TeachesAt, IsWorked}
use Rattle.rup_check.proofs.Teaching.{teaches_new}
use Rattle.rup_check.proofs.Codes.{code, code_small, same_code}
use Rattle.rup_check.proofs.Values.{none_made}

-- line k, where there is one
pub found_line : (P : LogLine → Type 0) (o : Option LogLine) → IsSomeAnd o P → (line : LogLine) × (o ≡ Some line) × P line
found_line P None h = absurd h
found_line P (Some line) h = (line, refl, h)

-- what line k says, at its place in the list
at_place : (P : LogLine → Type 0) (lines : List LogLine) (k : ℕ) (d : LogLine) → IsSomeAnd (slice_get lines k) P → P (get_or lines k d)
at_place P lines k d h =
    let at = found_line P (slice_get lines k) h in
    subst P (sym (get_or_from_slice_get lines k at.0 d at.1)) at.2

clause_at : List LogLine → LogLine → ℕ → List ℤ
clause_at lines d k = (get_or lines k d).clause

-- the clause of an earlier line is known
earlier_known : (cnf : Cnf) (lines : List LogLine) (d : LogLine) (j k : ℕ) → j < k → k < length lines → Contains (clauses_of cnf (take k lines)) (get_or lines j d).clause
earlier_known cnf lines d j k before within =
    let short : length (take k lines) ≡ k = length-take-le k lines (omega arith) in
    let names : LogLine → List ℤ = λ line. line.clause in
    let long : length (map names (take k lines)) ≡ length (take k lines) = length-map (take k lines) names in
    let is : get_or (map names (take k lines)) j [] ≡ (get_or lines j d).clause = get_or-map names (take k lines) j d [] (omega (arith, short)) ∙ ap names (get_or-take k lines j d before) in
    Contains-append_right cnf.clauses (map names (take k lines)) (get_or lines j d).clause
    (subst (Contains (map names (take k lines))) is (Contains-get_or (map names (take k lines)) j [] (omega (arith, short, long))))

-- the first clause is empty, and then come those of the lines
abbrev numbers : ℕ → List LogLine → List ℕ
numbers n lines = code n [] ∷ map (λ (line : LogLine). code n line.clause) lines

number_later : (n : ℕ) (lines : List LogLine) (j : ℕ) (e : ℕ) (d : LogLine) → j < length lines → get_or (numbers n lines) (suc j) e ≡ code n (get_or lines j d).clause
number_later n lines j e d within = get_or-map (λ (line : LogLine). code n line.clause) lines j d e within

-- two lines of a worked log have different numbers, and none has that of the empty clause
record Apart (n : ℕ) (lines : List LogLine) : Type 0 where
  not_empty : (k : ℕ) (d : LogLine) → k < length lines → code n [] ≢ code n (get_or lines k d).clause
  differ : (j k : ℕ) (d : LogLine) → j < k → k < length lines → code n (get_or lines j d).clause ≢ code n (get_or lines k d).clause

some_line : (lines : List LogLine) (k : ℕ) → k < length lines → LogLine
some_line [] k h = absurd (omega arith)
some_line (line ∷ lines) k h = line

numbers_differ : (n : ℕ) (lines : List LogLine) → Apart n lines → (i j : ℕ) (e : ℕ) → i < j → j < length (numbers n lines) → eqb (get_or (numbers n lines) i e) (get_or (numbers n lines) j e) ≡ false
numbers_differ n lines apart i zero e before within = absurd (omega arith)
numbers_differ n lines apart zero (suc j) e before within =
    let long = length-map lines (λ (line : LogLine). code n line.clause) in
    let inside : j < length lines = omega (arith, within, long) in
    let d = some_line lines j inside in
    ne_eqb (code n []) (get_or (numbers n lines) (suc j) e) (λ same. apart.not_empty j d inside (same ∙ number_later n lines j e d inside))
numbers_differ n lines apart (suc i) (suc j) e before within =
    let long = length-map lines (λ (line : LogLine). code n line.clause) in
    let inside : j < length lines = omega (arith, within, long) in
    let first : i < length lines = omega (arith, inside, before) in
    let d = some_line lines j inside in
    ne_eqb (get_or (numbers n lines) (suc i) e) (get_or (numbers n lines) (suc j) e) (λ same. apart.differ i j d (omega (arith, before)) inside (sym (number_later n lines i e d first) ∙ same ∙ number_later n lines j e d inside))

numbers_small : (n : ℕ) (lines : List LogLine) (q : ℕ) (k : ℕ) → k < length (numbers n lines) → get_or (numbers n lines) k q ≡ q → q < 3 ^ n
numbers_small n lines q zero within is = subst (λ m. m < 3 ^ n) is (code_small n [])
numbers_small n lines q (suc k) within is =
    let long = length-map lines (λ (line : LogLine). code n line.clause) in
    let inside : k < length lines = omega (arith, within, long) in
    let d = some_line lines k inside in
    subst (λ m. m < 3 ^ n) (sym (number_later n lines k q d inside) ∙ is) (code_small n (get_or lines k d).clause)

few_lines : (n : ℕ) (lines : List LogLine) → Apart n lines → length lines < 3 ^ n
few_lines n lines apart =
    let long = length-map lines (λ (line : LogLine). code n line.clause) in
    let few : length (numbers n lines) ≤ 3 ^ n = length-le_from_distinct_below (numbers n lines) (3 ^ n) (IsDistinct-from_apart eqb (numbers n lines) (numbers_differ n lines apart))
    (λ q found. let here = Contains-from_any eqb-true q (numbers n lines) found in numbers_small n lines q here.0 here.1 here.2) in
    omega (arith, few, long)

teaches_at : (cnf : Cnf) (lines : List LogLine) (k : ℕ) (d : LogLine) → TeachesAt cnf lines k → Teaches (clauses_of cnf (take k lines)) (get_or lines k d).clause
teaches_at cnf lines k d h = at_place (λ line. Teaches (clauses_of cnf (take k lines)) line.clause) lines k d h

named_at : (cnf : Cnf) (lines : List LogLine) (k : ℕ) (d : LogLine) → FollowsAt cnf lines k → NamesUpTo cnf.variables (get_or lines k d).clause
named_at cnf lines k d h = (at_place (λ line. Follows cnf.variables (clauses_of cnf (take k lines)) line) lines k d h).named

line_clause : (lines : List LogLine) (k : ℕ) (d : LogLine) → AreClauses (map (λ (line : LogLine). line.clause) lines) → k < length lines → IsClause (get_or lines k d).clause
line_clause lines k d clauses within =
    let names : LogLine → List ℤ = λ line. line.clause in
    let long = length-map lines names in
    subst IsClause (get_or-map names lines k d [] within) (clauses.each k [] (omega (arith, within, long)))

-- fewer lines than there are sets of literals
pub worked_short : (cnf : Cnf) (log : Log) (n : ℕ) → AreClauses (map (λ (line : LogLine). line.clause) log.lines) → IsWorked cnf log n → n < 3 ^ cnf.variables
worked_short cnf log n clauses worked =
    let lines = log.lines in
    let v = cnf.variables in
    let count = worked.count in
    let few = few_lines v lines (record {
      not_empty = λ k d h same.
          let teaches = teaches_at cnf lines k d (worked.teach k (omega (arith, h, count))) in
          let names = same_code v (get_or lines k d).clause [] (line_clause lines k d clauses h) (named_at cnf lines k d (worked.follow k (omega (arith, h, count)))) (sym same) in
          none_made teaches.left (All-contains (Contains []) (get_or lines k d).clause teaches.left names teaches.unit.named);
      differ = λ j k d before h same.
          let teaches = teaches_at cnf lines k d (worked.teach k (omega (arith, h, count))) in
          let names = same_code v (get_or lines j d).clause (get_or lines k d).clause (line_clause lines j d clauses (omega (arith, h, before))) (named_at cnf lines j d (worked.follow j (omega (arith, h, count, before)))) same in
          teaches_new (clauses_of cnf (take k lines)) (get_or lines j d).clause (get_or lines k d).clause (earlier_known cnf lines d j k before h) names teaches;
    }) in
    omega (arith, few, count)

-- its first line needs a list that is closed over the formula
pub worked_closed : (cnf : Cnf) (log : Log) (n : ℕ) → 0 < n → IsWorked cnf log n → (made : List ℤ) × IsClosed cnf.clauses made
worked_closed cnf log n more worked =
    let at = found_line (λ line. Teaches (clauses_of cnf (take 0 log.lines)) line.clause) (slice_get log.lines 0) (worked.teach 0 more) in
    (at.2.made, subst (λ cs. IsClosed cs at.2.made) (append-nil cnf.clauses) at.2.closed)
