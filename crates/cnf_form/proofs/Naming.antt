-- Literals of different variables.
use Rattle.std.proofs.Common.{◌≡◌, ℕ, ℤ, List, ◌+◌, ◌<◌, length, get_or, take, map, [], ◌≤◌, All, Any, unsigned_abs, subst, arith, sym, ap, ◌∙◌}
use Rattle.std.proofs.lemmas.List.{take_all, take_more, map_more, get_or_default, get_or-take, length-take-le}
use Rattle.std.proofs.lemmas.List.Elements.{All-nil, All-more, All-push, All-map}
use Rattle.std.proofs.lemmas.List.Quantifiers.{all_pairs_push}
use Rattle.cnf_form.specs.declared.log.LogLine.{LogLine}
use Rattle.cnf_form.specs.Forms.{IsLogLine}
use Rattle.cnf_form.specs.Literals.{NamesOnce, IsClause, AreClauses}

-- one more literal, of whose variable no earlier one is
pub NamesOnce-more : (literals : List ℤ) (i n : ℕ) (d : ℤ) → i < length literals → n ≡ unsigned_abs (get_or literals i d) → NamesOnce (take i literals) → ¬ Any (λ (other : ℤ). unsigned_abs other ≡ n) (take i literals) → NamesOnce (take (i + 1) literals)
NamesOnce-more literals i n d within is once apart =
    rw (take_more literals i d within)
    (all_pairs_push (λ (one other : ℤ). unsigned_abs one ≡ unsigned_abs other → ⊥) (take i literals) (get_or literals i d) once
    (λ k e h same. apart (k, get_or (take i literals) k e, h, get_or_default (take i literals) k (get_or (take i literals) k e) e h, same ∙ sym is)))

-- a literal of whose variable an earlier one is
pub NamesOnce-twice : (literals : List ℤ) (i n : ℕ) (d : ℤ) → i < length literals → n ≡ unsigned_abs (get_or literals i d) → Any (λ (other : ℤ). unsigned_abs other ≡ n) (take i literals) → ¬ NamesOnce literals
NamesOnce-twice literals i n d within is named once =
    let k = named.0 in
    let short : length (take i literals) ≡ i = length-take-le i literals (omega arith) in
    let before : k < i = omega (arith, named.2) in
    let same : unsigned_abs (get_or literals k d) ≡ unsigned_abs (get_or literals i d) = ap unsigned_abs (sym (get_or-take i literals k d before) ∙ get_or_default (take i literals) k d named.1 named.2 ∙ named.3) ∙ named.4 ∙ is in
    once k i d before within same

pub AreClauses-none : AreClauses []
AreClauses-none = record { each = All-nil IsClause }

-- one more clause
pub AreClauses-more : (clauses : List (List ℤ)) (i : ℕ) (clause literals : List ℤ) → i < length clauses → clause ≡ get_or clauses i clause → literals ≡ clause → AreClauses (take i clauses) → IsClause literals → AreClauses (take (i + 1) clauses)
AreClauses-more clauses i clause literals within is same before here =
    record { each = All-more IsClause clauses i clause within before.each (subst IsClause (same ∙ is) here) }

-- all were seen
pub AreClauses-all : (clauses : List (List ℤ)) (i : ℕ) → length clauses ≤ i → AreClauses (take i clauses) → AreClauses clauses
AreClauses-all clauses i past before = subst AreClauses (take_all i clauses past) before

-- the clauses of one more line
pub line_clauses-more : (lines : List LogLine) (i : ℕ) (line : LogLine) (literals : List ℤ) → i < length lines → line ≡ get_or lines i line → literals ≡ line.clause → AreClauses (map (λ (line : LogLine). line.clause) (take i lines)) → IsClause literals → AreClauses (map (λ (line : LogLine). line.clause) (take (i + 1) lines))
line_clauses-more lines i line literals within is same before here =
    let clause : LogLine → List ℤ = λ line. line.clause in
    rw (map_more clause lines i line within)
    (record { each = All-push IsClause (map clause (take i lines)) (clause (get_or lines i line)) before.each (subst IsClause (same ∙ ap clause is) here) })

-- the clauses of the lines of a log that was read
pub line_clauses : (lines : List LogLine) → All IsLogLine lines → AreClauses (map (λ (line : LogLine). line.clause) lines)
line_clauses lines each =
    record { each = All-map IsClause (λ (line : LogLine). line.clause) lines (λ k d within. (each k d within).clause) }
