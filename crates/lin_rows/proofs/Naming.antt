-- Edges that are named once.
use Rattle.std.proofs.Common.{◌≡◌, ℕ, ℤ, List, ◌+◌, ◌<◌, length, get_or, take, Any, arith, sym, ap, ◌∙◌}
use Rattle.std.proofs.lemmas.List.{take_more, get_or_default, get_or-take, length-take-le}
use Rattle.std.proofs.lemmas.List.Quantifiers.{all_pairs_push}
use Rattle.lin_rows.specs.Names.{NamesOnce}

-- one more term, whose edge no earlier one names
pub NamesOnce-more : (terms : List (ℕ × ℤ)) (i : ℕ) (d : ℕ × ℤ) → i < length terms → NamesOnce (take i terms) → ¬ Any (λ (term : ℕ × ℤ). term.0 ≡ (get_or terms i d).0) (take i terms) → NamesOnce (take (i + 1) terms)
NamesOnce-more terms i d within once apart =
    rw (take_more terms i d within)
    (all_pairs_push (λ (one other : ℕ × ℤ). one.0 ≡ other.0 → ⊥) (take i terms) (get_or terms i d) once
    (λ k e h same. apart (k, get_or (take i terms) k e, h, get_or_default (take i terms) k (get_or (take i terms) k e) e h, same)))

-- a term whose edge an earlier one names
pub NamesOnce-twice : (terms : List (ℕ × ℤ)) (i : ℕ) (d : ℕ × ℤ) → i < length terms → Any (λ (term : ℕ × ℤ). term.0 ≡ (get_or terms i d).0) (take i terms) → ¬ NamesOnce terms
NamesOnce-twice terms i d within named once =
    let k = named.0 in
    let short : length (take i terms) ≡ i = length-take-le i terms (omega arith) in
    let before : k < i = omega (arith, named.2) in
    let same : (get_or terms k d).0 ≡ (get_or terms i d).0 = ap (λ (term : ℕ × ℤ). term.0) (sym (get_or-take i terms k d before) ∙ get_or_default (take i terms) k d named.1 named.2 ∙ named.3) ∙ named.4 in
    once k i d before within same
