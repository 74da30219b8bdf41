-- A clause that teaches is new.
use Rattle.std.proofs.Common.{◌≢◌, ℕ, ℤ, ◌<◌, neg_ℤ, List, length, get_or, All, Contains, subst}
use Rattle.std.proofs.lemmas.List.Elements.{All-contains, Contains-get_or}
use Rattle.rup_check.specs.Follows.{IsFalse}
use Rattle.rup_check.specs.Closed.{IsPropagated, Teaches}

-- a clause that teaches contains no known one
pub teaches_new : (clauses : List (List ℤ)) (known literals : List ℤ) → Contains clauses known → All (Contains literals) known → ¬ Teaches clauses literals
teaches_new clauses known literals here within teaches =
    let made = teaches.made in
    let left = teaches.left in
    let moves = All-contains (IsPropagated made) clauses known teaches.closed.propagated here in
    let stands = All-contains (λ c. ¬ IsFalse made c) clauses known teaches.closed.none_false here in
    let others : (k : ℕ) (d : ℤ) → k < length known → get_or known k d ≢ left → Contains made (neg_ℤ (get_or known k d)) =
    λ k d h differ. All-contains (λ m. m ≢ left → Contains made (neg_ℤ m)) literals (get_or known k d) teaches.unit.others (within k d h) differ in
    let no : ¬ Contains known left = λ named. teaches.unit.not_true (moves left named others) in
    stands (λ k d h. others k d h (λ same. no (subst (Contains known) same (Contains-get_or known k d h))))
