-- Lists of literals on which unit propagation comes to rest, and what a clause adds to it.
use Rattle.std.specs.Prelude.{ℤ, neg_ℤ, List, ◌≢◌, All, Contains}
use Rattle.rup_check.specs.Follows.{IsMade, IsFalse, IsUnit}

-- wherever all literals of the clause but one are false, that one is in the list
abbrev pub IsPropagated : List ℤ → List ℤ → Type 0
IsPropagated made literals = (l : ℤ) → Contains literals l → All (λ m. m ≢ l → IsMade made (neg_ℤ m)) literals
    → IsMade made l

-- a list of literals is closed under unit propagation over some clauses: no literal stands in it beside its negation,
-- no clause is false, and of a clause whose literals but one are false, that one is in the list
pub record IsClosed (clauses : List (List ℤ)) (made : List ℤ) : Type 0 where
  pub consistent : (l : ℤ) → IsMade made l → ¬ IsMade made (neg_ℤ l)
  pub none_false : All (λ literals. ¬ IsFalse made literals) clauses
  pub propagated : All (IsPropagated made) clauses

-- a clause teaches over some clauses: under a list that is closed over these, all its literals are false but one, which
-- is neither true nor false; so unit propagation over these clauses does not yet know it
pub record Teaches (clauses : List (List ℤ)) (literals : List ℤ) : Type 0 where
  pub made : List ℤ
  pub closed : IsClosed clauses made
  pub left : ℤ
  pub unit : IsUnit made literals left
