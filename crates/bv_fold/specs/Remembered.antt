-- What is remembered of a store from one folding to the next.
use Rattle.std.specs.Prelude.{◌<◌, ◌≤◌, ℕ, List, length, slice_get, slice_index}
use Rattle.bv_term.specs.Stores.{Terms}
use Rattle.bv_fold.specs.Folding.{HasNoInput, IsConst}
use Rattle.bv_fold.specs.Steps.{AreSame, AreWords}

-- the folds of the first terms, and the words of first terms where each number of the input is 0
pub record Remembered : Type 0 where
  pub folds : List ℕ
  pub words : List ℕ

-- it is remembered of this store
pub record IsRemembered (terms : Terms) (r : Remembered) : Type 0 where
  pub few_folds : length r.folds ≤ length terms.ops
  pub few_words : length r.words ≤ length terms.ops
  pub folds : AreSame terms r.folds
  pub words : AreWords terms r.words
  pub constant : (t : ℕ) → t < length r.folds → HasNoInput terms.ops t
      → IsConst (slice_get terms.ops (slice_index r.folds t))
