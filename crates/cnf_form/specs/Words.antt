-- Words of a text, one by one.
use Rattle.std.specs.Prelude.{◌≡◌, ◌<◌, ℕ, not, true, List, ◌++◌, length, slice_index}
use Rattle.std.specs.List.{list_all}
use Rattle.cnf_form.specs.Forms.{is_gap}

-- nothing but gaps
abbrev pub AreGaps : List ℕ → Type 0
AreGaps bytes = list_all is_gap bytes ≡ true

-- no gap
abbrev pub IsSolid : List ℕ → Type 0
IsSolid bytes = list_all (λ b. not (is_gap b)) bytes ≡ true

-- the first word of a text, and what stands behind it
pub record CutsWord (text word rest : List ℕ) : Type 0 where
  pub gaps : List ℕ
  pub blank : AreGaps gaps
  pub split : text ≡ gaps ++ (word ++ rest)
  pub some : 0 < length word
  pub solid : IsSolid word
  pub ends : 0 < length rest → is_gap (slice_index rest 0) ≡ true
