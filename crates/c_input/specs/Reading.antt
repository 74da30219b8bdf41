-- Words of the reader and the writer of inputs' texts.
use Rattle.std.specs.Prelude.{
  ◌≡◌,
  ◌≤◌,
  ◌^◌,
  ◌⊎◌,
  ℕ,
  Bool,
  not,
  ◌==◌,
  ◌||◌,
  if◌then◌else◌,
  unwrap_or,
  List,
  [],
  ◌∷◌,
  ◌++◌,
  drop,
  length,
  ℤ,
  unsigned_abs,
}
use Rattle.std.specs.Fmt.{signed_decimal}
use Rattle.c_tree.specs.declared.program.Global.{Global}
use Rattle.c_input.specs.InputTexts.{own_leads, led_numbers}

-- before the input numbers of a global
abbrev pub global_leads : Global → List (List ℕ)
global_leads g = if g.outer then own_leads g.name (unwrap_or g.length 1) else []

-- neither a blank nor a comma
abbrev pub is_entry_byte : ℕ → Bool
is_entry_byte c = not (c == 32 || c == 44)

-- not empty, and begins with a blank or a comma
abbrev pub IsLead : List ℕ → Type 0
IsLead [] = ⊥
IsLead (c ∷ cs) = (c ≡ 32) ⊎ (c ≡ 44)

abbrev pub AreLeads : List (List ℕ) → Type 0
AreLeads [] = Unit {0}
AreLeads (l ∷ ls) = IsLead l × AreLeads ls

-- in the range of some type
abbrev pub IsSmall : ℤ → Type 0
IsSmall z = unsigned_abs z ≤ 2 ^ 32

-- a number behind each lead
abbrev pub Suits : List (List ℕ) → List ℤ → Type 0
Suits [] [] = Unit {0}
Suits [] (z ∷ zs) = ⊥
Suits (l ∷ ls) [] = ⊥
Suits (l ∷ ls) (z ∷ zs) = IsLead l × (IsSmall z × Suits ls zs)

-- nothing, or what begins with a blank or a comma
abbrev pub IsApart : List ℕ → Type 0
IsApart [] = Unit {0}
IsApart (c ∷ cs) = (c ≡ 32) ⊎ (c ≡ 44)

-- wherever the decimal of a small number z stands behind `count` bytes, and then `more`, which stands apart, these two
-- are as told
abbrev pub NumberBehind : ℕ → List ℕ → (ℤ → List ℕ → Type 0) → Type 0
NumberBehind count text IsTold =
    (label more : List ℕ) (z : ℤ) → length label ≡ count → IsSmall z → IsApart more → text ≡ label ++ signed_decimal z
    ++ more → IsTold z more

-- of the numbers of a text, `values` have been read, and `rest` is the text of the others, which stand behind these
-- leads
pub record Remains (leads : List (List ℕ)) (values : List ℤ) (rest : List ℕ) (zs : List ℤ) : Type 0 where
  pub later : List ℤ
  pub whole : zs ≡ values ++ later
  pub suits : Suits leads later
  pub text : rest ≡ drop 1 (led_numbers leads later)
