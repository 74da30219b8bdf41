-- The texts of inputs (this project's own).
use Rattle.std.specs.Prelude.{
  ◌≡◌,
  ◌≢◌,
  ℕ,
  zero,
  suc,
  if◌then◌else◌,
  IsTrue,
  List,
  [],
  ◌∷◌,
  ◌++◌,
  drop,
  replicate,
  slice_get,
  codes,
  Option,
  Some,
  None,
  MatchOption,
  unwrap_or,
  ℤ,
}
use Rattle.std.specs.Fmt.{signed_decimal}
use Rattle.c_tree.specs.declared.program.Local.{Local}
use Rattle.c_tree.specs.declared.program.Global.{Global}
use Rattle.c_tree.specs.declared.program.Func.{Func}
use Rattle.c_tree.specs.declared.program.Program.{Program}
use Rattle.c_tree.specs.declared.program.Input.{Input}
use Rattle.c_tree.specs.Meaning.Runs.{fits}

-- what stands before each of so many numbers of an input variable: a blank, its name and `=` before the first, and a
-- comma before each other one
abbrev pub own_leads : List ℕ → ℕ → List (List ℕ)
own_leads name zero = []
own_leads name (suc n) = (codes " " ++ name ++ codes "=") ∷ replicate n (codes ",")

-- before those of the entry function's parameters
abbrev pub param_leads : ℕ → List Local → List (List ℕ)
param_leads zero ls = []
param_leads (suc n) [] = []
param_leads (suc n) (l ∷ ls) = own_leads l.name 1 ++ param_leads n ls

abbrev pub entry_leads : Option Func → List (List ℕ)
entry_leads None = []
entry_leads (Some f) = param_leads f.params f.locals

-- before those of the extern variables
abbrev pub outer_leads : List Global → List (List ℕ)
outer_leads [] = []
outer_leads (g ∷ gs) = if g.outer then own_leads g.name (unwrap_or g.length 1) ++ outer_leads gs else outer_leads gs

-- before each input number of a program, in order
abbrev pub input_leads : Program → List (List ℕ)
input_leads p = entry_leads (slice_get p.funcs p.entry) ++ outer_leads p.globals

-- each number in decimal, without leading zeros, behind what stands before it
abbrev pub led_numbers : List (List ℕ) → List ℤ → List ℕ
led_numbers [] zs = []
led_numbers (l ∷ ls) [] = []
led_numbers (l ∷ ls) (z ∷ zs) = l ++ signed_decimal z ++ led_numbers ls zs

-- the text of an input begins behind the first blank, and is empty for no inputs
abbrev pub input_text : Program → Input → List ℕ
input_text p i = drop 1 (led_numbers (input_leads p) i.values)

-- a fitting input, which has this text
abbrev pub HasText : Program → List ℕ → Input → Type 0
HasText p text i = IsTrue (fits p i) × (input_text p i ≡ text)

-- a fitting input that has this text, if there is one
abbrev pub IsInputOf : Program → List ℕ → Option Input → Type 0
IsInputOf p text answer =
    MatchOption answer ((i : Input) → IsTrue (fits p i) → input_text p i ≢ text) (HasText p text)
