-- What a function that reads ensures: what the parser gives, unless memory is wanting.
use Rattle.std.specs.Prelude.{◌≡◌, ◌≢◌, List, Result, Ok, Err}
use Rattle.c_tree.specs.Tokens.Symbols.{Lexeme}
use Rattle.parse_laws.specs.declared.fault.ReadingFault.{ReadingFault}
use Rattle.parse_laws.specs.declared.fault.ReadingFault.TheVariants.{NoMemory}
use Rattle.parse_laws.specs.Parser.{Outcome}

abbrev pub Reads : {A B : Type 0} → (B → A) → Outcome A → Result B ReadingFault → List Lexeme → Type 0
Reads view outcome (Ok b) rest = outcome ≡ Ok (view b, rest)
Reads view outcome (Err x) rest = x ≢ NoMemory → outcome ≡ Err x
