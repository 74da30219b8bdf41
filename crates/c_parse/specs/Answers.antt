-- What is said of the answer to a text with its tokens.
use Rattle.std.specs.Prelude.{◌≡◌, ◌⊎◌, ℕ, List, length, Result, Ok, Err, Any}
use Rattle.c_tree.specs.declared.token.Token.{Token}
use Rattle.c_tree.specs.declared.unit.Unit.{Unit as Tree}
use Rattle.c_parse.specs.declared.fault.ParseFault.{ParseFault}
use Rattle.c_parse.specs.declared.fault.ParseFault.TheVariants.{Syntax, Depth, NoMemory}

-- this tree is the answer, unless memory was wanting
abbrev pub Gives : Tree → Result Tree ParseFault → Type 0
Gives unit (Ok found) = found ≡ unit
Gives unit (Err fault) = fault ≡ NoMemory

-- the place of a token's first byte, or the end of the text
abbrev pub IsPlace : List ℕ → List Token → ℕ → Type 0
IsPlace text tokens at = (at ≡ length text) ⊎ Any (λ t. t.from ≡ at) tokens

-- a refusal is `Syntax`, at such a place
abbrev pub IsRefusal : List ℕ → List Token → ParseFault → Type 0
IsRefusal text tokens (Syntax at) = IsPlace text tokens at
IsRefusal text tokens (Depth at) = ⊥
IsRefusal text tokens NoMemory = Unit {0}
