-- What the answer for a text means.
use Rattle.std.specs.Prelude.{ℕ, List, Result, Ok, Err}
use Rattle.c_token.specs.declared.fault.TokenFault.{TokenFault}
use Rattle.c_token.specs.declared.fault.TokenFault.TheVariants.{Byte, Comment, Number, Directive, NoMemory}
use Rattle.c_token.specs.Faults.{HasStrayByte, HasOpenComment, HasBadNumber, HasBadDirective}

-- what is true where a fault is answered
abbrev pub IsFault : List ℕ → TokenFault → Type 0
IsFault text (Byte at) = HasStrayByte text at
IsFault text (Comment at) = HasOpenComment text at
IsFault text (Number at) = HasBadNumber text at
IsFault text (Directive at) = HasBadDirective text at
IsFault text NoMemory = Unit {0}

-- P is true, unless memory ran out
abbrev pub UnlessNoMemory : {T : Type 0} → Result T TokenFault → Type 0 → Type 0
UnlessNoMemory (Ok v) P = P
UnlessNoMemory (Err (Byte at)) P = P
UnlessNoMemory (Err (Comment at)) P = P
UnlessNoMemory (Err (Number at)) P = P
UnlessNoMemory (Err (Directive at)) P = P
UnlessNoMemory (Err NoMemory) P = Unit {0}
