-- What code adds to a netlist, by a circuit.
use Rattle.std.specs.Prelude.{◌≡◌, ℕ, ◌+◌, ◌++◌, length}
use Rattle.bit_circuits.specs.declared.netlist.Netlist.{Netlist}
use Rattle.bit_circuits.specs.Circuits.{Circuit}

-- the number of the next variable
abbrev pub next_of : Netlist → ℕ
next_of netlist = netlist.first + length netlist.gates.items

-- the netlist goes on with the gates of the circuit, whose outcome this is
pub record Adds {A : Type 0} (c : Circuit A) (old new : Netlist) (outcome : A) : Type 0 where
  pub first : new.first ≡ old.first
  pub out : outcome ≡ (c (next_of old)).out
  pub gates : new.gates.items ≡ old.gates.items ++ (c (next_of old)).gates
