use Rattle.std.proofs.Common.{rules, refl}
use Rattle.bit_circuits.proofs.Construction.Running.{gate-adds}
use Rattle.bit_circuits.proofs.netlist.Netlist.add.Goals as goal

pub returns : goal.returns
returns c = gate-adds c.args.new c.args.self.now _ _ refl (search rules) (search rules)
