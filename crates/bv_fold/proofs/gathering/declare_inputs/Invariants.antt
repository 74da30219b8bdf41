use Rattle.std.proofs.Common.{◌≡◌, take}
use Rattle.bv_fold.proofs.gathering.declare_inputs.Given as goal

-- the inputs so far are declared
abbrev pub invariant-loop-signed : goal.invariant-loop-signed
invariant-loop-signed l = record {
  inputs : l.apart.inputs ≡ take l.signed-index l.terms.inputs;
  ops : l.apart.ops ≡ l.initial.apart.ops;
}
