-- What an answer of `check` tells.
use Rattle.std.specs.Prelude.{Option, Some, None}
use Rattle.c_tree.specs.Checking.Refusals as spec
use Rattle.c_tree.specs.Checking.Refusals.{PlacedFault, placed_fault}
use Rattle.c_check.specs.declared.fault.CheckFault.{CheckFault}
use Rattle.c_check.specs.declared.fault.CheckFault.TheVariants.{
  NoName,
  Twice,
  Kind,
  Arity,
  NoValue,
  Const,
  Stray,
  NoBound,
  BoundRange,
  NoEntry,
  LaterCall,
  ArrayLength,
  Inputs,
  NoInit,
  Span,
  NoMemory,
}

-- the fault and its place, which want of memory has not
abbrev pub fault_and_place : CheckFault → Option PlacedFault
fault_and_place (NoName at) = Some (placed_fault spec.NoName at)
fault_and_place (Twice at) = Some (placed_fault spec.Twice at)
fault_and_place (Kind at) = Some (placed_fault spec.Kind at)
fault_and_place (Arity at) = Some (placed_fault spec.Arity at)
fault_and_place (NoValue at) = Some (placed_fault spec.NoValue at)
fault_and_place (Const at) = Some (placed_fault spec.Const at)
fault_and_place (Stray at) = Some (placed_fault spec.Stray at)
fault_and_place (NoBound at) = Some (placed_fault spec.NoBound at)
fault_and_place (BoundRange at) = Some (placed_fault spec.BoundRange at)
fault_and_place (NoEntry at) = Some (placed_fault spec.NoEntry at)
fault_and_place (LaterCall at) = Some (placed_fault spec.LaterCall at)
fault_and_place (ArrayLength at) = Some (placed_fault spec.ArrayLength at)
fault_and_place (Inputs at) = Some (placed_fault spec.Inputs at)
fault_and_place (NoInit at) = Some (placed_fault spec.NoInit at)
fault_and_place (Span at) = Some (placed_fault spec.Span at)
fault_and_place NoMemory = None
