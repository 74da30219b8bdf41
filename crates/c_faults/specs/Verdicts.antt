-- The first of the refusals that are heard of.
use Rattle.std.specs.Prelude.{Bool, ◌&&◌, ◌||◌, ◌==◌, nat_lt, if◌then◌else◌, List, [], ◌∷◌, Option, Some, None}
use Rattle.c_tree.specs.Checking.Uses.{Use}
use Rattle.c_tree.specs.Checking.Refusals as spec
use Rattle.c_tree.specs.Checking.Refusals.{fault_number, faults_of}
use Rattle.c_faults.specs.declared.fault.Fault.{Fault}
use Rattle.c_faults.specs.declared.fault.Fault.TheVariants as fault
use Rattle.c_faults.specs.declared.fault.CheckRefusal.{CheckRefusal}

abbrev pub fault_kind : Fault → spec.FaultKind
fault_kind fault.NoName = spec.NoName
fault_kind fault.Twice = spec.Twice
fault_kind fault.Kind = spec.Kind
fault_kind fault.Arity = spec.Arity
fault_kind fault.NoValue = spec.NoValue
fault_kind fault.Const = spec.Const
fault_kind fault.Stray = spec.Stray
fault_kind fault.NoBound = spec.NoBound
fault_kind fault.BoundRange = spec.BoundRange
fault_kind fault.NoEntry = spec.NoEntry
fault_kind fault.LaterCall = spec.LaterCall
fault_kind fault.ArrayLength = spec.ArrayLength
fault_kind fault.Inputs = spec.Inputs
fault_kind fault.NoInit = spec.NoInit
fault_kind fault.Span = spec.Span

abbrev pub refusal_of : CheckRefusal → spec.PlacedFault
refusal_of r = spec.placed_fault (fault_kind r.fault) r.at

-- a refusal comes before another
abbrev pub precedes : spec.PlacedFault → spec.PlacedFault → Bool
precedes a b = nat_lt (fault_number a.fault) (fault_number b.fault) || (fault_number a.fault == fault_number b.fault
    && nat_lt a.at b.at)

-- the first so far, after one more
abbrev pub after_one : Option spec.PlacedFault → spec.PlacedFault → Option spec.PlacedFault
after_one None r = Some r
after_one (Some f) r = if precedes r f then Some r else Some f

-- and after these
abbrev pub after_all : Option spec.PlacedFault → List spec.PlacedFault → Option spec.PlacedFault
after_all f [] = f
after_all f (r ∷ rs) = after_all (after_one f r) rs

-- and after the faults of a use, and of these uses
unfoldable pub after_use : Option spec.PlacedFault → Use → Option spec.PlacedFault
after_use f u = after_all f (faults_of u)

unfoldable pub after_uses : Option spec.PlacedFault → List Use → Option spec.PlacedFault
after_uses f [] = f
after_uses f (u ∷ us) = after_uses (after_use f u) us
