-- What a loop and a call make of the way in which a list ended.
use Rattle.std.specs.Prelude.{Bool, true, false, Option, None}
use Rattle.c_tree.specs.declared.tree.Ty.{Ty}
use Rattle.c_tree.specs.declared.value.Way.{Way}
use Rattle.c_tree.specs.declared.value.Way.TheVariants as way
use Rattle.c_tree.specs.declared.value.Value.{Value}
use Rattle.c_tree.specs.Meaning.Runs.{result_of}

-- whether the body of a loop that ended so is followed by another turn, and how the loop ends where it is not
abbrev pub has_next_turn : Way → Bool
has_next_turn way.Next = true
has_next_turn way.Continue = true
has_next_turn way.Break = false
has_next_turn (way.Return v) = false

abbrev pub way_past_loop : Way → Way
way_past_loop way.Break = way.Next
way_past_loop way.Next = way.Next
way_past_loop way.Continue = way.Continue
way_past_loop (way.Return v) = way.Return v

-- what a function of this result comes back with
abbrev pub way_result : Option Ty → Way → Option Value
way_result r (way.Return v) = result_of r v
way_result r way.Next = None
way_result r way.Break = None
way_result r way.Continue = None
