-- How a run ends, as `run` answers it.
use Rattle.c_tree.specs.declared.program.Costs.{Costs}
use Rattle.c_tree.specs.Meaning.Runs.{Run, Ended, IsUndefined, IsOverBound}
use Rattle.c_tree.specs.Meaning.Claims.{trace_cost}
use Rattle.c_run.specs.declared.run_end.RunEnd.{RunEnd}
use Rattle.c_run.specs.declared.run_end.RunEnd.TheVariants as end

-- an end with the cost of its trace
abbrev pub end_of_run : Costs → Run → RunEnd
end_of_run t (Ended u) = end.Ends (trace_cost t u)
end_of_run t IsUndefined = end.Undefined
end_of_run t IsOverBound = end.OverBound
