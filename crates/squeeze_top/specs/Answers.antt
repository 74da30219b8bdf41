-- What each mode answers, of texts that are accepted: how the tool ends, and the text that is written.
use Rattle.std.specs.Prelude.{◌≡◌, ◌<◌, ◌≤◌, ◌^◌, ℕ, ◌+◌, IsTrue, false, List, [], ◌∷◌, ◌++◌, Option, Some}
use Rattle.std.specs.Prelude.{if◌then◌else◌, codes, decimal}
use Rattle.c_tree.specs.declared.unit.Unit.{Unit as Tree}
use Rattle.c_tree.specs.declared.program.Func.{Func}
use Rattle.c_tree.specs.declared.program.Program.{Program}
use Rattle.c_tree.specs.declared.program.Costs.{Costs}
use Rattle.c_tree.specs.declared.program.Input.{Input}
use Rattle.c_tree.specs.Meaning.Runs.{fits, run}
use Rattle.c_tree.specs.Meaning.Claims.{Above}
use Rattle.c_tree.specs.Checking.Checked.{IsSpelled}
use Rattle.c_tree.specs.Checking.Refusals.{Typed}
use Rattle.flow_laws.specs.Graphs.{graph}
use Rattle.flow_graph.specs.Limits.{block_copies}
use Rattle.ipet_rows.specs.Optimum.{IpetOptimum}
use Rattle.c_run.specs.declared.run_end.RunEnd.{RunEnd}
use Rattle.c_run.specs.declared.run_end.RunEnd.TheVariants.{Ends, Undefined, OverBound}
use Rattle.c_run.specs.Ends.{end_of_run}
use Rattle.c_input.specs.InputTexts.{input_text}
use Rattle.print_laws.specs.Again.{IsReadAs}
use Rattle.print_laws.specs.Printed.{printed_program}
use Rattle.race_item.specs.declared.region.Limits.{Limits}
use Rattle.board_core.specs.declared.event.End.{End}
use Rattle.board_core.specs.declared.event.End.TheVariants.{Done}
use Rattle.board_core.specs.Boards.{BoardOf}
use Rattle.report_text.specs.declared.report.Report.{Report}
use Rattle.report_text.specs.Texts.{report_text}
use Rattle.race_report.specs.Telling as race
use Rattle.word_line.specs.declared.job.Mode.{Mode}
use Rattle.word_line.specs.declared.job.Mode.TheVariants.{Squeeze, Bound, Ipet, Blocks, Run, Print, Make, Workout}
use Rattle.word_line.specs.declared.job.Job.{Job}
use Rattle.case_maker.specs.Case.{Case}
use Rattle.front_end.specs.declared.status.Status.{Status}
use Rattle.front_end.specs.declared.status.Status.TheVariants.{Whole, Inexact}

abbrev pub bound_line : ℕ → List ℕ
bound_line n = codes "bound " ++ decimal n ++ codes "\n"

-- a block's name, which is its function's name, a colon and its number; a blank; and its cost
abbrev pub block_line : List ℕ → ℕ → ℕ → List ℕ
block_line function number cost =
    function ++ codes ":" ++ decimal number ++ codes " " ++ decimal cost ++ codes "\n"

-- those of a function's blocks with these costs, from this number on
abbrev pub func_lines : List ℕ → ℕ → List ℕ → List ℕ
func_lines function number [] = []
func_lines function number (cost ∷ row) = block_line function number cost ++ func_lines function (number + 1) row

-- those of all blocks, by the functions of the text and then by number
abbrev pub block_lines : List Func → List (List ℕ) → List ℕ
block_lines [] rows = []
block_lines (f ∷ fs) [] = []
block_lines (f ∷ fs) (row ∷ rows) = func_lines f.name 0 row ++ block_lines fs rows

-- the text is the line of the optimum of implicit path enumeration, which no run exceeds
pub record TellsBound (p : Program) (t : Costs) (text : List ℕ) : Type 0 where
  pub bound : ℕ
  pub fits : bound < 2 ^ 128
  pub optimum : IpetOptimum p t bound
  pub above : Above p t bound
  pub line : text ≡ bound_line bound

abbrev pub ipet_line : ℕ → List ℕ
ipet_line n = codes "ipet " ++ decimal n ++ codes "\n"

abbrev pub ipet_lines : ℕ → ℕ → List ℕ
ipet_lines copies n = codes "blocks " ++ decimal copies ++ codes "\nipet " ++ decimal n ++ codes "\n"

-- the text tells how many block copies the flat graph has, and the optimum, which no run exceeds
pub record TellsPeak (p : Program) (t : Costs) (text : List ℕ) : Type 0 where
  pub bound : ℕ
  pub fits : bound < 2 ^ 128
  pub optimum : IpetOptimum p t bound
  pub above : Above p t bound
  pub few : block_copies (graph p) ≤ 1024
  pub lines : text ≡ ipet_lines (block_copies (graph p)) bound

abbrev pub run_line : RunEnd → List ℕ
run_line (Ends cost) = codes "ends " ++ decimal cost ++ codes "\n"
run_line Undefined = codes "undefined\n"
run_line OverBound = codes "overbound\n"

-- an input that fits has this text, and the line tells how its run ends
pub record TellsRun (p : Program) (t : Costs) (input text : List ℕ) : Type 0 where
  pub values : Input
  pub fitting : IsTrue (fits p values)
  pub spelled : input_text p values ≡ input
  pub line : text ≡ run_line (end_of_run t (run p values))

-- the text is that of the printed program, and with each entry with which the program is typed it is read as this one
pub record TellsProgram (p : Program) (text : List ℕ) : Type 0 where
  pub lines : text ≡ printed_program p
  pub again : (unit : Tree) (entry : List ℕ) → IsSpelled unit → Typed unit entry p → IsReadAs text entry p

-- the limits of a race
abbrev pub limits_of : Job → Limits
limits_of job = record { turns = job.turns; conflicts = job.conflicts }

-- how the tool ends where a race ends so
abbrev pub status_of_end : Option End → Status
status_of_end (Some Done) = Whole
status_of_end _ = Inexact

-- the text is that of a report that tells some race of the program within these limits, which nobody watches, and the
-- status is that of its end
pub record TellsRace (limits : Limits) (p : Program) (t : Costs) (s : Status) (text : List ℕ) : Type 0 where
  pub board : BoardOf
  pub raced : race.IsRaceOf p t limits board
  pub report : Report
  pub tells : race.Tells false board report
  pub ends : s ≡ status_of_end (race.race_end board)
  pub lines : text ≡ report_text report

-- the table of the modes that ask for texts: over the program p with the costs t, a mode ends with this status and
-- writes this text. No job asks for a mode that is not built
abbrev pub Tells : Mode → Job → Program → Costs → Status → List ℕ → Type 0
Tells Squeeze job p t s text = TellsRace (limits_of job) p t s text
Tells Bound job p t s text = (s ≡ Whole) × TellsBound p t text
Tells Ipet job p t s text = (s ≡ Whole) × TellsPeak p t text
Tells Blocks job p t s text = (s ≡ Whole) × (text ≡ block_lines p.funcs t.by_func)
Tells Run job p t s text = (s ≡ Whole) × TellsRun p t job.input text
Tells Print job p t s text = (s ≡ Whole) × TellsProgram p text
Tells Make job p t s text = ⊥
Tells Workout job p t s text = ⊥

-- the text of the program of a made case; or that of its table, where the job asks for it
pub record TellsCase (job : Job) (text : List ℕ) : Type 0 where
  pub program : List ℕ
  pub table : List ℕ
  pub made : Case job.«case» job.size program table
  pub chosen : text ≡ (if job.table then table else program)

-- the table of the modes that ask for no texts
abbrev pub TellsMade : Mode → Job → Status → List ℕ → Type 0
TellsMade Make job s text = (s ≡ Whole) × TellsCase job text
TellsMade _ job s text = ⊥
