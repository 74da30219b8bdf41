-- The same of texts that stand in files: what is accepted, and what each refusal says, in the order of work.
use Rattle.std.specs.Prelude.{◌≡◌, ℕ, List, Option, Some, None, IsSomeAnd, option_copied}
use Rattle.wc_outside.specs.Contents.{Files, OnFile}
use Rattle.c_tree.specs.declared.program.Program.{Program}
use Rattle.c_tree.specs.declared.program.Costs.{Costs}
use Rattle.flow_graph.specs.Plans.{plan_with}
use Rattle.front_end.specs.declared.refusal.Refusal.{Refusal}
use Rattle.front_end.specs.declared.refusal.Refusal.TheVariants as by
use Rattle.front_end.specs.declared.refusal.TableRefusal.{TableRefusal}
use Rattle.front_end.specs.declared.refusal.PlanRefusal.{PlanRefusal}
use Rattle.front_end.specs.declared.work.Source.{Source as Given}
use Rattle.front_end.specs.declared.work.Front.{Front}
use Rattle.front_end.specs.Accepted.{IsTextOf, ArePriced, Accepts}
use Rattle.front_end.specs.Refusing.{RefusesText, HasInput, IsInput, RefusesTable, RefusesPlan}

-- where the texts come from: the file of the program, the entry, the text of the input if it is to be run, and the file
-- of the table if there is one
pub record Source : Type 0 where
  pub file : List ℕ
  pub entry : List ℕ
  pub input : Option (List ℕ)
  pub table : Option (List ℕ)

abbrev pub source_of : Given → Source
source_of s =
    record { file = s.file.now; entry = s.entry.now; input = option_copied s.input; table = option_copied s.table }

-- of the text of the table, if there is one
abbrev pub OnTable : Option (List ℕ) → Option Files → (Option (List ℕ) → Type 0) → Type 0
OnTable None told P = P None
OnTable (Some name) told P = OnFile told name (λ bytes. P (Some bytes))

-- ---- what is accepted

-- the file has the text of the program
abbrev pub HasProgram : Source → Option Files → Program → Type 0
HasProgram s told p = OnFile told s.file (λ bytes. IsTextOf bytes s.entry p)

abbrev pub HasCosts : Source → Option Files → Program → Costs → Type 0
HasCosts s told p t = OnTable s.table told (λ table. ArePriced table p t)

-- the texts in the files are accepted
abbrev pub AreAccepted : Source → Option Files → Program → Costs → Type 0
AreAccepted s told p t = OnFile told s.file (λ bytes. OnTable s.table told (λ table. Accepts bytes table s.entry p t))

-- so they are, and the input is the one that is asked for
pub record IsFront (s : Source) (told : Option Files) (front : Front) : Type 0 where
  pub accepted : AreAccepted s told front.plan.program front.plan.costs
  pub input : IsInput s.input front.plan.program front.input

-- the texts in the files are accepted, and the input that is asked for is there
pub record IsServed (s : Source) (told : Option Files) : Type 0 where
  pub program : Program
  pub costs : Costs
  pub accepted : AreAccepted s told program costs
  pub input : HasInput s.input program

-- ---- what is refused

-- the file has the text of the program, which has no input, though one is asked for
pub record LacksInput (s : Source) (told : Option Files) : Type 0 where
  pub program : Program
  pub text : HasProgram s told program
  pub none : ¬ (HasInput s.input program)

-- it has the text of the program, and the input that is asked for is there: the table is looked at
pub record IsReady (s : Source) (told : Option Files) (p : Program) : Type 0 where
  pub text : HasProgram s told p
  pub input : HasInput s.input p

pub record HasBadTable (refusal : TableRefusal) (s : Source) (told : Option Files) : Type 0 where
  pub program : Program
  pub ready : IsReady s told program
  pub refused : OnTable s.table told (λ table. IsSomeAnd table (RefusesTable refusal program))

pub record HasNoPlan (refusal : PlanRefusal) (s : Source) (told : Option Files) : Type 0 where
  pub program : Program
  pub costs : Costs
  pub ready : IsReady s told program
  pub priced : HasCosts s told program costs
  pub refused : RefusesPlan refusal program

abbrev pub Refuses : Refusal → Source → Option Files → Type 0
Refuses (by.Program refusal) s told = OnFile told s.file (λ bytes. RefusesText refusal bytes s.entry)
Refuses by.Input s told = LacksInput s told
Refuses (by.Table refusal) s told = HasBadTable refusal s told
Refuses (by.Plan refusal) s told = HasNoPlan refusal s told
