-- What a search for an input that drives a list of edges has found.
use Rattle.std.specs.Prelude.{◌≡◌, ℕ, Bool, List, length}
use Rattle.c_tree.specs.declared.program.Program.{Program}
use Rattle.cnf_form.specs.declared.log.Log.{Log}
use Rattle.cnf_form.specs.Truth.{Satisfies}
use Rattle.rup_check.specs.Accepted.{IsAccepted}
use Rattle.rup_check.specs.Worked.{IsWorked}
use Rattle.bit_circuits.specs.Formula.{decoded_words}
use Rattle.bit_blast.specs.declared.blasted.Blasted.{Blasted}
use Rattle.path_formulas.specs.FormulasOfLists.{IsDrivenBy, IsDrivenByNone, HasWorkedLog}
use Rattle.path_search.specs.declared.found.Found.{Found}
use Rattle.path_search.specs.declared.found.Found.TheVariants.{Driven, Refuted, GaveUp}

-- an input that drives the list; that no input does; or, where the search gave up, that some log is worked at the limit
abbrev pub IsFinding : Program → List ℕ → ℕ → Found → Type 0
IsFinding p q limit (Driven i) = IsDrivenBy p q i
IsFinding p q limit Refuted = IsDrivenByNone p q
IsFinding p q limit GaveUp = HasWorkedLog p q limit

-- the same of a first search, whose giving up shows nothing of the list
abbrev pub IsFirstFinding : Program → List ℕ → Found → Type 0
IsFirstFinding p q (Driven i) = IsDrivenBy p q i
IsFirstFinding p q Refuted = IsDrivenByNone p q
IsFirstFinding p q GaveUp = Unit {0}

-- ---- of a formula alone

-- the input is what a satisfying assignment says; a log is accepted; or a log is worked at the limit
abbrev pub IsAnswer : Blasted → ℕ → Found → Type 0
IsAnswer b limit (Driven i) = (values : List Bool) × (length values ≡ b.cnf.variables) × Satisfies values b.cnf.clauses
    × (i.values ≡ decoded_words b.inputs values)
IsAnswer b limit Refuted = (log : Log) × IsAccepted b.cnf log
IsAnswer b limit GaveUp = (log : Log) × IsWorked b.cnf log limit
