-- What trying a list of edges has shown.
use Rattle.std.specs.Prelude.{◌<◌, ℕ, List, length}
use Rattle.c_tree.specs.declared.program.Program.{Program}
use Rattle.c_tree.specs.Meaning.Runs.{input_types}
use Rattle.flow_laws.specs.Driving.{Drives}
use Rattle.path_formulas.specs.FormulasOfLists.{IsDrivenBy, IsDrivenByNone, HasWorkedLog}
use Rattle.race_item.specs.Facts.{IsHeavy, zero_input}
use Rattle.item_turn.specs.declared.trial.Trial.{Trial}
use Rattle.item_turn.specs.declared.trial.Trial.TheVariants.{Driven, Refuted, GaveUp, Heavy}

-- a log is worked at the limit for the list's formula; there is an input number, and zeros do not drive the list
pub record IsGivenUp (p : Program) (q : List ℕ) (limit : ℕ) : Type 0 where
  pub worked : HasWorkedLog p q limit
  pub input_number : 0 < length (input_types p)
  pub zeros_fail : ¬ Drives p (zero_input p) q

-- an input that drives the list; that none does; that the search gave up; or that the list is too heavy to be decided
abbrev pub IsTrial : Program → List ℕ → ℕ → Trial → Type 0
IsTrial p q limit (Driven i) = IsDrivenBy p q i
IsTrial p q limit Refuted = IsDrivenByNone p q
IsTrial p q limit GaveUp = IsGivenUp p q limit
IsTrial p q limit Heavy = IsHeavy p q
