-- The values that a board shows while its entries are made, as a report lists them.
use Rattle.std.specs.Prelude.{◌≡◌, ◌≢◌, Bool, true, false, List, [], ◌∷◌, ◌++◌}
use Rattle.board_core.specs.declared.event.Entry.{Entry}
use Rattle.board_core.specs.declared.event.Shown.{Shown as BoardShown}
use Rattle.board_core.specs.Machine.{Setup, State, start_state, state_after_entries}
use Rattle.board_core.specs.Histories.{state_after}
use Rattle.board_core.specs.Showing.{shown_bounds}
use Rattle.report_text.specs.declared.report.Shown.{Shown}

-- what a board shows, as a report has it
abbrev pub value_of : BoardShown → Shown
value_of shown = record { bound = shown.bound; best = shown.best }

-- what is shown in a state
abbrev pub value_in : State → Shown
value_in s = value_of (shown_bounds s)

-- values that are shown, one after the other, from this state on while these entries are made: the first one after some
-- of the entries, each other one after the same entries as the one before it or after more of them
abbrev pub AreShown : State → List Entry → List Shown → Type 0
AreShown s es [] = Unit {0}
AreShown s es (value ∷ values) =
    (front : List Entry) × (rest : List Entry) × (es ≡ front ++ rest)
    × (value ≡ value_in (state_after_entries s front))
    × AreShown (state_after_entries s front) rest values

-- no value is that before it
abbrev pub AreChanges : List Shown → Type 0
AreChanges [] = Unit {0}
AreChanges (value ∷ []) = Unit {0}
AreChanges (value ∷ next ∷ values) = (next ≢ value) × AreChanges (next ∷ values)

abbrev pub BeginsWith : Shown → List Shown → Type 0
BeginsWith value values = (rest : List Shown) × (values ≡ value ∷ rest)

abbrev pub EndsWith : Shown → List Shown → Type 0
EndsWith value values = (front : List Shown) × (values ≡ front ++ value ∷ [])

-- what a watch has shown so far: each value once as long as it stands
pub record IsWatchSoFar (u : Setup) (es : List Entry) (values : List Shown) : Type 0 where
  pub shown : AreShown (start_state u) es values
  pub changes : AreChanges values

-- what a watch has shown in the end: the opening board first, then what was read, and the final board last
pub record IsWatch (u : Setup) (es : List Entry) (values : List Shown) : Type 0 where
  pub so_far : IsWatchSoFar u es values
  pub opens : BeginsWith (value_in (start_state u)) values
  pub closes : EndsWith (value_in (state_after u es)) values

-- the shown values of a report; there are none where nobody watches
abbrev pub AreValues : Bool → Setup → List Entry → List Shown → Type 0
AreValues false u es values = values ≡ []
AreValues true u es values = IsWatch u es values

-- those of a report that has no end yet
abbrev pub AreValuesSoFar : Bool → Setup → List Entry → List Shown → Type 0
AreValuesSoFar false u es values = values ≡ []
AreValuesSoFar true u es values = IsWatchSoFar u es values
