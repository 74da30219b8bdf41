-- Rows that are tested one after another.
use Rattle.std.proofs.Common.{◌↔◌, ℕ, ℤ, List, [], ◌∷◌, Bool, true, false, ◌&&◌, IsTrue, All, refl}
use Rattle.std.specs.List.{flat_map}
use Rattle.std.proofs.lemmas.Bool.{false≢true}
use Rattle.std.proofs.lemmas.List.Elements.{All-nil, All-cons, All-head, All-tail}
use Rattle.lin_rows.specs.declared.row.Row.{Row}
use Rattle.lin_rows.specs.declared.row.Rows.{Rows}
use Rattle.lin_rows.specs.Steps.{StaysInI128}
use Rattle.lin_rows.specs.Meeting.{MeetsRow, Meets, left_side_steps, meeting_steps}
use Rattle.lin_rows.proofs.StepLists.{stays-nil, stays-append}

-- the steps of some rows
abbrev pub rows_steps : List ℕ → List Row → List ℤ
rows_steps x rows = flat_map (λ row. left_side_steps row.terms x) rows

-- of the rows `all`, those before `rest` are summed, and `met` tells whether they are met
pub record Tested (x : List ℕ) (all : List Row) (met : Bool) (rest : List Row) : Type 0 where
  pub stays : StaysInI128 (rows_steps x all) ↔ StaysInI128 (rows_steps x rest)
  pub meets : All (MeetsRow x) all ↔ (IsTrue met × All (MeetsRow x) rest)

pub Tested-start : (x : List ℕ) (all : List Row) → Tested x all true all
Tested-start x all = record { stays = (λ h. h, λ h. h); meets = (λ h. (refl, h), λ h. h.1) }

met-and : {All This Rest : Type 0} (met holds : Bool) → All ↔ (IsTrue met × (This × Rest)) → IsTrue holds ↔ This → All ↔ (IsTrue (met && holds) × Rest)
met-and true true all this = (λ h. (refl, (all.0 h).1.1), λ h. all.1 (refl, (this.0 refl, h.1)))
met-and true false all this = (λ h. absurd (false≢true (this.1 (all.0 h).1.0)), λ h. absurd (false≢true h.0))
met-and false holds all this = (λ h. absurd (false≢true (all.0 h).0), λ h. absurd (false≢true h.0))

-- the next row is summed and compared
pub Tested-next : (x : List ℕ) (all : List Row) (met holds : Bool) (row : Row) (rest : List Row) → Tested x all met (row ∷ rest) → StaysInI128 (left_side_steps row.terms x) → IsTrue holds ↔ MeetsRow x row → Tested x all (met && holds) rest
Tested-next x all met holds row rest tested own this =
    let steps = stays-append (left_side_steps row.terms x) (rows_steps x rest) in
    record {
      stays = (λ h. (steps.0 (tested.stays.0 h)).1, λ h. tested.stays.1 (steps.1 (own, h)));
      meets = met-and met holds (λ h. ((tested.meets.0 h).0, (All-head (MeetsRow x) row rest (tested.meets.0 h).1, All-tail (MeetsRow x) row rest (tested.meets.0 h).1)), λ h. tested.meets.1 (h.0, All-cons (MeetsRow x) row rest h.1.0 h.1.1)) this;
    }

-- the next row cannot be summed
pub Tested-stop : (rows : Rows) (x : List ℕ) (met : Bool) (row : Row) (rest : List Row) → Tested x rows.rows met (row ∷ rest) → ¬ StaysInI128 (left_side_steps row.terms x) → ¬ StaysInI128 (meeting_steps rows x)
Tested-stop rows x met row rest tested fails h =
    fails ((stays-append (left_side_steps row.terms x) (rows_steps x rest)).0 (tested.stays.0 h)).0

-- all rows are tested
pub Tested-all : (rows : Rows) (x : List ℕ) (met : Bool) → Tested x rows.rows met [] → StaysInI128 (meeting_steps rows x) × (IsTrue met ↔ Meets rows x)
Tested-all rows x met tested =
    (tested.stays.1 stays-nil, (λ h. tested.meets.1 (h, All-nil (MeetsRow x)), λ h. (tested.meets.0 h).0))
