-- Terms that are there: each number of a value, of a slot, of a store or of a memory is below k, the number of the
-- terms. This project's own.
use Rattle.std.specs.Prelude.{◌≡◌, ◌<◌, ◌^◌, ℕ, List, [], ◌∷◌, length, Option, Some, None}
use Rattle.cond_laws.specs.declared.store.TermSlot.{TermSlot}
use Rattle.cond_laws.specs.declared.store.TermSlot.TheVariants.{Unset, Number, Numbers}
use Rattle.cond_laws.specs.Conditions.{AllBelow}
use Rattle.cond_laws.specs.Judged.{Judged}
use Rattle.cond_laws.specs.TermStores.{TermStore}
use Rattle.cond_laws.specs.TermExpressions.{Listed}
use Rattle.cond_laws.specs.TermStatements.{Effect}
use Rattle.cond_laws.specs.TermPaths.{Returned, TermMemory}

pub record FitJudged (k : ℕ) (j : Judged) : Type 0 where
  pub term : j.term < k
  pub conditions : AllBelow k j.conditions

abbrev pub FitSlot : ℕ → TermSlot → Type 0
FitSlot k (Unset t) = Unit {0}
FitSlot k (Number t n) = n < k
FitSlot k (Numbers t ns) = (AllBelow k ns) × (length ns < 2 ^ 32)

abbrev pub FitSlots : ℕ → List TermSlot → Type 0
FitSlots k [] = Unit {0}
FitSlots k (y ∷ ys) = FitSlot k y × FitSlots k ys

abbrev pub FitHeld : ℕ → Option TermSlot → Type 0
FitHeld k None = Unit {0}
FitHeld k (Some y) = FitSlot k y

pub record FitStore (k : ℕ) (s : TermStore) : Type 0 where
  pub locals : FitSlots k s.locals
  pub globals : FitSlots k s.globals

abbrev pub Below : ℕ → ℕ → Type 0
Below k n = n < k

pub record FitListed (k : ℕ) (l : Listed) : Type 0 where
  pub terms : AllBelow k l.terms
  pub conditions : AllBelow k l.conditions

-- the terms are there, and as many
abbrev pub FitList : ℕ → ℕ → Listed → Type 0
FitList count k l = FitListed k l × (length l.terms ≡ count)

-- as many terms, all there
abbrev pub AsMany : ℕ → ℕ → List ℕ → Type 0
AsMany count k ns = AllBelow k ns × (length ns ≡ count)

pub record FitEffect (k : ℕ) (e : Effect TermStore) : Type 0 where
  pub now : FitStore k e.now
  pub conditions : AllBelow k e.conditions

abbrev pub FitFrames : ℕ → List (List TermSlot) → Type 0
FitFrames k [] = Unit {0}
FitFrames k (ys ∷ fs) = FitSlots k ys × FitFrames k fs

abbrev pub FitReturned : ℕ → Option Returned → Type 0
FitReturned k None = Unit {0}
FitReturned k (Some r) = r.term < k

pub record FitMemory (k : ℕ) (m : TermMemory) : Type 0 where
  pub store : FitStore k m.store
  pub frames : FitFrames k m.frames
  pub result : FitReturned k m.result
