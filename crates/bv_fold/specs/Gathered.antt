-- Terms in a store of their own, which has nothing but what stands below them.
use Rattle.std.specs.Prelude.{
  ◌≡◌,
  ◌<◌,
  ◌≤◌,
  ℕ,
  Bool,
  true,
  List,
  [],
  ◌∷◌,
  length,
  Contains,
  slice_get,
  slice_index,
  slice_set,
  Some,
}
use Rattle.c_tree.specs.declared.program.Input.{Input}
use Rattle.bv_term.specs.declared.op.Op.{Op}
use Rattle.bv_term.specs.Stores.{Terms, tv, fits_store}
use Rattle.bv_fold.specs.Folding.{operands}
use Rattle.bv_fold.specs.declared.gathering.Gathered.{Gathered}

-- a term of one store and a term of another have the same word at every input that fits the first
pub record IsSameIn (old new : Terms) (term other : ℕ) : Type 0 where
  pub there : other < length new.ops
  pub value : (i : Input) → fits_store old i ≡ true → tv new other i ≡ tv old term i

-- each term of one list has its fellow in the other list
abbrev pub AreSameIn : Terms → Terms → List ℕ → List ℕ → Type 0
AreSameIn old new [] [] = Unit {0}
AreSameIn old new [] (u ∷ us) = ⊥
AreSameIn old new (t ∷ ts) [] = ⊥
AreSameIn old new (t ∷ ts) (u ∷ us) = IsSameIn old new t u × AreSameIn old new ts us

-- a store over the same inputs, with terms of the same words
pub record IsGathered (old : Terms) (wanted : List ℕ) (g : Gathered) : Type 0 where
  pub inputs : g.terms.inputs ≡ old.inputs
  pub same : AreSameIn old g.terms wanted g.numbers

-- ---- which terms stand below others

abbrev pub IsMarked : List Bool → ℕ → Type 0
IsMarked marks t = slice_get marks t ≡ Some true

-- these terms are marked too
abbrev pub marked_with : List Bool → List ℕ → List Bool
marked_with marks [] = marks
marked_with marks (t ∷ ts) = marked_with (slice_set marks t true) ts

-- as many marks, and those that were are kept
pub record AreMoreMarks (old new : List Bool) : Type 0 where
  pub count : length new ≡ length old
  pub kept : (t : ℕ) → IsMarked old t → IsMarked new t

pub record AreMarked (marks : List Bool) (ts : List ℕ) : Type 0 where
  pub each : (t : ℕ) → Contains ts t → IsMarked marks t

-- from the term k on, the operands of each marked term are marked
pub record AreClosedFrom (ops : List Op) (k : ℕ) (marks : List Bool) : Type 0 where
  pub each : (t : ℕ) (o : Op) → k ≤ t → slice_get ops t ≡ Some o → IsMarked marks t → AreMarked marks (operands o)

-- the marked ones of the first terms stand in the other store
pub record AreCopied (old new : Terms) (marks : List Bool) (numbers : List ℕ) : Type 0 where
  pub inputs : new.inputs ≡ old.inputs
  pub each : (t : ℕ) → t < length numbers → IsMarked marks t → IsSameIn old new t (slice_index numbers t)
