-- Terms that are copied into another store.
use Rattle.std.proofs.Common.{◌≡◌, ◌<◌, ℕ, zero, suc, Bool, true, List, [], ◌∷◌, ◌++◌, length, map, Some, refl, sym, ap, ◌∙◌, subst, arith}
use Rattle.std.specs.Prelude.{slice_get, slice_index, Contains}
use Rattle.c_tree.specs.declared.program.Input.{Input}
use Rattle.c_tree.specs.Meaning.Runs.{are_of}
use Rattle.bv_term.specs.declared.op.Op.{Op}
use Rattle.bv_term.specs.Stores.{Terms, AreTerms, FitsOp, input_word, tv, fits_store, declared_ty}
use Rattle.bv_term.proofs.ValueLaws.{tv_of_op}
use Rattle.bv_fold.specs.declared.stand.Stand.TheVariants as stand
use Rattle.bv_fold.specs.Folding.{operands, IsExtended, IsFold}
use Rattle.bv_fold.specs.Steps.{AreBelow, renamed_op}
use Rattle.bv_fold.specs.Standing.{IsPut}
use Rattle.bv_fold.specs.Gathered.{IsMarked, AreMarked, AreCopied, IsSameIn, AreSameIn, IsGathered}
use Rattle.bv_fold.specs.declared.gathering.Gathered.{Gathered}
use Rattle.bv_fold.proofs.Extended.{tv_kept}
use Rattle.bv_fold.proofs.Renamed.{AreSameAt, word_renamed, word_on_words, renamed_fits_on, operands_below}
use Rattle.bv_fold.proofs.NextFolds.{fits_at}
use Rattle.bv_fold.proofs.FoldedTerms.{longer, each_more, below_of}

-- ---- further terms

same_fits : (old new : Terms) (i : Input) → new.inputs ≡ old.inputs → fits_store old i ≡ true → fits_store new i ≡ true
same_fits old new i inputs fits = ap (λ l. are_of (map declared_ty l) i.values) inputs ∙ fits

pub same_further : (old mid new : Terms) (t u : ℕ) → IsExtended mid new → IsSameIn old mid t u → IsSameIn old new t u
same_further old mid new t u e same = record {
  there = omega (arith, same.there, longer mid new e);
  value = λ i fits. tv_kept mid new u i e same.there ∙ same.value i fits;
}

pub all_same_further : (old mid new : Terms) (ts us : List ℕ) → IsExtended mid new → AreSameIn old mid ts us → AreSameIn old new ts us
all_same_further old mid new [] [] e same = tt
all_same_further old mid new [] (u ∷ us) e same = same
all_same_further old mid new (t ∷ ts) [] e same = same
all_same_further old mid new (t ∷ ts) (u ∷ us) e same = (same_further old mid new t u e same.0, all_same_further old mid new ts us e same.1)

pub one_same : (old new : Terms) (ts us : List ℕ) (t u : ℕ) → AreSameIn old new ts us → IsSameIn old new t u → AreSameIn old new (ts ++ t ∷ []) (us ++ u ∷ [])
one_same old new [] [] t u all one = (one, tt)
one_same old new [] (v ∷ us) t u all one = absurd all
one_same old new (s ∷ ts) [] t u all one = absurd all
one_same old new (s ∷ ts) (v ∷ us) t u all one = (all.0, one_same old new ts us t u all.1 one)

-- a fold is such a term
pub fold_same : (first old new : Terms) (t u : ℕ) → IsExtended first old → t < length first.ops → IsFold old new t u → IsSameIn first new t u
fold_same first old new t u e below fold = record {
  there = fold.there;
  value = λ i fits. fold.same i (same_fits first old i e.inputs fits) ∙ tv_kept first old t i e below;
}

pub each_there : (old new : Terms) (ts us : List ℕ) → AreSameIn old new ts us → AreBelow (length new.ops) us
each_there old new [] [] same = tt
each_there old new [] (u ∷ us) same = absurd same
each_there old new (t ∷ ts) [] same = absurd same
each_there old new (t ∷ ts) (u ∷ us) same = (same.0.there, each_there old new ts us same.1)

-- one store after the other
pub same_through : (old mid new : Terms) (ts us vs : List ℕ) → mid.inputs ≡ old.inputs → AreSameIn old mid ts us → AreSameIn mid new us vs → AreSameIn old new ts vs
same_through old mid new [] [] [] inputs a b = tt
same_through old mid new [] [] (v ∷ vs) inputs a b = b
same_through old mid new [] (u ∷ us) vs inputs a b = absurd a
same_through old mid new (t ∷ ts) [] vs inputs a b = absurd a
same_through old mid new (t ∷ ts) (u ∷ us) [] inputs a b = b
same_through old mid new (t ∷ ts) (u ∷ us) (v ∷ vs) inputs a b = (
  record { there = b.0.there; value = λ i fits. b.0.value i (same_fits old mid i inputs fits) ∙ a.0.value i fits },
  same_through old mid new ts us vs inputs a.1 b.1,
)

pub gathered_through : (old mid : Terms) (ts us : List ℕ) (g : Gathered) → mid.inputs ≡ old.inputs → AreSameIn old mid ts us → IsGathered mid us g → IsGathered old ts g
gathered_through old mid ts us g inputs same is = record {
  inputs = is.inputs ∙ inputs;
  same = same_through old mid g.terms ts us g.numbers inputs same is.same;
}

-- ---- one more copy

contained : (P : ℕ → Type 0) (ss : List ℕ) → ((s : ℕ) → Contains ss s → P s) → (s : ℕ) → Contains ss s → P s
contained P ss each s has = each s has

below_each : (j : ℕ) (to : ℕ → ℕ) (ss : List ℕ) → ((s : ℕ) → Contains ss s → to s < j) → AreBelow j (map to ss)
below_each j to [] each = tt
below_each j to (s ∷ ss) each = (each s (zero, omega arith, refl), below_each j to ss (λ x has. each x (suc has.0, omega (arith, has.1), has.2)))

same_each : (f g : ℕ → ℕ) (ss : List ℕ) → ((s : ℕ) → Contains ss s → f s ≡ g s) → AreSameAt f g ss
same_each f g [] each = tt
same_each f g (s ∷ ss) each = (each s (zero, omega arith, refl), same_each f g ss (λ x has. each x (suc has.0, omega (arith, has.1), has.2)))

-- the copies of the operands
operand_copies : (terms apart : Terms) (marks : List Bool) (numbers : List ℕ) (t : ℕ) (o : Op)
    → AreTerms terms → slice_get terms.ops t ≡ Some o → length numbers ≡ t → AreCopied terms apart marks numbers → AreMarked marks (operands o)
    → (s : ℕ) → Contains (operands o) s → IsSameIn terms apart s (slice_index numbers s)
operand_copies terms apart marks numbers t o fit is count copied marked s has =
    copied.each s (omega (arith, count, below_of t (operands o) s (operands_below (length terms.inputs) t o (fits_at terms t o fit is)) has)) (marked.each s has)

pub copy_fits : (terms apart : Terms) (marks : List Bool) (numbers : List ℕ) (t : ℕ) (o : Op)
    → AreTerms terms → slice_get terms.ops t ≡ Some o → length numbers ≡ t → AreCopied terms apart marks numbers → AreMarked marks (operands o)
    → FitsOp (length apart.inputs) (length apart.ops) (renamed_op (slice_index numbers) o)
copy_fits terms apart marks numbers t o fit is count copied marked =
    subst (λ n. FitsOp n (length apart.ops) (renamed_op (slice_index numbers) o)) (sym (ap length copied.inputs))
    (renamed_fits_on (length terms.inputs) t (length apart.ops) (slice_index numbers) o (fits_at terms t o fit is)
    (below_each (length apart.ops) (slice_index numbers) (operands o) (λ s has. (operand_copies terms apart marks numbers t o fit is count copied marked s has).there)))

pub copy_same : (terms apart new : Terms) (marks : List Bool) (numbers : List ℕ) (t u : ℕ) (o : Op)
    → AreTerms terms → slice_get terms.ops t ≡ Some o → length numbers ≡ t → AreCopied terms apart marks numbers → AreMarked marks (operands o)
    → IsExtended apart new → IsPut apart new (stand.Operator (renamed_op (slice_index numbers) o)) u → IsSameIn terms new t u
copy_same terms apart new marks numbers t u o fit is count copied marked e put = record {
  there = put.there;
  value = λ i fits.
      let input : ℕ → ℕ = input_word i.values in
      let to : ℕ → ℕ = slice_index numbers in
      put.value i (same_fits terms new i (e.inputs ∙ copied.inputs) fits)
      ∙ word_renamed input (λ x. tv apart x i) to o
      ∙ word_on_words input (λ s. tv apart (to s) i) (λ s. tv terms s i) o
      (same_each (λ s. tv apart (to s) i) (λ s. tv terms s i) (operands o) (λ s has. (operand_copies terms apart marks numbers t o fit is count copied marked s has).value i fits))
      ∙ sym (tv_of_op terms i t o fit is);
}

pub copied_more : (terms apart new : Terms) (marks : List Bool) (numbers all : List ℕ) (u : ℕ) → IsExtended apart new → AreCopied terms apart marks numbers
    → (IsMarked marks (length numbers) → IsSameIn terms new (length numbers) u) → all ≡ numbers ++ u ∷ [] → AreCopied terms new marks all
copied_more terms apart new marks numbers all u e copied one is = subst (AreCopied terms new marks) (sym is) (record {
  inputs = e.inputs ∙ copied.inputs;
  each = each_more (λ t n. IsMarked marks t → IsSameIn terms new t n) numbers u
      (λ t h marked. same_further terms apart new t (slice_index numbers t) e (copied.each t h marked)) one;
})

pub none_copied : (terms apart : Terms) (marks : List Bool) → apart.inputs ≡ terms.inputs → AreCopied terms apart marks []
none_copied terms apart marks inputs = record { inputs = inputs; each = λ t h. absurd (omega (arith, h)) }

-- the copies of the wanted terms
pub copies_same : (terms apart : Terms) (marks : List Bool) (numbers ts : List ℕ) → AreCopied terms apart marks numbers → AreBelow (length numbers) ts → AreMarked marks ts
    → AreSameIn terms apart ts (map (slice_index numbers) ts)
copies_same terms apart marks numbers [] copied below marked = tt
copies_same terms apart marks numbers (t ∷ ts) copied below marked = (
  copied.each t below.0 (marked.each t (zero, omega arith, refl)),
  copies_same terms apart marks numbers ts copied below.1 (record { each = λ s has. marked.each s (suc has.0, omega (arith, has.1), has.2) }),
)
