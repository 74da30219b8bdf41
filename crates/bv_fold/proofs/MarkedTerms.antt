-- Which terms stand below others.
use Rattle.std.proofs.Common.{◌≡◌, ◌<◌, ◌≤◌, ℕ, zero, suc, ◌+◌, Bool, true, false, List, [], ◌∷◌, ◌++◌, length, take, Some, ◌⊎◌, ⊎_elim, refl, sym, ap, ◌∙◌, subst, arith}
use Rattle.std.specs.Prelude.{slice_get, slice_index_or, slice_set, Contains}
use Rattle.std.proofs.lemmas.Bool.{cases_order, false≢true}
use Rattle.std.proofs.lemmas.Option.{slice_get_within, slice_get-get_or, get_or_from_slice_get}
use Rattle.bv_term.specs.declared.op.Op.{Op}
use Rattle.bv_fold.specs.Folding.{operands}
use Rattle.bv_fold.specs.Steps.{AreBelow}
use Rattle.bv_fold.specs.Gathered.{IsMarked, AreMoreMarks, AreMarked, AreClosedFrom, marked_with}

-- ---- one mark

pub marked_of : (marks : List Bool) (t : ℕ) → t < length marks → slice_index_or marks t false ≡ true → IsMarked marks t
marked_of marks t h e = slice_get-get_or marks t false h ∙ ap Some e

pub not_marked : (marks : List Bool) (t : ℕ) → slice_index_or marks t false ≡ false → ¬ IsMarked marks t
not_marked marks t e is = false≢true (sym e ∙ get_or_from_slice_get marks t true false is)

marked_there : (marks : List Bool) (t : ℕ) → t < length marks → IsMarked (slice_set marks t true) t
marked_there [] t h = absurd (omega arith)
marked_there (m ∷ marks) zero h = refl
marked_there (m ∷ marks) (suc t) h = marked_there marks t (omega arith)

marked_still : (marks : List Bool) (t s : ℕ) → IsMarked marks s → IsMarked (slice_set marks t true) s
marked_still [] t s is = is
marked_still (m ∷ marks) zero zero is = refl
marked_still (m ∷ marks) zero (suc s) is = is
marked_still (m ∷ marks) (suc t) zero is = is
marked_still (m ∷ marks) (suc t) (suc s) is = marked_still marks t s is

set_count : (marks : List Bool) (t : ℕ) → length (slice_set marks t true) ≡ length marks
set_count [] t = refl
set_count (m ∷ marks) zero = refl
set_count (m ∷ marks) (suc t) = ap suc (set_count marks t)

marked_before : (marks : List Bool) (t s : ℕ) → t < s → IsMarked (slice_set marks t true) s → IsMarked marks s
marked_before [] t s h is = is
marked_before (m ∷ marks) t zero h is = absurd (omega (arith, h))
marked_before (m ∷ marks) zero (suc s) h is = is
marked_before (m ∷ marks) (suc t) (suc s) h is = marked_before marks t s (omega (arith, h)) is

-- ---- further marks

pub with_count : (marks : List Bool) (ts : List ℕ) → length (marked_with marks ts) ≡ length marks
with_count marks [] = refl
with_count marks (t ∷ ts) = with_count (slice_set marks t true) ts ∙ set_count marks t

with_kept : (marks : List Bool) (ts : List ℕ) (s : ℕ) → IsMarked marks s → IsMarked (marked_with marks ts) s
with_kept marks [] s is = is
with_kept marks (t ∷ ts) s is = with_kept (slice_set marks t true) ts s (marked_still marks t s is)

pub with_more : (marks : List Bool) (ts : List ℕ) → AreMoreMarks marks (marked_with marks ts)
with_more marks ts = record { count = with_count marks ts; kept = λ s is. with_kept marks ts s is }

with_each : (marks : List Bool) (ts : List ℕ) (s : ℕ) → AreBelow (length marks) ts → Contains ts s → IsMarked (marked_with marks ts) s
with_each marks [] s below has = absurd (omega (arith, has.1))
with_each marks (t ∷ ts) s below (zero, h, e) =
    subst (IsMarked (marked_with (slice_set marks t true) ts)) e (with_kept (slice_set marks t true) ts t (marked_there marks t below.0))
with_each marks (t ∷ ts) s below (suc n, h, e) =
    with_each (slice_set marks t true) ts s (subst (λ k. AreBelow k ts) (sym (set_count marks t)) below.1) (n, omega (arith, h), e)

pub with_marked : (marks : List Bool) (ts : List ℕ) → AreBelow (length marks) ts → AreMarked (marked_with marks ts) ts
with_marked marks ts below = record { each = λ s has. with_each marks ts s below has }

pub with_only : (marks : List Bool) (ts : List ℕ) (k s : ℕ) → AreBelow k ts → k ≤ s → IsMarked (marked_with marks ts) s → IsMarked marks s
with_only marks [] k s below h is = is
with_only marks (t ∷ ts) k s below h is =
    marked_before marks t s (omega (arith, below.0, h)) (with_only (slice_set marks t true) ts k s below.1 h is)

pub no_more : (marks : List Bool) → AreMoreMarks marks marks
no_more marks = record { count = refl; kept = λ t is. is }

pub more_again : (a b c : List Bool) → AreMoreMarks a b → AreMoreMarks b c → AreMoreMarks a c
more_again a b c d e = record { count = e.count ∙ d.count; kept = λ t is. e.kept t (d.kept t is) }

pub still_marked : (a b : List Bool) (ts : List ℕ) → AreMoreMarks a b → AreMarked a ts → AreMarked b ts
still_marked a b ts d are = record { each = λ t has. d.kept t (are.each t has) }

-- ---- closed

pub closed_past : (ops : List Op) (k : ℕ) (marks : List Bool) → length ops ≤ k → AreClosedFrom ops k marks
closed_past ops k marks h = record { each = λ t o above is. absurd (omega (arith, above, h, slice_get_within ops t o is)) }

pub closed_further : (ops : List Op) (k : ℕ) (old new : List Bool) → AreClosedFrom ops (k + 1) old → AreMoreMarks old new
    → ((o : Op) → slice_get ops k ≡ Some o → IsMarked old k → AreMarked new (operands o))
    → ((t : ℕ) → k ≤ t → IsMarked new t → IsMarked old t) → AreClosedFrom ops k new
closed_further ops k old new closed more here only = record {
  each = λ t o above is marked. by_place t o above is (only t above marked) (cases_order k t);
}
  where
    by_place : (t : ℕ) (o : Op) → k ≤ t → slice_get ops t ≡ Some o → IsMarked old t → (k ≡ t) ⊎ (k < t) ⊎ (t < k) → AreMarked new (operands o)
    by_place t o above is marked places =
        ⊎_elim (λ same. here o (subst (λ n. slice_get ops n ≡ Some o) (sym same) is) (subst (IsMarked old) (sym same) marked))
        (λ other. ⊎_elim (λ past. still_marked old new (operands o) more (closed.each t o (omega (arith, past)) is marked))
        (λ before. absurd (omega (arith, above, before))) other) places

-- the operands of a marked term are marked
pub operands_marked : (ops : List Op) (marks : List Bool) (t : ℕ) (o : Op) → AreClosedFrom ops 0 marks → slice_get ops t ≡ Some o → IsMarked marks t → AreMarked marks (operands o)
operands_marked ops marks t o closed is marked = closed.each t o (omega arith) is marked

-- what was marked is all that there is
pub whole : (n : ℕ) (xs ys : List Bool) → length xs ≡ n → take n (xs ++ ys) ≡ xs
whole zero [] ys h = refl
whole zero (x ∷ xs) ys h = absurd (omega (arith, h))
whole (suc n) [] ys h = absurd (omega (arith, h))
whole (suc n) (x ∷ xs) ys h = ap (λ l. x ∷ l) (whole n xs ys (omega (arith, h)))

pub some_same : (a b : Op) → Some a ≡ Some b → a ≡ b
some_same a b e = cc e

pub whole_marked : (n : ℕ) (marks rest : List Bool) (ts : List ℕ) → length marks ≡ n → AreMarked marks ts → AreMarked (take n (marks ++ rest)) ts
whole_marked n marks rest ts count are = subst (λ l. AreMarked l ts) (sym (whole n marks rest count)) are
