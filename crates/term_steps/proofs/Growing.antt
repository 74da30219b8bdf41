-- Terms that are there stay there as a store of terms grows.
use Rattle.std.proofs.Common.{◌≡◌, ◌+◌, ◌<◌, ◌≤◌, ℕ, zero, suc, List, [], ◌∷◌, ◌++◌, Option, length, drop, get_or, sym, ap, subst, ◌∙◌, arith, add-one, drop-cons}
use Rattle.cond_laws.specs.declared.value.Judged.{Judged}
use Rattle.cond_laws.specs.declared.store.TermStore.{TermStore}
use Rattle.cond_laws.specs.Conditions.{AllBelow}
use Rattle.c_tree.specs.declared.tree.Var.{Var}
use Rattle.cond_laws.specs.declared.store.TermSlot.{TermSlot}
use Rattle.cond_laws.specs.TermStores.{held_at}
use Rattle.cond_laws.specs.Fits.{FitJudged, FitHeld, FitStore}
use Rattle.cond_laws.proofs.Fitting.OperandFits.{below_more, below_append, judged_more}
use Rattle.cond_laws.proofs.Fitting.ExpressionFits.{store_more, held_fits}

pub judged_stays : {k n : ℕ} {j : Judged} → FitJudged k j → k ≤ n → FitJudged n j
judged_stays {k} {n} {j} h l = judged_more k n j l h

pub store_stays : {k n : ℕ} {s : TermStore} → FitStore k s → k ≤ n → FitStore n s
store_stays {k} {n} {s} h l = store_more k n s l h

pub below_stays : {k n : ℕ} (ns : List ℕ) → AllBelow k ns → k ≤ n → AllBelow n ns
below_stays {k} {n} ns h l = below_more k n ns l h

-- one number of a list
pub below_at : (k : ℕ) (ns : List ℕ) (i : ℕ) → AllBelow k ns → i < length ns → get_or ns i 0 < k
below_at k [] i h l = absurd (omega arith)
below_at k (n ∷ ns) zero h l = h.0
below_at k (n ∷ ns) (suc i) h l = below_at k ns i h.1 (omega arith)

-- one more number at the end
pub below_pushed : {k n m : ℕ} (ns ms : List ℕ) → AllBelow k ns → k ≤ n → m < n → ms ≡ ns ++ m ∷ [] → AllBelow n ms
below_pushed {k} {n} {m} ns ms h l f e = subst (λ (ms : List ℕ). AllBelow n ms) (sym e) (below_append n ns (m ∷ []) (below_more k n ns l h) (f, tt))

-- more numbers at the end
pub below_grown : {k n : ℕ} (ns ms all : List ℕ) → AllBelow k ns → k ≤ n → AllBelow n ms → all ≡ ns ++ ms → AllBelow n all
below_grown {k} {n} ns ms all h l f e = subst (λ (ns : List ℕ). AllBelow n ns) (sym e) (below_append n ns ms (below_more k n ns l h) f)

-- ---- what is read

pub below_read : {k n : ℕ} (xs ys : List ℕ) → ys ≡ xs → AllBelow k xs → k ≤ n → AllBelow n ys
below_read {k} {n} xs ys e h l = subst (λ (ns : List ℕ). AllBelow n ns) (sym e) (below_more k n xs l h)

pub held_read : {k n : ℕ} {s : TermStore} {o : Option TermSlot} (x : Var) → o ≡ held_at s x → FitStore k s → k ≤ n → FitHeld n o
held_read {n = n} {s = s} x e h l = subst (λ (o : Option TermSlot). FitHeld n o) (sym e) (held_fits n s x (store_stays h l))

-- ---- loops over lists
