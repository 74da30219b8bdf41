-- A weight for each edge, times the counts of a vector: the rows, weighted and added, edge by edge.
use Rattle.std.proofs.Common.{◌≡◌, ◌≢◌, ℕ, zero, suc, ◌+◌, ◌<◌, Bool, true, false, cond, eqb, List, [], ◌∷◌, ◌++◌, length, get_or, map, ℤ, pos, ◌+ℤ◌, ◌*ℤ◌, arith, ap, sym, refl, ◌∙◌, All}
use Rattle.std.specs.List.{filter}
use Rattle.std.proofs.lemmas.Bool.{eq-eqb, ne_eqb}
use Rattle.std.proofs.lemmas.Int.{ints}
use Rattle.std.proofs.lemmas.List.Elements.{All-head, All-tail}
use lib.IntN.{+ℤ_idl, +ℤ_idr, +ℤ_assoc, zero-*ℤ, *ℤ-zero}
use Rattle.lin_rows.specs.Names.{NamesBelow}
use Rattle.lin_rows.specs.Meeting.{left_side}
use Rattle.lin_rows.specs.Steps.{total}
use Rattle.lin_rows.specs.declared.row.Row.{Row}
use Rattle.bound_cert.specs.Dual.{weighted_terms, weighted_factors}
use Rattle.bound_cert.proofs.Products.{plus-times, times-plus, times-times}

-- the sum of weight times count, from an edge on
abbrev pub columns : (ℕ → ℤ) → ℕ → List ℕ → ℤ
columns w e [] = pos 0
columns w e (n ∷ ns) = w e *ℤ pos n +ℤ columns w (e + 1) ns

pub total-append : (ys zs : List ℤ) → total (ys ++ zs) ≡ total ys +ℤ total zs
total-append [] zs = sym (+ℤ_idl (total zs))
total-append (y ∷ ys) zs = ap (λ s. y +ℤ s) (total-append ys zs) ∙ sym (+ℤ_assoc y (total ys) (total zs))

four : (a b c d : ℤ) → (a +ℤ b) +ℤ (c +ℤ d) ≡ (a +ℤ c) +ℤ (b +ℤ d)
four a b c d = omega (arith, ints)

columns-zero : (e : ℕ) (x : List ℕ) → columns (λ k. pos 0) e x ≡ pos 0
columns-zero e [] = refl
columns-zero e (n ∷ ns) = ap (λ z. z +ℤ columns (λ k. pos 0) (e + 1) ns) (zero-*ℤ (pos n)) ∙ +ℤ_idl (columns (λ k. pos 0) (e + 1) ns) ∙ columns-zero (e + 1) ns

columns-plus : (u v : ℕ → ℤ) (e : ℕ) (x : List ℕ) → columns (λ k. u k +ℤ v k) e x ≡ columns u e x +ℤ columns v e x
columns-plus u v e [] = refl
columns-plus u v e (n ∷ ns) =
    ap (λ z. z +ℤ columns (λ k. u k +ℤ v k) (e + 1) ns) (plus-times (u e) (v e) (pos n))
    ∙ ap (λ z. (u e *ℤ pos n +ℤ v e *ℤ pos n) +ℤ z) (columns-plus u v (e + 1) ns)
    ∙ four (u e *ℤ pos n) (v e *ℤ pos n) (columns u (e + 1) ns) (columns v (e + 1) ns)

columns-same : (u v : ℕ → ℤ) → ((k : ℕ) → u k ≡ v k) → (e : ℕ) (x : List ℕ) → columns u e x ≡ columns v e x
columns-same u v same e [] = refl
columns-same u v same e (n ∷ ns) =
    ap (λ z. z *ℤ pos n +ℤ columns u (e + 1) ns) (same e) ∙ ap (λ z. v e *ℤ pos n +ℤ z) (columns-same u v same (e + 1) ns)

-- a weight of one edge alone
abbrev only : ℕ → ℤ → ℕ → ℤ
only edge z k = cond (eqb edge k) z (pos 0)

only-other : (edge : ℕ) (z : ℤ) (k : ℕ) → edge ≢ k → only edge z k ≡ pos 0
only-other edge z k apart = ap (λ b. cond b z (pos 0)) (ne_eqb edge k apart)

columns-only_past : (edge : ℕ) (z : ℤ) (e : ℕ) (x : List ℕ) → edge < e → columns (only edge z) e x ≡ pos 0
columns-only_past edge z e [] h = refl
columns-only_past edge z e (n ∷ ns) h =
    ap (λ w. w *ℤ pos n +ℤ columns (only edge z) (e + 1) ns) (only-other edge z e (λ same. omega (arith, h, same)))
    ∙ ap (λ w. w +ℤ columns (only edge z) (e + 1) ns) (zero-*ℤ (pos n))
    ∙ +ℤ_idl (columns (only edge z) (e + 1) ns)
    ∙ columns-only_past edge z (e + 1) ns (omega arith)

columns-only : (edge : ℕ) (z : ℤ) (j e : ℕ) (x : List ℕ) → edge ≡ e + j → j < length x → columns (only edge z) e x ≡ z *ℤ pos (get_or x j 0)
columns-only edge z j e [] at h = absurd (omega (arith, h))
columns-only edge z zero e (n ∷ ns) at h =
    ap (λ w. w *ℤ pos n +ℤ columns (only edge z) (e + 1) ns) (ap (λ b. cond b z (pos 0)) (eq-eqb edge e (omega arith)))
    ∙ ap (λ w. z *ℤ pos n +ℤ w) (columns-only_past edge z (e + 1) ns (omega arith))
    ∙ +ℤ_idr (z *ℤ pos n)
columns-only edge z (suc j) e (n ∷ ns) at h =
    ap (λ w. w *ℤ pos n +ℤ columns (only edge z) (e + 1) ns) (only-other edge z e (λ same. omega (arith, at, same)))
    ∙ ap (λ w. w +ℤ columns (only edge z) (e + 1) ns) (zero-*ℤ (pos n))
    ∙ +ℤ_idl (columns (only edge z) (e + 1) ns)
    ∙ columns-only edge z j (e + 1) ns (omega arith) (omega arith)

-- ---- one row

total-kept : {X : Type 0} (f : X → ℤ) (b : Bool) (t : X) (ts : List X) → total (map f (cond b (t ∷ ts) ts)) ≡ cond b (f t) (pos 0) +ℤ total (map f ts)
total-kept f true t ts = refl
total-kept f false t ts = sym (+ℤ_idl (total (map f ts)))

-- the weighted terms of a row, edge by edge, come to its multiplier times its left side
pub columns-weighted_terms : (y : ℤ) (terms : List (ℕ × ℤ)) (x : List ℕ) → NamesBelow (length x) terms → columns (λ k. total (weighted_terms y terms k)) 0 x ≡ y *ℤ left_side terms x
columns-weighted_terms y [] x below = columns-zero 0 x ∙ sym (*ℤ-zero y)
columns-weighted_terms y (t ∷ ts) x below =
    let Below : (ℕ × ℤ) → Type 0 = λ term. term.0 < length x in
    let first = All-head Below t ts below in
    let rest = All-tail Below t ts below in
    columns-same (λ k. total (weighted_terms y (t ∷ ts) k)) (λ k. only t.0 (y *ℤ t.1) k +ℤ total (weighted_terms y ts k)) (λ k. total-kept (λ (term : ℕ × ℤ). y *ℤ term.1) (eqb t.0 k) t (filter (λ (term : ℕ × ℤ). eqb term.0 k) ts)) 0 x
    ∙ columns-plus (only t.0 (y *ℤ t.1)) (λ k. total (weighted_terms y ts k)) 0 x
    ∙ ap (λ z. z +ℤ columns (λ k. total (weighted_terms y ts k)) 0 x) (columns-only t.0 (y *ℤ t.1) t.0 0 x (omega arith) first ∙ times-times y t.1 (pos (get_or x t.0 0)))
    ∙ ap (λ z. y *ℤ (t.1 *ℤ pos (get_or x t.0 0)) +ℤ z) (columns-weighted_terms y ts x rest)
    ∙ sym (times-plus y (t.1 *ℤ pos (get_or x t.0 0)) (left_side ts x))

-- ---- all rows

-- multiplier times left side, row by row
abbrev pub weighted_lefts : List ℕ → List Row → List ℤ → List ℤ
weighted_lefts x (row ∷ rows) (y ∷ ys) = (y *ℤ left_side row.terms x) ∷ weighted_lefts x rows ys
weighted_lefts x [] ys = []
weighted_lefts x (row ∷ rows) [] = []

pub columns-weighted_factors : (rows : List Row) (ys : List ℤ) (x : List ℕ) → All (λ (row : Row). NamesBelow (length x) row.terms) rows → columns (λ k. total (weighted_factors rows ys k)) 0 x ≡ total (weighted_lefts x rows ys)
columns-weighted_factors [] ys x below = columns-zero 0 x
columns-weighted_factors (row ∷ rows) [] x below = columns-zero 0 x
columns-weighted_factors (row ∷ rows) (y ∷ ys) x below =
    let Below : Row → Type 0 = λ row. NamesBelow (length x) row.terms in
    let first = All-head Below row rows below in
    let rest = All-tail Below row rows below in
    columns-same (λ k. total (weighted_factors (row ∷ rows) (y ∷ ys) k)) (λ k. total (weighted_terms y row.terms k) +ℤ total (weighted_factors rows ys k)) (λ k. total-append (weighted_terms y row.terms k) (weighted_factors rows ys k)) 0 x
    ∙ columns-plus (λ k. total (weighted_terms y row.terms k)) (λ k. total (weighted_factors rows ys k)) 0 x
    ∙ ap (λ z. z +ℤ columns (λ k. total (weighted_factors rows ys k)) 0 x) (columns-weighted_terms y row.terms x first)
    ∙ ap (λ z. y *ℤ left_side row.terms x +ℤ z) (columns-weighted_factors rows ys x rest)
