-- The terms of a list of edges fit: each operator names terms before it.
use Rattle.std.proofs.Common.{ℕ, ◌<◌, ◌≤◌, List, [], ◌∷◌, ◌++◌, arith}
use Rattle.c_tree.specs.declared.tree.Ty.{Ty}
use Rattle.c_tree.specs.declared.tree.Ty.TheVariants as ty
use Rattle.c_tree.specs.Meaning.Values.{common}
use Rattle.bv_term.specs.declared.op.Op.{Op}
use Rattle.bv_term.specs.declared.op.Op.TheVariants as op
use Rattle.bv_term.specs.Scripts.{Done, ◌>>=◌}
pub use Rattle.cond_laws.specs.Fits.{FitJudged}
use Rattle.cond_laws.specs.Judged.{Judged, judged_term}
use Rattle.cond_laws.specs.TermOperators as spec
use Rattle.c_tree.specs.declared.tree.BinOp.{BinOp}
use Rattle.c_tree.specs.declared.tree.BinOp.TheVariants as bin
use Rattle.c_tree.specs.declared.tree.UnOp.{UnOp}
use Rattle.c_tree.specs.declared.tree.UnOp.TheVariants as un
use Rattle.bv_term.specs.Stores.{FitsOp}
use Rattle.bv_term.specs.Scripts.{Fitting}
use Rattle.bv_term.proofs.FitLaws.{fitting_then}
use Rattle.cond_laws.specs.Judged.{also, never}
use Rattle.cond_laws.specs.Conditions.{AllBelow}

-- ---- numbers of terms that are there

pub below_more : (k n : ℕ) (ns : List ℕ) → k ≤ n → AllBelow k ns → AllBelow n ns
below_more k n [] l h = tt
below_more k n (m ∷ ns) l h = (omega (arith, h.0), below_more k n ns l h.1)

pub below_append : (k : ℕ) (ms ns : List ℕ) → AllBelow k ms → AllBelow k ns → AllBelow k (ms ++ ns)
below_append k [] ns h g = g
below_append k (m ∷ ms) ns h g = (h.0, below_append k ms ns h.1 g)

pub judged_more : (k n : ℕ) (j : Judged) → k ≤ n → FitJudged k j → FitJudged n j
judged_more k n j l h = record { term = omega (arith, h.term); conditions = below_more k n j.conditions l h.conditions }

pub never_fits : (i k : ℕ) (t : Ty) → Fitting i k (never t) FitJudged
never_fits i k t = (omega arith, λ z n hz l. record { term = hz; conditions = (hz, tt) })

-- ---- operators

sum_fits : (i k : ℕ) (t : Ty) (a b : ℕ) → a < k → b < k → Fitting i k (spec.sum_term t a b) FitJudged
sum_fits i k ty.Int a b ha hb = ((omega arith, omega arith), λ r k1 hr l1. (omega arith, λ z k2 hz l2. ((omega arith, omega arith), λ n k3 hn l3. ((omega arith, omega arith), λ l k4 hl l4. ((omega arith, omega arith), λ c k5 hc l5. record { term = omega arith; conditions = (omega arith, tt) })))))
sum_fits i k ty.Unsigned a b ha hb = ((omega arith, omega arith), λ r k1 hr l1. record { term = omega arith; conditions = tt })

difference_fits : (i k : ℕ) (t : Ty) (a b : ℕ) → a < k → b < k → Fitting i k (spec.difference_term t a b) FitJudged
difference_fits i k ty.Int a b ha hb = ((omega arith, omega arith), λ r k1 hr l1. (omega arith, λ z k2 hz l2. ((omega arith, omega arith), λ n k3 hn l3. ((omega arith, omega arith), λ l k4 hl l4. ((omega arith, omega arith), λ c k5 hc l5. record { term = omega arith; conditions = (omega arith, tt) })))))
difference_fits i k ty.Unsigned a b ha hb = ((omega arith, omega arith), λ r k1 hr l1. record { term = omega arith; conditions = tt })

product_fits : (i k : ℕ) (t : Ty) (a b : ℕ) → a < k → b < k → Fitting i k (spec.product_term t a b) FitJudged
product_fits i k ty.Int a b ha hb = ((omega arith, omega arith), λ r k1 hr l1. (omega arith, λ z k2 hz l2. ((omega arith, omega arith), λ na k3 hna l3. ((omega arith, omega arith), λ nb k4 hnb l4. (omega arith, λ ma k5 hma l5. ((omega arith, omega arith, omega arith), λ xa k6 hxa l6. (omega arith, λ mb k7 hmb l7. ((omega arith, omega arith, omega arith), λ xb k8 hxb l8. ((omega arith, omega arith), λ d k9 hd l9. (omega arith, λ g k10 hg l10. ((omega arith, omega arith), λ most k11 hmost l11. ((omega arith, omega arith), λ q k12 hq l12. ((omega arith, omega arith), λ l k13 hl l13. ((omega arith, omega arith), λ f k14 hf l14. ((omega arith, omega arith), λ o k15 ho l15. ((omega arith, omega arith), λ c k16 hc l16. record { term = omega arith; conditions = (omega arith, tt) }))))))))))))))))
product_fits i k ty.Unsigned a b ha hb = ((omega arith, omega arith), λ r k1 hr l1. record { term = omega arith; conditions = tt })

div_fits : (i k : ℕ) (t : Ty) (a b : ℕ) → a < k → b < k → Fitting i k (spec.division_term op.DivS op.DivU t a b) FitJudged
div_fits i k ty.Int a b ha hb = ((omega arith, omega arith), λ r k1 hr l1. (omega arith, λ m k2 hm l2. ((omega arith, omega arith), λ x k3 hx l3. (omega arith, λ n k4 hn l4. ((omega arith, omega arith), λ c k5 hc l5. record { term = omega arith; conditions = (omega arith, (omega arith, tt)) })))))
div_fits i k ty.Unsigned a b ha hb = ((omega arith, omega arith), λ r k1 hr l1. record { term = omega arith; conditions = (omega arith, tt) })

rem_fits : (i k : ℕ) (t : Ty) (a b : ℕ) → a < k → b < k → Fitting i k (spec.division_term op.RemS op.RemU t a b) FitJudged
rem_fits i k ty.Int a b ha hb = ((omega arith, omega arith), λ r k1 hr l1. (omega arith, λ m k2 hm l2. ((omega arith, omega arith), λ x k3 hx l3. (omega arith, λ n k4 hn l4. ((omega arith, omega arith), λ c k5 hc l5. record { term = omega arith; conditions = (omega arith, (omega arith, tt)) })))))
rem_fits i k ty.Unsigned a b ha hb = ((omega arith, omega arith), λ r k1 hr l1. record { term = omega arith; conditions = (omega arith, tt) })

left_fits : (i k : ℕ) (t : Ty) (a b : ℕ) → a < k → b < k → Fitting i k (spec.left_shift_term t a b) FitJudged
left_fits i k ty.Int a b ha hb = ((omega arith, omega arith), λ r k1 hr l1. (omega arith, λ w k2 hw l2. ((omega arith, omega arith), λ c k3 hc l3. (omega arith, λ m k4 hm l4. ((omega arith, omega arith), λ s k5 hs l5. ((omega arith, omega arith), λ d k6 hd l6. record { term = omega arith; conditions = (omega arith, (omega arith, tt)) }))))))
left_fits i k ty.Unsigned a b ha hb = ((omega arith, omega arith), λ r k1 hr l1. (omega arith, λ w k2 hw l2. ((omega arith, omega arith), λ c k3 hc l3. record { term = omega arith; conditions = (omega arith, tt) })))

right_fits : (i k : ℕ) (t : Ty) (a b : ℕ) → a < k → b < k → Fitting i k (spec.right_shift_term t a b) FitJudged
right_fits i k ty.Int a b ha hb = ((omega arith, omega arith), λ r k1 hr l1. (omega arith, λ w k2 hw l2. ((omega arith, omega arith), λ c k3 hc l3. record { term = omega arith; conditions = (omega arith, tt) })))
right_fits i k ty.Unsigned a b ha hb = ((omega arith, omega arith), λ r k1 hr l1. (omega arith, λ w k2 hw l2. ((omega arith, omega arith), λ c k3 hc l3. record { term = omega arith; conditions = (omega arith, tt) })))

truth_fits : (i k : ℕ) (o : Op) → FitsOp i k o → Fitting i k (spec.truth_term o) FitJudged
truth_fits i k o h = (h, λ r n hr l. record { term = hr; conditions = tt })

one_op_fits : (i k : ℕ) (t : Ty) (o : Op) → FitsOp i k o → Fitting i k (spec.one_op t o) FitJudged
one_op_fits i k t o h = (h, λ r n hr l. record { term = hr; conditions = tt })

negated_fits : (i k : ℕ) (o : Op) → FitsOp i k o → Fitting i k (spec.negation_term o) FitJudged
negated_fits i k o h = (h, λ x k1 hx l1. (omega arith, λ z k2 hz l2. ((omega arith, omega arith), λ r k3 hr l3. record { term = omega arith; conditions = tt })))

less_fits : (i k : ℕ) (t : Ty) (a b : ℕ) → a < k → b < k → FitsOp i k (spec.less_op t a b)
less_fits i k ty.Int a b ha hb = (ha, hb)
less_fits i k ty.Unsigned a b ha hb = (ha, hb)

binary_fits : (i k : ℕ) (o : BinOp) (t : Ty) (a : ℕ) (u : Ty) (b : ℕ) → a < k → b < k → Fitting i k (spec.binary_term o t a u b) FitJudged
binary_fits i k bin.Mul t a u b ha hb = product_fits i k (common t u) a b ha hb
binary_fits i k bin.Div t a u b ha hb = div_fits i k (common t u) a b ha hb
binary_fits i k bin.Rem t a u b ha hb = rem_fits i k (common t u) a b ha hb
binary_fits i k bin.Add t a u b ha hb = sum_fits i k (common t u) a b ha hb
binary_fits i k bin.Sub t a u b ha hb = difference_fits i k (common t u) a b ha hb
binary_fits i k bin.Shl t a u b ha hb = left_fits i k t a b ha hb
binary_fits i k bin.Shr t a u b ha hb = right_fits i k t a b ha hb
binary_fits i k bin.Lt t a u b ha hb = truth_fits i k (spec.less_op (common t u) a b) (less_fits i k (common t u) a b ha hb)
binary_fits i k bin.Gt t a u b ha hb = truth_fits i k (spec.less_op (common t u) b a) (less_fits i k (common t u) b a hb ha)
binary_fits i k bin.Le t a u b ha hb = negated_fits i k (spec.less_op (common t u) b a) (less_fits i k (common t u) b a hb ha)
binary_fits i k bin.Ge t a u b ha hb = negated_fits i k (spec.less_op (common t u) a b) (less_fits i k (common t u) a b ha hb)
binary_fits i k bin.Eq t a u b ha hb = truth_fits i k (op.Eq a b) (ha, hb)
binary_fits i k bin.Ne t a u b ha hb = negated_fits i k (op.Eq a b) (ha, hb)
binary_fits i k bin.And t a u b ha hb = one_op_fits i k (common t u) (op.And a b) (ha, hb)
binary_fits i k bin.Xor t a u b ha hb = one_op_fits i k (common t u) (op.Xor a b) (ha, hb)
binary_fits i k bin.Or t a u b ha hb = one_op_fits i k (common t u) (op.Or a b) (ha, hb)
binary_fits i k bin.Both t a u b ha hb = never_fits i k ty.Int
binary_fits i k bin.Either t a u b ha hb = never_fits i k ty.Int

unary_fits : (i k : ℕ) (o : UnOp) (t : Ty) (a : ℕ) → a < k → Fitting i k (spec.unary_term o t a) FitJudged
unary_fits i k un.Plus t a ha = record { term = ha; conditions = tt }
unary_fits i k un.Minus ty.Int a ha = (omega arith, λ r k1 hr l1. (omega arith, λ m k2 hm l2. ((omega arith, omega arith), λ c k3 hc l3. record { term = omega arith; conditions = (omega arith, tt) })))
unary_fits i k un.Minus ty.Unsigned a ha = (omega arith, λ r k1 hr l1. record { term = omega arith; conditions = tt })
unary_fits i k un.Flip t a ha = one_op_fits i k t (op.Not a) ha
unary_fits i k un.Not t a ha = (omega arith, λ z k1 hz l1. ((omega arith, omega arith), λ r k2 hr l2. record { term = omega arith; conditions = tt }))

-- ---- operands that are not always evaluated

where_true_fits : (i k : ℕ) (d : ℕ) (xs : List ℕ) → d < k → AllBelow k xs → Fitting i k (spec.conditions_where_true d xs) AllBelow
where_true_fits i k d [] hd h = tt
where_true_fits i k d (x ∷ xs) hd h = (omega arith, λ o k1 ho l1. ((omega arith, omega (arith, h.0), omega arith), λ y k2 hy l2. fitting_then AllBelow AllBelow i k2 (spec.conditions_where_true d xs) (λ ys. Done (y ∷ ys)) (where_true_fits i k2 d xs (omega arith) (below_more k k2 xs (omega arith) h.1)) (λ n ys l hys. (omega arith, hys))))

where_false_fits : (i k : ℕ) (d : ℕ) (xs : List ℕ) → d < k → AllBelow k xs → Fitting i k (spec.conditions_where_false d xs) AllBelow
where_false_fits i k d [] hd h = tt
where_false_fits i k d (x ∷ xs) hd h = (omega arith, λ o k1 ho l1. ((omega arith, omega arith, omega (arith, h.0)), λ y k2 hy l2. fitting_then AllBelow AllBelow i k2 (spec.conditions_where_false d xs) (λ ys. Done (y ∷ ys)) (where_false_fits i k2 d xs (omega arith) (below_more k k2 xs (omega arith) h.1)) (λ n ys l hys. (omega arith, hys))))

both_fits : (i k : ℕ) (p q : Judged) → FitJudged k p → FitJudged k q → Fitting i k (spec.both_term p q) FitJudged
both_fits i k p q hp hq = (omega arith, λ o k1 ho l1. (omega arith, λ z k2 hz l2. ((omega (arith, hq.term), omega arith, omega arith), λ x k3 hx l3. ((omega (arith, hp.term), omega arith, omega arith), λ r k4 hr l4. fitting_then AllBelow FitJudged i k4 (spec.conditions_where_true p.term q.conditions) (λ cs. Done (judged_term ty.Int r (p.conditions ++ cs))) (where_true_fits i k4 p.term q.conditions (omega (arith, hp.term)) (below_more k k4 q.conditions (omega arith) hq.conditions)) (λ n cs l hcs. record { term = omega arith; conditions = below_append n p.conditions cs (below_more k n p.conditions (omega arith) hp.conditions) hcs })))))

either_fits : (i k : ℕ) (p q : Judged) → FitJudged k p → FitJudged k q → Fitting i k (spec.either_term p q) FitJudged
either_fits i k p q hp hq = (omega arith, λ o k1 ho l1. (omega arith, λ z k2 hz l2. ((omega (arith, hq.term), omega arith, omega arith), λ x k3 hx l3. ((omega (arith, hp.term), omega arith, omega arith), λ r k4 hr l4. fitting_then AllBelow FitJudged i k4 (spec.conditions_where_false p.term q.conditions) (λ cs. Done (judged_term ty.Int r (p.conditions ++ cs))) (where_false_fits i k4 p.term q.conditions (omega (arith, hp.term)) (below_more k k4 q.conditions (omega arith) hq.conditions)) (λ n cs l hcs. record { term = omega arith; conditions = below_append n p.conditions cs (below_more k n p.conditions (omega arith) hp.conditions) hcs })))))

pub chosen_fits : (i k : ℕ) (c p q : Judged) → FitJudged k c → FitJudged k p → FitJudged k q → Fitting i k (spec.choice_term c p q) FitJudged
chosen_fits i k c p q hc hp hq = ((hc.term, hp.term, hq.term), λ r k1 hr l1. fitting_then AllBelow FitJudged i k1 (spec.conditions_where_true c.term p.conditions) (λ xs. spec.conditions_where_false c.term q.conditions >>= (λ ys. Done (judged_term (common p.ty q.ty) r (c.conditions ++ (xs ++ ys))))) (where_true_fits i k1 c.term p.conditions (omega (arith, hc.term)) (below_more k k1 p.conditions (omega arith) hp.conditions)) (λ k2 xs l2 hxs. fitting_then AllBelow FitJudged i k2 (spec.conditions_where_false c.term q.conditions) (λ ys. Done (judged_term (common p.ty q.ty) r (c.conditions ++ (xs ++ ys)))) (where_false_fits i k2 c.term q.conditions (omega (arith, hc.term)) (below_more k k2 q.conditions (omega arith) hq.conditions)) (λ n ys l hys. record { term = omega arith; conditions = below_append n c.conditions (xs ++ ys) (below_more k n c.conditions (omega arith) hc.conditions) (below_append n xs ys (below_more k2 n xs (omega arith) hxs) hys) })))

two_fit : (i k : ℕ) (o : BinOp) (p q : Judged) → FitJudged k p → FitJudged k q → Fitting i k (spec.with_operands p q (spec.binary_term o p.ty p.term q.ty q.term)) FitJudged
two_fit i k o p q hp hq = fitting_then FitJudged FitJudged i k (spec.binary_term o p.ty p.term q.ty q.term) (λ j. Done (also (p.conditions ++ q.conditions) j)) (binary_fits i k o p.ty p.term q.ty q.term hp.term hq.term) (λ n j l hj. record { term = hj.term; conditions = below_append n (p.conditions ++ q.conditions) j.conditions (below_append n p.conditions q.conditions (below_more k n p.conditions l hp.conditions) (below_more k n q.conditions l hq.conditions)) hj.conditions })

pub unary_with_fits : (i k : ℕ) (o : UnOp) (p : Judged) → FitJudged k p → Fitting i k (spec.with_unary o p) FitJudged
unary_with_fits i k o p hp = fitting_then FitJudged FitJudged i k (spec.unary_term o p.ty p.term) (λ j. Done (also p.conditions j)) (unary_fits i k o p.ty p.term hp.term) (λ n j l hj. record { term = hj.term; conditions = below_append n p.conditions j.conditions (below_more k n p.conditions l hp.conditions) hj.conditions })

pub operated_fits : (i k : ℕ) (o : BinOp) (p q : Judged) → FitJudged k p → FitJudged k q → Fitting i k (spec.operation_term o p q) FitJudged
operated_fits i k bin.Both p q hp hq = both_fits i k p q hp hq
operated_fits i k bin.Either p q hp hq = either_fits i k p q hp hq
operated_fits i k bin.Mul p q hp hq = two_fit i k bin.Mul p q hp hq
operated_fits i k bin.Div p q hp hq = two_fit i k bin.Div p q hp hq
operated_fits i k bin.Rem p q hp hq = two_fit i k bin.Rem p q hp hq
operated_fits i k bin.Add p q hp hq = two_fit i k bin.Add p q hp hq
operated_fits i k bin.Sub p q hp hq = two_fit i k bin.Sub p q hp hq
operated_fits i k bin.Shl p q hp hq = two_fit i k bin.Shl p q hp hq
operated_fits i k bin.Shr p q hp hq = two_fit i k bin.Shr p q hp hq
operated_fits i k bin.Lt p q hp hq = two_fit i k bin.Lt p q hp hq
operated_fits i k bin.Gt p q hp hq = two_fit i k bin.Gt p q hp hq
operated_fits i k bin.Le p q hp hq = two_fit i k bin.Le p q hp hq
operated_fits i k bin.Ge p q hp hq = two_fit i k bin.Ge p q hp hq
operated_fits i k bin.Eq p q hp hq = two_fit i k bin.Eq p q hp hq
operated_fits i k bin.Ne p q hp hq = two_fit i k bin.Ne p q hp hq
operated_fits i k bin.And p q hp hq = two_fit i k bin.And p q hp hq
operated_fits i k bin.Xor p q hp hq = two_fit i k bin.Xor p q hp hq
operated_fits i k bin.Or p q hp hq = two_fit i k bin.Or p q hp hq
