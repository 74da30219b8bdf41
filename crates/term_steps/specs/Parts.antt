-- Scripts that several operators share. This project's own.
use Rattle.std.specs.Prelude.{ℕ, ◌^◌, List, [], ◌∷◌, ◌++◌, length, Option, Some, None}
use Rattle.c_tree.specs.declared.tree.Ty.{Ty}
use Rattle.bv_term.specs.declared.op.Op.TheVariants as op
use Rattle.bv_term.specs.Scripts.{Script, put, pure, ◌>>=◌}
use Rattle.cond_laws.specs.declared.value.Judged.{Judged}
use Rattle.cond_laws.specs.declared.store.TermSlot.{TermSlot}
use Rattle.cond_laws.specs.declared.store.TermSlot.TheVariants.{Unset, Number, Numbers}
use Rattle.cond_laws.specs.Judged.{judged_term}
use Rattle.cond_laws.specs.TermStores.{element_choice, index_condition}

-- nonzero where a is not -2^31 or b is not -1
abbrev pub no_overflow : ℕ → ℕ → Script ℕ
no_overflow a b = do m ← put (op.Const (2 ^ 31)); x ← put (op.Xor a m); n ← put (op.Not b); put (op.Or x n)

-- nonzero where the count of a shift is from 0 to 31
abbrev pub below_width : ℕ → Script ℕ
below_width b = do w ← put (op.Const 32); put (op.LtU b w)

-- a condition of an operand that is evaluated where c is not 0, or where it is 0
abbrev pub one_where_true : ℕ → ℕ → Script ℕ
one_where_true c x = do o ← put (op.Const 1); put (op.Ite c x o)

abbrev pub one_where_false : ℕ → ℕ → Script ℕ
one_where_false c x = do o ← put (op.Const 1); put (op.Ite c o x)

-- the values of `&&` and `||`
abbrev pub both_value : ℕ → ℕ → Script ℕ
both_value a b = do o ← put (op.Const 1); z ← put (op.Const 0); x ← put (op.Ite b o z); put (op.Ite a x z)

abbrev pub either_value : ℕ → ℕ → Script ℕ
either_value a b = do o ← put (op.Const 1); z ← put (op.Const 0); x ← put (op.Ite b o z); put (op.Ite a o x)

-- the element n where the index e is k, and else x
abbrev pub one_pick : ℕ → ℕ → ℕ → ℕ → Script ℕ
one_pick e k n x = do i ← put (op.Const k); c ← put (op.Eq e i); put (op.Ite c n x)

-- `a[e]` of an array of these elements, and of what is none
abbrev pub array_element : Ty → List ℕ → Judged → Script Judged
array_element t ns e =
    do
      z ← put (op.Const 0)
      x ← element_choice e.term 0 z ns
      c ← index_condition e.term (length ns)
      pure (judged_term t x (e.conditions ++ c ∷ []))

abbrev pub no_element : Ty → Judged → Script Judged
no_element t e = do z ← put (op.Const 0); pure (judged_term t z (e.conditions ++ z ∷ []))

-- the elements of an array that has them
abbrev pub array_in : Option TermSlot → Option (List ℕ)
array_in None = None
array_in (Some (Unset t)) = None
array_in (Some (Number t n)) = None
array_in (Some (Numbers t ns)) = Some ns
