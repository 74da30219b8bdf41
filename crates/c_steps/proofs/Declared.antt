-- The declaration of an array, through a store in which it is unset.
use Rattle.std.proofs.Common.{◌≡◌, ℕ, List, Some, option_map, sym, ap, ◌∙◌}
use Rattle.std.specs.Prelude.{slice_get, slice_set}
use Rattle.std.proofs.lemmas.List.{set-set}
use Rattle.c_tree.specs.declared.tree.Ty.{Ty}
use Rattle.c_tree.specs.declared.tree.Expr.{Expr}
use Rattle.c_tree.specs.declared.tree.Var.TheVariants.{Local}
use Rattle.c_tree.specs.declared.value.Value.{Value}
use Rattle.c_tree.specs.declared.value.Slot.TheVariants.{Unset, Numbers}
use Rattle.c_tree.specs.declared.value.Store.{Store}
use Rattle.c_tree.specs.Meaning.Stores.{slot_ty, slot_length, with_slot, with_locals, unset_local, padded_list, put_list}
use Rattle.c_tree.specs.Meaning.Expressions.{all_values}

array_put : (s : Store) (l n : ℕ) (ty : Ty) (vs : List Value) → ty ≡ slot_ty (slice_get s.locals l) → n ≡ slot_length (slice_get s.locals l) → with_slot (unset_local l s) (Local l) (Numbers ty (padded_list ty n vs)) ≡ put_list s l (slice_get s.locals l) vs
array_put s l n ty vs is many =
    let put = λ (ty : Ty) (n : ℕ). with_locals s (slice_set s.locals l (Numbers ty (padded_list ty n vs))) in
    ap (with_locals s) (set-set s.locals l (Unset (slot_ty (slice_get s.locals l))) (Numbers ty (padded_list ty n vs))) ∙ ap (λ ty. put ty n) is ∙ ap (put (slot_ty (slice_get s.locals l))) many

pub array_declared : (s u w : Store) (l n : ℕ) (ty : Ty) (es : List Expr) (vs list : List Value) → u ≡ unset_local l s → ty ≡ slot_ty (slice_get s.locals l) → n ≡ slot_length (slice_get s.locals l) → all_values es u ≡ Some vs → list ≡ padded_list ty n vs → w ≡ with_slot u (Local l) (Numbers ty list) → Some w ≡ option_map (put_list s l (slice_get s.locals l)) (all_values es (unset_local l s))
array_declared s u w l n ty es vs list unset is many values padding put =
    let values' = ap (all_values es) (sym unset) ∙ values in
    ap Some (put ∙ ap (λ u. with_slot u (Local l) (Numbers ty list)) unset ∙ ap (λ list. with_slot (unset_local l s) (Local l) (Numbers ty list)) padding ∙ array_put s l n ty vs is many) ∙ sym (ap (option_map (put_list s l (slice_get s.locals l))) values')
