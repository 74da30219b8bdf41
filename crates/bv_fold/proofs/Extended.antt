-- Stores with further terms: the terms that were there, and their words, are as before.
use Rattle.std.proofs.Common.{◌≡◌, ◌<◌, ℕ, zero, suc, Bool, true, false, if◌then◌else◌, List, [], ◌∷◌, ◌++◌, length, map, Some, refl, sym, ap, ◌∙◌, append_assoc, arith}
use Rattle.std.specs.Prelude.{slice_get, slice_index}
use Rattle.std.specs.List.{list_any}
use Rattle.std.proofs.lemmas.List.{append-nil}
use Rattle.c_tree.specs.declared.program.Input.{Input}
use Rattle.bv_term.specs.declared.op.Op.{Op}
use Rattle.bv_term.specs.Stores.{Terms, is_same_op, ops_with, words_from, input_word, op_words, tv, fits_store, declared_ty}
use Rattle.c_tree.specs.Meaning.Runs.{are_of}
use Rattle.bv_fold.specs.Folding.{IsExtended}
use Rattle.bv_term.proofs.ValueLaws.{words_kept, words_then, words_many}

-- ---- lists that go on

pub kept_op : (xs ys : List Op) (t : ℕ) (o : Op) → slice_get xs t ≡ Some o → slice_get (xs ++ ys) t ≡ Some o
kept_op [] ys t o is = absurd (cc is)
kept_op (x ∷ xs) ys zero o is = is
kept_op (x ∷ xs) ys (suc t) o is = kept_op xs ys t o is

pub earlier_op : (xs ys : List Op) (t : ℕ) (o : Op) → t < length xs → slice_get (xs ++ ys) t ≡ Some o → slice_get xs t ≡ Some o
earlier_op [] ys t o h is = absurd (omega arith)
earlier_op (x ∷ xs) ys zero o h is = is
earlier_op (x ∷ xs) ys (suc t) o h is = earlier_op xs ys t o (omega arith) is

-- ---- words

-- there is a word for each term
pub words_count : (terms : Terms) (i : Input) → length (op_words terms.ops i.values) ≡ length terms.ops
unfolding op_words
words_count terms i = omega (arith, words_many (input_word i.values) [] terms.ops)

-- ---- stores

pub tv_kept : (old new : Terms) (t : ℕ) (i : Input) → IsExtended old new → t < length old.ops → tv new t i ≡ tv old t i
unfolding tv op_words
tv_kept old new t i e within =
    let input : ℕ → ℕ = input_word i.values in
    ap (λ ops. slice_index (words_from input [] ops) t) e.ops
    ∙ ap (λ ws. slice_index ws t) (words_then input [] old.ops e.further)
    ∙ words_kept input (words_from input [] old.ops) e.further t (omega (arith, words_many input [] old.ops))

pub fits_before : (old new : Terms) (i : Input) → IsExtended old new → fits_store new i ≡ true → fits_store old i ≡ true
fits_before old new i e fits = sym (ap (λ l. are_of (map declared_ty l) i.values) e.inputs) ∙ fits

pub extended_itself : (terms : Terms) → IsExtended terms terms
extended_itself terms = record { inputs = refl; further = []; ops = sym (append-nil terms.ops) }

pub extended_again : (old mid new : Terms) → IsExtended old mid → IsExtended mid new → IsExtended old new
extended_again old mid new d e = record {
  inputs = e.inputs ∙ d.inputs;
  further = d.further ++ e.further;
  ops = e.ops ∙ ap (λ ops. ops ++ e.further) d.ops ∙ append_assoc old.ops d.further e.further;
}

-- what putting an operator adds
further_of : Op → List Op → List Op
further_of o ops = if list_any (is_same_op o) ops then [] else o ∷ []

further_is : (o : Op) (ops : List Op) → ops_with o ops ≡ ops ++ further_of o ops
unfolding ops_with further_of
further_is o ops = by_any (list_any (is_same_op o) ops)
  where
    by_any : (b : Bool) → (if b then ops else ops ++ o ∷ []) ≡ ops ++ (if b then [] else o ∷ [])
    by_any true = sym (append-nil ops)
    by_any false = refl

pub put_extends : (old new : Terms) (o : Op) → new.inputs ≡ old.inputs → new.ops ≡ ops_with o old.ops → IsExtended old new
put_extends old new o inputs ops = record { inputs = inputs; further = further_of o old.ops; ops = ops ∙ further_is o old.ops }

pub unchanged_extends : (old new : Terms) → new.inputs ≡ old.inputs → new.ops ≡ old.ops → IsExtended old new
unchanged_extends old new inputs ops = record { inputs = inputs; further = []; ops = ops ∙ sym (append-nil old.ops) }
