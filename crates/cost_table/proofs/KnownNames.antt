-- Which names are known, as they are added one by one.
use Rattle.std.proofs.Common.{◌≡◌, ℕ, Bool, true, false, cond, ◌&&◌, ◌||◌, List, Option, Some, None, option_map, refl, sym, ap, ◌∙◌, subst, inl, inr}
use Rattle.std.specs.Prelude.{is_some}
use Rattle.std.specs.Str.{bytes_eq}
use Rattle.std.proofs.lemmas.Bool.{cases_Bool, false_from_ne_true, true≢false, or_right}
use Rattle.std.proofs.Common.{String, Global, Result, Ok, Err, string_bytes, nat_cmp}
use Rattle.std.specs.Prelude.{OnOk, is_err}
use Rattle.std.specs.String.{string_cmp}
use Rattle.std.specs.BTreeSet.{BTreeSet, UpdatesBy, contains_text}
use Rattle.std.specs.Cmp.Lexicographic.{slice_cmp}
use Rattle.std.proofs.lemmas.Map.Text.{btree_set_updates_text}
use Rattle.std.proofs.lemmas.Slice.Eq.{bytes_eq-Decides}
use Rattle.toml.specs.Data.{Members, get_member}
use Rattle.plain_laws.proofs.Booleans.{or-false}

-- ---- one name

same_bytes : (xs ys : List ℕ) → bytes_eq xs ys ≡ bytes_eq ys xs
same_bytes xs ys =
    elim (cases_Bool (bytes_eq xs ys)) [
      | inl same ↦ same ∙ sym ((bytes_eq-Decides ys xs).1 (sym ((bytes_eq-Decides xs ys).0 same)))
      | inr other ↦ other ∙ sym (false_from_ne_true _ (λ same. true≢false (sym ((bytes_eq-Decides xs ys).1 (sym ((bytes_eq-Decides ys xs).0 same))) ∙ other)))
    ]

-- a name that has an entry
pub added : (es : Members) (name key : List ℕ) (was : Bool) → is_some (get_member name es) ≡ true
    → cond (bytes_eq name key) true was ≡ (was || (bytes_eq key name && is_some (get_member key es)))
added es name key was has =
    rw (same_bytes name key) (elim (cases_Bool (bytes_eq key name)) [
      | inl same ↦
          let here : is_some (get_member key es) ≡ true = subst (λ k. is_some (get_member k es) ≡ true) (sym ((bytes_eq-Decides key name).0 same)) has in
          rw (same, here) (sym (or_right was true refl))
      | inr other ↦ rw other (sym (or-false was))
    ])

-- a name that has none
pub not_added : (es : Members) (name key : List ℕ) (was held : Bool) → held ≡ is_some (get_member name es) → held ≡ false
    → was ≡ (was || (bytes_eq key name && is_some (get_member key es)))
not_added es name key was held is none =
    elim (cases_Bool (bytes_eq key name)) [
      | inl same ↦
          let here : is_some (get_member key es) ≡ false = subst (λ k. is_some (get_member k es) ≡ false) (sym ((bytes_eq-Decides key name).0 same)) (sym is ∙ none) in
          rw (same, here) (sym (or-false was))
      | inr other ↦ rw other (sym (or-false was))
    ]

-- what `insert` says
pub inserted : (es : Members) (name : String Global) (old new : BTreeSet (String Global)) {T E : Type 0} (r : Result T E) → is_err r ≡ false → is_some (get_member (string_bytes name) es) ≡ true
    → OnOk r (UpdatesBy string_cmp (λ k. slice_cmp nat_cmp (string_bytes name) (string_bytes k)) old new true)
    → (key : List ℕ) → contains_text new key ≡ (contains_text old key || (bytes_eq key (string_bytes name) && is_some (get_member key es)))
inserted es name old new (Ok x) whole has updates key =
    btree_set_updates_text (string_bytes name) old new true updates key ∙ added es (string_bytes name) key (contains_text old key) has
inserted es name old new (Err e) whole has updates key = absurd (true≢false whole)

-- what was found is there
pub is_there : {A B : Type 0} (f : A → B) (o : Option A) (found : Option B) → is_some o ≡ true → option_map f o ≡ found → is_some found ≡ true
is_there f None found some same = absurd (true≢false (sym some))
is_there f (Some x) found some same = ap is_some (sym same)

-- ---- a list of names

pub any_more : (was here rest has : Bool) → ((was || (here && has)) || (rest && has)) ≡ (was || ((here || rest) && has))
any_more true here rest has = refl
any_more false true rest true = refl
any_more false true true false = refl
any_more false true false false = refl
any_more false false rest has = refl
