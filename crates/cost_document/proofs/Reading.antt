-- Which document the bytes spell, and what a key holds that is no text.
use Rattle.std.proofs.Common.{◌≡◌, ℕ, List, [], ◌∷◌, Option, Some, None, String, Global, Ordering, Less, Equal, Greater, string_bytes, nat_cmp, refl, sym, subst, inl, inr}
use Rattle.std.specs.Str.{IsUtf8, is_utf8}
use Rattle.std.specs.Ordering.{match_ordering}
use Rattle.std.specs.Cmp.Lexicographic.{slice_cmp}
use Rattle.std.proofs.lemmas.Bool.{cases_Bool}
use Rattle.std.proofs.lemmas.Str.{IsUtf8-from_is_utf8, is_utf8-from_IsUtf8}
use Rattle.toml.specs.declared.value.Value.{Value}
use Rattle.toml.specs.Data.{Members, get_member}
use Rattle.toml.specs.View.{members_view}
use Rattle.toml.specs.Parse.{parse_document}
use Rattle.std.proofs.Math.Logic.{∥∥₁_elim}
use Rattle.std.specs.Ordering.{is_eq}
use Rattle.std.proofs.lemmas.Map.Text.{is_eq-slice_cmp}
use Rattle.std.proofs.lemmas.Slice.Eq.{bytes_eq-Decides}
use Rattle.std.proofs.Common.{ap, ◌∙◌}
use Rattle.cost_document.specs.Documents.{document}

pub equal_is : (xs ys : List ℕ) → slice_cmp nat_cmp xs ys ≡ Equal → xs ≡ ys
equal_is xs ys same = (bytes_eq-Decides xs ys).0 (sym (is_eq-slice_cmp xs ys) ∙ ap is_eq same)

pub document_read : (bytes : List ℕ) (ms : Members) → IsUtf8 bytes → parse_document bytes ≡ Some ms → document bytes ≡ Some ms
document_read bytes ms text read = rw (is_utf8-from_IsUtf8 bytes text) read

pub document_refused : (bytes : List ℕ) → (IsUtf8 bytes → parse_document bytes ≡ None) → document bytes ≡ None
document_refused bytes refused =
    elim (cases_Bool (is_utf8 bytes)) [
      | inl text ↦ rw text (refused (IsUtf8-from_is_utf8 bytes text))
      | inr other ↦ rw other
    ]

-- ---- a name that is no text is no key

not_equal : {A : Type 0} (o : Ordering) (here : Option A) → (o ≡ Equal → ⊥) → match_ordering o None here None ≡ None
not_equal Less here other = refl
not_equal Equal here other = absurd (other refl)
not_equal Greater here other = refl

pub no_text_no_key : (name : List ℕ) (es : List (String Global × Value)) → ¬ (IsUtf8 name) → get_member name (members_view es) ≡ None
no_text_no_key name [] other = refl
no_text_no_key name (e ∷ es) other =
    let differs : slice_cmp nat_cmp name (string_bytes e.0) ≡ Equal → ⊥ =
    λ same. ∥∥₁_elim e.0.ok (hlevel) (λ text. other (subst IsUtf8 (sym (equal_is name (string_bytes e.0) same)) text)) in
    rw (no_text_no_key name es other) (not_equal _ _ differs)
