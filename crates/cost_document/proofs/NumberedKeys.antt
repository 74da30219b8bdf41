-- Which numbers of a function are keys, against a walk over a range of the keys.
use Rattle.std.proofs.Common.{◌≡◌, ◌≢◌, ℕ, ◌==◌, ◌<◌, ◌^◌, Bool, true, false, ◌||◌, List, [], ◌∷◌, ◌++◌, length, get_or, replicate, Option, Some, None, Result, Ok, Err, Bor, ◌+◌, take, drop, String, Global, Ordering, Less, Equal, Greater, string_bytes, nat_cmp, refl, sym, ap, subst, ◌∙◌, inl, inr, arith, rules}
use Rattle.std.specs.Prelude.{codes, decimal, is_some, MatchOption, OkIff}
use Rattle.std.specs.Result.{result_ok}
use Rattle.std.specs.declared.ops.Bound.TheVariants.{Included, Excluded}
use Rattle.std.specs.BTreeMap.Range.{range_contains, entries_between}
use Rattle.std.specs.Cmp.{tied_itself}
use Rattle.std.specs.Cmp.Lexicographic.{slice_cmp, pointwise}
use Rattle.std.specs.Ordering.{match_ordering, is_eq, is_le, is_gt}
use Rattle.std.specs.Str.{bytes_eq, IsUtf8}
use Rattle.std.specs.String.{string_cmp}
use Rattle.std.proofs.lemmas.Bool.{cases_Bool, true≢false, false_from_ne_true}
use Rattle.std.proofs.lemmas.Bool.Decides.{Decides-eqb}
use Rattle.std.proofs.lemmas.Cmp.{nat_cmp_total}
use Rattle.std.proofs.lemmas.Fmt.{decimal_injective, IsAscii-decimal}
use Rattle.std.proofs.lemmas.List.{append_cancel_left, get_or-replicate, length-set, get_or-set_same, get_or-set_other, append_assoc, take-append-le, take-append-drop, take_all, length-replicate}
use Rattle.std.proofs.lemmas.Str.{IsUtf8-append, IsUtf8-from_ascii, IsCharBoundary-at_seam, IsUtf8-take}
use Rattle.std.proofs.lemmas.Map.Text.{is_eq-slice_cmp}
use Rattle.std.proofs.lemmas.Slice.Eq.{bytes_eq-Decides, slice_eq-Decides}
use Rattle.toml.specs.declared.value.Value.{Value}
use Rattle.toml.specs.Data.{Data, Members, get_member}
use Rattle.toml.specs.View.{view, members_view}
use Rattle.text_lines.proofs.Decimals.{one_number}
use Rattle.plain_laws.proofs.Booleans.{or-false, or-assoc}
use Rattle.cost_document.specs.Documents.{numbered_name, TellsNumbers}
use Rattle.cost_document.specs.Marking.{IsNumberOfKey, marked}

abbrev pub Entry : Type 0
Entry = String Global × Value

-- a name is a key
abbrev pub is_key : List Entry → List ℕ → Bool
is_key es name = is_some (get_member name (members_view es))

one_more : (o : Ordering) (d : Data) (found : Option Data) → is_some (match_ordering o found (Some d) found) ≡ (is_eq o || is_some found)
one_more Less d found = refl
one_more Equal d found = refl
one_more Greater d found = refl

is_key_more : (e : Entry) (es : List Entry) (name : List ℕ) → is_key (e ∷ es) name ≡ (bytes_eq name (string_bytes e.0) || is_key es name)
is_key_more e es name =
    one_more (slice_cmp nat_cmp name (string_bytes e.0)) (view e.1) (get_member name (members_view es))
    ∙ ap (λ same. same || is_key es name) (is_eq-slice_cmp name (string_bytes e.0))

-- a name is its function, and what stands behind it
name_is : (function : List ℕ) (number : ℕ) → numbered_name function number ≡ function ++ (codes ":" ++ decimal number)
name_is function number = append_assoc function (codes ":") (decimal number)

-- ---- the range of the keys that begin with a function and a colon

behind_front : (front xs ys : List ℕ) → slice_cmp nat_cmp (front ++ xs) (front ++ ys) ≡ slice_cmp nat_cmp xs ys
behind_front [] xs ys = refl
behind_front (b ∷ front) xs ys = rw (tied_itself nat_cmp_total b) (behind_front front xs ys)

from_colon : (digits : List ℕ) → is_le (slice_cmp nat_cmp (codes ":") (codes ":" ++ digits)) ≡ true
from_colon [] = refl
from_colon (b ∷ digits) = refl

module _ (function : List ℕ) (first past : String Global) (begins : string_bytes first ≡ function ++ codes ":") (ends : string_bytes past ≡ function ++ codes ";") where
  pub forward : is_gt (string_cmp first past) ≡ false
  forward = (λ i. is_gt (slice_cmp nat_cmp (begins i) (ends i))) ∙ ap is_gt (behind_front function (codes ":") (codes ";"))

  in_range : (number : ℕ) (key : String Global) → bytes_eq (numbered_name function number) (string_bytes key) ≡ true
      → range_contains string_cmp (Included first) (Excluded past) key ≡ true
  in_range number key same =
      let is = sym ((bytes_eq-Decides (numbered_name function number) (string_bytes key)).0 same) ∙ name_is function number in
      let digits = decimal number in
      let from : is_le (string_cmp first key) ≡ true =
      (λ i. is_le (slice_cmp nat_cmp (begins i) (is i))) ∙ ap is_le (behind_front function (codes ":") (codes ":" ++ digits)) ∙ from_colon digits in
      let until : is_le (string_cmp past key) ≡ false =
      (λ i. is_le (slice_cmp nat_cmp (ends i) (is i))) ∙ ap is_le (behind_front function (codes ";") (codes ":" ++ digits)) in
      rw (from, until) refl

  pub range_has : (number : ℕ) (es : List Entry) → is_key (entries_between string_cmp (Included first) (Excluded past) es) (numbered_name function number) ≡ is_key es (numbered_name function number)
  range_has number [] = refl
  range_has number (e ∷ es) =
      elim (cases_Bool (range_contains string_cmp (Included first) (Excluded past) e.0)) [
        | inl there ↦ rw there (
            is_key_more e (entries_between string_cmp (Included first) (Excluded past) es) (numbered_name function number)
            ∙ ap (λ more. bytes_eq (numbered_name function number) (string_bytes e.0) || more) (range_has number es)
            ∙ sym (is_key_more e es (numbered_name function number)))
        | inr absent ↦
            let other : bytes_eq (numbered_name function number) (string_bytes e.0) ≡ false = false_from_ne_true _ (λ same. true≢false (sym (in_range number e.0 same) ∙ absent)) in
            rw absent (range_has number es ∙ sym (is_key_more e es (numbered_name function number) ∙ ap (λ here. here || is_key es (numbered_name function number)) other))
      ]

-- ---- what is marked, as the walk goes on

-- what is marked, and the keys that are left
pub record Marks (function : List ℕ) (count : ℕ) (all left : List Entry) (held : List Bool) : Type 0 where
  pub long : length held ≡ count
  pub each : (number : ℕ) → number < count → (get_or held number false || is_key left (numbered_name function number)) ≡ is_key all (numbered_name function number)

pub marks_none : (function : List ℕ) (count : ℕ) (all left : List Entry) (held : List Bool) → length held ≡ count → held ≡ replicate count false
    → ((number : ℕ) → is_key left (numbered_name function number) ≡ is_key all (numbered_name function number)) → Marks function count all left held
marks_none function count all left held long is same = record {
  long = long;
  each = λ number below. rw (is, get_or-replicate count number false false below) (same number);
}

pub marks_all : (function : List ℕ) (count : ℕ) (all left : List Entry) (held : List Bool) → left ≡ [] → Marks function count all left held → TellsNumbers (members_view all) function count held
marks_all function count all left held none marks = record {
  long = marks.long;
  each = λ number below. sym (or-false (get_or held number false)) ∙ (rw none at marks.each number below);
}

-- a number is this one, where there is one
abbrev is_number : Option ℕ → ℕ → Bool
is_number None other = false
is_number (Some number) other = number == other

same_number : (function key : List ℕ) (number other : ℕ) → number < 2 ^ 64 → other < 2 ^ 64 → key ≡ numbered_name function number
    → (number == other) ≡ bytes_eq (numbered_name function other) key
same_number function key number other small less is =
    elim (cases_Bool (bytes_eq (numbered_name function other) key)) [
      | inl same ↦
          let names = sym (name_is function other) ∙ (bytes_eq-Decides (numbered_name function other) key).0 same ∙ is ∙ name_is function number in
          let digits = append_cancel_left (codes ":") (decimal other) (decimal number) (append_cancel_left function (codes ":" ++ decimal other) (codes ":" ++ decimal number) names) in
          let equal = decimal_injective other number less small digits in
          (Decides-eqb number other).1 (sym equal) ∙ sym same
      | inr apart ↦
          false_from_ne_true _ (λ same. true≢false (sym ((bytes_eq-Decides (numbered_name function other) key).1 (ap (numbered_name function) (sym ((Decides-eqb number other).0 same)) ∙ sym is)) ∙ apart)) ∙ sym apart
    ]

number_is : (function key : List ℕ) (found : Option ℕ) (other : ℕ) → other < 2 ^ 64 → IsNumberOfKey key function found
    → is_number found other ≡ bytes_eq (numbered_name function other) key
number_is function key None other less none =
    sym (false_from_ne_true _ (λ same. none other less (sym ((bytes_eq-Decides (numbered_name function other) key).0 same))))
number_is function key (Some number) other less is = same_number function key number other is.0 less is.1

length_marked : (held : List Bool) (found : Option ℕ) → length (marked held found) ≡ length held
length_marked held None = refl
length_marked held (Some number) = length-set held number true

or_true : (b : Bool) → true ≡ (b || true)
or_true true = refl
or_true false = refl

get_marked : (held : List Bool) (found : Option ℕ) (other : ℕ) → other < length held → get_or (marked held found) other false ≡ (get_or held other false || is_number found other)
get_marked held None other below = sym (or-false (get_or held other false))
get_marked held (Some number) other below =
    elim (cases_Bool (number == other)) [
      | inl same ↦
          let is = (Decides-eqb number other).0 same in
          rw (same, is) (get_or-set_same held other true false below ∙ or_true (get_or held other false))
      | inr apart ↦
          let not_is = λ (is : other ≡ number). true≢false (sym ((Decides-eqb number other).1 (sym is)) ∙ apart) in
          rw apart (get_or-set_other held number other true false not_is ∙ sym (or-false (get_or held other false)))
    ]

pub marks_one : (function : List ℕ) (count : ℕ) (all left rest : List Entry) (e : Entry) (held : List Bool) (found : Option ℕ) → count < 2 ^ 64 → left ≡ e ∷ rest
    → IsNumberOfKey (string_bytes e.0) function found → Marks function count all left held → Marks function count all rest (marked held found)
marks_one function count all left rest e held found few is key marks = record {
  long = length_marked held found ∙ marks.long;
  each = λ number below.
      let name = numbered_name function number in
      let here = number_is function (string_bytes e.0) found number (omega (arith, below, few)) key in
      let now = get_marked held found number (subst (λ n. number < n) (sym marks.long) below) in
      ap (λ m. m || is_key rest name) (now ∙ ap (λ m. get_or held number false || m) here)
      ∙ or-assoc (get_or held number false) (bytes_eq name (string_bytes e.0)) (is_key rest name)
      ∙ ap (λ m. get_or held number false || m) (sym (is_key_more e rest name) ∙ sym (ap (λ es. is_key es name) is))
      ∙ marks.each number below;
}

-- ---- a function that is no text has no number

colon_text : (number : ℕ) → number < 2 ^ 64 → IsUtf8 (codes ":" ++ decimal number)
colon_text number small = IsUtf8-append (codes ":") (decimal number) (IsUtf8-from_ascii (codes ":") (search rules)) (IsUtf8-from_ascii (decimal number) (IsAscii-decimal number small))

pub no_text_no_number : (function : List ℕ) (number : ℕ) → number < 2 ^ 64 → ¬ IsUtf8 function → ¬ IsUtf8 (numbered_name function number)
no_text_no_number function number small other text =
    let tail = codes ":" ++ decimal number in
    let whole : IsUtf8 (function ++ tail) = subst IsUtf8 (name_is function number) text in
    let seam = IsCharBoundary-at_seam (function ++ tail) function tail refl (colon_text number small) in
    other (subst IsUtf8 (take-append-le (length function) function tail (omega arith) ∙ take_all (length function) function (omega arith)) (IsUtf8-take (function ++ tail) (length function) whole seam))

-- ---- what stands behind a function

pub not_behind : (key function : List ℕ) → ((rest : List ℕ) → key ≢ function ++ rest) → IsNumberOfKey key function None
not_behind key function none = λ number small same. none (codes ":" ++ decimal number) (same ∙ name_is function number)

pub no_colon : (key function numbered : List ℕ) → key ≡ function ++ numbered → ((rest : List ℕ) → numbered ≢ codes ":" ++ rest) → IsNumberOfKey key function None
no_colon key function numbered split none =
    λ number small same. none (decimal number) (append_cancel_left function numbered (codes ":" ++ decimal number) (sym split ∙ same ∙ name_is function number))

pub no_digits : (key function numbered digits : List ℕ) → key ≡ function ++ numbered → numbered ≡ codes ":" ++ digits
    → ((number : ℕ) → number < 2 ^ 64 → digits ≢ decimal number) → IsNumberOfKey key function None
no_digits key function numbered digits split colon none =
    λ number small same. none number small (append_cancel_left (codes ":") digits (decimal number)
    (sym colon ∙ append_cancel_left function numbered (codes ":" ++ decimal number) (sym split ∙ same ∙ name_is function number)))

-- a number of 128 bits, where it fits 64
pub fits : {E : Type 0} (key function numbered digits : List ℕ) (number : ℕ) (r : Result ℕ E) → key ≡ function ++ numbered → numbered ≡ codes ":" ++ digits
    → number < 2 ^ 128 → digits ≡ decimal number → OkIff r (number < 2 ^ 64) number → IsNumberOfKey key function (result_ok r)
fits key function numbered digits number (Err e) split colon wide is above =
    no_digits key function numbered digits split colon (λ other small same. above (subst (λ n. n < 2 ^ 64) (sym (one_number number other (omega (arith, wide)) (omega (arith, small)) (sym is ∙ same))) small))
fits key function numbered digits number (Ok n) split colon wide is same =
    (subst (λ m. m < 2 ^ 64) (sym same.1) same.0, split ∙ ap (λ rest. function ++ rest) (colon ∙ ap (λ rest. codes ":" ++ rest) (is ∙ ap decimal (sym same.1))) ∙ sym (name_is function n))

-- what stands behind a front
pub behind_is : (bytes front : List ℕ) (found : Option (Bor (List ℕ)))
    → MatchOption found (pointwise ◌==◌ (take (length front) bytes) front ≡ false) (λ x. (pointwise ◌==◌ (take (length front) bytes) front ≡ true) × (x.now ≡ drop (length front) bytes) × (length x.now + length front ≡ length bytes))
    → MatchOption found ((rest : List ℕ) → bytes ≢ front ++ rest) (λ rest. bytes ≡ front ++ rest.now)
behind_is bytes front None none =
    λ rest is. true≢false (sym ((slice_eq-Decides Decides-eqb (take (length front) bytes) front _ refl).1
    (ap (take (length front)) is ∙ take-append-le (length front) front rest (omega arith) ∙ take_all (length front) front (omega arith))) ∙ none)
behind_is bytes front (Some rest) some =
    let begins = (slice_eq-Decides Decides-eqb (take (length front) bytes) front _ refl).0 some.0 in
    sym (take-append-drop (length front) bytes) ∙ (λ i. begins i ++ sym some.1 i)

-- ---- the steps of the walk

pub marks_begin : (function : List ℕ) (first past : String Global) (all left : List Entry) (held : List Bool) → string_bytes first ≡ function ++ codes ":" → string_bytes past ≡ function ++ codes ";"
    → left ≡ entries_between string_cmp (Included first) (Excluded past) all → held ≡ replicate (length held) false → Marks function (length held) all left held
marks_begin function first past all left held begins ends is unmarked =
    marks_none function (length held) all left held refl unmarked
    (λ number. ap (λ es. is_key es (numbered_name function number)) is ∙ range_has function first past begins ends number all)

pub marks_more : (function key front : List ℕ) (count : ℕ) (all left rest : List Entry) (e : Entry) (held more : List Bool) (found : Option ℕ) → count < 2 ^ 64 → left ≡ e ∷ rest
    → key ≡ string_bytes e.0 → front ≡ function → IsNumberOfKey key front found → more ≡ marked held found → Marks function count all left held → Marks function count all rest more
marks_more function key front count all left rest e held more found few split here same number is marks =
    subst (Marks function count all rest) (sym is)
    (marks_one function count all left rest e held found few split (subst (λ k. IsNumberOfKey k function found) here (subst (λ f. IsNumberOfKey key f found) same number)) marks)

-- ---- where there is no text, or no table

pub tells_none : (ms : Members) (function : List ℕ) (count : ℕ) (held : List Bool) → held ≡ replicate count false
    → ((number : ℕ) → number < count → get_member (numbered_name function number) ms ≡ None) → TellsNumbers ms function count held
tells_none ms function count held is none = record {
  long = ap length is ∙ length-replicate count false;
  each = λ number below. rw (is, none number below) (get_or-replicate count number false false below);
}
