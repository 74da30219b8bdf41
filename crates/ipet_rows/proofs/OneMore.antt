-- One more row at the end of a list.
use Rattle.std.proofs.Common.{◌≡◌, ℕ, true, false, List, [], ◌∷◌, ◌++◌, length, set, All, OnOk, OnErr, is_err, Result, Ok, Err, refl, ap, ◌∙◌}
use Rattle.std.proofs.lemmas.List.Elements.{All-nil, All-cons, All-append}
use Rattle.lin_rows.specs.declared.row.Row.{Row}

pub after_err : {T E P : Type 0} (r : Result T E) → is_err r ≡ true → OnErr r P → P
after_err (Ok x) is h = absurd (cc)
after_err (Err e) is h = h

pub after_ok : {T E P : Type 0} (r : Result T E) → is_err r ≡ false → OnOk r P → P
after_ok (Ok x) is h = h
after_ok (Err e) is h = absurd (cc)

set_last : (rows : List Row) (one other : Row) → set (rows ++ other ∷ []) (length rows) one ≡ rows ++ one ∷ []
set_last [] one other = refl
set_last (row ∷ rows) one other = ap (λ y. row ∷ y) (set_last rows one other)

-- an empty row was added and then replaced
pub replaced : (rows room new : List Row) (n : ℕ) (one empty : Row) → n ≡ length rows → room ≡ rows ++ empty ∷ [] → new ≡ set room n one → new ≡ rows ++ one ∷ []
replaced rows room new n one empty at made is = is ∙ (λ k. set (made k) (at k) one) ∙ set_last rows one empty

pub all_more : (P : Row → Type 0) (rows : List Row) (one : Row) → All P rows → P one → All P (rows ++ one ∷ [])
all_more P rows one h is = All-append P rows (one ∷ []) h (All-cons P one [] is (All-nil P))
