-- Lists whose elements are held together place by place.
use Rattle.std.proofs.Common.{◌≡◌, List, [], ◌∷◌, length, refl, ap, suc}
use Rattle.std.specs.List.{AllZip}

pub AllZip-length : {A B : Type 0} (R : A → B → Type 0) (xs : List A) (bs : List B) → AllZip R xs bs → length xs ≡ length bs
AllZip-length R [] [] each = refl
AllZip-length R [] (b ∷ bs) each = absurd each
AllZip-length R (a ∷ xs) [] each = absurd each
AllZip-length R (a ∷ xs) (b ∷ bs) each = ap suc (AllZip-length R xs bs each.1)
