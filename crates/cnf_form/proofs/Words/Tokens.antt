-- Texts up to their first gap.
use Rattle.std.proofs.Common.{◌≡◌, ◌≢◌, ℕ, ℤ, zero, suc, ◌+◌, ◌<◌, ◌≤◌, ◌^◌, true, false, not, ◌⊎◌, inl, inr, List, [], ◌∷◌, ◌++◌, length, get_or, take, drop, unsigned_abs, refl, sym, ◌∙◌, ap, subst, arith, length-append}
use Rattle.std.specs.List.{list_all}
use Rattle.std.specs.Fmt.{decimal, signed_decimal}
use Rattle.std.proofs.lemmas.Bool.{false≢true, and_parts}
use Rattle.std.proofs.lemmas.List.{take_all}
use Rattle.cnf_form.specs.Literals.{most}
use Rattle.cnf_form.specs.Forms.{is_gap}
use Rattle.cnf_form.specs.Words.{IsSolid}
use Rattle.cnf_form.specs.LogReading.{CutsAt, HasNoCut}
use Rattle.std.proofs.lemmas.Bool.{not-true}
use Rattle.cnf_form.proofs.Words.Written.{AllNumeric, IsNumeric-decimal, IsNumeric-signed, not_gap}

pub solid_numeric : (w : List ℕ) → AllNumeric w → IsSolid w
solid_numeric [] numeric = refl
solid_numeric (b ∷ bs) numeric = rw (not_gap b numeric.0, solid_numeric bs numeric.2) refl

pub solid_decimal : (n : ℕ) → n < 2 ^ 64 → IsSolid (decimal n)
solid_decimal n small = solid_numeric (decimal n) (IsNumeric-decimal n small).each

pub solid_signed : (l : ℤ) → unsigned_abs l ≤ most → IsSolid (signed_decimal l)
solid_signed l small = solid_numeric (signed_decimal l) (IsNumeric-signed l small).each

solid_head : (b : ℕ) (bs : List ℕ) → IsSolid (b ∷ bs) → is_gap b ≡ false
solid_head b bs solid = not-true (is_gap b) (and_parts (not (is_gap b)) (list_all (λ b. not (is_gap b)) bs) solid).0

solid_tail : (b : ℕ) (bs : List ℕ) → IsSolid (b ∷ bs) → IsSolid bs
solid_tail b bs solid = (and_parts (not (is_gap b)) (list_all (λ b. not (is_gap b)) bs) solid).1

not_same : (x b : ℕ) → is_gap x ≡ true → is_gap b ≡ false → x ≡ b → ⊥
not_same x b gap plain same = false≢true (sym plain ∙ ap is_gap (sym same) ∙ gap)

-- two such texts that are the same
pub record SameCut (a b : List ℕ) (x y : ℕ) (s t : List ℕ) : Type 0 where
  pub token : a ≡ b
  pub gap : x ≡ y
  pub behind : s ≡ t

pub cut_same : (a b : List ℕ) (x y : ℕ) (s t : List ℕ) → IsSolid a → IsSolid b → is_gap x ≡ true → is_gap y ≡ true → a ++ x ∷ s ≡ b ++ y ∷ t → SameCut a b x y s t
cut_same [] [] x y s t one other gap gap_too same = record { token = refl; gap = cc; behind = cc }
cut_same [] (b ∷ bs) x y s t one other gap gap_too same = let first : x ≡ b = cc in absurd (not_same x b gap (solid_head b bs other) first)
cut_same (a ∷ ats) [] x y s t one other gap gap_too same = let first : y ≡ a = cc in absurd (not_same y a gap_too (solid_head a ats one) first)
cut_same (a ∷ ats) (b ∷ bs) x y s t one other gap gap_too same =
    let first : a ≡ b = cc in
    let tail : ats ++ x ∷ s ≡ bs ++ y ∷ t = cc in
    let rest = cut_same ats bs x y s t (solid_tail a ats one) (solid_tail b bs other) gap gap_too tail in
    record { token = ap (λ z. z ∷ ats) first ∙ ap (λ zs. b ∷ zs) rest.token; gap = rest.gap; behind = rest.behind }

-- the first part of a text holds the gap, or stands before it
pub record Holds (a more b : List ℕ) (y : ℕ) (t : List ℕ) : Type 0 where
  pub rest : List ℕ
  pub is : a ≡ b ++ y ∷ rest
  pub behind : rest ++ more ≡ t

pub record GoesTo (a b : List ℕ) : Type 0 where
  pub rest : List ℕ
  pub is : a ++ rest ≡ b

pub cut_within : (a more b : List ℕ) (y : ℕ) (t : List ℕ) → a ++ more ≡ b ++ y ∷ t → Holds a more b y t ⊎ GoesTo a b
cut_within [] more b y t same = inr (record { rest = b; is = refl })
cut_within (x ∷ xs) more [] y t same = let first : x ≡ y = cc in inl (record { rest = xs; is = ap (λ z. z ∷ xs) first; behind = cc })
cut_within (x ∷ xs) more (z ∷ zs) y t same =
    let first : x ≡ z = cc in
    let tail : xs ++ more ≡ zs ++ y ∷ t = cc in
    longer first (cut_within xs more zs y t tail)
  where
    longer : x ≡ z → Holds xs more zs y t ⊎ GoesTo xs zs → Holds (x ∷ xs) more (z ∷ zs) y t ⊎ GoesTo (x ∷ xs) (z ∷ zs)
    longer first (inl held) = inl (record { rest = held.rest; is = ap (λ w. w ∷ xs) first ∙ ap (λ ws. z ∷ ws) held.is; behind = held.behind })
    longer first (inr goes) = inr (record { rest = goes.rest; is = ap (λ w. w ∷ (xs ++ goes.rest)) first ∙ ap (λ ws. z ∷ ws) goes.is })

-- where a text without the gap goes on to a solid text before it, it begins that text
pub goes_to : (gap : ℕ) (a more b t : List ℕ) → HasNoCut gap a → IsSolid b → a ++ more ≡ b ++ gap ∷ t → GoesTo a b
goes_to gap a more b t bare solid same = by_case (cut_within a more b gap t same)
  where
    by_case : Holds a more b gap t ⊎ GoesTo a b → GoesTo a b
    by_case (inl held) = absurd (bare.none b held.rest solid held.is)
    by_case (inr goes) = goes

-- ---- the first gap of a text

split_here : (n : ℕ) (text : List ℕ) → n < length text → text ≡ take n text ++ get_or text n 0 ∷ drop (n + 1) text
split_here n [] within = absurd (omega (arith, within))
split_here zero (b ∷ bs) within = refl
split_here (suc n) (b ∷ bs) within = ap (λ t. b ∷ t) (split_here n bs (omega (arith, within)))
    ∙ ap (λ k. take (suc n) (b ∷ bs) ++ get_or (b ∷ bs) (suc n) 0 ∷ drop k (b ∷ bs)) (let next : suc (n + 1) ≡ suc n + 1 = omega arith in next)

no_gap_within : (a : List ℕ) (gap : ℕ) (b : List ℕ) → is_gap gap ≡ true → IsSolid (a ++ gap ∷ b) → ⊥
no_gap_within [] gap b is solid = false≢true (sym (solid_head gap b solid) ∙ is)
no_gap_within (x ∷ xs) gap b is solid = no_gap_within xs gap b is (solid_tail x (xs ++ gap ∷ b) solid)

pub no_gap : (gap : ℕ) (text : List ℕ) (end : ℕ) → length text ≤ end → is_gap gap ≡ true → IsSolid (take end text) → HasNoCut gap text
no_gap gap text end past is solid = record { none = λ token behind only same. no_gap_within token gap behind is (subst IsSolid (take_all end text past ∙ same) solid) }

pub other_gap : (gap : ℕ) (text : List ℕ) (end : ℕ) → end < length text → is_gap gap ≡ true → IsSolid (take end text) → is_gap (get_or text end 0) ≡ true → get_or text end 0 ≢ gap → HasNoCut gap text
other_gap gap text end within is solid here differs = record {
  none = λ token behind only same. differs (cut_same (take end text) token (get_or text end 0) gap (drop (end + 1) text) behind solid only here is (sym (split_here end text within) ∙ same)).gap;
}

pub this_gap : (gap : ℕ) (text : List ℕ) (end : ℕ) → end < length text → IsSolid (take end text) → get_or text end 0 ≡ gap → CutsAt gap text (take end text) (drop (end + 1) text)
this_gap gap text end within solid is = record { split = split_here end text within ∙ ap (λ g. take end text ++ g ∷ drop (end + 1) text) is; solid = solid }

pub cut_less : (gap : ℕ) (text token behind : List ℕ) → CutsAt gap text token behind → length behind < length text
cut_less gap text token behind cut = omega (arith, ap length cut.split, length-append token (gap ∷ behind))
