-- A whole line of a text of one or two lines is one of these.
use Rattle.std.proofs.Common.{◌≡◌, ℕ, ◌+◌, ◌%◌, ◌^◌, ◌<◌, ◌⊎◌, inl, inr, List, [], ◌∷◌, ◌++◌, length, refl, sym, ◌∙◌, ap, arith, length-append}
use Rattle.std.specs.Prelude.{codes}
use Rattle.std.specs.Fmt.{decimal}
use Rattle.std.specs.Str.Parse.{digits_value}
use Rattle.std.proofs.lemmas.Fmt.{decimal_by_steps_wide, decimal_is_IsNumeral_wide}
use Rattle.squeeze_top.specs.Answers.{bound_line, ipet_line, ipet_lines}
use Rattle.text_lines.specs.Whole.{AreWholeLines}
use Rattle.std.proofs.lemmas.List.{append_assoc}

-- ---- bytes without a line feed

abbrev NoFeed : List ℕ → Type 0
NoFeed [] = Unit {0}
NoFeed (b ∷ bs) = (b ≡ 10 → ⊥) × NoFeed bs

no_feed-append : (a b : List ℕ) → NoFeed a → NoFeed b → NoFeed (a ++ b)
no_feed-append [] b h k = k
no_feed-append (x ∷ a) b h k = (h.0, no_feed-append a b h.1 k)

digits : (n : ℕ) → n < 2 ^ 128 → NoFeed (decimal n)
digits n small = decimal_by_steps_wide (λ m ds. NoFeed ds) (λ m h. ((λ e. omega (arith, e)), tt))
    (λ m ds h all. no_feed-append ds ((48 + m % 10) ∷ []) all ((λ e. omega (arith, e)), tt)) n (omega (arith, small))

same_number : (m n : ℕ) → m < 2 ^ 128 → n < 2 ^ 128 → decimal m ≡ decimal n → m ≡ n
same_number m n small_m small_n same =
    sym ((decimal_is_IsNumeral_wide m (omega (arith, small_m))).1) ∙ ap (digits_value 10) same ∙ (decimal_is_IsNumeral_wide n (omega (arith, small_n))).1

-- ---- the first line feed

nothing_ends : (x b : List ℕ) → x ++ 10 ∷ b ≡ [] → ⊥
nothing_ends x b h = absurd (omega (arith, ap length h, length-append x (10 ∷ b)))

-- behind a line feed stands what is behind the first one, or a part of it behind another one
behind_feed : (w x a b : List ℕ) → NoFeed w → w ++ 10 ∷ a ≡ x ++ 10 ∷ b → (b ≡ a) ⊎ ((rest : List ℕ) × (a ≡ rest ++ 10 ∷ b))
behind_feed [] [] a b none same = let tail : a ≡ b = cc in inl (sym tail)
behind_feed [] (c ∷ x) a b none same = let tail : a ≡ x ++ 10 ∷ b = cc in inr (x, tail)
behind_feed (d ∷ w) [] a b none same = let first : d ≡ 10 = cc in absurd (none.0 first)
behind_feed (d ∷ w) (c ∷ x) a b none same = let tail : w ++ 10 ∷ a ≡ x ++ 10 ∷ b = cc in behind_feed w x a b none.1 tail

-- bytes up to the first line feed
up_to_feed : (w v a b : List ℕ) → NoFeed w → NoFeed v → w ++ 10 ∷ a ≡ v ++ 10 ∷ b → w ≡ v
up_to_feed [] [] a b one other same = refl
up_to_feed [] (c ∷ v) a b one other same = let first : 10 ≡ c = cc in absurd (other.0 (sym first))
up_to_feed (d ∷ w) [] a b one other same = let first : d ≡ 10 = cc in absurd (one.0 first)
up_to_feed (d ∷ w) (c ∷ v) a b one other same =
    let first : d ≡ c = cc in
    let tail : w ++ 10 ∷ a ≡ v ++ 10 ∷ b = cc in
    ap (λ y. y ∷ w) first ∙ ap (λ ys. c ∷ ys) (up_to_feed w v a b one.1 other.1 tail)

-- ---- whole lines

-- of a text that is one line
one_line : (w v front rest : List ℕ) → NoFeed w → NoFeed v → AreWholeLines front → w ++ 10 ∷ [] ≡ front ++ (v ++ 10 ∷ rest) → w ≡ v
one_line w v front rest one other (inl e) same = up_to_feed w v [] rest one other (same ∙ ap (λ f. f ++ (v ++ 10 ∷ rest)) e)
one_line w v front rest one other (inr e) same =
    later (behind_feed w e.0 [] (v ++ 10 ∷ rest) one (same ∙ ap (λ f. f ++ (v ++ 10 ∷ rest)) e.1 ∙ append_assoc e.0 (10 ∷ []) (v ++ 10 ∷ rest)))
  where
    later : ((v ++ 10 ∷ rest ≡ []) ⊎ ((x : List ℕ) × ([] ≡ x ++ 10 ∷ (v ++ 10 ∷ rest)))) → w ≡ v
    later (inl h) = absurd (nothing_ends v rest h)
    later (inr h) = absurd (nothing_ends h.0 (v ++ 10 ∷ rest) (sym h.1))

-- of a text that is two lines
two_lines : (w u v front rest : List ℕ) → NoFeed w → NoFeed u → NoFeed v → AreWholeLines front
    → w ++ 10 ∷ (u ++ 10 ∷ []) ≡ front ++ (v ++ 10 ∷ rest) → (w ≡ v) ⊎ (u ≡ v)
two_lines w u v front rest one two other (inl e) same = inl (up_to_feed w v (u ++ 10 ∷ []) rest one other (same ∙ ap (λ f. f ++ (v ++ 10 ∷ rest)) e))
two_lines w u v front rest one two other (inr e) same =
    later (behind_feed w e.0 (u ++ 10 ∷ []) (v ++ 10 ∷ rest) one (same ∙ ap (λ f. f ++ (v ++ 10 ∷ rest)) e.1 ∙ append_assoc e.0 (10 ∷ []) (v ++ 10 ∷ rest)))
  where
    later : ((v ++ 10 ∷ rest ≡ u ++ 10 ∷ []) ⊎ ((x : List ℕ) × (u ++ 10 ∷ [] ≡ x ++ 10 ∷ (v ++ 10 ∷ rest)))) → (w ≡ v) ⊎ (u ≡ v)
    later (inl h) = inr (up_to_feed u v [] rest two other (sym h))
    later (inr h) = absurd (none (behind_feed u h.0 [] (v ++ 10 ∷ rest) two h.1))
      where
        none : ((v ++ 10 ∷ rest ≡ []) ⊎ ((x : List ℕ) × ([] ≡ x ++ 10 ∷ (v ++ 10 ∷ rest)))) → ⊥
        none (inl k) = nothing_ends v rest k
        none (inr k) = nothing_ends k.0 (v ++ 10 ∷ rest) (sym k.1)

-- ---- lines with a number

-- the first byte
abbrev mark : List ℕ → ℕ
mark [] = 0
mark (x ∷ xs) = x

-- what stands before a number, and it; none of it a line feed
numbered : (word : List ℕ) (n : ℕ) → NoFeed word → n < 2 ^ 128 → NoFeed (word ++ decimal n)
numbered word n none small = no_feed-append word (decimal n) none (digits n small)

bound_feedless : NoFeed (codes "bound ")
bound_feedless = ((λ e. cc), ((λ e. cc), ((λ e. cc), ((λ e. cc), ((λ e. cc), ((λ e. cc), tt))))))

-- the one whole line of the text of a bound is that of the bound
pub bound_told : (m n : ℕ) (front rest : List ℕ) → m < 2 ^ 128 → n < 2 ^ 128 → AreWholeLines front → bound_line m ≡ front ++ (bound_line n ++ rest) → m ≡ n
bound_told m n front rest small_m small_n lines same =
    let w = codes "bound " ++ decimal m in
    let v = codes "bound " ++ decimal n in
    let is : w ≡ v = one_line w v front rest (numbered (codes "bound ") m bound_feedless small_m) (numbered (codes "bound ") n bound_feedless small_n) lines
    (same ∙ ap (λ l. front ++ l) (append_assoc v (10 ∷ []) rest)) in
    let tail : decimal m ≡ decimal n = cc in
    same_number m n small_m small_n tail

blocks_feedless : NoFeed (codes "blocks ")
blocks_feedless = ((λ e. cc), ((λ e. cc), ((λ e. cc), ((λ e. cc), ((λ e. cc), ((λ e. cc), ((λ e. cc), tt)))))))

ipet_feedless : NoFeed (codes "ipet ")
ipet_feedless = ((λ e. cc), ((λ e. cc), ((λ e. cc), ((λ e. cc), ((λ e. cc), tt)))))

split_lines : (copies m : ℕ) → ipet_lines copies m ≡ (codes "blocks " ++ decimal copies) ++ 10 ∷ ((codes "ipet " ++ decimal m) ++ 10 ∷ [])
split_lines copies m = ap (λ l. l ++ codes "\n") (append_assoc (codes "blocks " ++ decimal copies) (codes "\nipet ") (decimal m))
    ∙ append_assoc (codes "blocks " ++ decimal copies) (codes "\nipet " ++ decimal m) (codes "\n")

-- the line of a bound of the two lines of block copies and a bound is that of the bound
pub ipet_told : (copies m n : ℕ) (front rest : List ℕ) → copies < 2 ^ 128 → m < 2 ^ 128 → n < 2 ^ 128 → AreWholeLines front
    → ipet_lines copies m ≡ front ++ (ipet_line n ++ rest) → m ≡ n
ipet_told copies m n front rest small small_m small_n lines same =
    let w = codes "blocks " ++ decimal copies in
    let u = codes "ipet " ++ decimal m in
    let v = codes "ipet " ++ decimal n in
    found (two_lines w u v front rest (numbered (codes "blocks ") copies blocks_feedless small) (numbered (codes "ipet ") m ipet_feedless small_m)
    (numbered (codes "ipet ") n ipet_feedless small_n) lines (sym (split_lines copies m) ∙ same ∙ ap (λ l. front ++ l) (append_assoc v (10 ∷ []) rest)))
  where
    found : (codes "blocks " ++ decimal copies ≡ codes "ipet " ++ decimal n) ⊎ (codes "ipet " ++ decimal m ≡ codes "ipet " ++ decimal n) → m ≡ n
    found (inl h) = let first : 98 ≡ 105 = ap mark h in absurd (omega (arith, first))
    found (inr h) = let tail : decimal m ≡ decimal n = cc in same_number m n small_m small_n tail
