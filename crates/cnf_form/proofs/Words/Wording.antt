-- The words of a text, cut off one by one.
use Rattle.std.proofs.Common.{◌≡◌, ℕ, suc, zero, ◌<◌, ◌≤◌, true, false, not, List, [], ◌∷◌, ◌++◌, length, get_or, take, drop, filter, refl, sym, ◌∙◌, ap, arith, append_assoc, add-zero}
use Rattle.std.specs.List.{list_all}
use Rattle.std.proofs.lemmas.Bool.{false≢true, not-true, and_parts}
use Rattle.std.proofs.lemmas.List.{get_or-drop, length-drop, length-take-le, take-append-drop}
use Rattle.cnf_form.specs.Forms.{is_gap, pieces, has_bytes, words}
use Rattle.cnf_form.specs.Words.{AreGaps, IsSolid, CutsWord}

pub words-gaps : (gaps text : List ℕ) → AreGaps gaps → words (gaps ++ text) ≡ words text
words-gaps [] text blank = refl
words-gaps (b ∷ bs) text blank =
    let parts = and_parts (is_gap b) (list_all is_gap bs) blank in
    rw parts.0 (words-gaps bs text parts.1)

pieces-solid : (word rest : List ℕ) (first : List ℕ) (more : List (List ℕ)) → IsSolid word → pieces rest ≡ first ∷ more → pieces (word ++ rest) ≡ (word ++ first) ∷ more
pieces-solid [] rest first more solid is = is
pieces-solid (b ∷ bs) rest first more solid is =
    let parts = and_parts (not (is_gap b)) (list_all (λ b. not (is_gap b)) bs) solid in
    rw (not-true (is_gap b) parts.0, pieces-solid bs rest first more parts.1 is) refl

append_nil : (l : List ℕ) → l ++ [] ≡ l
append_nil [] = refl
append_nil (x ∷ xs) = ap (λ ys. x ∷ ys) (append_nil xs)

-- a word ends at a gap
pub words-solid : (word rest : List ℕ) (gap : ℕ) → IsSolid word → 0 < length word → is_gap gap ≡ true → words (word ++ gap ∷ rest) ≡ word ∷ words rest
words-solid [] rest gap solid some is = absurd (omega (arith, some))
words-solid (b ∷ bs) rest gap solid some is =
    ap (filter has_bytes) (pieces-solid (b ∷ bs) (gap ∷ rest) [] (pieces rest) solid (rw is refl) ∙ ap (λ w. w ∷ pieces rest) (append_nil (b ∷ bs)))

-- and at the end of the text
pub words-last : (word : List ℕ) → IsSolid word → 0 < length word → words word ≡ word ∷ []
words-last [] solid some = absurd (omega (arith, some))
words-last (b ∷ bs) solid some = ap words (sym (append_nil (b ∷ bs))) ∙ ap (filter has_bytes) (pieces-solid (b ∷ bs) [] [] [] solid refl ∙ ap (λ w. w ∷ []) (append_nil (b ∷ bs)))

-- a word with more behind it is whole
pub cut_whole : (text word rest more : List ℕ) → CutsWord text word rest → 0 < length rest → words (text ++ more) ≡ word ∷ words (rest ++ more)
cut_whole text word [] more cut some = absurd (omega (arith, some))
cut_whole text word (b ∷ bs) more cut some =
    let gap = cut.ends some in
    ap words (ap (λ t. t ++ more) cut.split ∙ append_assoc cut.gaps (word ++ b ∷ bs) more ∙ ap (λ t. cut.gaps ++ t) (append_assoc word (b ∷ bs) more))
    ∙ words-gaps cut.gaps (word ++ b ∷ (bs ++ more)) cut.blank
    ∙ words-solid word (bs ++ more) b cut.solid cut.some gap
    ∙ ap (λ ws. word ∷ ws) (sym (words-gaps (b ∷ []) (bs ++ more) (rw gap refl)))

-- one at the end of the text may go on
pub cut_open : (text word rest more : List ℕ) → CutsWord text word rest → length rest ≡ 0 → words (text ++ more) ≡ words (word ++ more)
cut_open text word (b ∷ bs) more cut none = absurd (omega (arith, none))
cut_open text word [] more cut none =
    ap words (ap (λ t. t ++ more) cut.split ∙ append_assoc cut.gaps (word ++ []) more ∙ ap (λ t. cut.gaps ++ t) (append_assoc word [] more))
    ∙ words-gaps cut.gaps (word ++ more) cut.blank

drop_first : (n : ℕ) (xs : List ℕ) → get_or (drop n xs) 0 0 ≡ get_or xs n 0
drop_first n xs = get_or-drop n xs 0 0 ∙ ap (λ k. get_or xs k 0) (add-zero n)

-- the first word
pub cut : (text : List ℕ) (start end : ℕ) → start < length text → AreGaps (take start text) → is_gap (get_or text start 0) ≡ false → end ≤ length (drop start text)
    → IsSolid (take end (drop start text)) → (end < length (drop start text) → is_gap (get_or (drop start text) end 0) ≡ true) → CutsWord text (take end (drop start text)) (drop end (drop start text))
cut text start zero within blank solid_start end_within solid ends =
    absurd (false≢true (sym solid_start ∙ sym (ap is_gap (drop_first start text)) ∙ ends (omega (arith, length-drop start text))))
cut text start (suc n) within blank solid_start end_within solid ends = record {
  gaps = take start text;
  blank = blank;
  split = sym (ap (λ t. take start text ++ t) (take-append-drop (suc n) (drop start text)) ∙ take-append-drop start text);
  some = omega (arith, length-take-le (suc n) (drop start text) end_within);
  solid = solid;
  ends = λ more. ap is_gap (drop_first (suc n) (drop start text)) ∙ ends (omega (arith, more, length-drop (suc n) (drop start text)));
}
