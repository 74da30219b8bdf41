-- Lines with the same text are the same, and each ends in its line feed.
use Rattle.std.proofs.Common.{◌≡◌, ℕ, ◌+◌, ◌==◌, not, false, Option, Some, None, List, [], ◌∷◌, ◌++◌, length, codes, refl, sym, ◌∙◌, ap, arith, append_assoc, length-append, ne_eqb, eq-eqb, get_or, ◌*◌}
use Rattle.std.proofs.lemmas.Bool.{false≢true}
use Rattle.std.specs.Fmt.{decimal}
use Rattle.std.proofs.lemmas.List.Folds.{list_all-append}
use Rattle.text_lines.specs.Cutting.{HasNoFeed, EndsInFeed}
use Rattle.report_text.specs.declared.report.ReportLine.{ReportLine}
use Rattle.report_text.specs.declared.report.ReportLine.TheVariants.{Copies, Ipet, Bound, Found, Exact, Input, Nothing, Inexact, Best, Spent as SpentLine}
use Rattle.report_text.specs.declared.report.Spent.{Spent}
use Rattle.report_text.specs.declared.report.Spent.TheVariants.{Turns, Conflicts, Weight}
use Rattle.report_text.specs.declared.stage.Stage.{Stage}
use Rattle.report_text.specs.declared.stage.Stage.TheVariants.{Start, BehindCopies, Watching, BehindExact, BehindInexact, BehindBest}
use Rattle.report_text.specs.Texts.{line_text, behind_blank, maybe_text, spent_name, numbered_line}
use Rattle.report_text.specs.Conditions.{IsCost, MayBeCost}
use Rattle.report_text.specs.Form.{Allows}
use Rattle.report_text.specs.WholeLines.{IsLine}
use Rattle.text_lines.proofs.Decimals.{one_number}
use Rattle.report_text.proofs.Decimals.{AreDigits, digits, closed}
use Rattle.text_lines.proofs.Decimals.{wide}

pub line_of : (stage : Stage) (line : ReportLine) → Allows stage line → IsLine line
line_of Start (Copies n) h = omega (arith, h)
line_of BehindCopies (Ipet n) h = h
line_of (Watching before) (Bound bound) h = h.0
line_of (Watching (Some before)) (Found n) h = h.0
line_of (Watching before) (Exact n) h = h
line_of (Watching before) Nothing h = tt
line_of (Watching before) (Inexact n) h = h
line_of BehindExact (Input input) h = h.0
line_of BehindInexact (Best best) h = h
line_of BehindBest (SpentLine spent n) h = omega (arith, h.0)
line_of stage line h = absurd h

same_number_text : (m n : ℕ) → IsCost m → IsCost n → decimal m ++ 10 ∷ [] ≡ decimal n ++ 10 ∷ [] → m ≡ n
same_number_text m n small_m small_n same = one_number m n (wide m small_m) (wide n small_n) (closed (decimal m) (decimal n) [] (digits n (wide n small_n)) same).0

-- the bytes that tell a line's word
abbrev mark : List ℕ → ℕ
mark text = get_or text 0 0 * 65536 + get_or text 1 0 * 256 + get_or text 2 0

abbrev first_byte : List ℕ → ℕ
first_byte text = get_or text 0 0

differ : (m n : ℕ) → (m == n) ≡ false → m ≡ n → ⊥
differ m n other same = false≢true (sym other ∙ eq-eqb m n same)

none_apart : (ds more : List ℕ) → AreDigits ds → 110 ∷ more ≡ ds ++ 10 ∷ [] → ⊥
none_apart [] more all same = differ (first_byte (110 ∷ more)) 10 refl (ap first_byte same)
none_apart (d ∷ ds) more all same = let first : 110 ≡ d = cc in omega (arith, all.1, first)

same_maybe : (a b : Option ℕ) → MayBeCost a → MayBeCost b → maybe_text a ≡ maybe_text b → a ≡ b
same_maybe None None one other same = refl
same_maybe None (Some n) one other same = absurd (none_apart (decimal n) (codes "one\n") (digits n (wide n other)) same)
same_maybe (Some m) None one other same = absurd (none_apart (decimal m) (codes "one\n") (digits m (wide m one)) (sym same))
same_maybe (Some m) (Some n) one other same = ap (λ k. Some k) (same_number_text m n one other same)

pub same_back : (a b : List ℕ) → a ++ 10 ∷ [] ≡ b ++ 10 ∷ [] → a ≡ b
same_back [] [] same = refl
same_back [] (b ∷ bs) same = let tail : [] ≡ bs ++ 10 ∷ [] = cc in absurd (omega (arith, ap length tail, length-append bs (10 ∷ [])))
same_back (a ∷ ats) [] same = let tail : ats ++ 10 ∷ [] ≡ [] = cc in absurd (omega (arith, ap length tail, length-append ats (10 ∷ [])))
same_back (a ∷ ats) (b ∷ bs) same =
    let first : a ≡ b = cc in
    let tail : ats ++ 10 ∷ [] ≡ bs ++ 10 ∷ [] = cc in
    ap (λ z. z ∷ ats) first ∙ ap (λ zs. b ∷ zs) (same_back ats bs tail)

same_input : (a b : List ℕ) → behind_blank a ++ 10 ∷ [] ≡ behind_blank b ++ 10 ∷ [] → a ≡ b
same_input [] [] same = refl
same_input [] (b ∷ bs) same = absurd (differ 10 32 refl (ap first_byte same))
same_input (a ∷ ats) [] same = absurd (differ 32 10 refl (ap first_byte same))
same_input (a ∷ ats) (b ∷ bs) same = let tail : (a ∷ ats) ++ 10 ∷ [] ≡ (b ∷ bs) ++ 10 ∷ [] = cc in same_back (a ∷ ats) (b ∷ bs) tail

record SameSpent (a b : Spent) (m n : ℕ) : Type 0 where
  spent : a ≡ b
  number : decimal m ++ 10 ∷ [] ≡ decimal n ++ 10 ∷ []

same_spent : (a b : Spent) (m n : ℕ) → numbered_line (spent_name a) m ≡ numbered_line (spent_name b) n → SameSpent a b m n
same_spent Turns Turns m n same = record { spent = refl; number = cc }
same_spent Conflicts Conflicts m n same = record { spent = refl; number = cc }
same_spent Weight Weight m n same = record { spent = refl; number = cc }
same_spent a b m n same = absurd (differ (mark (numbered_line (spent_name a) m)) (mark (numbered_line (spent_name b) n)) refl (ap mark same))

pub one_line : (a b : ReportLine) → IsLine a → IsLine b → line_text a ≡ line_text b → a ≡ b
one_line (Copies m) (Copies n) one other same = let tail : decimal m ++ 10 ∷ [] ≡ decimal n ++ 10 ∷ [] = cc in ap (λ k. Copies k) (same_number_text m n one other tail)
one_line (Ipet m) (Ipet n) one other same = let tail : decimal m ++ 10 ∷ [] ≡ decimal n ++ 10 ∷ [] = cc in ap (λ k. Ipet k) (same_number_text m n one other tail)
one_line (Bound a) (Bound b) one other same = let tail : maybe_text a ≡ maybe_text b = cc in ap (λ k. Bound k) (same_maybe a b one other tail)
one_line (Found m) (Found n) one other same = let tail : decimal m ++ 10 ∷ [] ≡ decimal n ++ 10 ∷ [] = cc in ap (λ k. Found k) (same_number_text m n one other tail)
one_line (Exact m) (Exact n) one other same = let tail : decimal m ++ 10 ∷ [] ≡ decimal n ++ 10 ∷ [] = cc in ap (λ k. Exact k) (same_number_text m n one other tail)
one_line (Input a) (Input b) one other same = let tail : behind_blank a ++ 10 ∷ [] ≡ behind_blank b ++ 10 ∷ [] = cc in ap (λ i. Input i) (same_input a b tail)
one_line Nothing Nothing one other same = refl
one_line (Inexact m) (Inexact n) one other same = let tail : decimal m ++ 10 ∷ [] ≡ decimal n ++ 10 ∷ [] = cc in ap (λ k. Inexact k) (same_number_text m n one other tail)
one_line (Best a) (Best b) one other same = let tail : maybe_text a ≡ maybe_text b = cc in ap (λ k. Best k) (same_maybe a b one other tail)
one_line (SpentLine a m) (SpentLine b n) one other same =
    let tail : numbered_line (spent_name a) m ≡ numbered_line (spent_name b) n = cc in
    let parts = same_spent a b m n tail in
    ap (λ s. SpentLine s m) parts.spent ∙ ap (λ k. SpentLine b k) (same_number_text m n one other parts.number)
one_line a b one other same = absurd (differ (mark (line_text a)) (mark (line_text b)) refl (ap mark same))

-- ---- line feeds

feedless : (ds : List ℕ) → AreDigits ds → HasNoFeed ds
feedless [] all = refl
feedless (d ∷ ds) all = rw (ne_eqb d 10 (λ e. omega (arith, e, all.0)), feedless ds all.2) refl

behind : (words visible : List ℕ) → HasNoFeed words → HasNoFeed visible → EndsInFeed (words ++ (visible ++ 10 ∷ []))
behind words visible one other = record {
  visible = words ++ visible;
  is = sym (append_assoc words visible (10 ∷ []));
  no_feed = list_all-append (λ b. not (b == 10)) words visible ∙ rw (one, other) refl;
}

number_ends : (words : List ℕ) (n : ℕ) → IsCost n → HasNoFeed words → EndsInFeed (words ++ (decimal n ++ 10 ∷ []))
number_ends words n small one = behind words (decimal n) one (feedless (decimal n) (digits n (wide n small)))

maybe_ends : (words : List ℕ) (a : Option ℕ) → MayBeCost a → HasNoFeed words → EndsInFeed (words ++ maybe_text a)
maybe_ends words None small one = behind words (codes "none") one refl
maybe_ends words (Some n) small one = number_ends words n small one

blank_feedless : (input : List ℕ) → HasNoFeed input → HasNoFeed (behind_blank input)
blank_feedless [] one = refl
blank_feedless (b ∷ bs) one = one

pub line_ends : (line : ReportLine) → IsLine line → EndsInFeed (line_text line)
line_ends (Copies n) h = number_ends (codes "blocks ") n h refl
line_ends (Ipet n) h = number_ends (codes "ipet ") n h refl
line_ends (Bound bound) h = maybe_ends (codes "bound ") bound h refl
line_ends (Found n) h = number_ends (codes "found ") n h refl
line_ends (Exact n) h = number_ends (codes "exact ") n h refl
line_ends (Input input) h = behind (codes "input") (behind_blank input) refl (blank_feedless input h)
line_ends Nothing h = behind [] (codes "none") refl refl
line_ends (Inexact n) h = number_ends (codes "inexact ") n h refl
line_ends (Best best) h = maybe_ends (codes "best ") best h refl
line_ends (SpentLine Turns n) h = number_ends (codes "spent turns ") n h refl
line_ends (SpentLine Conflicts n) h = number_ends (codes "spent conflicts ") n h refl
line_ends (SpentLine Weight n) h = number_ends (codes "spent weight ") n h refl
