-- A line before what may follow it.
use Rattle.std.proofs.Common.{◌≡◌, ℕ, ◌+◌, ◌<◌, Bool, true, false, not, ◌&&◌, ◌⊎◌, ◌==◌, eqb-true, List, [], ◌∷◌, ◌++◌, length, refl, sym, ◌∙◌, ap, arith, append_assoc, length-append, inl, inr}
use Rattle.std.specs.List.{list_all}
use Rattle.std.proofs.lemmas.Bool.{false≢true, not-true, and_parts}
use Rattle.std.proofs.lemmas.List.{append-nil}
use Rattle.std.proofs.lemmas.List.Folds.{list_all-append}
use Rattle.text_lines.specs.Lines.{lines_of}
use Rattle.text_lines.specs.Cutting.{HasNoFeed, EndsInFeed, IsUnfinished, AreLines, Anything}

-- ---- lines at a line feed

pub lines_feed : (xs ys : List ℕ) → HasNoFeed xs → lines_of (xs ++ 10 ∷ ys) ≡ (xs ++ 10 ∷ []) ∷ lines_of ys
lines_feed [] ys no_feed = refl
lines_feed (x ∷ xs) ys no_feed =
    let parts = and_parts (not (x == 10)) (list_all (λ b. not (b == 10)) xs) no_feed in
    rw (not-true (x == 10) parts.0, lines_feed xs ys parts.1) refl

lines_single : (x : ℕ) (xs : List ℕ) → HasNoFeed (x ∷ xs) → lines_of (x ∷ xs) ≡ (x ∷ xs) ∷ []
lines_single x [] no_feed = rw (not-true (x == 10) (and_parts (not (x == 10)) true no_feed).0) refl
lines_single x (y ∷ ys) no_feed =
    let parts = and_parts (not (x == 10)) (list_all (λ b. not (b == 10)) (y ∷ ys)) no_feed in
    rw (not-true (x == 10) parts.0, lines_single y ys parts.1) refl

-- a text without a line feed is one line
pub single : (text : List ℕ) → 0 < length text → HasNoFeed text → lines_of text ≡ text ∷ []
single [] some no_feed = absurd (omega (arith, some))
single (b ∷ bs) some no_feed = lines_single b bs no_feed

-- a text up to its first line feed
pub record Feeds (text : List ℕ) : Type 0 where
  pub visible : List ℕ
  pub rest : List ℕ
  pub no_feed : HasNoFeed visible
  pub is : text ≡ visible ++ 10 ∷ rest

pub feeds : (text : List ℕ) → HasNoFeed text ⊎ Feeds text
feeds [] = inl refl
feeds (b ∷ bs) = by_first (b == 10) refl (feeds bs)
  where
    by_first : (g : Bool) → (b == 10) ≡ g → HasNoFeed bs ⊎ Feeds bs → HasNoFeed (b ∷ bs) ⊎ Feeds (b ∷ bs)
    by_first true e rest = inr (record { visible = []; rest = bs; no_feed = refl; is = ap (λ c. c ∷ bs) (eqb-true b 10 e) })
    by_first false e (inl no_feed) = inl (rw e no_feed)
    by_first false e (inr more) = inr (record { visible = b ∷ more.visible; rest = more.rest; no_feed = rw e more.no_feed; is = ap (λ t. b ∷ t) more.is })

pub not_both : (line : List ℕ) → EndsInFeed line → IsUnfinished line → ⊥
not_both line ends unfinished =
    let split : (list_all (λ b. not (b == 10)) ends.visible && false) ≡ true = sym (list_all-append (λ b. not (b == 10)) ends.visible (10 ∷ [])) ∙ ap (list_all (λ b. not (b == 10))) (sym ends.is) ∙ unfinished.no_feed in
    false≢true (sym (and_false (list_all (λ b. not (b == 10)) ends.visible)) ∙ split)
  where
    and_false : (a : Bool) → (a && false) ≡ false
    and_false true = refl
    and_false false = refl

pub some_line : (line : List ℕ) → EndsInFeed line → 0 < length line
some_line line ends = omega (arith, ap length ends.is, length-append ends.visible (10 ∷ []))

-- ---- one more line

-- a line, before what may follow it
pub record Joins (May : List ℕ → Type 0) (line : List ℕ) : Type 0 where
  pub lines : (more : List ℕ) → May more → lines_of (line ++ more) ≡ line ∷ lines_of more
  pub alone : lines_of line ≡ line ∷ []
  pub some : 0 < length line

pub joins_feed : (May : List ℕ → Type 0) (line : List ℕ) → EndsInFeed line → Joins May line
joins_feed May line ends = record {
  lines = λ more may. ap (λ l. lines_of (l ++ more)) ends.is ∙ ap lines_of (append_assoc ends.visible (10 ∷ []) more) ∙ lines_feed ends.visible more ends.no_feed ∙ ap (λ l. l ∷ lines_of more) (sym ends.is);
  alone = ap lines_of ends.is ∙ lines_feed ends.visible [] ends.no_feed ∙ ap (λ l. l ∷ []) (sym ends.is);
  some = some_line line ends;
}

pub joins_end : (May : List ℕ → Type 0) (line : List ℕ) → IsUnfinished line → ((more : List ℕ) → May more → more ≡ []) → Joins May line
joins_end May line unfinished last = record {
  lines = λ more may. ap (λ m. lines_of (line ++ m)) (last more may) ∙ ap lines_of (append-nil line) ∙ single line unfinished.some unfinished.no_feed ∙ ap (λ m. line ∷ lines_of m) (sym (last more may));
  alone = single line unfinished.some unfinished.no_feed;
  some = unfinished.some;
}

pub one_line : (May : List ℕ → Type 0) (before line : List ℕ) (n : ℕ) → AreLines Anything before n → Joins May line → AreLines May (before ++ line) (n + 1)
one_line May before line n lines joins = record {
  count = ap length (lines.whole line tt ∙ ap (λ ls. lines_of before ++ ls) joins.alone) ∙ length-append (lines_of before) (line ∷ []) ∙ ap (λ k. k + 1) lines.count;
  whole = λ more may. ap lines_of (append_assoc before line more) ∙ lines.whole (line ++ more) tt ∙ ap (λ ls. lines_of before ++ ls) (joins.lines more may)
      ∙ sym (append_assoc (lines_of before) (line ∷ []) (lines_of more)) ∙ ap (λ ls. ls ++ lines_of more) (sym (lines.whole line tt ∙ ap (λ ls. lines_of before ++ ls) joins.alone));
}
