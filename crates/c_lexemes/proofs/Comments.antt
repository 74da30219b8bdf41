-- Where a block comment ends.
use Rattle.std.proofs.Common.{◌≡◌, ℕ, ◌+◌, true, List, length, take, drop, Some, None, refl, sym, ◌∙◌, ap, arith, codes, length-take, length-drop}
use Rattle.std.proofs.lemmas.Slice.Eq.{bytes_eq-Decides}
use Rattle.memchr.specs.Find.{FindsNeedle, OccursAt}
use Rattle.memchr.proofs.lemmas.MatchLemmas.{OccursAt-part, OccursAt-from_part}
use Rattle.c_tree.specs.Tokens.Lexing.{opens_block_comment, closes_at, IsBlockComment}
use Rattle.c_lexemes.specs.Unread.{IsOpenComment}
use Rattle.std.proofs.lemmas.Bool.{false_from_ne_true}

pub closes_fits : (bytes : List ℕ) (k : ℕ) → closes_at bytes k ≡ true → OccursAt bytes (codes "*/") k
unfolding closes_at
closes_fits bytes k e =
    let is : codes "*/" ≡ take 2 (drop k bytes) = (bytes_eq-Decides (codes "*/") (take 2 (drop k bytes))).0 e in
    let long = ap length is ∙ length-take 2 (drop k bytes) in
    let rest = length-drop k bytes in
    OccursAt-from_part bytes (codes "*/") k (omega arith) (sym is)

closes : (bytes : List ℕ) (k : ℕ) → OccursAt bytes (codes "*/") k → closes_at bytes k ≡ true
unfolding closes_at
closes bytes k occurs = (bytes_eq-Decides (codes "*/") (take 2 (drop k bytes))).1 (sym (OccursAt-part bytes (codes "*/") k occurs))

pub comment_closed : (here : List ℕ) (inside : ℕ) → opens_block_comment here ≡ true → FindsNeedle (drop 2 here) (codes "*/") 0 (Some inside) → IsBlockComment here (inside + 4)
comment_closed here inside opens found =
    record {
      opens = opens;
      inside = inside;
      closes = closes (drop 2 here) inside found.1;
      first = λ k below. false_from_ne_true (closes_at (drop 2 here) k) (λ h. found.0.before k (omega arith) below (closes_fits (drop 2 here) k h));
      size = refl;
    }

pub comment_open : (here : List ℕ) → opens_block_comment here ≡ true → FindsNeedle (drop 2 here) (codes "*/") 0 None → IsOpenComment here
comment_open here opens none =
    record {
      opens = opens;
      open_ = λ k. false_from_ne_true (closes_at (drop 2 here) k) (λ h. let occurs = closes_fits (drop 2 here) k h in let fits = occurs.fits in none k (omega arith) (omega arith) occurs);
    }
