-- Where lines end.
use Rattle.std.proofs.Common.{◌≡◌, ℕ, ◌+◌, ◌-◌, ◌<◌, Bool, true, false, not, List, length, take, drop, get_or, Some, None, refl, ◌∙◌, ap, arith}
use Rattle.std.specs.List.{after_last, suffix_len}
use Rattle.std.proofs.lemmas.List.{take_all}
use Rattle.std.proofs.lemmas.List.Sums.{position_or_len_is, suffix_len_is}
use Rattle.memchr.specs.Find.{IsFirstByte, IsLastByte, is_byte}
use Rattle.c_tree.specs.Tokens.Characters.{is_line_feed}
use Rattle.c_tree.specs.Tokens.Lexing.{line_of}
use Rattle.std.proofs.lemmas.Bool.{false_from_ne_true}

-- ---- the rest of this line

pub line_to_feed : (here : List ℕ) (end : ℕ) → IsFirstByte (is_byte 10) here (Some end) → line_of here ≡ take end here
unfolding line_of is_line_feed
line_to_feed here end found =
    let high : end < length here = found.0.high in
    ap (λ (n : ℕ). take n here)
    (position_or_len_is is_line_feed here end 0 (omega arith) (λ k below. false_from_ne_true (is_line_feed (get_or here k 0)) (found.0.before k (omega arith) below)) (λ _. found.1))

pub line_to_end : (here : List ℕ) → IsFirstByte (is_byte 10) here None → line_of here ≡ here
unfolding line_of is_line_feed
line_to_end here none =
    ap (λ (n : ℕ). take n here)
    (position_or_len_is is_line_feed here (length here) 0 (omega arith) (λ k below. false_from_ne_true (is_line_feed (get_or here k 0)) (none k (omega arith) below)) (λ h. absurd (omega arith)))
    ∙ take_all (length here) here (omega arith)

-- ---- the line so far

is_other : (hay : List ℕ) (k : ℕ) → (is_byte 10 (get_or hay k 0) ≡ true → ⊥) → not (is_line_feed (get_or hay k 0)) ≡ true
unfolding is_line_feed
is_other hay k h = rw (false_from_ne_true (is_byte 10 (get_or hay k 0)) h) refl

pub last_from_feed : (before : List ℕ) (feed : ℕ) → IsLastByte (is_byte 10) before (Some feed) → drop (feed + 1) before ≡ after_last is_line_feed before
unfolding is_line_feed
last_from_feed before feed found =
    let high : feed < length before = found.0.high in
    let size : suffix_len (λ c. not (is_line_feed c)) before ≡ length before - (feed + 1) = suffix_len_is (λ c. not (is_line_feed c)) before (feed + 1) 0 (omega arith) (λ k from below. is_other before k (found.0.after k from below)) (λ _. at_feed) in
    let from : feed + 1 ≡ length before - suffix_len (λ c. not (is_line_feed c)) before = omega arith in
    ap (λ (n : ℕ). drop n before) from
  where
    same : feed + 1 - 1 ≡ feed
    same = omega arith

    at_feed : not (is_line_feed (get_or before (feed + 1 - 1) 0)) ≡ false
    at_feed = rw (same, found.1) refl

pub last_from_start : (before : List ℕ) → IsLastByte (is_byte 10) before None → before ≡ after_last is_line_feed before
unfolding is_line_feed
last_from_start before none =
    let size : suffix_len (λ c. not (is_line_feed c)) before ≡ length before - 0 = suffix_len_is (λ c. not (is_line_feed c)) before 0 0 (omega arith) (λ k from below. is_other before k (none k from below)) (λ h. absurd (omega arith)) in
    let from : 0 ≡ length before - suffix_len (λ c. not (is_line_feed c)) before = omega arith in
    ap (λ (n : ℕ). drop n before) from
