-- The number of a text, and whether it lies within limits.
use Rattle.std.proofs.Common.{◌≡◌, ◌<◌, ◌^◌, ℕ, List, Some, sym, ◌∙◌, arith}
use Rattle.std.specs.Prelude.{decimal}
use Rattle.text_lines.proofs.Decimals.{wide, one_number}
use Rattle.word_line.specs.Words.{IsNumber}

-- no number within the limits is written but the one that is read
pub is_read : (text : List ℕ) (least most read n : ℕ) → most < 2 ^ 32 → read < 2 ^ 128 → text ≡ decimal read
    → IsNumber least most 0 (Some text) n → n ≡ read
is_read text least most read n small wide_read is h =
    one_number n read (omega (arith, h.within, small)) (wide read wide_read) (sym h.written ∙ is)
