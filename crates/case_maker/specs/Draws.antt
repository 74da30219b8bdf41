-- The states of a case, and the numbers that are drawn at them.
use Rattle.std.specs.Prelude.{ℕ, zero, suc, ◌+◌, ◌*◌, ◌/◌, ◌%◌}

-- the state after s
unfoldable pub next_state : ℕ → ℕ
next_state s = (s * 25173 + 13849) % 65536

-- the state after so many draws; a case's first state is its number
abbrev pub draw_state : ℕ → ℕ → ℕ
draw_state first zero = first
draw_state first (suc draws) = next_state (draw_state first draws)

-- the number below `limit` that is drawn at a state
abbrev pub drawn_at : ℕ → ℕ → ℕ
drawn_at s limit = (s / 8) % limit

-- draw number n, the first of which is draw 1: a number below `limit`
abbrev pub draw : ℕ → ℕ → ℕ → ℕ
draw first n limit = drawn_at (draw_state first n) limit
