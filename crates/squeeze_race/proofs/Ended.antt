-- Where a claim got nothing and nothing is taken, the race has ended.
use Rattle.std.proofs.Common.{◌≡◌, ◌+◌, ◌⊎◌, inl, inr, ℕ, Bool, true, false, refl, sym, ◌∙◌, eq-eqb}
use Rattle.std.specs.Prelude.{is_some}
use Rattle.std.proofs.lemmas.Bool.{false≢true}
use Rattle.board_core.specs.declared.event.Cause.{Cause}
use Rattle.board_core.specs.declared.claim.Claim.{Claim as Answer}
use Rattle.board_core.specs.declared.claim.Claim.TheVariants.{Got, Spent, Busy, Stalled, Done}
use Rattle.board_core.specs.Kinds.{is_open, is_free, is_taken}
use Rattle.board_core.specs.Machine.{Setup, State, taken_count}
use Rattle.board_core.specs.Showing.{first_end, some_above, is_spent, cause_of, end_of}
use Rattle.board_core.specs.Tickets.{TicketOf}
use Rattle.board_core.specs.Boards.{BoardOf}
use Rattle.board_core.specs.Calls.{Answers, HasNone, after_claim}

by_parts : (live free taken spent : Bool) (cause : Cause) → ((free ≡ true) × (spent ≡ true)) ⊎ ((free ≡ false) × (taken ≡ false))
    → is_some (first_end live free taken spent cause) ≡ true
by_parts false free taken spent cause h = refl
by_parts true true taken true cause h = refl
by_parts true true taken false cause (inl h) = absurd (false≢true h.1)
by_parts true true taken false cause (inr h) = absurd (false≢true (sym h.0))
by_parts true false false spent cause h = refl
by_parts true false true spent cause (inl h) = absurd (false≢true h.0)
by_parts true false true spent cause (inr h) = absurd (false≢true (sym h.1))

-- an answer that is no ticket, where no item is taken
pub ended : (u : Setup) (s : State) (who : ℕ) (a : Answer) → HasNone s is_taken → ((t : TicketOf) → a ≡ Got t → ⊥) → Answers u s who a → is_some (end_of u s) ≡ true
ended u s who (Got t) none got h = absurd (got t refl)
ended u s who Spent none got h =
    by_parts (some_above s.best is_open s.items) (some_above s.best is_free s.items) (some_above s.best is_taken s.items) (is_spent u s) (cause_of s)
    (inl (h.0, eq-eqb (s.settled + taken_count s.items) u.limits.turns h.1))
ended u s who Busy none got h = absurd (false≢true (sym none ∙ h.1))
ended u s who Stalled none got h =
    by_parts (some_above s.best is_open s.items) (some_above s.best is_free s.items) (some_above s.best is_taken s.items) (is_spent u s) (cause_of s) (inr (h.0, none))
ended u s who Done none got h =
    by_parts (some_above s.best is_open s.items) (some_above s.best is_free s.items) (some_above s.best is_taken s.items) (is_spent u s) (cause_of s) (inr (h.0, none))

-- it leaves the board
pub unclaimed : (b : BoardOf) (a : Answer) → ((t : TicketOf) → a ≡ Got t → ⊥) → after_claim b a ≡ b
unclaimed b (Got t) got = absurd (got t refl)
unclaimed b Spent got = refl
unclaimed b Busy got = refl
unclaimed b Stalled got = refl
unclaimed b Done got = refl
