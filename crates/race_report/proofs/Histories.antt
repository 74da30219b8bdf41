-- Histories that go on.
use Rattle.std.proofs.Common.{◌≡◌, List, [], ◌∷◌, ◌++◌, refl}
use Rattle.board_core.specs.declared.event.Entry.{Entry}
use Rattle.board_core.specs.Machine.{Setup, State, step, state_after_entries}
use Rattle.board_core.specs.Conditions.{LegalFrom}

pub after_both : (s : State) (front rest : List Entry) → state_after_entries s (front ++ rest) ≡ state_after_entries (state_after_entries s front) rest
after_both s [] rest = refl
after_both s (e ∷ front) rest = after_both (step s e) front rest

pub legal_front : (u : Setup) (s : State) (front rest : List Entry) → LegalFrom u s (front ++ rest) → LegalFrom u s front
legal_front u s [] rest legal = tt
legal_front u s (e ∷ front) rest legal = (legal.0, legal_front u (step s e) front rest legal.1)

pub legal_rest : (u : Setup) (s : State) (front rest : List Entry) → LegalFrom u s (front ++ rest) → LegalFrom u (state_after_entries s front) rest
legal_rest u s [] rest legal = legal
legal_rest u s (e ∷ front) rest legal = legal_rest u (step s e) front rest legal.1
