-- Words ask for one job at most.
use Rattle.std.proofs.Common.{◌≡◌, ◌<◌, ◌^◌, ℕ, List, Option, Some, None, refl, sym, ◌∙◌, arith}
use Rattle.std.proofs.lemmas.Fmt.{decimal_injective}
use Rattle.clap.specs.Walk.{Row}
use Rattle.word_line.specs.declared.job.Mode.{Mode}
use Rattle.word_line.specs.declared.job.Job.{Job}
use Rattle.word_line.specs.Words.{IsMode, IsWritten, IsNumber, IsJobOf, AskFor}

one_written : (default : ℕ) (value : Option (List ℕ)) (a b : ℕ) → a < 2 ^ 64 → b < 2 ^ 64 → IsWritten default value a
    → IsWritten default value b → a ≡ b
one_written default None a b small_a small_b h k = h ∙ sym k
one_written default (Some text) a b small_a small_b h k = decimal_injective a b small_a small_b (sym h ∙ k)

one_number : (least most default : ℕ) (value : Option (List ℕ)) (a b : ℕ) → most < 2 ^ 64
    → IsNumber least most default value a → IsNumber least most default value b → a ≡ b
one_number least most default value a b small h k =
    one_written default value a b (omega (arith, h.within, small)) (omega (arith, k.within, small)) h.written k.written

one_mode : (found : List Row) (a b : Mode) → IsMode found a → IsMode found b → a ≡ b
one_mode found a b h k = from_some a b (sym h.named ∙ k.named)
  where
    from_some : (a b : Mode) → Some a ≡ Some b → a ≡ b
    from_some a b h = cc

same_job : (a b : Job) → a.mode ≡ b.mode → a.file ≡ b.file → a.costs ≡ b.costs → a.entry ≡ b.entry
    → a.workers ≡ b.workers → a.turns ≡ b.turns → a.conflicts ≡ b.conflicts → a.input ≡ b.input
    → a.«case» ≡ b.«case» → a.size ≡ b.size → a.watch ≡ b.watch → a.table ≡ b.table → a ≡ b
same_job a b mode file costs entry workers turns conflicts input number size watch table =
    rw (mode, file, costs, entry, workers, turns, conflicts, input, number, size, watch, table) refl

one_found : (found : List Row) (a b : Job) → IsJobOf found a → IsJobOf found b → a ≡ b
one_found found a b h k =
    same_job a b (one_mode found a.mode b.mode h.mode k.mode) (h.file ∙ sym k.file) (h.costs ∙ sym k.costs)
    (h.entry ∙ sym k.entry) (h.workers ∙ sym k.workers)
    (one_number _ _ _ _ a.turns b.turns (omega arith) h.turns k.turns)
    (one_number _ _ _ _ a.conflicts b.conflicts (omega arith) h.conflicts k.conflicts)
    (h.input ∙ sym k.input) (one_number _ _ _ _ a.«case» b.«case» (omega arith) h.case_number k.case_number)
    (one_number _ _ _ _ a.size b.size (omega arith) h.size k.size) (h.watch ∙ sym k.watch) (h.table ∙ sym k.table)

pub one_job : (words : List (List ℕ)) (a b : Job) → AskFor words a → AskFor words b → a ≡ b
one_job words a b h k = one_found _ a b h.found k.found
