-- What follows from what each status says, where nothing failed outside.
use Rattle.std.proofs.Common.{◌≡◌, ◌⊎◌, inl, inr, List, ℕ, Option, refl, sym, ◌∙◌, subst}
use Rattle.std.specs.Prelude.{IsTrue, IsSome}
use Rattle.wc_outside.specs.Contents.{Files}
use Rattle.wc_outside.specs.Growth.{Grew}
use Rattle.word_line.specs.declared.job.Job.{Job}
use Rattle.word_line.specs.Jobs.{is_plain}
use Rattle.front_end.specs.declared.refusal.Refusal.{Refusal}
use Rattle.front_end.specs.declared.status.Status.{Status}
use Rattle.front_end.specs.declared.status.Status.TheVariants as status
use Rattle.front_end.specs.Statuses.{status_of}
use Rattle.squeeze_top.specs.Jobs.{IsAnswer, AreRefused, Served}
use Rattle.squeeze_top.specs.Written.{Wrote}
use Rattle.squeeze_top.proofs.Agreeing.{one_answer, one_status, answered_stands, served_stands}

-- the one answer was written
pub answers : (s u : Status) (job : Job) (told : Option Files) (old new : Option (List ℕ)) (text : List ℕ) → IsSome told → IsTrue (is_plain job.mode)
    → (s ≡ status.ReadFault → ⊥) → (s ≡ status.WriteFault → ⊥) → Wrote s job told old new → IsAnswer job told u text
    → ((s ≡ u) × Grew old new text) ⊎ (s ≡ status.NoMemory)
answers status.Whole u job told old new text some plain unread unwritten w a =
    let same = one_answer job told status.Whole u w.text text some plain w.answer a in
    inl (same.0, subst (λ l. Grew old new l) same.1 w.written)
answers status.Inexact u job told old new text some plain unread unwritten w a =
    let same = one_answer job told status.Inexact u w.text text some plain w.answer a in
    inl (same.0, subst (λ l. Grew old new l) same.1 w.written)
answers status.Words u job told old new text some plain unread unwritten w a = absurd (answered_stands job told u text w.refusal some a w.refused)
answers status.Program u job told old new text some plain unread unwritten w a = absurd (answered_stands job told u text w.refusal some a w.refused)
answers status.Costs u job told old new text some plain unread unwritten w a = absurd (answered_stands job told u text w.refusal some a w.refused)
answers status.ReadFault u job told old new text some plain unread unwritten w a = absurd (unread refl)
answers status.WriteFault u job told old new text some plain unread unwritten w a = absurd (unwritten refl)
answers status.NoMemory u job told old new text some plain unread unwritten w a = inr refl

-- texts that are accepted were answered
pub completes : (s : Status) (job : Job) (told : Option Files) (old new : Option (List ℕ)) → IsSome told → Served job told
    → (s ≡ status.ReadFault → ⊥) → (s ≡ status.WriteFault → ⊥) → Wrote s job told old new
    → (s ≡ status.Whole) ⊎ ((s ≡ status.Inexact) ⊎ (s ≡ status.NoMemory))
completes status.Whole job told old new some served unread unwritten w = inl refl
completes status.Inexact job told old new some served unread unwritten w = inr (inl refl)
completes status.Words job told old new some served unread unwritten w = absurd (served_stands job told w.refusal some served w.refused)
completes status.Program job told old new some served unread unwritten w = absurd (served_stands job told w.refusal some served w.refused)
completes status.Costs job told old new some served unread unwritten w = absurd (served_stands job told w.refusal some served w.refused)
completes status.ReadFault job told old new some served unread unwritten w = absurd (unread refl)
completes status.WriteFault job told old new some served unread unwritten w = absurd (unwritten refl)
completes status.NoMemory job told old new some served unread unwritten w = inr (inr refl)

-- texts that are refused were refused, with the status of the refusal
pub refuses : (s : Status) (job : Job) (told : Option Files) (old new : Option (List ℕ)) (refusal : Refusal) → IsSome told → AreRefused job told refusal
    → (s ≡ status.ReadFault → ⊥) → (s ≡ status.WriteFault → ⊥) → Wrote s job told old new
    → (s ≡ status_of refusal) ⊎ (s ≡ status.NoMemory)
refuses status.Whole job told old new refusal some are unread unwritten w = absurd (answered_stands job told status.Whole w.text refusal some w.answer are)
refuses status.Inexact job told old new refusal some are unread unwritten w = absurd (answered_stands job told status.Inexact w.text refusal some w.answer are)
refuses status.Words job told old new refusal some are unread unwritten w = inl (sym w.same ∙ one_status job told w.refusal refusal some w.refused are)
refuses status.Program job told old new refusal some are unread unwritten w = inl (sym w.same ∙ one_status job told w.refusal refusal some w.refused are)
refuses status.Costs job told old new refusal some are unread unwritten w = inl (sym w.same ∙ one_status job told w.refusal refusal some w.refused are)
refuses status.ReadFault job told old new refusal some are unread unwritten w = absurd (unread refl)
refuses status.WriteFault job told old new refusal some are unread unwritten w = absurd (unwritten refl)
refuses status.NoMemory job told old new refusal some are unread unwritten w = inr refl
