-- What was written, by the status.
use Rattle.std.proofs.Common.{◌≡◌, ℕ, ◌⊎◌, inl, inr, List, [], Option, Some, None, refl, sym, ◌∙◌, ap, subst, arith}
use Rattle.std.specs.Prelude.{◌≢◌}
use Rattle.std.proofs.lemmas.List.{append-nil}
use Rattle.wc_outside.specs.Contents.{Files}
use Rattle.wc_outside.specs.Growth.{Grew, GrewByPrefix}
use Rattle.word_line.specs.declared.job.Job.{Job}
use Rattle.front_end.specs.declared.refusal.Refusal.{Refusal}
use Rattle.front_end.specs.declared.status.Status.{Status}
use Rattle.front_end.specs.declared.status.Status.TheVariants as status
use Rattle.front_end.specs.Lines.{refusal_line}
use Rattle.front_end.specs.Statuses.{status_of}
use Rattle.squeeze_top.specs.Jobs.{IsAnswer, AreRefused}
use Rattle.squeeze_top.specs.Written.{WrotePart, Wrote}
use Rattle.squeeze_top.specs.Written.MayBeWritten.{Empty, Answer, Line}

pub grew_nothing : (old new : Option (List ℕ)) → new ≡ old → Grew old new []
grew_nothing None new h = h
grew_nothing (Some b) new h = h ∙ ap Some (sym (append-nil b))

-- nothing is a part of a text that may be written
pub wrote_nothing : (job : Job) (told : Option Files) (old new : Option (List ℕ)) → new ≡ old → WrotePart job told old new
wrote_nothing job told old new h = record {
  text = [];
  may = Empty refl;
  written = record { count = 0; within = omega arith; grew = grew_nothing old new h };
}

pub wrote_answer : (s u : Status) (job : Job) (told : Option Files) (old new : Option (List ℕ)) (text : List ℕ) → IsAnswer job told u text → u ≡ status.Whole
    → (s ≡ status.Whole) ⊎ (s ≡ status.WriteFault) → (s ≡ status.Whole → Grew old new text) → (s ≡ status.WriteFault → GrewByPrefix old new text) → Wrote s job told old new
wrote_answer s u job told old new text answer ends (inl h) whole part =
    subst (λ v. Wrote v job told old new) (sym h) (record { text = text; answer = subst (λ v. IsAnswer job told v text) ends answer; written = whole h })
wrote_answer s u job told old new text answer ends (inr h) whole part =
    subst (λ v. Wrote v job told old new) (sym h) (record { text = text; may = Answer u answer; written = part h })

pub wrote_refusal : (s : Status) (job : Job) (told : Option Files) (old new : Option (List ℕ)) (refusal : Refusal) (faults : Type 0) → AreRefused job told refusal
    → (s ≢ status.WriteFault → s ≢ status.NoMemory → (s ≡ status_of refusal) × Grew old new (refusal_line refusal))
    → (s ≡ status.WriteFault → GrewByPrefix old new (refusal_line refusal) × faults) → (s ≡ status.NoMemory → new ≡ old)
    → (s ≢ status.Whole) × (s ≢ status.ReadFault) × (s ≢ status.Inexact) → Wrote s job told old new
wrote_refusal status.Whole job told old new refusal faults refused said part memory none = absurd (none.0 refl)
wrote_refusal status.Inexact job told old new refusal faults refused said part memory none = absurd (none.2 refl)
wrote_refusal status.ReadFault job told old new refusal faults refused said part memory none = absurd (none.1 refl)
wrote_refusal status.Words job told old new refusal faults refused said part memory none =
    let h = said (λ e. absurd (cc)) (λ e. absurd (cc)) in
    record { refusal = refusal; refused = refused; same = sym h.0; written = h.1 }
wrote_refusal status.Program job told old new refusal faults refused said part memory none =
    let h = said (λ e. absurd (cc)) (λ e. absurd (cc)) in
    record { refusal = refusal; refused = refused; same = sym h.0; written = h.1 }
wrote_refusal status.Costs job told old new refusal faults refused said part memory none =
    let h = said (λ e. absurd (cc)) (λ e. absurd (cc)) in
    record { refusal = refusal; refused = refused; same = sym h.0; written = h.1 }
wrote_refusal status.WriteFault job told old new refusal faults refused said part memory none =
    record { text = refusal_line refusal; may = Line refusal refused refl; written = (part refl).0 }
wrote_refusal status.NoMemory job told old new refusal faults refused said part memory none = wrote_nothing job told old new (memory refl)

-- ---- statuses

pub given : (s : Status) (P : Type 0) → (s ≡ status.Whole) ⊎ (s ≡ status.WriteFault) → (s ≡ status.WriteFault → ⊥) → (s ≡ status.Whole → P)
    → ((s ≡ status.Whole) × P) ⊎ (s ≡ status.NoMemory)
given s P (inl h) fails told = inl (h, told h)
given s P (inr h) fails told = absurd (fails h)

pub refused : (s t u : Status) (P : Type 0) → (s ≡ status.WriteFault → ⊥) → (s ≢ status.WriteFault → s ≢ status.NoMemory → (s ≡ t) × P) → t ≡ u → (s ≡ u) ⊎ (s ≡ status.NoMemory)
refused status.Whole t u P fails told same = inl ((told (λ h. absurd (cc)) (λ h. absurd (cc))).0 ∙ same)
refused status.Inexact t u P fails told same = inl ((told (λ h. absurd (cc)) (λ h. absurd (cc))).0 ∙ same)
refused status.Words t u P fails told same = inl ((told (λ h. absurd (cc)) (λ h. absurd (cc))).0 ∙ same)
refused status.Program t u P fails told same = inl ((told (λ h. absurd (cc)) (λ h. absurd (cc))).0 ∙ same)
refused status.Costs t u P fails told same = inl ((told (λ h. absurd (cc)) (λ h. absurd (cc))).0 ∙ same)
refused status.ReadFault t u P fails told same = inl ((told (λ h. absurd (cc)) (λ h. absurd (cc))).0 ∙ same)
refused status.WriteFault t u P fails told same = absurd (fails refl)
refused status.NoMemory t u P fails told same = inr refl
