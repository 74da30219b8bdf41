-- Words ask for a job, or for none: it can be told.
use Rattle.std.proofs.Common.{◌≡◌, ◌≤◌, ◌<◌, ◌⊎◌, ℕ, zero, suc, Bool, true, false, List, [], ◌∷◌, Option, Some, None, inl, inr, refl, sym, ◌∙◌, subst, arith}
use Rattle.std.specs.Prelude.{decimal, bytes_eq, codes, is_some, option_and_then, unwrap_or}
use Rattle.std.specs.Bool.{Decides}
use Rattle.std.specs.Cmp.{booleans_Decides}
use Rattle.std.proofs.Math.Dec.{eqb, ltb}
use Rattle.std.proofs.lemmas.Bool.{false≢true}
use Rattle.std.proofs.lemmas.Bool.Decides.{Decides-eqb, Decides-ltb}
use Rattle.std.proofs.lemmas.Slice.Eq.{bytes_eq-Decides}
use Rattle.clap.specs.Kinds.{Kinds}
use Rattle.clap.specs.Walk.{Row, first_of}
use Rattle.clap.specs.Simple.{matches_of}
use Rattle.clap.specs.Faults.{fault_of}
use Rattle.word_line.specs.declared.job.Mode.{Mode}
use Rattle.word_line.specs.declared.job.Job.{Job}
use Rattle.word_line.specs.Command.{command}
use Rattle.word_line.specs.Jobs.{has_file}
use Rattle.word_line.specs.Numbers.{AreNumbers}
use Rattle.word_line.specs.Words.{mode_of, has_flag, IsMode, IsWritten, IsNumber, IsJobOf, AskFor}

-- something has the property, or nothing has it
abbrev Told : {X : Type 0} → (X → Type 0) → Type 0
Told {X} P = ((x : X) × P x) ⊎ ((x : X) → ¬ (P x))

-- a test says whether a thing holds
tested : (b : Bool) (P : Type 0) → Decides b P → P ⊎ (¬ P)
tested true P d = inl (d.0 refl)
tested false P d = inr (λ p. false≢true (d.1 p))

-- ---- numbers

is_written : (default : ℕ) (value : Option (List ℕ)) (n : ℕ) → IsWritten default value n ⊎ (¬ (IsWritten default value n))
is_written default None n = tested (eqb n default) _ (Decides-eqb n default)
is_written default (Some text) n = tested (bytes_eq text (decimal n)) _ (bytes_eq-Decides text (decimal n))

is_number : (least most default : ℕ) (value : Option (List ℕ)) (n : ℕ)
    → IsNumber least most default value n ⊎ (¬ (IsNumber least most default value n))
is_number least most default value n =
    by_parts (is_written default value n) (tested (ltb n least) _ (Decides-ltb n least))
    (tested (ltb most n) _ (Decides-ltb most n))
  where
    by_parts : IsWritten default value n ⊎ (¬ (IsWritten default value n)) → (n < least) ⊎ (¬ (n < least))
        → (most < n) ⊎ (¬ (most < n)) → IsNumber least most default value n ⊎ (¬ (IsNumber least most default value n))
    by_parts (inr not_written) low high = inr (λ h. not_written h.written)
    by_parts (inl written) (inl low) high = inr (λ h. omega (arith, low, h.enough))
    by_parts (inl written) (inr low) (inl high) = inr (λ h. omega (arith, high, h.within))
    by_parts (inl written) (inr low) (inr high) =
        inl (record { written = written; enough = omega (arith, low); within = omega (arith, high) })

sought : (P : ℕ → Type 0) → ((n : ℕ) → P n ⊎ (¬ (P n))) → (top : ℕ) → ((n : ℕ) × P n) ⊎ ((n : ℕ) → n ≤ top → ¬ (P n))
sought P test zero = at_zero (test 0)
  where
    at_zero : P 0 ⊎ (¬ (P 0)) → ((n : ℕ) × P n) ⊎ ((n : ℕ) → n ≤ 0 → ¬ (P n))
    at_zero (inl p) = inl (0, p)
    at_zero (inr not_p) = inr (λ n low p. let none : n ≡ 0 = omega (arith, low) in not_p (subst P none p))
sought P test (suc top) = below_or_at (sought P test top) (test (suc top))
  where
    below_or_at : ((n : ℕ) × P n) ⊎ ((n : ℕ) → n ≤ top → ¬ (P n)) → P (suc top) ⊎ (¬ (P (suc top)))
        → ((n : ℕ) × P n) ⊎ ((n : ℕ) → n ≤ suc top → ¬ (P n))
    below_or_at (inl found) here = inl found
    below_or_at (inr below) (inl p) = inl (suc top, p)
    below_or_at (inr below) (inr not_p) = inr (λ n low p. last n low p (tested (eqb n (suc top)) _ (Decides-eqb n (suc top))))
      where
        last : (n : ℕ) → n ≤ suc top → P n → (n ≡ suc top) ⊎ (¬ (n ≡ suc top)) → ⊥
        last n low p (inl same) = not_p (subst P same p)
        last n low p (inr other) = below n (omega (arith, low, other)) p

told_number : (least most default : ℕ) (value : Option (List ℕ)) → Told (IsNumber least most default value)
told_number least most default value = by_search (sought _ (is_number least most default value) most)
  where
    by_search : ((n : ℕ) × IsNumber least most default value n) ⊎ ((n : ℕ) → n ≤ most → ¬ (IsNumber least most default value n))
        → Told (IsNumber least most default value)
    by_search (inl found) = inl found
    by_search (inr none) = inr (λ n h. none n h.within h)

told_numbers : (found : List Row) → Told (AreNumbers found)
told_numbers found =
    by_parts (told_number _ _ _ (first_of (codes "turns") found)) (told_number _ _ _ (first_of (codes "conflicts") found))
    (told_number _ _ _ (first_of (codes "case") found)) (told_number _ _ _ (first_of (codes "size") found))
  where
    by_parts : Told (IsNumber 1 16384 4096 (first_of (codes "turns") found))
        → Told (IsNumber 1 100000 10000 (first_of (codes "conflicts") found))
        → Told (IsNumber 0 65535 0 (first_of (codes "case") found)) → Told (IsNumber 1 64 4 (first_of (codes "size") found))
        → Told (AreNumbers found)
    by_parts (inr none) conflicts number size = inr (λ n h. none n.turns h.turns)
    by_parts (inl turns) (inr none) number size = inr (λ n h. none n.conflicts h.conflicts)
    by_parts (inl turns) (inl conflicts) (inr none) size = inr (λ n h. none n.«case» h.case_number)
    by_parts (inl turns) (inl conflicts) (inl number) (inr none) = inr (λ n h. none n.size h.size)
    by_parts (inl turns) (inl conflicts) (inl number) (inl size) =
        inl (
          record { turns = turns.0; conflicts = conflicts.0; «case» = number.0; size = size.0 },
          record { turns = turns.1; conflicts = conflicts.1; case_number = number.1; size = size.1 },
        )

-- ---- the mode

told_mode : (found : List Row) → Told (IsMode found)
told_mode found = by_name (option_and_then mode_of (first_of (codes "mode") found)) refl
  where
    by_name : (named : Option Mode) → option_and_then mode_of (first_of (codes "mode") found) ≡ named → Told (IsMode found)
    by_name None e = inr (λ mode h. let none : None ≡ Some mode = sym e ∙ h.named in absurd (cc))
    by_name (Some mode) e =
        by_file (tested _ _ (booleans_Decides (is_some (first_of (codes "file") found)) (has_file mode)))
      where
        by_file : (is_some (first_of (codes "file") found) ≡ has_file mode) ⊎ (¬ (is_some (first_of (codes "file") found) ≡ has_file mode))
            → Told (IsMode found)
        by_file (inl same) = inl (mode, record { named = e; file = same })
        by_file (inr other) = inr (λ m h.
            let named : Some mode ≡ Some m = sym e ∙ h.named in
            let same : m ≡ mode = cc in
            other (subst (λ x. is_some (first_of (codes "file") found) ≡ has_file x) same h.file))

-- ---- the job

told_job : (found : List Row) → Told (IsJobOf found)
told_job found = by_parts (told_mode found) (told_numbers found)
  where
    by_parts : Told (IsMode found) → Told (AreNumbers found) → Told (IsJobOf found)
    by_parts (inr none) numbers = inr (λ job h. none job.mode h.mode)
    by_parts (inl mode) (inr none) = inr (λ job h.
        none (record { turns = job.turns; conflicts = job.conflicts; «case» = job.«case»; size = job.size })
        (record { turns = h.turns; conflicts = h.conflicts; case_number = h.case_number; size = h.size }))
    by_parts (inl mode) (inl numbers) = inl (
      record {
        mode = mode.0;
        file = first_of (codes "file") found;
        costs = first_of (codes "costs") found;
        entry = unwrap_or (first_of (codes "entry") found) (codes "main");
        workers = 1;
        turns = numbers.0.turns;
        conflicts = numbers.0.conflicts;
        input = unwrap_or (first_of (codes "input") found) [];
        «case» = numbers.0.«case»;
        size = numbers.0.size;
        watch = false;
        table = has_flag (codes "table") found;
      },
      record {
        mode = mode.1;
        file = refl;
        costs = refl;
        entry = refl;
        workers = refl;
        turns = numbers.1.turns;
        conflicts = numbers.1.conflicts;
        input = refl;
        case_number = numbers.1.case_number;
        size = numbers.1.size;
        watch = refl;
        table = refl;
      },
    )

pub asked_or_not : (words : List (List ℕ)) → ((job : Job) × AskFor words job) ⊎ ((job : Job) → ¬ (AskFor words job))
asked_or_not words = by_fault (fault_of command words) refl (told_job (matches_of command words))
  where
    by_fault : (fault : Kinds) → fault_of command words ≡ fault → Told (IsJobOf (matches_of command words)) → Told (AskFor words)
    by_fault (kind ∷ kinds) e told = inr (λ job h. let none : [] ≡ kind ∷ kinds = sym h.parsed ∙ e in absurd (cc))
    by_fault [] e (inl job) = inl (job.0, record { parsed = e; found = job.1 })
    by_fault [] e (inr none) = inr (λ job h. none job h.found)
