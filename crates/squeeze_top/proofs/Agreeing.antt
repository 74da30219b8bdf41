-- A job has one answer, or refusals of one status.
use Rattle.std.proofs.Common.{◌≡◌, ℕ, List, Option, Some, None, sym, ◌∙◌, ap, subst}
use Rattle.std.specs.Prelude.{IsTrue, IsSome, IsSomeAnd, IfSome, option_map, if◌then◌else◌}
use Rattle.wc_outside.specs.Contents.{Files}
use Rattle.c_tree.specs.declared.program.Program.{Program}
use Rattle.c_tree.specs.declared.program.Costs.{Costs}
use Rattle.c_tree.specs.Meaning.Runs.{run}
use Rattle.c_run.specs.Ends.{end_of_run}
use Rattle.c_input.proofs.InputRead.{one_input}
use Rattle.flow_laws.specs.Graphs.{graph}
use Rattle.flow_graph.specs.Limits.{block_copies}
use Rattle.ipet_rows.proofs.Counting.{one_number}
use Rattle.word_line.specs.declared.job.Mode.{Mode}
use Rattle.word_line.specs.declared.job.Mode.TheVariants.{Squeeze, Bound, Ipet, Blocks, Run, Print, Make, Workout}
use Rattle.word_line.specs.declared.job.Job.{Job}
use Rattle.word_line.specs.Jobs.{is_plain}
use Rattle.front_end.specs.declared.refusal.Refusal.{Refusal}
use Rattle.front_end.specs.declared.status.Status.{Status}
use Rattle.front_end.specs.declared.status.Status.TheVariants.{Whole}
use Rattle.front_end.specs.Refusing.{HasInput}
use Rattle.front_end.specs.Files.{Source, AreAccepted, IsServed, Refuses}
use Rattle.front_end.specs.Statuses.{status_of}
use Rattle.front_end.proofs.InFiles.{one_accepted}
use Rattle.front_end.proofs.Agreeing.{one_status as one_status_of, not_both}
use Rattle.squeeze_top.specs.Answers.{bound_line, ipet_lines, run_line, Tells, TellsMade}
use Rattle.squeeze_top.specs.Jobs.{source, job_input, Give, Served, AreRefused, IsTold, IsAnswer}
use Rattle.squeeze_top.specs.Jobs.IsAnswer.{Told, Made}

-- ---- answers

one_of : (found : Option Source) (told : Option Files) (p q : Program) (t u : Costs) → IsSome told
    → IsSomeAnd found (λ s. AreAccepted s told p t) → IsSomeAnd found (λ s. AreAccepted s told q u) → (p ≡ q) × (t ≡ u)
one_of None told p q t u some h k = absurd h
one_of (Some s) told p q t u some h k = one_accepted s told p q t u some h k

-- the texts of a job give one program and its costs
pub one_given : (job : Job) (told : Option Files) (p q : Program) (t u : Costs) → IsSome told → Give job told p t → Give job told q u → (p ≡ q) × (t ≡ u)
one_given job told p q t u some h k = one_of (option_map (source job) job.file) told p q t u some h k

same_answer : (m : Mode) (job : Job) (p : Program) (t : Costs) (s u : Status) (a b : List ℕ) → IsTrue (is_plain m) → Tells m job p t s a → Tells m job p t u b → (s ≡ u) × (a ≡ b)
same_answer Squeeze job p t s u a b plain h k = absurd (cc)
same_answer Bound job p t s u a b plain h k =
    (h.0 ∙ sym k.0, h.1.line ∙ ap bound_line (one_number p t h.1.bound k.1.bound h.1.optimum k.1.optimum) ∙ sym k.1.line)
same_answer Ipet job p t s u a b plain h k =
    (h.0 ∙ sym k.0, h.1.lines ∙ ap (ipet_lines (block_copies (graph p))) (one_number p t h.1.bound k.1.bound h.1.optimum k.1.optimum) ∙ sym k.1.lines)
same_answer Blocks job p t s u a b plain h k = (h.0 ∙ sym k.0, h.1 ∙ sym k.1)
same_answer Run job p t s u a b plain h k =
    let values = one_input p h.1.values k.1.values h.1.fitting k.1.fitting (h.1.spelled ∙ sym k.1.spelled) in
    (h.0 ∙ sym k.0, h.1.line ∙ ap (λ i. run_line (end_of_run t (run p i))) values ∙ sym k.1.line)
same_answer Print job p t s u a b plain h k = (h.0 ∙ sym k.0, h.1.lines ∙ sym k.1.lines)
same_answer Make job p t s u a b plain h k = absurd h
same_answer Workout job p t s u a b plain h k = absurd h

-- the same program with the same costs is told of
pub moved : (m : Mode) (job : Job) (p q : Program) (t u : Costs) (s : Status) (text : List ℕ) → (p ≡ q) × (t ≡ u) → Tells m job p t s text → Tells m job q u s text
moved m job p q t u s text same h = subst (λ r. Tells m job q r s text) same.1 (subst (λ r. Tells m job r t s text) same.0 h)

-- ---- answers of made cases

-- texts are given to a job with a file alone
pub given_file : (job : Job) (told : Option Files) (p : Program) (t : Costs) → job.file ≡ None → Give job told p t → ⊥
given_file job told p t none give = subst (λ file. IsSomeAnd (option_map (source job) file) (λ s. AreAccepted s told p t)) none give

same_case : (m : Mode) (job : Job) (s u : Status) (a b : List ℕ) → TellsMade m job s a → TellsMade m job u b → (s ≡ u) × (a ≡ b)
same_case Make job s u a b h k =
    let program = h.1.made.program ∙ sym k.1.made.program in
    let table = h.1.made.costs ∙ sym k.1.made.costs in
    (h.0 ∙ sym k.0, h.1.chosen ∙ ap (λ x. if job.table then x else h.1.program) table ∙ ap (λ x. if job.table then k.1.table else x) program ∙ sym k.1.chosen)
same_case Squeeze job s u a b h k = absurd h
same_case Bound job s u a b h k = absurd h
same_case Ipet job s u a b h k = absurd h
same_case Blocks job s u a b h k = absurd h
same_case Run job s u a b h k = absurd h
same_case Print job s u a b h k = absurd h
same_case Workout job s u a b h k = absurd h

-- ---- one answer

one_told : (job : Job) (told : Option Files) (s u : Status) (a b : List ℕ) → IsSome told → IsTrue (is_plain job.mode) → IsTold job told s a → IsTold job told u b → (s ≡ u) × (a ≡ b)
one_told job told s u a b some plain h k =
    let same = one_given job told h.program k.program h.costs k.costs some h.given k.given in
    same_answer job.mode job k.program k.costs s u a b plain (moved job.mode job h.program k.program h.costs k.costs s a same h.tells) k.tells

pub one_answer : (job : Job) (told : Option Files) (s u : Status) (a b : List ℕ) → IsSome told → IsTrue (is_plain job.mode) → IsAnswer job told s a → IsAnswer job told u b → (s ≡ u) × (a ≡ b)
one_answer job told s u a b some plain (Told h) (Told k) = one_told job told s u a b some plain h k
one_answer job told s u a b some plain (Told h) (Made none k) = absurd (given_file job told h.program h.costs none h.given)
one_answer job told s u a b some plain (Made none h) (Told k) = absurd (given_file job told k.program k.costs none k.given)
one_answer job told s u a b some plain (Made none h) (Made same k) = same_case job.mode job s u a b h k

ends_whole : (m : Mode) (job : Job) (p : Program) (t : Costs) (s : Status) (text : List ℕ) → IsTrue (is_plain m) → Tells m job p t s text → s ≡ Whole
ends_whole Squeeze job p t s text plain h = absurd (cc)
ends_whole Bound job p t s text plain h = h.0
ends_whole Ipet job p t s text plain h = h.0
ends_whole Blocks job p t s text plain h = h.0
ends_whole Run job p t s text plain h = h.0
ends_whole Print job p t s text plain h = h.0
ends_whole Make job p t s text plain h = absurd h
ends_whole Workout job p t s text plain h = absurd h

made_whole : (m : Mode) (job : Job) (s : Status) (text : List ℕ) → TellsMade m job s text → s ≡ Whole
made_whole Make job s text h = h.0
made_whole Squeeze job s text h = absurd h
made_whole Bound job s text h = absurd h
made_whole Ipet job s text h = absurd h
made_whole Blocks job s text h = absurd h
made_whole Run job s text h = absurd h
made_whole Print job s text h = absurd h
made_whole Workout job s text h = absurd h

-- each answer of a mode that needs no workers ends whole
pub answered_whole : (job : Job) (told : Option Files) (s : Status) (text : List ℕ) → IsTrue (is_plain job.mode) → IsAnswer job told s text → s ≡ Whole
answered_whole job told s text plain (Told h) = ends_whole job.mode job h.program h.costs s text plain h.tells
answered_whole job told s text plain (Made none h) = made_whole job.mode job s text h

-- ---- what is served

has_input : (m : Mode) (job : Job) (p : Program) (t : Costs) (s : Status) (text : List ℕ) → Tells m job p t s text → HasInput (job_input m job.input) p
has_input Squeeze job p t s text h = tt
has_input Bound job p t s text h = tt
has_input Ipet job p t s text h = tt
has_input Blocks job p t s text h = tt
has_input Run job p t s text h = (h.1.values, (h.1.fitting, h.1.spelled))
has_input Print job p t s text h = tt
has_input Make job p t s text h = tt
has_input Workout job p t s text h = tt

-- texts that are accepted are served, where the input that is asked for is there
pub served : (job : Job) (file : Option (List ℕ)) (told : Option Files) (p : Program) (t : Costs) → IsSomeAnd (option_map (source job) file) (λ s. AreAccepted s told p t)
    → HasInput (job_input job.mode job.input) p → IfSome (option_map (source job) file) (λ s. IsServed s told)
served job None told p t h input = absurd h
served job (Some file) told p t h input = record { program = p; costs = t; accepted = h; input = input }

-- what has an answer is served
pub answered_served : (job : Job) (told : Option Files) (s : Status) (text : List ℕ) → IsAnswer job told s text → Served job told
answered_served job told s text (Told h) = served job job.file told h.program h.costs h.given (has_input job.mode job h.program h.costs s text h.tells)
answered_served job told s text (Made none h) = subst (λ file. IfSome (option_map (source job) file) (λ s. IsServed s told)) (sym none) tt

-- ---- refusals

unrefused : (found : Option Source) (told : Option Files) (refusal : Refusal) → IsSome told → IfSome found (λ s. IsServed s told) → IsSomeAnd found (λ s. Refuses refusal s told) → ⊥
unrefused None told refusal some h k = absurd k
unrefused (Some s) told refusal some h k = not_both refusal s told some k h

-- what is served is not refused
pub served_stands : (job : Job) (told : Option Files) (refusal : Refusal) → IsSome told → Served job told → AreRefused job told refusal → ⊥
served_stands job told refusal some h k = unrefused (option_map (source job) job.file) told refusal some h k

pub answered_stands : (job : Job) (told : Option Files) (s : Status) (text : List ℕ) (refusal : Refusal) → IsSome told → IsAnswer job told s text → AreRefused job told refusal → ⊥
answered_stands job told s text refusal some h k = served_stands job told refusal some (answered_served job told s text h) k

statuses : (found : Option Source) (told : Option Files) (a b : Refusal) → IsSome told → IsSomeAnd found (λ s. Refuses a s told) → IsSomeAnd found (λ s. Refuses b s told) → status_of a ≡ status_of b
statuses None told a b some h k = absurd h
statuses (Some s) told a b some h k = one_status_of a b s told some h k

-- all refusals of a job have one status
pub one_status : (job : Job) (told : Option Files) (a b : Refusal) → IsSome told → AreRefused job told a → AreRefused job told b → status_of a ≡ status_of b
one_status job told a b some h k = statuses (option_map (source job) job.file) told a b some h k
