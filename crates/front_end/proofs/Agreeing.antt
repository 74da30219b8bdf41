-- Texts in files are accepted, or are refused with one status.
use Rattle.std.proofs.Common.{◌≡◌, ℕ, ◌≤◌, List, [], length, Option, Some, None, Ok, Err, refl, sym, ◌∙◌, subst, arith}
use Rattle.std.specs.Prelude.{IsSome, IsSomeAnd}
use Rattle.std.specs.List.{Contains}
use Rattle.wc_outside.specs.Contents.{Files, OnFile}
use Rattle.c_tree.specs.declared.unit.Unit.{Unit as Tree}
use Rattle.c_tree.specs.declared.program.Program.{Program}
use Rattle.c_tree.specs.declared.program.Costs.{Costs}
use Rattle.c_tree.specs.Checking.Refusals as checking
use Rattle.c_tree.specs.Checking.Refusals.{faults}
use Rattle.c_faults.specs.Verdicts.{refusal_of}
use Rattle.cost_table.specs.declared.fault.CostFault.{CostFault}
use Rattle.cost_table.specs.Tables.{verdict}
use Rattle.flow_laws.specs.Graphs.{graph}
use Rattle.flow_graph.specs.Limits.{size_fault as plan_refusal}
use Rattle.front_end.specs.declared.refusal.ProgramRefusal.{ProgramRefusal}
use Rattle.front_end.specs.declared.refusal.ProgramRefusal.TheVariants as text
use Rattle.front_end.specs.declared.refusal.TableRefusal.{TableRefusal}
use Rattle.front_end.specs.declared.refusal.TableRefusal.TheVariants as table
use Rattle.front_end.specs.declared.refusal.PlanRefusal.{PlanRefusal}
use Rattle.front_end.specs.declared.refusal.PlanRefusal.TheVariants.{Blocks, Edges, Cap}
use Rattle.front_end.specs.declared.refusal.Refusal.{Refusal}
use Rattle.front_end.specs.declared.refusal.Refusal.TheVariants as by
use Rattle.front_end.specs.declared.status.Status.TheVariants as status
use Rattle.front_end.specs.Accepted.{IsTextOf, ArePriced}
use Rattle.front_end.specs.Refusing.{HasFault, HasTableFault, RefusesText, HasInput, RefusesTable, RefusesPlan}
use Rattle.front_end.specs.Files.{Source, OnTable, HasProgram, HasCosts, IsReady, IsServed, Refuses}
use Rattle.front_end.specs.Statuses.{status_of}
use Rattle.front_end.proofs.OneProgram.{one_unit, one_text}
use Rattle.front_end.proofs.InFiles.{both, both_tables, parts}

-- ---- programs

no_fault : (u : Tree) (entry : List ℕ) (r : checking.PlacedFault) → faults u entry ≡ [] → Contains (faults u entry) r → ⊥
no_fault u entry r none stands = nothing (subst (λ rs. Contains rs r) none stands)
  where
    nothing : Contains [] r → ⊥
    nothing h = absurd (omega (arith, h.1))

typed_has_none : (bytes entry : List ℕ) (r : checking.PlacedFault) (p : Program) → HasFault bytes entry r → IsTextOf bytes entry p → ⊥
typed_has_none bytes entry r p h of_text =
    let same = one_unit bytes of_text.unit h.unit of_text.read h.read in
    no_fault h.unit entry r (subst (λ w. faults w entry ≡ []) same of_text.typed.sound) h.refused.stands

no_text : (refusal : ProgramRefusal) (bytes entry : List ℕ) (p : Program) → RefusesText refusal bytes entry → IsTextOf bytes entry p → ⊥
no_text text.Size bytes entry p h of_text = absurd (omega (arith, h, of_text.short))
no_text (text.Byte at) bytes entry p h of_text = h.0.none of_text.read.of_text.tokens of_text.read.of_text.lexed
no_text (text.Comment at) bytes entry p h of_text = h.0.none of_text.read.of_text.tokens of_text.read.of_text.lexed
no_text (text.Number at) bytes entry p h of_text = h.0.none of_text.read.of_text.tokens of_text.read.of_text.lexed
no_text (text.Directive at) bytes entry p h of_text = h.0.none of_text.read.of_text.tokens of_text.read.of_text.lexed
no_text (text.Syntax at) bytes entry p h of_text = h.none of_text.unit of_text.read
no_text (text.Depth at) bytes entry p h of_text = h
no_text (text.Check r) bytes entry p h of_text = typed_has_none bytes entry (refusal_of r) p h of_text

same_program : (s : Source) (told : Option Files) (a b : Program) → IsSome told → HasProgram s told a → HasProgram s told b → a ≡ b
same_program s told a b some p q =
    let on = both told s.file _ _ some p q in
    one_text on.0 s.entry a b on.1 on.2

-- ---- costs

no_cost : (p : Program) (t : Costs) (bytes : List ℕ) (fault : CostFault) → HasTableFault p bytes fault → ArePriced (Some bytes) p t → ⊥
no_cost p t bytes fault h priced =
    let first : verdict p bytes ≡ Ok t = priced.1 in
    let second : verdict p bytes ≡ Err fault = h.faulty in
    absurd (cc)

no_table : (refusal : TableRefusal) (p : Program) (t : Costs) (bytes : List ℕ) → RefusesTable refusal p bytes → ArePriced (Some bytes) p t → ⊥
no_table table.Size p t bytes h priced = absurd (omega (arith, h, priced.0))
no_table table.NotToml p t bytes h priced = no_cost p t bytes _ h priced
no_table table.Version p t bytes h priced = no_cost p t bytes _ h priced
no_table (table.Key name) p t bytes h priced = no_cost p t bytes _ h priced
no_table (table.Block name) p t bytes h priced = no_cost p t bytes _ h priced
no_table (table.Number name) p t bytes h priced = no_cost p t bytes _ h priced
no_table (table.Missing name) p t bytes h priced = no_cost p t bytes _ h priced

bad_table : (refusal : TableRefusal) (p : Program) (t : Costs) (found : Option (List ℕ)) → IsSomeAnd found (RefusesTable refusal p) → ArePriced found p t → ⊥
bad_table refusal p t None h priced = absurd h
bad_table refusal p t (Some bytes) h priced = no_table refusal p t bytes h priced

unpriced : (refusal : TableRefusal) (s : Source) (told : Option Files) (p : Program) (t : Costs) → IsSome told
    → OnTable s.table told (λ found. IsSomeAnd found (RefusesTable refusal p)) → HasCosts s told p t → ⊥
unpriced refusal s told p t some h priced =
    let on = both_tables s.table told _ _ some h priced in
    bad_table refusal p t on.0 on.1 on.2

-- ---- plans

too_large : (refusal : PlanRefusal) (p : Program) → RefusesPlan refusal p → plan_refusal (graph p) ≡ None → ⊥
too_large Blocks p h planned = absurd (cc)
too_large Edges p h planned = absurd (cc)
too_large (Cap block) p h planned = let cap = h.1 in absurd (cc)

-- ---- refusals

-- what a refusal finds: no program; a program without an input; a program without costs; a program with costs, and no plan
data Side (s : Source) (told : Option Files) (refusal : Refusal) : Type 0 where
  NoText : status_of refusal ≡ status.Program → ((p : Program) → HasProgram s told p → ⊥) → Side s told refusal
  NoInput : status_of refusal ≡ status.Words → (p : Program) → HasProgram s told p → (HasInput s.input p → ⊥) → Side s told refusal
  NoCosts : status_of refusal ≡ status.Costs → (p : Program) → IsReady s told p → ((t : Costs) → HasCosts s told p t → ⊥) → Side s told refusal
  NoPlan : status_of refusal ≡ status.Program → (p : Program) (t : Costs) → IsReady s told p → HasCosts s told p t
      → (plan_refusal (graph p) ≡ None → ⊥) → Side s told refusal

textless : (refusal : ProgramRefusal) (s : Source) (told : Option Files) → IsSome told
    → OnFile told s.file (λ bytes. RefusesText refusal bytes s.entry) → (p : Program) → HasProgram s told p → ⊥
textless refusal s told some h p program =
    let on = both told s.file _ _ some h program in
    no_text refusal on.0 s.entry p on.1 on.2

side : (refusal : Refusal) (s : Source) (told : Option Files) → IsSome told → Refuses refusal s told → Side s told refusal
side (by.Program r) s told some h = NoText refl (textless r s told some h)
side by.Input s told some h = NoInput refl h.program h.text h.none
side (by.Table r) s told some h = NoCosts refl h.program h.ready (λ t priced. unpriced r s told h.program t some h.refused priced)
side (by.Plan r) s told some h = NoPlan refl h.program h.costs h.ready h.priced (too_large r h.program h.refused)

no_input : (s : Source) (told : Option Files) (p q : Program) → IsSome told → IsReady s told p → HasProgram s told q → (HasInput s.input q → ⊥) → ⊥
no_input s told p q some ready has none = none (subst (HasInput s.input) (same_program s told p q some ready.text has) ready.input)

no_costs : (s : Source) (told : Option Files) (p q : Program) (t : Costs) → IsSome told → HasProgram s told p → HasProgram s told q → HasCosts s told p t
    → ((u : Costs) → HasCosts s told q u → ⊥) → ⊥
no_costs s told p q t some has has2 priced none = none t (subst (λ w. HasCosts s told w t) (same_program s told p q some has has2) priced)

agree : (a b : Refusal) (s : Source) (told : Option Files) → IsSome told → Side s told a → Side s told b → status_of a ≡ status_of b
agree a b s told some (NoText e none) (NoText e2 none2) = e ∙ sym e2
agree a b s told some (NoText e none) (NoInput e2 q has2 lacks2) = absurd (none q has2)
agree a b s told some (NoText e none) (NoCosts e2 q ready2 lacks2) = absurd (none q ready2.text)
agree a b s told some (NoText e none) (NoPlan e2 q u ready2 priced2 lacks2) = e ∙ sym e2
agree a b s told some (NoInput e p has lacks) (NoText e2 none2) = absurd (none2 p has)
agree a b s told some (NoInput e p has lacks) (NoInput e2 q has2 lacks2) = e ∙ sym e2
agree a b s told some (NoInput e p has lacks) (NoCosts e2 q ready2 lacks2) = absurd (no_input s told q p some ready2 has lacks)
agree a b s told some (NoInput e p has lacks) (NoPlan e2 q u ready2 priced2 lacks2) = absurd (no_input s told q p some ready2 has lacks)
agree a b s told some (NoCosts e p ready lacks) (NoText e2 none2) = absurd (none2 p ready.text)
agree a b s told some (NoCosts e p ready lacks) (NoInput e2 q has2 lacks2) = absurd (no_input s told p q some ready has2 lacks2)
agree a b s told some (NoCosts e p ready lacks) (NoCosts e2 q ready2 lacks2) = e ∙ sym e2
agree a b s told some (NoCosts e p ready lacks) (NoPlan e2 q u ready2 priced2 lacks2) = absurd (no_costs s told q p u some ready2.text ready.text priced2 lacks)
agree a b s told some (NoPlan e p t ready priced lacks) (NoText e2 none2) = e ∙ sym e2
agree a b s told some (NoPlan e p t ready priced lacks) (NoInput e2 q has2 lacks2) = absurd (no_input s told p q some ready has2 lacks2)
agree a b s told some (NoPlan e p t ready priced lacks) (NoCosts e2 q ready2 lacks2) = absurd (no_costs s told p q t some ready.text ready2.text priced lacks2)
agree a b s told some (NoPlan e p t ready priced lacks) (NoPlan e2 q u ready2 priced2 lacks2) = e ∙ sym e2

-- all refusals of texts in files have one status
pub one_status : (a b : Refusal) (s : Source) (told : Option Files) → IsSome told → Refuses a s told → Refuses b s told → status_of a ≡ status_of b
one_status a b s told some h k = agree a b s told some (side a s told some h) (side b s told some k)

-- ---- what is accepted

served_side : (refusal : Refusal) (s : Source) (told : Option Files) (p : Program) (t : Costs) → IsSome told → Side s told refusal
    → IsReady s told p → HasCosts s told p t → plan_refusal (graph p) ≡ None → ⊥
served_side refusal s told p t some (NoText e none) ready priced planned = none p ready.text
served_side refusal s told p t some (NoInput e q has lacks) ready priced planned = no_input s told p q some ready has lacks
served_side refusal s told p t some (NoCosts e q ready2 lacks) ready priced planned = no_costs s told p q t some ready.text ready2.text priced lacks
served_side refusal s told p t some (NoPlan e q u ready2 priced2 lacks) ready priced planned =
    lacks (subst (λ w. plan_refusal (graph w) ≡ None) (same_program s told p q some ready.text ready2.text) planned)

-- what is served is not refused
pub not_both : (refusal : Refusal) (s : Source) (told : Option Files) → IsSome told → Refuses refusal s told → IsServed s told → ⊥
not_both refusal s told some h served =
    let are = parts s told served.program served.costs some served.accepted in
    served_side refusal s told served.program served.costs some (side refusal s told some h) (record { text = are.program; input = served.input }) are.costs are.plan
