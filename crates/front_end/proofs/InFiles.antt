-- What is told of files twice is told of one text, and what follows of a text follows of its file.
use Rattle.std.proofs.Common.{◌≡◌, ℕ, List, Option, Some, None, sym, subst}
use Rattle.std.specs.Prelude.{IsSome, IsSomeAnd}
use Rattle.wc_outside.specs.Contents.{Files, OnFile}
use Rattle.c_tree.specs.declared.program.Program.{Program}
use Rattle.c_tree.specs.declared.program.Costs.{Costs}
use Rattle.flow_laws.specs.Graphs.{graph}
use Rattle.flow_graph.specs.Limits.{size_fault as plan_refusal}
use Rattle.flow_graph.specs.Plans.{plan_with}
use Rattle.front_end.specs.declared.work.Front.{Front}
use Rattle.front_end.specs.Accepted.{IsTextOf, ArePriced, Accepts}
use Rattle.front_end.specs.Refusing.{IsInput}
use Rattle.front_end.specs.Files.{Source, OnTable, HasProgram, HasCosts, AreAccepted, IsFront}
use Rattle.front_end.proofs.OneProgram.{one_program}

-- ---- one text

both_some : (text : Option (List ℕ)) (P Q : List ℕ → Type 0) → IsSomeAnd text P → IsSomeAnd text Q → (x : List ℕ) × P x × Q x
both_some None P Q p q = absurd p
both_some (Some text) P Q p q = (text, p, q)

pub both : (told : Option Files) (name : List ℕ) (P Q : List ℕ → Type 0) → IsSome told → OnFile told name P → OnFile told name Q → (x : List ℕ) × P x × Q x
both None name P Q some p q = absurd (cc)
both (Some files) name P Q some p q = both_some (files name) P Q p q

pub both_tables : (table : Option (List ℕ)) (told : Option Files) (P Q : Option (List ℕ) → Type 0) → IsSome told
    → OnTable table told P → OnTable table told Q → (x : Option (List ℕ)) × P x × Q x
both_tables None told P Q some p q = (None, p, q)
both_tables (Some name) told P Q some p q = let on = both told name (λ x. P (Some x)) (λ x. Q (Some x)) some p q in (Some on.0, on.1, on.2)

-- ---- what follows

follows : (text : Option (List ℕ)) (P Q : List ℕ → Type 0) → ((x : List ℕ) → P x → Q x) → IsSomeAnd text P → IsSomeAnd text Q
follows None P Q f p = absurd p
follows (Some text) P Q f p = f text p

pub file_follows : (told : Option Files) (name : List ℕ) (P Q : List ℕ → Type 0) → ((x : List ℕ) → P x → Q x) → OnFile told name P → OnFile told name Q
file_follows None name P Q f p = tt
file_follows (Some files) name P Q f p = follows (files name) P Q f p

pub table_follows : (table : Option (List ℕ)) (told : Option Files) (P Q : Option (List ℕ) → Type 0) → ((x : Option (List ℕ)) → P x → Q x)
    → OnTable table told P → OnTable table told Q
table_follows None told P Q f p = f None p
table_follows (Some name) told P Q f p = file_follows told name (λ x. P (Some x)) (λ x. Q (Some x)) (λ x. f (Some x)) p

-- ---- texts that are accepted

pub accepted : (s : Source) (told : Option Files) (p : Program) (t : Costs)
    → HasProgram s told p → HasCosts s told p t → plan_refusal (graph p) ≡ None → AreAccepted s told p t
accepted s told p t program costs plan =
    file_follows told s.file _ _ (λ text h. table_follows s.table told _ _ (λ table k. record { program = h; costs = k; plan = plan }) costs) program

-- they are accepted each by itself
pub record Parts (s : Source) (told : Option Files) (p : Program) (t : Costs) : Type 0 where
  pub program : HasProgram s told p
  pub costs : HasCosts s told p t
  pub plan : plan_refusal (graph p) ≡ None

accepts : (s : Source) (told : Option Files) (p : Program) (t : Costs) → IsSome told → (text : List ℕ)
    → OnTable s.table told (λ table. Accepts text table s.entry p t) → (table : Option (List ℕ)) × Accepts text table s.entry p t
accepts s told p t some text on =
    let found = both_tables s.table told (λ table. Accepts text table s.entry p t) (λ table. Accepts text table s.entry p t) some on on in
    (found.0, found.1)

pub parts : (s : Source) (told : Option Files) (p : Program) (t : Costs) → IsSome told → AreAccepted s told p t → Parts s told p t
parts s told p t some h =
    let On : List ℕ → Type 0 = λ text. OnTable s.table told (λ table. Accepts text table s.entry p t) in
    let text = both told s.file On On some h h in
    record {
      program = file_follows told s.file On (λ x. IsTextOf x s.entry p) (λ x on. (accepts s told p t some x on).1.program) h;
      costs = table_follows s.table told (λ table. Accepts text.0 table s.entry p t) (λ table. ArePriced table p t) (λ table k. k.costs) text.1;
      plan = (accepts s told p t some text.0 text.1).1.plan;
    }

-- what was read and planned is what is asked for
pub fronted : (s : Source) (told : Option Files) (front : Front) (p : Program) (t : Costs) → HasProgram s told p → HasCosts s told p t
    → plan_refusal (graph p) ≡ None → front.plan ≡ plan_with p t → IsInput s.input p front.input → IsFront s told front
fronted s told front p t program costs plan same input = record {
  accepted = subst (λ q. AreAccepted s told q.program q.costs) (sym same) (accepted s told p t program costs plan);
  input = subst (λ q. IsInput s.input q.program front.input) (sym same) input;
}

pub one_accepted : (s : Source) (told : Option Files) (p q : Program) (t u : Costs) → IsSome told
    → AreAccepted s told p t → AreAccepted s told q u → (p ≡ q) × (t ≡ u)
one_accepted s told p q t u some h k =
    let text = both told s.file _ _ some h k in
    let tables = both_tables s.table told _ _ some text.1 text.2 in
    one_program text.0 tables.0 s.entry p q t u tables.1 tables.2
