-- What each answer of a search on a formula says of the inputs that drive its list.
use Rattle.std.proofs.Common.{◌≡◌, ◌<◌, ℕ, ℤ, List, [], ◌∷◌, All, Result, Ok, Err, sym, subst, ap, ◌∙◌}
use Rattle.std.specs.Result.{IfOk}
use Rattle.std.proofs.lemmas.List.Elements.{All-nil, All-cons}
use Rattle.c_tree.specs.declared.program.Program.{Program}
use Rattle.c_tree.specs.declared.program.Input.{Input}
use Rattle.cond_laws.specs.Conditions.{AllBelow, Cond, FitTerms}
use Rattle.cond_laws.specs.declared.condition.PathCond.{PathCond}
use Rattle.cond_laws.specs.TermPaths.{TermsOf}
use Rattle.cnf_form.specs.declared.cnf.Cnf.{Cnf}
use Rattle.cnf_form.specs.declared.log.Log.{Log}
use Rattle.rup_check.specs.Accepted.{IsAccepted}
use Rattle.rup_check.proofs.Sound.{accepted_refutes}
use Rattle.bit_circuits.specs.Formula.{VariablesOf, ClausesOf, decoded_words}
use Rattle.path_formulas.specs.FormulasOfLists.{IsDrivenBy, IsDrivenByNone, IsFormulaOfList, input_said, SaysWhatDrives}
use Rattle.path_formulas.proofs.Saying.{formula_says}
use Rattle.bit_blast.specs.declared.blasted.Blasted.{Blasted}
use Rattle.path_search.specs.declared.found.Found.{Found}
use Rattle.path_search.specs.declared.found.Found.TheVariants.{Driven, Refuted, GaveUp}
use Rattle.path_search.specs.Findings.{IsFinding, IsFirstFinding, IsAnswer}

-- each condition is a term
pub each_below : (k : ℕ) (ts : List ℕ) → AllBelow k ts → All (λ t. t < k) ts
each_below k [] below = All-nil (λ t. t < k)
each_below k (t ∷ ts) below = All-cons (λ t. t < k) t ts below.0 (each_below k ts below.1)

-- the formula of what the terms of the list are says what drives it
pub blasted_says : {E : Type 0} (p : Program) (q : List ℕ) (condition : PathCond) (ts : List ℕ) (r : Result Blasted E)
    → condition ≡ TermsOf p q → Cond p q condition.terms condition.conditions → FitTerms condition → ts ≡ condition.conditions
    → IfOk r (λ b. b.cnf.variables ≡ VariablesOf condition.terms) → IfOk r (λ b. b.cnf.clauses ≡ ClausesOf condition.terms ts)
    → IfOk r (λ b. SaysWhatDrives p q b.cnf)
blasted_says p q condition ts (Err e) is cond fit same variables clauses = tt
blasted_says p q condition ts (Ok b) is cond fit same variables clauses =
    formula_says p q b.cnf
    (subst (λ (c : PathCond). Cond p q c.terms c.conditions) is cond)
    (subst FitTerms is fit)
    (record {
      variables = variables ∙ ap (λ (c : PathCond). VariablesOf c.terms) is;
      clauses = clauses ∙ ap (ClausesOf condition.terms) same ∙ ap (λ (c : PathCond). ClausesOf c.terms c.conditions) is;
    })

-- the input that a satisfying assignment says drives the list
sat_drives : (p : Program) (q : List ℕ) (b : Blasted) (limit : ℕ) (i : Input)
    → SaysWhatDrives p q b.cnf → b.inputs ≡ (TermsOf p q).terms.inputs → IsAnswer b limit (Driven i) → IsDrivenBy p q i
sat_drives p q b limit i says are (values, count, satisfied, value) =
    let said : i ≡ input_said p q values = ap input_with (value ∙ ap (λ l. decoded_words l values) are) in
    subst (IsDrivenBy p q) (sym said) (says.driven values count satisfied)
  where
    input_with : List ℤ → Input
    input_with zs = record { values = zs }

-- an accepted log leaves no input
unsat_drives_none : (p : Program) (q : List ℕ) (formula : Cnf) (log : Log)
    → SaysWhatDrives p q formula → IsAccepted formula log → IsDrivenByNone p q
unsat_drives_none p q formula log says accepted i driven =
    let found = says.solved i driven in
    accepted_refutes formula log accepted found.0 found.2

-- what a search on a formula that says what drives the list has found
first_found : (p : Program) (q : List ℕ) (b : Blasted) (limit : ℕ) (found : Found)
    → SaysWhatDrives p q b.cnf → b.inputs ≡ (TermsOf p q).terms.inputs → IsAnswer b limit found → IsFirstFinding p q found
first_found p q b limit (Driven i) says are answer = sat_drives p q b limit i says are answer
first_found p q b limit Refuted says are answer = unsat_drives_none p q b.cnf answer.0 says answer.1
first_found p q b limit GaveUp says are answer = tt

-- and one on the formula of the list
found : (p : Program) (q : List ℕ) (b : Blasted) (limit : ℕ) (found : Found)
    → IsFormulaOfList p q b.cnf → SaysWhatDrives p q b.cnf → b.inputs ≡ (TermsOf p q).terms.inputs
    → IsAnswer b limit found → IsFinding p q limit found
found p q b limit (Driven i) is says are answer = sat_drives p q b limit i says are answer
found p q b limit Refuted is says are answer = unsat_drives_none p q b.cnf answer.0 says answer.1
found p q b limit GaveUp is says are answer = record {
  formula = b.cnf;
  is_formula = is;
  log = answer.0;
  worked = answer.1;
}

-- the same of results
pub first_found_if : {E : Type 0} (p : Program) (q : List ℕ) (b : Blasted) (limit : ℕ) (r : Result Found E)
    → SaysWhatDrives p q b.cnf → b.inputs ≡ (TermsOf p q).terms.inputs
    → IfOk r (λ f. IsAnswer b limit f) → IfOk r (λ f. IsFirstFinding p q f)
first_found_if p q b limit (Err e) says are answer = tt
first_found_if p q b limit (Ok f) says are answer = first_found p q b limit f says are answer

pub found_if : {E : Type 0} (p : Program) (q : List ℕ) (b : Blasted) (limit : ℕ) (r : Result Found E)
    → IsFormulaOfList p q b.cnf → SaysWhatDrives p q b.cnf → b.inputs ≡ (TermsOf p q).terms.inputs
    → IfOk r (λ f. IsAnswer b limit f) → IfOk r (λ f. IsFinding p q limit f)
found_if p q b limit (Err e) is says are answer = tt
found_if p q b limit (Ok f) is says are answer = found p q b limit f is says are answer
