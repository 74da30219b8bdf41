-- Formulas of lists of edges: which one is a list's, what its assignments say, and what giving up has to show.
use Rattle.std.specs.Prelude.{◌≡◌, ℕ, Bool, IsTrue, List, length}
use Rattle.c_tree.specs.declared.program.Program.{Program}
use Rattle.c_tree.specs.declared.program.Input.{Input}
use Rattle.c_tree.specs.Meaning.Runs.{fits}
use Rattle.flow_laws.specs.Driving.{Drives}
use Rattle.bv_term.specs.Stores.{Terms, AreTerms}
use Rattle.cond_laws.specs.Conditions.{Cond}
use Rattle.cond_laws.specs.TermPaths.{TermsOf}
use Rattle.cnf_form.specs.declared.cnf.Cnf.{Cnf}
use Rattle.cnf_form.specs.declared.log.Log.{Log}
use Rattle.cnf_form.specs.Truth.{Satisfies}
use Rattle.rup_check.specs.Worked.{IsWorked}
use Rattle.bit_circuits.specs.Formula.{VariablesOf, ClausesOf, input_of}

-- the input is one of the program, and drives the list
pub record IsDrivenBy (p : Program) (q : List ℕ) (i : Input) : Type 0 where
  pub fitting : IsTrue (fits p i)
  pub driving : Drives p i q

-- no input drives the list
abbrev pub IsDrivenByNone : Program → List ℕ → Type 0
IsDrivenByNone p q = (i : Input) → ¬ IsDrivenBy p q i

-- the formula has the variables and the clauses of the terms of the list
pub record IsFormulaOfList (p : Program) (q : List ℕ) (formula : Cnf) : Type 0 where
  pub variables : formula.variables ≡ VariablesOf (TermsOf p q).terms
  pub clauses : formula.clauses ≡ ClausesOf (TermsOf p q).terms (TermsOf p q).conditions

-- the formula has the variables and the clauses of these terms and conditions
pub record IsFormulaOfTerms (terms : Terms) (conditions : List ℕ) (formula : Cnf) : Type 0 where
  pub variables : formula.variables ≡ VariablesOf terms
  pub clauses : formula.clauses ≡ ClausesOf terms conditions

-- other terms, over the inputs of the list: the conditions among them are nonzero exactly where an input drives it
pub record AreTermsForList (p : Program) (q : List ℕ) (terms : Terms) (conditions : List ℕ) : Type 0 where
  pub inputs : terms.inputs ≡ (TermsOf p q).terms.inputs
  pub fit : AreTerms terms
  pub cond : Cond p q terms conditions

-- the input that an assignment of the formula's variables says
abbrev pub input_said : Program → List ℕ → List Bool → Input
input_said p q values = input_of (TermsOf p q).terms values

-- each satisfying assignment says an input that drives the list, and each input that drives it is said by one
pub record SaysWhatDrives (p : Program) (q : List ℕ) (formula : Cnf) : Type 0 where
  pub driven : (values : List Bool) → length values ≡ formula.variables → Satisfies values formula.clauses
      → IsDrivenBy p q (input_said p q values)
  pub solved : (i : Input) → IsDrivenBy p q i
      → (values : List Bool) × (length values ≡ formula.variables) × Satisfies values formula.clauses
      × (input_said p q values ≡ i)

-- a log of n lines is worked for the formula of the list
pub record HasWorkedLog (p : Program) (q : List ℕ) (n : ℕ) : Type 0 where
  pub formula : Cnf
  pub is_formula : IsFormulaOfList p q formula
  pub log : Log
  pub worked : IsWorked formula log n
