-- What the formula of a list says of the inputs that drive it.
use Rattle.std.proofs.Common.{◌≡◌, ◌≢◌, ◌==◌, ℕ, ℤ, Bool, true, not, List, All, IsTrue, refl, sym, ap, ◌∙◌, subst}
use Rattle.std.specs.Prelude.{map}
use Rattle.std.specs.Bool.{Decides}
use Rattle.std.proofs.lemmas.Bool.Decides.{Decides-by_and, Decides-not, Decides-eqb}
use Rattle.c_tree.specs.declared.program.Program.{Program}
use Rattle.c_tree.specs.declared.program.Input.{Input}
use Rattle.c_tree.specs.Meaning.Runs.{fits, are_of}
use Rattle.c_tree.specs.Keeping.WellFormed.{WellFormed}
use Rattle.flow_laws.specs.Graphs.{graph, edges}
use Rattle.flow_laws.specs.Paths.{follows}
use Rattle.bv_term.specs.Stores.{Terms, tv, declared_ty, fits_store}
use Rattle.cond_laws.specs.Judged.{all_hold}
use Rattle.cond_laws.specs.Conditions.{Cond, FitTerms, all_nonzero}
use Rattle.cond_laws.specs.TermPaths.{TermsOf}
use Rattle.cond_laws.proofs.Paths.Whole.{terms_tell, terms_fit, same_fits}
use Rattle.cnf_form.specs.declared.cnf.Cnf.{Cnf}
use Rattle.cnf_form.specs.Truth.{Satisfies}
use Rattle.bit_circuits.specs.Formula.{VariablesOf, ClausesOf, decoded_words, input_of, IsFormulaOf}
use Rattle.bit_circuits.proofs.Formulas.Meaning.{clauses-are}
use Rattle.path_formulas.specs.FormulasOfLists.{
  IsDrivenBy,
  IsFormulaOfList,
  IsFormulaOfTerms,
  AreTermsForList,
  input_said,
  SaysWhatDrives,
}

-- the conditions are nonzero, as a test and as a fact
all_nonzero-decides : (terms : Terms) (ts : List ℕ) (i : Input)
    → Decides (all_nonzero terms ts i) (All (λ t. tv terms t i ≢ 0) ts)
all_nonzero-decides terms ts i =
    let word : ℕ → ℕ = λ t. tv terms t i in
    Decides-by_and (λ t. not (word t == 0)) (λ t. word t ≢ 0) (all_hold word)
    (λ t. Decides-not (word t == 0) (Decides-eqb (word t) 0)) refl (λ _ _. refl) ts

-- inputs fit the stores of the same inputs
fits_same : (terms others : Terms) (i : Input) → terms.inputs ≡ others.inputs → fits_store terms i ≡ fits_store others i
fits_same terms others i same = ap (λ l. are_of (map declared_ty l) i.values) same

-- the formula of terms over the inputs of the list, which say what drives it, does so too
pub terms_say : (p : Program) (q : List ℕ) (terms : Terms) (conditions : List ℕ) (formula : Cnf)
    → AreTermsForList p q terms conditions → IsFormulaOfTerms terms conditions formula → SaysWhatDrives p q formula
terms_say p q terms conditions formula are is =
    let means : IsFormulaOf terms conditions (VariablesOf terms) (ClausesOf terms conditions) =
    clauses-are terms conditions are.fit in
    let same : (i : Input) → fits_store terms i ≡ fits p i =
    λ i. fits_same terms (TermsOf p q).terms i are.inputs ∙ same_fits p q i in
    let read : (values : List Bool) → input_of terms values ≡ input_said p q values =
    λ values. ap (λ l. input_with (decoded_words l values)) are.inputs in
    record {
      driven = λ values count satisfied.
          let i : Input = input_of terms values in
          let here = subst (Satisfies values) is.clauses satisfied in
          let fits_terms = means.fits values here in
          let fitting : IsTrue (fits p i) = sym (same i) ∙ fits_terms in
          let all = (means.solved i fits_terms).1 (values, count ∙ is.variables, here, refl) in
          subst (IsDrivenBy p q) (read values)
          (record { fitting = fitting; driving = are.cond.drives i fitting ((all_nonzero-decides terms conditions i).1 all) });
      solved = λ i driven.
          let all = (all_nonzero-decides terms conditions i).0 (are.cond.nonzero i driven.fitting driven.driving) in
          let found = (means.solved i (same i ∙ driven.fitting)).0 all in
          (found.0, found.1 ∙ sym is.variables, subst (Satisfies found.0) (sym is.clauses) found.2, sym (read found.0) ∙ found.3);
    }
  where
    input_with : List ℤ → Input
    input_with zs = record { values = zs }

-- where the terms of the list say what drives it, its formula does
pub formula_says : (p : Program) (q : List ℕ) (formula : Cnf)
    → Cond p q (TermsOf p q).terms (TermsOf p q).conditions → FitTerms (TermsOf p q)
    → IsFormulaOfList p q formula → SaysWhatDrives p q formula
formula_says p q formula cond fit is = terms_say p q (TermsOf p q).terms (TermsOf p q).conditions formula
    (record { inputs = refl; fit = fit.terms; cond = cond })
    (record { variables = is.variables; clauses = is.clauses })

pub formulas_say : (p : Program) (q : List ℕ) (formula : Cnf) → WellFormed p → follows (edges (graph p)) q ≡ true
    → IsFormulaOfList p q formula → SaysWhatDrives p q formula
formulas_say p q formula w f is = formula_says p q formula (terms_tell p q w f) (terms_fit p q w) is
