-- The folds of the terms of a list say what drives it.
use Rattle.std.proofs.Common.{◌≡◌, ◌<◌, ◌==◌, ℕ, true, not, List, [], ◌∷◌, All, length, Result, Ok, Err, refl, sym, ap, subst, ◌∙◌}
use Rattle.std.specs.Prelude.{◌&&◌}
use Rattle.std.specs.Result.{IfOk}
use Rattle.std.proofs.lemmas.List.Elements.{All-nil, All-cons}
use Rattle.c_tree.specs.declared.program.Program.{Program}
use Rattle.c_tree.specs.declared.program.Input.{Input}
use Rattle.c_tree.specs.Meaning.Runs.{fits}
use Rattle.bv_term.specs.Stores.{Terms, AreTerms, tv, fits_store}
use Rattle.bv_fold.specs.declared.gathering.Gathered.{Gathered}
use Rattle.bv_fold.specs.Gathered.{AreSameIn, IsGathered}
use Rattle.cond_laws.specs.Conditions.{Cond, all_nonzero}
use Rattle.cond_laws.specs.declared.condition.PathCond.{PathCond}
use Rattle.cond_laws.specs.TermPaths.{TermsOf}
use Rattle.bit_circuits.specs.Formula.{VariablesOf, ClausesOf}
use Rattle.path_formulas.specs.FormulasOfLists.{AreTermsForList, SaysWhatDrives}
use Rattle.path_formulas.proofs.Saying.{terms_say}
use Rattle.bit_blast.specs.declared.blasted.Blasted.{Blasted}

-- each of them is a term of the other store
pub each_there : (old new : Terms) (ts us : List ℕ) → AreSameIn old new ts us → All (λ u. u < length new.ops) us
each_there old new [] [] same = All-nil (λ u. u < length new.ops)
each_there old new [] (u ∷ us) same = absurd same
each_there old new (t ∷ ts) [] same = absurd same
each_there old new (t ∷ ts) (u ∷ us) same = All-cons (λ v. v < length new.ops) u us same.0.there (each_there old new ts us same.1)

-- conditions of the same words are nonzero together
hold_together : (old new : Terms) (i : Input) → fits_store old i ≡ true → (ts us : List ℕ) → AreSameIn old new ts us
    → all_nonzero new us i ≡ all_nonzero old ts i
hold_together old new i fit [] [] same = refl
hold_together old new i fit [] (u ∷ us) same = absurd same
hold_together old new i fit (t ∷ ts) [] same = absurd same
hold_together old new i fit (t ∷ ts) (u ∷ us) same =
    ap (λ n. not (n == 0) && all_nonzero new us i) (same.0.value i fit)
    ∙ ap (λ b. not (tv old t i == 0) && b) (hold_together old new i fit ts us same.1)

-- terms of the same words as those of the list are terms for it
gathered_for_list : (p : Program) (q : List ℕ) (condition : PathCond) (ts : List ℕ) (g : Gathered)
    → condition ≡ TermsOf p q → Cond p q condition.terms condition.conditions
    → ((i : Input) → fits_store condition.terms i ≡ fits p i) → ts ≡ condition.conditions
    → IsGathered condition.terms ts g → AreTerms g.terms → AreTermsForList p q g.terms g.numbers
gathered_for_list p q condition ts g is cond same_fits same gathered fit =
    let told : Cond p q condition.terms ts = subst (Cond p q condition.terms) (sym same) cond in
    let together : (i : Input) → fits p i ≡ true → all_nonzero g.terms g.numbers i ≡ all_nonzero condition.terms ts i =
    λ i h. hold_together condition.terms g.terms i (same_fits i ∙ h) ts g.numbers gathered.same in
    record {
      inputs = gathered.inputs ∙ ap (λ (c : PathCond). c.terms.inputs) is;
      fit = fit;
      cond = record {
        drives = λ i h holds. told.drives i h (sym (together i h) ∙ holds);
        nonzero = λ i h driven. together i h ∙ told.nonzero i h driven;
      };
    }

-- so their formula says what drives it
pub folded_says : {E : Type 0} (p : Program) (q : List ℕ) (condition : PathCond) (ts us : List ℕ) (g : Gathered)
    (r : Result Blasted E) → condition ≡ TermsOf p q → Cond p q condition.terms condition.conditions
    → ((i : Input) → fits_store condition.terms i ≡ fits p i) → ts ≡ condition.conditions
    → IsGathered condition.terms ts g → AreTerms g.terms → us ≡ g.numbers
    → IfOk r (λ b. b.cnf.variables ≡ VariablesOf g.terms) → IfOk r (λ b. b.cnf.clauses ≡ ClausesOf g.terms us)
    → IfOk r (λ b. SaysWhatDrives p q b.cnf)
folded_says p q condition ts us g (Err e) is cond same_fits same gathered fit named variables clauses = tt
folded_says p q condition ts us g (Ok b) is cond same_fits same gathered fit named variables clauses =
    terms_say p q g.terms g.numbers b.cnf
    (gathered_for_list p q condition ts g is cond same_fits same gathered fit)
    (record { variables = variables; clauses = clauses ∙ ap (ClausesOf g.terms) named })
