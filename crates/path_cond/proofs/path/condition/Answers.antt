use Rattle.std.proofs.Common.{◌≡◌, refl, sym, subst, ◌∙◌}
use Rattle.c_tree.specs.Meaning.Runs.{fits}
use Rattle.bv_term.specs.Stores.{fits_store}
use Rattle.cond_laws.specs.declared.condition.PathCond.{PathCond}
use Rattle.cond_laws.specs.Conditions.{Cond, FitTerms}
use Rattle.cond_laws.proofs.Paths.Whole as whole
use Rattle.path_cond.proofs.ListRuns.{terms_of}
use Rattle.path_cond.proofs.path.condition.Goals as goal

pub returns-clause-terms : goal.returns-clause-terms
returns-clause-terms c = terms_of c.args.plan.now.program _ c.args.list.now _ c.program-program.ensures.value c.requires.contiguous c.in_ok-declare_inputs.ensures.inputs (c.declare_inputs.ensures.ops ∙ c.new-terms.ensures.ops) c.in_ok-memory.ensures c.in_ok-conditions.ensures c.keeps.ensures c.in_ok-more.ensures c.in_ok-append.ensures refl

pub returns-clause-drives : goal.returns-clause-drives
returns-clause-drives c =
    let p = c.args.plan.now.program in
    let q = c.args.list.now in
    subst (λ (t : PathCond). Cond p q t.terms t.conditions) (sym (returns-clause-terms c)) (whole.terms_tell p q c.program-program.ensures.formed c.requires.contiguous)

pub returns-clause-fits : goal.returns-clause-fits
returns-clause-fits c =
    let p = c.args.plan.now.program in
    let q = c.args.list.now in
    subst FitTerms (sym (returns-clause-terms c)) (whole.terms_fit p q c.program-program.ensures.formed)

pub returns-clause-inputs : goal.returns-clause-inputs
returns-clause-inputs c i =
    let p = c.args.plan.now.program in
    let q = c.args.list.now in
    subst (λ (t : PathCond). fits_store t.terms i ≡ fits p i) (sym (returns-clause-terms c)) (whole.same_fits p q i)
