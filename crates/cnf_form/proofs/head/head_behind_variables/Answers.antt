use Rattle.std.proofs.Common.{◌≡◌, codes, decimal, [], ◌∷◌, ◌++◌, length, refl, sym, ◌∙◌, ap, arith}
use Rattle.cnf_form.proofs.Formulas.LineWords.{one_word, no_word}
use Rattle.cnf_form.proofs.Formulas.Heads.{no_head, no_number_at, lacks, zero_is, apart_blank}
use Rattle.cnf_form.proofs.head.head_behind_variables.Goals as goal

pub returns-in_default : goal.returns-in_default
returns-in_default c =
    lacks c.args.line.now c.args.rest.now (codes "p" ∷ codes "cnf" ∷ decimal c.args.variables ∷ []) (codes " 0") c.args.variables 0 c.missing.result c.requires.marked c.requires.up_to c.in_default.ensures.none (omega arith) c.requires.few (omega arith) refl (apart_blank _)
    (rw zero_is refl) c.missing.ensures

pub returns-in_default-number_of : goal.returns-in_default-number_of
returns-in_default-number_of c =
    let cut = c.in-Some.ensures.some in
    no_head c.args.line.now c.args.rest.now (codes "p" ∷ codes "cnf" ∷ decimal c.args.variables ∷ []) c.in-Some.word.now c.in-Some.after.now c.requires.up_to cut
    (λ variables count ending others few few_too closed same.
    let fourth : c.in-Some.word.now ++ ending ≡ decimal count = cc in
    no_number_at c.in-Some.word.now ending count c.from.result c.from.ensures cut.some few_too c.in_default-number_of.ensures fourth)

pub returns-in-Some-first_word : goal.returns-in-Some-first_word
returns-in-Some-first_word c =
    let up = one_word [] c.args.line.now c.args.rest.now (codes "p" ∷ codes "cnf" ∷ decimal c.args.variables ∷ []) (codes "p" ∷ codes "cnf" ∷ decimal c.args.variables ∷ c.in-Some.word.now ∷ []) c.in-Some.word.now c.in-Some.after.now c.requires.up_to c.in-Some.ensures.some refl in
    no_head c.args.line.now c.in-Some.after.now (codes "p" ∷ codes "cnf" ∷ decimal c.args.variables ∷ c.in-Some.word.now ∷ []) c.in-Some-first_word.field-0.0.now c.in-Some-first_word.field-0.1.now up c.in-Some-first_word.ensures.some
    (λ variables count ending others few few_too closed same. omega (arith, ap length same))

pub returns-in-None : goal.returns-in-None
returns-in-None c =
    let number = c.in-Some-number_of.ensures in
    let up = one_word [] c.args.line.now c.args.rest.now (codes "p" ∷ codes "cnf" ∷ decimal c.args.variables ∷ []) (codes "p" ∷ codes "cnf" ∷ decimal c.args.variables ∷ c.in-Some.word.now ∷ []) c.in-Some.word.now c.in-Some.after.now c.requires.up_to c.in-Some.ensures.some refl in
    record {
      marked = c.requires.marked;
      numbers = sym (no_word [] c.args.line.now c.in-Some.after.now (codes "p" ∷ codes "cnf" ∷ decimal c.args.variables ∷ c.in-Some.word.now ∷ []) up c.in-None.ensures.none) ∙ ap (λ w. codes "p" ∷ codes "cnf" ∷ decimal c.args.variables ∷ w ∷ []) number.1;
      few_variables = c.requires.few;
      few_clauses = omega (arith, number.0, c.from.ensures);
    }
