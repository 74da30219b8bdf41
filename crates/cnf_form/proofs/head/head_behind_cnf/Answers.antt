use Rattle.std.proofs.Common.{◌≡◌, codes, decimal, [], ◌∷◌, ◌++◌, refl, sym, ap, arith}
use Rattle.cnf_form.proofs.Formulas.LineWords.{one_word}
use Rattle.cnf_form.proofs.Formulas.Heads.{no_head, no_number_at, lacks, zero_is, apart_blank}
use Rattle.cnf_form.proofs.head.head_behind_cnf.Goals as goal

pub returns-in_default : goal.returns-in_default
returns-in_default c =
    lacks c.args.line.now c.args.rest.now (codes "p" ∷ codes "cnf" ∷ []) (codes " 0 0") 0 0 c.missing.result c.requires.marked c.requires.up_to c.in_default.ensures.none (omega arith) (omega arith) (omega arith) refl (apart_blank _)
    (rw zero_is refl) c.missing.ensures

pub returns-in_default-number_of : goal.returns-in_default-number_of
returns-in_default-number_of c =
    let cut = c.in-Some.ensures.some in
    no_head c.args.line.now c.args.rest.now (codes "p" ∷ codes "cnf" ∷ []) c.in-Some.word.now c.in-Some.after.now c.requires.up_to cut
    (λ variables count ending others few few_too closed same.
    let third : c.in-Some.word.now ++ ending ≡ decimal variables = cc in
    no_number_at c.in-Some.word.now ending variables c.from.result c.from.ensures cut.some few c.in_default-number_of.ensures third)

pub head_behind_variables-requires-clause-up_to : goal.head_behind_variables-requires-clause-up_to
head_behind_variables-requires-clause-up_to c =
    let is = c.in-Some-number_of.ensures.1 in
    one_word [] c.args.line.now c.args.rest.now (codes "p" ∷ codes "cnf" ∷ []) _ c.in-Some.word.now c.in-Some.after.now c.requires.up_to c.in-Some.ensures.some (ap (λ w. codes "p" ∷ codes "cnf" ∷ w ∷ []) (sym is))
