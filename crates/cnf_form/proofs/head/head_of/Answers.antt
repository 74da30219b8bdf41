use Rattle.std.proofs.Common.{◌≡◌, codes, [], ◌∷◌, ◌++◌, sym, ◌∙◌, ap}
use Rattle.std.proofs.lemmas.Bool.{false≢true}
use Rattle.cnf_form.proofs.Formulas.LineWords.{one_word}
use Rattle.cnf_form.proofs.Formulas.Heads.{no_head, only_p, at_start}
use Rattle.cnf_form.proofs.head.head_of.Goals as goal

pub returns-then-not-is_word : goal.returns-then-not-is_word
returns-then-not-is_word c =
    let cut = c.in-Some.ensures.some in
    no_head c.args.line.now c.args.line.now [] c.in-Some.word.now c.in-Some.rest.now (at_start c.args.line.now) cut
    (λ variables count ending others few few_too closed same. let first : c.in-Some.word.now ++ ending ≡ codes "p" = cc in false≢true (sym c.if-not-is_word.true ∙ c.is_word.ensures.1 (only_p c.in-Some.word.now ending cut.some first)))

pub head_behind_p-requires-clause-up_to : goal.head_behind_p-requires-clause-up_to
head_behind_p-requires-clause-up_to c =
    let cut = c.in-Some.ensures.some in
    let is = c.is_word.ensures.0 c.if-not-is_word.false in
    one_word [] c.args.line.now c.args.line.now [] _ c.in-Some.word.now c.in-Some.rest.now (at_start c.args.line.now) cut (ap (λ w. w ∷ []) (sym is))
