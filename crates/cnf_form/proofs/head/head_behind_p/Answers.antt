use Rattle.std.proofs.Common.{◌≡◌, ◌<◌, codes, [], ◌∷◌, ◌++◌, length, refl, sym, ◌∙◌, ap, arith}
use Rattle.std.proofs.lemmas.Bool.{false≢true}
use Rattle.std.proofs.lemmas.List.{append-nil}
use Rattle.cnf_form.specs.Forms.{words}
use Rattle.cnf_form.proofs.Formulas.LineWords.{one_word}
use Rattle.cnf_form.proofs.Formulas.Heads.{no_head, front_of_cnf, lacks, stops_in_word, zero_is, apart_blank}
use Rattle.cnf_form.proofs.head.head_behind_p.Goals as goal

pub returns-in_default : goal.returns-in_default
returns-in_default c =
    lacks c.args.line.now c.args.rest.now (codes "p" ∷ []) (codes " cnf 0 0") 0 0 c.missing.result c.requires.marked c.requires.up_to c.in_default.ensures.none (omega arith) (omega arith) (omega arith) refl (apart_blank _)
    (rw zero_is refl) c.missing.ensures

pub head_behind_cnf-requires-clause-up_to : goal.head_behind_cnf-requires-clause-up_to
head_behind_cnf-requires-clause-up_to c =
    let is = c.is_word.ensures.0 c.if-is_word.true in
    one_word [] c.args.line.now c.args.rest.now (codes "p" ∷ []) _ c.in-Some.word.now c.in-Some.after.now c.requires.up_to c.in-Some.ensures.some (ap (λ w. codes "p" ∷ w ∷ []) (sym is))

pub returns-then-not-is_empty : goal.returns-then-not-is_empty
returns-then-not-is_empty c =
    let cut = c.in-Some.ensures.some in
    let more : 0 < length c.in-Some.after.now = grind arith in
    no_head c.args.line.now c.args.rest.now (codes "p" ∷ []) c.in-Some.word.now c.in-Some.after.now c.requires.up_to cut
    (λ variables count ending others few few_too closed same.
    let second : c.in-Some.word.now ++ ending ≡ codes "cnf" = cc in
    let alone : c.in-Some.word.now ≡ codes "cnf" = sym (append-nil c.in-Some.word.now) ∙ ap (λ e. c.in-Some.word.now ++ e) (sym (closed more)) ∙ second in
    false≢true (sym c.if-is_word.false ∙ c.is_word.ensures.1 alone))

pub returns-then-is_word-2 : goal.returns-then-is_word-2
returns-then-is_word-2 c =
    let is = c.is_word-2.ensures.0 c.if-is_word-2.true in
    let last : length c.in-Some.after.now ≡ 0 = grind arith in
    stops_in_word c.args.line.now c.args.rest.now (codes "p" ∷ []) c.in-Some.word.now c.in-Some.after.now (codes "nf 0 0") 0 0 c.requires.marked c.requires.up_to c.in-Some.ensures.some last (omega arith) (omega arith) (omega arith) refl
    (ap (λ w. codes "p" ∷ words (w ++ codes "nf 0 0\n")) is ∙ rw zero_is refl)

pub returns-then-is_word-3 : goal.returns-then-is_word-3
returns-then-is_word-3 c =
    let is = c.is_word-3.ensures.0 c.if-is_word-3.true in
    let last : length c.in-Some.after.now ≡ 0 = grind arith in
    stops_in_word c.args.line.now c.args.rest.now (codes "p" ∷ []) c.in-Some.word.now c.in-Some.after.now (codes "f 0 0") 0 0 c.requires.marked c.requires.up_to c.in-Some.ensures.some last (omega arith) (omega arith) (omega arith) refl
    (ap (λ w. codes "p" ∷ words (w ++ codes "f 0 0\n")) is ∙ rw zero_is refl)

pub returns : goal.returns
returns c =
    let cut = c.in-Some.ensures.some in
    no_head c.args.line.now c.args.rest.now (codes "p" ∷ []) c.in-Some.word.now c.in-Some.after.now c.requires.up_to cut
    (λ variables count ending others few few_too closed same.
    let second : c.in-Some.word.now ++ ending ≡ codes "cnf" = cc in
    front_of_cnf c.in-Some.word.now ending cut.some second (λ is. false≢true (sym c.if-is_word-2.false ∙ c.is_word-2.ensures.1 is)) (λ is. false≢true (sym c.if-is_word-3.false ∙ c.is_word-3.ensures.1 is)) (λ is. false≢true (sym c.if-is_word.false ∙ c.is_word.ensures.1 is)))
