use Rattle.std.proofs.Common.{FitsSigned, w32, [], ◌++◌, ◌∷◌, refl, sym, ◌∙◌, ap, rules}
use Rattle.std.specs.Fmt.{signed_decimal}
use Rattle.std.proofs.lemmas.Int.{to_z-of_z}
use Rattle.cnf_form.specs.Reading.{front_words}
use Rattle.cnf_form.proofs.Formulas.LineWords.{one_word, no_word, takes_line, cut_some}
use Rattle.cnf_form.proofs.clause_line.read_words.Goals as goal

pub loop-word-init : goal.loop-word-init
loop-word-init c = record { keeps = c.requires; variables = refl; count = refl; up_to = record { before = []; split = refl; same = λ more last. refl } }

pub loop-word-smaller : goal.loop-word-smaller
loop-word-smaller c = cut_some c.loop-word.rest.now c.in-Some.word.now c.in-Some.after.now c.in-Some.ensures.some

pub returns-in_default-next_number : goal.returns-in_default-next_number
returns-in_default-next_number c =
    let kept = c.loop-word.invariant in
    takes_line c.args.front.now c.loop-word.front c.args.line.now c.loop-word.rest.now c.in-Some.word.now c.in-Some.after.now c.course_of.result kept.keeps kept.variables kept.count kept.up_to c.in-Some.ensures.some c.in_default-next_number.ensures c.course_of.ensures

pub loop-word-preserved : goal.loop-word-preserved
loop-word-preserved c =
    let kept = c.loop-word.invariant in
    let number = c.in-Some-next_number.number in
    let now = front_words c.loop-word.front.clauses.items c.loop-word.front.literals.items in
    let fits : FitsSigned w32 number = search rules in
    let goes = c.in-Some-next_number.ensures in
    let pushed = c.in_ok-push.ensures in
    record {
      keeps = pushed.keeps;
      variables = pushed.variables ∙ kept.variables;
      count = pushed.count ∙ kept.count;
      up_to = one_word _ c.args.line.now c.loop-word.rest.now _ _ c.in-Some.word.now c.in-Some.after.now kept.up_to c.in-Some.ensures.some
          (pushed.words ∙ ap (λ z. front_words c.loop-word.front.clauses.items c.loop-word.front.literals.items ++ signed_decimal z ∷ []) (to_z-of_z w32 number fits) ∙ ap (λ w. front_words c.loop-word.front.clauses.items c.loop-word.front.literals.items ++ w ∷ []) (sym goes.written));
    }

pub returns : goal.returns
returns c =
    let kept = c.loop-word.invariant in
    record { keeps = kept.keeps; variables = kept.variables; count = kept.count; same = no_word _ c.args.line.now c.loop-word.rest.now _ kept.up_to c.in_default.ensures.none }
