use Rattle.std.proofs.Common.{◌≡◌, ◌++◌, ◌∷◌, [], ◌<◌, ◌^◌, All, length, codes, get_or, refl, sym, ◌∙◌, ap, subst, arith}
use Rattle.std.proofs.lemmas.List.{get_or_default}
use Rattle.text_lines.proofs.Leaving.{not_empty}
use Rattle.report_text.specs.declared.report.ReportLine.TheVariants.{Input}
use Rattle.report_text.specs.declared.stage.Stage.TheVariants.{BehindExact}
use Rattle.report_text.specs.Courses.{IsOne}
use Rattle.report_text.specs.Form.{Allows}
use Rattle.report_text.proofs.Inputs.{begun_input, open_is, closed_is, last_feed, bytes_front}
use Rattle.report_text.proofs.line_course.behind_blank.Goals as goal

pub returns-in_default : goal.returns-in_default
returns-in_default c = begun_input (codes "input " ++ c.args.behind.now) c.args.behind.now refl (omega (arith, c.in_default.ensures.cases))

pub returns-then-last-ne10 : goal.returns-then-last-ne10
returns-then-last-ne10 c =
    let cut = c.in-Some.ensures.cases in
    open_is (codes "input " ++ c.args.behind.now) c.args.behind.now c.requires (omega (arith, cut.1)) (λ before is. c.if-last-ne10.true (last_feed c.in-Some.input.now before c.in-Some.last.now (sym cut.0 ∙ is))) refl (λ k d less.
    let here : get_or c.args.behind.now k 0 < 2 ^ 8 = omega (arith, c.type_inv.behind k) in
    subst (λ h. h < 2 ^ 8) (get_or_default c.args.behind.now k 0 d less) here)

pub returns : goal.returns
returns c =
    let cut = c.in-Some.ensures.cases in
    let behind = c.args.behind.now in
    let input = c.in-Some.input.now in
    let each : All (λ byte. byte < 2 ^ 8) behind = λ k d less.
    let here : get_or behind k 0 < 2 ^ 8 = omega (arith, c.type_inv.behind k) in
    subst (λ h. h < 2 ^ 8) (get_or_default behind k 0 d less) here in
    let split : behind ≡ input ++ 10 ∷ [] = cut.0 ∙ ap (λ l. input ++ l ∷ []) c.if-last-ne10.false in
    let is = closed_is (codes "input " ++ behind) input c.requires (not_empty (length input) c.is_empty.result c.is_empty.ensures c.if-is_empty.false) (ap (λ b. codes "input " ++ b) split)
    (bytes_front input (c.in-Some.last.now ∷ []) (subst (All (λ byte. byte < 2 ^ 8)) cut.0 each)) in
    subst (λ i. IsOne (Allows BehindExact) (codes "input " ++ behind) (Input i)) (sym (c.from_vec.ensures ∙ c.in_ok-input.ensures.items)) is
