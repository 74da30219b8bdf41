-- An exact end tells best's cost and the text of best's input.
use Rattle.std.proofs.Common.{◌≡◌, ◌<◌, ◌^◌, All, sym, ap, ◌∙◌, subst}
use Rattle.c_tree.specs.declared.program.Program.{Program}
use Rattle.c_tree.specs.Checking.Checked.{IsProgram}
use Rattle.c_input.specs.InputTexts.{input_text}
use Rattle.text_lines.specs.Cutting.{HasNoFeed}
use Rattle.flow_graph.specs.Plans.{Planned}
use Rattle.ipet_rows.specs.Sound.{PlanRows}
use Rattle.squeeze_race.proofs.ending.done.Goals as goal

pub returns : goal.returns
returns c =
    let program = c.args.board.now.setup.rows.plan.program in
    let input = c.in-Some.input.now in
    let is : c.program-program.result.now ≡ program =
    c.program-program.ensures.value ∙ ap (λ (plan : Planned). plan.program) (c.plan.ensures ∙ ap (λ (rows : PlanRows). rows.plan) c.rows.ensures.value) in
    let typed : IsProgram program = subst IsProgram is c.program_is_typed.ensures in
    let text : c.from_vec.result ≡ input_text program input =
    c.from_vec.ensures ∙ c.in_ok-text.ensures.text ∙ ap (λ (p : Program). input_text p input) is in
    record {
      tells = record {
        done = c.requires;
        cost = c.in-Some.ensures.value.0;
        input = input;
        input_is = c.in-Some.ensures.value.1;
        spelled = text;
      };
      plain = subst HasNoFeed (sym text) (c.input_texts_are_of_one_line.ensures program input typed c.in-Some.ensures.drives.0);
      numbers = (c.numbers_fit.ensures.cost, subst (All (λ b. b < 2 ^ 8)) (c.deref.ensures.value ∙ sym c.from_vec.ensures) c.numbers_fit.ensures.bytes);
    }
