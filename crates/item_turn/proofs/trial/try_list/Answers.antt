use Rattle.std.proofs.Common.{◌∙◌, sym, subst}
use Rattle.std.proofs.lemmas.Bool.{false≢true}
use Rattle.flow_laws.specs.Graphs.{graph, edges}
use Rattle.path_formulas.specs.FormulasOfLists.{IsDrivenBy}
use Rattle.path_search.specs.Findings.{IsFinding}
use Rattle.race_item.specs.Facts.{zero_input}
use Rattle.race_item.proofs.Named.{all_named}
use Rattle.item_turn.proofs.Trying.{none_drives, not_driven, no_numbers, some_numbers}
use Rattle.item_turn.proofs.trial.try_list.Goals as goal

pub weight-requires : goal.weight-requires
weight-requires c = all_named (edges (graph c.args.plan.now.program)) c.args.list.now c.requires.contiguous

pub returns-then-is_empty : goal.returns-then-is_empty
returns-then-is_empty c =
    let p = c.args.plan.now.program in
    let input = c.in_ok-input-2.input in
    let fail : ¬ IsDrivenBy p c.args.list.now (zero_input p) = λ by. false≢true (sym c.if-branch-2.false ∙ c.in_ok-is_driven_by-2.ensures.1 (subst (IsDrivenBy p c.args.list.now) (sym c.in_ok-input-2.ensures) by)) in
    none_drives p c.args.list.now (no_numbers p input c.in_ok-input-2.ensures (c.is_empty.ensures.0 c.if-is_empty.true)) fail

pub returns : goal.returns
returns c =
    let p = c.args.plan.now.program in
    let input = c.in_ok-input-2.input in
    let fail : ¬ IsDrivenBy p c.args.list.now (zero_input p) = λ by. false≢true (sym c.if-branch-2.false ∙ c.in_ok-is_driven_by-2.ensures.1 (subst (IsDrivenBy p c.args.list.now) (sym c.in_ok-input-2.ensures) by)) in
    record {
      worked = subst (IsFinding p c.args.list.now c.args.limit) c.in-GaveUp.is c.in_ok-input-3.ensures;
      input_number = some_numbers p input c.in_ok-input-2.ensures (λ empty. false≢true (sym c.if-is_empty.false ∙ c.is_empty.ensures.1 empty));
      zeros_fail = not_driven p c.args.list.now fail;
    }
