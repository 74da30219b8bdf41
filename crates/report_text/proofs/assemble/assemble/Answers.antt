use Rattle.std.proofs.Common.{◌∙◌, sym, subst}
use Rattle.report_text.specs.declared.stage.Stage.TheVariants.{Start, Whole}
use Rattle.report_text.specs.Form.{Leads}
use Rattle.report_text.specs.Values.{IsReportOf}
use Rattle.report_text.proofs.Assembling.{begins_report, made_of, report_of}
use Rattle.report_text.proofs.assemble.assemble.Goals as goal

pub unreachable-requires : goal.unreachable-requires
unreachable-requires c = begins_report c.args.lines.now c.requires c.in_default.ensures.none

pub last_of-requires : goal.last_of-requires
last_of-requires c =
    let leads = subst (λ ls. Leads Start ls Whole) c.in-Some.ensures.some c.requires in
    let made = made_of c.in-Some.rest.now leads.1.1 in
    record { last = made.last; same = made.end ∙ sym c.ending.ensures }

pub returns : goal.returns
returns c =
    let leads = subst (λ ls. Leads Start ls Whole) c.in-Some.ensures.some c.requires in
    subst (λ ls. IsReportOf ls (record { copies = c.in-Some.copies; ipet = c.in-Some.ipet; shown = c.from_vec.result; last = c.in_ok-last.last })) (sym c.in-Some.ensures.some)
    (report_of c.in-Some.copies c.in-Some.ipet c.in-Some.rest.now c.from_vec.result c.in_ok-last.last leads (c.from_vec.ensures ∙ c.in_ok-shown.ensures) (c.in_ok-last.ensures ∙ c.ending.ensures))
