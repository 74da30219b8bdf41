use Rattle.std.proofs.Common.{rules, subst}
use Rattle.std.proofs.lemmas.List.{take_all}
use Rattle.std.proofs.lemmas.List.Elements.{All-more}
use Rattle.lin_rows.specs.declared.row.Row.{Row}
use Rattle.lin_rows.specs.Names.{NamesBelow, NamesOnce}
use Rattle.lin_rows.proofs.row.names_fit.Goals as goal

pub loop-row-preserved : goal.loop-row-preserved
loop-row-preserved c =
    let rows = c.args.rows.now in
    let i = c.loop-row.row-index in
    let row = c.row-item.result in
    let below = subst (NamesBelow c.args.edges) c.terms.ensures (c.if-not-names_below.ensures.0 (search rules)) in
    let once = subst NamesOnce c.terms-else-not-names_below.ensures (c.if-not-names_once.ensures.0 (search rules)) in (
      All-more (λ (r : Row). NamesBelow c.args.edges r.terms) rows i row c.loop-row-test.true c.loop-row.invariant.0 (subst (λ (r : Row). NamesBelow c.args.edges r.terms) c.row-item.is below),
      All-more (λ (r : Row). NamesOnce r.terms) rows i row c.loop-row-test.true c.loop-row.invariant.1 (subst (λ (r : Row). NamesOnce r.terms) c.row-item.is once),
    )

pub returns : goal.returns
returns c = let all = take_all c.loop-row.row-index c.args.rows.now c.loop-row-test.false in (λ yes. rw all at c.loop-row.invariant, λ both. search rules)
