use Rattle.std.proofs.Common.{◌≡◌, ◌++◌, length, sym, ◌∙◌, ap}
use Rattle.search_tables.proofs.Cutting.{spans_pushed}
use Rattle.search_tables.proofs.clauses.Clauses.push.Goals as goal

pub returns : goal.returns
returns c =
    let literals = c.self.inside.literals in
    let more = c.extend_from_slice.new.self in
    let start : c.len-start.result ≡ length literals.items = c.len-start.ensures ∙ literals.ok.0 in
    let end : c.len-end.result ≡ length (literals.items ++ c.args.literals.now) = c.len-end.ensures ∙ more.ok.0 ∙ ap length c.in_ok-extend_from_slice.ensures.items in
    rw (← c.self.view_is, c.in_ok-push.ensures.items, c.in_ok-extend_from_slice.ensures.items)
    (spans_pushed literals.items c.args.literals.now c.self.inside.spans.items _ c.self.invariant start end)
