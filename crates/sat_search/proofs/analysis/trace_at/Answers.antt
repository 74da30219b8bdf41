use Rattle.std.proofs.Common.{◌≡◌, false, get_or, w32, to_z, of_z, arith, refl, sym, ◌∙◌}
use Rattle.std.proofs.lemmas.Int.{to_z-of_z}
use Rattle.search_tables.specs.Trail.{variable_at}
use Rattle.sat_search.proofs.Keeping.{skip_step, resolve_step}
use Rattle.sat_search.proofs.analysis.trace_at.Goals as goal

pub returns-in_ok-push-clause-traced : goal.returns-in_ok-push-clause-traced
returns-in_ok-push-clause-traced c kept traces =
    rw c.in_ok-push.ensures.items
    (resolve_step c.args.known.now c.args.trail.now c.args.place c.args.marks.now.seen.items c.mark.new.self.seen.items c.known_clause.result.now c.in-Some.number c.args.hints.now.items c.requires.apart c.requires.inside c.requires.hinted c.requires.reasoned (sym c.in-Some.ensures) c.known_clause.ensures.literals c.mark.ensures.marked c.mark.ensures.more.grows kept traces)

pub returns-else-is_seen-clause-traced : goal.returns-else-is_seen-clause-traced
returns-else-is_seen-clause-traced c kept traces =
    let same : to_z w32 (of_z w32 c.literal.result) ≡ c.literal.result = grind (arith, to_z-of_z) in
    let unseen : get_or c.args.marks.now.seen.items (variable_at c.args.trail.now.literals c.args.place) false ≡ false = sym (rw (same, c.literal.ensures) at c.is_seen.ensures) ∙ c.if-is_seen.false in
    skip_step c.args.known.now c.args.trail.now.literals _ c.args.place c.args.marks.now.seen.items kept _ refl c.requires.inside unseen traces
