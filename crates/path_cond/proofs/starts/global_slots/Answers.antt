use Rattle.std.proofs.Common.{◌+◌, List, ◌++◌, length, drop, sym, subst, ap, ◌∙◌, arith}
use Rattle.c_tree.specs.declared.program.Global.{Global}
use Rattle.c_tree.specs.Meaning.Runs.{outer_types}
use Rattle.c_tree.specs.Keeping.WellFormed.{WellFormedGlobals}
use Rattle.cond_laws.specs.TermPaths as spec
use Rattle.term_steps.proofs.Runs.{Rest}
use Rattle.path_cond.proofs.StartRuns.{globals_next, globals_left, slots_pushed}
use Rattle.path_cond.proofs.starts.global_slots.Goals as goal
use Rattle.plain_laws.proofs.Lists.{drop-read}

pub loop-global-preserved : goal.loop-global-preserved
loop-global-preserved c =
    let l = c.loop-global in
    let g = c.global-item.result in
    let gs = c.args.globals.now in
    let rest = drop (l.global-index + 1) gs in
    let at = drop-read gs l.global-index g c.loop-global-test.true c.global-item.is in
    let begun = subst (λ (gs' : List Global). Rest (spec.global_term_slots gs c.args.first) (spec.global_term_slots gs' l.next) (λ more. l.slots ++ more) c.args.terms.now l.terms) at l.invariant.rest in
    record {
      rest = globals_next rest g l.next c.next_input-next.result l.slots _ c.next_input-next.ensures begun c.in_ok-given.ensures.terms c.in_ok-global_slot.ensures c.in_ok-push.ensures.ok;
      there = slots_pushed c.in_ok-global_slot.field-0 l.slots _ l.invariant.there (omega (arith, c.in_ok-given.ensures.terms.grows, c.in_ok-global_slot.ensures.grows)) c.in_ok-global_slot.ensures.fits c.in_ok-push.ensures.ok;
      formed = (subst WellFormedGlobals at l.invariant.formed).1;
      left = ap (λ k. k + length (outer_types rest)) c.next_input-next.ensures ∙ (globals_left rest g l.next ∙ (ap (λ (d : List Global). l.next + length (outer_types d)) (sym at) ∙ l.invariant.left));
    }
