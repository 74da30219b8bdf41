use Rattle.std.proofs.Common.{◌≡◌, ◌-◌, length, Some, drop, refl, sym, ap, ◌∙◌, arith}
use Rattle.std.proofs.Math.ListN.{drop_of_length-le}
use Rattle.std.proofs.lemmas.Option.{slice_get_read}
use Rattle.c_input.proofs.InputSteps.{read_step, read_none, read_all}
use Rattle.c_input.proofs.reading.numbers_in.Goals as goal

pub returns-in_default : goal.returns-in_default
returns-in_default c = λ zs suits text.
    let ls = c.args.leads.now in
    let i = c.loop-lead.lead-index in
    let here = slice_get_read ls (length ls) i c.lead-item.result refl c.loop-lead-test.true c.lead-item.is in
    let count : c.saturating_sub.result ≡ length c.lead-item.result - 1 = omega (arith, c.saturating_sub.ensures, c.len.ensures) in
    absurd (read_none ls i c.lead-item.result c.loop-lead.values zs c.loop-lead.rest.now here (λ label more z long small apart is. c.in_default.ensures label more z (long ∙ sym count) small apart is) (c.loop-lead.invariant zs suits text))

pub loop-lead-preserved : goal.loop-lead-preserved
loop-lead-preserved c = λ zs suits text.
    let ls = c.args.leads.now in
    let i = c.loop-lead.lead-index in
    let here = slice_get_read ls (length ls) i c.lead-item.result refl c.loop-lead-test.true c.lead-item.is in
    let count : c.saturating_sub.result ≡ length c.lead-item.result - 1 = omega (arith, c.saturating_sub.ensures, c.len.ensures) in
    read_step ls i c.lead-item.result c.loop-lead.values c.push.new.self zs c.loop-lead.rest.now c.in-Some.more.now c.in-Some.number here (λ label more z long small apart is. c.in-Some.ensures label more z (long ∙ sym count) small apart is) c.in_ok-push.ensures.ok (c.loop-lead.invariant zs suits text)

pub returns : goal.returns
returns c = λ zs suits text.
    let none = drop_of_length-le c.args.leads.now c.loop-lead-test.false in
    ap (λ zs. Some zs) (sym (read_all (drop c.loop-lead.lead-index c.args.leads.now) c.loop-lead.values zs c.loop-lead.rest.now none (c.loop-lead.invariant zs suits text)))
