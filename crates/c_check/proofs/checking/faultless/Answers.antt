use Rattle.std.proofs.Common.{List, ℕ, Option, option_map, sym, ap, ◌∙◌, subst}
use Rattle.std.specs.Prelude.{IfSome}
use Rattle.c_tree.specs.Checking.Refusals.{PlacedFault, IsRefused, Typed}
use Rattle.c_check.specs.Parts.{with_parts}
use Rattle.c_faults.specs.Verdicts.{refusal_of}
use Rattle.c_check.proofs.Judged.{is_refused, is_typed}
use Rattle.c_check.proofs.checking.faultless.Goals as goal

pub returns-in-None-clause-named : goal.returns-in-None-clause-named
returns-in-None-clause-named c =
    let e = c.in_ok-named.ensures in
    let p = with_parts c.in_ok-named.named in
    subst (λ (name : List ℕ). Typed c.args.unit.now name p) c.as_bytes.ensures.value (is_typed c.args.unit.now c.as_bytes.result.now _ p e.first (sym c.first.ensures ∙ ap (option_map refusal_of) c.in-None.is) e.named)

pub returns-in-Some-clause-refused : goal.returns-in-Some-clause-refused
returns-in-Some-clause-refused c =
    let r = refusal_of c.in-Some.refusal in
    let e = c.in_ok-named.ensures in
    let refused = subst (λ (name : List ℕ). IsRefused c.args.unit.now name r) c.as_bytes.ensures.value (is_refused c.args.unit.now c.as_bytes.result.now _ r e.first (sym c.first.ensures ∙ ap (option_map refusal_of) c.in-Some.is)) in
    subst (λ (o : Option PlacedFault). IfSome o (IsRefused c.args.unit.now c.args.entry.now)) (sym c.into.ensures) refused
