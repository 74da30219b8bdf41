use Rattle.std.proofs.Common.{◌≡◌, ◌++◌, ◌∷◌, [], ◌+◌, drop, sym, arith, ap, ◌∙◌, append_assoc}
use Rattle.std.proofs.lemmas.Int.{ints, to_z-of_z}
use Rattle.c_tree.specs.Checking.Constants.{kept_number, constant_value}
use Rattle.c_tree.specs.Checking.Naming.{kept_numbers}
use Rattle.c_tree.specs.Checking.Uses.{constant_uses, constants_uses}
use Rattle.c_faults.specs.Verdicts.{after_uses}
use Rattle.c_faults.proofs.AfterUses.{after_uses-none, after_uses-append}
use Rattle.c_resolve.proofs.expr.constants.Goals as goal
use Rattle.plain_laws.proofs.Lists.{drop-read, drop-past}

pub loop-e-preserved : goal.loop-e-preserved
loop-e-preserved c =
    let ks = c.args.names.now in
    let x = c.e-item.result in
    let at = drop-read c.args.list.now c.loop-e.e-index x c.loop-e-test.true c.e-item.is in
    let rest = drop (c.loop-e.e-index + 1) c.args.list.now in
    let pushed : c.push.new.self ≡ c.loop-e.numbers ++ c.kept_number.result ∷ [] = grind (arith, ints, to_z-of_z, c.in_ok-push.ensures.ok) in
    record {
      numbers = ap (λ zs. zs ++ kept_numbers c.args.ty rest) (pushed ∙ ap (λ z. c.loop-e.numbers ++ z ∷ []) (c.kept_number.ensures ∙ ap (kept_number c.args.ty) c.in_ok-value.ensures.value))
          ∙ append_assoc c.loop-e.numbers (kept_number c.args.ty (constant_value x) ∷ []) (kept_numbers c.args.ty rest)
          ∙ ap (λ xs. c.loop-e.numbers ++ kept_numbers c.args.ty xs) (sym at) ∙ c.loop-e.invariant.numbers;
      first = ap (λ f. after_uses f (constants_uses ks rest)) c.in_ok-value.ensures.first
          ∙ sym (after_uses-append c.loop-e.verdict (constant_uses ks x) (constants_uses ks rest))
          ∙ ap (λ xs. after_uses c.loop-e.verdict (constants_uses ks xs)) (sym at) ∙ c.loop-e.invariant.first;
    }

pub returns-clause-first : goal.returns-clause-first
returns-clause-first c =
    sym (after_uses-none c.loop-e.verdict)
    ∙ ap (λ xs. after_uses c.loop-e.verdict (constants_uses c.args.names.now xs)) (sym (drop-past c.args.list.now c.loop-e.e-index c.loop-e-test.false))
    ∙ c.loop-e.invariant.first
