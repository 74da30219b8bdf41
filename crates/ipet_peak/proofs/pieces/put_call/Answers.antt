-- A call's node, its callee's body if it is above, and its landing.
use Rattle.std.proofs.Common.{[], ◌∷◌, ap, ◌∙◌, arith}
use Rattle.std.specs.Prelude.{slice_get, unwrap_or}
use Rattle.std.proofs.lemmas.Option.{slice_get_past}
use Rattle.peak_laws.specs.declared.ways.Leaving.TheVariants as leaving
use Rattle.peak_laws.specs.Parts as spec
use Rattle.ipet_peak.specs.Pieces.{stack_after, parts_above, costs_after}
use Rattle.ipet_peak.proofs.PartSteps.{some_at, parts_length, call_some, call_none}
use Rattle.ipet_peak.proofs.pieces.put_call.Goals as goal
use Rattle.ipet_peak.proofs.pieces.put_call.Goals.{then-callee-scope+in_ok-put-2+in_ok-put-3, else-callee-scope}

pub returns-clause-pieces : goal.returns-clause-pieces
returns-clause-pieces c ps =
    let qs = parts_above c.args.scope.costs.now c.args.scope.funcs.now in
    let w = costs_after c.args.scope.costs.now c.args.scope.funcs.now c.args.at in
    let o = slice_get qs c.args.callee in
    let long = parts_length c.args.scope.costs.now [] c.args.scope.funcs.now in
    let land = spec.Block 0 leaving.ByEnd in
    c.in_ok-put-4.ensures qs ps ∙ elim c.if-callee-scope.branch [
      | then-callee-scope+in_ok-put-2+in_ok-put-3 g ↦
          let body = spec.Body (unwrap_or o spec.Nothing) in
          ap (λ xs. stack_after qs xs (land ∷ ps)) g.out-is ∙ g.in_ok-put-3.ensures qs (land ∷ ps) ∙ g.in_ok-put-2.ensures qs (body ∷ (land ∷ ps)) ∙ c.in_ok-block.ensures.pieces qs (spec.Then body land ∷ ps) ∙ c.in_ok-put.ensures qs (spec.Block w leaving.ByEnd ∷ (spec.Then body land ∷ ps)) ∙ ap (λ p. stack_after qs c.args.out.now (p ∷ ps)) (call_some o w (some_at qs c.args.callee (omega (arith, long, g.if-callee-scope.true))))
      | else-callee-scope g ↦
          ap (λ xs. stack_after qs xs (land ∷ ps)) g.out-is ∙ c.in_ok-block.ensures.pieces qs (land ∷ ps) ∙ c.in_ok-put.ensures qs (spec.Block w leaving.ByEnd ∷ (land ∷ ps)) ∙ ap (λ p. stack_after qs c.args.out.now (p ∷ ps)) (call_none o w (slice_get_past qs c.args.callee (omega (arith, long, g.if-callee-scope.false))))
    ]
