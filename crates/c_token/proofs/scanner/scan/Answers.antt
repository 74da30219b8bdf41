use Rattle.std.proofs.Common.{refl, ◌∙◌, arith}
use Rattle.c_tree.specs.Tokens.Lexing.{nothing}
use Rattle.c_token.proofs.Reaching.{Reaches-append}
use Rattle.c_token.proofs.scanner.scan.Goals as goal

pub loop-scanner-init : goal.loop-scanner-init
loop-scanner-init c = record { text = refl; within = omega arith; reached = nothing refl c.new-tokens.ensures.items }

pub loop-scanner-preserved : goal.loop-scanner-preserved
loop-scanner-preserved c =
    let kept = c.loop-scanner.invariant in
    let read = c.in_ok-token.ensures in
    record {
      text = read.text ∙ kept.text;
      within = rw kept.text at read.within;
      reached = rw c.in_ok-push.ensures.ok (Reaches-append c.args.text.now _ _ kept.reached (rw kept.text at read.reaches));
    }
