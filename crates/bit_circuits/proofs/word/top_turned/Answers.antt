use Rattle.std.proofs.Common.{◌≡◌, ◌<◌, ◌++◌, ◌∷◌, [], length, neg_ℤ, arith, sym, ap, ◌∙◌}
use Rattle.std.proofs.lemmas.Bool.Decides.{nat_tests}
use Rattle.bit_circuits.specs.Words.{top, lower}
use Rattle.bit_circuits.proofs.Circuits.Parts.{turned-parts}
use Rattle.bit_circuits.proofs.word.top_turned.Goals as goal

pub returns : goal.returns
returns c =
    let xs = c.args.xs.now in
    let h : 0 < length xs = grind (arith, nat_tests) in
    let front : c.in_ok-word.word.items ≡ lower xs = c.in_ok-word.ensures.items ∙ c.lower.ensures in
    let last : c.negated-highest.result ≡ neg_ℤ (top xs) = c.negated-highest.ensures ∙ ap neg_ℤ c.top.ensures in
    c.in_ok-push.ensures.items ∙ ap (λ l. l ++ c.negated-highest.result ∷ []) front ∙ ap (λ z. lower xs ++ z ∷ []) last ∙ turned-parts xs h
