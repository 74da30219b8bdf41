-- What is written is how many block copies there are, and the optimum, which no run exceeds.
use Rattle.std.proofs.Common.{ap, subst, ◌∙◌}
use Rattle.std.specs.Prelude.{◌≤◌}
use Rattle.squeeze_top.specs.Answers.{ipet_lines}
use Rattle.squeeze_top.proofs.answer.ipet_text.Goals as goal

pub returns : goal.returns
returns c =
    record {
      bound = c.in_ok-peak.peak.value;
      optimum = c.in_ok-peak.ensures.peak.optimum;
      above = c.in_ok-peak.ensures.above;
      fits = c.in_ok-ipet_lines.ensures.fits;
      few = subst (λ k. k ≤ 1024) c.copies.ensures.count c.copies.ensures.few;
      lines = c.in_ok-ipet_lines.ensures.lines ∙ ap (λ n. ipet_lines n c.in_ok-peak.peak.value) c.copies.ensures.count;
    }
