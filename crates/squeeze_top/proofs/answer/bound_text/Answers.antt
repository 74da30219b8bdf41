-- What is written is the optimum, which no run exceeds.
use Rattle.squeeze_top.proofs.answer.bound_text.Goals as goal

pub returns : goal.returns
returns c =
    record {
      bound = c.in_ok-peak.peak.value;
      optimum = c.in_ok-peak.ensures.peak.optimum;
      above = c.in_ok-peak.ensures.above;
      fits = c.in_ok-bound_line.ensures.fits;
      line = c.in_ok-bound_line.ensures.line;
    }
