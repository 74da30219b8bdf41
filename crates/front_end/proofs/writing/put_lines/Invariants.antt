use Rattle.std.proofs.Common.{◌≡◌, ℕ, List, ◌++◌, length}
use Rattle.wc_outside.specs.Growth.{Grew}
use Rattle.front_end.proofs.writing.put_lines.Given as goal

-- what was written is the text up to the rest
abbrev pub invariant-loop-rest : goal.invariant-loop-rest
invariant-loop-rest g l = record {
  done : List ℕ;
  whole : done ++ l.rest ≡ l.text;
  grew : Grew (g.K.Sink.written l.initial.out) (g.K.Sink.written l.out) done;
  kept : g.K.Sink.faults l.out ≡ g.K.Sink.faults l.initial.out;
}

abbrev pub decreases-loop-rest : goal.decreases-loop-rest
decreases-loop-rest g l = length l.rest
