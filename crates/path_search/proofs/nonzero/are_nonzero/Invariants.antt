use Rattle.std.proofs.Common.{◌≡◌, length, drop}
use Rattle.std.specs.Prelude.{slice_index}
use Rattle.cond_laws.specs.Judged.{all_hold}
use Rattle.cond_laws.specs.Conditions.{AllBelow}
use Rattle.path_search.proofs.nonzero.are_nonzero.Given as goal

-- the terms that are left decide
abbrev pub invariant-loop-term : goal.invariant-loop-term
invariant-loop-term l = record {
  below : AllBelow (length l.words) (drop l.term-index l.terms);
  same : all_hold (slice_index l.words) (drop l.term-index l.terms) ≡ all_hold (slice_index l.words) l.terms;
}
