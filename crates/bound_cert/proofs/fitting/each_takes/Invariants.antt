use Rattle.std.proofs.Common.{◌≡◌, ◌↔◌, drop, length}
use Rattle.std.specs.List.{AllZip}
use Rattle.bound_cert.specs.Fitting.{Takes}
use Rattle.bound_cert.proofs.fitting.each_takes.Given as goal

abbrev pub invariant-loop-i : goal.invariant-loop-i
invariant-loop-i l = record {
  lengths : length l.rows ≡ length l.y;
  rest : AllZip (λ row y. Takes row.kind y) l.rows l.y ↔ AllZip (λ row y. Takes row.kind y) (drop l.i l.rows) (drop l.i l.y);
}
