use Rattle.std.proofs.Common.{◌≡◌, true, arith}
use Rattle.std.proofs.lemmas.Result.{err_from_is_err_and}
use Rattle.parse_laws.specs.declared.going.Next.TheVariants.{By}
use Rattle.parse_laws.specs.Going.{next_seen, binds}
use Rattle.parse_laws.proofs.Reading.Turns.{climb-stops, climb-turn}
use Rattle.c_parse.proofs.reader.Reader.+expr.Goals as goal

pub climb-loop-turn-preserved : goal.climb-loop-turn-preserved
climb-loop-turn-preserved t c =
    let some : binds c.args.least (next_seen c.loop-turn.self) ≡ true = cc in
    let is : next_seen c.loop-turn.self ≡ By c.in-By.op = cc in
    record {
      same = climb-turn _ _ _ _ _ _ _ _ some is c.loop-turn.invariant.same _ _ _ (omega arith) (omega arith) (omega arith) c.in_ok-left-in-By.ensures.reads;
      low = omega (arith, c.in_ok-left-in-By.ensures.low);
    }

pub climb-returns-in_err-left-in-By-clause-reads : goal.climb-returns-in_err-left-in-By-clause-reads
climb-returns-in_err-left-in-By-clause-reads t c =
    let some : binds c.args.least (next_seen c.loop-turn.self) ≡ true = cc in
    let is : next_seen c.loop-turn.self ≡ By c.in-By.op = cc in
    let p = err_from_is_err_and c.from_residual.result c.from_residual.ensures.1 in
    rw (p.1, p.2) (λ n. climb-stops _ _ _ _ _ _ _ _ some is c.loop-turn.invariant.same _ (omega arith) (omega arith) (c.in_err-left-in-By.ensures.reads n))
