use Rattle.std.proofs.Common.{◌+◌, ap}
use Rattle.std.proofs.lemmas.List.{take_rest}
use Rattle.c_token.proofs.Reaching.{piece_reaches}
use Rattle.c_token.proofs.scanner.Scanner.read.Goals as goal

pub returns-clause-reaches : goal.returns-clause-reaches
returns-clause-reaches c =
    let text = c.args.self.now.text.now in
    let at = c.args.self.now.at in
    rw c.token_of.ensures (piece_reaches text at (at + c.len.result) c.in-Ok.piece (ap (λ n. at + n) c.len.ensures) (rw (take_rest text at) at c.in-Ok.ensures))
