-- What is wrong where tokens spell no tree.
use Rattle.std.proofs.Common.{sym, subst}
use Rattle.c_tree.specs.Tokens.Lexing.{Lexes}
use Rattle.front_end.proofs.Stopping.{parse_failed}
use Rattle.front_end.proofs.reading.unit_of.Goals as goal

pub returns-clause-stopped : goal.returns-clause-stopped
returns-clause-stopped c entry =
    let lexed = subst (λ ts. Lexes c.args.text.now ts) (sym c.deref.ensures.value) c.in_ok-tokens.ensures.lexed in
    rw c.parse_stop.ensures (parse_failed c.args.text.now entry c.deref.result.now c.in-Err.fault c.requires lexed c.in-Err.ensures.read c.in-Err.ensures.refused)
