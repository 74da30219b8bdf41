use Rattle.std.proofs.Common.{length, sym, ◌∙◌}
use Rattle.std.proofs.lemmas.Bool.{false≢true}
use Rattle.text_lines.proofs.Leaving.{is_empty}
use Rattle.cnf_form.proofs.Logs.LogLines.{grows_at_once, grows_by, open_stray}
use Rattle.cnf_form.proofs.log_line.open_clause.Goals as goal
use Rattle.std.proofs.iter.SplitParts.{length_zero-nil}

pub returns-then-is_empty : goal.returns-then-is_empty
returns-then-is_empty c =
    rw (length_zero-nil c.args.rest.now (is_empty (length c.args.rest.now) c.is_empty.result c.is_empty.ensures c.if-is_empty.true)) (grows_at_once c.args.front.now.literals.items c.requires.keeps.is_front.clause)

pub returns-then-may_grow : goal.returns-then-may_grow
returns-then-may_grow c =
    let s = c.args.front.now in
    grows_by s.literals.items c.args.rest.now (rw (c.requires.variables, c.requires.count, c.requires.clauses) at c.requires.keeps.is_front) (rw (c.requires.variables, c.requires.count, c.requires.clauses) at (c.may_grow.ensures.0 c.if-may_grow.true))

pub returns-else-may_grow : goal.returns-else-may_grow
returns-else-may_grow c =
    let s = c.args.front.now in
    open_stray s.literals.items c.args.rest.now c.requires.keeps.is_front.clause c.requires.bare (λ grows. false≢true (sym c.if-may_grow.false ∙ c.may_grow.ensures.1 (rw (c.requires.variables, c.requires.count, c.requires.clauses) grows)))
