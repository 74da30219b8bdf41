use Rattle.std.proofs.Common.{◌++◌, ◌∷◌, [], ◌+◌, drop, sym, ap, ◌∙◌, append_assoc}
use Rattle.c_tree.specs.Checking.Constants.{expr_of, exprs_of}
use Rattle.c_tree.specs.Checking.Uses.{expr_uses, exprs_uses}
use Rattle.c_faults.specs.Verdicts.{after_uses}
use Rattle.c_faults.proofs.AfterUses.{after_uses-none, after_uses-append}
use Rattle.c_resolve.proofs.expr.exprs.Goals as goal
use Rattle.plain_laws.proofs.Lists.{drop-read, drop-past}

pub loop-e-preserved : goal.loop-e-preserved
loop-e-preserved c =
    let ks = c.args.names.now in
    let at = drop-read c.args.list.now c.loop-e.e-index c.e-item.result c.loop-e-test.true c.e-item.is in
    let rest = drop (c.loop-e.e-index + 1) c.args.list.now in
    record {
      tree = ap (λ xs. xs ++ exprs_of ks rest) (c.in_ok-push.ensures.ok ∙ ap (λ x. c.loop-e.items ++ x ∷ []) c.in_ok-expr.ensures.tree)
          ∙ append_assoc c.loop-e.items (expr_of ks c.e-item.result ∷ []) (exprs_of ks rest)
          ∙ ap (λ xs. c.loop-e.items ++ exprs_of ks xs) (sym at) ∙ c.loop-e.invariant.tree;
      first = ap (λ f. after_uses f (exprs_uses ks rest)) c.in_ok-expr.ensures.first
          ∙ sym (after_uses-append c.loop-e.verdict (expr_uses ks c.e-item.result) (exprs_uses ks rest))
          ∙ ap (λ xs. after_uses c.loop-e.verdict (exprs_uses ks xs)) (sym at) ∙ c.loop-e.invariant.first;
    }

pub returns-clause-first : goal.returns-clause-first
returns-clause-first c =
    sym (after_uses-none c.loop-e.verdict)
    ∙ ap (λ xs. after_uses c.loop-e.verdict (exprs_uses c.args.names.now xs)) (sym (drop-past c.args.list.now c.loop-e.e-index c.loop-e-test.false))
    ∙ c.loop-e.invariant.first
