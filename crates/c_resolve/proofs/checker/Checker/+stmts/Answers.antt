use Rattle.std.proofs.Common.{◌++◌, ◌∷◌, [], ◌+◌, drop, sym, ap, ◌∙◌, append_assoc}
use Rattle.c_tree.specs.declared.tree.Stmt.TheVariants as stmt
use Rattle.c_tree.specs.Checking.Naming.{scope_past_list, list_locals, scope_behind, stmt_of, stmts_of, list_behind}
use Rattle.c_tree.specs.Checking.Uses.{stmt_uses, stmts_uses}
use Rattle.c_faults.specs.Verdicts.{after_uses}
use Rattle.c_resolve.specs.Walks.{scope_of, scope_at_end}
use Rattle.c_faults.proofs.AfterUses.{after_uses-none, after_uses-append}
use Rattle.c_resolve.proofs.Growth.{ended_list}
use Rattle.c_resolve.proofs.ForLoops.{Inside, for_tree, for_scope, for_first}
use Rattle.c_resolve.proofs.checker.Checker.+stmts.Goals as goal
use Rattle.plain_laws.proofs.Lists.{drop-read, drop-past}

pub inner-returns-clause-scope : goal.inner-returns-clause-scope
inner-returns-clause-scope t c =
    let o = c.in_ok-outer.outer in
    let s = scope_of c.args.self.now in
    c.in_ok-close.ensures.scope
    ∙ ap (λ u. scope_at_end u o) (c.in_ok-stmts.ensures.scope ∙ ap (λ u. list_behind u c.as_slice.result.now) c.in_ok-outer.ensures.scope)
    ∙ ended_list s c.args.looped c.as_slice.result.now o c.in_ok-outer.ensures.outer
    ∙ ap (λ xs. scope_past_list s (list_locals xs)) c.as_slice.ensures

pub stmts-loop-stmt-preserved : goal.stmts-loop-stmt-preserved
stmts-loop-stmt-preserved t c =
    let s = scope_of c.loop-stmt.self in
    let x = c.stmt-item.result in
    let at = drop-read c.args.list.now c.loop-stmt.stmt-index x c.loop-stmt-test.true c.stmt-item.is in
    let rest = drop (c.loop-stmt.stmt-index + 1) c.args.list.now in
    let e = c.in_ok-stmt.ensures in
    record {
      tree = (λ i. c.in_ok-push.ensures.ok i ++ stmts_of (e.scope i) rest)
          ∙ ap (λ y. (c.loop-stmt.stmts ++ y ∷ []) ++ stmts_of (scope_behind s x) rest) e.tree
          ∙ append_assoc c.loop-stmt.stmts (stmt_of s x ∷ []) (stmts_of (scope_behind s x) rest)
          ∙ ap (λ xs. c.loop-stmt.stmts ++ stmts_of s xs) (sym at) ∙ c.loop-stmt.invariant.tree;
      scope = ap (λ u. list_behind u rest) e.scope ∙ ap (list_behind s) (sym at) ∙ c.loop-stmt.invariant.scope;
      first = (λ i. after_uses (e.first i) (stmts_uses (e.scope i) rest))
          ∙ sym (after_uses-append c.loop-stmt.self.verdict (stmt_uses s x) (stmts_uses (scope_behind s x) rest))
          ∙ ap (λ xs. after_uses c.loop-stmt.self.verdict (stmts_uses s xs)) (sym at) ∙ c.loop-stmt.invariant.first;
    }

pub stmts-returns-clause-first : goal.stmts-returns-clause-first
stmts-returns-clause-first t c =
    let s = scope_of c.loop-stmt.self in
    sym (after_uses-none c.loop-stmt.self.verdict)
    ∙ ap (λ xs. after_uses c.loop-stmt.self.verdict (stmts_uses s xs)) (sym (drop-past c.args.list.now c.loop-stmt.stmt-index c.loop-stmt-test.false))
    ∙ c.loop-stmt.invariant.first

pub stmt-returns-in_ok-close-in-For-clause-tree : goal.stmt-returns-in_ok-close-in-For-clause-tree
stmt-returns-in_ok-close-in-For-clause-tree t c =
    let s = scope_of c.args.self.now in
    let inside : Inside s (scope_of c.open.new.self) (scope_of c.held.new.self) (scope_of c.held-in-For.new.self) c.in-For.initial c.in-For.step = record {
      opening = c.in_ok-outer-in-For.ensures.scope;
      first = c.in_ok-initial-in-For.ensures.scope;
      second = c.in_ok-step-in-For.ensures.scope;
    } in
    ap (λ n. stmt.For n c.in_ok-initial-in-For.initial c.in_ok-e-in-For.e c.in_ok-step-in-For.step c.in_ok-body-in-For.body) c.bound_number.ensures
    ∙ for_tree s _ _ _ c.in-For.at c.in-For.bound c.in-For.initial c.in-For.e c.in-For.step c.in-For.body _ _ _ _ inside c.in_ok-initial-in-For.ensures.tree c.in_ok-e-in-For.ensures.tree c.in_ok-step-in-For.ensures.tree c.in_ok-body-in-For.ensures.tree
    ∙ ap (stmt_of s) (sym c.in-For.is)

pub stmt-returns-in_ok-close-in-For-clause-scope : goal.stmt-returns-in_ok-close-in-For-clause-scope
stmt-returns-in_ok-close-in-For-clause-scope t c =
    let s = scope_of c.args.self.now in
    let inside : Inside s (scope_of c.open.new.self) (scope_of c.held.new.self) (scope_of c.held-in-For.new.self) c.in-For.initial c.in-For.step = record {
      opening = c.in_ok-outer-in-For.ensures.scope;
      first = c.in_ok-initial-in-For.ensures.scope;
      second = c.in_ok-step-in-For.ensures.scope;
    } in
    for_scope s _ _ _ (scope_of c.inner-in-For.new.self) _ c.in-For.at c.in-For.bound c.in-For.initial c.in-For.e c.in-For.step c.in-For.body c.in_ok-outer-in-For.outer inside c.in_ok-outer-in-For.ensures.outer c.in_ok-body-in-For.ensures.scope c.in_ok-close-in-For.ensures.scope
    ∙ ap (scope_behind s) (sym c.in-For.is)

pub stmt-returns-in_ok-close-in-For-clause-first : goal.stmt-returns-in_ok-close-in-For-clause-first
stmt-returns-in_ok-close-in-For-clause-first t c =
    let s = scope_of c.args.self.now in
    let f = c.args.self.now.verdict in
    let inside : Inside s (scope_of c.open.new.self) (scope_of c.held.new.self) (scope_of c.held-in-For.new.self) c.in-For.initial c.in-For.step = record {
      opening = c.in_ok-outer-in-For.ensures.scope;
      first = c.in_ok-initial-in-For.ensures.scope;
      second = c.in_ok-step-in-For.ensures.scope;
    } in
    c.in_ok-close-in-For.ensures.same
    ∙ for_first s _ _ _ c.in-For.at c.in-For.bound c.in-For.initial c.in-For.e c.in-For.step c.in-For.body f c.open.new.self.verdict c.held.new.self.verdict c.expr-in-For.new.verdict c.held-in-For.new.self.verdict c.inner-in-For.new.self.verdict inside (c.in_ok-outer-in-For.ensures.same ∙ c.looped.ensures) c.in_ok-initial-in-For.ensures.first c.in_ok-e-in-For.ensures.first c.in_ok-step-in-For.ensures.first c.in_ok-body-in-For.ensures.first
    ∙ ap (λ x. after_uses f (stmt_uses s x)) (sym c.in-For.is)
