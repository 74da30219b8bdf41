use Rattle.std.proofs.Common.{ℕ, length, take, ap, ◌∙◌}
use Rattle.c_tree.specs.Checking.Naming.{Scope, with_params, list_behind}
use Rattle.c_resolve.specs.Entered.{function_scope}
use Rattle.c_resolve.proofs.Growth.{taken_back}
use Rattle.c_resolve.proofs.checker.Checker.function.Goals as goal

pub returns-clause-names : goal.returns-clause-names
returns-clause-names c =
    let s = function_scope c.args.self.now.names c.args.number c.args.func.now.result in
    let ps = c.as_slice.result.now in
    let xs = c.as_slice-2.result.now in
    let last = c.in_ok-stmts.ensures.scope ∙ ap (λ u. list_behind u xs) (c.in_ok-params.ensures.scope ∙ ap (λ u. with_params u ps) c.enter.ensures.scope) in
    c.in_ok-close.ensures
    ∙ ap (λ (n : ℕ). take n c.stmts.new.self.names) c.count-count.ensures
    ∙ ap (λ (u : Scope). take (length c.args.self.now.names) u.known) last
    ∙ taken_back s ps xs
