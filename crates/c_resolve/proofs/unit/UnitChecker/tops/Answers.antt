use Rattle.std.proofs.Common.{◌++◌, ◌+◌, drop, sym, ap, ◌∙◌, append_assoc}
use Rattle.c_tree.specs.Checking.Naming.{behind_top, funcs_of, globals_of}
use Rattle.c_tree.specs.Checking.Uses.{top_uses, tops_uses}
use Rattle.c_faults.specs.Verdicts.{after_uses}
use Rattle.c_resolve.specs.Files.{file_of, top_funcs, top_globals}
use Rattle.c_faults.proofs.AfterUses.{after_uses-none, after_uses-append}
use Rattle.c_resolve.proofs.FileLayers.{funcs_of-cons, globals_of-cons}
use Rattle.c_resolve.proofs.unit.UnitChecker.tops.Goals as goal
use Rattle.plain_laws.proofs.Lists.{drop-read, drop-past}
use Rattle.std.proofs.lemmas.List.{append-nil}

pub loop-top-preserved : goal.loop-top-preserved
loop-top-preserved c =
    let u = c.loop-top.self in
    let f = file_of u in
    let x = c.top-item.result in
    let at = drop-read c.args.tops.now c.loop-top.top-index x c.loop-top-test.true c.top-item.is in
    let rest = drop (c.loop-top.top-index + 1) c.args.tops.now in
    let e = c.in_ok-top.ensures in
    record {
      globals = ap (λ gs. gs ++ globals_of rest) e.globals
          ∙ append_assoc u.globals (top_globals x) (globals_of rest)
          ∙ ap (λ gs. u.globals ++ gs) (sym (globals_of-cons x rest))
          ∙ ap (λ ts. u.globals ++ globals_of ts) (sym at) ∙ c.loop-top.invariant.globals;
      funcs = (λ i. e.funcs i ++ funcs_of (e.file i) rest)
          ∙ append_assoc u.funcs (top_funcs f x) (funcs_of (behind_top f x) rest)
          ∙ ap (λ fs. u.funcs ++ fs) (sym (funcs_of-cons f x rest))
          ∙ ap (λ ts. u.funcs ++ funcs_of f ts) (sym at) ∙ c.loop-top.invariant.funcs;
      first = (λ i. after_uses (e.first i) (tops_uses (e.file i) rest))
          ∙ sym (after_uses-append u.checker.verdict (top_uses f x) (tops_uses (behind_top f x) rest))
          ∙ ap (λ ts. after_uses u.checker.verdict (tops_uses f ts)) (sym at) ∙ c.loop-top.invariant.first;
    }

pub returns-clause-globals : goal.returns-clause-globals
returns-clause-globals c =
    sym (append-nil c.loop-top.self.globals)
    ∙ ap (λ ts. c.loop-top.self.globals ++ globals_of ts) (sym (drop-past c.args.tops.now c.loop-top.top-index c.loop-top-test.false))
    ∙ c.loop-top.invariant.globals

pub returns-clause-funcs : goal.returns-clause-funcs
returns-clause-funcs c =
    sym (append-nil c.loop-top.self.funcs)
    ∙ ap (λ ts. c.loop-top.self.funcs ++ funcs_of (file_of c.loop-top.self) ts) (sym (drop-past c.args.tops.now c.loop-top.top-index c.loop-top-test.false))
    ∙ c.loop-top.invariant.funcs

pub returns-clause-first : goal.returns-clause-first
returns-clause-first c =
    let g = c.loop-top.self.checker.verdict in
    sym (after_uses-none g)
    ∙ ap (λ ts. after_uses g (tops_uses (file_of c.loop-top.self) ts)) (sym (drop-past c.args.tops.now c.loop-top.top-index c.loop-top-test.false))
    ∙ c.loop-top.invariant.first
