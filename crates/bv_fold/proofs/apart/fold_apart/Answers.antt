use Rattle.std.proofs.Common.{ℕ, List, sym, subst}
use Rattle.bv_fold.specs.Gathered.{AreSameIn, IsGathered}
use Rattle.bv_fold.proofs.CopiedTerms.{each_there, gathered_through}
use Rattle.bv_fold.proofs.PutTerms.{if_ok}
use Rattle.bv_fold.proofs.apart.fold_apart.Goals as goal

pub gather-requires : goal.gather-requires
gather-requires c =
    let old = c.args.terms in
    let new = c.fold_each.new.terms in
    let same = subst (λ (l : List ℕ). AreSameIn old new c.args.wanted.now l) (sym c.as_slice.ensures) c.in_ok-folds.ensures.same in
    each_there old new c.args.wanted.now c.as_slice.result.now same

pub returns : goal.returns
returns c =
    let old = c.args.terms in
    let new = c.fold_each.new.terms in
    let wanted = c.args.wanted.now in
    let folds = c.as_slice.result.now in
    let same = subst (λ (l : List ℕ). AreSameIn old new wanted l) (sym c.as_slice.ensures) c.in_ok-folds.ensures.same in
    if_ok (IsGathered new folds) (IsGathered old wanted) c.gather.result c.gather.ensures
    (λ g is. gathered_through old new wanted folds g c.in_ok-folds.ensures.kept.inputs same is)
