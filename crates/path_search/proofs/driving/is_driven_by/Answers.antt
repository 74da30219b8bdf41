use Rattle.std.proofs.Common.{◌∙◌}
use Rattle.path_search.proofs.DrivenInputs.{words_for_terms}
use Rattle.path_search.proofs.driving.is_driven_by.Goals as goal

pub are_nonzero-requires : goal.are_nonzero-requires
are_nonzero-requires c =
    let condition = c.in_ok-condition.condition in
    words_for_terms condition.terms condition.conditions c.args.input.now c.as_slice.result.now c.as_slice-2.result.now
    c.in_ok-condition.ensures.fits.conditions (c.as_slice.ensures.value ∙ c.in_ok-words.ensures) c.as_slice-2.ensures
