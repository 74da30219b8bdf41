use Rattle.path_formulas.proofs.law.formulas_of_other_terms_say_what_drives.Goals as goal
use Rattle.path_formulas.proofs.Saying.{terms_say}

pub returns : goal.returns
returns c = terms_say
