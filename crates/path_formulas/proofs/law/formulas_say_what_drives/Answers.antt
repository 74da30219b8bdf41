use Rattle.path_formulas.proofs.law.formulas_say_what_drives.Goals as goal
use Rattle.path_formulas.proofs.Saying.{formulas_say}

pub returns : goal.returns
returns c = formulas_say
