-- Which fault a text has.
use Rattle.std.specs.Prelude.{ℕ, List}
use Rattle.cnf_form.specs.declared.form_fault.FormFault.{FormFault}
use Rattle.cnf_form.specs.declared.form_fault.FormFault.TheVariants.{NotForm, NoMemory}
use Rattle.text_lines.specs.Lines.{LeavesAt}

-- the text leaves the form at the line, or memory is wanting
abbrev pub IsFaultOf : (List ℕ → Type 0) → List ℕ → FormFault → Type 0
IsFaultOf IsText text (NotForm line) = LeavesAt IsText text line
IsFaultOf IsText text NoMemory = Unit {0}
