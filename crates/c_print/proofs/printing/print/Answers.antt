use Rattle.std.proofs.Common.{◌≡◌, ℕ, List, IfOk, Result, Ok, Err, subst, sym}
use Rattle.c_print.proofs.printing.print.Goals as goal
use Rattle.print_laws.specs.Again.{IsReadAs}

-- what holds of a text holds of the answer that is this text
of_the_text : {A E : Type 0} (text : A → List ℕ) (P : List ℕ → Type 0) (r : Result A E) (t : List ℕ) → IfOk r (λ a. text a ≡ t) → P t → IfOk r (λ a. P (text a))
of_the_text text P (Ok a) t h x = subst P (sym h) x
of_the_text text P (Err e) t h x = tt

pub returns-clause-again : goal.returns-clause-again
returns-clause-again c unit entry spelled typed =
    of_the_text (λ t. t.items) (λ t. IsReadAs t entry c.args.program.now) c.printed.result _ c.printed.ensures (c.printed_programs_are_read_again.ensures unit entry c.args.program.now spelled typed)

pub returns-clause-read : goal.returns-clause-read
returns-clause-read c =
    let i = c.program_is_typed.ensures in
    of_the_text (λ t. t.items) (λ t. (entry : List ℕ) × IsReadAs t entry c.args.program.now) c.printed.result _ c.printed.ensures
    (i.entry, c.printed_programs_are_read_again.ensures i.unit i.entry c.args.program.now i.spelled i.typed)
