-- Scripts that are parts of those of the definitions. This project's own.
use Rattle.std.specs.Prelude.{◌<◌, ℕ, ◌+◌, if◌then◌else◌, List, Option, Some, None}
use Rattle.c_tree.specs.declared.tree.Var.{Var}
use Rattle.c_tree.specs.declared.tree.Var.TheVariants.{Local as LocalVar}
use Rattle.c_tree.specs.declared.tree.Target.{Target}
use Rattle.c_tree.specs.declared.tree.Target.TheVariants.{Nothing, Assign, Declare}
use Rattle.c_tree.specs.declared.program.Local.{Local}
use Rattle.c_tree.specs.declared.program.Global.{Global}
use Rattle.bv_term.specs.Scripts.{Script, pure}
use Rattle.cond_laws.specs.declared.store.TermSlot.{TermSlot}
use Rattle.cond_laws.specs.declared.store.TermSlot.TheVariants.{Number}
use Rattle.cond_laws.specs.TermPaths.{fresh_term_slot, input_terms, numbers, width}

-- the slot of a local as a call begins, of a parameter with its argument
abbrev pub entry_slot : Local → Option ℕ → Script TermSlot
entry_slot l None = fresh_term_slot l.ty l.length
entry_slot l (Some v) = pure (Number l.ty v)

-- the terms of a global: its inputs, of which the first has the number k, or the numbers of its initialiser
abbrev pub global_terms : Global → ℕ → Script (List ℕ)
global_terms g k = if g.outer then input_terms k (width g.length) else numbers g.ty g.values

-- the number of the input behind those of a global
abbrev pub next_input : Global → ℕ → ℕ
next_input g k = if g.outer then k + width g.length else k

-- the argument of a parameter is there
abbrev pub BelowIfGiven : ℕ → Option ℕ → Type 0
BelowIfGiven k None = Unit {0}
BelowIfGiven k (Some v) = v < k

-- the variable to which the result of a call goes
abbrev pub variable_of : Target → Option Var
variable_of Nothing = None
variable_of (Assign x) = Some x
variable_of (Declare l) = Some (LocalVar l)
