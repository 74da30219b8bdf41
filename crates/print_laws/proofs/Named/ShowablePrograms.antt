-- A program that is typed from a unit of a text is one that a text has.
use Rattle.std.proofs.Common.{◌≡◌, ℕ, false, List, [], ◌∷◌, ◌++◌, refl, sym, ◌∙◌, subst, append_assoc}
use Rattle.c_tree.specs.declared.program.Func.{Func}
use Rattle.c_tree.specs.declared.program.Global.{Global}
use Rattle.c_tree.specs.declared.program.Program.{Program}
use Rattle.c_tree.specs.declared.unit.Unit.{Unit as Tree}
use Rattle.c_tree.specs.Checking.Checked.{IsSpelled}
use Rattle.c_tree.specs.Keeping.Layouts.{global_shapes}
use Rattle.c_tree.specs.Checking.Naming.{file_start, program_of}
use Rattle.c_tree.specs.Checking.Refusals.{Typed}
use Rattle.c_tree.specs.Keeping.WellFormed.{WellFormed, WellFormedFuncs, WellFormedGlobals}
use Rattle.typed_laws.proofs.Shaped.ShapedUnits.{unit_shaped}
use Rattle.typed_laws.proofs.Formed.FormedPrograms.{shaped_typed_formed}
use Rattle.print_laws.proofs.Named.Showable.{IsShowableFunc, AreShowableFuncs, AreShowableGlobals, IsShowableProgram}
use Rattle.print_laws.proofs.Named.NamedUnits.{unit_named}
use Rattle.print_laws.proofs.Named.NamedPrograms.{AreNamedGlobals, HaveNames, globals_identified, funcs_identified}
use Rattle.print_laws.proofs.Named.ShowableStatements.{IsBehind, statements_showable}

globals_showable : (gs : List Global) → AreNamedGlobals gs → WellFormedGlobals gs → AreShowableGlobals gs
globals_showable [] names formed = tt
globals_showable (g ∷ gs) names formed =
    (record { named = names.0; formed = formed.0 }, globals_showable gs names.1 formed.1)

-- the functions of a program behind these
funcs_showable : (p : Program) (above fs : List Func) → AreNamedGlobals p.globals → HaveNames p.funcs → HaveNames fs → p.funcs ≡ above ++ fs → WellFormedFuncs (global_shapes p.globals) above fs → AreShowableFuncs p fs
funcs_showable p above [] globals all names split formed = tt
funcs_showable p above (f ∷ fs) globals all names split formed =
    let body = formed.0 in
    let at : IsBehind p f above = record { stands = record { globals = globals; locals = names.0.locals; formed = body.locals }; named = all; rest = f ∷ fs; split = split } in
    let one : IsShowableFunc p f = record { named = names.0.name; locals = names.0.locals; params = body.params; body = statements_showable p f above at false f.body body.body } in
    (one, funcs_showable p (above ++ f ∷ []) fs globals all names.1 (split ∙ sym (append_assoc above (f ∷ []) fs)) formed.1)

-- a well-formed program with identifiers for its names
formed_showable : (p : Program) → AreNamedGlobals p.globals → HaveNames p.funcs → WellFormed p → IsShowableProgram p
formed_showable p globals funcs formed = record {
  globals = globals_showable p.globals globals formed.globals;
  funcs = funcs_showable p [] p.funcs globals funcs funcs refl formed.funcs;
}

made_showable : (u : Tree) (entry : List ℕ) → IsSpelled u → WellFormed (program_of u entry) → IsShowableProgram (program_of u entry)
unfolding program_of
made_showable u entry spelled formed =
    let named = unit_named u spelled in
    formed_showable (program_of u entry) (globals_identified u.tops named) (funcs_identified (file_start u.tops) u.tops named) formed

pub showable : (u : Tree) (entry : List ℕ) (p : Program) → IsSpelled u → Typed u entry p → IsShowableProgram p
showable u entry p spelled typed =
    let formed = shaped_typed_formed u entry p (unit_shaped spelled.text spelled.read.tokens u spelled.read.lexed spelled.read.spelled) typed in
    subst IsShowableProgram (sym typed.named) (made_showable u entry spelled (subst WellFormed typed.named formed))
