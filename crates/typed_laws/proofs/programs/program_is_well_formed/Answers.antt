use Rattle.typed_laws.proofs.programs.program_is_well_formed.Goals as goal

pub returns : goal.returns
returns c =
    let i = c.program_is_typed.ensures in
    c.typed_programs_are_well_formed.ensures _ _ _ _ _ i.spelled.read.lexed i.spelled.read.spelled i.typed
