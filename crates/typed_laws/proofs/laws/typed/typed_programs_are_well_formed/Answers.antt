use Rattle.typed_laws.proofs.laws.typed.typed_programs_are_well_formed.Goals as goal

pub returns : goal.returns
returns c text tokens unit entry program lexed spelled typed =
    c.shaped_units_type_well.ensures unit entry program (c.spelled_units_are_shaped.ensures text tokens unit lexed spelled) typed
