-- A program of two blocks, for worked tables.
use Rattle.std.specs.Prelude.{codes, [], ◌∷◌, None}
use Rattle.c_tree.specs.declared.tree.Stmt.TheVariants.{Return}
use Rattle.c_tree.specs.declared.program.Program.{Program}

-- `main` with two blocks
abbrev pub two_blocks : Program
two_blocks = record {
  globals = [];
  funcs = (record {
    name = codes "main";
    result = None;
    params = 0;
    locals = [];
    body = Return None ∷ Return None
        ∷ [];
  }) ∷ [];
  entry = 0;
}
