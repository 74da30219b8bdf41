-- Landings, and the blocks of their calls. This project's own.
use Rattle.std.specs.Prelude.{List, map, Option}
use Rattle.c_tree.specs.declared.program.BlockName.{BlockName}
use Rattle.flow_laws.specs.Sites.{Site, call_of}

-- for each node, of a landing the block of its call
abbrev pub calls : List Site → List (Option BlockName)
calls g = map (λ s. call_of s.content) g
