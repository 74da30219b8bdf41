-- The program that a unit with its names replaced by numbers is, where no fault stands.
use Rattle.c_tree.specs.Keeping.Programs.{Program}
use Rattle.c_check.specs.declared.checking.Named.{Named}

-- the program with these parts
abbrev pub with_parts : Named → Program
with_parts n = record { globals = n.globals; funcs = n.funcs; entry = n.entry }
