-- What some tables say of a program of two blocks.
use Rattle.std.proofs.Common.{◌≡◌, [], ◌∷◌, codes, Ok, Err, refl}
use Rattle.std.specs.Str.{chars, is_utf8}
use Rattle.std.specs.Fmt.{digits}
use Rattle.toml.proofs.OnLiterals.{toml_on_literals}
use Rattle.c_tree.specs.Meaning.Blocks.{blocks}
use Rattle.cost_table.specs.declared.fault.CostFault.TheVariants.{NotToml, Version, Key, Block, Number, Missing}
use Rattle.cost_table.specs.Tables.{verdict, costs_of_one}
use Rattle.cost_table.specs.Worked.{two_blocks}

pub no_toml : verdict two_blocks (codes "version = \n") ≡ Err NotToml
unfolding toml_on_literals is_utf8 chars digits blocks
no_toml = refl

pub other_version : verdict two_blocks (codes "version = 2\n") ≡ Err Version
unfolding toml_on_literals is_utf8 chars digits blocks
other_version = refl

pub other_keys : verdict two_blocks (codes "version = 1\nzeta = 1\nalpha = 1\n") ≡ Err (Key (codes "alpha"))
unfolding toml_on_literals is_utf8 chars digits blocks
other_keys = refl

pub other_block : verdict two_blocks (codes "version = 1\ndefault = 1\n[cost]\n\"main:9\" = 1\n") ≡ Err (Block (codes "main:9"))
unfolding toml_on_literals is_utf8 chars digits blocks
other_block = refl

pub no_number : verdict two_blocks (codes "version = 1\ndefault = true\n") ≡ Err (Number (codes "default"))
unfolding toml_on_literals is_utf8 chars digits blocks
no_number = refl

pub no_cost : verdict two_blocks (codes "version = 1\n[cost]\n\"main:1\" = 7\n") ≡ Err (Missing (codes "main:0"))
unfolding toml_on_literals is_utf8 chars digits blocks
no_cost = refl

pub one_entry : verdict two_blocks (codes "version = 1\ndefault = 1\n[cost]\n\"main:1\" = 7\n") ≡ Ok (record { by_func = (1 ∷ 7 ∷ []) ∷ [] })
unfolding toml_on_literals is_utf8 chars digits blocks
one_entry = refl

pub plain_ones : costs_of_one two_blocks ≡ record { by_func = (1 ∷ 1 ∷ []) ∷ [] }
unfolding blocks
plain_ones = refl

pub ruleset worked_tables = (no_toml, other_version, other_keys, other_block, no_number, no_cost, one_entry, plain_ones)
