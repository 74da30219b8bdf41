-- What a table of costs says of a program: its first fault, or the costs. This project's own.
use Rattle.std.specs.Prelude.{
  ◌≡◌,
  ◌++◌,
  codes,
  decimal,
  ℕ,
  Bool,
  false,
  map,
  List,
  [],
  ◌∷◌,
  not,
  if◌then◌else◌,
  Option,
  Some,
  None,
  is_some,
  is_none,
  option_map,
  unwrap_or,
  Result,
  Ok,
  Err,
  replicate,
}
use Rattle.std.specs.List.{list_any, flat_map, range_with_len}
use Rattle.std.specs.Str.{bytes_eq}
use Rattle.toml.specs.Data.{Members, get_member}
use Rattle.c_tree.specs.declared.program.Func.{Func}
use Rattle.c_tree.specs.declared.program.Program.{Program}
use Rattle.c_tree.specs.declared.program.Costs.{Costs}
use Rattle.c_tree.specs.Meaning.Blocks.{list_blocks}
use Rattle.cost_table.specs.declared.fault.CostFault.{CostFault}
use Rattle.cost_table.specs.declared.fault.CostFault.TheVariants.{NotToml, Version, Key, Block, Number, Missing}
use Rattle.cost_document.specs.Documents.{
  document,
  version,
  default,
  entries,
  is_stray,
  is_one,
  cost_in,
  written_cost,
  first_key,
}

-- ---- the names of the blocks

-- the block of this number in the function of this name: `function:number`
abbrev pub block_name : List ℕ → ℕ → List ℕ
block_name function number = function ++ codes ":" ++ decimal number

-- those of a function, by number
abbrev pub names_of : Func → List (List ℕ)
names_of f = map (block_name f.name) (range_with_len 0 (list_blocks f.body false))

-- those of the functions in the order of the text
abbrev pub names : List Func → List (List ℕ)
names = flat_map names_of

abbrev pub names_block : List Func → List ℕ → Bool
names_block fs key = list_any (bytes_eq key) (names fs)

-- ---- the faults, each alone

-- `version` is absent or is not the whole number 1
abbrev pub version_fault : Members → Option CostFault
version_fault ms = if unwrap_or (option_map is_one (version ms)) false then None else Some Version

-- a key at the top is none of the three, or `cost` is no table
abbrev pub key_fault : Members → Option CostFault
key_fault ms = option_map Key (first_key is_stray ms)

-- a key of `cost` names no block
abbrev pub block_fault : List Func → Members → Option CostFault
block_fault fs ms = option_map Block (first_key (λ key d. not (names_block fs key)) (entries ms))

-- `default`, or else a value of `cost`, is no whole number in range
abbrev pub number_fault : Members → Option CostFault
number_fault ms =
    if unwrap_or (option_map (λ d. is_none (cost_in d)) (default ms)) false then Some (Number (codes "default"))
    else option_map Number (first_key (λ key d. is_none (cost_in d)) (entries ms))

-- the first of the names that has no entry
abbrev pub first_without : Members → List (List ℕ) → Option (List ℕ)
first_without es [] = None
first_without es (name ∷ rest) = if is_some (get_member name es) then first_without es rest else Some name

-- the same, where there is no `default`
abbrev pub first_missing : Members → List (List ℕ) → Option (List ℕ)
first_missing ms ns = if is_some (default ms) then None else first_without (entries ms) ns

-- there is no `default`, and a block has no entry
abbrev pub missing_fault : List Func → Members → Option CostFault
missing_fault fs ms = option_map Missing (first_missing ms (names fs))

-- ---- the verdict

-- the first fault that is there, in the order of their list
abbrev pub first_fault : List (Option CostFault) → Option CostFault
first_fault [] = None
first_fault (None ∷ rest) = first_fault rest
first_fault (Some fault ∷ rest) = Some fault

abbrev pub table_fault : List Func → Members → Option CostFault
table_fault fs ms =
    first_fault (version_fault ms ∷ key_fault ms ∷ block_fault fs ms ∷ number_fault ms ∷ missing_fault fs ms ∷ [])

-- a block's cost. Where there is no fault, one is given
abbrev pub table_cost : Members → List ℕ → ℕ
table_cost ms name = unwrap_or (written_cost ms name) 0

-- a list for each function in order, with the cost of each of its blocks
abbrev pub costs_of : List Func → Members → Costs
costs_of fs ms = record { by_func = map (λ (f : Func). map (table_cost ms) (names_of f)) fs }

-- a document's fault, or its costs
abbrev pub table_result : Option CostFault → Costs → Result Costs CostFault
table_result None t = Ok t
table_result (Some fault) t = Err fault

-- what a document says of the functions, where the bytes spell one
abbrev pub document_verdict : List Func → Option Members → Result Costs CostFault
document_verdict fs None = Err NotToml
document_verdict fs (Some ms) = table_result (table_fault fs ms) (costs_of fs ms)

-- what the bytes say of the program
abbrev pub verdict : Program → List ℕ → Result Costs CostFault
verdict p bytes = document_verdict p.funcs (document bytes)

-- the bytes are a table of the program, and these are its costs
abbrev pub IsTable : List ℕ → Program → Costs → Type 0
IsTable bytes p t = verdict p bytes ≡ Ok t

-- ---- without a table

-- 1 for every block
abbrev pub costs_of_one : Program → Costs
costs_of_one p = record { by_func = map (λ (f : Func). replicate (list_blocks f.body false) 1) p.funcs }
