-- The weight of a block that is sought by its number along blocks. This project's own.
use Rattle.std.specs.Prelude.{ℕ, zero, suc, nat_lt, if◌then◌else◌, List, [], ◌∷◌, slice_get, Option, Result, Ok, Err}
use Rattle.c_tree.specs.declared.program.Local.{Local}
use Rattle.c_tree.specs.declared.program.Global.{Global}
use Rattle.c_tree.specs.declared.program.Program.{Program}
use Rattle.flow_laws.specs.BlockLists.{Block, Run, Asks, Jumps, Gives, Calls, block_content}
use Rattle.cond_laws.specs.Weights.{expr_weight, list_weight, optional_weight, all_weights, content_weight, locals_of}
use Rattle.path_weight.specs.declared.blocks.Found.{Found}
use Rattle.path_weight.specs.Capped.{capped_weight}

-- a block of the function number k, from which those above it can be called
abbrev pub block_part : List Local → List Global → ℕ → Block → ℕ
block_part ls gs k (Run ss) = all_weights ls gs ss
block_part ls gs k (Asks e) = expr_weight ls gs e
block_part ls gs k Jumps = 0
block_part ls gs k (Gives e) = optional_weight ls gs e
block_part ls gs k (Calls t g es) = if nat_lt g k then list_weight ls gs es else 0

-- the weight of the block number n, or how many blocks are still to be passed before it
abbrev pub sought : (Block → ℕ) → List Block → ℕ → Result ℕ Found
sought w [] n = Ok n
sought w (b ∷ bs) zero = Err (record { weight = capped_weight (w b) })
sought w (b ∷ bs) (suc n) = sought w bs n

-- what a copy of a block of the function number k weighs
abbrev pub copy_weight : Program → ℕ → Option Block → ℕ
copy_weight p k b = content_weight (locals_of (slice_get p.funcs k)) p.globals (block_content p k b)
