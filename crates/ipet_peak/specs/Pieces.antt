-- A part as a list of its pieces, a piece before those of the parts that it holds. This project's own.
use Rattle.std.specs.Prelude.{◌≡◌, false, ℕ, ◌+◌, List, [], ◌∷◌, ◌++◌, length, slice_get, unwrap_or}
use Rattle.c_tree.specs.declared.program.Costs.{Costs}
use Rattle.c_tree.specs.declared.program.Func.{Func}
use Rattle.c_tree.specs.declared.tree.Stmt.{Stmt}
use Rattle.c_tree.specs.Meaning.Blocks.{is_simple, blocks}
use Rattle.ipet_peak.specs.declared.pieces.Piece.{Piece}
use Rattle.ipet_peak.specs.declared.pieces.Piece.TheVariants as piece
use Rattle.peak_laws.specs.Parts.{Part, Nothing, Block, Choice, While, Do, Body}
use Rattle.peak_laws.specs.Magnitudes.{cap_cost}
use Rattle.peak_laws.specs.ProgramParts.{sequence, part, costs_in, function_parts}

-- of a stack of parts the one that was made last
abbrev pub last_part : List Part → Part
last_part [] = Nothing
last_part (p ∷ ps) = p

-- and those before it
abbrev pub earlier_parts : List Part → List Part
earlier_parts [] = []
earlier_parts (p ∷ ps) = ps

-- the part of the function number f, or no node where it is not there
abbrev pub part_at : List Part → ℕ → Part
part_at qs f = unwrap_or (slice_get qs f) Nothing

-- the stack after a piece, which takes the parts that were made last and makes one of them; qs are those of the
-- functions
abbrev pub stack_after_piece : List Part → Piece → List Part → List Part
stack_after_piece qs piece.Nothing ps = Nothing ∷ ps
stack_after_piece qs (piece.Block c l) ps = Block c l ∷ ps
stack_after_piece qs piece.Join ps = sequence (last_part ps) (last_part (earlier_parts ps))
    ∷ earlier_parts (earlier_parts ps)
stack_after_piece qs (piece.Choice c) ps = Choice c (last_part ps) (last_part (earlier_parts ps))
    ∷ earlier_parts (earlier_parts ps)
stack_after_piece qs (piece.While c m s) ps = While c m s (last_part ps) ∷ earlier_parts ps
stack_after_piece qs (piece.Do c m) ps = Do c m (last_part ps) ∷ earlier_parts ps
stack_after_piece qs (piece.Call g) ps = Body (part_at qs g) ∷ ps

-- the stack after all pieces, from the last to the first
abbrev pub stack_after : List Part → List Piece → List Part → List Part
stack_after qs [] ps = ps
stack_after qs (x ∷ xs) ps = stack_after_piece qs x (stack_after qs xs ps)

-- the parts that the functions' pieces make, each over those of the functions above it
abbrev pub parts_with : List Part → List (List Piece) → List Part
parts_with qs [] = qs
parts_with qs (xs ∷ xss) = parts_with (qs ++ last_part (stack_after qs xs []) ∷ []) xss

abbrev pub parts_made : List (List Piece) → List Part
parts_made xss = parts_with [] xss

-- each function's pieces make one part, and leave nothing over
abbrev pub MakeOneEach : List Part → List (List Piece) → Type 0
MakeOneEach qs [] = Unit {0}
MakeOneEach qs (xs ∷ xss) =
    (stack_after qs xs [] ≡ last_part (stack_after qs xs []) ∷ [])
    × MakeOneEach (qs ++ last_part (stack_after qs xs []) ∷ []) xss

-- what the caps allow for all parts of a stack
abbrev pub stack_cost : List Part → ℕ
stack_cost [] = 0
stack_cost (p ∷ ps) = cap_cost p + stack_cost ps

-- the pieces that are new make this part
abbrev pub Adds : List Part → List Piece → List Piece → Part → Type 0
Adds qs old new p = (ps : List Part) → stack_after qs new ps ≡ stack_after qs old (p ∷ ps)

-- the pieces that are new make this part, before the part that is made next
abbrev pub Leads : List Part → List Piece → List Piece → Part → Type 0
Leads qs old new q = (p : Part) (ps : List Part) → stack_after qs new (p ∷ ps) ≡ stack_after qs old (sequence q p ∷ ps)

-- a statement without a block and without a node: a group of such statements
pub record IsVoid (s : Stmt) : Type 0 where
  pub compound : is_simple s ≡ false
  pub no_block : blocks s false ≡ 0
  pub no_node : (qs : List Part) (cost : ℕ → ℕ) (b : ℕ) → part qs cost s b ≡ Nothing

-- the parts of these functions, and the costs of the blocks of the one after them
abbrev pub parts_above : Costs → List Func → List Part
parts_above t fs = function_parts t [] fs

abbrev pub costs_after : Costs → List Func → ℕ → ℕ
costs_after t fs = costs_in t (length fs)
