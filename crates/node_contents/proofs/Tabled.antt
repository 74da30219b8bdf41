-- The table of blocks, and what is read of it.
use Rattle.std.proofs.Common.{◌≡◌, ◌<◌, ℕ, zero, suc, ◌+◌, List, [], ◌∷◌, ◌++◌, length, drop, get_or, Option, Some, None, option_map, refl, sym, ap, ◌∙◌, append_assoc}
use Rattle.std.specs.Prelude.{slice_get, map}
use Rattle.std.proofs.lemmas.List.{map-append}
use Rattle.c_tree.specs.declared.program.Func.{Func}
use Rattle.c_tree.specs.declared.program.Program.{Program}
use Rattle.flow_laws.specs.BlockLists.{Block, blocks_of_body, blocks_in, blocks_of_func}
use Rattle.node_contents.specs.declared.block.Block as lent
use Rattle.node_contents.specs.Contents.{what, what_of}
use Rattle.plain_laws.proofs.Lists.{drop-read}

-- with one function more
pub func_step : (funcs : List Func) (i : ℕ) (f : Func) (old new : List (List lent.Block)) (bs : List lent.Block) (whole : List (List Block)) → i < length funcs → f ≡ get_or funcs i f → new ≡ old ++ bs ∷ [] → map what bs ≡ blocks_of_body f → what_of old ++ map blocks_of_body (drop i funcs) ≡ whole
    → what_of new ++ map blocks_of_body (drop (i + 1) funcs) ≡ whole
func_step funcs i f old new bs whole lt e h same k =
    let rest = map blocks_of_body (drop (i + 1) funcs) in
    ap (λ y. what_of y ++ rest) h ∙ ap (λ y. y ++ rest) (map-append (λ (y : List lent.Block). map what y) old (bs ∷ [])) ∙ append_assoc (what_of old) (map what bs ∷ []) rest ∙ (λ z. what_of old ++ (same z ∷ rest)) ∙ ap (λ ys. what_of old ++ map blocks_of_body ys) (sym (drop-read funcs i f lt e)) ∙ k

map_at : (bs : List lent.Block) (m : ℕ) → slice_get (map what bs) m ≡ option_map what (slice_get bs m)
map_at [] m = refl
map_at (b ∷ bs) zero = refl
map_at (b ∷ bs) (suc m) = map_at bs m

-- the row of a function, if there is one
pub no_row : (funcs : List Func) (all : List (List lent.Block)) (k m : ℕ) → what_of all ≡ map blocks_of_body funcs → slice_get all k ≡ None → None ≡ slice_get (blocks_in (slice_get funcs k)) m
no_row [] all k m h is = refl
no_row (f ∷ funcs) [] k m h is = absurd (cc)
no_row (f ∷ funcs) (bs ∷ all) zero m h is = absurd (cc)
no_row (f ∷ funcs) (bs ∷ all) (suc k) m h is = let rest : what_of all ≡ map blocks_of_body funcs = cc in no_row funcs all k m rest is

pub row_at : (funcs : List Func) (all : List (List lent.Block)) (bs : List lent.Block) (k m : ℕ) → what_of all ≡ map blocks_of_body funcs → slice_get all k ≡ Some bs → option_map what (slice_get bs m) ≡ slice_get (blocks_in (slice_get funcs k)) m
row_at [] [] bs k m h is = absurd (cc)
row_at [] (cs ∷ all) bs k m h is = absurd (cc)
row_at (f ∷ funcs) [] bs k m h is = absurd (cc)
row_at (f ∷ funcs) (cs ∷ all) bs zero m h is =
    let same : cs ≡ bs = cc in
    let first : map what cs ≡ blocks_of_body f = cc in
    sym (map_at bs m) ∙ ap (λ y. slice_get (map what y) m) (sym same) ∙ ap (λ ps. slice_get ps m) first
row_at (f ∷ funcs) (cs ∷ all) bs (suc k) m h is = let rest : what_of all ≡ map blocks_of_body funcs = cc in row_at funcs all bs k m rest is

pub block_is : (p : Program) (all : List (List lent.Block)) (k m : ℕ) (bs : List lent.Block) (o : Option lent.Block) → what_of all ≡ map blocks_of_body p.funcs → slice_get all k ≡ Some bs → o ≡ slice_get bs m → option_map what o ≡ slice_get (blocks_of_func p k) m
block_is p all k m bs o h is e = ap (option_map what) e ∙ row_at p.funcs all bs k m h is
