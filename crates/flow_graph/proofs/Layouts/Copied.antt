-- Copies of functions by their numbers, and what the code knows of their sizes.
use Rattle.std.proofs.Common.{◌≡◌, ℕ, zero, suc, ◌+◌, List, [], ◌∷◌, ◌++◌, length, take, drop, Option, Some, None, option_map, refl, sym, ap, ◌∙◌, arith, length-append}
use Rattle.std.specs.Prelude.{slice_get}
use Rattle.c_tree.specs.declared.program.Func.{Func}
use Rattle.c_tree.specs.declared.program.BlockName.{BlockName}
use Rattle.flow_laws.specs.Sites.{Copy}
use Rattle.flow_laws.specs.Graphs.{copy_of, copies}
use Rattle.flow_laws.proofs.Loops.LoopConditions.{copy_sizes}
use Rattle.graph_lists.specs.Amounts.{capped_amount, amounts}
use Rattle.flow_graph.specs.Layout.{each, AreSizes, copies_above}
use Rattle.flow_graph.proofs.Totals.{Counts, all_count}
use Rattle.flow_graph.proofs.Kept.{one_each, weighs_each, total_length}
use Rattle.plain_laws.proofs.Lists.{get-front, get-past, get-seam}

-- ---- one function more

pub copies_keep : (cs : List Copy) (fs : List Func) (n : ℕ) (c : Copy) → slice_get cs n ≡ Some c → slice_get (copies cs fs) n ≡ Some c
copies_keep cs [] n c h = h
copies_keep cs (f ∷ fs) n c h = copies_keep (cs ++ copy_of (length cs) f cs ∷ []) fs n c (get-front cs (copy_of (length cs) f cs ∷ []) n c h)

pub copy_at : (cs : List Copy) (fs : List Func) (g : ℕ) → slice_get (copies cs fs) (length cs + g) ≡ option_map (λ f. copy_of (length cs + g) f (copies cs (take g fs))) (slice_get fs g)
copy_at cs [] g = get-past cs g
copy_at cs (f ∷ fs) zero =
    let c = copy_of (length cs) f cs in
    let e : length cs ≡ length cs + 0 = omega arith in
    copies_keep (cs ++ c ∷ []) fs (length cs + 0) c (get-seam cs c) ∙ ap (λ n. Some (copy_of n f cs)) e
copy_at cs (f ∷ fs) (suc g) =
    let c = copy_of (length cs) f cs in
    let len = length-append cs (c ∷ []) in
    let e : length cs + suc g ≡ length (cs ++ c ∷ []) + g = omega (arith, len) in
    ap (slice_get (copies (cs ++ c ∷ []) fs)) e ∙ copy_at (cs ++ c ∷ []) fs g ∙ ap (λ n. option_map (λ f. copy_of n f (copies (cs ++ c ∷ []) (take g fs))) (slice_get fs g)) (sym e)

copies_split : (cs : List Copy) (fs : List Func) (n : ℕ) → copies cs fs ≡ copies (copies cs (take n fs)) (drop n fs)
copies_split cs [] zero = refl
copies_split cs [] (suc n) = refl
copies_split cs (f ∷ fs) zero = refl
copies_split cs (f ∷ fs) (suc n) = copies_split (cs ++ copy_of (length cs) f cs ∷ []) fs n

-- a copy above the number f is one of all
pub copy_of_all : (funcs : List Func) (f g : ℕ) (c : Copy) → slice_get (copies_above funcs f) g ≡ Some c → slice_get (copies [] funcs) g ≡ Some c
copy_of_all funcs f g c h = ap (λ cs. slice_get cs g) (copies_split [] funcs f) ∙ copies_keep (copies [] (take f funcs)) (drop f funcs) g c h

-- ---- sizes

counted : (o : Option Copy) (d : Option ℕ) → ((c : Copy) → o ≡ Some c → (h : List BlockName) (s n l : ℕ) → length (c.sites h s n l) ≡ c.size) → Counts one_each o d → d ≡ option_map (λ c. capped_amount c.size) o
counted None None sizes h = refl
counted None (Some d) sizes h = absurd h
counted (Some c) None sizes h = absurd h
counted (Some c) (Some d) sizes h = ap Some (sym (h [] 1 0 0) ∙ ap capped_amount (total_length (c.sites [] 1 0 0) ∙ sizes c refl [] 1 0 0))

-- what the code keeps of the function number g
pub size_at : (fs : List Func) (g : ℕ) → slice_get (amounts each [] fs) g ≡ option_map (λ c. capped_amount c.size) (slice_get (copies [] fs) g)
size_at fs g =
    counted (slice_get (copies [] fs) g) (slice_get (amounts each [] fs) g) (copy_sizes fs g) (all_count one_each each weighs_each fs g)

pub size_above : (funcs : List Func) (above : List ℕ) (f g : ℕ) → AreSizes funcs above f → slice_get above g ≡ option_map (λ c. capped_amount c.size) (slice_get (copies_above funcs f) g)
size_above funcs above f g known = ap (λ ds. slice_get ds g) known.sizes ∙ size_at (take f funcs) g
