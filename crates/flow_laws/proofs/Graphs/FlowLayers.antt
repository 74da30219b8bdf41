-- The sizes and the nodes of a statement, one layer at a time, as code opens it.
use Rattle.std.proofs.Common.{◌≡◌, ℕ, suc, ◌+◌, Bool, false, List, [], ◌∷◌, ◌++◌, Option, Some, None, refl}
use Rattle.std.specs.Prelude.{slice_get}
use Rattle.c_tree.specs.declared.tree.Expr.{Expr}
use Rattle.c_tree.specs.declared.tree.Place.{Place}
use Rattle.c_tree.specs.declared.tree.Target.{Target}
use Rattle.c_tree.specs.declared.tree.BinOp.{BinOp}
use Rattle.c_tree.specs.declared.tree.Stmt.{Stmt}
use Rattle.c_tree.specs.declared.tree.Stmt.TheVariants.{Empty, Scalar, Array, Assign, Call, Break, Continue, Return, If, While, Do, For, Group}
use Rattle.c_tree.specs.declared.tree.Stmt.TheBlock.{hidden-the_row-Stmt-0, shape-the_row-Stmt-1, hidden-the_row-Stmt-1, back-Stmt-For-1}
use denote.Hole.Carrier.{hidden}
use Rattle.c_tree.specs.Meaning.Blocks.{begun_blocks, blocks, row_blocks, list_blocks}
use Rattle.c_tree.specs.Meaning.Statements.{block, held_stmts}
use Rattle.flow_laws.specs.Sites.{Jump, Give, Position, Copy, Targets, times_as_often, one_end_site, head, with_next, body_of, call_size, call_sites, if_sites, while_sites, do_sites, for_sites, site_count, row_size, held_size, flow, row_flow, held_flow, list_size, list_flow}
use Rattle.flow_laws.proofs.Runs.CopiesSound.{row_sizes, row_flows}
use Rattle.c_tree.proofs.Layers.ExecLayers.{row_is, held_is}

held_sizes : (cs : List Copy) (o : Option Stmt) → held_size cs (back-Stmt-For-1 o) ≡ list_size cs (held_stmts o) false
unfolding site_count row_size held_size shape-the_row-Stmt-1 hidden-the_row-Stmt-1 hidden
held_sizes cs None = refl
held_sizes cs (Some a) = refl

held_flows : (cs : List Copy) (w : Position) (o : Option Stmt) (b n : ℕ) (k : Targets) → held_flow cs w (back-Stmt-For-1 o) b n k ≡ list_flow cs w (held_stmts o) b n [] k
unfolding flow row_flow held_flow site_count row_size blocks row_blocks shape-the_row-Stmt-1 hidden-the_row-Stmt-1 hidden
held_flows cs w None b n k = refl
held_flows cs w (Some a) b n k = refl

-- ---- sizes

pub site_count-Empty : (cs : List Copy) (run : Bool) → site_count cs Empty run ≡ begun_blocks run
unfolding site_count
site_count-Empty cs run = refl

pub site_count-Scalar : (cs : List Copy) (l : ℕ) (e : Option Expr) (run : Bool) → site_count cs (Scalar l e) run ≡ begun_blocks run
unfolding site_count
site_count-Scalar cs l e run = refl

pub site_count-Array : (cs : List Copy) (l : ℕ) (es : List Expr) (run : Bool) → site_count cs (Array l es) run ≡ begun_blocks run
unfolding site_count
site_count-Array cs l es run = refl

pub site_count-Assign : (cs : List Copy) (p : Place) (op : Option BinOp) (e : Expr) (run : Bool) → site_count cs (Assign p op e) run ≡ begun_blocks run
unfolding site_count
site_count-Assign cs p op e run = refl

pub site_count-Call : (cs : List Copy) (t : Target) (g : ℕ) (es : List Expr) (run : Bool) → site_count cs (Call t g es) run ≡ call_size (slice_get cs g)
unfolding site_count
site_count-Call cs t g es run = refl

pub site_count-Break : (cs : List Copy) (run : Bool) → site_count cs Break run ≡ 1
unfolding site_count
site_count-Break cs run = refl

pub site_count-Continue : (cs : List Copy) (run : Bool) → site_count cs Continue run ≡ 1
unfolding site_count
site_count-Continue cs run = refl

pub site_count-Return : (cs : List Copy) (e : Option Expr) (run : Bool) → site_count cs (Return e) run ≡ 1
unfolding site_count
site_count-Return cs e run = refl

pub site_count-If : (cs : List Copy) (e : Expr) (xs ys : List Stmt) (run : Bool) → site_count cs (If e xs ys) run ≡ suc (list_size cs xs false + list_size cs ys false)
unfolding site_count
site_count-If cs e xs ys run = λ i. suc (row_sizes cs xs false i + row_sizes cs ys false i)

pub site_count-While : (cs : List Copy) (k : ℕ) (e : Expr) (xs : List Stmt) (run : Bool) → site_count cs (While k e xs) run ≡ suc (list_size cs xs false)
unfolding site_count
site_count-While cs k e xs run = λ i. suc (row_sizes cs xs false i)

pub site_count-Do : (cs : List Copy) (k : ℕ) (xs : List Stmt) (e : Expr) (run : Bool) → site_count cs (Do k xs e) run ≡ suc (list_size cs xs false)
unfolding site_count
site_count-Do cs k xs e run = λ i. suc (row_sizes cs xs false i)

pub site_count-For : (cs : List Copy) (k : ℕ) (a b : Option Stmt) (e : Expr) (xs : List Stmt) (run : Bool) → site_count cs (For k a e b xs) run ≡ list_size cs (held_stmts a) false + suc (list_size cs (held_stmts b) false + list_size cs xs false)
unfolding site_count
site_count-For cs k a b e xs run = λ i. held_sizes cs a i + suc (held_sizes cs b i + row_sizes cs xs false i)

pub site_count-Group : (cs : List Copy) (xs : List Stmt) (run : Bool) → site_count cs (Group xs) run ≡ list_size cs xs false
unfolding site_count
site_count-Group cs xs run = row_sizes cs xs false

-- ---- nodes

pub flow-Call : (cs : List Copy) (w : Position) (t : Target) (g : ℕ) (es : List Expr) (b n : ℕ) (k : Targets) → flow cs w (Call t g es) b n k ≡ call_sites w (slice_get cs g) t es (block w.func b) n k.next
unfolding flow
flow-Call cs w t g es b n k = refl

pub flow-Break : (cs : List Copy) (w : Position) (b n : ℕ) (k : Targets) → flow cs w Break b n k ≡ one_end_site w Jump (Some (block w.func b)) k.breaks ∷ []
unfolding flow
flow-Break cs w b n k = refl

pub flow-Continue : (cs : List Copy) (w : Position) (b n : ℕ) (k : Targets) → flow cs w Continue b n k ≡ one_end_site w Jump (Some (block w.func b)) k.continues ∷ []
unfolding flow
flow-Continue cs w b n k = refl

pub flow-Return : (cs : List Copy) (w : Position) (e : Option Expr) (b n : ℕ) (k : Targets) → flow cs w (Return e) b n k ≡ one_end_site w (Give e) (Some (block w.func b)) k.returns ∷ []
unfolding flow
flow-Return cs w e b n k = refl

pub flow-If : (cs : List Copy) (w : Position) (e : Expr) (xs ys : List Stmt) (b n : ℕ) (k : Targets) → flow cs w (If e xs ys) b n k ≡ let m = list_size cs xs false in if_sites w e (block w.func b) n m (list_size cs ys false) k.next (list_flow cs w xs (b + 1) (n + 1) [] k) (list_flow cs w ys (b + 1 + list_blocks xs false) (n + 1 + m) [] k)
unfolding flow
flow-If cs w e xs ys b n k =
    let x = hidden-the_row-Stmt-0 xs in
    let y = hidden-the_row-Stmt-0 ys in
    λ i. let m = row_sizes cs xs false i in if_sites w e (block w.func b) n m (row_sizes cs ys false i) k.next (row_flows cs w xs (b + 1) (n + 1) [] k i) (row_flows cs w ys (b + 1 + row_is xs false i) (n + 1 + m) [] k i)

pub flow-While : (cs : List Copy) (w : Position) (l : ℕ) (e : Expr) (xs : List Stmt) (b n : ℕ) (k : Targets) → flow cs w (While l e xs) b n k ≡ while_sites w l e (block w.func b) n (list_size cs xs false) k.next (list_flow cs (times_as_often w l) xs (b + 1) (n + 1) [] (body_of k n))
unfolding flow
flow-While cs w l e xs b n k =
    λ i. while_sites w l e (block w.func b) n (row_sizes cs xs false i) k.next (row_flows cs (times_as_often w l) xs (b + 1) (n + 1) [] (body_of k n) i)

pub flow-Do : (cs : List Copy) (w : Position) (l : ℕ) (xs : List Stmt) (e : Expr) (b n : ℕ) (k : Targets) → flow cs w (Do l xs e) b n k ≡ let m = list_size cs xs false in do_sites w l e (block w.func (b + list_blocks xs false)) n m k.next (list_flow cs (times_as_often w l) xs b n [] (body_of k (n + m)))
unfolding flow
flow-Do cs w l xs e b n k =
    λ i. let m = row_sizes cs xs false i in do_sites w l e (block w.func (b + row_is xs false i)) n m k.next (row_flows cs (times_as_often w l) xs b n [] (body_of k (n + m)) i)

pub flow-For : (cs : List Copy) (w : Position) (l : ℕ) (a j : Option Stmt) (e : Expr) (xs : List Stmt) (b n : ℕ) (k : Targets) → flow cs w (For l a e j xs) b n k ≡ let bc = b + list_blocks (held_stmts a) false in let c = n + list_size cs (held_stmts a) false in let r = list_size cs (held_stmts j) false in let inside = times_as_often w l in list_flow cs w (held_stmts a) b n [] (with_next k c) ++ for_sites w l e (block w.func bc) c r (list_size cs xs false) k.next (list_flow cs inside (held_stmts j) (bc + 1) (c + 1) [] (with_next k c)) (list_flow cs inside xs (bc + 1 + list_blocks (held_stmts j) false) (c + 1 + r) [] (body_of k (head r (c + 1) c)))
unfolding flow
flow-For cs w l a j e xs b n k =
    λ i. let bc = b + held_is a i in let c = n + held_sizes cs a i in let r = held_sizes cs j i in let inside = times_as_often w l in held_flows cs w a b n (with_next k c) i ++ for_sites w l e (block w.func bc) c r (row_sizes cs xs false i) k.next (held_flows cs inside j (bc + 1) (c + 1) (with_next k c) i) (row_flows cs inside xs (bc + 1 + held_is j i) (c + 1 + r) [] (body_of k (head r (c + 1) c)) i)

pub flow-Group : (cs : List Copy) (w : Position) (xs : List Stmt) (b n : ℕ) (k : Targets) → flow cs w (Group xs) b n k ≡ list_flow cs w xs b n [] k
unfolding flow
flow-Group cs w xs b n k = row_flows cs w xs b n [] k

pub ruleset flow_layers = (site_count-Empty, site_count-Scalar, site_count-Array, site_count-Assign, site_count-Call, site_count-Break, site_count-Continue, site_count-Return, site_count-If, site_count-While, site_count-Do, site_count-For, site_count-Group, flow-Call, flow-Break, flow-Continue, flow-Return, flow-If, flow-While, flow-Do, flow-For, flow-Group)
