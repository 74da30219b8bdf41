-- Amounts that count each node are sizes, where these are below the last number.
use Rattle.std.proofs.Common.{◌≡◌, ℕ, ◌+◌, ◌-◌, ◌^◌, ◌<◌, min, Bool, true, false, List, [], ◌∷◌, length, take, refl, sym, ap, ◌∙◌, arith}
use Rattle.c_tree.specs.declared.tree.Stmt.{Stmt}
use Rattle.c_tree.specs.declared.program.Func.{Func}
use Rattle.c_tree.specs.Meaning.Blocks.{is_simple, begun_blocks}
use Rattle.flow_laws.specs.Sites.{Copy, Position, Site, Targets, site_count, list_size, flow}
use Rattle.flow_laws.specs.Graphs.{all_to}
use Rattle.flow_laws.proofs.Graphs.PartSizes.{HaveSizes, flow_length, simple_size, plain_size}
use Rattle.flow_laws.proofs.Loops.LoopConditions.{copy_sizes}
use Rattle.graph_lists.specs.Amounts.{capped_amount, capped_sum, begun_amount, amount, list_amount, amounts}
use Rattle.flow_graph.specs.Layout.{each, AreSizes, copies_above, position_at}
use Rattle.flow_graph.proofs.Totals.{Weighs, AllCount, total, flow_total, all_count, simple_amount}
use Rattle.plain_laws.proofs.Numbers.{min_of_sum}

abbrev pub one_each : Site → ℕ
one_each s = 1

pub total_length : (g : List Site) → total one_each g ≡ length g
total_length [] = refl
total_length (s ∷ g) = omega (arith, total_length g)

pub weighs_each : Weighs one_each each
weighs_each = record { simple = λ w ss b t. refl; jump = λ w b t. refl; give = λ w e b t. refl; enter = λ w t ls es b n. refl; missing = λ w b t. refl; nowhere = λ w t. refl; lands = λ w t ty b n. refl; test = λ w l e b t u. refl }

begun_kept : (run : Bool) → begun_amount run ≡ capped_amount (begun_blocks run)
begun_kept true = refl
begun_kept false = refl

module _ (cs : List Copy) (ds : List ℕ) (sizes : HaveSizes cs) (known : AllCount one_each cs ds) where
  plain_kept : (st : Stmt) (run : Bool) → is_simple st ≡ false → amount each ds st run ≡ capped_amount (site_count cs st run)
  plain_kept st run h =
      let w : Position = position_at 0 [] 1 in
      let k : Targets = all_to 0 in
      sym (flow_total one_each each weighs_each cs ds known w st run 0 0 k h) ∙ ap capped_amount (total_length (flow cs w st 0 0 k) ∙ flow_length cs w st 0 0 k sizes h ∙ sym (plain_size cs st run h))

  choose : (st : Stmt) (run c : Bool) → is_simple st ≡ c → amount each ds st run ≡ capped_amount (site_count cs st run)
  choose st run true h =
      simple_amount each ds st run h ∙ begun_kept run ∙ ap capped_amount (sym (simple_size cs st run h))
  choose st run false h = plain_kept st run h

  pub stmt_kept : (st : Stmt) (run : Bool) → amount each ds st run ≡ capped_amount (site_count cs st run)
  stmt_kept st run = choose st run (is_simple st) refl

  pub list_kept : (xs : List Stmt) (run : Bool) → list_amount each ds xs run ≡ capped_amount (list_size cs xs run)
  list_kept [] run = refl
  list_kept (x ∷ xs) run =
      (λ i. capped_sum (stmt_kept x run i) (list_kept xs (is_simple x) i)) ∙ min_of_sum (2 ^ 64 - 1) (site_count cs x run) (list_size cs xs (is_simple x))

below : (n a : ℕ) → a ≡ min n (2 ^ 64 - 1) → n < 2 ^ 32 → a ≡ n
below n a e h = omega (arith, e, h)

pub list_is : (funcs : List Func) (ds : List ℕ) (f : ℕ) (xs : List Stmt) → AreSizes funcs ds f → list_size (copies_above funcs f) xs false < 2 ^ 32 → list_amount each ds xs false ≡ list_size (copies_above funcs f) xs false
list_is funcs ds f xs known h =
    let all = all_count one_each each weighs_each (take f funcs) in
    let e : list_amount each ds xs false ≡ capped_amount (list_size (copies_above funcs f) xs false) = ap (λ d. list_amount each d xs false) known.sizes ∙ list_kept (copies_above funcs f) (amounts each [] (take f funcs)) (copy_sizes (take f funcs)) all xs false in
    below (list_size (copies_above funcs f) xs false) (list_amount each ds xs false) e h

pub stmt_is : (funcs : List Func) (ds : List ℕ) (f : ℕ) (st : Stmt) (run : Bool) → AreSizes funcs ds f → site_count (copies_above funcs f) st run < 2 ^ 32 → amount each ds st run ≡ site_count (copies_above funcs f) st run
stmt_is funcs ds f st run known h =
    let all = all_count one_each each weighs_each (take f funcs) in
    let e : amount each ds st run ≡ capped_amount (site_count (copies_above funcs f) st run) = ap (λ d. amount each d st run) known.sizes ∙ stmt_kept (copies_above funcs f) (amounts each [] (take f funcs)) (copy_sizes (take f funcs)) all st run in
    below (site_count (copies_above funcs f) st run) (amount each ds st run) e h
