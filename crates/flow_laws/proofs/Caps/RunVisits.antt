-- How often one run of a part can leave a node, while it ends.
use Rattle.std.specs.Prelude.{ℕ, suc, ◌+◌, ◌*◌, Bool, true, false, List, [], ◌∷◌, Option, Some, None, slice_get}
use Rattle.c_tree.specs.declared.tree.Stmt.{Stmt, Row_of-Stmt, end_of-Stmt, more_of-Stmt, Held-Stmt-For-1, None', Some'}
use Rattle.c_tree.specs.declared.tree.Stmt.TheVariants.{Empty, Scalar, Array, Assign, Call, Break, Continue, Return, If', While', Do', For', Group'}
use Rattle.c_tree.specs.Meaning.Blocks.{is_simple}
use Rattle.flow_laws.specs.Sites.{Copy, site_count, row_size, held_size}
use Rattle.flow_laws.proofs.Driving.DrivingSteps.{hit}

-- the same of each function's copy, by the node and the copy's first node
abbrev pub Onces : Type 0
Onces = ℕ → ℕ → ℕ → ℕ

abbrev pub begun_once : Bool → ℕ → ℕ
begun_once true h = 0
begun_once false h = h

abbrev pub call_once : (ℕ → ℕ → ℕ) → Option Copy → ℕ → ℕ → ℕ
call_once o None x n = hit x n + hit x (n + 1)
call_once o (Some c) x n = hit x n + (o x (n + 1) + hit x (n + 1 + c.size))

unfoldable mutual
  -- the node x in a statement whose first node is n
  pub once : Onces → List Copy → Stmt → Bool → ℕ → ℕ → ℕ
  once os cs Empty run x n = begun_once run (hit x n)
  once os cs (Scalar l e) run x n = begun_once run (hit x n)
  once os cs (Array l es) run x n = begun_once run (hit x n)
  once os cs (Assign p op e) run x n = begun_once run (hit x n)
  once os cs (Call t g es) run x n = call_once (os g) (slice_get cs g) x n
  once os cs Break run x n = hit x n
  once os cs Continue run x n = hit x n
  once os cs (Return e) run x n = hit x n
  once os cs (If' e a p b q) run x n =
      hit x n + (row_once os cs p false x (n + 1) + row_once os cs q false x (n + 1 + row_size cs p false))
  once os cs (While' k e a p) run x n = suc k * hit x n + k * row_once os cs p false x (n + 1)
  once os cs (Do' k a p e) run x n = k * (row_once os cs p false x n + hit x (n + row_size cs p false))
  once os cs (For' k i e j a p) run x n =
      let c = n + held_size cs i in
      held_once os cs i x n + (suc k * hit x c + k * (held_once os cs j x (c + 1) + row_once os cs p false x (c + 1 + held_size cs j)))
  once os cs (Group' a p) run x n = row_once os cs p false x n

  pub row_once : {m : _} → Onces → List Copy → Row_of-Stmt m → Bool → ℕ → ℕ → ℕ
  row_once os cs end_of-Stmt run x n = 0
  row_once os cs (more_of-Stmt s rest) run x n =
      once os cs s run x n + row_once os cs rest (is_simple s) x (n + site_count cs s run)

  pub held_once : Onces → List Copy → Held-Stmt-For-1 → ℕ → ℕ → ℕ
  held_once os cs None' x n = 0
  held_once os cs (Some' a p) x n = row_once os cs p false x n

-- of a list
abbrev pub list_once : Onces → List Copy → List Stmt → Bool → ℕ → ℕ → ℕ
list_once os cs [] run x n = 0
list_once os cs (s ∷ rest) run x n =
    once os cs s run x n + list_once os cs rest (is_simple s) x (n + site_count cs s run)
