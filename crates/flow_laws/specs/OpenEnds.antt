-- The edges of a program told by open ends. An open end is a node with a way; an edge is an open end joined to a node.
-- Each list is entered by open ends, and leaves open ends of four sorts: next, `break`, `continue` and `return`. This
-- project's own.
use Rattle.std.specs.Prelude.{ℕ, ◌+◌, Bool, true, false, List, [], ◌∷◌, ◌++◌, Option, Some, None, slice_get, length}
use Rattle.c_tree.specs.declared.program.Func.{Func}
use Rattle.c_tree.specs.declared.program.Program.{Program}
use Rattle.c_tree.specs.declared.tree.Stmt.{Stmt, Row_of-Stmt, end_of-Stmt, more_of-Stmt, Held-Stmt-For-1, None', Some'}
use Rattle.c_tree.specs.declared.tree.Stmt.TheVariants.{
  Empty,
  Scalar,
  Array,
  Assign,
  Call,
  Break,
  Continue,
  Return,
  If',
  While',
  Do',
  For',
  Group',
}
use Rattle.c_tree.specs.Meaning.Blocks.{is_simple}
use Rattle.flow_laws.specs.declared.graph.Way.{Way}
use Rattle.flow_laws.specs.declared.graph.Way.TheVariants.{Next, True, False}
use Rattle.flow_laws.specs.declared.graph.Edge.{Edge}
use Rattle.flow_laws.specs.Sites.{Copy, site_count, row_size, held_size}
use Rattle.flow_laws.specs.Graphs.{leaves, copy_of}

pub record End : Type 0 where
  pub node : ℕ
  pub way : Way

-- what the ends that enter a list become: edges, and the ends that the list leaves
pub record Piece : Type 0 where
  pub edges : List Edge
  pub next : List End
  pub breaks : List End
  pub continues : List End
  pub returns : List End

abbrev pub end_at : ℕ → Way → End
end_at n t = record { node = n; way = t }

-- each end joined to the node n
abbrev pub join : List End → ℕ → List Edge
join [] n = []
join (e ∷ es) n = leaves e.node e.way n ∷ join es n

-- an empty list leaves the entering ends as next
abbrev pub through : List End → Piece
through ins = record { edges = []; next = ins; breaks = []; continues = []; returns = [] }

-- a block is a node joined by the entering ends, and its `Next` is next
abbrev pub block_piece : ℕ → List End → Piece
block_piece n ins = record { edges = join ins n; next = end_at n Next ∷ []; breaks = []; continues = []; returns = [] }

-- a simple statement begins a block, or goes on with one
abbrev pub opened_simple : Bool → ℕ → List End → Piece
opened_simple true n ins = through ins
opened_simple false n ins = block_piece n ins

-- one list after the other
abbrev pub piece_pair : Piece → Piece → Piece
piece_pair a b =
    record {
      edges = a.edges ++ b.edges;
      next = b.next;
      breaks = a.breaks ++ b.breaks;
      continues = a.continues
          ++ b.continues;
      returns = a.returns ++ b.returns;
    }

-- `if` at the node n: `True` enters the first list, `False` the second
abbrev pub opened_if : ℕ → List End → Piece → Piece → Piece
opened_if n ins a b =
    record {
      edges = join ins n ++ (a.edges ++ b.edges);
      next = a.next ++ b.next;
      breaks = a.breaks
          ++ b.breaks;
      continues = a.continues ++ b.continues;
      returns = a.returns ++ b.returns;
    }

-- `while`: the condition n is joined by the entering ends and by the body's next and continue; `False` and the body's
-- break are next
abbrev pub opened_while : ℕ → List End → Piece → Piece
opened_while n ins a =
    record {
      edges = join (ins ++ (a.next ++ a.continues)) n ++ a.edges;
      next = end_at n False
          ∷ a.breaks;
      breaks = [];
      continues = [];
      returns = a.returns;
    }

-- `do`: the condition n is joined by the body's next and continue; `False` and the body's break are next
abbrev pub opened_do : ℕ → Piece → Piece
opened_do n a =
    record {
      edges = a.edges ++ join (a.next ++ a.continues) n;
      next = end_at n False
          ∷ a.breaks;
      breaks = [];
      continues = [];
      returns = a.returns;
    }

-- `for`: the condition n is joined by what leaves the initialiser i and the step j
abbrev pub opened_for : ℕ → Piece → Piece → Piece → Piece
opened_for n i j a =
    record {
      edges = i.edges ++ (join (i.next ++ j.next) n ++ (j.edges ++ a.edges));
      next = end_at n False
          ∷ a.breaks;
      breaks = [];
      continues = [];
      returns = i.returns ++ (j.returns ++ a.returns);
    }

-- a function's list, from its first node and the ends that enter it
abbrev pub Opened : Type 0
Opened = ℕ → List End → Piece

-- a call at the node n: its `Next` enters the callee's list; what that leaves as next and return joins the landing,
-- whose `Next` is next. (No program that is checked calls a function that is not there.)
abbrev pub opened_call : Option Copy → Option Opened → ℕ → List End → Piece
opened_call (Some c) (Some f) n ins =
    let a : Piece = f (n + 1) (end_at n Next ∷ []) in
    let landing : ℕ = n + 1 + c.size in
    record {
      edges = join ins n ++ (a.edges ++ join (a.next ++ a.returns) landing);
      next = end_at landing Next
          ∷ [];
      breaks = [];
      continues = [];
      returns = [];
    }
opened_call _ _ n ins =
    record {
      edges = join ins n ++ join (end_at n Next ∷ []) (n + 1);
      next = end_at (n + 1) Next
          ∷ [];
      breaks = [];
      continues = [];
      returns = [];
    }

unfoldable mutual
  -- a statement of a list whose first node is n, of which `run` tells whether it goes on with a run of simple ones;
  -- `cs` has the sizes of the functions above and `fs` their lists
  pub opened_stmt : List Copy → List Opened → Stmt → Bool → ℕ → List End → Piece
  opened_stmt cs fs Empty run n ins = opened_simple run n ins
  opened_stmt cs fs (Scalar l e) run n ins = opened_simple run n ins
  opened_stmt cs fs (Array l es) run n ins = opened_simple run n ins
  opened_stmt cs fs (Assign p op e) run n ins = opened_simple run n ins
  opened_stmt cs fs (Call t g es) run n ins = opened_call (slice_get cs g) (slice_get fs g) n ins
  opened_stmt cs fs Break run n ins =
      record { edges = join ins n; next = []; breaks = end_at n Next ∷ []; continues = []; returns = [] }
  opened_stmt cs fs Continue run n ins =
      record { edges = join ins n; next = []; breaks = []; continues = end_at n Next ∷ []; returns = [] }
  opened_stmt cs fs (Return e) run n ins =
      record { edges = join ins n; next = []; breaks = []; continues = []; returns = end_at n Next ∷ [] }
  opened_stmt cs fs (If' e a x b y) run n ins =
      opened_if n ins (row_opened cs fs x false (n + 1) (end_at n True ∷ []))
      (row_opened cs fs y false (n + 1 + row_size cs x false) (end_at n False ∷ []))
  opened_stmt cs fs (While' k e a x) run n ins = opened_while n ins (row_opened cs fs x false (n + 1) (end_at n True
      ∷ []))
  opened_stmt cs fs (Do' k a x e) run n ins =
      let c : ℕ = n + row_size cs x false in
      opened_do c (row_opened cs fs x false n (ins ++ end_at c True ∷ []))
  opened_stmt cs fs (For' k i e j a x) run n ins =
      let c : ℕ = n + held_size cs i in
      let body : Piece = row_opened cs fs x false (c + 1 + held_size cs j) (end_at c True ∷ []) in
      opened_for c (held_opened cs fs i n ins) (held_opened cs fs j (c + 1) (body.next ++ body.continues)) body
  opened_stmt cs fs (Group' a x) run n ins = row_opened cs fs x false n ins

  pub row_opened : {m : _} → List Copy → List Opened → Row_of-Stmt m → Bool → ℕ → List End → Piece
  row_opened cs fs end_of-Stmt run n ins = through ins
  row_opened cs fs (more_of-Stmt s rest) run n ins =
      let first : Piece = opened_stmt cs fs s run n ins in
      piece_pair first (row_opened cs fs rest (is_simple s) (n + site_count cs s run) first.next)

  pub held_opened : List Copy → List Opened → Held-Stmt-For-1 → ℕ → List End → Piece
  held_opened cs fs None' n ins = through ins
  held_opened cs fs (Some' a x) n ins = row_opened cs fs x false n ins

abbrev pub list_opened : List Copy → List Opened → List Stmt → Bool → ℕ → List End → Piece
list_opened cs fs [] run n ins = through ins
list_opened cs fs (s ∷ rest) run n ins =
    let first : Piece = opened_stmt cs fs s run n ins in
    piece_pair first (list_opened cs fs rest (is_simple s) (n + site_count cs s run) first.next)

-- each function, over those above it
abbrev pub all_opened : List Copy → List Opened → List Func → List Opened
all_opened cs fs [] = fs
all_opened cs fs (f ∷ funcs) =
    all_opened (cs ++ copy_of (length cs) f cs ∷ []) (fs ++ list_opened cs fs f.body false ∷ []) funcs

-- Entry's `Next` enters the entry function's list; its next and return join Exit
abbrev pub joined_whole : Option Opened → List Edge
joined_whole None = leaves 0 Next 1 ∷ []
joined_whole (Some f) =
    let a : Piece = f 2 (end_at 0 Next ∷ []) in
    a.edges ++ join (a.next ++ a.returns) 1

-- the edges of a program, in the order in which they are joined
unfoldable pub joined_edges : Program → List Edge
joined_edges p = joined_whole (slice_get (all_opened [] [] p.funcs) p.entry)
