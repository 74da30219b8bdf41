-- The flat graph of a program, calls inlined: the nodes in the order of their numbers, each with what it does and
-- where its ends lead. A statement's nodes are a function of the number of its first node and of where its four sorts
-- of ends lead, so nothing is joined later. This project's own.
use Rattle.std.specs.Prelude.{
  ℕ,
  zero,
  suc,
  ◌+◌,
  ◌*◌,
  Bool,
  true,
  false,
  if◌then◌else◌,
  List,
  [],
  ◌∷◌,
  ◌++◌,
  Option,
  Some,
  None,
  slice_get,
}
use Rattle.c_tree.specs.declared.tree.Ty.{Ty}
use Rattle.c_tree.specs.declared.tree.Expr.{Expr}
use Rattle.c_tree.specs.declared.tree.Target.{Target}
use Rattle.c_tree.specs.declared.program.Local.{Local}
use Rattle.c_tree.specs.declared.program.BlockName.{BlockName}
use Rattle.c_tree.specs.declared.tree.Stmt.{Stmt, Row_of-Stmt, end_of-Stmt, more_of-Stmt, Held-Stmt-For-1, None', Some'}
use Rattle.c_tree.specs.declared.tree.Stmt.TheVariants.{
  Empty,
  Scalar,
  Array,
  Assign,
  Call,
  Break,
  Continue,
  Return,
  If',
  While',
  Do',
  For',
  Group',
}
use Rattle.c_tree.specs.Meaning.Blocks.{is_simple, begun_blocks, blocks, row_blocks, held_blocks}
use Rattle.c_tree.specs.Meaning.Statements.{block}
use Rattle.flow_laws.specs.declared.graph.Node.{Node}

-- a copy of a loop: its nodes are those from `from` on that are below `number_past`, and `test` is that of its
-- condition
pub record LoopCopy : Type 0 where
  pub from : ℕ
  pub past : ℕ
  pub test : ℕ
  pub bound : ℕ
  pub at_end : Bool

-- what a node does
pub data Content : Type 0 where
  Entry : Content
  Exit : Content
  Simple : (ss : List Stmt) → Content
  Test : (turns : Option LoopCopy) (e : Expr) → Content
  Jump : Content
  Give : (e : Option Expr) → Content
  Enter : (target : Target) (locals : List Local) (es : List Expr) → Content
  Missing : Content
  Land : (target : Target) (ty : Option Ty) (call : BlockName) → Content

-- a node, what it does, and where its `True` or its `Next` leads (`yes`) and its `False` (`no`)
pub record Site : Type 0 where
  pub content : Content
  pub node : Node
  pub yes : ℕ
  pub no : ℕ

-- the block of a landing's call
abbrev pub call_of : Content → Option BlockName
call_of (Land t ty b) = Some b
call_of _ = None

-- where a list of statements leads: by its end, `break`, `continue` and `return`
pub record Targets : Type 0 where
  pub next : ℕ
  pub breaks : ℕ
  pub continues : ℕ
  pub returns : ℕ

-- where a statement stands: in which function, in the copies of which calls, and how often it can be reached
pub record Position : Type 0 where
  pub func : ℕ
  pub chain : List BlockName
  pub scale : ℕ

-- a function that can be copied: its sites are a function of the calls in whose copies it stands, of how often it can
-- be reached, of the number of its first node, and of that of its landing
pub record Copy : Type 0 where
  pub locals : List Local
  pub result : Option Ty
  pub size : ℕ
  pub sites : List BlockName → ℕ → ℕ → ℕ → List Site

-- a position that is reached k times as often
abbrev pub times_as_often : Position → ℕ → Position
times_as_often w k = record { func = w.func; chain = w.chain; scale = w.scale * k }

abbrev pub node_of : Position → Option BlockName → Node
node_of w b = record { block = b; chain = w.chain; cap = w.scale }

-- a node with one end
abbrev pub one_end_site : Position → Content → Option BlockName → ℕ → Site
one_end_site w c b t = record { content = c; node = node_of w b; yes = t; no = t }

-- the first node of m nodes from n on, or what is next where there are none
abbrev pub head : ℕ → ℕ → ℕ → ℕ
head zero n next = next
head (suc m) n next = n

abbrev pub with_next : Targets → ℕ → Targets
with_next k n = record { next = n; breaks = k.breaks; continues = k.continues; returns = k.returns }

-- a loop's body: its end and `continue` lead to n, and `break` to what is next after the loop
abbrev pub body_of : Targets → ℕ → Targets
body_of k n = record { next = n; breaks = k.next; continues = n; returns = k.returns }

-- ---- blocks of simple statements, of which `ss` were passed

-- the number after that of their block, or of its node
abbrev pub number_past : List Stmt → ℕ → ℕ
number_past [] n = n
number_past (s ∷ ss) n = n + 1

abbrev pub flush : Position → List Stmt → BlockName → ℕ → List Site
flush w [] b t = []
flush w (s ∷ ss) b t = one_end_site w (Simple (s ∷ ss)) (Some b) t ∷ []

-- ---- calls

abbrev pub call_size : Option Copy → ℕ
call_size None = 2
call_size (Some c) = suc (suc c.size)

-- the call's node, a copy of the callee, and the landing, where the result is assigned. (No program that is checked
-- calls a function that is not there.)
abbrev pub call_sites : Position → Option Copy → Target → List Expr → BlockName → ℕ → ℕ → List Site
call_sites w None t es b n next =
    one_end_site w Missing (Some b) (n + 1) ∷ (one_end_site w Missing None next ∷ [])
call_sites w (Some c) t es b n next =
    let landing = n + 1 + c.size in
    one_end_site w (Enter t c.locals es) (Some b) (head c.size (n + 1) landing)
    ∷ (c.sites (w.chain ++ b ∷ []) w.scale (n + 1) landing ++ one_end_site w (Land t c.result b) None next ∷ [])

-- ---- conditions and loops

abbrev pub asks : Position → Option LoopCopy → Expr → BlockName → ℕ → ℕ → Site
asks w l e b t u = record { content = Test l e; node = node_of w (Some b); yes = t; no = u }

abbrev pub loop_at : ℕ → ℕ → ℕ → ℕ → Bool → LoopCopy
loop_at from number_past test bound at_end =
    record { from = from; past = number_past; test = test; bound = bound; at_end = at_end }

-- a choice: the condition, and two lists p and q of m and r nodes
abbrev pub if_sites : Position → Expr → BlockName → ℕ → ℕ → ℕ → ℕ → List Site → List Site → List Site
if_sites w e b n m r next p q = asks w None e b (head m (n + 1) next) (head r (n + 1 + m) next) ∷ (p ++ q)

-- `while`: the condition, and a body p of m nodes
abbrev pub while_sites : Position → ℕ → Expr → BlockName → ℕ → ℕ → ℕ → List Site → List Site
while_sites w k e b n m next p =
    asks (times_as_often w (k + 1)) (Some (loop_at n (n + 1 + m) n k false)) e b (head m (n + 1) n) next ∷ p

-- `do`: a body p of m nodes, and the condition
abbrev pub do_sites : Position → ℕ → Expr → BlockName → ℕ → ℕ → ℕ → List Site → List Site
do_sites w k e b n m next p =
    p ++ asks (times_as_often w k) (Some (loop_at n (n + m + 1) (n + m) k true)) e b n next ∷ []

-- `for` after its initialiser: the condition c, a step of r nodes, and a body p of m nodes
abbrev pub for_sites : Position → ℕ → Expr → BlockName → ℕ → ℕ → ℕ → ℕ → List Site → List Site → List Site
for_sites w k e b c r m next step p =
    asks (times_as_often w (k + 1)) (Some (loop_at c (c + 1 + r + m) c k false)) e b
    (head m (c + 1 + r) (head r (c + 1) c)) next ∷ (step ++ p)

-- ---- statements

unfoldable mutual
  -- how many nodes begin at a statement of a list, of which `run` tells whether it goes on with a run of simple ones
  pub site_count : List Copy → Stmt → Bool → ℕ
  site_count cs Empty run = begun_blocks run
  site_count cs (Scalar l e) run = begun_blocks run
  site_count cs (Array l es) run = begun_blocks run
  site_count cs (Assign p op e) run = begun_blocks run
  site_count cs (Call t g es) run = call_size (slice_get cs g)
  site_count cs Break run = 1
  site_count cs Continue run = 1
  site_count cs (Return e) run = 1
  site_count cs (If' e a x b y) run = suc (row_size cs x false + row_size cs y false)
  site_count cs (While' k e a x) run = suc (row_size cs x false)
  site_count cs (Do' k a x e) run = suc (row_size cs x false)
  site_count cs (For' k i e j a x) run = held_size cs i + suc (held_size cs j + row_size cs x false)
  site_count cs (Group' a x) run = row_size cs x false

  pub row_size : {m : _} → List Copy → Row_of-Stmt m → Bool → ℕ
  row_size cs end_of-Stmt run = 0
  row_size cs (more_of-Stmt s rest) run = site_count cs s run + row_size cs rest (is_simple s)

  pub held_size : List Copy → Held-Stmt-For-1 → ℕ
  held_size cs None' = 0
  held_size cs (Some' a x) = row_size cs x false

unfoldable mutual
  -- the nodes of a statement that is not simple, over the functions above its own: its first block is b, its first
  -- node n, and k is where it leads. In a loop of bound l the condition of `while` and `for` is reached l + 1 times as
  -- often, all else of the loop l times
  pub flow : List Copy → Position → Stmt → ℕ → ℕ → Targets → List Site
  flow cs w Empty b n k = []
  flow cs w (Scalar l e) b n k = []
  flow cs w (Array l es) b n k = []
  flow cs w (Assign p op e) b n k = []
  flow cs w (Call t g es) b n k = call_sites w (slice_get cs g) t es (block w.func b) n k.next
  flow cs w Break b n k = one_end_site w Jump (Some (block w.func b)) k.breaks ∷ []
  flow cs w Continue b n k = one_end_site w Jump (Some (block w.func b)) k.continues ∷ []
  flow cs w (Return e) b n k = one_end_site w (Give e) (Some (block w.func b)) k.returns ∷ []
  flow cs w (If' e a x c y) b n k =
      let m = row_size cs x false in
      if_sites w e (block w.func b) n m (row_size cs y false) k.next (row_flow cs w x (b + 1) (n + 1) [] k)
      (row_flow cs w y (b + 1 + row_blocks x false) (n + 1 + m) [] k)
  flow cs w (While' l e a x) b n k =
      while_sites w l e (block w.func b) n (row_size cs x false) k.next (row_flow cs (times_as_often w l) x (b + 1)
      (n + 1) [] (body_of k n))
  flow cs w (Do' l a x e) b n k =
      let m = row_size cs x false in
      do_sites w l e (block w.func (b + row_blocks x false)) n m k.next (row_flow cs (times_as_often w l) x b n []
      (body_of k (n + m)))
  flow cs w (For' l i e j a x) b n k =
      let bc = b + held_blocks i in
      let c = n + held_size cs i in
      let r = held_size cs j in
      let inside = times_as_often w l in
      held_flow cs w i b n (with_next k c) ++ for_sites w l e (block w.func bc) c r (row_size cs x false) k.next
      (held_flow cs inside j (bc + 1) (c + 1) (with_next k c)) (row_flow cs inside x (bc + 1 + held_blocks j)
      (c + 1 + r) [] (body_of k (head r (c + 1) c)))
  flow cs w (Group' a x) b n k = row_flow cs w x b n [] k

  -- those of a list, after the simple statements ss of its block b
  pub row_flow : {m : _} → List Copy → Position → Row_of-Stmt m → ℕ → ℕ → List Stmt → Targets → List Site
  row_flow cs w end_of-Stmt b n ss k = flush w ss (block w.func b) k.next
  row_flow cs w (more_of-Stmt s rest) b n ss k =
      let n1 = number_past ss n in
      let n2 = n1 + site_count cs s false in
      let after = head (row_size cs rest false) n2 k.next in
      if is_simple s then row_flow cs w rest b n (ss ++ s ∷ []) k else flush w ss (block w.func b)
      (head (site_count cs s false) n1 after) ++ (flow cs w s (number_past ss b) n1 (with_next k after)
      ++ row_flow cs w rest (number_past ss b + blocks s false) n2 [] k)

  -- those of an initialiser or a step of a `for`
  pub held_flow : List Copy → Position → Held-Stmt-For-1 → ℕ → ℕ → Targets → List Site
  held_flow cs w None' b n k = []
  held_flow cs w (Some' a x) b n k = row_flow cs w x b n [] k

-- ---- lists and functions

abbrev pub list_size : List Copy → List Stmt → Bool → ℕ
list_size cs [] run = 0
list_size cs (s ∷ rest) run = site_count cs s run + list_size cs rest (is_simple s)

abbrev pub list_flow : List Copy → Position → List Stmt → ℕ → ℕ → List Stmt → Targets → List Site
list_flow cs w [] b n ss k = flush w ss (block w.func b) k.next
list_flow cs w (s ∷ rest) b n ss k =
    let n1 = number_past ss n in
    let n2 = n1 + site_count cs s false in
    let after = head (list_size cs rest false) n2 k.next in
    if is_simple s then list_flow cs w rest b n (ss ++ s ∷ []) k else flush w ss (block w.func b)
    (head (site_count cs s false) n1 after) ++ (flow cs w s (number_past ss b) n1 (with_next k after)
    ++ list_flow cs w rest (number_past ss b + blocks s false) n2 [] k)
