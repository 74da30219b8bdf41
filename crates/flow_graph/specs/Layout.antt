-- How nodes are laid out: function by function, where a call stands for its node and the nodes of its callee's copy.
-- This project's own.
use Rattle.std.specs.Prelude.{
  ◌≡◌,
  ◌<◌,
  ◌^◌,
  nat_lt,
  ℕ,
  ◌+◌,
  Bool,
  true,
  false,
  if◌then◌else◌,
  List,
  [],
  ◌∷◌,
  ◌++◌,
  length,
  take,
  Option,
  Some,
  None,
  slice_get,
}
use Rattle.c_tree.specs.declared.program.BlockName.{BlockName}
use Rattle.c_tree.specs.declared.program.Func.{Func}
use Rattle.c_tree.specs.declared.tree.Stmt.{Stmt}
use Rattle.c_tree.specs.Meaning.Blocks.{is_simple, blocks}
use Rattle.c_tree.specs.Meaning.Statements.{block}
use Rattle.flow_laws.specs.Sites.{Position, Copy, Targets, head, with_next, site_count, list_size, flow}
use Rattle.flow_laws.specs.Graphs.{copies}
use Rattle.graph_lists.specs.declared.sizes.Weights.{Weights}
use Rattle.graph_lists.specs.declared.spot.Turn.{Turn}
use Rattle.graph_lists.specs.declared.spot.Ends.{Ends}
use Rattle.graph_lists.specs.declared.spot.Ends.TheVariants as ends
use Rattle.graph_lists.specs.declared.spot.Spot.{Spot}
use Rattle.flow_graph.specs.declared.layout.Leads.{Leads}
use Rattle.flow_graph.specs.declared.layout.Item.{Item}
use Rattle.flow_graph.specs.declared.layout.Item.TheVariants as item
use Rattle.graph_lists.specs.Amounts.{capped_amount, amounts}
use Rattle.flow_graph.specs.Spots.{spots}

-- each node counts 1
abbrev pub each : Weights
each = record { test = 1; landing = 1 }

-- the functions above the number f, as copies
abbrev pub copies_above : List Func → ℕ → List Copy
copies_above funcs f = copies [] (take f funcs)

-- the sizes of the functions above the number f, which is that of a function
pub record AreSizes (funcs : List Func) (above : List ℕ) (f : ℕ) : Type 0 where
  pub sizes : above ≡ amounts each [] (take f funcs)
  pub within : f < length funcs

abbrev pub position_at : ℕ → List BlockName → ℕ → Position
position_at f chain scale = record { func = f; chain = chain; scale = scale }

abbrev pub lead_targets : Leads → Targets
lead_targets k = record { next = k.next; breaks = k.breaks; continues = k.continues; returns = k.returns }

abbrev pub turn_between : ℕ → ℕ → ℕ → Bool → Turn
turn_between from past bound at_end = record { from = from; past = past; bound = bound; at_end = at_end }

-- the node of the block b
abbrev pub spot_at : Position → ℕ → Ends → ℕ → ℕ → Spot
spot_at w b e t u = record {
  node = record {
    block = Some (block w.func b);
    chain = w.chain;
    cap = capped_amount
        w.scale;
  };
  call = None;
  ends = e;
  yes = t;
  no = u;
}

-- the landing of the call with this block
abbrev pub landing_at : Position → Option BlockName → ℕ → Spot
landing_at w call t = record {
  node = record { block = None; chain = w.chain; cap = capped_amount w.scale };
  call =
      call;
  ends = ends.Once;
  yes = t;
  no = t;
}

-- ---- lists of statements, where `run` tells that a block of simple ones, of the number b, is not laid out yet

abbrev pub pending_spots : Position → Bool → ℕ → ℕ → List Spot
pending_spots w true b t = spot_at w b ends.Once t t ∷ []
pending_spots w false b t = []

abbrev pub past_run : Bool → ℕ → ℕ
past_run true n = n + 1
past_run false n = n

-- n is the number of the first node that is not that block's
abbrev pub list_spots : List Copy → Position → List Stmt → ℕ → ℕ → Bool → Targets → List Spot
list_spots cs w [] b n run k = pending_spots w run b k.next
list_spots cs w (s ∷ rest) b n run k =
    let m = site_count cs s run in
    let after = head (list_size cs rest (is_simple s)) (n + m) k.next in
    if is_simple s then list_spots cs w rest b (n + m) true k else pending_spots w run b (head m n after)
    ++ (spots (flow cs w s (past_run run b) n (with_next k after)) ++ list_spots cs w rest (past_run run b
    + blocks s false) (n + m) false k)

-- ---- calls

-- a copy's nodes from the number n on, and then its landing; none where their numbers would leave 32 bits
abbrev pub copy_spots : Option Copy → List BlockName → ℕ → ℕ → List Spot
copy_spots None chain scale n = []
copy_spots (Some c) chain scale n = if nat_lt (n + c.size) (2 ^ 32) then spots (c.sites chain scale n (n + c.size))
    else []

-- a copy's nodes from the number n on, where its ends lead to the landing
abbrev pub body_spots : Option Copy → List BlockName → ℕ → ℕ → ℕ → List Spot
body_spots None chain scale n landing = []
body_spots (Some c) chain scale n landing = spots (c.sites chain scale n landing)

-- over all functions
abbrev pub item_spots : List Copy → Item → List Spot
item_spots all (item.One s) = s ∷ []
item_spots all (item.Call s b callee n) = s ∷ copy_spots (slice_get all callee) (s.node.chain ++ b ∷ []) s.node.cap n

abbrev pub laid_out : List Copy → List Item → List Spot
laid_out all [] = []
laid_out all (x ∷ xs) = item_spots all x ++ laid_out all xs

-- the same of a list whose last item comes first
abbrev pub laid_back : List Copy → List Item → List Spot
laid_back all [] = []
laid_back all (x ∷ xs) = laid_back all xs ++ item_spots all x

-- the copy's size, from the number n on, leaves room for its numbers
abbrev pub HasRoom : Option Copy → ℕ → Type 0
HasRoom None n = Unit {0}
HasRoom (Some c) n = n + c.size < 2 ^ 32

-- Entry and Exit, which stand in no call and are reached once
abbrev pub outer_spot : Ends → ℕ → Spot
outer_spot e t = record { node = record { block = None; chain = []; cap = 1 }; call = None; ends = e; yes = t; no = t }
