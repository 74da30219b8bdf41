-- The rows of implicit path enumeration over the edges of a flat graph (Li and Malik).
use Rattle.std.specs.Prelude.{
  ℕ,
  zero,
  suc,
  ◌+◌,
  ◌-◌,
  ℤ,
  pos,
  negsuc,
  ◌-ℤ◌,
  ◌*ℤ◌,
  ◌==◌,
  Bool,
  true,
  false,
  List,
  [],
  ◌∷◌,
  ◌++◌,
  length,
  map,
}
use Rattle.flow_laws.specs.declared.graph.Edge.{Edge}
use Rattle.flow_laws.specs.declared.graph.Loop.{Loop}
use Rattle.flow_laws.specs.Sites.{Site}
use Rattle.flow_laws.specs.Graphs.{edges, loops}
use Rattle.flow_laws.specs.Paths.{is_in_list, most_turns}
use Rattle.lin_rows.specs.declared.row.RowKind.TheVariants.{AtMost, Equal}
use Rattle.lin_rows.specs.declared.row.Row.{Row}

-- ---- terms

-- 1 where it holds
abbrev pub one_if : Bool → ℤ
one_if true = pos 1
one_if false = pos 0

-- the term of an edge; of the factor 0 there is none
abbrev pub term : ℕ → ℤ → List (ℕ × ℤ)
term i (pos zero) = []
term i (pos (suc k)) = (i, pos (suc k)) ∷ []
term i (negsuc k) = (i, negsuc k) ∷ []

-- those of the edges in ascending order, of which the first has the number i
abbrev pub terms : (ℕ → Edge → ℤ) → ℕ → List Edge → List (ℕ × ℤ)
terms factor i [] = []
terms factor i (e ∷ es) = term i (factor i e) ++ terms factor (i + 1) es

-- what leaves the node minus what enters it; an edge from it to itself does both
abbrev pub node_factor : ℕ → ℕ → Edge → ℤ
node_factor n i e = one_if (e.from == n) -ℤ one_if (e.to == n)

-- `turn`, minus the bound times each edge of `into`; of `do` the bound less one
abbrev pub turn_factor : Loop → ℕ → ℤ
turn_factor l i = one_if (i == l.turn) -ℤ pos (most_turns l) *ℤ one_if (is_in_list i l.into)

abbrev pub loop_factor : Loop → ℕ → Edge → ℤ
loop_factor l i e = turn_factor l i

-- ---- rows

-- edge 0 is taken once
abbrev pub entry_row : Row
entry_row = record { terms = (0, pos 1) ∷ []; kind = Equal; right = pos 1 }

-- what leaves a node minus what enters it is 0
abbrev pub node_row : List Edge → ℕ → Row
node_row es n = record { terms = terms (node_factor n) 0 es; kind = Equal; right = pos 0 }

-- those of k nodes from the number n on
abbrev pub node_rows : List Edge → ℕ → ℕ → List Row
node_rows es n zero = []
node_rows es n (suc k) = node_row es n ∷ node_rows es (n + 1) k

-- the turns of a loop copy are at most as many as its entries allow
abbrev pub loop_row : List Edge → Loop → Row
loop_row es l = record { terms = terms (loop_factor l) 0 es; kind = AtMost; right = pos 0 }

abbrev pub loop_rows : List Edge → List Loop → List Row
loop_rows es ls = map (loop_row es) ls

-- edge 0, each node from 2 on, and each loop copy by its condition's node
abbrev pub flow_rows : List Site → List Row
flow_rows g = entry_row ∷ (node_rows (edges g) 2 (length g - 2) ++ loop_rows (edges g) (loops g))
