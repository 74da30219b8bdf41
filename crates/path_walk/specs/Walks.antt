-- How a list of edges goes on while only one edge may follow, where it stops, and what that says of paths. This
-- project's own.
use Rattle.std.specs.Prelude.{◌≡◌, ◌⊎◌, ◌≤◌, ◌<◌, ℕ, true, List, [], ◌∷◌, ◌++◌, length, slice_index}
use Rattle.c_tree.specs.declared.program.Program.{Program}
use Rattle.flow_laws.specs.declared.graph.Way.TheVariants.{True, False}
use Rattle.flow_laws.specs.Graphs.{graph, edges, loops}
use Rattle.flow_laws.specs.Paths.{follows, keeps_each, edge_count, IsPath, LeavesBy}
use Rattle.flow_laws.specs.Claims.{Begins}
use Rattle.path_walk.specs.declared.next.Next.{Next}
use Rattle.path_walk.specs.declared.next.Next.TheVariants.{Long, Whole, Dead, Fork}

-- ---- going on

-- behind the prefix and `more`, the edge may follow: the list then is contiguous from Entry and keeps the loops'
-- bounds, and the edge has room left
pub record MayFollow (p : Program) (prefix room more : List ℕ) (e : ℕ) : Type 0 where
  pub contiguous : follows (edges (graph p)) ((prefix ++ more) ++ e ∷ []) ≡ true
  pub kept : keeps_each (loops (graph p)) ((prefix ++ more) ++ e ∷ []) ≡ true
  pub has_room : edge_count more e < slice_index room e

-- the list so far has at most 16,384 edges, and this edge may follow and no other
pub record MustFollow (p : Program) (prefix room more : List ℕ) (e : ℕ) : Type 0 where
  pub short : length (prefix ++ more) ≤ 16384
  pub may : MayFollow p prefix room more e
  pub alone : (other : ℕ) → MayFollow p prefix room more other → other ≡ e

-- each edge of `more` was taken because it had to be
abbrev pub IsForced : Program → List ℕ → List ℕ → List ℕ → Type 0
IsForced p prefix room more =
    (done after : List ℕ) (e : ℕ) → more ≡ done ++ (e ∷ after) → MustFollow p prefix room done e

-- ---- where it stops

-- the list has 16,385 edges or more
pub record IsLong (p : Program) (prefix room more : List ℕ) : Type 0 where
  pub forced : IsForced p prefix room more
  pub long : 16385 ≤ length (prefix ++ more)

-- it is a path
pub record IsWhole (p : Program) (prefix room more : List ℕ) : Type 0 where
  pub forced : IsForced p prefix room more
  pub short : length (prefix ++ more) ≤ 16384
  pub path : IsPath (edges (graph p)) (prefix ++ more)

-- it is no path, and no edge may follow
pub record IsDead (p : Program) (prefix room more : List ℕ) : Type 0 where
  pub forced : IsForced p prefix room more
  pub short : length (prefix ++ more) ≤ 16384
  pub no_path : IsPath (edges (graph p)) (prefix ++ more) → ⊥
  pub none : (e : ℕ) → MayFollow p prefix room more e → ⊥

-- two edges may follow and no third, the first by `True` and the second by `False`
pub record IsFork (p : Program) (prefix room more : List ℕ) (left right : ℕ) : Type 0 where
  pub forced : IsForced p prefix room more
  pub short : length (prefix ++ more) ≤ 16384
  pub left_may : MayFollow p prefix room more left
  pub left_is : LeavesBy (edges (graph p)) left True
  pub right_may : MayFollow p prefix room more right
  pub right_is : LeavesBy (edges (graph p)) right False
  pub others : (e : ℕ) → MayFollow p prefix room more e → (e ≡ left) ⊎ (e ≡ right)

-- the lists of a fork are the prefix and `more`, with one edge each
pub record Forks (p : Program) (prefix room a b : List ℕ) : Type 0 where
  pub more : List ℕ
  pub left : ℕ
  pub right : ℕ
  pub first : a ≡ (prefix ++ more) ++ left ∷ []
  pub second : b ≡ (prefix ++ more) ++ right ∷ []
  pub fork : IsFork p prefix room more left right

-- the answer from this prefix and with this room: `more` is what was taken
abbrev pub IsAnswer : Program → List ℕ → List ℕ → Next → Type 0
IsAnswer p prefix room (Long q) = (more : List ℕ) × (q ≡ prefix ++ more) × IsLong p prefix room more
IsAnswer p prefix room (Whole q) = (more : List ℕ) × (q ≡ prefix ++ more) × IsWhole p prefix room more
IsAnswer p prefix room (Dead q) = (more : List ℕ) × (q ≡ prefix ++ more) × IsDead p prefix room more
IsAnswer p prefix room (Fork a b) = Forks p prefix room a b

-- ---- what that says of paths

-- the path keeps the loops' bounds, begins with the prefix, and has no edge behind it more often than there is room
pub record IsWithin (p : Program) (prefix room q : List ℕ) : Type 0 where
  pub path : IsPath (edges (graph p)) q
  pub kept : keeps_each (loops (graph p)) q ≡ true
  pub rest : List ℕ
  pub begins : q ≡ prefix ++ rest
  pub no_further : (e : ℕ) → edge_count rest e ≤ slice_index room e

-- the list begins with that of the answer, or with one of its two; with none where the answer is that no edge may
-- follow
abbrev pub BeginsAs : Next → List ℕ → Type 0
BeginsAs (Long l) q = Begins l q
BeginsAs (Whole l) q = Begins l q
BeginsAs (Dead l) q = ⊥
BeginsAs (Fork a b) q = Begins a q ⊎ Begins b q
