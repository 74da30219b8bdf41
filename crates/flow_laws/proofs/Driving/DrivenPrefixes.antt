-- A list that is driven follows the edges, and each list with which it begins is driven.
use Rattle.std.proofs.Common.{◌≡◌, ℕ, true, List, [], ◌∷◌, ◌++◌, None, refl, ap, ◌∙◌, append_assoc}
use Rattle.std.specs.Prelude.{is_some, ◌↔◌, ◌==◌}
use Rattle.c_tree.specs.declared.program.Program.{Program}
use Rattle.c_tree.specs.declared.program.Input.{Input}
use Rattle.flow_laws.specs.declared.graph.Loop.{Loop}
use Rattle.flow_laws.specs.Sites.{Site}
use Rattle.flow_laws.specs.Graphs.{graph, edges, loops}
use Rattle.flow_laws.specs.Paths.{follows, is_in_list, most_turns, Keeps, KeepsEach, keeps, keeps_each}
use Rattle.flow_laws.specs.Driving.{Memory, start_memory, Walks, Drives}
use Rattle.flow_laws.proofs.Driving.CountersKeepBounds.{keeps_counter, counter_keeps}
use Rattle.flow_laws.proofs.Runs.WalksOverNumbers.{walks_lead}
use Rattle.std.proofs.lemmas.Bool.{and_parts, and_from}

pub driven_follows : (p : Program) (i : Input) (q : List ℕ) → Drives p i q → follows (edges (graph p)) q ≡ true
driven_follows p i q h = ap is_some (walks_lead (graph p) q 0 (start_memory p i) h.node h.memory h.walks)

-- ---- the front of a list

keeps_front : (l : Loop) (a b : List ℕ) → Keeps l (a ++ b) → Keeps l a
keeps_front l a b h x y z j e en none = h x y (z ++ b) j (ap (λ t. t ++ b) e ∙ append_assoc x (j ∷ (y ++ z)) b ∙ ap (λ t. x ++ (j ∷ t)) (append_assoc y z b)) en none

pub each_front : (ls : List Loop) (a b : List ℕ) → KeepsEach ls (a ++ b) → KeepsEach ls a
each_front [] a b h = tt
each_front (l ∷ ls) a b h = (keeps_front l a b h.0, each_front ls a b h.1)

pub record WalksTo (g : List Site) (q : List ℕ) (n : ℕ) (m : Memory) : Type 0 where
  pub node : ℕ
  pub memory : Memory
  pub walks : Walks g q n m node memory

walks_front : (g : List Site) (a b : List ℕ) (n : ℕ) (m : Memory) (n' : ℕ) (m' : Memory) → Walks g (a ++ b) n m n' m' → WalksTo g a n m
walks_front g [] b n m n' m' h = record { node = n; memory = m; walks = (refl, refl) }
walks_front g (j ∷ a) b n m n' m' h =
    let r = walks_front g a b h.0 h.1 n' m' h.3 in
    record { node = r.node; memory = r.memory; walks = (h.0, h.1, h.2, r.walks) }

pub driven_front : (p : Program) (i : Input) (a b : List ℕ) → Drives p i (a ++ b) → Drives p i a
driven_front p i a b h =
    let r = walks_front (graph p) a b 0 (start_memory p i) h.node h.memory h.walks in
    record { node = r.node; memory = r.memory; walks = r.walks; keeps = each_front (loops (graph p)) a b h.keeps }

-- ---- the counter of a loop

pub keeps_is : (l : Loop) (q : List ℕ) → Keeps l q ↔ (keeps l q ≡ true)
keeps_is l q =
    (keeps_counter (λ j. is_in_list j l.into) (λ j. j == l.turn) (most_turns l) q, counter_keeps (λ j. is_in_list j l.into) (λ j. j == l.turn) (most_turns l) q None)

each_forth : (ls : List Loop) (q : List ℕ) → KeepsEach ls q → keeps_each ls q ≡ true
each_forth [] q h = refl
each_forth (l ∷ ls) q h = and_from (keeps l q) (keeps_each ls q) ((keeps_is l q).0 h.0) (each_forth ls q h.1)

each_back : (ls : List Loop) (q : List ℕ) → keeps_each ls q ≡ true → KeepsEach ls q
each_back [] q h = tt
each_back (l ∷ ls) q h =
    let parts = and_parts (keeps l q) (keeps_each ls q) h in
    ((keeps_is l q).1 parts.0, each_back ls q parts.1)

pub each_is : (ls : List Loop) (q : List ℕ) → KeepsEach ls q ↔ (keeps_each ls q ≡ true)
each_is ls q = (each_forth ls q, each_back ls q)
