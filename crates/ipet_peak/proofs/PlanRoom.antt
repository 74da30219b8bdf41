-- A plan's part has room: it costs little, reaches little above what is ahead, and no node of it can be reached more than 2^40 times.
use Rattle.std.proofs.Common.{◌≡◌, ◌≤◌, ℕ, zero, suc, ◌+◌, ◌*◌, ◌^◌, List, [], ◌∷◌, None, subst, arith}
use Rattle.std.specs.Prelude.{slice_get, Result, Ok, Err, IfOk}
use Rattle.std.proofs.Math.Nat.{mul-le-mul_left}
use Rattle.c_tree.specs.declared.program.Costs.{Costs}
use Rattle.c_tree.specs.declared.program.Program.{Program}
use Rattle.c_tree.specs.Keeping.WellFormed.{WellFormed}
use Rattle.flow_laws.specs.Sites.{Site}
use Rattle.flow_laws.specs.Graphs.{graph}
use Rattle.flow_laws.specs.Paths.{cap_of}
use Rattle.flow_graph.specs.Limits.{size_fault}
use Rattle.flow_graph.proofs.Tame.{AllWithin}
use Rattle.flow_graph.proofs.Measured.{all_within, entered, limits}
use Rattle.ipet_rows.specs.CapsBound.{AreSmall}
use Rattle.peak_laws.specs.Parts.{Part}
use Rattle.peak_laws.specs.ProgramParts.{program_part}
use Rattle.peak_laws.specs.Magnitudes.{cap_cost, loop_count, excess, EachIsAtMost, node_caps}
use Rattle.ipet_peak.specs.Trees.{FitsCaps}
use Rattle.peak_laws.proofs.GraphParts.Places.{Agrees}
use Rattle.peak_laws.proofs.Duals.Magnitudes.{excess_most}
use Rattle.peak_laws.proofs.Duals.DualFits.{is_small}
use Rattle.peak_laws.proofs.GraphParts.Programs.{program_shaped}

cap_within : (g : List Site) (v : ℕ) → AllWithin (2 ^ 40) g → cap_of (slice_get g v) ≤ 2 ^ 40
cap_within [] v h = omega arith
cap_within (s ∷ g) zero h = h.0
cap_within (s ∷ g) (suc v) h = cap_within g v h.1

each_within : (f : ℕ → ℕ) (x n : ℕ) (ns : List ℕ) → ((v : ℕ) → f v ≤ x) → Agrees f n ns → EachIsAtMost x ns
each_within f x n [] most h = tt
each_within f x n (c ∷ ns) most h = (subst (λ z. z ≤ x) h.0 (most n), each_within f x (n + 1) ns most h.1)

pub record HasRoom (q : Part) : Type 0 where
  pub light : cap_cost q ≤ 2 ^ 124
  pub room : excess q ≤ 2 ^ 124
  pub fit : FitsCaps q 1

pub plan_room : (p : Program) (t : Costs) → WellFormed p → AreSmall t → size_fault (graph p) ≡ None → HasRoom (program_part p t)
plan_room p t formed costs allowed =
    let o = program_part p t in
    let g = graph p in
    let small = is_small p t formed costs allowed in
    let all : loop_count o * cap_cost o ≤ 2048 * 2 ^ 97 = omega (arith, mul-le-mul_left (loop_count o) small.cap_cost, small.loops) in
    let within = all_within p (entered p formed.entry) (limits g allowed).caps in
    record {
      light = omega (arith, small.cap_cost);
      room = omega (arith, small.cap_cost, all, excess_most o (cap_cost o) (omega arith));
      fit = record { entries = omega arith; caps = each_within (λ v. cap_of (slice_get g v)) (2 ^ 40) 2 (node_caps o 1) (λ v. cap_within g v within) (program_shaped p t formed).caps_agree };
    }

pub if_all : {A E : Type 0} (r : Result A E) (P Q R S T : A → Type 0) → ((u : A) → P u → Q u → R u → S u → T u) → IfOk r P → IfOk r Q → IfOk r R → IfOk r S → IfOk r T
if_all (Ok x) P Q R S T f a b c d = f x a b c d
if_all (Err e) P Q R S T f a b c d = a
