-- Worked graphs. In the text beside a program its loops' bounds stand in brackets.
use Rattle.std.specs.Prelude.{ℕ, Bool, true, false, List, [], ◌∷◌, ◌++◌, map, Option, Some, None}
use Rattle.c_tree.specs.declared.tree.BinOp.TheVariants as bin
use Rattle.c_tree.specs.declared.tree.Target.TheVariants as target
use Rattle.c_tree.specs.declared.tree.Expr.TheVariants.{Bin}
use Rattle.c_tree.specs.declared.tree.Stmt.{Stmt}
use Rattle.c_tree.specs.declared.tree.Stmt.TheVariants.{Call, Break, Continue, If, While, Do, For, Group}
use Rattle.c_tree.specs.declared.program.BlockName.{BlockName}
use Rattle.c_tree.specs.declared.program.Program.{Program}
use Rattle.c_tree.specs.Meaning.Worked.{num, local, sets, increment, declares, returns, int_func, main_of}
use Rattle.flow_laws.specs.declared.graph.Way.TheVariants.{Next, True, False}
use Rattle.flow_laws.specs.declared.graph.Edge.{Edge}
use Rattle.flow_laws.specs.declared.graph.Loop.{Loop}
use Rattle.flow_laws.specs.Sites.{LoopCopy, call_of}
use Rattle.flow_laws.specs.Graphs.{leaves, graph, nodes}

-- ---- parts

-- the edges from a node by its three ends
abbrev pub leaves_next : ℕ → ℕ → Edge
leaves_next a b = leaves a Next b

abbrev pub leaves_true : ℕ → ℕ → Edge
leaves_true a b = leaves a True b

abbrev pub leaves_false : ℕ → ℕ → Edge
leaves_false a b = leaves a False b

abbrev pub loop : ℕ → List ℕ → ℕ → Loop
loop bound into turn = record { bound = bound; into = into; turn = turn; at_end = false }

abbrev pub do_loop : ℕ → List ℕ → ℕ → Loop
do_loop bound into turn = record { bound = bound; into = into; turn = turn; at_end = true }

abbrev pub loop_copy : ℕ → ℕ → ℕ → ℕ → Bool → LoopCopy
loop_copy from past test bound at_end =
    record { from = from; past = past; test = test; bound = bound; at_end = at_end }

abbrev pub blocks_of : Program → List (Option BlockName)
blocks_of p = map (λ n. n.block) (nodes (graph p))

abbrev pub chains_of : Program → List (List BlockName)
chains_of p = map (λ n. n.chain) (nodes (graph p))

abbrev pub caps_of : Program → List ℕ
caps_of p = map (λ n. n.cap) (nodes (graph p))

-- the call of each landing
abbrev pub calls_of : Program → List (Option BlockName)
calls_of p = map (λ s. call_of s.content) (graph p)

-- ---- paths of the filter that clamps four samples

-- the first edges, into the loop
abbrev pub to_the_loop : List ℕ
to_the_loop = 0 ∷ 1 ∷ 2 ∷ []

-- a turn with a sample that is too low, whose clamp is taken away
abbrev pub low_turn : List ℕ
low_turn = 3 ∷ 6 ∷ 8 ∷ 10 ∷ 12 ∷ 14 ∷ 16 ∷ 18 ∷ 20 ∷ 5 ∷ []

abbrev pub three_low_turns : List ℕ
three_low_turns = to_the_loop ++ (low_turn ++ (low_turn ++ low_turn))

abbrev pub four_low_turns : List ℕ
four_low_turns = three_low_turns ++ low_turn

-- ---- straight programs

-- `int main(void) { }`
unfoldable pub empty_main : Program
empty_main = main_of 0 0 []

-- `int main(int x) { if (x) { } x = 1; { x = 2; } x = 3; return x; x = 4; }`
unfoldable pub groups_and_rest : Program
groups_and_rest =
    main_of 1 1 (If (local 0) [] [] ∷ sets 0 None (num 1) ∷ Group (sets 0 None (num 2) ∷ []) ∷ sets 0 None (num 3)
    ∷ returns (local 0) ∷ sets 0 None (num 4) ∷ [])

-- ---- loops

-- `int main(int n) { for [3] (int i = 0; i < n; ) { } return 0; }`
unfoldable pub empty_for : Program
empty_for =
    main_of 1 2 (For 3 (Some (declares 1 (num 0))) (Bin bin.Lt (local 1) (local 0)) None [] ∷ returns (num 0) ∷ [])

-- `int main(int n) { while [3] (n) { } return 0; }`
unfoldable pub empty_while : Program
empty_while = main_of 1 1 (While 3 (local 0) [] ∷ returns (num 0) ∷ [])

-- `int main(int n) { do [3] { } while (n); return 0; }`
unfoldable pub empty_do : Program
empty_do = main_of 1 1 (Do 3 [] (local 0) ∷ returns (num 0) ∷ [])

-- `int main(int n) { do [3] do [2] n++; while (n < 5); while (n < 9); return n; }`
unfoldable pub nested_do : Program
nested_do =
    let inner = Do 2 (increment 0 ∷ []) (Bin bin.Lt (local 0) (num 5)) in
    main_of 1 1 (Do 3 (inner ∷ []) (Bin bin.Lt (local 0) (num 9)) ∷ returns (local 0) ∷ [])

-- `if (b) break; if (c) continue; d = 1;`
abbrev pub jumps : List Stmt
jumps = If (local 1) (Break ∷ []) [] ∷ If (local 2) (Continue ∷ []) [] ∷ sets 3 None (num 1) ∷ []

-- `int main(int a, int b, int c) { int d; LOOP return 0; }`, where the loop begins a block
abbrev pub with_loop : Stmt → Program
with_loop s = main_of 3 4 (s ∷ returns (num 0) ∷ [])

-- `while [3] (a) { JUMPS }`
unfoldable pub jumps_in_while : Program
jumps_in_while = with_loop (While 3 (local 0) jumps)

-- `do [3] { JUMPS } while (a);`
unfoldable pub jumps_in_do : Program
jumps_in_do = with_loop (Do 3 jumps (local 0))

-- `for [3] (d = 0; a; d++) { JUMPS }`
unfoldable pub jumps_in_for : Program
jumps_in_for = with_loop (For 3 (Some (sets 3 None (num 0))) (local 0) (Some (increment 3)) jumps)

-- `for [3] (; a; ) { JUMPS }`
unfoldable pub jumps_without_step : Program
jumps_without_step = with_loop (For 3 None (local 0) None jumps)

-- ---- calls

-- `int f(int v) { if (v) return v; } int main(int n) { int x = 0; x = f(n); return x; }`
unfoldable pub end_is_reached : Program
end_is_reached =
    let f = int_func 1 1 (If (local 0) (returns (local 0) ∷ []) [] ∷ []) in
    let main = int_func 1 2 (declares 1 (num 0)
    ∷ Call (target.Assign (Rattle.c_tree.specs.declared.tree.Var.TheVariants.Local 1)) 0 (local 0 ∷ [])
    ∷ returns (local 1) ∷ []) in
    record { globals = []; funcs = f ∷ main ∷ []; entry = 1 }

-- `int g(void) { return 1; } int f(void) { g(); return 2; } int main(void) { while [4] (1) { f(); } return 0; }`
unfoldable pub nested_calls : Program
nested_calls =
    let g = int_func 0 0 (returns (num 1) ∷ []) in
    let f = int_func 0 0 (Call target.Nothing 0 [] ∷ returns (num 2) ∷ []) in
    let main = int_func 0 0 (While 4 (num 1) (Call target.Nothing 1 [] ∷ []) ∷ returns (num 0) ∷ []) in
    record { globals = []; funcs = g ∷ f ∷ main ∷ []; entry = 2 }
