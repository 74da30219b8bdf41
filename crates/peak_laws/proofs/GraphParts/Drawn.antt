-- The nodes of a program's graph are those of its part.
use Rattle.std.proofs.Common.{◌≡◌, ◌≤◌, ◌<◌, ℕ, suc, ◌+◌, ◌*◌, ◌-◌, Bool, true, false, if◌then◌else◌, IsTrue, List, [], ◌∷◌, ◌++◌, length, map, Option, Some, None, refl, sym, ap, ◌∙◌, subst, arith, length-append, append_assoc}
use Rattle.std.specs.Prelude.{slice_get}
use Rattle.c_tree.specs.declared.tree.Expr.{Expr}
use Rattle.c_tree.specs.declared.tree.Target.{Target}
use Rattle.c_tree.specs.declared.tree.Stmt.{Stmt, Row_of-Stmt, end_of-Stmt, more_of-Stmt, Held-Stmt-For-1, None', Some'}
use Rattle.c_tree.specs.declared.tree.Stmt.TheVariants.{Empty, Scalar, Array, Assign, Call, Break, Continue, Return, If', While', Do', For', Group'}
use Rattle.c_tree.specs.declared.program.BlockName.{BlockName}
use Rattle.c_tree.specs.declared.program.Costs.{Costs}
use Rattle.c_tree.specs.Meaning.Blocks.{is_simple, blocks, row_blocks, held_blocks}
use Rattle.c_tree.specs.Meaning.Claims.{block_cost}
use Rattle.c_tree.specs.Meaning.Statements.{block}
use Rattle.c_tree.specs.Keeping.WellFormed.{Context, WellFormedStmt, WellFormedRow, WellFormedHeld, WellFormedSole, is_initialiser, is_step}
use Rattle.flow_laws.specs.declared.graph.Way.TheVariants.{Next, True, False}
use Rattle.flow_laws.specs.Sites.{LoopCopy, Content, Simple, Jump, Give, Enter, Missing, Land, Site, Position, Copy, Targets, times_as_often, one_end_site, asks, loop_at, head, with_next, body_of, number_past, flush, call_sites, if_sites, while_sites, do_sites, for_sites, site_count as tree_size, row_size, held_size, flow, row_flow, held_flow}
use Rattle.flow_laws.specs.Graphs.{leaves, outs, edges_from, loops_at, loop_copies, all_to}
use Rattle.flow_laws.specs.Paths.{cost_of_block}
use Rattle.flow_laws.proofs.Graphs.PartSizes.{HaveSizes, is_run, flow_length, row_length, held_length}
use Rattle.peak_laws.specs.Parts.{Leaving, ByEnd, ByBreak, ByContinue, ByReturn, Part, Nothing, Block, Then, Choice, While, Do, Body, ahead, step_costs, step_size, part_size, node_costs, step_edges, part_edges, CostedLoop, costed_loop, while_copy, do_copy, costed_loops}
use Rattle.peak_laws.specs.Answers.{copies_of_loops}
use Rattle.peak_laws.specs.Magnitudes.{step_caps, node_caps}
use Rattle.peak_laws.specs.ProgramParts.{is_nothing, sequence, pending_block, block_past_run, call_part, held_step, part, row_part, held_part, costs_in}
use Rattle.flow_laws.proofs.Runs.StatementParts.{head_self}
use Rattle.flow_laws.proofs.Graphs.PartSizes.{head_plus}
use Rattle.peak_laws.proofs.Attaining.Conserved.{head_some}
use Rattle.plain_laws.proofs.Booleans.{false_never_holds}
use Rattle.flow_laws.proofs.Graphs.EndsJoined.{sole_row}
use Rattle.flow_graph.proofs.Layouts.Along.{more_run}

-- ---- nodes one after the other

edges_append : (n m : ℕ) (xs ys : List Site) → n + length xs ≡ m → edges_from n (xs ++ ys) ≡ edges_from n xs ++ edges_from m ys
edges_append n m [] ys e = let z : n ≡ m = omega (arith, e) in ap (λ i. edges_from i ys) z
edges_append n m (s ∷ xs) ys e =
    ap (λ es. outs n s s.content ++ es) (edges_append (n + 1) m xs ys (omega (arith, e))) ∙ sym (append_assoc (outs n s s.content) (edges_from (n + 1) xs) (edges_from m ys))

loops_append : (xs ys : List Site) → loop_copies (xs ++ ys) ≡ loop_copies xs ++ loop_copies ys
loops_append [] ys = refl
loops_append (s ∷ xs) ys =
    ap (λ ls. loops_at s.content ++ ls) (loops_append xs ys) ∙ sym (append_assoc (loops_at s.content) (loop_copies xs) (loop_copies ys))

copies_of_loops_append : (fs gs : List CostedLoop) → copies_of_loops (fs ++ gs) ≡ copies_of_loops fs ++ copies_of_loops gs
copies_of_loops_append [] gs = refl
copies_of_loops_append (f ∷ fs) gs = ap (λ ls. f.loop_copy ∷ ls) (copies_of_loops_append fs gs)

-- the cost of each node's block
abbrev pub site_costs : Costs → List Site → List ℕ
site_costs t g = map (λ s. cost_of_block t s.node.block) g

costs_append : (t : Costs) (xs ys : List Site) → site_costs t (xs ++ ys) ≡ site_costs t xs ++ site_costs t ys
costs_append t [] ys = refl
costs_append t (s ∷ xs) ys = ap (λ cs. cost_of_block t s.node.block ∷ cs) (costs_append t xs ys)

-- how often each node can be reached
abbrev pub site_caps : List Site → List ℕ
site_caps g = map (λ s. s.node.cap) g

caps_append : (xs ys : List Site) → site_caps (xs ++ ys) ≡ site_caps xs ++ site_caps ys
caps_append [] ys = refl
caps_append (s ∷ xs) ys = ap (λ cs. s.node.cap ∷ cs) (caps_append xs ys)

-- the nodes from n on are those of the part, which is entered z times
pub record Draws (t : Costs) (z n : ℕ) (xs : List Site) (p : Part) (k : Targets) : Type 0 where
  pub edges : edges_from n xs ≡ part_edges p n k
  pub loops : loop_copies xs ≡ copies_of_loops (costed_loops p n)
  pub nodes : length xs ≡ part_size p
  pub costs : site_costs t xs ≡ node_costs p
  pub caps : site_caps xs ≡ node_caps p z

draws_nothing : (t : Costs) (z n : ℕ) (k : Targets) → Draws t z n [] Nothing k
draws_nothing t z n k = record { edges = refl; loops = refl; nodes = refl; costs = refl; caps = refl }

draws_then : (t : Costs) (z n : ℕ) (xs ys : List Site) (p q : Part) (k : Targets) → Draws t z n xs p (with_next k (head (part_size q) (n + part_size p) k.next)) → Draws t z (n + part_size p) ys q k → Draws t z n (xs ++ ys) (Then p q) k
draws_then t z n xs ys p q k a b =
    record {
      edges = edges_append n (n + part_size p) xs ys (omega (arith, a.nodes)) ∙ (λ i. a.edges i ++ b.edges i);
      loops = loops_append xs ys ∙ (λ i. a.loops i ++ b.loops i) ∙ sym (copies_of_loops_append (costed_loops p n) (costed_loops q (n + part_size p)));
      nodes = omega (arith, length-append xs ys, a.nodes, b.nodes);
      costs = costs_append t xs ys ∙ (λ i. a.costs i ++ b.costs i);
      caps = caps_append xs ys ∙ (λ i. a.caps i ++ b.caps i);
    }

sequence_size : (p q : Part) → part_size (sequence p q) ≡ part_size p + part_size q
sequence_size p q = by_first (is_nothing p) (is_nothing q) refl refl
  where
    empty : (p : Part) → is_nothing p ≡ true → part_size p ≡ 0
    empty Nothing h = refl
    empty (Block c l) h = absurd (cc)
    empty (Then p q) h = absurd (cc)
    empty (Choice c p q) h = absurd (cc)
    empty (While c m s p) h = absurd (cc)
    empty (Do c m p) h = absurd (cc)
    empty (Body p) h = absurd (cc)

    by_first : (a b : Bool) → is_nothing p ≡ a → is_nothing q ≡ b → part_size (if a then q else (if b then p else Then p q)) ≡ part_size p + part_size q
    by_first true b h k = omega (arith, empty p h)
    by_first false true h k = omega (arith, empty q k)
    by_first false false h k = refl

is_nothing_is : (p : Part) → is_nothing p ≡ true → p ≡ Nothing
is_nothing_is Nothing h = refl
is_nothing_is (Block c l) h = absurd (cc)
is_nothing_is (Then p q) h = absurd (cc)
is_nothing_is (Choice c p q) h = absurd (cc)
is_nothing_is (While c m s p) h = absurd (cc)
is_nothing_is (Do c m p) h = absurd (cc)
is_nothing_is (Body p) h = absurd (cc)

no_sites : (xs : List Site) → length xs ≡ 0 → xs ≡ []
no_sites [] h = refl
no_sites (x ∷ xs) h = absurd (omega (arith, h))

append_none : (xs : List Site) → xs ++ [] ≡ xs
append_none [] = refl
append_none (x ∷ xs) = ap (λ ys. x ∷ ys) (append_none xs)

draws_sequence : (t : Costs) (z n : ℕ) (xs ys : List Site) (p q : Part) (k : Targets) → Draws t z n xs p (with_next k (head (part_size q) (n + part_size p) k.next)) → Draws t z (n + part_size p) ys q k → Draws t z n (xs ++ ys) (sequence p q) k
draws_sequence t z n xs ys p q k a b = by_first (is_nothing p) (is_nothing q) refl refl
  where
    by_first : (x y : Bool) → is_nothing p ≡ x → is_nothing q ≡ y → Draws t z n (xs ++ ys) (if x then q else (if y then p else Then p q)) k
    by_first true y h g =
        let none : part_size p ≡ 0 = ap part_size (is_nothing_is p h) in
        let here : n + part_size p ≡ n = omega (arith, none) in
        let gone : xs ≡ [] = no_sites xs (a.nodes ∙ none) in
        subst (λ zs. Draws t z n (zs ++ ys) q k) (sym gone) (subst (λ m. Draws t z m ys q k) here b)
    by_first false true h g =
        let none : part_size q ≡ 0 = ap part_size (is_nothing_is q g) in
        let gone : ys ≡ [] = no_sites ys (b.nodes ∙ none) in
        let same : head (part_size q) (n + part_size p) k.next ≡ k.next = ap (λ m. head m (n + part_size p) k.next) none in
        subst (λ zs. Draws t z n (xs ++ zs) p k) (sym gone) (subst (λ zs. Draws t z n zs p k) (sym (append_none xs)) (subst (λ m. Draws t z n xs p (with_next k m)) same a))
    by_first false false h g = draws_then t z n xs ys p q k a b

-- ---- single nodes

draws_one : (t : Costs) (w : Position) (c : Content) (b : Option BlockName) (n to : ℕ) (l : Leaving) (k : Targets) → outs n (one_end_site w c b to) c ≡ leaves n Next to ∷ [] → loops_at c ≡ [] → ahead k l ≡ to → Draws t w.scale n (one_end_site w c b to ∷ []) (Block (cost_of_block t b) l) k
draws_one t w c b n to l k out none is =
    record {
      edges = ap (λ es. es ++ []) out ∙ ap (λ i. leaves n Next i ∷ []) (sym is);
      loops = ap (λ ls. ls ++ []) none;
      nodes = refl;
      costs = refl;
      caps = refl;
    }

draws_choice : (t : Costs) (w : Position) (e : Expr) (b : BlockName) (n m r : ℕ) (xs ys : List Site) (p q : Part) (k : Targets) → m ≡ part_size p → r ≡ part_size q → Draws t w.scale (n + 1) xs p k → Draws t w.scale (n + 1 + m) ys q k → Draws t w.scale n (if_sites w e b n m r k.next xs ys) (Choice (block_cost t b) p q) k
draws_choice t w e b n m r xs ys p q k mp rq a c =
    let d = subst (λ z. Draws t w.scale (n + 1 + z) ys q k) mp c in
    let rest = edges_append (n + 1) (n + 1 + part_size p) xs ys (omega (arith, a.nodes)) ∙ (λ i. a.edges i ++ d.edges i) in
    record {
      edges = λ i. leaves n True (head (mp i) (n + 1) k.next) ∷ (leaves n False (head (rq i) (n + 1 + mp i) k.next) ∷ rest i);
      loops = loops_append xs ys ∙ (λ i. a.loops i ++ d.loops i) ∙ sym (copies_of_loops_append (costed_loops p (n + 1)) (costed_loops q (n + 1 + part_size p)));
      nodes = omega (arith, length-append xs ys, a.nodes, d.nodes);
      costs = ap (λ cs. block_cost t b ∷ cs) (costs_append t xs ys ∙ (λ i. a.costs i ++ d.costs i));
      caps = ap (λ cs. w.scale ∷ cs) (caps_append xs ys ∙ (λ i. a.caps i ++ d.caps i));
    }

-- the nodes of a step, of a loop with the condition n
pub record DrawsStep (t : Costs) (z n : ℕ) (xs : List Site) (s : Option ℕ) : Type 0 where
  pub edges : edges_from (n + 1) xs ≡ step_edges s n
  pub loops : loop_copies xs ≡ []
  pub nodes : length xs ≡ step_size s
  pub costs : site_costs t xs ≡ step_costs s
  pub caps : site_caps xs ≡ step_caps s z

draws_loop : (t : Costs) (w : Position) (z n spare : ℕ) (s : Option ℕ) (e : Expr) (b : BlockName) (to : ℕ) (loop_copy : LoopCopy) (ys xs : List Site) (p : Part) (k : Targets) → loop_copy ≡ while_copy p n spare s → to ≡ head (part_size p) (n + 1 + step_size s) (head (step_size s) (n + 1) n) → w.scale ≡ z * (spare + 1 + 1) → DrawsStep t (z * (spare + 1)) n ys s → Draws t (z * (spare + 1)) (n + 1 + step_size s) xs p (body_of k (head (step_size s) (n + 1) n)) → Draws t z n (asks w (Some loop_copy) e b to k.next ∷ (ys ++ xs)) (While (block_cost t b) spare s p) k
draws_loop t w z n spare s e b to loop_copy ys xs p k loop_copy_is to_is scale_is step a =
    let rest = edges_append (n + 1) (n + 1 + step_size s) ys xs (omega (arith, step.nodes)) ∙ (λ i. step.edges i ++ a.edges i) in
    let more = loops_append ys xs ∙ (λ i. step.loops i ++ a.loops i) in
    record {
      edges = λ i. leaves n True (to_is i) ∷ (leaves n False k.next ∷ rest i);
      loops = λ i. loop_copy_is i ∷ more i;
      nodes = omega (arith, length-append ys xs, step.nodes, a.nodes);
      costs = ap (λ cs. block_cost t b ∷ cs) (costs_append t ys xs ∙ (λ i. step.costs i ++ a.costs i));
      caps = λ i. scale_is i ∷ (caps_append ys xs ∙ (λ j. step.caps j ++ a.caps j)) i;
    }

draws_while : (t : Costs) (w : Position) (l : ℕ) (e : Expr) (b : BlockName) (n m : ℕ) (xs : List Site) (p : Part) (k : Targets) → 1 ≤ l → m ≡ part_size p → Draws t (w.scale * l) (n + 1) xs p (body_of k n) → Draws t w.scale n (while_sites w l e b n m k.next xs) (While (block_cost t b) (l - 1) None p) k
draws_while t w l e b n m xs p k some mp a =
    let past_is : n + 1 + m ≡ n + 1 + 0 + part_size p = omega (arith, mp) in
    let bound_is : l ≡ l - 1 + 1 = omega (arith, some) in
    let from : n + 1 ≡ n + 1 + 0 = omega arith in
    draws_loop t (times_as_often w (l + 1)) w.scale n (l - 1) None e b (head m (n + 1) n) (loop_at n (n + 1 + m) n l false) [] xs p k (λ i. loop_at n (past_is i) n (bound_is i) false) (λ i. head (mp i) (from i) n) (ap (λ i. w.scale * (i + 1)) bound_is) (record { edges = refl; loops = refl; nodes = refl; costs = refl; caps = refl }) (subst (λ i. Draws t (w.scale * i) (n + 1 + 0) xs p (body_of k n)) bound_is (subst (λ i. Draws t (w.scale * l) i xs p (body_of k n)) from a))

draws_for : (t : Costs) (w : Position) (l : ℕ) (e : Expr) (b : BlockName) (n r m : ℕ) (s : Option ℕ) (ys xs : List Site) (p : Part) (k : Targets) → 1 ≤ l → r ≡ step_size s → m ≡ part_size p → DrawsStep t (w.scale * l) n ys s → Draws t (w.scale * l) (n + 1 + r) xs p (body_of k (head r (n + 1) n)) → Draws t w.scale n (for_sites w l e b n r m k.next ys xs) (While (block_cost t b) (l - 1) s p) k
draws_for t w l e b n r m s ys xs p k some rs mp step a =
    let past_is : n + 1 + r + m ≡ n + 1 + step_size s + part_size p = omega (arith, mp, rs) in
    let bound_is : l ≡ l - 1 + 1 = omega (arith, some) in
    draws_loop t (times_as_often w (l + 1)) w.scale n (l - 1) s e b (head m (n + 1 + r) (head r (n + 1) n)) (loop_at n (n + 1 + r + m) n l false) ys xs p k (λ i. loop_at n (past_is i) n (bound_is i) false) (λ i. head (mp i) (n + 1 + rs i) (head (rs i) (n + 1) n)) (ap (λ i. w.scale * (i + 1)) bound_is) (subst (λ i. DrawsStep t (w.scale * i) n ys s) bound_is step) (subst (λ i. Draws t (w.scale * i) (n + 1 + step_size s) xs p (body_of k (head (step_size s) (n + 1) n))) bound_is (subst (λ i. Draws t (w.scale * l) (n + 1 + i) xs p (body_of k (head i (n + 1) n))) rs a))

draws_do : (t : Costs) (w : Position) (l : ℕ) (e : Expr) (b : BlockName) (n m : ℕ) (xs : List Site) (p : Part) (k : Targets) → 1 ≤ l → m ≡ part_size p → Draws t (w.scale * l) n xs p (body_of k (n + m)) → Draws t w.scale n (do_sites w l e b n m k.next xs) (Do (block_cost t b) (l - 1) p) k
draws_do t w l e b n m xs p k some mp a =
    let bound_is : l ≡ l - 1 + 1 = omega (arith, some) in
    let d = subst (λ i. Draws t (w.scale * i) n xs p (body_of k (n + part_size p))) bound_is (subst (λ z. Draws t (w.scale * l) n xs p (body_of k (n + z))) mp a) in
    let to : n ≡ head (part_size p) n (n + part_size p) = sym (head_self (part_size p) n) in
    let last = asks (times_as_often w l) (Some (loop_at n (n + m + 1) (n + m) l true)) e b n k.next ∷ [] in
    record {
      edges = edges_append n (n + part_size p) xs last (omega (arith, a.nodes)) ∙ (λ i. d.edges i ++ (leaves (n + part_size p) True (to i) ∷ (leaves (n + part_size p) False k.next ∷ [])));
      loops = loops_append xs last ∙ (λ i. d.loops i ++ (loop_at n (n + mp i + 1) (n + mp i) (bound_is i) true ∷ [])) ∙ sym (copies_of_loops_append (costed_loops p n) (costed_loop (do_copy p n (l - 1)) _ ∷ []));
      nodes = omega (arith, length-append xs last, a.nodes);
      costs = costs_append t xs last ∙ ap (λ cs. cs ++ (block_cost t b ∷ [])) a.costs;
      caps = caps_append xs last ∙ (λ i. d.caps i ++ ((w.scale * bound_is i) ∷ []));
    }

-- ---- calls

pub record IsDrawn (t : Costs) (c : Copy) (q : Part) : Type 0 where
  pub size_is : c.size ≡ part_size q
  pub draws : (chain : List BlockName) (scale n landing : ℕ) → Draws t scale n (c.sites chain scale n landing) q (all_to landing)

abbrev pub Paired : Costs → Option Copy → Option Part → Type 0
Paired t None None = Unit {0}
Paired t (Some c) (Some q) = IsDrawn t c q
Paired t None (Some q) = ⊥
Paired t (Some c) None = ⊥

head_some_more : (m n x : ℕ) → head (m + 1) n x ≡ n
head_some_more m n x = let z : m + 1 ≡ suc m = omega arith in ap (λ i. head i n x) z

draws_call : (t : Costs) (w : Position) (o : Option Copy) (q : Option Part) (tg : Target) (es : List Expr) (b : BlockName) (n : ℕ) (k : Targets) → Paired t o q → Draws t w.scale n (call_sites w o tg es b n k.next) (call_part q (block_cost t b)) k
draws_call t w None None tg es b n k h =
    draws_then t w.scale n (one_end_site w Missing (Some b) (n + 1) ∷ []) (one_end_site w Missing None k.next ∷ []) (Block (block_cost t b) ByEnd) (Block 0 ByEnd) k (draws_one t w Missing (Some b) n (n + 1) ByEnd (with_next k (n + 1)) refl refl refl) (draws_one t w Missing None (n + 1) k.next ByEnd k refl refl refl)
draws_call t w None (Some q) tg es b n k h = absurd h
draws_call t w (Some c) None tg es b n k h = absurd h
draws_call t w (Some c) (Some q) tg es b n k h =
    let landing = n + 1 + c.size in
    let copy = c.sites (w.chain ++ b ∷ []) w.scale (n + 1) landing in
    let land = one_end_site w (Land tg c.result b) None k.next ∷ [] in
    let after : landing ≡ n + 1 + part_size q = omega (arith, h.size_is) in
    let inside = h.draws (w.chain ++ b ∷ []) w.scale (n + 1) landing in
    let body : Draws t w.scale (n + 1) copy (Body q) (with_next k (n + 1 + part_size q)) = record { edges = inside.edges ∙ ap (λ i. part_edges q (n + 1) (all_to i)) after; loops = inside.loops; nodes = inside.nodes; costs = inside.costs; caps = inside.caps } in
    let rest : Draws t w.scale (n + 1) (copy ++ land) (Then (Body q) (Block 0 ByEnd)) k = draws_then t w.scale (n + 1) copy land (Body q) (Block 0 ByEnd) k body (draws_one t w (Land tg c.result b) None (n + 1 + part_size q) k.next ByEnd k refl refl refl) in
    let to : head (part_size q + 1) (n + 1) k.next ≡ head c.size (n + 1) landing = head_some_more (part_size q) (n + 1) k.next ∙ sym (head_self c.size (n + 1)) in
    draws_then t w.scale n (one_end_site w (Enter tg c.locals es) (Some b) (head c.size (n + 1) landing) ∷ []) (copy ++ land) (Block (block_cost t b) ByEnd) (Then (Body q) (Block 0 ByEnd)) k (draws_one t w (Enter tg c.locals es) (Some b) n (head c.size (n + 1) landing) ByEnd (with_next k (head (part_size q + 1) (n + 1) k.next)) refl refl to) rest

-- ---- lists

pending_block_size : (ss : List Stmt) (c : ℕ) (n : ℕ) → n + part_size (pending_block (is_run ss) c) ≡ number_past ss n
pending_block_size [] c n = omega arith
pending_block_size (s ∷ ss) c n = refl

past_is : (ss : List Stmt) (b : ℕ) → number_past ss b ≡ block_past_run (is_run ss) b
past_is [] b = refl
past_is (s ∷ ss) b = refl

draws_pending : (t : Costs) (w : Position) (ss : List Stmt) (b : BlockName) (n to : ℕ) (k : Targets) → k.next ≡ to → Draws t w.scale n (flush w ss b to) (pending_block (is_run ss) (block_cost t b)) k
draws_pending t w [] b n to k is = draws_nothing t w.scale n k
draws_pending t w (s ∷ ss) b n to k is = draws_one t w (Simple (s ∷ ss)) (Some b) n to ByEnd k refl refl is

-- a block of simple statements, a statement that is not simple, and the rest
draws_plain : (t : Costs) (w : Position) (ss : List Stmt) (b : BlockName) (n z r : ℕ) (xs ys : List Site) (p q : Part) (k : Targets) → z ≡ part_size p → r ≡ part_size q → Draws t w.scale (number_past ss n) xs p (with_next k (head r (number_past ss n + z) k.next)) → Draws t w.scale (number_past ss n + z) ys q k → Draws t w.scale n (flush w ss b (head z (number_past ss n) (head r (number_past ss n + z) k.next)) ++ (xs ++ ys)) (sequence (pending_block (is_run ss) (block_cost t b)) (sequence p q)) k
draws_plain t w ss b n z r xs ys p q k zp rq a c =
    let n1 = number_past ss n in
    let first = pending_block (is_run ss) (block_cost t b) in
    let begin : n1 ≡ n + part_size first = sym (pending_block_size ss (block_cost t b) n) in
    let d : Draws t w.scale n1 xs p (with_next k (head (part_size q) (n1 + part_size p) k.next)) = subst (λ i. Draws t w.scale n1 xs p (with_next k i)) (λ i. head (rq i) (n1 + zp i) k.next) a in
    let e : Draws t w.scale (n1 + part_size p) ys q k = subst (λ i. Draws t w.scale (n1 + i) ys q k) zp c in
    let rest : Draws t w.scale n1 (xs ++ ys) (sequence p q) k = draws_sequence t w.scale n1 xs ys p q k d e in
    let to : head (part_size (sequence p q)) (n + part_size first) k.next ≡ head z n1 (head r (n1 + z) k.next) = (λ i. head (sequence_size p q i) (pending_block_size ss (block_cost t b) n i) k.next) ∙ head_plus (part_size p) (part_size q) n1 k.next ∙ sym (λ i. head (zp i) n1 (head (rq i) (n1 + zp i) k.next)) in
    draws_sequence t w.scale n (flush w ss b (head z n1 (head r (n1 + z) k.next))) (xs ++ ys) first (sequence p q) k (draws_pending t w ss b n (head z n1 (head r (n1 + z) k.next)) (with_next k (head (part_size (sequence p q)) (n + part_size first) k.next)) to) (subst (λ i. Draws t w.scale i (xs ++ ys) (sequence p q) k) begin rest)

draws_choose : (t : Costs) (z n : ℕ) (xs ys : List Site) (p q : Part) (k : Targets) (c : Bool) → (c ≡ true → Draws t z n xs p k) → (c ≡ false → Draws t z n ys q k) → Draws t z n (if c then xs else ys) (if c then p else q) k
draws_choose t z n xs ys p q k true f g = f refl
draws_choose t z n xs ys p q k false f g = g refl

-- the loop of a `for` after its initialiser
draws_after : (t : Costs) (z n : ℕ) (xs ys : List Site) (p q : Part) (r : ℕ) (k : Targets) → 0 < part_size q → r ≡ part_size p → Draws t z n xs p (with_next k (n + r)) → Draws t z (n + r) ys q k → Draws t z n (xs ++ ys) (sequence p q) k
draws_after t z n xs ys p q r k some zp a b =
    let to : n + r ≡ head (part_size q) (n + part_size p) k.next = ap (λ i. n + i) zp ∙ sym (head_some (part_size q) (n + part_size p) k.next some) in
    draws_sequence t z n xs ys p q k (subst (λ i. Draws t z n xs p (with_next k i)) to a) (subst (λ i. Draws t z (n + i) ys q k) zp b)

abbrev pub ArePaired : Costs → List Copy → List Part → Type 0
ArePaired t cs qs = (g : ℕ) → Paired t (slice_get cs g) (slice_get qs g)

module _ (t : Costs) (cs : List Copy) (qs : List Part) (c : Context) (sizes : HaveSizes cs) (paired : ArePaired t cs qs) where
  mutual
    unfolding tree_size row_size held_size flow row_flow held_flow part row_part held_part WellFormedStmt WellFormedRow WellFormedHeld WellFormedSole

    pub st_draws : (w : Position) (looped : Bool) (st : Stmt) (b n : ℕ) (k : Targets) → is_simple st ≡ false → WellFormedStmt c looped st → Draws t w.scale n (flow cs w st b n k) (part qs (costs_in t w.func) st b) k
    st_draws w looped Empty b n k is h = absurd (cc)
    st_draws w looped (Scalar l e) b n k is h = absurd (cc)
    st_draws w looped (Array l es) b n k is h = absurd (cc)
    st_draws w looped (Assign y op e) b n k is h = absurd (cc)
    st_draws w looped (Call tg g es) b n k is h = draws_call t w (slice_get cs g) (slice_get qs g) tg es (block w.func b) n k (paired g)
    st_draws w looped Break b n k is h = draws_one t w Jump (Some (block w.func b)) n k.breaks ByBreak k refl refl refl
    st_draws w looped Continue b n k is h = draws_one t w Jump (Some (block w.func b)) n k.continues ByContinue k refl refl refl
    st_draws w looped (Return e) b n k is h = draws_one t w (Give e) (Some (block w.func b)) n k.returns ByReturn k refl refl refl
    st_draws w looped (If' e a x d y) b n k is h =
        let m = row_size cs x false in
        let one_end_site = row_draws w looped x (b + 1) (n + 1) [] k h.1.0 in
        let two = row_draws w looped y (b + 1 + row_blocks x false) (n + 1 + m) [] k h.1.1 in
        draws_choice t w e (block w.func b) n m (row_size cs y false) (row_flow cs w x (b + 1) (n + 1) [] k) (row_flow cs w y (b + 1 + row_blocks x false) (n + 1 + m) [] k) _ _ k (sym (row_length cs w x (b + 1) (n + 1) [] k sizes) ∙ one_end_site.nodes) (sym (row_length cs w y (b + 1 + row_blocks x false) (n + 1 + m) [] k sizes) ∙ two.nodes) one_end_site two
    st_draws w looped (While' l e a x) b n k is h =
        let inside = times_as_often w l in
        let one_end_site = row_draws inside true x (b + 1) (n + 1) [] (body_of k n) h.1.1 in
        draws_while t w l e (block w.func b) n (row_size cs x false) (row_flow cs inside x (b + 1) (n + 1) [] (body_of k n)) _ k h.0.0 (sym (row_length cs inside x (b + 1) (n + 1) [] (body_of k n) sizes) ∙ one_end_site.nodes) one_end_site
    st_draws w looped (Do' l a x e) b n k is h =
        let inside = times_as_often w l in
        let m = row_size cs x false in
        let one_end_site = row_draws inside true x b n [] (body_of k (n + m)) h.1.0 in
        draws_do t w l e (block w.func (b + row_blocks x false)) n m (row_flow cs inside x b n [] (body_of k (n + m))) _ k h.0.0 (sym (row_length cs inside x b n [] (body_of k (n + m)) sizes) ∙ one_end_site.nodes) one_end_site
    st_draws w looped (For' l i e j a x) b n k is h =
        let inside = times_as_often w l in
        let bc = b + held_blocks i in
        let d = n + held_size cs i in
        let r = held_size cs j in
        let bx = bc + 1 + held_blocks j in
        let again = head r (d + 1) d in
        let first = held_draws w is_initialiser i b n (with_next k d) h.1.0 in
        let first_size = sym (held_length cs w i b n (with_next k d) sizes) ∙ first.nodes in
        let step = step_draws inside j (bc + 1) d (with_next k d) h.1.1.1.0 refl in
        let step_long = sym (held_length cs inside j (bc + 1) (d + 1) (with_next k d) sizes) ∙ step.nodes in
        let body = row_draws inside true x bx (d + 1 + r) [] (body_of k again) h.1.1.1.1 in
        let body_size = sym (row_length cs inside x bx (d + 1 + r) [] (body_of k again) sizes) ∙ body.nodes in
        let loop = draws_for t w l e (block w.func bc) d r (row_size cs x false) (held_step j (costs_in t w.func (bc + 1))) (held_flow cs inside j (bc + 1) (d + 1) (with_next k d)) (row_flow cs inside x bx (d + 1 + r) [] (body_of k again)) (row_part qs (costs_in t w.func) x bx false) k h.0.0 step_long body_size step body in
        draws_after t w.scale n (held_flow cs w i b n (with_next k d)) (for_sites w l e (block w.func bc) d r (row_size cs x false) k.next (held_flow cs inside j (bc + 1) (d + 1) (with_next k d)) (row_flow cs inside x bx (d + 1 + r) [] (body_of k again))) (held_part qs (costs_in t w.func) i b) _ (held_size cs i) k (omega arith) first_size first loop
    st_draws w looped (Group' a x) b n k is h = row_draws w looped x b n [] k h

    pub row_draws : {m : _} (w : Position) (looped : Bool) (x : Row_of-Stmt m) (b n : ℕ) (ss : List Stmt) (k : Targets) → WellFormedRow c looped x → Draws t w.scale n (row_flow cs w x b n ss k) (row_part qs (costs_in t w.func) x b (is_run ss)) k
    row_draws w looped end_of-Stmt b n ss k h = draws_pending t w ss (block w.func b) n k.next k refl
    row_draws w looped (more_of-Stmt st rest) b n ss k h =
        let n1 = number_past ss n in
        let z = tree_size cs st false in
        let r = row_size cs rest false in
        let n2 = n1 + z in
        let kn = with_next k (head r n2 k.next) in
        let b2 = number_past ss b + blocks st false in
        draws_choose t w.scale n _ _ _ _ k (is_simple st)
        (λ is. subst (λ run. Draws t w.scale n (row_flow cs w rest b n (ss ++ st ∷ []) k) (row_part qs (costs_in t w.func) rest b run) k) (more_run ss st) (row_draws w looped rest b n (ss ++ st ∷ []) k h.1))
        (λ is. let one_end_site = st_draws w looped st (number_past ss b) n1 kn is h.0 in let two = row_draws w looped rest b2 n2 [] k h.1 in subst (λ i. Draws t w.scale n (flush w ss (block w.func b) (head z n1 (head r n2 k.next)) ++ (flow cs w st (number_past ss b) n1 kn ++ row_flow cs w rest b2 n2 [] k)) (sequence (pending_block (is_run ss) (costs_in t w.func b)) (sequence (part qs (costs_in t w.func) st i) (row_part qs (costs_in t w.func) rest (i + blocks st false) false))) k) (past_is ss b) (draws_plain t w ss (block w.func b) n z r (flow cs w st (number_past ss b) n1 kn) (row_flow cs w rest b2 n2 [] k) _ _ k (sym (flow_length cs w st (number_past ss b) n1 kn sizes is) ∙ one_end_site.nodes) (sym (row_length cs w rest b2 n2 [] k sizes) ∙ two.nodes) one_end_site two))

    pub held_draws : (w : Position) (sort : Stmt → Bool) (x : Held-Stmt-For-1) (b n : ℕ) (k : Targets) → WellFormedHeld c sort x → Draws t w.scale n (held_flow cs w x b n k) (held_part qs (costs_in t w.func) x b) k
    held_draws w sort None' b n k h = draws_nothing t w.scale n k
    held_draws w sort (Some' a x) b n k h = row_draws w false x b n [] k (sole_row c sort x h)

    -- a step is one simple statement
    pub step_draws : (w : Position) (x : Held-Stmt-For-1) (b n : ℕ) (k : Targets) → WellFormedHeld c is_step x → k.next ≡ n → DrawsStep t w.scale n (held_flow cs w x b (n + 1) k) (held_step x (costs_in t w.func b))
    step_draws w None' b n k h is = record { edges = refl; loops = refl; nodes = refl; costs = refl; caps = refl }
    step_draws w (Some' a (more_of-Stmt (Assign y op e) end_of-Stmt)) b n k h is =
        record { edges = ap (λ i. leaves (n + 1) Next i ∷ []) is; loops = refl; nodes = refl; costs = refl; caps = refl }
    step_draws w (Some' a (more_of-Stmt _ end_of-Stmt)) b n k h is = absurd (false_never_holds h.0)
