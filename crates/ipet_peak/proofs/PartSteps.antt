-- One step along a list of statements whose pieces are added.
use Rattle.std.proofs.Common.{◌≡◌, ◌≤◌, ◌<◌, ℕ, zero, suc, ◌+◌, ◌-◌, Bool, true, false, if◌then◌else◌, List, [], ◌∷◌, ◌++◌, take, drop, length, All, Option, Some, None, refl, sym, ap, ◌∙◌, subst, arith, length-append}
use Rattle.std.specs.Prelude.{slice_get, unwrap_or}
use Rattle.std.proofs.lemmas.List.{drop_all, take_all}
use Rattle.std.proofs.lemmas.List.Elements.{All-head, All-tail}
use Rattle.c_tree.specs.declared.program.Costs.{Costs}
use Rattle.c_tree.specs.declared.program.Func.{Func}
use Rattle.c_tree.specs.declared.tree.Expr.{Expr}
use Rattle.c_tree.specs.declared.tree.Stmt.TheVariants.{For, Group}
use Rattle.c_tree.specs.Meaning.Statements.{held_stmts}
use Rattle.c_tree.specs.declared.tree.Stmt.{Stmt}
use Rattle.c_tree.specs.Meaning.Blocks.{is_simple, begun_blocks, blocks, list_blocks}
use Rattle.flow_laws.proofs.Graphs.PartSizes.{simple_blocks, plain_blocks}
use Rattle.ipet_peak.specs.declared.pieces.Piece.{Piece}
use Rattle.peak_laws.specs.Parts.{Part, Nothing, Block, Then, Choice, While, Do, Body}
use Rattle.peak_laws.specs.declared.ways.Leaving.TheVariants.{ByEnd}
use Rattle.peak_laws.specs.ProgramParts.{sequence, pending_block, block_past_run, call_part, step_part, part, list_part, func_part, function_parts}
use Rattle.c_tree.proofs.Layers.ExecLayers.{blocks-Group}
use Rattle.ipet_peak.specs.Pieces.{stack_after, Leads, IsVoid}
use Rattle.ipet_peak.proofs.PartLayers.{part-For, part-Group}

-- what is added up to a place of a list, and the rest from there on, make the part p
pub record Stands (qs : List Part) (cost : ℕ → ℕ) (xs : List Stmt) (run : Bool) (b : ℕ) (out first : List Piece) (p : Part) (end : ℕ) : Type 0 where
  pub numbers : block_past_run run b + list_blocks xs run ≡ end
  pub makes : (ps : List Part) → stack_after qs out (list_part qs cost xs b run ∷ ps) ≡ stack_after qs first (p ∷ ps)

pub at_first : (qs : List Part) (cost : ℕ → ℕ) (xs : List Stmt) (b : ℕ) (out : List Piece) → Stands qs cost xs false b out out (list_part qs cost xs b false) (b + list_blocks xs false)
at_first qs cost xs b out = record { numbers = refl; makes = λ ps. refl }

past_begun : (run : Bool) (b : ℕ) → block_past_run run b + begun_blocks run ≡ b + 1
past_begun true b = omega arith
past_begun false b = refl

simple_part : (qs : List Part) (cost : ℕ → ℕ) (x : Stmt) (rest : List Stmt) (b : ℕ) (run c : Bool) → is_simple x ≡ c → list_part qs cost (x ∷ rest) b run ≡ (if c then list_part qs cost rest b true else sequence (pending_block run (cost b)) (sequence (part qs cost x (block_past_run run b)) (list_part qs cost rest (block_past_run run b + blocks x false) false)))
simple_part qs cost x rest b run c is =
    ap (λ d. if d then list_part qs cost rest b true else sequence (pending_block run (cost b)) (sequence (part qs cost x (block_past_run run b)) (list_part qs cost rest (block_past_run run b + blocks x false) false))) is

pub simple_step : (qs : List Part) (cost : ℕ → ℕ) (xs rest : List Stmt) (x : Stmt) (run : Bool) (b : ℕ) (out first : List Piece) (p : Part) (end : ℕ) → xs ≡ x ∷ rest → is_simple x ≡ true → Stands qs cost xs run b out first p end → Stands qs cost rest true b out first p end
simple_step qs cost xs rest x run b out first p end is simple h =
    let numbers = ap (λ ys. block_past_run run b + list_blocks ys run) is in
    let one = simple_blocks x run simple in
    let tail = ap (λ c. list_blocks rest c) simple in
    let same = ap (λ ys. list_part qs cost ys b run) is ∙ simple_part qs cost x rest b run true simple in
    record {
      numbers = omega (arith, h.numbers, numbers, one, tail, past_begun run b);
      makes = λ ps. ap (λ q. stack_after qs out (q ∷ ps)) (sym same) ∙ h.makes ps;
    }

pub plain_step : (qs : List Part) (cost : ℕ → ℕ) (xs rest : List Stmt) (x : Stmt) (run : Bool) (b b1 b2 : ℕ) (out o1 o2 first : List Piece) (p : Part) (end : ℕ) → xs ≡ x ∷ rest → is_simple x ≡ false → b1 ≡ block_past_run run b → b2 ≡ b1 + blocks x false
    → ((rs : List Part) → Leads rs out o1 (pending_block run (cost b))) → Leads qs o1 o2 (part qs cost x b1)
    → Stands qs cost xs run b out first p end → Stands qs cost rest false b2 o2 first p end
plain_step qs cost xs rest x run b b1 b2 out o1 o2 first p end is plain one two h1 h2 h =
    let numbers = ap (λ ys. block_past_run run b + list_blocks ys run) is in
    let count = plain_blocks x run plain in
    let tail = ap (λ c. list_blocks rest c) plain in
    let same = ap (λ ys. list_part qs cost ys b run) is ∙ simple_part qs cost x rest b run false plain in
    let at : b2 ≡ block_past_run run b + blocks x false = two ∙ ap (λ n. n + blocks x false) one in
    let q = λ (n : ℕ). list_part qs cost rest n false in
    let y = λ (n : ℕ). part qs cost x n in
    record {
      numbers = omega (arith, h.numbers, numbers, count, tail, at);
      makes = λ ps. h2 (q b2) ps ∙ h1 qs (sequence (y b1) (q b2)) ps ∙ (λ i. stack_after qs out (sequence (pending_block run (cost b)) (sequence (y (one i)) (q (at i))) ∷ ps)) ∙ ap (λ z. stack_after qs out (z ∷ ps)) (sym same) ∙ h.makes ps;
    }

pub reread : (qs : List Part) (cost : ℕ → ℕ) (xs : List Stmt) (run run' : Bool) (b b' : ℕ) (out out' first : List Piece) (p : Part) (end : ℕ) → run ≡ run' → b ≡ b' → out ≡ out' → Stands qs cost xs run b out first p end → Stands qs cost xs run' b' out' first p end
reread qs cost xs run run' b b' out out' first p end r n o h =
    subst (λ c. Stands qs cost xs c b' out' first p end) r (subst (λ m. Stands qs cost xs run m out' first p end) n (subst (λ z. Stands qs cost xs run b z first p end) o h))

-- nothing before and behind
pub alone : (p : Part) → sequence Nothing (sequence p Nothing) ≡ p
alone Nothing = refl
alone (Block c l) = refl
alone (Then p q) = refl
alone (Choice c p q) = refl
alone (While c m s p) = refl
alone (Do c m p) = refl
alone (Body p) = refl

-- ---- calls

pub some_at : {A : Type 0} (xs : List A) (g : ℕ) → g < length xs → slice_get xs g ≡ None → ⊥
some_at [] g lt h = omega (arith, lt)
some_at (x ∷ xs) zero lt h = absurd (cc)
some_at (x ∷ xs) (suc g) lt h = some_at xs g (omega (arith, lt)) h

pub parts_length : (t : Costs) (qs : List Part) (fs : List Func) → length (function_parts t qs fs) ≡ length qs + length fs
parts_length t qs [] = omega arith
parts_length t qs (f ∷ fs) =
    omega (arith, parts_length t (qs ++ func_part t (length qs) f qs ∷ []) fs, length-append qs (func_part t (length qs) f qs ∷ []))

pub call_some : (o : Option Part) (c : ℕ) → (o ≡ None → ⊥) → Then (Block c ByEnd) (Then (Body (unwrap_or o Nothing)) (Block 0 ByEnd)) ≡ call_part o c
call_some None c h = absurd (h refl)
call_some (Some q) c h = refl

pub call_none : (o : Option Part) (c : ℕ) → o ≡ None → Then (Block c ByEnd) (Block 0 ByEnd) ≡ call_part o c
call_none o c h = ap (λ p. call_part p c) (sym h)

-- ---- `for`

pub for_is : (qs : List Part) (cost : ℕ → ℕ) (st : Stmt) (l : ℕ) (a k : Option Stmt) (e : Expr) (xs ys : List Stmt) (at test after inner n w spare : ℕ) (each : Option ℕ) → st ≡ For l a e k xs → ys ≡ xs → test ≡ at + list_blocks (held_stmts a) false → after ≡ test + 1 → inner ≡ after + n → n ≡ list_blocks (held_stmts k) false → w ≡ cost test → spare ≡ l - 1 → each ≡ step_part k (cost after)
    → sequence (list_part qs cost (held_stmts a) at false) (While w spare each (list_part qs cost ys inner false)) ≡ part qs cost st at
for_is qs cost st l a k e xs ys at test after inner n w spare each is same t f i m wc sl es =
    let f' = f ∙ ap (λ z. z + 1) t in
    let i' = i ∙ (λ j. f' j + m j) in
    (λ j. sequence (list_part qs cost (held_stmts a) at false) (While ((wc ∙ ap cost t) j) (sl j) ((es ∙ ap (λ z. step_part k (cost z)) f') j) (list_part qs cost (same j) (i' j) false))) ∙ sym (ap (λ s. part qs cost s at) is ∙ part-For qs cost l a k e xs at)

-- at the end of the list
pub at_last : (qs : List Part) (cost : ℕ → ℕ) (xs : List Stmt) (i : ℕ) (run : Bool) (b : ℕ) (out first : List Piece) (p : Part) (end : ℕ) → length xs ≤ i → Stands qs cost (drop i xs) run b out first p end
    → (block_past_run run b ≡ end) × ((ps : List Part) → stack_after qs out (pending_block run (cost b) ∷ ps) ≡ stack_after qs first (p ∷ ps))
at_last qs cost xs i run b out first p end le h =
    let none : drop i xs ≡ [] = drop_all i xs le in
    (omega (arith, h.numbers, ap (λ ys. list_blocks ys run) none), λ ps. ap (λ ys. stack_after qs out (list_part qs cost ys b run ∷ ps)) (sym none) ∙ h.makes ps)

-- ---- statements without a node

record VoidList (xs : List Stmt) : Type 0 where
  no_block : list_blocks xs false ≡ 0
  no_node : (qs : List Part) (cost : ℕ → ℕ) (b : ℕ) → list_part qs cost xs b false ≡ Nothing

void_list : (xs : List Stmt) → All IsVoid xs → VoidList xs
void_list [] h = record { no_block = refl; no_node = λ qs cost b. refl }
void_list (x ∷ xs) h =
    let v = All-head IsVoid x xs h in
    let rest = void_list xs (All-tail IsVoid x xs h) in
    let tail = ap (λ c. list_blocks xs c) v.compound in
    record {
      no_block = omega (arith, v.no_block, rest.no_block, tail);
      no_node = λ qs cost b. simple_part qs cost x xs b false false v.compound ∙ (λ i. sequence Nothing (sequence (v.no_node qs cost b i) (rest.no_node qs cost (b + blocks x false) i)));
    }

group_simple : (xs : List Stmt) → is_simple (Group xs) ≡ false
group_simple xs = refl

pub void_group : (s : Stmt) (xs ys : List Stmt) (i : ℕ) → s ≡ Group xs → ys ≡ xs → length ys ≤ i → All IsVoid (take i ys) → IsVoid s
void_group s xs ys i is same le h =
    let v = void_list xs (subst (All IsVoid) (take_all i ys le ∙ same) h) in
    subst IsVoid (sym is) (record {
      compound = group_simple xs;
      no_block = blocks-Group xs false ∙ v.no_block;
      no_node = λ qs cost b. part-Group qs cost xs b ∙ v.no_node qs cost b;
    })
