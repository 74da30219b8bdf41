-- Each function's copy does what the function does.
use Rattle.std.proofs.Common.{◌≡◌, ℕ, zero, suc, ◌+◌, Bool, false, if◌then◌else◌, List, [], ◌∷◌, ◌++◌, length, Option, Some, None, refl, sym, ap, ◌∙◌, subst}
use Rattle.std.specs.Prelude.{slice_get, unwrap_or}
use Rattle.c_tree.specs.declared.tree.Ty.{Ty}
use Rattle.c_tree.specs.declared.program.BlockName.{BlockName}
use Rattle.c_tree.specs.declared.program.Func.{Func}
use Rattle.c_tree.specs.declared.tree.Stmt.{Stmt}
use Rattle.c_tree.specs.declared.tree.Stmt.TheBlock.{shape-the_row-Stmt-0, hidden-the_row-Stmt-0}
use denote.Hole.Carrier.{hidden}
use Rattle.c_tree.specs.declared.value.Slot.{Slot}
use Rattle.c_tree.specs.declared.value.Store.{Store}
use Rattle.c_tree.specs.declared.value.Way.TheVariants as way
use Rattle.c_tree.specs.Meaning.Blocks.{is_simple, blocks}
use Rattle.c_tree.specs.Meaning.Statements.{Callee, Outcome, Ends, Undefined, OverBound, block, row_exec, list_exec}
use Rattle.c_tree.specs.Meaning.Runs.{entry_slots, result_of, back, callee, callees}
use Rattle.flow_laws.specs.Sites.{Position, list_size, list_flow, Copy, Site, Targets, flow, flush, head, list_flow, list_size, number_past, row_flow, row_size, site_count, with_next}
use Rattle.flow_laws.specs.Graphs.{all_to, copy_of, copies}
use Rattle.flow_laws.specs.Driving.{memory}
use Rattle.flow_laws.proofs.Driving.DrivingSteps.{Counters, State, at}
use Rattle.flow_laws.proofs.Caps.DoBoundsPositive.{IsFair, AreFair, AllFair, FuncsFair}
use Rattle.flow_laws.proofs.Caps.RunVisits.{Onces, once, row_once, list_once}
use Rattle.flow_laws.proofs.Runs.RunClaims.{Leads, HasAt}
use Rattle.flow_laws.proofs.Graphs.PartSizes.{HaveSizes, row_length}
use Rattle.flow_laws.proofs.Runs.StatementLists.{Claim}
use Rattle.flow_laws.proofs.Runs.RunsDriven.{BackLeads, IsCopy, Agree, have_sizes, row_leads}
use Rattle.c_tree.proofs.Layers.ExecLayers.{row_does}

pub row_sizes : (cs : List Copy) (xs : List Stmt) (run : Bool) → row_size cs (hidden-the_row-Stmt-0 xs) run ≡ list_size cs xs run
unfolding site_count row_size shape-the_row-Stmt-0 hidden-the_row-Stmt-0 hidden
row_sizes cs [] run = refl
row_sizes cs (x ∷ xs) run = ap (λ n. site_count cs x run + n) (row_sizes cs xs (is_simple x))

pub row_flows : (cs : List Copy) (w : Position) (xs : List Stmt) (b n : ℕ) (ss : List Stmt) (k : Targets) → row_flow cs w (hidden-the_row-Stmt-0 xs) b n ss k ≡ list_flow cs w xs b n ss k
unfolding flow row_flow shape-the_row-Stmt-0 hidden-the_row-Stmt-0 hidden
row_flows cs w [] b n ss k = refl
row_flows cs w (x ∷ xs) b n ss k =
    let n1 = number_past ss n in
    let n2 = n1 + site_count cs x false in
    let z = row_sizes cs xs false in
    let one = row_flows cs w xs b n (ss ++ x ∷ []) k in
    let two = row_flows cs w xs (number_past ss b + blocks x false) n2 [] k in
    λ i. (let after = head (z i) n2 k.next in if is_simple x then one i else flush w ss (block w.func b) (head (site_count cs x false) n1 after) ++ (flow cs w x (number_past ss b) n1 (with_next k after) ++ two i))

pub row_onces : (os : Onces) (cs : List Copy) (xs : List Stmt) (run : Bool) (x n : ℕ) → row_once os cs (hidden-the_row-Stmt-0 xs) run x n ≡ list_once os cs xs run x n
unfolding once row_once shape-the_row-Stmt-0 hidden-the_row-Stmt-0 hidden
row_onces os cs [] run x n = refl
row_onces os cs (y ∷ xs) run x n =
    ap (λ d. once os cs y run x n + d) (row_onces os cs xs (is_simple y) x (n + site_count cs y run))

pub row_fair : (xs : List Stmt) → AllFair xs → AreFair (hidden-the_row-Stmt-0 xs)
unfolding IsFair AreFair shape-the_row-Stmt-0 hidden-the_row-Stmt-0 hidden
row_fair [] h = tt
row_fair (x ∷ xs) h = (h.0, row_fair xs h.1)

list_leads : (g : List Site) (w : Position) (fs : List Copy) (cs : List Callee) (os : Onces) → Agree g fs cs os → (x : ℕ) (xs : List Stmt) (n : ℕ) (k : Targets) (s : Store) (fr : List (List Slot)) (left : Counters) → AllFair xs → HasAt g n (list_flow fs w xs 0 n [] k) → Claim g x (list_once os fs xs false x n) n (list_size fs xs false) k s fr left (list_exec cs w.func xs 0 false s)
list_leads g w fs cs os agree x xs n k s fr left fair has =
    let r = hidden-the_row-Stmt-0 xs in
    let d = row_once os fs r false x n in
    subst (λ d. Claim g x d n (list_size fs xs false) k s fr left (list_exec cs w.func xs 0 false s)) (row_onces os fs xs false x n) (subst (λ o. Claim g x d n (list_size fs xs false) k s fr left o) (row_does cs w.func xs 0 false s) (subst (λ z. Claim g x d n z k s fr left (row_exec cs w.func r 0 false s)) (row_sizes fs xs false) (row_leads g fs cs os agree x w r 0 n [] k s s fr left refl (row_fair xs fair) (subst (λ p. HasAt g n p) (sym (row_flows fs w xs 0 n [] k)) has))))

pub list_length : (fs : List Copy) (w : Position) (xs : List Stmt) (n : ℕ) (k : Targets) → HaveSizes fs → length (list_flow fs w xs 0 n [] k) ≡ list_size fs xs false
list_length fs w xs n k h =
    ap length (sym (row_flows fs w xs 0 n [] k)) ∙ row_length fs w (hidden-the_row-Stmt-0 xs) 0 n [] k h ∙ row_sizes fs xs false

none_is : (ty : Option Ty) → None ≡ result_of ty None
none_is None = refl
none_is (Some t) = refl

back_is : (g : List Site) (x d lo hi n : ℕ) (a : State) (fs : List (List Slot)) (ty : Option Ty) (o : Outcome) → Leads g x d lo hi (all_to n) a fs o → BackLeads g x d lo hi n a fs ty (back ty o)
back_is g x d lo hi n a fs ty (Ends t s way.Next) h =
    record { locals = s.locals; value = None; reaches = h; result_is = none_is ty }
back_is g x d lo hi n a fs ty (Ends t s way.Break) h =
    record { locals = s.locals; value = None; reaches = h; result_is = none_is ty }
back_is g x d lo hi n a fs ty (Ends t s way.Continue) h =
    record { locals = s.locals; value = None; reaches = h; result_is = none_is ty }
back_is g x d lo hi n a fs ty (Ends t s (way.Return v)) h =
    record { locals = s.locals; value = v; reaches = h; result_is = refl }
back_is g x d lo hi n a fs ty Undefined h = h
back_is g x d lo hi n a fs ty OverBound h = h

-- how often a function's copy can leave a node
abbrev pub copy_once : Onces → List Copy → Func → ℕ → ℕ → ℕ
copy_once os fs f x n = list_once os fs f.body false x n

abbrev placed : ℕ → List BlockName → ℕ → Position
placed k chain scale = record { func = k; chain = chain; scale = scale }

copy_is : (g : List Site) (k : ℕ) (f : Func) (fs : List Copy) (cs : List Callee) (os : Onces) → Agree g fs cs os → AllFair f.body → IsCopy g (copy_of k f fs) (callee k f cs) (copy_once os fs f)
copy_is g k f fs cs os agree fair = record {
  size_is = λ h s n l. list_length fs (placed k h s) f.body n (all_to l) (have_sizes g fs cs os agree);
  leads = λ h sc x n landing has vs gs fr left fresh. let w = placed k h sc in let st : Store = record { locals = entry_slots f.locals vs; globals = gs } in back_is g x (copy_once os fs f x n) n (n + list_size fs f.body false) landing (at (head (list_size fs f.body false) n landing) (memory st fr None) left) fr f.result (list_exec cs k f.body 0 false st) (list_leads g w fs cs os agree x f.body n (all_to landing) st fr left fair has fresh);
}

-- ---- all functions

abbrev AllAgree : List Site → List Copy → List Callee → List (ℕ → ℕ → ℕ) → Type 0
AllAgree g [] [] [] = Unit {0}
AllAgree g (c ∷ fs) (y ∷ cs) (m ∷ ms) = IsCopy g c y m × AllAgree g fs cs ms
AllAgree g _ _ _ = ⊥

abbrev pub once_at : List (ℕ → ℕ → ℕ) → Onces
once_at ms i = unwrap_or (slice_get ms i) (λ x n. 0)

agree_at : (g : List Site) (fs : List Copy) (cs : List Callee) (ms : List (ℕ → ℕ → ℕ)) → AllAgree g fs cs ms → Agree g fs cs (once_at ms)
agree_at g [] [] [] h i = tt
agree_at g (c ∷ fs) (y ∷ cs) (m ∷ ms) h zero = h.0
agree_at g (c ∷ fs) (y ∷ cs) (m ∷ ms) h (suc i) = agree_at g fs cs ms h.1 i
agree_at g [] [] (m ∷ ms) h i = absurd h
agree_at g [] (y ∷ cs) ms h i = absurd h
agree_at g (c ∷ fs) [] ms h i = absurd h
agree_at g (c ∷ fs) (y ∷ cs) [] h i = absurd h

agree_more : (g : List Site) (fs : List Copy) (cs : List Callee) (ms : List (ℕ → ℕ → ℕ)) (c : Copy) (y : Callee) (m : ℕ → ℕ → ℕ) → AllAgree g fs cs ms → IsCopy g c y m → AllAgree g (fs ++ c ∷ []) (cs ++ y ∷ []) (ms ++ m ∷ [])
agree_more g [] [] [] c y m h is = (is, tt)
agree_more g (d ∷ fs) (z ∷ cs) (o ∷ ms) c y m h is = (h.0, agree_more g fs cs ms c y m h.1 is)
agree_more g [] [] (o ∷ ms) c y m h is = absurd h
agree_more g [] (z ∷ cs) ms c y m h is = absurd h
agree_more g (d ∷ fs) [] ms c y m h is = absurd h
agree_more g (d ∷ fs) (z ∷ cs) [] c y m h is = absurd h

agree_length : (g : List Site) (fs : List Copy) (cs : List Callee) (ms : List (ℕ → ℕ → ℕ)) → AllAgree g fs cs ms → length cs ≡ length fs
agree_length g [] [] [] h = refl
agree_length g (d ∷ fs) (z ∷ cs) (o ∷ ms) h = ap suc (agree_length g fs cs ms h.1)
agree_length g [] [] (o ∷ ms) h = absurd h
agree_length g [] (z ∷ cs) ms h = absurd h
agree_length g (d ∷ fs) [] ms h = absurd h
agree_length g (d ∷ fs) (z ∷ cs) [] h = absurd h

-- of each function, over those above it
abbrev pub all_once : List (ℕ → ℕ → ℕ) → List Copy → List Func → List (ℕ → ℕ → ℕ)
all_once ms fs [] = ms
all_once ms fs (f ∷ funcs) =
    all_once (ms ++ copy_once (once_at ms) fs f ∷ []) (fs ++ copy_of (length fs) f fs ∷ []) funcs

all_copies : (g : List Site) (funcs : List Func) (fs : List Copy) (cs : List Callee) (ms : List (ℕ → ℕ → ℕ)) → AllAgree g fs cs ms → FuncsFair funcs → AllAgree g (copies fs funcs) (callees cs funcs) (all_once ms fs funcs)
all_copies g [] fs cs ms h fair = h
all_copies g (f ∷ funcs) fs cs ms h fair =
    let os = once_at ms in
    let c = copy_of (length fs) f fs in
    let y = callee (length cs) f cs in
    let m = copy_once os fs f in
    let is = copy_is g (length fs) f fs cs os (agree_at g fs cs ms h) fair.0 in
    let len = sym (agree_length g fs cs ms h) in
    all_copies g funcs (fs ++ c ∷ []) (cs ++ y ∷ []) (ms ++ m ∷ []) (agree_more g fs cs ms c y m h (subst (λ k. IsCopy g c (callee k f cs) m) len is)) fair.1

-- the same of a program's functions
abbrev pub onces : List Func → Onces
onces funcs = once_at (all_once [] [] funcs)

pub copies_agree : (g : List Site) (funcs : List Func) → FuncsFair funcs → Agree g (copies [] funcs) (callees [] funcs) (onces funcs)
copies_agree g funcs fair =
    agree_at g (copies [] funcs) (callees [] funcs) (all_once [] [] funcs) (all_copies g funcs [] [] [] tt fair)
