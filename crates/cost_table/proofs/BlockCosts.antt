-- The costs of blocks, name by name and function by function.
use Rattle.std.proofs.Common.{◌≡◌, ℕ, ◌+◌, ◌-◌, ◌<◌, drop, get_or, suc, append_assoc, add-one, Bool, true, false, List, [], ◌∷◌, ◌++◌, map, replicate, length, Option, Some, None, Ok, option_map, if◌then◌else◌, refl, sym, ap, subst, ◌∙◌}
use Rattle.std.proofs.Math.Seq.{drop-cons}
use Rattle.std.specs.Prelude.{is_some, is_none, option_and_then, unwrap_or}
use Rattle.std.specs.Option.{option_or}
use Rattle.std.specs.List.{range_with_len}
use Rattle.std.proofs.lemmas.List.{length-map, length-replicate}
use Rattle.std.proofs.lemmas.List.FromFn.{length-map-range_with_len}
use Rattle.toml.specs.Data.{Data, Members, get_member}
use Rattle.c_tree.specs.declared.program.Func.{Func}
use Rattle.c_tree.specs.declared.program.Costs.{Costs}
use Rattle.c_tree.specs.Meaning.Blocks.{list_blocks}
use Rattle.c_tree.specs.Meaning.Claims.{AreRowsOf}
use Rattle.cost_table.specs.declared.fault.CostFault.{CostFault}
use Rattle.cost_table.specs.declared.fault.CostFault.TheVariants.{Number, Missing}
use Rattle.cost_document.specs.Documents.{default, entries, cost_in, written_cost}
use Rattle.cost_table.specs.Tables.{block_name, names_of, names, first_without, first_missing, number_fault, table_cost, costs_of, table_fault, table_result}
use Rattle.cost_table.proofs.Entries.{none_fails}
use Rattle.std.proofs.iter.Rest.{range_with_len_first}

-- ---- a number for each block

pub are_plain : (fs : List Func) → AreRowsOf fs (map (λ (f : Func). replicate (list_blocks f.body false) 1) fs)
are_plain [] = tt
are_plain (f ∷ fs) = (length-replicate (list_blocks f.body false) 1, are_plain fs)

pub are_costs : (ms : Members) (fs : List Func) → AreRowsOf fs (map (λ (f : Func). map (table_cost ms) (names_of f)) fs)
are_costs ms [] = tt
are_costs ms (f ∷ fs) =
    (length-map (names_of f) (table_cost ms) ∙ length-map-range_with_len (block_name f.name) 0 (list_blocks f.body false), are_costs ms fs)

judged_costs : (fault : Option CostFault) (t u : Costs) → table_result fault t ≡ Ok u → t ≡ u
judged_costs None t u is = cc
judged_costs (Some fault) t u is = absurd (cc)

pub verdict_costs : (ms : Members) (fs : List Func) (t : Costs) → table_result (table_fault fs ms) (costs_of fs ms) ≡ Ok t → AreRowsOf fs t.by_func
verdict_costs ms fs t is = subst (λ (u : Costs). AreRowsOf fs u.by_func) (judged_costs (table_fault fs ms) (costs_of fs ms) t is) (are_costs ms fs)

-- ---- one block

no_fault : {A C : Type 0} (bad : Bool) (a : C) (f : A → C) (found : Option A) → (if bad then Some a else option_map f found) ≡ None → (bad ≡ false) × (found ≡ None)
no_fault true a f found none = absurd (cc)
no_fault false a f None none = (refl, refl)
no_fault false a f (Some x) none = absurd (cc)

no_default : (d : Option Data) → unwrap_or (option_map (λ e. is_none (cost_in e)) d) false ≡ false → option_and_then cost_in d ≡ None → d ≡ None
no_default None good none = refl
no_default (Some e) good none = absurd (cc)

neither : (entry d : Option Data) → unwrap_or (option_map (λ e. is_none (cost_in e)) d) false ≡ false → ((e : Data) → entry ≡ Some e → is_none (cost_in e) ≡ false)
    → option_and_then cost_in (option_or entry d) ≡ None → (d ≡ None) × (entry ≡ None)
neither None d good each none = (no_default d good none, refl)
neither (Some e) d good each none = absurd (cc (each e refl))

-- where no number is at fault, a block without a cost has no entry, and there is no default
pub given_nothing : (ms : Members) (name : List ℕ) (rest : List (List ℕ)) → number_fault ms ≡ None → written_cost ms name ≡ None → first_missing ms (name ∷ rest) ≡ Some name
given_nothing ms name rest whole none =
    let good = no_fault _ _ Number _ whole in
    let both = neither (get_member name (entries ms)) (default ms) good.0 (λ e is. none_fails (λ key d. is_none (cost_in d)) (entries ms) name e good.1 is) none in
    rw (both.0, both.1)

skipped : (entry d : Option Data) (name : List ℕ) (rest : Option (List ℕ)) (cost : ℕ) → option_and_then cost_in (option_or entry d) ≡ Some cost
    → (if is_some d then None else (if is_some entry then rest else Some name)) ≡ (if is_some d then None else rest)
skipped (Some e) d name rest cost is = refl
skipped None (Some e) name rest cost is = refl
skipped None None name rest cost is = absurd (cc)

-- a block with a cost is not missing
pub given_cost : (ms : Members) (name : List ℕ) (rest : List (List ℕ)) (cost : ℕ) → written_cost ms name ≡ Some cost → first_missing ms (name ∷ rest) ≡ first_missing ms rest
given_cost ms name rest cost is = skipped (get_member name (entries ms)) (default ms) name (first_without (entries ms) rest) cost is

-- the names from one number on
abbrev pub names_from : Func → ℕ → ℕ → List (List ℕ)
names_from f i count = map (block_name f.name) (range_with_len i (count - i))

names_left : (f : Func) (i count : ℕ) → i < count → names_from f i count ≡ block_name f.name i ∷ names_from f (i + 1) count
names_left f i count below = ap (map (block_name f.name)) (range_with_len_first i count below)

pub block_missing : (ms : Members) (f : Func) (i count : ℕ) (name : List ℕ) → i < count → name ≡ block_name f.name i → number_fault ms ≡ None → written_cost ms name ≡ None
    → first_missing ms (names_from f i count) ≡ first_missing ms (names_of f) → option_map Missing (first_missing ms (names_of f)) ≡ Some (Missing name)
block_missing ms f i count name below is whole none left =
    let here = given_nothing ms (block_name f.name i) (names_from f (i + 1) count) whole (ap (written_cost ms) (sym is) ∙ none) in
    ap (option_map Missing) (sym left ∙ ap (first_missing ms) (names_left f i count below) ∙ here ∙ ap Some (sym is))

pub block_not_missing : (ms : Members) (f : Func) (i count cost : ℕ) (name : List ℕ) → i < count → name ≡ block_name f.name i → written_cost ms name ≡ Some cost
    → first_missing ms (names_from f i count) ≡ first_missing ms (names_of f) → first_missing ms (names_from f (i + 1) count) ≡ first_missing ms (names_of f)
block_not_missing ms f i count cost name below is there left =
    let here = given_cost ms (block_name f.name i) (names_from f (i + 1) count) cost (ap (written_cost ms) (sym is) ∙ there) in
    sym here ∙ ap (first_missing ms) (sym (names_left f i count below)) ∙ left

pub block_costs : (ms : Members) (f : Func) (i count cost : ℕ) (name row more all : List ℕ) → i < count → name ≡ block_name f.name i → written_cost ms name ≡ Some cost
    → more ≡ row ++ cost ∷ [] → row ++ map (table_cost ms) (names_from f i count) ≡ all → more ++ map (table_cost ms) (names_from f (i + 1) count) ≡ all
block_costs ms f i count cost name row more all below is there pushed left =
    let here : cost ≡ table_cost ms (block_name f.name i) = ap (λ o. unwrap_or o 0) (sym there ∙ ap (written_cost ms) is) in
    let rest = map (table_cost ms) (names_from f (i + 1) count) in
    let split : cost ∷ rest ≡ map (table_cost ms) (names_from f i count) = ap (λ n. n ∷ rest) here ∙ ap (map (table_cost ms)) (sym (names_left f i count below)) in
    ap (λ ns. ns ++ rest) pushed ∙ append_assoc row (cost ∷ []) rest ∙ ap (λ ns. row ++ ns) split ∙ left

-- ---- one function

without_more : (es : Members) (ns rest : List (List ℕ)) → first_without es (ns ++ rest) ≡ option_or (first_without es ns) (first_without es rest)
without_more es [] rest = refl
without_more es (name ∷ ns) rest = by (is_some (get_member name es)) (without_more es ns rest)
  where
    by : (there : Bool) → first_without es (ns ++ rest) ≡ option_or (first_without es ns) (first_without es rest)
        → (if there then first_without es (ns ++ rest) else Some name) ≡ option_or (if there then first_without es ns else Some name) (first_without es rest)
    by true more = more
    by false more = refl

missing_more : (ms : Members) (ns rest : List (List ℕ)) → first_missing ms (ns ++ rest) ≡ option_or (first_missing ms ns) (first_missing ms rest)
missing_more ms ns rest = by (is_some (default ms))
  where
    by : (there : Bool) → (if there then None else first_without (entries ms) (ns ++ rest)) ≡ option_or (if there then None else first_without (entries ms) ns) (if there then None else first_without (entries ms) rest)
    by true = refl
    by false = without_more (entries ms) ns rest

or_first : {A B : Type 0} (f : A → B) (o p : Option A) (b : B) → option_map f o ≡ Some b → option_map f (option_or o p) ≡ Some b
or_first f None p b is = absurd (cc)
or_first f (Some a) p b is = is

func_left : (fs : List Func) (i : ℕ) (f : Func) → i < length fs → f ≡ get_or fs i f → drop i fs ≡ f ∷ drop (i + 1) fs
func_left fs i f below is = rw (add-one, drop-cons fs i f below) (ap (λ (g : Func). g ∷ drop (suc i) fs) (sym is))

pub func_missing : (ms : Members) (fs : List Func) (i : ℕ) (f : Func) (e : CostFault) → i < length fs → f ≡ get_or fs i f → option_map Missing (first_missing ms (names_of f)) ≡ Some e
    → first_missing ms (names (drop i fs)) ≡ first_missing ms (names fs) → option_map Missing (first_missing ms (names fs)) ≡ Some e
func_missing ms fs i f e below is missing left =
    let split = ap (λ gs. first_missing ms (names gs)) (func_left fs i f below is) ∙ missing_more ms (names_of f) (names (drop (i + 1) fs)) in
    ap (option_map Missing) (sym left ∙ split) ∙ or_first Missing (first_missing ms (names_of f)) (first_missing ms (names (drop (i + 1) fs))) e missing

pub func_not_missing : (ms : Members) (fs : List Func) (i : ℕ) (f : Func) → i < length fs → f ≡ get_or fs i f → first_missing ms (names_of f) ≡ None
    → first_missing ms (names (drop i fs)) ≡ first_missing ms (names fs) → first_missing ms (names (drop (i + 1) fs)) ≡ first_missing ms (names fs)
func_not_missing ms fs i f below is whole left =
    let rest = first_missing ms (names (drop (i + 1) fs)) in
    let split = ap (λ gs. first_missing ms (names gs)) (func_left fs i f below is) ∙ missing_more ms (names_of f) (names (drop (i + 1) fs)) in
    sym (ap (λ o. option_or o rest) whole) ∙ sym split ∙ left

pub func_costs : (ms : Members) (fs : List Func) (i : ℕ) (f : Func) (row : List ℕ) (rows more all : List (List ℕ)) → i < length fs → f ≡ get_or fs i f
    → row ≡ map (table_cost ms) (names_of f) → more ≡ rows ++ row ∷ []
    → rows ++ map (λ (g : Func). map (table_cost ms) (names_of g)) (drop i fs) ≡ all → more ++ map (λ (g : Func). map (table_cost ms) (names_of g)) (drop (i + 1) fs) ≡ all
func_costs ms fs i f row rows more all below is same pushed left =
    let costs = λ (g : Func). map (table_cost ms) (names_of g) in
    let rest = map costs (drop (i + 1) fs) in
    let split : row ∷ rest ≡ map costs (drop i fs) = ap (λ r. r ∷ rest) same ∙ ap (map costs) (sym (func_left fs i f below is)) in
    ap (λ rs. rs ++ rest) pushed ∙ append_assoc rows (row ∷ []) rest ∙ ap (λ rs. rows ++ rs) split ∙ left
