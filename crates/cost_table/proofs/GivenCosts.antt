-- Where a table has no fault, each block has a cost.
use Rattle.std.proofs.Common.{◌≡◌, ℕ, Bool, true, false, ◌||◌, List, [], ◌∷◌, Option, Some, None, option_map, refl, sym, ap, ◌∙◌}
use Rattle.std.specs.Prelude.{IsSome, is_some}
use Rattle.std.specs.List.{list_any}
use Rattle.std.specs.Str.{bytes_eq}
use Rattle.std.proofs.lemmas.Slice.Eq.{bytes_eq-Decides}
use Rattle.toml.specs.Data.{Members}
use Rattle.c_tree.specs.declared.program.Func.{Func}
use Rattle.cost_document.specs.Documents.{written_cost}
use Rattle.cost_table.specs.declared.fault.CostFault.{CostFault}
use Rattle.cost_table.specs.declared.fault.CostFault.TheVariants.{Missing}
use Rattle.cost_table.specs.Tables.{names, names_block, version_fault, key_fault, block_fault, number_fault, missing_fault, first_missing, first_fault, table_fault}
use Rattle.cost_table.proofs.BlockCosts.{given_nothing, given_cost}

none_first : (o : Option CostFault) (rest : List (Option CostFault)) → first_fault (o ∷ rest) ≡ None → (o ≡ None) × (first_fault rest ≡ None)
none_first None rest none = (refl, none)
none_first (Some e) rest none = absurd (cc)

none_missing : (o : Option (List ℕ)) → option_map Missing o ≡ None → o ≡ None
none_missing None none = refl
none_missing (Some name) none = absurd (cc)

some_none : {A : Type 0} (a : A) → Some a ≡ None → ⊥
some_none a e = cc

-- one name of the list, which is the block's or another
one_name : (ms : Members) (name n : List ℕ) (ns : List (List ℕ)) → number_fault ms ≡ None → first_missing ms (n ∷ ns) ≡ None
    → (first_missing ms ns ≡ None → list_any (bytes_eq name) ns ≡ true → IsSome (written_cost ms name))
    → (o : Option ℕ) → written_cost ms n ≡ o → (same : Bool) → bytes_eq name n ≡ same → (same || list_any (bytes_eq name) ns) ≡ true → IsSome (written_cost ms name)
one_name ms name n ns whole none more None is same equal there =
    absurd (some_none n (sym (given_nothing ms n ns whole is) ∙ none))
one_name ms name n ns whole none more (Some cost) is true equal there =
    ap is_some (ap (written_cost ms) ((bytes_eq-Decides name n).0 equal) ∙ is)
one_name ms name n ns whole none more (Some cost) is false equal there = more (sym (given_cost ms n ns cost is) ∙ none) there

each_name : (ms : Members) (name : List ℕ) (ns : List (List ℕ)) → number_fault ms ≡ None → first_missing ms ns ≡ None → list_any (bytes_eq name) ns ≡ true → IsSome (written_cost ms name)
each_name ms name [] whole none there = absurd (cc)
each_name ms name (n ∷ ns) whole none there =
    one_name ms name n ns whole none (each_name ms name ns whole) (written_cost ms n) refl (bytes_eq name n) refl there

pub costs_are_given : (fs : List Func) (ms : Members) (name : List ℕ) → table_fault fs ms ≡ None → names_block fs name ≡ true → IsSome (written_cost ms name)
costs_are_given fs ms name none there =
    let last = missing_fault fs ms ∷ [] in
    let numbers = number_fault ms ∷ last in
    let blocks = block_fault fs ms ∷ numbers in
    let behind_version = none_first (version_fault ms) (key_fault ms ∷ blocks) none in
    let behind_key = none_first (key_fault ms) blocks behind_version.1 in
    let behind_block = none_first (block_fault fs ms) numbers behind_key.1 in
    let number = none_first (number_fault ms) last behind_block.1 in
    let missing = none_first (missing_fault fs ms) [] number.1 in
    each_name ms name (names fs) number.0 (none_missing (first_missing ms (names fs)) missing.0) there
