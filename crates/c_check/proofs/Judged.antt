-- What is heard of a unit's uses, its entry, its inputs and its spans is all that stands.
use Rattle.std.proofs.Common.{◌≡◌, ℕ, List, [], ◌++◌, map, Option, Some, None, sym, ap, ◌∙◌}
use Rattle.std.specs.List.{flat_map}
use Rattle.c_tree.specs.declared.program.Func.{Func}
use Rattle.c_tree.specs.Keeping.Programs.{Program}
use Rattle.c_tree.specs.declared.unit.Unit.{Unit as Tree}
use Rattle.c_tree.specs.Checking.Naming.{program_of}
use Rattle.c_tree.specs.Checking.Uses.{uses}
use Rattle.c_tree.specs.Meaning.Spans.{spans}
use Rattle.c_tree.specs.Checking.Refusals.{PlacedFault, faults, faults_of, no_entry_faults, input_faults, wide_func_faults, span_faults, IsRefused, Typed}
use Rattle.c_faults.specs.Verdicts.{after_all, after_uses}
use Rattle.c_spans.specs.Capped.{capped_span}
use Rattle.c_faults.proofs.FirstFault.{after_all-append, after_uses-all, no_fault_found, first_fault_found, first_of_all}
use Rattle.c_spans.proofs.WideSpans.{wide_func_faults-capped}

all_heard : (us es is ws : List PlacedFault) → after_all (after_all (after_all (after_all None us) es) is) ws ≡ after_all None (us ++ (es ++ (is ++ ws)))
all_heard us es is ws =
    sym (after_all-append (after_all (after_all None us) es) is ws)
    ∙ sym (after_all-append (after_all None us) es (is ++ ws))
    ∙ sym (after_all-append None us (es ++ (is ++ ws)))

pub judged_first : (u : Tree) (entry : List ℕ) (f g h k : Option PlacedFault) (ss : List ℕ) (fs : List Func)
    → f ≡ after_uses None (uses u) → g ≡ after_all f (no_entry_faults u entry) → h ≡ after_all g (input_faults u entry) → k ≡ after_all h (wide_func_faults ss u.tops)
    → ss ≡ map capped_span (spans [] fs) → fs ≡ (program_of u entry).funcs → k ≡ after_all None (faults u entry)
unfolding faults
judged_first u entry f g h k ss fs one two three four over funcs =
    let ws = over ∙ ap (λ hs. map capped_span (spans [] hs)) funcs in
    let w = ap (λ l. wide_func_faults l u.tops) ws ∙ wide_func_faults-capped (spans [] (program_of u entry).funcs) u.tops in
    let a = one ∙ after_uses-all None (uses u) in
    let b = two ∙ ap (λ o. after_all o (no_entry_faults u entry)) a in
    let c = three ∙ ap (λ o. after_all o (input_faults u entry)) b in
    four ∙ (λ i. after_all (c i) (w i)) ∙ all_heard (flat_map faults_of (uses u)) (no_entry_faults u entry) (input_faults u entry) (span_faults u entry)

pub is_refused : (u : Tree) (entry : List ℕ) (f : Option PlacedFault) (r : PlacedFault) → f ≡ after_all None (faults u entry) → f ≡ Some r → IsRefused u entry r
is_refused u entry f r heard some = record {
  stands = first_fault_found (faults u entry) r (sym heard ∙ some);
  first = first_of_all (faults u entry) r (sym heard ∙ some);
}

pub is_typed : (u : Tree) (entry : List ℕ) (f : Option PlacedFault) (p : Program) → f ≡ after_all None (faults u entry) → f ≡ None → p ≡ program_of u entry → Typed u entry p
is_typed u entry f p heard none named = record { sound = no_fault_found (faults u entry) (sym heard ∙ none); named = named }
