-- A program that is typed from a shaped unit is well-formed.
use Rattle.std.proofs.Common.{◌≡◌, ◌≤◌, ℕ, false, List, [], ◌++◌, length, None, sym, ap, ◌∙◌, subst, arith, length-append}
use Rattle.std.specs.Prelude.{is_none, slice_get, unwrap_or}
use Rattle.std.specs.List.{flat_map}
use Rattle.c_tree.specs.declared.program.Program.{Program}
use Rattle.c_tree.specs.declared.unit.Unit.{Unit as Tree}
use Rattle.c_tree.specs.Checking.Naming.{file_start, funcs_of, globals_of, entry_number, program_of}
use Rattle.c_tree.specs.Keeping.Layouts.{global_shapes}
use Rattle.c_tree.specs.Meaning.Spans.{spans}
use Rattle.c_tree.specs.Meaning.Runs.{entry_types, outer_types, input_types}
use Rattle.c_tree.specs.Keeping.WellFormed.{WellFormed}
use Rattle.c_tree.specs.Checking.Uses.{tops_uses, uses}
use Rattle.c_tree.specs.Checking.Refusals.{NoEntry, Inputs, placed_fault, func_named, param_inputs, outer_inputs, input_counts, faults_of, no_entry_faults, input_faults, wide_func_faults, span_faults, faults, Typed}
use Rattle.typed_laws.specs.Shaped.{ShapedUnit}
use Rattle.typed_laws.proofs.Faultless.{AllClean, all_clean, none_of, not_there}
use Rattle.typed_laws.proofs.FileScope.{started_at}
use Rattle.typed_laws.proofs.SpansOfFunctions.{spans_are}
use Rattle.typed_laws.proofs.Formed.FormedFunctions.{funcs_formed}
use Rattle.typed_laws.proofs.Formed.FormedGlobals.{globals_formed}
use Rattle.typed_laws.proofs.EntryFunction.{entry_below, entry_inputs, outer_same, length_within, none_listed, named_some}

-- what no fault says
record Sound (u : Tree) (entry : List ℕ) : Type 0 where
  clean : AllClean (tops_uses (file_start u.tops) u.tops)
  named : is_none (func_named entry u.tops) ≡ false
  few : slice_get (input_counts u entry) 64 ≡ None
  narrow : wide_func_faults (spans [] (program_of u entry).funcs) u.tops ≡ []

none_stand : (u : Tree) (entry : List ℕ) → faults u entry ≡ [] → Sound u entry
unfolding faults uses
none_stand u entry h =
    let first = none_of (flat_map faults_of (uses u)) (no_entry_faults u entry ++ (input_faults u entry ++ span_faults u entry)) h in
    let second = none_of (no_entry_faults u entry) (input_faults u entry ++ span_faults u entry) first.1 in
    let third = none_of (input_faults u entry) (span_faults u entry) second.1 in
    record {
      clean = all_clean (tops_uses (file_start u.tops) u.tops) first.0;
      named = not_there (is_none (func_named entry u.tops)) NoEntry u.end second.0;
      few = none_listed (placed_fault Inputs) (slice_get (input_counts u entry) 64) third.0;
      narrow = third.1;
    }

few_inputs : (u : Tree) (entry : List ℕ) → Sound u entry → length (input_types (program_of u entry)) ≤ 64
unfolding program_of
few_inputs u entry h =
    let ts = u.tops in
    let fs = funcs_of (file_start ts) ts in
    let found = named_some (func_named entry ts) h.named in
    let types = entry_types (slice_get fs (unwrap_or (entry_number fs entry) 0)) in
    let most = length_within (input_counts u entry) 64 h.few in
    let own = entry_inputs entry (file_start ts) ts found.0 found.1 in
    omega (arith, most, own, outer_same ts, length-append types (outer_types (globals_of ts)), length-append (param_inputs (func_named entry ts)) (outer_inputs ts))

pub program_formed : (u : Tree) (entry : List ℕ) → ShapedUnit u → faults u entry ≡ [] → WellFormed (program_of u entry)
unfolding program_of
program_formed u entry shaped none =
    let ts = u.tops in
    let h = none_stand u entry none in
    let found = named_some (func_named entry ts) h.named in
    let narrow = ap (λ ss. wide_func_faults ss ts) (sym (spans_are [] (funcs_of (file_start ts) ts))) ∙ h.narrow in
    record {
      entry = entry_below entry (file_start ts) ts found.0 found.1;
      globals = globals_formed (file_start ts) ts shaped h.clean;
      funcs = funcs_formed (global_shapes (globals_of ts)) (funcs_of (file_start ts) ts) (file_start ts) [] [] ts (started_at ts) shaped h.clean narrow;
      inputs = few_inputs u entry h;
    }

pub shaped_typed_formed : (u : Tree) (entry : List ℕ) (p : Program) → ShapedUnit u → Typed u entry p → WellFormed p
shaped_typed_formed u entry p shaped typed = subst WellFormed (sym typed.named) (program_formed u entry shaped typed.sound)
