-- A unit of the same program has the same entry, the same number of inputs, and the same spans.
use Rattle.std.proofs.Common.{◌≡◌, ◌≤◌, ℕ, ◌^◌, Bool, true, false, not, ◌||◌, List, [], ◌∷◌, ◌++◌, length, Option, Some, refl, sym, ap, subst, arith, length-append, le-ltb}
use Rattle.std.specs.Prelude.{is_none, nat_lt, slice_get, unwrap_or, option_to_list, bytes_eq, if◌then◌else◌, map}
use Rattle.std.specs.List.{list_any}
use Rattle.std.proofs.lemmas.Option.{slice_get_past}
use Rattle.c_tree.specs.declared.program.Func.{Func}
use Rattle.c_tree.specs.declared.unit.RawFunc.{RawFunc}
use Rattle.c_tree.specs.declared.unit.RawTop.{RawTop}
use Rattle.c_tree.specs.declared.unit.RawTop.TheVariants as top
use Rattle.c_tree.specs.declared.unit.Unit.{Unit as Tree}
use Rattle.c_tree.specs.Keeping.Layouts.{Shape}
use Rattle.c_tree.specs.Checking.Naming.{File, with_func, behind_top, file_start, funcs_of, globals_of, entry_number, program_of}
use Rattle.c_tree.specs.Meaning.Runs.{entry_types, outer_types}
use Rattle.c_tree.specs.Meaning.Spans.{spans}
use Rattle.c_tree.specs.Keeping.WellFormed.{WellFormed, WellFormedFuncs}
use Rattle.c_tree.specs.Checking.Uses.{uses}
use Rattle.c_tree.specs.Checking.Refusals.{Span, NoEntry, Inputs, where_true, placed_fault, func_named, param_inputs, outer_inputs, input_counts, input_faults, wide_func_faults, span_faults, faults}
use Rattle.typed_laws.proofs.EntryFunction.{has_name, entry_inputs, outer_same, named_some}
use Rattle.typed_laws.proofs.SpansOfFunctions.{own_spans, spans_are}
use Rattle.print_laws.proofs.Again.FaultlessUses.{AreFaultless}
use Rattle.c_tree.proofs.FunctionSpans.{spans-push}

-- ---- the entry

not_first : (b : Bool) (g : RawFunc) (o : Option RawFunc) (c : Bool) → is_none o ≡ not c → is_none (if b then Some g else o) ≡ not (b || c)
not_first true g o c h = refl
not_first false g o c h = h

-- whether no function has the entry's name
pub not_named : (entry : List ℕ) (f : File) (ts : List RawTop) → is_none (func_named entry ts) ≡ not (list_any (has_name entry) (funcs_of f ts))
not_named entry f [] = refl
not_named entry f (top.Outer constant t x e ∷ ts) = not_named entry (behind_top f (top.Outer constant t x e)) ts
not_named entry f (top.Global kept constant t x sh ∷ ts) = not_named entry (behind_top f (top.Global kept constant t x sh)) ts
not_named entry f (top.Func g ∷ ts) =
    not_first (bytes_eq g.spot.name entry) g (func_named entry ts) (list_any (has_name entry) (funcs_of (with_func f g) ts)) (not_named entry (with_func f g) ts)

-- ---- inputs

few_again : (v : Tree) (entry : List ℕ) → WellFormed (program_of v entry) → is_none (func_named entry v.tops) ≡ false → length (input_counts v entry) ≤ 64
unfolding program_of
few_again v entry formed named =
    let ts = v.tops in
    let fs = funcs_of (file_start ts) ts in
    let found = named_some (func_named entry ts) named in
    let types = entry_types (slice_get fs (unwrap_or (entry_number fs entry) 0)) in
    let own = entry_inputs entry (file_start ts) ts found.0 found.1 in
    omega (arith, formed.inputs, own, outer_same ts, length-append types (outer_types (globals_of ts)), length-append (param_inputs (func_named entry ts)) (outer_inputs ts))

-- ---- spans

-- no span is above 2^64
abbrev AreNarrow : List ℕ → Type 0
AreNarrow [] = Unit {0}
AreNarrow (s ∷ ss) = (s ≤ 2 ^ 64) × AreNarrow ss

narrow_first : (s at : ℕ) → s ≤ 2 ^ 64 → where_true (nat_lt (2 ^ 64) s) Span at ≡ []
narrow_first s at h = ap (λ b. where_true b Span at) (le-ltb (2 ^ 64) s h)

none_wide : (ss : List ℕ) (ts : List RawTop) → AreNarrow ss → wide_func_faults ss ts ≡ []
none_wide ss [] h = refl
none_wide [] (t ∷ ts) h = refl
none_wide (s ∷ ss) (top.Outer constant t x e ∷ ts) h = none_wide (s ∷ ss) ts h
none_wide (s ∷ ss) (top.Global kept constant t x sh ∷ ts) h = none_wide (s ∷ ss) ts h
none_wide (s ∷ ss) (top.Func g ∷ ts) h = λ i. narrow_first s g.spot.at h.0 i ++ none_wide ss ts h.1 i

own_narrow : (globals : List Shape) (above fs : List Func) → WellFormedFuncs globals above fs → AreNarrow (own_spans (spans [] above) fs)
own_narrow globals above [] h = tt
own_narrow globals above (f ∷ fs) h =
    (h.0.span, subst (λ ss. AreNarrow (own_spans ss fs)) (spans-push [] above f) (own_narrow globals (above ++ f ∷ []) fs h.1))

narrow_again : (v : Tree) (entry : List ℕ) → WellFormed (program_of v entry) → span_faults v entry ≡ []
narrow_again v entry formed =
    let fs = (program_of v entry).funcs in
    none_wide (spans [] fs) v.tops (subst AreNarrow (sym (spans_are [] fs)) (own_narrow _ [] fs formed.funcs))

-- ---- no fault of the whole unit

pub unit_faultless : (v : Tree) (entry : List ℕ) → WellFormed (program_of v entry) → is_none (func_named entry v.tops) ≡ false → AreFaultless (uses v) → faults v entry ≡ []
unfolding faults
unit_faultless v entry formed named clean =
    let few : input_faults v entry ≡ [] = ap (λ o. map (placed_fault Inputs) (option_to_list o)) (slice_get_past (input_counts v entry) 64 (few_again v entry formed named)) in
    (λ i. clean i ++ (where_true (named i) NoEntry v.end ++ (few i ++ narrow_again v entry formed i)))
