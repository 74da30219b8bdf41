-- The functions of a well-formed program come back with globals of the layout and a result of their type.
use Rattle.std.proofs.Common.{◌≡◌, ◌<◌, ℕ, zero, suc, false, List, [], ◌∷◌, ◌++◌, length, Option, Some, None, refl, sym, subst, ap, arith, append_assoc}
use Rattle.std.specs.Prelude.{IsSome, slice_get}
use Rattle.c_tree.specs.declared.tree.Ty.{Ty}
use Rattle.c_tree.specs.declared.tree.Target.{Target}
use Rattle.c_tree.specs.declared.program.Local.{Local as Declared}
use Rattle.c_tree.specs.declared.program.Func.{Func}
use Rattle.c_tree.specs.declared.program.Program.{Program}
use Rattle.c_tree.specs.declared.value.Value.{Value}
use Rattle.c_tree.specs.declared.value.Slot.TheVariants.{Number}
use Rattle.c_tree.specs.declared.value.Store.{Store}
use Rattle.c_tree.specs.declared.value.Way.TheVariants as way
use Rattle.c_tree.specs.Meaning.Values.{convert, zero_of}
use Rattle.c_tree.specs.Meaning.Statements.{Callee, Outcome, Ends, Undefined, OverBound, list_exec}
use Rattle.c_tree.specs.Meaning.Runs.{fresh, entry_slots, result_of, back, callee, callees}
use Rattle.c_tree.specs.Keeping.Layouts.{Shape, Layout, local_shapes, global_shapes, IsSlotOf, EachSlot}
use Rattle.c_tree.specs.Keeping.WellFormed.{Context, HasParams, WellFormedFunc, WellFormedFuncs, WellFormedCallee, WellFormed}
use Rattle.c_tree.specs.Keeping.Kept.{IsWayOf, Keeps, AreValues, IsResultOf, GivesBack, IsCalleeOf, AreCalleesOf}
use Rattle.c_tree.proofs.Keeping.Ranges.{convert_in, zero_in}
use Rattle.c_tree.proofs.Keeping.SimpleKept.{replicate_are, length_replicate}
use Rattle.c_tree.proofs.Keeping.ExecKept.{list_statements_keep}

-- ---- one function

fresh_is : (t : Ty) (o : Option ℕ) → IsSlotOf t o (fresh t o)
fresh_is t None = refl
fresh_is t (Some n) = (refl, (length_replicate n (zero_of t), replicate_are t n (zero_of t) (zero_in t)))

entries_are : (ls : List Declared) (vs : List Value) → HasParams (length vs) ls → AreValues vs → EachSlot IsSlotOf (local_shapes ls) (entry_slots ls vs)
entries_are [] [] params are = tt
entries_are [] (v ∷ vs) params are = absurd params
entries_are (l ∷ ls) [] params are = (fresh_is l.ty l.length, entries_are ls [] tt tt)
entries_are (l ∷ ls) (v ∷ vs) params are =
    (subst (λ o. IsSlotOf l.ty o (Number (convert l.ty v))) (sym params.0) (convert_in l.ty v are.0), entries_are ls vs params.1 are.1)

result_is : (r : Option Ty) (v : Option Value) → IsWayOf r false (way.Return v) → IsResultOf r (result_of r v)
result_is None None h = tt
result_is None (Some v) h = absurd h
result_is (Some t) None h = absurd h
result_is (Some t) (Some v) h = convert_in t v h

back_gives : (l : Layout) (r : Option Ty) (o : Outcome) → Keeps l r false o → GivesBack l.globals r (back r o)
back_gives l r (Ends t s way.Next) h = (h.0.globals_of, tt)
back_gives l r (Ends t s way.Break) h = (h.0.globals_of, tt)
back_gives l r (Ends t s way.Continue) h = (h.0.globals_of, tt)
back_gives l r (Ends t s (way.Return v)) h = (h.0.globals_of, result_is r v h.1)
back_gives l r Undefined h = tt
back_gives l r OverBound h = tt

callee_is : (globals : List Shape) (above : List Func) (cs : List Callee) (k : ℕ) (f : Func) → WellFormedFunc globals above f → AreCalleesOf globals above cs → IsCalleeOf globals f (callee k f cs)
callee_is globals above cs k f w are =
    let layout : Layout = record { locals = local_shapes f.locals; globals = globals } in
    let context : Context = record { layout = layout; above = above; result = f.result } in
    record { comes_back = λ vs gs len in_range each. (let s : Store = record { locals = entry_slots f.locals vs; globals = gs } in let entries = entries_are f.locals vs (subst (λ n. HasParams n f.locals) (sym len) w.params) in_range in back_gives layout f.result (list_exec cs k f.body 0 false s) (list_statements_keep context cs are k false f.body 0 false s w.body (record { locals_of = entries; globals_of = each }))) }

-- ---- all functions

callees_more : (globals : List Shape) (fs : List Func) (cs : List Callee) (f : Func) (c : Callee) → AreCalleesOf globals fs cs → IsCalleeOf globals f c → AreCalleesOf globals (fs ++ f ∷ []) (cs ++ c ∷ [])
callees_more globals [] [] f c are is = (is, tt)
callees_more globals [] (d ∷ cs) f c are is = absurd are
callees_more globals (g ∷ fs) [] f c are is = absurd are
callees_more globals (g ∷ fs) (d ∷ cs) f c are is = (are.0, callees_more globals fs cs f c are.1 is)

nothing_more : (fs : List Func) → fs ++ [] ≡ fs
nothing_more [] = refl
nothing_more (f ∷ fs) = ap (λ gs. f ∷ gs) (nothing_more fs)

pub all_callees : (globals : List Shape) (above : List Func) (cs : List Callee) (fs : List Func) → WellFormedFuncs globals above fs → AreCalleesOf globals above cs → AreCalleesOf globals (above ++ fs) (callees cs fs)
all_callees globals above cs [] w are = subst (λ fs. AreCalleesOf globals fs cs) (sym (nothing_more above)) are
all_callees globals above cs (f ∷ fs) w are =
    let c = callee (length cs) f cs in
    subst (λ gs. AreCalleesOf globals gs (callees (cs ++ c ∷ []) fs)) (append_assoc above (f ∷ []) fs) (all_callees globals (above ++ f ∷ []) (cs ++ c ∷ []) fs w.1 (callees_more globals above cs f c are (callee_is globals above cs (length cs) f w.0 are)))

pub program_callees : (p : Program) → WellFormed p → AreCalleesOf (global_shapes p.globals) p.funcs (callees [] p.funcs)
program_callees p w = all_callees (global_shapes p.globals) [] [] p.funcs w.funcs tt

-- ---- a callee is there

pub callee_there : (globals : List Shape) (fs : List Func) (cs : List Callee) → AreCalleesOf globals fs cs → (g n : ℕ) (t : Target) → WellFormedCallee (slice_get fs g) n t → IsSome (slice_get cs g)
callee_there globals [] [] are g n t w = absurd w
callee_there globals [] (c ∷ cs) are g n t w = absurd are
callee_there globals (f ∷ fs) [] are g n t w = absurd are
callee_there globals (f ∷ fs) (c ∷ cs) are zero n t w = refl
callee_there globals (f ∷ fs) (c ∷ cs) are (suc g) n t w = callee_there globals fs cs are.1 g n t w

pub callee_below : (globals : List Shape) (fs : List Func) (cs : List Callee) → AreCalleesOf globals fs cs → (g : ℕ) → g < length fs → IsSome (slice_get cs g)
callee_below globals [] [] are g h = absurd (omega (arith, h))
callee_below globals [] (c ∷ cs) are g h = absurd are
callee_below globals (f ∷ fs) [] are g h = absurd are
callee_below globals (f ∷ fs) (c ∷ cs) are zero h = refl
callee_below globals (f ∷ fs) (c ∷ cs) are (suc g) h = callee_below globals fs cs are.1 g (omega (arith, h))
