-- The run of a program has the cost of its trace exactly where that is less than 2^128.
use Rattle.std.proofs.Common.{◌≡◌, ◌<◌, ℕ, ◌+◌, ◌%◌, ◌^◌, false, List, [], drop, length, Option, Some, None, option_map, refl, sym, ap, ◌∙◌, arith, zero-add}
use Rattle.std.specs.Prelude.{slice_get}
use Rattle.std.proofs.Math.Nat.{add-mod-mod, mod-eq_of_lt}
use Rattle.c_tree.specs.declared.tree.Ty.{Ty}
use Rattle.c_tree.specs.declared.program.BlockName.{BlockName}
use Rattle.c_tree.specs.declared.program.Func.{Func}
use Rattle.c_tree.specs.declared.program.Program.{Program}
use Rattle.c_tree.specs.declared.program.Costs.{Costs}
use Rattle.c_tree.specs.declared.program.Input.{Input}
use Rattle.c_tree.specs.declared.tree.Stmt.{Stmt}
use Rattle.c_tree.specs.declared.value.Value.{Value}
use Rattle.c_tree.specs.declared.value.Slot.{Slot}
use Rattle.c_tree.specs.declared.value.Store.{Store}
use Rattle.c_tree.specs.declared.value.Way.TheVariants as way
use Rattle.c_tree.specs.Meaning.Statements.{Callee, Outcome, Ends, Undefined, OverBound, list_exec}
use Rattle.c_tree.specs.Meaning.Runs.{param_types, arguments, entry_types, entry_slots, global_slots, back, callee, callees, Run, Ended, IsUndefined, run_of, entry_run, run}
use Rattle.c_tree.specs.Meaning.Claims.{trace_cost}
use Rattle.c_tree.proofs.Keeping.Callees.{callee_at}
use Rattle.c_run.specs.declared.run_end.RunEnd.TheVariants as end
use Rattle.c_run.specs.declared.machine.Machine.{Machine}
use Rattle.c_run.specs.declared.machine.Given.{Given}
use Rattle.c_run.specs.Machine.{costed_end, end_past_cost, over, finished_outcome, machine_end, ends_as, entry_run_end}
use Rattle.c_run.specs.Ends.{end_of_run}

pub ended_is : (t : Costs) (r : Option Ty) (o : Outcome) → ((u : List BlockName) → run_of (back r o) ≡ Ended u → trace_cost t u < 2 ^ 128) → costed_end t o ≡ end_of_run t (run_of (back r o))
unfolding costed_end
ended_is t r (Ends u s way.Next) h = ap end.Ends (mod-eq_of_lt (h u refl))
ended_is t r (Ends u s way.Break) h = ap end.Ends (mod-eq_of_lt (h u refl))
ended_is t r (Ends u s way.Continue) h = ap end.Ends (mod-eq_of_lt (h u refl))
ended_is t r (Ends u s (way.Return v)) h = ap end.Ends (mod-eq_of_lt (h u refl))
ended_is t r Undefined h = refl
ended_is t r OverBound h = refl

-- ---- the entry function

callee_is : (fs : List Func) (e : ℕ) → slice_get (callees [] fs) e ≡ option_map (λ f. callee e f (over fs e)) (slice_get fs e)
callee_is fs e =
    let z : length {A = Callee} [] + e ≡ e = omega arith in
    ap (slice_get (callees [] fs)) (sym z) ∙ callee_at [] fs e ∙ ap (λ n. option_map (λ f. callee n f (over fs e)) (slice_get fs e)) z

unfoldable from_entry : Program → Input → Option Func → Option Callee → Run
from_entry p i o c =
    let ts = entry_types o in
    entry_run c (arguments ts i.values) (global_slots p.globals (drop (length ts) i.values))

pub run_none : (p : Program) (i : Input) → slice_get p.funcs p.entry ≡ None → run p i ≡ IsUndefined
unfolding from_entry
run_none p i e =
    ap (from_entry p i (slice_get p.funcs p.entry)) (callee_is p.funcs p.entry) ∙ ap (λ o. from_entry p i o (option_map (λ f. callee p.entry f (over p.funcs p.entry)) o)) e

pub run_some : (p : Program) (i : Input) (h : Func) → slice_get p.funcs p.entry ≡ Some h → run p i ≡ run_of (back h.result (list_exec (over p.funcs p.entry) p.entry h.body 0 false (record { locals = entry_slots h.locals (arguments (param_types h.params h.locals) i.values); globals = global_slots p.globals (drop (length (param_types h.params h.locals)) i.values) })))
unfolding from_entry
run_some p i h e =
    ap (from_entry p i (slice_get p.funcs p.entry)) (callee_is p.funcs p.entry) ∙ ap (λ o. from_entry p i o (option_map (λ f. callee p.entry f (over p.funcs p.entry)) o)) e

-- ---- a machine at its beginning

state_begun : (t : Costs) (fs : List Func) (o : Outcome) → machine_end t fs 0 [] o ≡ costed_end t o
unfolding costed_end end_past_cost finished_outcome
state_begun t fs (Ends u s w) = ap end.Ends (add-mod-mod 0 (trace_cost t u) (2 ^ 128) ∙ ap (λ n. n % 2 ^ 128) (zero-add (trace_cost t u)))
state_begun t fs Undefined = refl
state_begun t fs OverBound = refl

pub begins : (g : Given) (m : Machine) (h : Func) (vs : List Value) (gs : List Slot) (xs : List Stmt) → m.func ≡ g.program.now.entry → m.memory ≡ record { locals = entry_slots h.locals vs; globals = gs } → m.pending.items ≡ [] → m.cost ≡ 0 → xs ≡ h.body → ends_as g m (list_exec (over g.program.now.funcs m.func) m.func xs 0 false m.memory) ≡ entry_run_end g h vs gs
begins g m h vs gs xs func memory none free body =
    let t = g.costs.now in
    let fs = g.program.now.funcs in
    let e = g.program.now.entry in
    let s : Store = record { locals = entry_slots h.locals vs; globals = gs } in
    (λ i. machine_end t fs (free i) (none i) (list_exec (over fs (func i)) (func i) (body i) 0 false (memory i))) ∙ state_begun t fs (list_exec (over fs e) e h.body 0 false s)
