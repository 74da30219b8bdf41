-- What is left of a run: the cost of blocks that are entered, and what comes to wait.
use Rattle.std.proofs.Common.{◌≡◌, ℕ, zero, suc, ◌+◌, ◌%◌, ◌^◌, ◌<◌, Bool, false, if◌then◌else◌, List, [], ◌∷◌, ◌++◌, Option, Some, None, option_map, refl, sym, ap, ◌∙◌, arith, append_assoc, add_assoc}
use Rattle.std.proofs.lemmas.List.Sums.{sum_by-append}
use Rattle.std.proofs.Math.Nat.{mod-add-mod, add-mod-mod, mod-eq_of_lt}
use Rattle.c_tree.specs.declared.tree.Ty.{Ty}
use Rattle.c_tree.specs.declared.tree.Target.{Target}
use Rattle.c_tree.specs.declared.program.BlockName.{BlockName}
use Rattle.c_tree.specs.declared.program.Func.{Func}
use Rattle.c_tree.specs.declared.program.Costs.{Costs}
use Rattle.c_tree.specs.declared.value.Value.{Value}
use Rattle.c_tree.specs.declared.value.Store.{Store}
use Rattle.c_tree.specs.declared.value.Way.{Way}
use Rattle.c_tree.specs.declared.value.Way.TheVariants as way
use Rattle.c_tree.specs.declared.value.Slot.{Slot}
use Rattle.c_tree.specs.Meaning.Stores.{with_globals}
use Rattle.c_tree.specs.Meaning.Values.{is_nonzero}
use Rattle.c_tree.specs.Meaning.Expressions.{val}
use Rattle.c_tree.specs.Meaning.Statements.{Outcome, Ends, Undefined, OverBound, with_value, after, then_do, turn_do, block, come_back, give, list_exec}
use Rattle.c_tree.specs.Meaning.Statements.{Callee, Gives}
use Rattle.c_tree.specs.Meaning.Runs.{result_of, back}
use Rattle.c_tree.specs.Meaning.Claims.{trace_cost, block_cost}
use Rattle.c_run.specs.declared.run_end.RunEnd.{RunEnd}
use Rattle.c_run.specs.declared.run_end.RunEnd.TheVariants as end
use Rattle.c_ways.specs.declared.loops.Loop.{Loop}
use Rattle.c_run.specs.declared.machine.Pending.{Pending}
use Rattle.c_run.specs.declared.machine.Pending.TheVariants as pending
use Rattle.c_run.specs.Machine.{costed_end, end_past_cost, over, step_of, limited_turns, loop_turns, body_turns, do_test, pending_outcome, finished_outcome, machine_end}
use Rattle.std.proofs.lemmas.Option.{same_Some}

-- ---- cost

dearer_twice : (a b : ℕ) (e : RunEnd) → end_past_cost ((a + b) % 2 ^ 128) e ≡ end_past_cost a (end_past_cost b e)
unfolding end_past_cost
dearer_twice a b (end.Ends c) =
    ap end.Ends (mod-add-mod (a + b) (2 ^ 128) c ∙ ap (λ n. n % 2 ^ 128) (add_assoc a b c) ∙ sym (add-mod-mod a (b + c) (2 ^ 128)))
dearer_twice a b end.Undefined = refl
dearer_twice a b end.OverBound = refl

costed_after : (t : Costs) (b : BlockName) (o : Outcome) → costed_end t (after (b ∷ []) o) ≡ end_past_cost (block_cost t b) (costed_end t o)
unfolding costed_end end_past_cost
costed_after t b (Ends u s w) =
    let parts = sum_by-append (block_cost t) (b ∷ []) u in
    let e : trace_cost t (b ∷ u) ≡ block_cost t b + trace_cost t u = omega (arith, parts) in
    ap (λ n. end.Ends (n % 2 ^ 128)) e ∙ ap end.Ends (sym (add-mod-mod (block_cost t b) (trace_cost t u) (2 ^ 128)))
costed_after t b Undefined = refl
costed_after t b OverBound = refl

-- ---- a trace in front

after_after : (t u : List BlockName) (o : Outcome) → after t (after u o) ≡ after (t ++ u) o
after_after t u (Ends v s w) = ap (λ v. Ends v s w) (sym (append_assoc t u v))
after_after t u Undefined = refl
after_after t u OverBound = refl

then_after : (t : List BlockName) (o : Outcome) (go : Store → Outcome) → then_do (after t o) go ≡ after t (then_do o go)
then_after t (Ends u s way.Next) go = sym (after_after t u (go s))
then_after t (Ends u s way.Break) go = refl
then_after t (Ends u s way.Continue) go = refl
then_after t (Ends u s (way.Return v)) go = refl
then_after t Undefined go = refl
then_after t OverBound go = refl

turn_after : (t : List BlockName) (o : Outcome) (go : Store → Outcome) → turn_do (after t o) go ≡ after t (turn_do o go)
turn_after t (Ends u s way.Next) go = sym (after_after t u (go s))
turn_after t (Ends u s way.Break) go = refl
turn_after t (Ends u s way.Continue) go = sym (after_after t u (go s))
turn_after t (Ends u s (way.Return v)) go = refl
turn_after t Undefined go = refl
turn_after t OverBound go = refl

come_after : (t : List BlockName) (target : Target) (s : Store) (u : List BlockName) (gs : List Slot) (v : Option Value) → come_back target s (Gives (t ++ u) gs v) ≡ after t (come_back target s (Gives u gs v))
come_after t target s u gs v = sym (after_after t u (give target v (with_globals s gs)))

back_after : (t : List BlockName) (r : Option Ty) (target : Target) (s : Store) (o : Outcome) → come_back target s (back r (after t o)) ≡ after t (come_back target s (back r o))
back_after t r target s (Ends u s' way.Next) = come_after t target s u s'.globals None
back_after t r target s (Ends u s' way.Break) = come_after t target s u s'.globals None
back_after t r target s (Ends u s' way.Continue) = come_after t target s u s'.globals None
back_after t r target s (Ends u s' (way.Return v)) = come_after t target s u s'.globals (result_of r v)
back_after t r target s Undefined = refl
back_after t r target s OverBound = refl

behind_after : (fs : List Func) (p : Pending) (t : List BlockName) (o : Outcome) → pending_outcome fs p (after t o) ≡ after t (pending_outcome fs p o)
unfolding pending_outcome
behind_after fs (pending.Rest f xs n run) t o = then_after t o (list_exec (over fs f) f xs.now n run)
behind_after fs (pending.Turn f l) t o = then_after t o (loop_turns (over fs f) f l)
behind_after fs (pending.Step f l) t o = turn_after t o (λ s. then_do (list_exec (over fs f) f (step_of l) (l.at + 1) false s) (loop_turns (over fs f) f l))
behind_after fs (pending.DoTest f l) t o = turn_after t o (do_test (over fs f) f l)
behind_after fs (pending.Caller f target locals result) t o = back_after t result target (record { locals = locals.items; globals = [] }) o

finished_after : (fs : List Func) (ps : List Pending) (t : List BlockName) (o : Outcome) → finished_outcome fs ps (after t o) ≡ after t (finished_outcome fs ps o)
unfolding finished_outcome
finished_after fs [] t o = refl
finished_after fs (p ∷ ps) t o = ap (pending_outcome fs p) (finished_after fs ps t o) ∙ behind_after fs p t (finished_outcome fs ps o)

-- ---- undefined and over a bound

finished_undefined : (fs : List Func) (ps : List Pending) → finished_outcome fs ps Undefined ≡ Undefined
unfolding finished_outcome pending_outcome
finished_undefined fs [] = refl
finished_undefined fs (p ∷ ps) = ap (pending_outcome fs p) (finished_undefined fs ps) ∙ none p
  where
    none : (p : Pending) → pending_outcome fs p Undefined ≡ Undefined
    none (pending.Rest f xs n run) = refl
    none (pending.Turn f l) = refl
    none (pending.Step f l) = refl
    none (pending.DoTest f l) = refl
    none (pending.Caller f target locals result) = refl

finished_over : (fs : List Func) (ps : List Pending) → finished_outcome fs ps OverBound ≡ OverBound
unfolding finished_outcome pending_outcome
finished_over fs [] = refl
finished_over fs (p ∷ ps) = ap (pending_outcome fs p) (finished_over fs ps) ∙ none p
  where
    none : (p : Pending) → pending_outcome fs p OverBound ≡ OverBound
    none (pending.Rest f xs n run) = refl
    none (pending.Turn f l) = refl
    none (pending.Step f l) = refl
    none (pending.DoTest f l) = refl
    none (pending.Caller f target locals result) = refl

finished_push : (fs : List Func) (ps : List Pending) (p : Pending) (o : Outcome) → finished_outcome fs (ps ++ p ∷ []) o ≡ finished_outcome fs ps (pending_outcome fs p o)
unfolding finished_outcome
finished_push fs [] p o = refl
finished_push fs (q ∷ ps) p o = ap (pending_outcome fs q) (finished_push fs ps p o)

-- ---- the end of a run

-- a block is entered, and its cost added
pub state_entered : (t : Costs) (fs : List Func) (c d : ℕ) (b : BlockName) (ps : List Pending) (o : Outcome) → d ≡ (c + block_cost t b) % 2 ^ 128 → machine_end t fs d ps o ≡ machine_end t fs c ps (after (b ∷ []) o)
state_entered t fs c d b ps o e =
    ap (λ d. machine_end t fs d ps o) e ∙ dearer_twice c (block_cost t b) (costed_end t (finished_outcome fs ps o)) ∙ ap (end_past_cost c) (sym (costed_after t b (finished_outcome fs ps o)) ∙ ap (costed_end t) (sym (finished_after fs ps (b ∷ []) o)))

pub state_pushed : (t : Costs) (fs : List Func) (c : ℕ) (ps qs : List Pending) (p : Pending) (o : Outcome) → qs ≡ ps ++ p ∷ [] → machine_end t fs c qs o ≡ machine_end t fs c ps (pending_outcome fs p o)
state_pushed t fs c ps qs p o e = ap (λ qs. machine_end t fs c qs o) e ∙ ap (λ o. end_past_cost c (costed_end t o)) (finished_push fs ps p o)

pub state_undefined : (t : Costs) (fs : List Func) (c : ℕ) (ps : List Pending) → machine_end t fs c ps Undefined ≡ end.Undefined
unfolding costed_end end_past_cost
state_undefined t fs c ps = ap (λ o. end_past_cost c (costed_end t o)) (finished_undefined fs ps)

pub state_over : (t : Costs) (fs : List Func) (c : ℕ) (ps : List Pending) → machine_end t fs c ps OverBound ≡ end.OverBound
unfolding costed_end end_past_cost
state_over t fs c ps = ap (λ o. end_past_cost c (costed_end t o)) (finished_over fs ps)

pub state_ended : (t : Costs) (fs : List Func) (c : ℕ) (s : Store) (w : Way) → c < 2 ^ 128 → machine_end t fs c [] (Ends [] s w) ≡ end.Ends c
unfolding costed_end end_past_cost finished_outcome
state_ended t fs c s w lt = ap end.Ends (ap (λ n. n % 2 ^ 128) (let e : c + 0 ≡ c = omega arith in e) ∙ mod-eq_of_lt lt)

-- ---- loops

-- a `while` or a `for`: its condition, and then its body
pub turns_test : (cs : List Callee) (f : ℕ) (l : Loop) (n : ℕ) (s : Store) → limited_turns cs f l n s ≡ after (block f l.at ∷ []) (with_value (val l.condition.now s) (λ v. if is_nonzero v then body_turns cs f l n s else Ends [] s way.Next))
unfolding limited_turns body_turns
turns_test cs f l zero s = refl
turns_test cs f l (suc n) s = refl

-- where the condition's value is known
pub tested_none : (o : Option Value) (x y : Outcome) → None ≡ option_map is_nonzero o → with_value o (λ v. if is_nonzero v then x else y) ≡ Undefined
tested_none None x y e = refl
tested_none (Some v) x y e = absurd cc

pub tested_some : (o : Option Value) (b : Bool) (x y : Outcome) → Some b ≡ option_map is_nonzero o → with_value o (λ v. if is_nonzero v then x else y) ≡ (if b then x else y)
tested_some None b x y e = absurd cc
tested_some (Some v) b x y e = ap (λ b. if b then x else y) (sym (same_Some b (is_nonzero v) e))
