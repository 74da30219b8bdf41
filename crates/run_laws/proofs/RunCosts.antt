-- The cost of a run of a well-formed program is less than 2^128.
use Rattle.std.proofs.Common.{◌≡◌, ◌<◌, ◌≤◌, ℕ, zero, suc, ◌+◌, ◌*◌, ◌^◌, List, [], ◌∷◌, ◌++◌, length, subst, refl, sym, arith, append_assoc, append-nil}
use Rattle.std.proofs.lemmas.List.Sums.{sum_by-append}
use Rattle.c_tree.specs.declared.program.BlockName.{BlockName}
use Rattle.c_tree.specs.declared.program.Func.{Func}
use Rattle.c_tree.specs.declared.program.Program.{Program}
use Rattle.c_tree.specs.declared.program.Costs.{Costs}
use Rattle.c_tree.specs.declared.program.Input.{Input}
use Rattle.c_tree.specs.Meaning.Runs.{Ended, run}
use Rattle.c_tree.specs.Meaning.Claims.{block_cost, trace_cost}
use Rattle.c_tree.specs.Meaning.Spans.{span_at, func_span, spans}
use Rattle.c_tree.specs.Keeping.Layouts.{Shape}
use Rattle.c_tree.specs.Keeping.WellFormed.{WellFormedFuncs, WellFormed}
use Rattle.run_laws.proofs.TraceLength.{run_within}
use Rattle.c_tree.proofs.FunctionSpans.{spans-push}

-- ---- spans

abbrev AllShort : List ℕ → Type 0
AllShort [] = Unit {0}
AllShort (n ∷ ns) = (n ≤ 2 ^ 64) × AllShort ns

short_more : (ns : List ℕ) (n : ℕ) → AllShort ns → n ≤ 2 ^ 64 → AllShort (ns ++ n ∷ [])
short_more [] n h le = (le, tt)
short_more (m ∷ ns) n h le = (h.0, short_more ns n h.1 le)

short_at : (ns : List ℕ) (g : ℕ) → AllShort ns → span_at ns g ≤ 2 ^ 64
short_at [] g h = omega arith
short_at (n ∷ ns) zero h = h.0
short_at (n ∷ ns) (suc g) h = short_at ns g h.1

all_short : (globals : List Shape) (above fs : List Func) → WellFormedFuncs globals above fs → AllShort (spans [] above) → AllShort (spans [] (above ++ fs))
all_short globals above [] w h = subst (λ fs. AllShort (spans [] fs)) (sym (append-nil above)) h
all_short globals above (f ∷ fs) w h =
    let more = short_more (spans [] above) (func_span (spans [] above) f) h w.0.span in
    subst (λ fs. AllShort (spans [] fs)) (append_assoc above (f ∷ []) fs) (all_short globals (above ++ f ∷ []) fs w.1 (subst AllShort (sym (spans-push [] above f)) more))

-- ---- costs

cost_small : (t : Costs) → ((b : BlockName) → block_cost t b < 2 ^ 32) → (u : List BlockName) → trace_cost t u ≤ length u * 2 ^ 32
cost_small t small [] = omega arith
cost_small t small (b ∷ u) =
    let parts = sum_by-append (block_cost t) (b ∷ []) u in
    omega (arith, parts, small b, cost_small t small u)

pub cost_fits : (p : Program) (t : Costs) → WellFormed p → ((b : BlockName) → block_cost t b < 2 ^ 32) → (i : Input) (u : List BlockName) → run p i ≡ Ended u → trace_cost t u < 2 ^ 128
cost_fits p t w small i u e =
    let short = short_at (spans [] p.funcs) p.entry (all_short _ [] p.funcs w.funcs tt) in
    omega (arith, short, run_within p i u e, cost_small t small u)
