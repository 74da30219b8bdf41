-- The parts that the code ran, one after the other, make the terms of a list of edges.
use Rattle.std.proofs.Common.{◌≡◌, ℕ, Bool, true, List, [], ◌∷◌, ◌++◌, length, refl, ap, ◌∙◌, subst}
use Rattle.std.specs.Prelude.{map, nat_lt, ◌&&◌, slice_get, is_some}
use Rattle.std.specs.List.{list_all}
use Rattle.std.proofs.lemmas.Bool.{lt-ltb}
use Rattle.c_tree.specs.declared.program.Program.{Program}
use Rattle.c_tree.specs.Meaning.Runs.{input_types}
use Rattle.flow_laws.specs.declared.graph.Edge.{Edge}
use Rattle.flow_laws.specs.Sites.{Site}
use Rattle.flow_laws.specs.Graphs.{graph, edges, loops}
use Rattle.flow_laws.specs.Paths.{end_node, follows, keeps_each}
use Rattle.flow_graph.specs.Plans.{keeps_all}
use Rattle.bv_term.specs.Stores.{Terms}
use Rattle.bv_term.specs.Scripts.{Done, ◌>>=◌, ops_after, outcome}
use Rattle.cond_laws.specs.declared.condition.PathCond.{PathCond}
use Rattle.cond_laws.specs.Conditions.{AllBelow}
use Rattle.cond_laws.specs.Fits.{FitMemory}
use Rattle.cond_laws.specs.TermPaths as spec
use Rattle.cond_laws.specs.TermPaths.{TermMemory, is_signed, TermsOf, conditions_of}
use Rattle.cond_laws.proofs.Fitting.OperandFits.{below_more, below_append}
use Rattle.term_steps.specs.Gives.{Gives}
use Rattle.term_steps.proofs.Runs.{gives_then, gives_done}
use Rattle.flow_laws.proofs.NamedEdges.{named, each_there}

-- ---- loops' bounds

kept_all : (x y : Bool) → x ≡ true → (x && y) ≡ y
kept_all x y e = ap (λ b. b && y) e

-- a list that is contiguous keeps all where it keeps the loops' bounds
pub kept_by_all : (g : List Site) (q : List ℕ) → follows (edges g) q ≡ true → keeps_all g q ≡ keeps_each (loops g) q
kept_by_all g q h = kept_all (list_all (λ j. nat_lt j (length (edges g))) q) (keeps_each (loops g) q) (each_there (edges g) 0 q h)

-- ---- all of it

all_given : {old mid far new : Terms} {m : TermMemory} {cs more : List ℕ} (p : Program) (q : List ℕ) → Gives FitMemory (spec.start_term_memory p) old mid m → Gives AllBelow (spec.walk (graph p) q m) mid far cs → Gives AllBelow (spec.bound_conditions (keeps_each (loops (graph p)) q)) far new more → Gives AllBelow (conditions_of p q) old new (cs ++ more)
unfolding conditions_of
all_given {old} {mid} {far} {new} {m} {cs} {more} p q first second third =
    let b : Bool = keeps_each (loops (graph p)) q in
    let fits : AllBelow (length new.ops) (cs ++ more) = below_append (length new.ops) cs more (below_more (length far.ops) (length new.ops) cs third.grows second.fits) third.fits in
    gives_then (λ m. spec.walk (graph p) q m >>= (λ cs. spec.bound_conditions b >>= (λ bs. Done (cs ++ bs)))) first (gives_then (λ cs. spec.bound_conditions b >>= (λ bs. Done (cs ++ bs))) second (gives_done AllBelow (λ bs. cs ++ bs) third fits))

terms_are : {old new : Terms} {cs : List ℕ} (p : Program) (q : List ℕ) (t : PathCond) → old.inputs ≡ map is_signed (input_types p) → old.ops ≡ [] → Gives AllBelow (conditions_of p q) old new cs → t ≡ record { terms = new; conditions = cs } → t ≡ TermsOf p q
unfolding TermsOf
terms_are {old} {new} {cs} p q t inputs none h made =
    let ins : new.inputs ≡ map is_signed (input_types p) = h.inputs ∙ inputs in
    let ops : new.ops ≡ ops_after (conditions_of p q) [] = h.ops ∙ ap (ops_after (conditions_of p q)) none in
    let done : cs ≡ outcome (conditions_of p q) [] = h.done ∙ ap (outcome (conditions_of p q)) none in
    made ∙ (λ i. record { terms = record { inputs = ins i; ops = ops i }; conditions = done i })

pub terms_of : {old mid far new : Terms} {m : TermMemory} {cs more all : List ℕ} {keeps : Bool} (p r : Program) (q : List ℕ) (t : PathCond) → r ≡ p → follows (edges (graph p)) q ≡ true → old.inputs ≡ map is_signed (input_types r) → old.ops ≡ [] → Gives FitMemory (spec.start_term_memory r) old mid m → Gives AllBelow (spec.walk (graph p) q m) mid far cs → keeps ≡ keeps_all (graph p) q → Gives AllBelow (spec.bound_conditions keeps) far new more → all ≡ cs ++ more → t ≡ record { terms = new; conditions = all } → t ≡ TermsOf p q
terms_of {old} {mid} {far} {new} {m} {cs} {more} {all} {keeps} p r q t same on inputs none first second kept third joined made =
    let begun : Gives FitMemory (spec.start_term_memory p) old mid m = subst (λ r. Gives FitMemory (spec.start_term_memory r) old mid m) same first in
    let ins : old.inputs ≡ map is_signed (input_types p) = inputs ∙ ap (λ r. map is_signed (input_types r)) same in
    let last : Gives AllBelow (spec.bound_conditions (keeps_each (loops (graph p)) q)) far new more = subst (λ b. Gives AllBelow (spec.bound_conditions b) far new more) (kept ∙ kept_by_all (graph p) q on) third in
    terms_are p q t ins none (all_given p q begun second last) (made ∙ ap (λ cs. record { terms = new; conditions = cs }) joined)
