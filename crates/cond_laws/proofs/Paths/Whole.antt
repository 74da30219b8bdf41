-- The terms of a list of edges are all nonzero exactly where an input drives it.
use Rattle.std.proofs.Common.{◌≡◌, ◌<◌, ℕ, zero, suc, ◌^◌, Bool, true, false, List, [], ◌∷◌, length, ℤ, pos, negsuc, refl, sym, ap, subst, arith}
use Rattle.std.specs.Prelude.{slice_get, ◌&&◌, map}
use Rattle.std.specs.Int.{cast_unsigned, w32}
use Rattle.std.proofs.lemmas.Bool.{ltb-true}
use Rattle.c_tree.specs.declared.tree.Ty.{Ty}
use Rattle.c_tree.specs.declared.tree.Ty.TheVariants as ty
use Rattle.c_tree.specs.declared.program.Program.{Program}
use Rattle.c_tree.specs.declared.program.Input.{Input}
use Rattle.c_tree.specs.Meaning.Values.{is_of}
use Rattle.c_tree.specs.Meaning.Runs.{fits, are_of, input_types}
use Rattle.c_tree.specs.Keeping.WellFormed.{WellFormed}
use Rattle.flow_laws.specs.Graphs.{graph, edges}
use Rattle.flow_laws.specs.Paths.{follows}
use Rattle.bv_term.specs.Stores.{Terms, AreTerms, FitFrom, bits_of, input_word, tv, declared_ty, fits_store}
use Rattle.bv_term.proofs.Ranges.{input_small}
use Rattle.bv_term.proofs.ValueLaws.{tv_small, tv_agrees}
use Rattle.bv_term.proofs.FitLaws.{always_outcome, Fitted, fitting_outcome}
use Rattle.cond_laws.specs.Conditions.{AllBelow, Cond, FitTerms}
use Rattle.cond_laws.specs.TermPaths.{conditions_of, is_signed, TermsOf}
use Rattle.cond_laws.proofs.Paths.WalkTerms.{IsSmallGraph}
use Rattle.cond_laws.proofs.Paths.StartTerms.{Tells, conditions_tell}
use Rattle.cond_laws.proofs.Fitting.PathFits.{IsPlainGraph, small_content, conditions_fit}
use Rattle.cond_laws.proofs.Paths.PlainGraphs.{graph_plain, entry_is_small}

-- ---- the theorem

small_graph : (p : Program) → IsPlainGraph (graph p) → IsSmallGraph (graph p)
small_graph p h n s is = small_content s.content (h n s is)

terms_fitted : (p : Program) (q : List ℕ) → WellFormed p → Fitted (length (input_types p)) (conditions_of p q) [] AllBelow
terms_fitted p q w = fitting_outcome AllBelow (length (input_types p)) 0 (conditions_of p q) [] (conditions_fit p q w.globals (entry_is_small p w) (graph_plain p w)) tt refl

pub length_map : (ts : List Ty) → length (map is_signed ts) ≡ length ts
length_map [] = refl
length_map (t ∷ ts) = ap (λ n. suc n) (length_map ts)

pub terms_fit : (p : Program) (q : List ℕ) → WellFormed p → FitTerms (TermsOf p q)
unfolding TermsOf
terms_fit p q w = record {
  terms = subst (λ n. FitFrom n 0 (TermsOf p q).terms.ops) (sym (length_map (input_types p))) (terms_fitted p q w).store;
  conditions = (terms_fitted p q w).done;
}

tells : (p : Program) (q : List ℕ) → WellFormed p → follows (edges (graph p)) q ≡ true → (i : Input) → fits p i ≡ true → Tells p i q (λ t. tv (TermsOf p q).terms t i) (TermsOf p q).conditions
unfolding TermsOf
tells p q w f i h =
    let terms : Terms = (TermsOf p q).terms in
    let fit : AreTerms terms = (terms_fit p q w).terms in
    always_outcome (Tells p i q (λ t. tv terms t i)) (input_word i.values) (λ t. tv terms t i) (conditions_of p q) [] (conditions_tell (λ t. tv terms t i) (tv_small terms i fit (input_small (input_types p) i.values h)) p i q h f w.globals (entry_is_small p w) (small_graph p (graph_plain p w))) (tv_agrees terms i fit)

pub terms_tell : (p : Program) (q : List ℕ) → WellFormed p → follows (edges (graph p)) q ≡ true → Cond p q (TermsOf p q).terms (TermsOf p q).conditions
terms_tell p q w f = record {
  drives = λ i h. (tells p q w f i h).drives;
  nonzero = λ i h. (tells p q w f i h).holds;
}

-- ---- inputs of the program and of the store

same_types : (ts : List Ty) → map declared_ty (map is_signed ts) ≡ ts
same_types [] = refl
same_types (ty.Int ∷ ts) = ap (λ l. ty.Int ∷ l) (same_types ts)
same_types (ty.Unsigned ∷ ts) = ap (λ l. ty.Unsigned ∷ l) (same_types ts)

-- an input fits the store where it fits the program
pub same_fits : (p : Program) (q : List ℕ) (i : Input) → fits_store (TermsOf p q).terms i ≡ fits p i
unfolding TermsOf
same_fits p q i = ap (λ ts. are_of ts i.values) (same_types (input_types p))
