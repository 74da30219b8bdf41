-- An input drives a list exactly where the words of all its conditions are nonzero.
use Rattle.std.proofs.Common.{◌≡◌, ◌↔◌, ℕ, true, false, List, [], length, IsTrue, ℤ, sym, ap, ◌∙◌, subst, arith}
use Rattle.std.specs.Prelude.{slice_index}
use Rattle.std.proofs.lemmas.Bool.{false≢true}
use Rattle.c_tree.specs.declared.program.Program.{Program}
use Rattle.c_tree.specs.declared.program.Input.{Input}
use Rattle.c_tree.specs.Meaning.Runs.{fits}
use Rattle.bv_term.specs.declared.op.Op.{Op}
use Rattle.bv_term.specs.Stores.{Terms, op_words, input_word, tv}
use Rattle.cond_laws.specs.Judged.{all_hold}
use Rattle.cond_laws.specs.Conditions.{AllBelow, Cond}
use Rattle.path_formulas.specs.FormulasOfLists.{IsDrivenBy}
use Rattle.bv_term.proofs.ValueLaws.{words_many}

-- there is a word for each term
pub length-words : (ops : List Op) (zs : List ℤ) → length (op_words ops zs) ≡ length ops
unfolding op_words
length-words ops zs = omega (arith, words_many (input_word zs) [] ops)

-- each of these terms has a word
pub words_for_terms : (terms : Terms) (conditions : List ℕ) (i : Input) (ws ts : List ℕ)
    → AllBelow (length terms.ops) conditions → ws ≡ op_words terms.ops i.values → ts ≡ conditions → AllBelow (length ws) ts
words_for_terms terms conditions i ws ts below are same =
    let count : length terms.ops ≡ length ws = sym (ap length are ∙ length-words terms.ops i.values) in
    subst (λ k. AllBelow k ts) count (subst (AllBelow (length terms.ops)) (sym same) below)

-- an input that fits drives the list exactly where the words of its conditions are nonzero
pub driven_exactly : (p : Program) (q : List ℕ) (i : Input) (terms : Terms) (conditions ws : List ℕ)
    → fits p i ≡ true → Cond p q terms conditions → ws ≡ op_words terms.ops i.values
    → IsTrue (all_hold (slice_index ws) conditions) ↔ IsDrivenBy p q i
unfolding tv
driven_exactly p q i terms conditions ws fit cond is = (
  λ holds. record { fitting = fit; driving = cond.drives i fit (subst (λ l. all_hold (slice_index l) conditions ≡ true) is holds) },
  λ driven. subst (λ l. all_hold (slice_index l) conditions ≡ true) (sym is) (cond.nonzero i fit driven.driving),
)

-- an input that does not fit drives nothing
pub unfit_drives_nothing : (p : Program) (q : List ℕ) (i : Input) → fits p i ≡ false → IsTrue false ↔ IsDrivenBy p q i
unfit_drives_nothing p q i unfit = (λ holds. absurd (false≢true holds), λ driven. sym unfit ∙ driven.fitting)
