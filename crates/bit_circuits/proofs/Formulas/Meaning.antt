-- What the clauses of conditions say.
use Rattle.std.proofs.Common.{◌≡◌, ◌≢◌, ◌↔◌, ◌==◌, ℕ, zero, suc, ◌+◌, ◌*◌, ◌<◌, ◌≤◌, ℤ, pos, negsuc, neg_ℤ, Bool, true, false, not, ◌&&◌, ◌||◌, List, [], ◌∷◌, ◌++◌, map, length, All, IsTrue, unsigned_abs, refl, sym, ap, ◌∙◌, subst, arith}
use Rattle.std.specs.Prelude.{slice_index}
use Rattle.std.specs.Bool.{Decides}
use Rattle.std.specs.List.{slice_index_or, list_any, list_all}
use Rattle.std.proofs.lemmas.Bool.{and_parts, and_from}
use Rattle.std.proofs.lemmas.Bool.Decides.{Decides-by_and, Decides-not, Decides-eqb, Decides-at}
use Rattle.std.proofs.lemmas.List.Folds.{list_all-append}
use Rattle.cnf_form.specs.Truth.{literal_true, clause_true, Satisfies}
use Rattle.c_tree.specs.declared.program.Input.{Input}
use Rattle.bv_term.specs.declared.op.Op.{Op}
use Rattle.bv_term.specs.Stores.{Terms, AreTerms as AreTermsOf, FitFrom, input_word, words_from, op_words, tv}
use Rattle.plain_laws.proofs.Booleans.{or-false}
use Rattle.bit_circuits.specs.declared.gate.Gate.{Gate}
use Rattle.bit_circuits.specs.Tidy.{tidy_clauses}
use Rattle.bit_circuits.specs.Gates.{gates_clauses}
use Rattle.bit_circuits.specs.Circuits.{number_after}
use Rattle.bit_circuits.specs.Words.{word_value, true_literal, false_literal}
use Rattle.bit_circuits.specs.Formula.{first_of, input_bits, bits_at, terms_bits, terms_wired, variables_of, clauses_of, VariablesOf, ClausesOf, decoded_from, decoded_words, IsFormulaOf}
use Rattle.bit_circuits.proofs.Circuits.Building.{IsBelow, Below, Builds, IsTruth, Scoped, Holds, IsBelow-later, le-past}
use Rattle.bit_circuits.proofs.WordArithmetic.Values.{falsity_is}
use Rattle.bit_circuits.proofs.WordArithmetic.Bitwise.{list_any-word}
use Rattle.bit_circuits.proofs.Formulas.Gating.{formula_true, BelowAll, tidy_clauses-true, gates-true}
use Rattle.bit_circuits.proofs.Formulas.Fitting.{are-over, term_word, FitsInputs, inputs-fit, fit-inputs}
use Rattle.bit_circuits.proofs.WordArithmetic.Terms.{AreTerms, Words, Below-bits_at, word_value-bits_at, terms_bits-builds}
use Rattle.bit_circuits.proofs.Formulas.Extending.{extended, extended-same, extended-holds, length-extended}
use Rattle.bit_circuits.proofs.Formulas.Decoding.{decoded_words-fits, decoded_words-read, decoded_words-given, decoded_words-same, bits_of_inputs, length-inputs, length-fits}

not_not : (b : Bool) → b ≡ not (not b)
not_not true = refl
not_not false = refl

literal_true-neg : (values : List Bool) (l : ℤ) → 0 < unsigned_abs l → literal_true values (neg_ℤ l) ≡ not (literal_true values l)
literal_true-neg values (pos zero) h = absurd (omega arith)
literal_true-neg values (pos (suc n)) h = refl
literal_true-neg values (negsuc n) h = not_not (slice_index_or values n false)

pub true_literal-of : (values : List Bool) (G : Type 0) → (G → literal_true values (pos 1) ≡ true) → IsTruth (literal_true values) G
true_literal-of values G one = record { one = one; opposite = literal_true-neg values }

satisfies : (values : List Bool) (cs : List (List ℤ)) → Decides (formula_true (literal_true values) cs) (Satisfies values cs)
satisfies values cs = Decides-by_and (clause_true values) (λ c. IsTrue (clause_true values c)) (formula_true (literal_true values)) (λ c. (λ h. h, λ h. h)) refl (λ _ _. refl) cs

module _ (inputs : List Bool) (ops : List Op) (conditions : List ℕ) (over : FitFrom (length inputs) 0 ops) where
  gates_of : List Gate
  gates_of = (terms_wired (length inputs) ops).gates

  bits_of_terms : List (List ℤ)
  bits_of_terms = (terms_wired (length inputs) ops).out

  first : ℕ
  first = first_of (length inputs)

  -- each gate names earlier variables, and the terms' bits are of variables so far, whatever holds
  scope : Scoped first gates_of × Words (number_after first gates_of) bits_of_terms
  unfolding gates_of bits_of_terms first
  scope =
      let b = (terms_bits-builds (literal_true []) ⊥ (length inputs) (input_word []) (first_of (length inputs)) [] ops (true_literal-of [] ⊥ (λ given. absurd given)) (are-over (length inputs) 0 ops over) (omega arith) (λ given. absurd given) tt).built (λ given. absurd given) in
      (b.0, b.1.words)

  -- where the gates hold, the terms' bits write their values at the decoded input
  terms_are : (values : List Bool) → literal_true values (pos 1) ≡ true → Holds (literal_true values) first gates_of → map (word_value (literal_true values)) bits_of_terms ≡ op_words ops (decoded_words inputs values)
  unfolding gates_of bits_of_terms first op_words
  terms_are values one holds =
      let zs = decoded_words inputs values in
      let reads : (k : ℕ) → k < length inputs → word_value (literal_true values) (input_bits k) ≡ input_word zs k =
      λ k h. ap (λ j. word_value (literal_true values) (input_bits j)) (omega arith) ∙ decoded_words-read values 0 inputs k h in
      let b = (terms_bits-builds (literal_true values) (Unit {0}) (length inputs) (input_word zs) (first_of (length inputs)) [] ops (true_literal-of values (Unit {0}) (λ given. one)) (are-over (length inputs) 0 ops over) (omega arith) (λ given. reads) tt).built (λ given. holds) in
      b.1.value tt

  conditions-below : (ts : List ℕ) → BelowAll (number_after first gates_of) (map (bits_at bits_of_terms) ts)
  unfolding first
  conditions-below [] = tt
  conditions-below (t ∷ ts) = (Below-bits_at (number_after first gates_of) bits_of_terms t (omega (arith, le-past first gates_of)) scope.1, conditions-below ts)

  pub gates-scoped : Scoped (first_of (length inputs)) (terms_wired (length inputs) ops).gates
  unfolding gates_of first
  gates-scoped = scope.0

  pub conditions-scoped : BelowAll (number_after (first_of (length inputs)) (terms_wired (length inputs) ops).gates) (map (bits_at (terms_wired (length inputs) ops).out) conditions)
  unfolding gates_of bits_of_terms first
  conditions-scoped = conditions-below conditions

  -- the clauses of the conditions
  nonzero : (values : List Bool) → literal_true values (pos 1) ≡ true → Holds (literal_true values) first gates_of
      → Decides (formula_true (literal_true values) (tidy_clauses (map (bits_at bits_of_terms) conditions))) (All (λ t. term_word ops t (decoded_words inputs values) ≢ 0) conditions)
  unfolding term_word
  nonzero values one holds =
      let v = literal_true values in
      let zs = decoded_words inputs values in
      let truths : IsTruth v (Unit {0}) = true_literal-of values (Unit {0}) (λ given. one) in
      let value : (t : ℕ) → word_value v (bits_at bits_of_terms t) ≡ term_word ops t zs =
      λ t. word_value-bits_at v bits_of_terms t (falsity_is truths tt) ∙ ap (λ ws. slice_index ws t) (terms_are values one holds) in
      let each : (t : ℕ) → Decides (list_any v (bits_at bits_of_terms t)) (term_word ops t zs ≢ 0) =
      λ t. Decides-at (list_any v (bits_at bits_of_terms t)) (not (term_word ops t zs == 0)) (list_any-word v (bits_at bits_of_terms t) ∙ ap (λ x. not (x == 0)) (value t)) (Decides-not (term_word ops t zs == 0) (Decides-eqb (term_word ops t zs) 0)) in
      Decides-at (formula_true v (tidy_clauses (map (bits_at bits_of_terms) conditions))) (formula_true v (map (bits_at bits_of_terms) conditions)) (tidy_clauses-true v (Unit {0}) (number_after first gates_of) (map (bits_at bits_of_terms) conditions) truths (conditions-below conditions))
      (Decides-by_and (λ t. list_any v (bits_at bits_of_terms t)) (λ t. term_word ops t zs ≢ 0) (λ ts. formula_true v (map (bits_at bits_of_terms) ts)) each refl (λ _ _. refl) conditions)

  -- the whole formula
  parts : (values : List Bool) → formula_true (literal_true values) (clauses_of (length inputs) ops conditions) ≡ ((literal_true values (pos 1) || false) && (formula_true (literal_true values) (gates_clauses first gates_of) && formula_true (literal_true values) (tidy_clauses (map (bits_at bits_of_terms) conditions))))
  unfolding clauses_of gates_of bits_of_terms first
  parts values = ap (λ z. (literal_true values (pos 1) || false) && z) (list_all-append (list_any (literal_true values)) (gates_clauses first gates_of) (tidy_clauses (map (bits_at bits_of_terms) conditions)))

  first-some : 0 < first
  unfolding first
  first-some = omega arith

  -- a satisfying assignment
  sound : (values : List Bool) → Satisfies values (clauses_of (length inputs) ops conditions) → All (λ t. term_word ops t (decoded_words inputs values) ≢ 0) conditions
  sound values s =
      let v = literal_true values in
      let all = sym (parts values) ∙ (satisfies values (clauses_of (length inputs) ops conditions)).1 s in
      let one = and_parts (v (pos 1) || false) (formula_true v (gates_clauses first gates_of) && formula_true v (tidy_clauses (map (bits_at bits_of_terms) conditions))) all in
      let rest = and_parts (formula_true v (gates_clauses first gates_of)) (formula_true v (tidy_clauses (map (bits_at bits_of_terms) conditions))) one.1 in
      let is : v (pos 1) ≡ true = sym (or-false (v (pos 1))) ∙ one.0 in
      let holds = (gates-true v (Unit {0}) first gates_of first-some (true_literal-of values (Unit {0}) (λ given. is)) scope.0).0 rest.0 in
      (nonzero values is holds).0 rest.1

  -- the assignment at an input
  at_input : List ℤ → List Bool
  at_input zs = extended (true ∷ bits_of_inputs zs) gates_of

  at_input-one : (zs : List ℤ) → literal_true (at_input zs) (pos 1) ≡ true
  unfolding at_input
  at_input-one zs = extended-same (true ∷ bits_of_inputs zs) gates_of (pos 1) (record { some = omega arith; below = omega arith })

  base-size : (zs : List ℤ) → FitsInputs inputs zs → suc (length (true ∷ bits_of_inputs zs)) ≡ first
  unfolding first
  base-size zs fits = omega (arith, length-inputs zs, length-fits inputs zs fits)

  at_input-decoded : (zs : List ℤ) → FitsInputs inputs zs → decoded_words inputs (at_input zs) ≡ zs
  unfolding at_input first
  at_input-decoded zs fits =
      let base = true ∷ bits_of_inputs zs in
      decoded_words-same (extended base gates_of) base first 0 inputs (omega arith) (λ l b. extended-same base gates_of l (IsBelow-later (omega (arith, base-size zs fits)) b))
      ∙ decoded_words-given (true ∷ []) 0 inputs zs refl fits

  at_input-holds : (zs : List ℤ) → FitsInputs inputs zs → Holds (literal_true (at_input zs)) first gates_of
  unfolding at_input
  at_input-holds zs fits = extended-holds (true ∷ bits_of_inputs zs) first gates_of (sym (base-size zs fits)) scope.0

  at_input-size : (zs : List ℤ) → FitsInputs inputs zs → length (at_input zs) ≡ variables_of (length inputs) ops
  unfolding at_input first variables_of gates_of
  at_input-size zs fits = length-extended (true ∷ bits_of_inputs zs) gates_of ∙ omega (arith, base-size zs fits)

  complete : (zs : List ℤ) → FitsInputs inputs zs → All (λ t. term_word ops t zs ≢ 0) conditions → Satisfies (at_input zs) (clauses_of (length inputs) ops conditions)
  complete zs fits all =
      let values = at_input zs in
      let v = literal_true values in
      let one = at_input-one zs in
      let holds = at_input-holds zs fits in
      let here : All (λ t. term_word ops t (decoded_words inputs values) ≢ 0) conditions = subst (λ ys. All (λ t. term_word ops t ys ≢ 0) conditions) (sym (at_input-decoded zs fits)) all in
      let gates = (gates-true v (Unit {0}) first gates_of first-some (true_literal-of values (Unit {0}) (λ given. one)) scope.0).1 holds in
      let last = (nonzero values one holds).1 here in
      (satisfies values (clauses_of (length inputs) ops conditions)).0
      (parts values ∙ and_from (v (pos 1) || false) (formula_true v (gates_clauses first gates_of) && formula_true v (tidy_clauses (map (bits_at bits_of_terms) conditions))) (or-false (v (pos 1)) ∙ one)
      (and_from (formula_true v (gates_clauses first gates_of)) (formula_true v (tidy_clauses (map (bits_at bits_of_terms) conditions))) gates last))

  pub clauses-fit : (values : List Bool) → FitsInputs inputs (decoded_words inputs values)
  clauses-fit values = decoded_words-fits values 0 inputs

  pub clauses-solved : (zs : List ℤ) → FitsInputs inputs zs
      → All (λ t. term_word ops t zs ≢ 0) conditions ↔ ((values : List Bool) × (length values ≡ variables_of (length inputs) ops) × Satisfies values (clauses_of (length inputs) ops conditions) × (decoded_words inputs values ≡ zs))
  clauses-solved zs fits = (
    λ all. (at_input zs, at_input-size zs fits, complete zs fits all, at_input-decoded zs fits),
    λ found. subst (λ ys. All (λ t. term_word ops t ys ≢ 0) conditions) found.3 (sound found.0 found.2),
  )

input_with : List ℤ → Input
input_with zs = record { values = zs }

values_of : Input → List ℤ
values_of i = i.values

pub clauses-are : (terms : Terms) (conditions : List ℕ) → AreTermsOf terms → IsFormulaOf terms conditions (VariablesOf terms) (ClausesOf terms conditions)
unfolding tv term_word input_with values_of
clauses-are terms conditions fit = record {
  fits = λ values s. fit-inputs terms.inputs (decoded_words terms.inputs values) (clauses-fit terms.inputs terms.ops conditions fit values);
  solved = λ i fits.
      let both = clauses-solved terms.inputs terms.ops conditions fit i.values (inputs-fit terms.inputs i.values fits) in (
        λ all. let found = both.0 all in (found.0, found.1, found.2, ap input_with found.3),
        λ found. both.1 (found.0, found.1, found.2, ap values_of found.3),
      );
}
