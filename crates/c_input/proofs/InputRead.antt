-- Reading the text of a fitting input.
use Rattle.std.proofs.Common.{◌≡◌, ℕ, List, drop, Option, Some, None, Result, Ok, Err, IfOk, MatchOption, IsTrue, ℤ, sym, ap, ◌∙◌, subst}
use Rattle.c_tree.specs.declared.program.Program.{Program}
use Rattle.c_tree.specs.declared.program.Input.{Input}
use Rattle.c_tree.specs.Meaning.Runs.{fits}
use Rattle.c_input.specs.InputTexts.{input_leads, led_numbers, input_text, HasText, IsInputOf}
use Rattle.c_input.specs.Reading.{Suits}
use Rattle.c_input.proofs.InputLeads.{fitting_suits}
use Rattle.c_input.proofs.InputSteps.{none_some, some_same, same_numbers}

-- the numbers found are those of each fitting input that has this text
abbrev pub Finds : Program → List ℕ → Option (List ℤ) → Type 0
Finds p text found = (i : Input) → IsTrue (fits p i) → input_text p i ≡ text → found ≡ Some i.values

pub finds : (p : Program) (leads : List (List ℕ)) (bytes text : List ℕ) (found : Option (List ℤ)) → leads ≡ input_leads p → bytes ≡ text → ((zs : List ℤ) → Suits leads zs → bytes ≡ drop 1 (led_numbers leads zs) → found ≡ Some zs) → Finds p text found
finds p leads bytes text found is same told i fit e =
    told i.values (subst (λ ls. Suits ls i.values) (sym is) (fitting_suits p i fit)) (same ∙ sym e ∙ ap (λ ls. drop 1 (led_numbers ls i.values)) (sym is))

pub nothing_read : (p : Program) (text : List ℕ) (found : Option (List ℤ)) → Finds p text found → found ≡ None → (i : Input) → IsTrue (fits p i) → input_text p i ≡ text → ⊥
nothing_read p text found told none i fit e = none_some found i.values none (told i fit e)

-- what is told of an input that is checked
abbrev Checks : Program → List ℕ → Input → Option Input → Type 0
Checks p text input answer =
    MatchOption answer (¬ (HasText p text input)) (λ i. (i ≡ input) × HasText p text input)

answer_read : (p : Program) (text : List ℕ) (values : List ℤ) (found : Option (List ℤ)) (answer : Option Input) → Finds p text found → found ≡ Some values → Checks p text (record { values = values }) answer → IsInputOf p text answer
answer_read p text values found None told is h = λ i fit e.
    let same : i.values ≡ values = some_same found i.values values (told i fit e) is in
    h (subst (λ vs. HasText p text (record { values = vs })) same (fit, e))
answer_read p text values found (Some i) told is h = subst (HasText p text) (sym h.0) h.1

pub checked_read : {E : Type 0} (p : Program) (bytes text : List ℕ) (values : List ℤ) (found : Option (List ℤ)) (r : Result (Option Input) E) → Finds p text found → found ≡ Some values → bytes ≡ text → IfOk r (Checks p bytes (record { values = values })) → IfOk r (IsInputOf p text)
checked_read p bytes text values found (Ok answer) told is same h =
    answer_read p text values found answer told is (subst (λ text. Checks p text (record { values = values }) answer) same h)
checked_read p bytes text values found (Err e) told is same h = tt

-- a text is that of one fitting input at most
pub one_input : (p : Program) (i j : Input) → IsTrue (fits p i) → IsTrue (fits p j) → input_text p i ≡ input_text p j → i ≡ j
one_input p i j fit_i fit_j same =
    let values = same_numbers (input_leads p) i.values j.values (fitting_suits p i fit_i) (fitting_suits p j fit_j) same in
    ap (λ vs. record { values = vs }) values
