-- What trying a list says: the input of zeros fits, and where there is no input number it is the only one.
use Rattle.std.proofs.Common.{◌≡◌, ◌≤◌, ◌<◌, ℕ, zero, suc, ℤ, pos, true, List, [], ◌∷◌, length, map, replicate, refl, sym, ap, ◌∙◌, subst, arith}
use Rattle.std.proofs.lemmas.Bool.{false≢true}
use Rattle.c_tree.specs.declared.tree.Ty.{Ty}
use Rattle.c_tree.specs.declared.tree.Ty.TheVariants.{Int, Unsigned}
use Rattle.c_tree.specs.declared.program.Program.{Program}
use Rattle.c_tree.specs.declared.program.Input.{Input}
use Rattle.c_tree.specs.Meaning.Runs.{are_of, fits, input_types}
use Rattle.flow_laws.specs.Driving.{Drives}
use Rattle.path_formulas.specs.FormulasOfLists.{IsDrivenBy, IsDrivenByNone}
use Rattle.cond_laws.specs.TermPaths.{TermsOf, is_signed}
use Rattle.cond_laws.specs.Weights.{weight, most_weight}
use Rattle.race_item.specs.Facts.{zero_input}
use Rattle.cond_laws.proofs.Paths.Whole.{length_map}

zeros_are_of : (ts : List Ty) → are_of ts (replicate (length ts) (pos 0)) ≡ true
zeros_are_of [] = refl
zeros_are_of (Int ∷ ts) = zeros_are_of ts
zeros_are_of (Unsigned ∷ ts) = zeros_are_of ts

pub zeros_fit : (p : Program) → fits p (zero_input p) ≡ true
zeros_fit p = zeros_are_of (input_types p)

pub not_driven : (p : Program) (q : List ℕ) → ¬ IsDrivenBy p q (zero_input p) → ¬ Drives p (zero_input p) q
not_driven p q fail drives = fail (record { fitting = zeros_fit p; driving = drives })

none_of : (ts : List Ty) (zs : List ℤ) → length ts ≡ 0 → are_of ts zs ≡ true → zs ≡ []
none_of [] [] n h = refl
none_of [] (z ∷ zs) n h = absurd (false≢true h)
none_of (t ∷ ts) zs n h = absurd (omega (arith, n))

-- where there is no input number, no input drives what zeros do not
pub none_drives : (p : Program) (q : List ℕ) → length (input_types p) ≡ 0 → ¬ IsDrivenBy p q (zero_input p) → IsDrivenByNone p q
none_drives p q none fail i by =
    let empty = none_of (input_types p) i.values none by.fitting in
    let zero_values : replicate (length (input_types p)) (pos 0) ≡ [] = ap (λ n. replicate n (pos 0)) none in
    let same : i ≡ zero_input p = ap (λ (vs : List ℤ). record { values = vs }) (empty ∙ sym zero_values) in
    fail (subst (IsDrivenBy p q) same by)

pub nothing_weighs : (p : Program) → weight p [] ≤ most_weight
unfolding weight
nothing_weighs p = omega arith

pub inputs_of : (p : Program) → length (TermsOf p []).terms.inputs ≡ length (input_types p)
unfolding TermsOf
inputs_of p = length_map (input_types p)

-- whether there is an input number, by the input of zeros
zero_many : (n : ℕ) → replicate n (pos 0) ≡ [] → n ≡ 0
zero_many zero h = refl
zero_many (suc n) h = absurd (cc)

pub no_numbers : (p : Program) (i : Input) → i ≡ zero_input p → i.values ≡ [] → length (input_types p) ≡ 0
no_numbers p i is empty = zero_many (length (input_types p)) (sym (ap (λ (j : Input). j.values) is) ∙ empty)

some_many : (n : ℕ) → (replicate n (pos 0) ≡ [] → ⊥) → 0 < n
some_many zero h = absurd (h refl)
some_many (suc n) h = omega arith

pub some_numbers : (p : Program) (i : Input) → i ≡ zero_input p → (i.values ≡ [] → ⊥) → 0 < length (input_types p)
some_numbers p i is full = some_many (length (input_types p)) (λ h. full (ap (λ (j : Input). j.values) is ∙ h))
