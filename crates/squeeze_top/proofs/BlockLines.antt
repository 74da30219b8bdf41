-- The lines of no blocks.
use Rattle.std.proofs.Common.{◌≡◌, ℕ, ◌⊎◌, inl, inr, List, [], ◌∷◌, ◌++◌, length, refl, sym, ◌∙◌, ap, arith}
use Rattle.c_tree.specs.declared.program.Func.{Func}
use Rattle.squeeze_top.specs.Answers.{block_lines}

no_funcs : (fs : List Func) (rows : List (List ℕ)) → length fs ≡ 0 → block_lines fs rows ≡ []
no_funcs [] rows h = refl
no_funcs (f ∷ fs) rows h = absurd (omega (arith, h))

no_rows : (fs : List Func) (rows : List (List ℕ)) → length rows ≡ 0 → block_lines fs rows ≡ []
no_rows [] rows h = refl
no_rows (f ∷ fs) [] h = refl
no_rows (f ∷ fs) (row ∷ rows) h = absurd (omega (arith, h))

-- one of the two lists has ended
pub no_lines : {A B : Type 0} {P : A → Type 0} {Q : B → Type 0} (fs : List Func) (rows : List (List ℕ)) → ((x : A) × (length fs ≡ 0 × P x)) ⊎ ((x : B) × (length rows ≡ 0 × Q x))
    → block_lines fs rows ≡ []
no_lines fs rows (inl ended) = no_funcs fs rows ended.1.0
no_lines fs rows (inr ended) = no_rows fs rows ended.1.0

nothing_behind : (text : List ℕ) → text ≡ text ++ []
nothing_behind [] = refl
nothing_behind (x ∷ text) = ap (λ l. x ∷ l) (nothing_behind text)

-- what is written is all, where no line is left
pub all_written : (text rest all : List ℕ) → rest ≡ [] → text ++ rest ≡ all → text ≡ all
all_written text rest all none h = nothing_behind text ∙ (ap (λ l. text ++ l) (sym none) ∙ h)
