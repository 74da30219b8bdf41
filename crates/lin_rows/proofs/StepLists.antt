-- Lists of steps that stay in i128, and lists with a step that leaves it.
use Rattle.std.proofs.Common.{◌↔◌, ◌⊎◌, inl, inr, ⊎_elim, zero, suc, ℤ, ◌^◌, List, [], ◌∷◌, ◌++◌, FitsSigned, Option, Some, None, IsSome, IsNone, refl, subst, arith}
use lib.Signed.{mag}
use Rattle.std.specs.Int.{w128}
use Rattle.std.proofs.lemmas.Bool.{false≢true, true≢false, cases_lt}
use Rattle.std.proofs.lemmas.List.Elements.{All-nil, All-cons, All-head, All-tail}
use Rattle.lin_rows.specs.Steps.{StaysInI128, LeavesI128}

-- the first step, and those after it
pub stays-cons : (z : ℤ) (zs : List ℤ) → StaysInI128 (z ∷ zs) ↔ (FitsSigned w128 z × StaysInI128 zs)
stays-cons z zs = (
  λ h. (All-head (FitsSigned w128) z zs h.each, record { each = All-tail (FitsSigned w128) z zs h.each }),
  λ h. record { each = All-cons (FitsSigned w128) z zs h.0 h.1.each },
)

-- no steps
pub stays-nil : StaysInI128 []
stays-nil = record { each = All-nil (FitsSigned w128) }

-- some steps, and those after them
pub stays-append : (ys zs : List ℤ) → StaysInI128 (ys ++ zs) ↔ (StaysInI128 ys × StaysInI128 zs)
stays-append [] zs = (λ h. (stays-nil, h), λ h. h.1)
stays-append (y ∷ ys) zs =
    let first = stays-cons y (ys ++ zs) in
    let own = stays-cons y ys in
    let rest = stays-append ys zs in (
      λ h. (own.1 ((first.0 h).0, (rest.0 (first.0 h).1).0), (rest.0 (first.0 h).1).1),
      λ h. first.1 ((own.0 h.0).0, rest.1 ((own.0 h.0).1, h.1)),
    )

fits_or_not : (z : ℤ) → FitsSigned w128 z ⊎ (¬ FitsSigned w128 z)
fits_or_not z = ⊎_elim (λ h. inl (record { sfits = h })) (λ h. inr (λ f. omega (arith, h, f.sfits))) (cases_lt (mag z) (2 ^ 127))

later : (z : ℤ) (zs : List ℤ) → LeavesI128 zs → LeavesI128 (z ∷ zs)
later z zs out = (suc out.0, out.1, omega (arith, out.2), out.3, out.4)

-- every step stays in i128, or some step leaves it
pub stays_or_leaves : (zs : List ℤ) → StaysInI128 zs ⊎ LeavesI128 zs
stays_or_leaves [] = inl stays-nil
stays_or_leaves (z ∷ zs) =
    ⊎_elim
    (λ fits. ⊎_elim (λ stays. inl ((stays-cons z zs).1 (fits, stays))) (λ out. inr (later z zs out)) (stays_or_leaves zs))
    (λ fails. inr (zero, z, omega arith, refl, fails))
    (fits_or_not z)

-- not both
pub stays-leaves : (zs : List ℤ) → StaysInI128 zs → ¬ LeavesI128 zs
stays-leaves zs stays out = out.4 (subst (FitsSigned w128) out.3 (stays.each out.0 out.1 out.2))

-- what an answer says of the steps: there is one exactly where every step stays in i128, and none exactly where a step leaves it
pub record Tells {T : Type 0} (answer : Option T) (steps : List ℤ) : Type 0 where
  pub none : IsNone answer ↔ LeavesI128 steps
  pub some : IsSome answer ↔ StaysInI128 steps

pub Tells-some : {T : Type 0} (x : T) (steps : List ℤ) → StaysInI128 steps → Tells (Some x) steps
Tells-some x steps stays = record {
  none = (λ e. absurd (true≢false e), λ out. absurd (stays-leaves steps stays out));
  some = (λ e. stays, λ h. refl);
}

pub Tells-none : {T : Type 0} (steps : List ℤ) → ¬ StaysInI128 steps → Tells {T = T} None steps
Tells-none steps fails = record {
  none = (λ e. ⊎_elim (λ stays. absurd (fails stays)) (λ out. out) (stays_or_leaves steps), λ out. refl);
  some = (λ e. absurd (false≢true e), λ stays. absurd (fails stays));
}
