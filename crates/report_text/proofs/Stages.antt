-- Which lines each stage allows, as the parts of its course.
use Rattle.std.proofs.Common.{◌≡◌, ℕ, ◌⊎◌, inl, inr, Some, None, refl, sym, ◌∙◌, ap, subst, arith, eqb-true}
use Rattle.std.proofs.lemmas.Bool.{false≢true}
use Rattle.report_text.specs.declared.report.ReportLine.{ReportLine}
use Rattle.report_text.specs.declared.report.ReportLine.TheVariants.{Copies, Ipet, Bound, Found, Exact, Nothing, Inexact, Best, Spent as SpentLine}
use Rattle.report_text.specs.declared.report.Spent.TheVariants.{Turns, Conflicts, Weight}
use Rattle.report_text.specs.declared.report.Shown.{Shown}
use Rattle.report_text.specs.declared.kind.Kind.TheVariants as kind
use Rattle.report_text.specs.declared.stage.Stage.TheVariants.{Start, BehindCopies, Watching, BehindInexact, BehindBest}
use Rattle.report_text.specs.Texts.{same}
use Rattle.report_text.specs.Courses.{IsOfKind}
use Rattle.report_text.specs.Form.{Allows, IsEnd}

abbrev pub Only : ReportLine → ReportLine → Type 0
Only line other = other ≡ line

-- ---- Start, BehindCopies

pub copies_to : (line : ReportLine) → IsOfKind kind.Copies None line → Allows Start line
copies_to line k = subst (Allows Start) (sym k.is) (omega (arith, k.choice.0))

pub copies_from : (line : ReportLine) → Allows Start line → IsOfKind kind.Copies None line
copies_from (Copies n) h = record { n = n; choice = (omega (arith, h), refl); is = refl }
copies_from line h = absurd h

pub ipet_to : (line : ReportLine) → IsOfKind kind.Ipet None line → Allows BehindCopies line
ipet_to line k = subst (Allows BehindCopies) (sym k.is) (omega (arith, k.choice.0))

pub ipet_from : (line : ReportLine) → Allows BehindCopies line → IsOfKind kind.Ipet None line
ipet_from (Ipet n) h = record { n = n; choice = (omega (arith, h), refl); is = refl }
ipet_from line h = absurd h

-- ---- the end

pub end_to : (line : ReportLine) → IsOfKind kind.Exact None line ⊎ (IsOfKind kind.Inexact None line ⊎ Only Nothing line) → IsEnd line
end_to line (inl k) = subst IsEnd (sym k.is) (omega (arith, k.choice.0))
end_to line (inr (inl k)) = subst IsEnd (sym k.is) (omega (arith, k.choice.0))
end_to line (inr (inr is)) = subst IsEnd (sym is) tt

pub end_from : (line : ReportLine) → IsEnd line → IsOfKind kind.Exact None line ⊎ (IsOfKind kind.Inexact None line ⊎ Only Nothing line)
end_from (Exact n) h = inl (record { n = n; choice = (omega (arith, h), refl); is = refl })
end_from (Inexact n) h = inr (inl (record { n = n; choice = (omega (arith, h), refl); is = refl }))
end_from Nothing h = inr (inr refl)
end_from line h = absurd h

pub best_to : (line : ReportLine) → IsOfKind kind.Best None line ⊎ Only (Best None) line → Allows BehindInexact line
best_to line (inl k) = subst (Allows BehindInexact) (sym k.is) (omega (arith, k.choice.0))
best_to line (inr is) = subst (Allows BehindInexact) (sym is) tt

pub best_from : (line : ReportLine) → Allows BehindInexact line → IsOfKind kind.Best None line ⊎ Only (Best None) line
best_from (Best (Some n)) h = inl (record { n = n; choice = (omega (arith, h), refl); is = refl })
best_from (Best None) h = inr refl
best_from line h = absurd h

pub spent_to : (line : ReportLine) → IsOfKind kind.Turns None line ⊎ (IsOfKind kind.Conflicts None line ⊎ Only (SpentLine Weight 262144) line) → Allows BehindBest line
spent_to line (inl k) = subst (Allows BehindBest) (sym k.is) (omega (arith, k.choice.0), refl)
spent_to line (inr (inl k)) = subst (Allows BehindBest) (sym k.is) (omega (arith, k.choice.0), refl)
spent_to line (inr (inr is)) = subst (Allows BehindBest) (sym is) (omega arith, refl)

pub spent_from : (line : ReportLine) → Allows BehindBest line → IsOfKind kind.Turns None line ⊎ (IsOfKind kind.Conflicts None line ⊎ Only (SpentLine Weight 262144) line)
spent_from (SpentLine Turns n) h = inl (record { n = n; choice = (omega (arith, h.0), refl); is = refl })
spent_from (SpentLine Conflicts n) h = inr (inl (record { n = n; choice = (omega (arith, h.0), refl); is = refl }))
spent_from (SpentLine Weight n) h = inr (inr (ap (λ m. SpentLine Weight m) (eqb-true n 262144 h.1)))
spent_from line h = absurd h

-- ---- among the shown values

pub first_to : (line : ReportLine) → IsOfKind kind.Bound None line ⊎ (Only (Bound None) line ⊎ IsEnd line) → Allows (Watching None) line
first_to line (inl k) = subst (Allows (Watching None)) (sym k.is) (omega (arith, k.choice.0), refl)
first_to line (inr (inl is)) = subst (Allows (Watching None)) (sym is) (tt, refl)
first_to (Exact n) (inr (inr h)) = h
first_to Nothing (inr (inr h)) = tt
first_to (Inexact n) (inr (inr h)) = h
first_to line (inr (inr h)) = absurd h

pub first_from : (line : ReportLine) → Allows (Watching None) line → IsOfKind kind.Bound None line ⊎ (Only (Bound None) line ⊎ IsEnd line)
first_from (Bound (Some n)) h = inl (record { n = n; choice = (omega (arith, h.0), refl); is = refl })
first_from (Bound None) h = inr (inl refl)
first_from (Exact n) h = inr (inr h)
first_from Nothing h = inr (inr tt)
first_from (Inexact n) h = inr (inr h)
first_from line h = absurd h

end_any : (before : Shown) (line : ReportLine) → IsEnd line → Allows (Watching (Some before)) line
end_any before (Exact n) h = h
end_any before Nothing h = tt
end_any before (Inexact n) h = h
end_any before line h = absurd h

found_to : (before : Shown) (line : ReportLine) → IsOfKind kind.Found before.best line → Allows (Watching (Some before)) line
found_to before line k = subst (Allows (Watching (Some before))) (sym k.is) (omega (arith, k.choice.0), k.choice.1)

-- behind a value without a bound
pub unbounded_to : (before : Shown) → before.bound ≡ None → (line : ReportLine) → IsOfKind kind.Bound None line ⊎ (IsOfKind kind.Found before.best line ⊎ IsEnd line) → Allows (Watching (Some before)) line
unbounded_to before none line (inl k) = subst (Allows (Watching (Some before))) (sym k.is) (omega (arith, k.choice.0), ap (λ b. same b (Some k.n)) none)
unbounded_to before none line (inr (inl k)) = found_to before line k
unbounded_to before none line (inr (inr h)) = end_any before line h

pub unbounded_from : (before : Shown) → before.bound ≡ None → (line : ReportLine) → Allows (Watching (Some before)) line → IsOfKind kind.Bound None line ⊎ (IsOfKind kind.Found before.best line ⊎ IsEnd line)
unbounded_from before none (Bound (Some n)) h = inl (record { n = n; choice = (omega (arith, h.0), refl); is = refl })
unbounded_from before none (Bound None) h = absurd (false≢true (sym h.1 ∙ ap (λ b. same b None) none))
unbounded_from before none (Found n) h = inr (inl (record { n = n; choice = (omega (arith, h.0), h.1); is = refl }))
unbounded_from before none (Exact n) h = inr (inr h)
unbounded_from before none Nothing h = inr (inr tt)
unbounded_from before none (Inexact n) h = inr (inr h)
unbounded_from before none line h = absurd h

-- behind a value with a bound
pub bounded_to : (before : Shown) (bound : ℕ) → before.bound ≡ Some bound → (line : ReportLine) → IsOfKind kind.Bound (Some bound) line ⊎ (Only (Bound None) line ⊎ (IsOfKind kind.Found before.best line ⊎ IsEnd line)) → Allows (Watching (Some before)) line
bounded_to before bound is line (inl k) = subst (Allows (Watching (Some before))) (sym k.is) (omega (arith, k.choice.0), ap (λ b. same b (Some k.n)) is ∙ k.choice.1)
bounded_to before bound is line (inr (inl only)) = subst (Allows (Watching (Some before))) (sym only) (tt, ap (λ b. same b None) is)
bounded_to before bound is line (inr (inr (inl k))) = found_to before line k
bounded_to before bound is line (inr (inr (inr h))) = end_any before line h

pub bounded_from : (before : Shown) (bound : ℕ) → before.bound ≡ Some bound → (line : ReportLine) → Allows (Watching (Some before)) line → IsOfKind kind.Bound (Some bound) line ⊎ (Only (Bound None) line ⊎ (IsOfKind kind.Found before.best line ⊎ IsEnd line))
bounded_from before bound is (Bound (Some n)) h = inl (record { n = n; choice = (omega (arith, h.0), sym (ap (λ b. same b (Some n)) is) ∙ h.1); is = refl })
bounded_from before bound is (Bound None) h = inr (inl refl)
bounded_from before bound is (Found n) h = inr (inr (inl (record { n = n; choice = (omega (arith, h.0), h.1); is = refl })))
bounded_from before bound is (Exact n) h = inr (inr (inr h))
bounded_from before bound is Nothing h = inr (inr (inr tt))
bounded_from before bound is (Inexact n) h = inr (inr (inr h))
bounded_from before bound is line h = absurd h
