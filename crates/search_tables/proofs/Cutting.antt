-- Clauses in one list of literals, as more literals come.
use Rattle.std.proofs.Common.{◌≡◌, ℕ, ℤ, ◌+◌, ◌-◌, ◌≤◌, List, [], ◌∷◌, ◌++◌, length, map, take, drop, All, refl, sym, ◌∙◌, ap, subst, arith, length-append, length-drop}
use Rattle.std.proofs.Math.Seq.{drop-append_seam}
use Rattle.std.proofs.lemmas.List.{map_push, take-append-le, drop-append-le, take_all}
use Rattle.std.proofs.lemmas.List.Elements.{All-head, All-tail, All-push, All-weaker}
use Rattle.search_tables.specs.declared.clauses.Span.{Span}
use Rattle.search_tables.specs.Clauses.{span_literals, IsInside}

-- a clause stays what it is
span_kept : (literals more : List ℤ) (span : Span) → IsInside literals span → span_literals (literals ++ more) span ≡ span_literals literals span
span_kept literals more span inside =
    let start = span.start in
    let count = span.end - start in
    let long = length-drop start literals in
    ap (take count) (drop-append-le start literals more (omega (arith, inside.ordered, inside.within))) ∙ take-append-le count (drop start literals) more (omega (arith, long, inside.within))

pub spans_kept : (literals more : List ℤ) (spans : List Span) → All (IsInside literals) spans → map (span_literals (literals ++ more)) spans ≡ map (span_literals literals) spans
spans_kept literals more [] inside = refl
spans_kept literals more (span ∷ spans) inside =
    rw (span_kept literals more span (All-head (IsInside literals) span spans inside), spans_kept literals more spans (All-tail (IsInside literals) span spans inside)) refl

pub inside_kept : (literals more : List ℤ) (spans : List Span) → All (IsInside literals) spans → All (IsInside (literals ++ more)) spans
inside_kept literals more spans inside = All-weaker (IsInside literals) (IsInside (literals ++ more)) (λ span h. record { ordered = h.ordered; within = omega (arith, h.within, length-append literals more) }) spans inside

-- the last clause
last_span : (literals more : List ℤ) (span : Span) → span.start ≡ length literals → span.end ≡ length (literals ++ more) → span_literals (literals ++ more) span ≡ more
last_span literals more span start end =
    let long = length-append literals more in
    ap (λ n. take (span.end - span.start) (drop n (literals ++ more))) start ∙ ap (take (span.end - span.start)) (drop-append_seam literals more) ∙ take_all (span.end - span.start) more (omega (arith, start, end, long))

pub spans_pushed : (literals more : List ℤ) (spans : List Span) (span : Span) → All (IsInside literals) spans → span.start ≡ length literals → span.end ≡ length (literals ++ more) → map (span_literals (literals ++ more)) (spans ++ span ∷ []) ≡ map (span_literals literals) spans ++ more ∷ []
spans_pushed literals more spans span inside start end =
    map_push (span_literals (literals ++ more)) spans span ∙ rw (spans_kept literals more spans inside, last_span literals more span start end) refl

pub inside_pushed : (literals more : List ℤ) (spans : List Span) (span : Span) → All (IsInside literals) spans → span.start ≡ length literals → span.end ≡ length (literals ++ more) → All (IsInside (literals ++ more)) (spans ++ span ∷ [])
inside_pushed literals more spans span inside start end =
    All-push (IsInside (literals ++ more)) spans span (inside_kept literals more spans inside) (record { ordered = omega (arith, start, end, length-append literals more); within = omega (arith, end) })
