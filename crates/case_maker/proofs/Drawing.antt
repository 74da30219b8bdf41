-- States after more draws, and what is drawn from a later state on.
use Rattle.std.proofs.Common.{◌≡◌, ℕ, zero, suc, ◌+◌, ◌*◌, ◌%◌, List, [], ◌∷◌, ◌++◌, length, refl, ap, sym, ◌∙◌, arith, add-one}
use Rattle.std.proofs.Math.Nat.{mod-add-mod}
use Rattle.std.proofs.lemmas.List.FromFn.{map-range_with_len_more, length-map-range_with_len}
use Rattle.std.proofs.lemmas.List.{flat_map_more}
use Rattle.case_maker.specs.declared.segment.Segment.{Segment}
use Rattle.case_maker.specs.Draws.{next_state, draw_state, draw, drawn_at}
use Rattle.case_maker.specs.Segments.{segment_at, segments}
use Rattle.case_maker.specs.Lines.{ended_line, joined_lines, cost_line, cost_lines}

-- a product that wraps before the sum does
pub next_state-wraps : (s : ℕ) → (s * 25173 % 65536 + 13849) % 65536 ≡ next_state s
unfolding next_state
next_state-wraps s = mod-add-mod (s * 25173) 65536 13849

pub draw_state-more : (first n : ℕ) → draw_state first (n + 1) ≡ next_state (draw_state first n)
draw_state-more first n = rw add-one refl

pub draw_state-plus : (first m n : ℕ) → draw_state first (m + n) ≡ draw_state (draw_state first m) n
draw_state-plus first m zero = ap (draw_state first) (omega arith)
draw_state-plus first m (suc n) =
    let e : m + suc n ≡ suc (m + n) = omega arith in
    rw e (ap next_state (draw_state-plus first m n))

-- the next segment is the first one from the state that the segments before it left
pub segment_at-next : (first j : ℕ) → segment_at (draw_state first (3 * j)) 0 ≡ segment_at first j
segment_at-next first j = rw (draw_state-plus first (3 * j) 1, draw_state-plus first (3 * j) 2, draw_state-plus first (3 * j) 3) refl

-- one more segment is drawn
pub segments-more : (first j now next : ℕ) (old new : List Segment) (x : Segment) → old ≡ segments first j → now ≡ draw_state first (3 * j) → x ≡ segment_at now 0 → next ≡ draw_state now 3 → new ≡ old ++ x ∷ [] → (new ≡ segments first (j + 1)) × (next ≡ draw_state first (3 * (j + 1)))
segments-more first j now next old new x so_far reached drawn moved pushed =
    let segment : x ≡ segment_at first j = drawn ∙ ap (λ s. segment_at s 0) reached ∙ segment_at-next first j in
    let place : 3 * j + 3 ≡ 3 * (j + 1) = omega arith in (
      pushed ∙ ap (λ xs. xs ++ x ∷ []) so_far ∙ ap (λ y. segments first j ++ y ∷ []) segment ∙ sym (map-range_with_len_more (segment_at first) 0 j j (omega arith)),
      moved ∙ ap (λ s. draw_state s 3) reached ∙ sym (draw_state-plus first (3 * j) 3) ∙ ap (draw_state first) place,
    )

-- the cost of one more block is drawn
pub cost_lines-more : (first n now next number : ℕ) (before old new : List ℕ) → old ≡ before ++ joined_lines (cost_lines first n) → now ≡ draw_state first n → next ≡ next_state now → number ≡ drawn_at (next_state now) 20 → new ≡ old ++ ended_line (cost_line n (1 + number)) → (new ≡ before ++ joined_lines (cost_lines first (n + 1))) × (next ≡ draw_state first (n + 1))
cost_lines-more first n now next number before old new so_far reached moved drawn pushed =
    let after : next_state now ≡ draw_state first (n + 1) = ap next_state reached ∙ sym (draw_state-more first n) in
    let cost : number ≡ draw first (n + 1) 20 = drawn ∙ ap (λ s. drawn_at s 20) after in
    let line : ℕ → List ℕ = λ k. cost_line k (1 + draw first (k + 1) 20) in (
      pushed ∙ ap (λ t. t ++ ended_line (cost_line n (1 + number))) so_far ∙ ap (λ k. before ++ joined_lines (cost_lines first n) ++ ended_line (cost_line n (1 + k))) cost ∙ flat_map_more ended_line before (cost_lines first n) (line n) ∙ ap (λ ls. before ++ joined_lines ls) (sym (map-range_with_len_more line 0 n n (omega arith))),
      moved ∙ after,
    )

-- there are as many segments as the size says
pub length-segments : (first size : ℕ) → length (segments first size) ≡ size
length-segments first size = length-map-range_with_len (segment_at first) 0 size
