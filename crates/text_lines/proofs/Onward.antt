-- How a text goes on from its first line.
use Rattle.std.proofs.Common.{◌≡◌, ℕ, ◌<◌, ◌==◌, true, false, not, ◌⊎◌, inl, inr, List, [], ◌∷◌, ◌++◌, length, refl, sym, ◌∙◌, ap, arith, length-append}
use Rattle.std.specs.List.{list_all, flat_map}
use Rattle.std.proofs.lemmas.Bool.{not-true, and_parts}
use Rattle.std.proofs.lemmas.List.{append-nil}
use Rattle.text_lines.specs.Lines.{onto_first, lines_of}
use Rattle.text_lines.specs.Cutting.{HasNoFeed, EndsInFeed, IsUnfinished, CutsLine, Anything}
use Rattle.text_lines.proofs.Joining.{joins_feed, joins_end}
use Rattle.text_lines.proofs.Leaving.{concat_lines}

-- the first line of what goes on from this one
pub record Onward (line more : List ℕ) : Type 0 where
  pub ending : List ℕ
  pub rest : List (List ℕ)
  pub lines : lines_of (line ++ more) ≡ (line ++ ending) ∷ rest

onto : (x : ℕ) (lines : List (List ℕ)) → (ending : List ℕ) × (rest : List (List ℕ)) × (onto_first x lines ≡ (x ∷ ending) ∷ rest)
onto x [] = ([], [], refl)
onto x (line ∷ lines) = (line, lines, refl)

step : (x : ℕ) (text : List ℕ) → (x == 10) ≡ false → lines_of (x ∷ text) ≡ onto_first x (lines_of text)
step x text plain = rw plain refl

onward_open : (x : ℕ) (xs more : List ℕ) → HasNoFeed (x ∷ xs) → Onward (x ∷ xs) more
onward_open x [] more no_feed =
    let plain = not-true (x == 10) (and_parts (not (x == 10)) true no_feed).0 in
    let joined = onto x (lines_of more) in
    record { ending = joined.0; rest = joined.1; lines = step x more plain ∙ joined.2 }
onward_open x (y ∷ ys) more no_feed =
    let parts = and_parts (not (x == 10)) (list_all (λ b. not (b == 10)) (y ∷ ys)) no_feed in
    let plain = not-true (x == 10) parts.0 in
    let rest = onward_open y ys more parts.1 in
    record { ending = rest.ending; rest = rest.rest; lines = step x ((y ∷ ys) ++ more) plain ∙ ap (onto_first x) rest.lines }

pub onward : (line more : List ℕ) → EndsInFeed line ⊎ IsUnfinished line → Onward line more
onward line more (inl ends) = record { ending = []; rest = lines_of more; lines = (joins_feed Anything line ends).lines more tt ∙ ap (λ l. l ∷ lines_of more) (sym (append-nil line)) }
onward [] more (inr unfinished) = absurd (omega (arith, unfinished.some))
onward (x ∷ xs) more (inr unfinished) = onward_open x xs more unfinished.no_feed

pub shape_of : (rest line after : List ℕ) → CutsLine rest line after → EndsInFeed line ⊎ IsUnfinished line
shape_of rest line after cut = by_shape cut.shape
  where
    by_shape : EndsInFeed line ⊎ (IsUnfinished line × (after ≡ [])) → EndsInFeed line ⊎ IsUnfinished line
    by_shape (inl ends) = inl ends
    by_shape (inr unfinished) = inr unfinished.0

-- a line, before what stands behind it
pub record Stands (line after : List ℕ) : Type 0 where
  pub alone : lines_of line ≡ line ∷ []
  pub joined : lines_of (line ++ after) ≡ line ∷ lines_of after
  pub some : 0 < length line

pub stands : (rest line after : List ℕ) → CutsLine rest line after → Stands line after
stands rest line after cut = by_shape cut.shape
  where
    by_shape : EndsInFeed line ⊎ (IsUnfinished line × (after ≡ [])) → Stands line after
    by_shape (inl ends) = let joins = joins_feed Anything line ends in record { alone = joins.alone; joined = joins.lines after tt; some = joins.some }
    by_shape (inr unfinished) = let joins = joins_end (λ more. more ≡ []) line unfinished.0 (λ more is. is) in record { alone = joins.alone; joined = joins.lines after unfinished.1; some = joins.some }

pub cut_shorter : (rest line after : List ℕ) → CutsLine rest line after → length after < length rest
cut_shorter rest line after cut = omega (arith, ap length cut.split, length-append line after, (stands rest line after cut).some)

-- a line that may grow has no line feed
closed_whole : (line more whole : List ℕ) → EndsInFeed line → EndsInFeed whole → line ++ more ≡ whole → more ≡ []
closed_whole line more whole ends ends_too same =
    let both : line ∷ lines_of more ≡ whole ∷ [] = sym ((joins_feed Anything line ends).lines more tt) ∙ ap lines_of same ∙ (joins_feed Anything whole ends_too).alone in
    let tail : lines_of more ≡ [] = cc in
    sym (concat_lines more) ∙ ap (flat_map (λ line. line)) tail

pub open_line : (rest line after more whole : List ℕ) → CutsLine rest line after → EndsInFeed whole → 0 < length more → line ++ more ≡ whole → (after ≡ []) × (¬ EndsInFeed line)
open_line rest line after more whole cut ends some same = (by_shape cut.shape, bare)
  where
    bare : ¬ EndsInFeed line
    bare closed = omega (arith, some, ap length (closed_whole line more whole closed ends same))

    by_shape : EndsInFeed line ⊎ (IsUnfinished line × (after ≡ [])) → after ≡ []
    by_shape (inl closed) = absurd (bare closed)
    by_shape (inr unfinished) = unfinished.1
