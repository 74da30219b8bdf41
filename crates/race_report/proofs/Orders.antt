-- Lists of bounds that never rise, and of costs that never fall, read from a first one on.
use Rattle.std.proofs.Common.{◌≤◌, ℕ, List, [], ◌∷◌, Option, Some}
use Rattle.race_item.specs.Lists.{EachOf, EachTwoOf}
use Rattle.board_core.specs.Showing.{IsNotAbove}
use Rattle.board_core.proofs.Showing.{through}

-- from this bound on they never rise
abbrev pub Falls : Option ℕ → List (Option ℕ) → Type 0
Falls top [] = Unit {0}
Falls top (b ∷ bs) = IsNotAbove b top × Falls b bs

-- from this cost on they never fall
abbrev pub Rises : Option ℕ → List ℕ → Type 0
Rises low [] = Unit {0}
Rises low (n ∷ ns) = IsNotAbove low (Some n) × Rises (Some n) ns

-- from a greater bound on, and from a lesser cost
pub falls_below : (top above : Option ℕ) (bs : List (Option ℕ)) → IsNotAbove top above → Falls top bs → Falls above bs
falls_below top above [] le h = tt
falls_below top above (b ∷ bs) le h = (through b top above h.0 le, h.1)

pub rises_above : (low below : Option ℕ) (ns : List ℕ) → IsNotAbove below low → Rises low ns → Rises below ns
rises_above low below [] le h = tt
rises_above low below (n ∷ ns) le h = (through below low (Some n) le h.0, h.1)

-- each is compared with the first one
each_falls : (top : Option ℕ) (bs : List (Option ℕ)) → Falls top bs → EachOf (λ (b : Option ℕ). IsNotAbove b top) bs
each_falls top [] h = tt
each_falls top (b ∷ bs) h = (h.0, each_falls top bs (falls_below b top bs h.0 h.1))

each_rises : (m : ℕ) (ns : List ℕ) → Rises (Some m) ns → EachOf (λ (n : ℕ). m ≤ n) ns
each_rises m [] h = tt
each_rises m (n ∷ ns) h = (h.0, each_rises m ns (rises_above (Some n) (Some m) ns h.0 h.1))

-- and each with each later one
pub two_fall : (top : Option ℕ) (bs : List (Option ℕ)) → Falls top bs → EachTwoOf (λ (old new : Option ℕ). IsNotAbove new old) bs
two_fall top [] h = tt
two_fall top (b ∷ bs) h = (each_falls b bs h.1, two_fall b bs h.1)

pub two_rise : (low : Option ℕ) (ns : List ℕ) → Rises low ns → EachTwoOf (λ (old new : ℕ). old ≤ new) ns
two_rise low [] h = tt
two_rise low (n ∷ ns) h = (each_rises n ns h.1, two_rise (Some n) ns h.1)
