-- The first refusal after uses, one use and one list at a time.
use Rattle.std.proofs.Common.{◌≡◌, List, [], ◌∷◌, ◌++◌, Option, refl}
use Rattle.c_tree.specs.Checking.Uses.{Use}
use Rattle.c_tree.specs.Checking.Refusals.{PlacedFault}
use Rattle.c_faults.specs.Verdicts.{after_use, after_uses}

pub after_uses-none : (f : Option PlacedFault) → after_uses f [] ≡ f
unfolding after_uses
after_uses-none f = refl

pub after_uses-cons : (f : Option PlacedFault) (u : Use) (us : List Use) → after_uses f (u ∷ us) ≡ after_uses (after_use f u) us
unfolding after_uses
after_uses-cons f u us = refl

pub after_uses-append : (f : Option PlacedFault) (us vs : List Use) → after_uses f (us ++ vs) ≡ after_uses (after_uses f us) vs
unfolding after_uses
after_uses-append f [] vs = refl
after_uses-append f (u ∷ us) vs = after_uses-append (after_use f u) us vs

pub ruleset after_uses_rules = (after_uses-none, after_uses-cons, after_uses-append)
