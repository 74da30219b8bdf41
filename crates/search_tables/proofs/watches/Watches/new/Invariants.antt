use Rattle.std.proofs.Common.{◌≡◌, length, [], All, List, ℕ}
use Rattle.search_tables.proofs.watches.Watches.new.Given as goal

abbrev pub invariant-loop-spot : goal.invariant-loop-spot
invariant-loop-spot l = record {
  counted : length l.lists.items ≡ l._spot;
  empty : All (λ (list : List ℕ). list ≡ []) l.lists.items;
}
