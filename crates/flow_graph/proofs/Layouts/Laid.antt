-- Lists of items, as what they lay out.
use Rattle.std.proofs.Common.{◌≡◌, List, [], ◌∷◌, ◌++◌, refl, sym, ap, ◌∙◌, append_assoc, append-nil}
use Rattle.std.specs.Prelude.{Result, Ok, Err, IfOk}
use Rattle.flow_laws.specs.Sites.{Copy}
use Rattle.graph_lists.specs.declared.spot.Spot.{Spot}
use Rattle.flow_graph.specs.declared.layout.Item.{Item}
use Rattle.flow_graph.specs.declared.layout.Item.TheVariants as item
use Rattle.flow_graph.specs.Layout.{item_spots, laid_out}

pub laid_append : (all : List Copy) (xs ys : List Item) → laid_out all (xs ++ ys) ≡ laid_out all xs ++ laid_out all ys
laid_append all [] ys = refl
laid_append all (x ∷ xs) ys = ap (λ y. item_spots all x ++ y) (laid_append all xs ys) ∙ sym (append_assoc (item_spots all x) (laid_out all xs) (laid_out all ys))

pub laid_last : (all : List Copy) (xs : List Item) (x : Item) → laid_out all (xs ++ x ∷ []) ≡ laid_out all xs ++ item_spots all x
laid_last all xs x = laid_append all xs (x ∷ []) ∙ ap (λ y. laid_out all xs ++ y) (append-nil (item_spots all x))

pub laid_one : (all : List Copy) (old new : List Item) (s t : Spot) → new ≡ old ++ item.One s ∷ [] → s ≡ t → laid_out all new ≡ laid_out all old ++ t ∷ []
laid_one all old new s t e h = ap (laid_out all) e ∙ laid_last all old (item.One s) ∙ ap (λ y. laid_out all old ++ y ∷ []) h
