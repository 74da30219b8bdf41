use Rattle.std.proofs.Common.{◌≡◌, ◌++◌, ◌<◌, ◌-◌, [], ◌∷◌, ℕ, List, Some, Option, length, get_or, vec_len, sym, ap, ◌∙◌, subst, arith}
use Rattle.std.specs.Option.{option_to_list}
use Rattle.std.proofs.lemmas.Grind.{common_steps}
use Rattle.c_names.specs.declared.names.Declaration.{Declaration}
use Rattle.c_names.specs.Tables.{IsTable}
use Rattle.c_names.proofs.NameTables.{IsTable-front}
use Rattle.c_names.proofs.names.Names.undo.Goals as goal

pub invariant_of-self-2 : goal.invariant_of-self-2
invariant_of-self-2 c =
    let ds = c.self.inside.declared.items in
    let last = c.in-Some.last.now in
    let front = c.pop.new.self.items in
    let long : vec_len c.self.inside.declared ≡ length ds = grind (arith, common_steps) in
    let some : 0 < vec_len c.self.inside.declared = grind (arith, common_steps) in
    let read = c.in-Some.ensures.item.1 ∙ ap (λ (l : List Declaration). get_or l (length l - 1) last) c.deref.ensures.value in
    let popped = c.pop.ensures.value last some ∙ ap (λ (n : ℕ). Some (get_or ds (n - 1) last)) long ∙ ap Some (sym read) in
    let ends : ds ≡ front ++ last ∷ [] = c.pop.ensures.items ∙ ap (λ (o : Option Declaration). front ++ option_to_list o) popped in
    IsTable-front _ _ front last (subst (IsTable c.self.inside.latest) ends c.self.invariant) c.in_ok-rebind.ensures.rebound
