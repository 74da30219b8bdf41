use Rattle.std.proofs.Common.{◌≡◌, nat_eq, ◌++◌, ◌∷◌, [], unsigned_abs, w32, ap, ◌∙◌}
use Rattle.std.proofs.lemmas.Int.{to_z-of_z}
use Rattle.std.specs.HashSet.{contains}
use Rattle.cnf_form.proofs.Formulas.Fronts.{longer, longer_words, named_more}
use Rattle.cnf_form.proofs.front.Front.push_literal.Goals as goal

pub returns-clause-keeps : goal.returns-clause-keeps
returns-clause-keeps c =
    let s = c.args.self.now in
    let same = to_z-of_z w32 c.args.literal c.ranges.literal in
    let literals : c.push.new.self.items ≡ s.literals.items ++ c.args.literal ∷ [] = c.in_ok-push.ensures.items ∙ ap (λ z. s.literals.items ++ z ∷ []) same in
    let value : c.unsigned_abs.result ≡ unsigned_abs c.args.literal = c.unsigned_abs.ensures.value ∙ ap unsigned_abs same in
    let updates = c.in_ok-insert.ensures.updates.0 in
    record {
      is_front = rw literals (longer s.variables s.count s.clauses.items s.literals.items c.args.literal c.requires.keeps.is_front c.requires.room c.requires.new);
      names = λ v. rw literals (updates v ∙ named_more s.literals.items c.args.literal c.unsigned_abs.result v (contains nat_eq s.named v) value (c.requires.keeps.names v));
    }

pub returns-clause-words : goal.returns-clause-words
returns-clause-words c =
    let s = c.args.self.now in
    let same = to_z-of_z w32 c.args.literal c.ranges.literal in
    let literals : c.push.new.self.items ≡ s.literals.items ++ c.args.literal ∷ [] = c.in_ok-push.ensures.items ∙ ap (λ z. s.literals.items ++ z ∷ []) same in
    rw literals (longer_words s.clauses.items s.literals.items c.args.literal)
