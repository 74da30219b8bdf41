use Rattle.std.proofs.Common.{◌≡◌, [], ◌++◌, ◌∷◌, arith}
use Rattle.std.proofs.lemmas.Grind.{common_steps}
use Rattle.cnf_form.proofs.Formulas.Fronts.{ended, ended_words}
use Rattle.cnf_form.proofs.front.Front.end_clause.Goals as goal

pub returns-clause-keeps : goal.returns-clause-keeps
returns-clause-keeps c =
    let s = c.args.self.now in
    let clauses : c.push.new.self.items ≡ s.clauses.items ++ s.literals.items ∷ [] = grind (arith, common_steps) in
    let literals : c.clear.new.self.items ≡ [] = c.clear.ensures.items in
    record {
      is_front = rw (clauses, literals) (ended s.variables s.count s.clauses.items s.literals.items c.requires.keeps.is_front c.requires.room);
      names = λ v. grind (arith, common_steps);
    }

pub returns-clause-words : goal.returns-clause-words
returns-clause-words c =
    let s = c.args.self.now in
    let clauses : c.push.new.self.items ≡ s.clauses.items ++ s.literals.items ∷ [] = grind (arith, common_steps) in
    let literals : c.clear.new.self.items ≡ [] = c.clear.ensures.items in
    rw (clauses, literals) (ended_words s.clauses.items s.literals.items)
