-- Assignments that are spelled are read.
use Rattle.std.proofs.Common.{◌≡◌, ℕ, suc, ◌-◌, ◌<◌, ◌≤◌, false, List, [], ◌∷◌, length, Some, None, Ok, refl, ap, ◌∙◌, arith}
use Rattle.c_tree.specs.declared.tree.BinOp.{BinOp}
use Rattle.c_tree.specs.declared.unit.RawExpr.{RawExpr}
use Rattle.c_tree.specs.declared.unit.RawPlace.{RawPlace}
use Rattle.c_tree.specs.declared.unit.RawStmt.{RawStmt}
use Rattle.c_tree.specs.declared.unit.RawStmt.TheVariants as stmt
use Rattle.c_tree.specs.declared.symbol.Symbol.{Symbol}
use Rattle.c_tree.specs.declared.symbol.Symbol.TheVariants as s
use Rattle.c_tree.specs.Grammar.Heights.{place_height, stmt_height}
use Rattle.c_tree.specs.Grammar.SpelledStatements.{Assigned, scalar_place, element_place, one, Assignment, plain_assignment, compound_assignment, step_after, step_before}
use Rattle.c_tree.specs.Tokens.Symbols.{Lexeme, spot}
use Rattle.parse_laws.specs.Parser.{Parser, and_then, sees}
use Rattle.parse_laws.specs.ReadExpr.{expr_phrase}
use Rattle.parse_laws.specs.ReadSimple.{begins_call, begins_call_into, assigned_place, assignment_to, assignment_to_by, step_before_place, assignment, assignment_by, assignment_statement, call_or_assignment}
use Rattle.parse_laws.specs.ReadStmt.{plain_phrase, plain_by}
use Rattle.parse_laws.proofs.Tokens.Begins.{expr_shorter}
use Rattle.parse_laws.proofs.Complete.DeclComplete.{complete_index}
use Rattle.parse_laws.proofs.Tokens.ExprClosed.{expr_closed}
use Rattle.parse_laws.proofs.Reading.Layers.{height-Assign}
use Rattle.parse_laws.proofs.Reading.Steps.{sees-yes, sees-no, symbol_phrase-yes, expect-yes}
use Rattle.parse_laws.proofs.Tokens.StmtFollows.{Closes, closes-by, closes-no, expr_no_call, call-no_paren, into-no_assign, into-no_call}
use Rattle.parse_laws.proofs.Reading.StmtTurns.{assigned_place-pos}

-- ---- how it begins

pub assigned_shorter : {ts rest : List Lexeme} {p : RawPlace} → Assigned ts p rest → length rest < length ts
assigned_shorter (scalar_place h) = omega arith
assigned_shorter (element_place h i d k) = omega (arith, expr_shorter d)

pub assignment_shorter : {ts rest : List Lexeme} {x : RawStmt} → Assignment ts x rest → length rest < length ts
assignment_shorter (plain_assignment p i d) = omega (arith, assigned_shorter p, expr_shorter d)
assignment_shorter (compound_assignment p i d) = omega (arith, assigned_shorter p, expr_shorter d)
assignment_shorter (step_after p i) = omega (arith, assigned_shorter p)
assignment_shorter (step_before i p) = omega (arith, assigned_shorter p)

assigned_no_call : {ts rest : List Lexeme} {p : RawPlace} → Assigned ts p rest → sees s.LeftParen rest ≡ false → begins_call ts ≡ false
assigned_no_call (scalar_place {x = x} {rest = rest} h) no_paren = call-no_paren x rest no_paren
assigned_no_call (element_place {x = x} {b = b} {ts = ts} h i d k) no_paren = call-no_paren x (b ∷ ts) (sees-no s.LeftParen s.LeftBracket b ts i refl)

-- what another mark than `=` follows
assigned_other : {ts rest : List Lexeme} {p : RawPlace} → Assigned ts p rest → sees s.Assign rest ≡ false → begins_call_into ts ≡ false
assigned_other (scalar_place {x = x} {rest = rest} h) other = into-no_assign x rest other
assigned_other (element_place {x = x} {b = b} {ts = ts} h i d k) other = into-no_assign x (b ∷ ts) (sees-no s.Assign s.LeftBracket b ts i refl)

-- what `=` and an expression follow
assigned_expr : {q : Lexeme} {ts u : List Lexeme} {p : RawPlace} → Assigned ts p (q ∷ u) → begins_call u ≡ false → begins_call_into ts ≡ false
assigned_expr {q} {ts} {u} (scalar_place {x = x} h) no_call = into-no_call x q u no_call
assigned_expr (element_place {x = x} {b = b} {ts = ts} h i d k) no_call = into-no_assign x (b ∷ ts) (sees-no s.Assign s.LeftBracket b ts i refl)

-- ---- the steps

pub complete_assigned : {ts rest : List Lexeme} {p : RawPlace} → Assigned ts p rest → (room : ℕ) → place_height p ≤ room → sees s.LeftBracket rest ≡ false → assigned_place room ts ≡ Ok (p, rest)
complete_assigned (scalar_place {x = x} {rest = rest} h) room low end =
    assigned_place-pos room (x ∷ rest) (omega arith) ∙ rw (symbol_phrase-yes s.Name spot x rest h, end) refl
complete_assigned (element_place {x = x} {b = b} {c = c} {ts = ts} {rest = rest} {a = a} h i d k) room low end =
    assigned_place-pos room (x ∷ b ∷ ts) (omega arith)
    ∙ rw (symbol_phrase-yes s.Name spot x (b ∷ ts) h, sees-yes s.LeftBracket b ts i, complete_index (room - 1) b i d k (omega arith)) refl

module _ (room : ℕ) where
  assignment_to-plain : (p : RawPlace) (q : Lexeme) (u rest : List Lexeme) (a : RawExpr) → q.symbol ≡ s.Assign → expr_phrase room 0 u ≡ Ok (a, rest) → assignment_to room p (q ∷ u) ≡ Ok (stmt.Assign p None a, rest)
  unfolding assignment_to
  assignment_to-plain p q u rest a h read = ap (λ (m : Symbol). assignment_to_by room p (Some m) (q ∷ u)) h ∙ rw read refl

  assignment_to-compound : (p : RawPlace) (q : Lexeme) (o : BinOp) (u rest : List Lexeme) (a : RawExpr) → q.symbol ≡ s.Compound o → expr_phrase room 0 u ≡ Ok (a, rest) → assignment_to room p (q ∷ u) ≡ Ok (stmt.Assign p (Some o) a, rest)
  unfolding assignment_to
  assignment_to-compound p q o u rest a h read = ap (λ (m : Symbol). assignment_to_by room p (Some m) (q ∷ u)) h ∙ rw read refl

  assignment_to-step : (p : RawPlace) (q : Lexeme) (o : BinOp) (u : List Lexeme) → q.symbol ≡ s.Step o → assignment_to room p (q ∷ u) ≡ Ok (stmt.Assign p (Some o) (one q), u)
  unfolding assignment_to
  assignment_to-step p q o u h = ap (λ (m : Symbol). assignment_to_by room p (Some m) (q ∷ u)) h

  step_before_place-yes : (p : RawPlace) (q : Lexeme) (o : BinOp) (ts rest : List Lexeme) → assigned_place room ts ≡ Ok (p, rest) → step_before_place room o (q ∷ ts) ≡ Ok (stmt.Assign p (Some o) (one q), rest)
  unfolding step_before_place
  step_before_place-yes p q o ts rest read = rw read refl

  assignment-is : (m : Symbol) (t : Lexeme) (ts : List Lexeme) → t.symbol ≡ m → assignment room (t ∷ ts) ≡ assignment_by room (Some m) (t ∷ ts)
  unfolding assignment
  assignment-is m t ts h = ap (λ (x : Symbol). assignment_by room (Some x) (t ∷ ts)) h

  -- one that begins with a place
  from_place : {ts rest : List Lexeme} {p : RawPlace} → Assigned ts p rest → assignment room ts ≡ and_then (assigned_place room ts) (assignment_to room)
  from_place (scalar_place {x = x} {rest = rest} h) = assignment-is s.Name x rest h
  from_place (element_place {x = x} {b = b} {ts = ts} h i d k) = assignment-is s.Name x (b ∷ ts) h

  then_assignment_to : {ts u rest : List Lexeme} {p : RawPlace} {x : RawStmt} → Assigned ts p u → assigned_place room ts ≡ Ok (p, u) → assignment_to room p u ≡ Ok (x, rest) → assignment room ts ≡ Ok (x, rest)
  then_assignment_to {ts} {u} {rest} {p} {x} d read more =
      let go : and_then (assigned_place room ts) (assignment_to room) ≡ assignment_to room p u = rw read refl in
      from_place d ∙ go ∙ more

  pub complete_assignment : {ts rest : List Lexeme} {x : RawStmt} → Assignment ts x rest → stmt_height x ≤ suc room → Closes rest → assignment room ts ≡ Ok (x, rest)
  complete_assignment (plain_assignment {q = q} {u = u} {rest = rest} {p = p} {a = a} d i e) low end =
      let tall = height-Assign p None a in
      then_assignment_to d (complete_assigned d room (omega arith) (sees-no s.LeftBracket s.Assign q u i refl)) (assignment_to-plain p q u rest a i (expr_closed room e end (omega arith)))
  complete_assignment (compound_assignment {q = q} {o = o} {u = u} {rest = rest} {p = p} {a = a} d i e) low end =
      let tall = height-Assign p (Some o) a in
      then_assignment_to d (complete_assigned d room (omega arith) (sees-no s.LeftBracket (s.Compound o) q u i refl)) (assignment_to-compound p q o u rest a i (expr_closed room e end (omega arith)))
  complete_assignment (step_after {q = q} {o = o} {rest = rest} {p = p} d i) low end =
      let tall = height-Assign p (Some o) (one q) in
      then_assignment_to d (complete_assigned d room (omega arith) (sees-no s.LeftBracket (s.Step o) q rest i refl)) (assignment_to-step p q o rest i)
  complete_assignment (step_before {q = q} {o = o} {ts = ts} {rest = rest} {p = p} i d) low end =
      let tall = height-Assign p (Some o) (one q) in
      assignment-is (s.Step o) q ts i ∙ step_before_place-yes p q o ts rest (complete_assigned d room (omega arith) (closes-no s.LeftBracket refl end))

  -- ---- as a statement

  assignment_statement-yes : (c : Lexeme) (ts rest : List Lexeme) (x : RawStmt) → assignment room ts ≡ Ok (x, c ∷ rest) → c.symbol ≡ s.Semicolon → assignment_statement room ts ≡ Ok (x ∷ [], rest)
  unfolding assignment_statement
  assignment_statement-yes c ts rest x read k = rw (read, expect-yes s.Semicolon c rest k) refl

  call_or_assignment-assign : (ts rest : List Lexeme) (xs : List RawStmt) → begins_call ts ≡ false → begins_call_into ts ≡ false → assignment_statement room ts ≡ Ok (xs, rest) → call_or_assignment room ts ≡ Ok (xs, rest)
  unfolding call_or_assignment
  call_or_assignment-assign ts rest xs h i read = rw (h, i) read

  module _ (body : Parser (List RawStmt)) where
    pub plain_phrase-is : (m : Symbol) (t : Lexeme) (ts : List Lexeme) → t.symbol ≡ m → plain_phrase room body (t ∷ ts) ≡ plain_by room body (Some m) (t ∷ ts)
    unfolding plain_phrase
    plain_phrase-is m t ts h = ap (λ (x : Symbol). plain_by room body (Some x) (t ∷ ts)) h

    plain_phrase-named : {ts rest : List Lexeme} {p : RawPlace} → Assigned ts p rest → plain_phrase room body ts ≡ call_or_assignment room ts
    plain_phrase-named (scalar_place {x = x} {rest = rest} h) = plain_phrase-is s.Name x rest h
    plain_phrase-named (element_place {x = x} {b = b} {ts = ts} h i d k) = plain_phrase-is s.Name x (b ∷ ts) h

    by_name : {ts u rest : List Lexeme} {p : RawPlace} {xs : List RawStmt} → Assigned ts p u → sees s.LeftParen u ≡ false → begins_call_into ts ≡ false → assignment_statement room ts ≡ Ok (xs, rest) → plain_phrase room body ts ≡ Ok (xs, rest)
    by_name {ts} {rest = rest} {xs = xs} d h i read = plain_phrase-named d ∙ call_or_assignment-assign ts rest xs (assigned_no_call d h) i read

    pub plain_phrase-assign : {c : Lexeme} {ts rest : List Lexeme} {x : RawStmt} → Assignment ts x (c ∷ rest) → c.symbol ≡ s.Semicolon → stmt_height x ≤ suc room → plain_phrase room body ts ≡ Ok (x ∷ [], rest)
    plain_phrase-assign {c} {ts} {rest} {x} (plain_assignment {q = q} {u = u} {p = p} {a = a} d i e) k low =
        let end = closes-by s.Semicolon c rest k refl in
        let read = complete_assignment (plain_assignment {q = q} {u = u} {p = p} {a = a} d i e) low end in
        by_name d (sees-no s.LeftParen s.Assign q u i refl) (assigned_expr d (expr_no_call e (closes-no s.LeftParen refl end))) (assignment_statement-yes c ts rest x read k)
    plain_phrase-assign {c} {ts} {rest} {x} (compound_assignment {q = q} {o = o} {u = u} {p = p} {a = a} d i e) k low =
        let end = closes-by s.Semicolon c rest k refl in
        let read = complete_assignment (compound_assignment {q = q} {o = o} {u = u} {p = p} {a = a} d i e) low end in
        by_name d (sees-no s.LeftParen (s.Compound o) q u i refl) (assigned_other d (sees-no s.Assign (s.Compound o) q u i refl)) (assignment_statement-yes c ts rest x read k)
    plain_phrase-assign {c} {ts} {rest} {x} (step_after {q = q} {o = o} {p = p} d i) k low =
        let end = closes-by s.Semicolon c rest k refl in
        let read = complete_assignment (step_after {q = q} {o = o} {p = p} d i) low end in
        by_name d (sees-no s.LeftParen (s.Step o) q (c ∷ rest) i refl) (assigned_other d (sees-no s.Assign (s.Step o) q (c ∷ rest) i refl)) (assignment_statement-yes c ts rest x read k)
    plain_phrase-assign {c} {rest = rest} {x = x} (step_before {q = q} {o = o} {ts = ts} {p = p} i d) k low =
        let end = closes-by s.Semicolon c rest k refl in
        let read = complete_assignment (step_before {q = q} {o = o} {ts = ts} {p = p} i d) low end in
        plain_phrase-is (s.Step o) q ts i ∙ assignment_statement-yes c (q ∷ ts) rest x read k
