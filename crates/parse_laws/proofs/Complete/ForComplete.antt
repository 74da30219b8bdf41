-- The parts of loops and jumps that are spelled are read.
use Rattle.std.proofs.Common.{◌≡◌, ℕ, ◌-◌, ◌<◌, ◌≤◌, Bool, true, false, List, [], ◌∷◌, Option, Some, None, Ok, refl, ◌∙◌, arith}
use Rattle.c_tree.specs.declared.tree.Ty.{Ty}
use Rattle.c_tree.specs.declared.unit.RawBound.{RawBound}
use Rattle.c_tree.specs.declared.unit.RawExpr.{RawExpr}
use Rattle.c_tree.specs.declared.unit.RawPlace.{RawPlace}
use Rattle.c_tree.specs.declared.unit.RawShape.TheVariants as shape
use Rattle.c_tree.specs.declared.unit.RawStmt.{RawStmt}
use Rattle.c_tree.specs.declared.unit.RawStmt.TheVariants as stmt
use Rattle.c_tree.specs.declared.symbol.Symbol.{Symbol}
use Rattle.c_tree.specs.declared.symbol.Symbol.TheVariants as s
use Rattle.c_tree.specs.Grammar.Heights.{height}
use Rattle.c_tree.specs.Grammar.SpelledExpressions.{Expression}
use Rattle.c_tree.specs.Grammar.SpelledStatements.{Assigned, scalar_place, element_place, one, Assignment, plain_assignment, compound_assignment, step_after, step_before, LoopBound, unbounded, bounded, Initialiser, no_initialiser, assigning, declaring, Condition, no_condition, condition as some_condition, Step, no_step, step as some_step}
use Rattle.c_tree.specs.Tokens.Symbols.{Lexeme, spot}
use Rattle.parse_laws.specs.Parser.{first, sees, type_name, begins_type}
use Rattle.parse_laws.specs.ReadExpr.{expr_before, expr_phrase}
use Rattle.parse_laws.specs.ReadSimple.{assignment, returned_value, return_statement}
use Rattle.parse_laws.specs.ReadStmt.{condition, for_declaration, for_setup, initialiser, test, for_step, possible_bound}
use Rattle.parse_laws.proofs.Tokens.Begins.{expr_no}
use Rattle.parse_laws.proofs.Complete.AssignComplete.{complete_assignment}
use Rattle.parse_laws.proofs.Tokens.ExprClosed.{expr_closed}
use Rattle.parse_laws.proofs.Reading.Layers.{height-Declare, height-pos, stmt_height-pos}
use Rattle.parse_laws.proofs.Reading.Steps.{not_seen, sees-yes, sees-no, symbol_phrase-yes, expect-yes}
use Rattle.parse_laws.proofs.Tokens.StmtFollows.{closes-by}
use Rattle.parse_laws.proofs.Reading.StmtLayers.{held}
use Rattle.parse_laws.proofs.Reading.StmtTurns.{initialiser-none, initialiser-some, test-none, test-some, for_step-none, for_step-some}
use Rattle.parse_laws.proofs.Tokens.Types.{type_begins, type_no, type_yes}

-- ---- how an assignment begins

abbrev begins_assignment : Option Symbol → Bool
begins_assignment (Some s.Name) = true
begins_assignment (Some (s.Step o)) = true
begins_assignment _ = false

assigned_starts : {ts rest : List Lexeme} {p : RawPlace} → Assigned ts p rest → begins_assignment (first ts) ≡ true
assigned_starts (scalar_place h) = rw h refl
assigned_starts (element_place h i d k) = rw h refl

assignment_starts : {ts rest : List Lexeme} {x : RawStmt} → Assignment ts x rest → begins_assignment (first ts) ≡ true
assignment_starts (plain_assignment p i d) = assigned_starts p
assignment_starts (compound_assignment p i d) = assigned_starts p
assignment_starts (step_after p i) = assigned_starts p
assignment_starts (step_before i p) = rw i refl

pub assignment_no : (m : Symbol) → begins_assignment (Some m) ≡ false → {ts rest : List Lexeme} {x : RawStmt} → Assignment ts x rest → sees m ts ≡ false
assignment_no m never {ts} d = not_seen begins_assignment m ts never (assignment_starts d)

no_type : (x : Option Symbol) (ts : List Lexeme) → first ts ≡ x → begins_assignment x ≡ true → begins_type ts ≡ false
unfolding begins_type
no_type (Some s.Name) ts is h = rw is refl
no_type (Some (s.Step o)) ts is h = rw is refl
no_type _ ts is h = cc

assignment_no_type : {ts rest : List Lexeme} {x : RawStmt} → Assignment ts x rest → begins_type ts ≡ false
assignment_no_type {ts} d = no_type (first ts) ts refl (assignment_starts d)

-- ---- the parts of a `for`

module _ (room : ℕ) where
  for_declaration-yes : (to : Ty) (x q : Lexeme) (ts u rest : List Lexeme) (a : RawExpr) → type_name ts ≡ Ok (to, x ∷ q ∷ u) → x.symbol ≡ s.Name → q.symbol ≡ s.Assign → expr_phrase room 0 u ≡ Ok (a, rest)
      → for_declaration room ts ≡ Ok (stmt.Declare false to (spot x) (shape.Scalar (Some a)), rest)
  unfolding for_declaration
  for_declaration-yes to x q ts u rest a y h i read = rw (y, symbol_phrase-yes s.Name spot x (q ∷ u) h, expect-yes s.Assign q u i, read) refl

  for_setup-declaration : (ts : List Lexeme) → begins_type ts ≡ true → for_setup room ts ≡ for_declaration room ts
  unfolding for_setup
  for_setup-declaration ts h = rw h refl

  for_setup-assignment : (ts : List Lexeme) → begins_type ts ≡ false → for_setup room ts ≡ assignment room ts
  unfolding for_setup
  for_setup-assignment ts h = rw h refl

module _ (room : ℕ) where
  initialiser-is : (ts rest : List Lexeme) (x : RawStmt) → sees s.Semicolon ts ≡ false → 0 < room → for_setup (room - 1) ts ≡ Ok (x, rest) → initialiser room ts ≡ Ok (Some x, rest)
  initialiser-is ts rest x h p read = initialiser-some room ts h p ∙ rw read refl

  pub complete_initialiser : {c : Lexeme} {ts rest : List Lexeme} {i : Option RawStmt} → Initialiser ts i (c ∷ rest) → c.symbol ≡ s.Semicolon → held i ≤ room → initialiser room ts ≡ Ok (i, c ∷ rest)
  complete_initialiser {c} {rest = rest} no_initialiser k low = initialiser-none room (c ∷ rest) (sees-yes s.Semicolon c rest k)
  complete_initialiser {c} {ts} {rest} (assigning {x = x} d) k low =
      let tall = stmt_height-pos x in
      initialiser-is ts (c ∷ rest) x (assignment_no s.Semicolon refl d) (omega arith)
      (for_setup-assignment (room - 1) ts (assignment_no_type d) ∙ complete_assignment (room - 1) d (omega arith) (closes-by s.Semicolon c rest k refl))
  complete_initialiser {c} {ts} {rest} (declaring {x = x} {q = q} {to = to} {u = u} {a = a} y h i d) k low =
      let tall = height-Declare false to (spot x) (shape.Scalar (Some a)) in
      initialiser-is ts (c ∷ rest) (stmt.Declare false to (spot x) (shape.Scalar (Some a))) (type_no s.Semicolon refl y) (omega arith)
      (for_setup-declaration (room - 1) ts (type_begins y)
      ∙ for_declaration-yes (room - 1) to x q ts u (c ∷ rest) a (type_yes y (sees-no s.Int s.Name x (q ∷ u) h refl)) h i (expr_closed (room - 1) d (closes-by s.Semicolon c rest k refl) (omega arith)))

  pub complete_test : {c : Lexeme} {ts rest : List Lexeme} {a : RawExpr} → Condition ts a (c ∷ rest) → c.symbol ≡ s.Semicolon → height a ≤ room → test room ts ≡ Ok (a, c ∷ rest)
  complete_test {c} {rest = rest} (no_condition h) k low = test-none room (c ∷ rest) (omega (arith, height-pos (one c))) (sees-yes s.Semicolon c rest h)
  complete_test {c} {ts} {rest} {a} (some_condition d) k low =
      test-some room ts (omega (arith, height-pos a)) (expr_no s.Semicolon refl d) ∙ expr_closed room d (closes-by s.Semicolon c rest k refl) low

  for_step-is : (ts rest : List Lexeme) (x : RawStmt) → sees s.RightParen ts ≡ false → 0 < room → assignment (room - 1) ts ≡ Ok (x, rest) → for_step room ts ≡ Ok (Some x, rest)
  for_step-is ts rest x h p read = for_step-some room ts h p ∙ rw read refl

  pub complete_step : {c : Lexeme} {ts rest : List Lexeme} {j : Option RawStmt} → Step ts j (c ∷ rest) → c.symbol ≡ s.RightParen → held j ≤ room → for_step room ts ≡ Ok (j, c ∷ rest)
  complete_step {c} {rest = rest} no_step k low = for_step-none room (c ∷ rest) (sees-yes s.RightParen c rest k)
  complete_step {c} {ts} {rest} (some_step {x = x} d) k low =
      let tall = stmt_height-pos x in
      for_step-is ts (c ∷ rest) x (assignment_no s.RightParen refl d) (omega arith) (complete_assignment (room - 1) d (omega arith) (closes-by s.RightParen c rest k refl))

  -- ---- conditions, and the expression of a `return`

  condition-yes : (p c : Lexeme) (ts u : List Lexeme) (a : RawExpr) → p.symbol ≡ s.LeftParen → expr_phrase room 0 ts ≡ Ok (a, c ∷ u) → c.symbol ≡ s.RightParen → condition room (p ∷ ts) ≡ Ok (a, u)
  unfolding condition expr_before
  condition-yes p c ts u a h read k = rw (expect-yes s.LeftParen p ts h, read, expect-yes s.RightParen c u k) refl

  pub complete_condition : (p : Lexeme) {c : Lexeme} {ts u : List Lexeme} {a : RawExpr} → p.symbol ≡ s.LeftParen → Expression 0 ts a (c ∷ u) → c.symbol ≡ s.RightParen → height a ≤ room → condition room (p ∷ ts) ≡ Ok (a, u)
  complete_condition p {c} {ts} {u} {a} h d k low = condition-yes p c ts u a h (expr_closed room d (closes-by s.RightParen c u k refl) low) k

  returned_value-none : (c : Lexeme) (rest : List Lexeme) → c.symbol ≡ s.Semicolon → returned_value room (c ∷ rest) ≡ Ok (None, c ∷ rest)
  unfolding returned_value
  returned_value-none c rest h = rw (sees-yes s.Semicolon c rest h) refl

  returned_value-some : (ts rest : List Lexeme) (a : RawExpr) → sees s.Semicolon ts ≡ false → expr_phrase room 0 ts ≡ Ok (a, rest) → returned_value room ts ≡ Ok (Some a, rest)
  unfolding returned_value
  returned_value-some ts rest a h read = rw (h, read) refl

  return_statement-yes : (t c : Lexeme) (ts rest : List Lexeme) (value : Option RawExpr) → t.symbol ≡ s.Return → returned_value room ts ≡ Ok (value, c ∷ rest) → c.symbol ≡ s.Semicolon → return_statement room (t ∷ ts) ≡ Ok (stmt.Return t.at value ∷ [], rest)
  unfolding return_statement
  return_statement-yes t c ts rest value h read k = rw (expect-yes s.Return t ts h, read, expect-yes s.Semicolon c rest k) refl

  pub complete_return_nothing : (t c : Lexeme) {rest : List Lexeme} → t.symbol ≡ s.Return → c.symbol ≡ s.Semicolon → return_statement room (t ∷ c ∷ rest) ≡ Ok (stmt.Return t.at None ∷ [], rest)
  complete_return_nothing t c {rest} h k = return_statement-yes t c (c ∷ rest) rest None h (returned_value-none c rest k) k

  pub complete_return_value : (t : Lexeme) {c : Lexeme} {ts rest : List Lexeme} {a : RawExpr} → t.symbol ≡ s.Return → Expression 0 ts a (c ∷ rest) → c.symbol ≡ s.Semicolon → height a ≤ room → return_statement room (t ∷ ts) ≡ Ok (stmt.Return t.at (Some a) ∷ [], rest)
  complete_return_value t {c} {ts} {rest} {a} h d k low =
      return_statement-yes t c ts rest (Some a) h (returned_value-some ts (c ∷ rest) a (expr_no s.Semicolon refl d) (expr_closed room d (closes-by s.Semicolon c rest k refl) low)) k

-- ---- the bound of a loop

pub bound_read : {ts rest : List Lexeme} {b : Option RawBound} → LoopBound ts b rest → sees s.Bound rest ≡ false → possible_bound ts ≡ Ok (b, rest)
unfolding possible_bound
bound_read (unbounded {rest = rest}) h = rw h refl
bound_read (bounded {t = t} {rest = rest} i) h = rw (sees-yes s.Bound t rest i, symbol_phrase-yes s.Bound _ t rest i) refl
