-- The parts of loops and jumps that are read are spelled.
use Rattle.std.proofs.Common.{◌≡◌, ℕ, zero, suc, ◌≤◌, false, List, [], ◌∷◌, Option, Some, None, arith}
use Rattle.c_tree.specs.declared.tree.Ty.{Ty}
use Rattle.c_tree.specs.declared.tree.Ty.TheVariants as ty
use Rattle.c_tree.specs.declared.unit.RawExpr.{RawExpr}
use Rattle.c_tree.specs.declared.unit.RawShape.TheVariants as shape
use Rattle.c_tree.specs.declared.unit.RawStmt.{RawStmt}
use Rattle.c_tree.specs.declared.unit.RawStmt.TheVariants as stmt
use Rattle.c_tree.specs.declared.symbol.Symbol.TheVariants as s
use Rattle.c_tree.specs.Grammar.Heights.{height, option_height, stmt_height}
use Rattle.c_tree.specs.Grammar.SpelledExpressions.{TypeName, Expression}
use Rattle.c_tree.specs.Grammar.SpelledStatements.{Assignment, LoopBound, unbounded, bounded, Initialiser, no_initialiser, assigning, declaring, Condition, no_condition, condition, Step, no_step, step as some_step, Plain, Statement, return_nothing, return_value}
use Rattle.c_tree.specs.Tokens.Symbols.{Lexeme, spot}
use Rattle.parse_laws.specs.declared.head.ForHead.{ForHead}
use Rattle.parse_laws.specs.Parser.{sees, type_name, begins_type}
use Rattle.parse_laws.specs.ReadExpr.{expr_before, expr_phrase}
use Rattle.parse_laws.specs.ReadSimple.{assignment, returned_value, return_statement}
use Rattle.parse_laws.specs.ReadStmt.{condition as read_condition, for_declaration, for_setup, initialiser, test, for_step as read_step, do_end, for_head, possible_bound}
use Rattle.parse_laws.proofs.Sound.AssignSound.{IsStatement, assignment_sound}
use Rattle.parse_laws.proofs.Tokens.ExprClosed.{expr_sound}
use Rattle.parse_laws.proofs.Sound.ExprSound.{Before, before, IsBefore, before_read}
use Rattle.parse_laws.proofs.Reading.Layers.{height-Num, height-Declare, height-Return}
use Rattle.parse_laws.proofs.Reading.Phrases.{IsPhrase}
use Rattle.parse_laws.proofs.Reading.Steps.{Sound, bind, choose, step, split_at, sees-yes, symbol_phrase-yes, weaken}
use Rattle.parse_laws.proofs.Reading.StmtLayers.{held}
use Rattle.parse_laws.proofs.Tokens.Types.{type_sound}

-- what a `for` may begin with
data Setup : List Lexeme → RawStmt → List Lexeme → Type 0 where
  setting : {ts rest : List Lexeme} {x : RawStmt} → Assignment ts x rest → Setup ts x rest
  counting : {x q : Lexeme} {to : Ty} {ts u rest : List Lexeme} {a : RawExpr}
      → TypeName ts to (x ∷ q ∷ u) → x.symbol ≡ s.Name → q.symbol ≡ s.Assign → Expression 0 u a rest
      → Setup ts (stmt.Declare false to (spot x) (shape.Scalar (Some a))) rest

initialiser_of : {ts rest : List Lexeme} {x : RawStmt} → Setup ts x rest → Initialiser ts (Some x) rest
initialiser_of (setting d) = assigning d
initialiser_of (counting y h i d) = declaring y h i d

-- `( expression )`
pub data Guard : List Lexeme → RawExpr → List Lexeme → Type 0 where
  guard_of : {p c : Lexeme} {ts rest : List Lexeme} {a : RawExpr} → p.symbol ≡ s.LeftParen → Expression 0 ts a (c ∷ rest) → c.symbol ≡ s.RightParen → Guard (p ∷ ts) a rest

guard_by : {p : Lexeme} {ts rest : List Lexeme} {a : RawExpr} → p.symbol ≡ s.LeftParen → Before s.RightParen ts a rest → Guard (p ∷ ts) a rest
guard_by h (before d k) = guard_of h d k

-- the expression of a `return`
data Answer : List Lexeme → Option RawExpr → List Lexeme → Type 0 where
  nothing : {ts : List Lexeme} → Answer ts None ts
  something : {ts rest : List Lexeme} {a : RawExpr} → Expression 0 ts a rest → Answer ts (Some a) rest

answered : {t c : Lexeme} {ts rest : List Lexeme} {value : Option RawExpr} → t.symbol ≡ s.Return → Answer ts value (c ∷ rest) → c.symbol ≡ s.Semicolon → Statement Plain false (t ∷ ts) (stmt.Return t.at value ∷ []) rest
answered h nothing k = return_nothing h k
answered h (something d) k = return_value h d k

module _ (room : ℕ) where
  for_declaration_sound : (ts : List Lexeme) → Sound (IsPhrase Setup stmt_height (suc room) ts) (for_declaration room ts)
  unfolding for_declaration
  for_declaration_sound ts = bind (λ to u. TypeName ts to u) (IsPhrase Setup stmt_height (suc room) ts) (type_name ts) _ (type_sound ts)
      (λ to u y. step s.Name spot _ (λ v. TypeName ts to v) (λ v. IsPhrase Setup stmt_height (suc room) ts) u y
      (λ x v y h. step s.Assign _ _ (λ w. TypeName ts to (x ∷ w)) (λ w. IsPhrase Setup stmt_height (suc room) ts) v y
      (λ q w y i. bind (IsPhrase (Expression 0) height room w) (IsPhrase Setup stmt_height (suc room) ts) (expr_phrase room 0 w) _ (expr_sound room w)
      (λ a z d. record { spells = counting y h i d.spells; low = omega (arith, height-Declare false to (spot x) (shape.Scalar (Some a)), d.low) }))))

  setup_sound : (ts : List Lexeme) → Sound (IsPhrase Setup stmt_height (suc room) ts) (for_setup room ts)
  unfolding for_setup
  setup_sound ts = choose (Sound (IsPhrase Setup stmt_height (suc room) ts)) (begins_type ts) _ _
      (λ g. for_declaration_sound ts)
      (λ g. weaken (IsPhrase Assignment stmt_height (suc room) ts) (IsPhrase Setup stmt_height (suc room) ts) (assignment room ts) (assignment_sound room ts) (λ x u d. record { spells = setting d.spells; low = d.low }))

  pub condition_sound : (ts : List Lexeme) → Sound (IsPhrase Guard height room ts) (read_condition room ts)
  unfolding read_condition
  condition_sound ts = step s.LeftParen _ _ (λ u. Unit {0}) (IsPhrase Guard height room) ts tt
      (λ p u _ h. weaken (IsBefore room s.RightParen u) (IsPhrase Guard height room (p ∷ u)) (expr_before (expr_phrase room) s.RightParen u) (before_read room s.RightParen u)
      (λ a v d. record { spells = guard_by h d.spells; low = d.low }))

  returned_value_sound : (ts : List Lexeme) → Sound (IsPhrase Answer option_height room ts) (returned_value room ts)
  unfolding returned_value
  returned_value_sound ts = choose (Sound (IsPhrase Answer option_height room ts)) (sees s.Semicolon ts) _ _
      (λ g. record { spells = nothing; low = omega arith })
      (λ g. bind (IsPhrase (Expression 0) height room ts) (IsPhrase Answer option_height room ts) (expr_phrase room 0 ts) _ (expr_sound room ts)
      (λ a u d. record { spells = something d.spells; low = d.low }))

  pub returned_sound : (ts : List Lexeme) → Sound (IsStatement Plain (suc room) ts) (return_statement room ts)
  unfolding return_statement
  returned_sound ts = step s.Return _ _ (λ u. Unit {0}) (IsStatement Plain (suc room)) ts tt
      (λ t u _ h. bind (IsPhrase Answer option_height room u) (IsStatement Plain (suc room) (t ∷ u)) (returned_value room u) _ (returned_value_sound u)
      (λ value v d. step s.Semicolon _ _ (λ w. Answer u value w) (λ w. IsStatement Plain (suc room) (t ∷ u)) v d.spells
      (λ c w e k. record { open_if = false; spells = answered h e k; low = omega (arith, height-Return t.at value, d.low); shut = λ n. cc })))

-- ---- the parts of a `for`

pub initialiser_sound : (room : ℕ) (ts : List Lexeme) → Sound (IsPhrase Initialiser held room ts) (initialiser room ts)
unfolding initialiser
initialiser_sound zero ts = choose (Sound (IsPhrase Initialiser held zero ts)) (sees s.Semicolon ts) _ _ (λ g. record { spells = no_initialiser; low = omega arith }) (λ g. tt)
initialiser_sound (suc r) ts = choose (Sound (IsPhrase Initialiser held (suc r) ts)) (sees s.Semicolon ts) _ _
    (λ g. record { spells = no_initialiser; low = omega arith })
    (λ g. bind (IsPhrase Setup stmt_height (suc r) ts) (IsPhrase Initialiser held (suc r) ts) (for_setup r ts) _ (setup_sound r ts)
    (λ x u d. record { spells = initialiser_of d.spells; low = d.low }))

pub test_sound : (room : ℕ) (ts : List Lexeme) → Sound (IsPhrase Condition height room ts) (test room ts)
unfolding test
test_sound zero ts = tt
test_sound (suc r) ts = split_at s.Semicolon (λ u. Sound (IsPhrase Condition height (suc r) u) (test (suc r) u)) ts
    (λ t u is. rw (sees-yes s.Semicolon t u is) (record { spells = no_condition is; low = omega (arith, height-Num t.at ty.Int 1) }))
    (λ none. rw none (weaken (IsPhrase (Expression 0) height (suc r) ts) (IsPhrase Condition height (suc r) ts) (expr_phrase (suc r) 0 ts) (expr_sound (suc r) ts) (λ a u d. record { spells = condition d.spells; low = d.low })))

pub step_sound : (room : ℕ) (ts : List Lexeme) → Sound (IsPhrase Step held room ts) (read_step room ts)
unfolding read_step
step_sound zero ts = choose (Sound (IsPhrase Step held zero ts)) (sees s.RightParen ts) _ _ (λ g. record { spells = no_step; low = omega arith }) (λ g. tt)
step_sound (suc r) ts = choose (Sound (IsPhrase Step held (suc r) ts)) (sees s.RightParen ts) _ _
    (λ g. record { spells = no_step; low = omega arith })
    (λ g. bind (IsPhrase Assignment stmt_height (suc r) ts) (IsPhrase Step held (suc r) ts) (assignment r ts) _ (assignment_sound r ts)
    (λ x u d. record { spells = some_step d.spells; low = d.low }))

-- ---- the head of a `for`, and what ends a `do`

pub data Head : List Lexeme → ForHead → List Lexeme → Type 0 where
  head_of : {p c d e : Lexeme} {ts u v rest : List Lexeme} {i j : Option RawStmt} {a : RawExpr} → p.symbol ≡ s.LeftParen → Initialiser ts i (c ∷ u) → c.symbol ≡ s.Semicolon → Condition u a (d ∷ v) → d.symbol ≡ s.Semicolon
      → Step v j (e ∷ rest) → e.symbol ≡ s.RightParen → Head (p ∷ ts) (record { first = i; test = a; last = j }) rest

pub record IsHead (room : ℕ) (ts : List Lexeme) (h : ForHead) (rest : List Lexeme) : Type 0 where
  pub spells : Head ts h rest
  pub low_first : held h.first ≤ room
  pub low_test : height h.test ≤ room
  pub low_last : held h.last ≤ room

pub head_sound : (room : ℕ) (ts : List Lexeme) → Sound (IsHead room ts) (for_head room ts)
unfolding for_head
head_sound room ts = step s.LeftParen _ _ (λ u. Unit {0}) (IsHead room) ts tt
    (λ p w _ hp. bind (IsPhrase Initialiser held room w) (IsHead room (p ∷ w)) (initialiser room w) _ (initialiser_sound room w)
    (λ i z y. step s.Semicolon _ _ (λ r. Initialiser w i r) (λ r. IsHead room (p ∷ w)) z y.spells
    (λ c r y2 hc. bind (IsPhrase Condition height room r) (IsHead room (p ∷ w)) (test room r) _ (test_sound room r)
    (λ a q e. step s.Semicolon _ _ (λ m. Condition r a m) (λ m. IsHead room (p ∷ w)) q e.spells
    (λ d m e2 hd. bind (IsPhrase Step held room m) (IsHead room (p ∷ w)) (read_step room m) _ (step_sound room m)
    (λ k o n. step s.RightParen _ _ (λ g. Step m k g) (λ g. IsHead room (p ∷ w)) o n.spells
    (λ t g n2 ht. record { spells = head_of hp y2 hc e2 hd n2 ht; low_first = y.low; low_test = e.low; low_last = n.low })))))))

pub data End : List Lexeme → RawExpr → List Lexeme → Type 0 where
  end_of : {w c : Lexeme} {ts rest : List Lexeme} {a : RawExpr} → w.symbol ≡ s.While → Guard ts a (c ∷ rest) → c.symbol ≡ s.Semicolon → End (w ∷ ts) a rest

pub end_sound : (room : ℕ) (ts : List Lexeme) → Sound (IsPhrase End height room ts) (do_end room ts)
unfolding do_end
end_sound room ts = step s.While _ _ (λ u. Unit {0}) (IsPhrase End height room) ts tt
    (λ w y _ i. bind (IsPhrase Guard height room y) (IsPhrase End height room (w ∷ y)) (read_condition room y) _ (condition_sound room y)
    (λ a q g. step s.Semicolon _ _ (λ r. Guard y a r) (λ r. IsPhrase End height room (w ∷ y)) q g.spells
    (λ e r g2 k. record { spells = end_of i g2 k; low = g.low })))

pub bound_sound : (ts : List Lexeme) → Sound (λ b u. LoopBound ts b u) (possible_bound ts)
unfolding possible_bound
bound_sound ts = split_at s.Bound (λ u. Sound (λ b v. LoopBound u b v) (possible_bound u)) ts
    (λ t u is. rw (sees-yes s.Bound t u is, symbol_phrase-yes s.Bound _ t u is) (bounded is))
    (λ none. rw none unbounded)
