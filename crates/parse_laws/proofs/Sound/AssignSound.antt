-- Assignments that are read are spelled.
use Rattle.std.proofs.Common.{◌≡◌, ℕ, zero, suc, ◌<◌, ◌≤◌, Bool, true, false, List, [], ◌∷◌, Some, None, refl, arith}
use Rattle.c_tree.specs.declared.tree.Ty.TheVariants as ty
use Rattle.c_tree.specs.declared.tree.BinOp.{BinOp}
use Rattle.c_tree.specs.declared.unit.RawExpr.{RawExpr}
use Rattle.c_tree.specs.declared.unit.RawPlace.{RawPlace}
use Rattle.c_tree.specs.declared.unit.RawPlace.TheVariants as place
use Rattle.c_tree.specs.declared.unit.RawStmt.{RawStmt}
use Rattle.c_tree.specs.declared.symbol.Symbol.{Symbol}
use Rattle.c_tree.specs.declared.symbol.Symbol.TheVariants as s
use Rattle.c_tree.specs.Grammar.Heights.{height, place_height, stmt_height, body_height}
use Rattle.c_tree.specs.Grammar.SpelledExpressions.{Expression}
use Rattle.c_tree.specs.Grammar.SpelledStatements.{Assigned, scalar_place, element_place, one, Assignment, plain_assignment, compound_assignment, step_after, step_before, Sort, Plain, Statement, assign}
use Rattle.c_tree.specs.Tokens.Symbols.{Lexeme, spot}
use Rattle.parse_laws.specs.Parser.{and_then, sees}
use Rattle.parse_laws.specs.ReadExpr.{index_phrase, expr_phrase}
use Rattle.parse_laws.specs.ReadSimple.{assigned_place, assignment_to, assignment_to_by, step_before_place, assignment, assignment_by, assignment_statement as read_assign}
use Rattle.parse_laws.proofs.Sound.DeclSound.{index_sound}
use Rattle.parse_laws.proofs.Sound.ExprSound.{Index, brackets}
use Rattle.parse_laws.proofs.Tokens.ExprClosed.{expr_sound}
use Rattle.parse_laws.proofs.Reading.Layers.{height-Num, height-Assign}
use Rattle.parse_laws.proofs.Reading.Phrases.{IsPhrase}
use Rattle.parse_laws.proofs.Reading.Steps.{Sound, bind, choose, step}

-- ---- assignments

element_of : {x : Lexeme} {ts rest : List Lexeme} {a : RawExpr} → x.symbol ≡ s.Name → Index ts a rest → Assigned (x ∷ ts) (place.Elem (spot x) a) rest
element_of h (brackets i d k) = element_place h i d k

assigned_sound : (room : ℕ) (ts : List Lexeme) → Sound (IsPhrase Assigned place_height room ts) (assigned_place room ts)
unfolding assigned_place
assigned_sound zero ts = tt
assigned_sound (suc r) ts = step s.Name spot _ (λ u. Unit {0}) (IsPhrase Assigned place_height (suc r)) ts tt
    (λ x u _ h. choose (Sound (IsPhrase Assigned place_height (suc r) (x ∷ u))) (sees s.LeftBracket u) _ _
    (λ g. bind (IsPhrase Index height r u) (IsPhrase Assigned place_height (suc r) (x ∷ u)) (index_phrase (expr_phrase r) u) _ (index_sound r u)
    (λ a v d. record { spells = element_of h d.spells; low = omega (arith, d.low) }))
    (λ g. record { spells = scalar_place h; low = omega arith }))

place_height-pos : (p : RawPlace) → 0 < place_height p
place_height-pos (place.Scalar x) = omega arith
place_height-pos (place.Elem x a) = omega arith

pub record IsStatement (o : Sort) (room : ℕ) (ts : List Lexeme) (xs : List RawStmt) (rest : List Lexeme) : Type 0 where
  pub open_if : Bool
  pub spells : Statement o open_if ts xs rest
  pub low : body_height xs ≤ room
  pub shut : open_if ≡ true → sees s.Else rest ≡ false

module _ (room : ℕ) where
  assignment_to_sound : (ts u : List Lexeme) (p : RawPlace) → IsPhrase Assigned place_height room ts p u → Sound (IsPhrase Assignment stmt_height (suc room) ts) (assignment_to room p u)
  unfolding assignment_to
  assignment_to_sound ts [] p d = tt
  assignment_to_sound ts (q ∷ u) p d = by_symbol q.symbol refl
    where
      by_symbol : (m : Symbol) → q.symbol ≡ m → Sound (IsPhrase Assignment stmt_height (suc room) ts) (assignment_to_by room p (Some m) (q ∷ u))
      by_symbol s.Assign is = bind (IsPhrase (Expression 0) height room u) (IsPhrase Assignment stmt_height (suc room) ts) (expr_phrase room 0 u) _ (expr_sound room u)
          (λ a v e. record { spells = plain_assignment d.spells is e.spells; low = omega (arith, height-Assign p None a, d.low, e.low) })
      by_symbol (s.Compound o) is = bind (IsPhrase (Expression 0) height room u) (IsPhrase Assignment stmt_height (suc room) ts) (expr_phrase room 0 u) _ (expr_sound room u)
          (λ a v e. record { spells = compound_assignment d.spells is e.spells; low = omega (arith, height-Assign p (Some o) a, d.low, e.low) })
      by_symbol (s.Step o) is = record { spells = step_after d.spells is; low = omega (arith, height-Assign p (Some o) (one q), height-Num q.at ty.Int 1, place_height-pos p, d.low) }
      by_symbol _ is = tt

  stepped_sound : (q : Lexeme) (o : BinOp) (ts : List Lexeme) → q.symbol ≡ s.Step o → Sound (IsPhrase Assignment stmt_height (suc room) (q ∷ ts)) (step_before_place room o (q ∷ ts))
  unfolding step_before_place
  stepped_sound q o ts is = bind (IsPhrase Assigned place_height room ts) (IsPhrase Assignment stmt_height (suc room) (q ∷ ts)) (assigned_place room ts) _ (assigned_sound room ts)
      (λ p u d. record { spells = step_before is d.spells; low = omega (arith, height-Assign p (Some o) (one q), height-Num q.at ty.Int 1, place_height-pos p, d.low) })

  from_place : (ts : List Lexeme) → Sound (IsPhrase Assignment stmt_height (suc room) ts) (and_then (assigned_place room ts) (assignment_to room))
  from_place ts = bind (IsPhrase Assigned place_height room ts) (IsPhrase Assignment stmt_height (suc room) ts) (assigned_place room ts) _ (assigned_sound room ts) (λ p u d. assignment_to_sound ts u p d)

  pub assignment_sound : (ts : List Lexeme) → Sound (IsPhrase Assignment stmt_height (suc room) ts) (assignment room ts)
  unfolding assignment
  assignment_sound [] = from_place []
  assignment_sound (q ∷ ts) = by_symbol q.symbol refl
    where
      by_symbol : (m : Symbol) → q.symbol ≡ m → Sound (IsPhrase Assignment stmt_height (suc room) (q ∷ ts)) (assignment_by room (Some m) (q ∷ ts))
      by_symbol (s.Step o) is = stepped_sound q o ts is
      by_symbol _ is = from_place (q ∷ ts)

  pub assign_sound : (ts : List Lexeme) → Sound (IsStatement Plain (suc room) ts) (read_assign room ts)
  unfolding read_assign
  assign_sound ts = bind (IsPhrase Assignment stmt_height (suc room) ts) (IsStatement Plain (suc room) ts) (assignment room ts) _ (assignment_sound ts)
      (λ x u d. step s.Semicolon _ _ (λ v. Assignment ts x v) (λ v. IsStatement Plain (suc room) ts) u d.spells
      (λ c v e k. record { open_if = false; spells = assign e k; low = omega (arith, d.low); shut = λ n. cc }))
