-- An expression that is read is spelled.
use Rattle.std.proofs.Common.{◌≡◌, ℕ, zero, suc, ◌+◌, ◌-◌, ◌≤◌, true, List, [], ◌∷◌, Option, Some, None, refl, ap, subst, arith}
use Rattle.std.specs.Prelude.{nat_le}
use Rattle.std.proofs.lemmas.Bool.{leb-true, leb-false}
use Rattle.std.proofs.lemmas.Bool.Decides.{nat_tests}
use Rattle.c_tree.specs.declared.tree.UnOp.{UnOp}
use Rattle.c_tree.specs.declared.tree.BinOp.{BinOp}
use Rattle.c_tree.specs.declared.unit.RawExpr.{RawExpr}
use Rattle.c_tree.specs.declared.unit.RawExpr.TheVariants as e
use Rattle.c_tree.specs.declared.symbol.Symbol.{Symbol}
use Rattle.c_tree.specs.declared.symbol.Symbol.TheVariants as s
use Rattle.c_tree.specs.Grammar.Heights.{height}
use Rattle.c_tree.specs.Grammar.SpelledExpressions.{unary_operator, level, TypeName, Expression, tighter, conditional, binary, unary, cast, number, name, element, paren}
use Rattle.c_tree.specs.Tokens.Symbols.{Lexeme, spot}
use Rattle.parse_laws.specs.declared.going.Next.{Next}
use Rattle.parse_laws.specs.declared.going.Next.TheVariants.{Stop, Ask, By}
use Rattle.parse_laws.specs.Going.{next_for, next_seen, binds}
use Rattle.parse_laws.specs.Lexeme.{constant_expr}
use Rattle.parse_laws.specs.Parser.{Parser, sees, begins_type, type_name}
use Rattle.parse_laws.specs.ReadExpr.{expr_before, index_phrase, choices, element_or_name, variable_phrase, cast as read_cast, expr_in_parentheses as read_paren, cast_or_parentheses, parenthesis_phrase, unary_phrase as read_unary, unary_by, operand_by, operand, operation, conditional as read_conditional, with_next_operator, climb_by, climb, expr_phrase}
use Rattle.parse_laws.proofs.Tokens.Follows.{strength, Quiet, level-below, strength-below, quiet-strength, next_for-ask, next_for-by}
use Rattle.parse_laws.proofs.Reading.Layers.{height-Num, height-Name, height-Elem, height-Un, height-Cast, height-Bin, height-Cond, height-Paren}
use Rattle.parse_laws.proofs.Reading.Steps.{Sound, bind, weaken, choose, step, taken}
use Rattle.parse_laws.proofs.Tokens.Types.{type_sound}

pub record IsRead (room n : ℕ) (ts : List Lexeme) (a : RawExpr) (rest : List Lexeme) : Type 0 where
  pub spells : Expression n ts a rest
  pub low : height a ≤ room
  pub quiet : Quiet n (next_seen rest)

-- an expression of a tighter level is one of a looser level
lift-by : (by n : ℕ) {m : ℕ} {ts rest : List Lexeme} {a : RawExpr} → m ≡ n + by → Expression m ts a rest → Expression n ts a rest
lift-by zero n {m} {ts} {rest} {a} h d = let same : m ≡ n = omega arith in subst (λ (i : ℕ). Expression i ts a rest) same d
lift-by (suc by) n h d = tighter (lift-by by (suc n) (omega arith) d)

lift : (n m : ℕ) {ts rest : List Lexeme} {a : RawExpr} → n ≤ m → Expression m ts a rest → Expression n ts a rest
lift n m h d = lift-by (m - n) n (omega arith) d

-- an operand, of the level of the unary operators
record IsOperand (room : ℕ) (ts : List Lexeme) (a : RawExpr) (rest : List Lexeme) : Type 0 where
  spells : Expression 11 ts a rest
  low : height a ≤ room

-- the brackets after a name, and what stands in them
pub data Index : List Lexeme → RawExpr → List Lexeme → Type 0 where
  brackets : {b c : Lexeme} {ts rest : List Lexeme} {a : RawExpr} → b.symbol ≡ s.LeftBracket → Expression 0 ts a (c ∷ rest) → c.symbol ≡ s.RightBracket → Index (b ∷ ts) a rest

pub record IsIndex (room : ℕ) (ts : List Lexeme) (a : RawExpr) (rest : List Lexeme) : Type 0 where
  pub spells : Index ts a rest
  pub low : height a ≤ room

with_index : {x : Lexeme} {ts rest : List Lexeme} {a : RawExpr} → x.symbol ≡ s.Name → Index ts a rest → Expression 12 (x ∷ ts) (e.Elem (spot x) a) rest
with_index h (brackets i d k) = element h i d k

-- an expression, and the symbol after it
pub data Before (m : Symbol) : List Lexeme → RawExpr → List Lexeme → Type 0 where
  before : {c : Lexeme} {ts rest : List Lexeme} {a : RawExpr} → Expression 0 ts a (c ∷ rest) → c.symbol ≡ m → Before m ts a rest

pub record IsBefore (room : ℕ) (m : Symbol) (ts : List Lexeme) (a : RawExpr) (rest : List Lexeme) : Type 0 where
  pub spells : Before m ts a rest
  pub low : height a ≤ room

index_of : {b : Lexeme} {ts rest : List Lexeme} {a : RawExpr} → b.symbol ≡ s.LeftBracket → Before s.RightBracket ts a rest → Index (b ∷ ts) a rest
index_of i (before d k) = brackets i d k

paren_of : {t : Lexeme} {ts rest : List Lexeme} {a : RawExpr} → t.symbol ≡ s.LeftParen → Before s.RightParen ts a rest → Expression 12 (t ∷ ts) (e.Paren t.at a) rest
paren_of i (before d k) = paren i d k

-- what a `?` chooses from
data Choices : List Lexeme → RawExpr → RawExpr → List Lexeme → Type 0 where
  either : {x : Lexeme} {u w rest : List Lexeme} {b c : RawExpr} → Expression 0 u b (x ∷ w) → x.symbol ≡ s.Colon → Expression 0 w c rest → Choices u b c rest

choices_of : {u w rest : List Lexeme} {b c : RawExpr} → Before s.Colon u b w → Expression 0 w c rest → Choices u b c rest
choices_of (before f k) g = either f k g

conditional_of : {q : Lexeme} {ts u rest : List Lexeme} {a b c : RawExpr} → Expression 1 ts a (q ∷ u) → q.symbol ≡ s.Question → Choices u b c rest → Expression 0 ts (e.Cond a b c) rest
conditional_of d i (either f k g) = conditional d i f k g

record AreChoices (room : ℕ) (ts : List Lexeme) (p : RawExpr × RawExpr) (rest : List Lexeme) : Type 0 where
  spells : Choices ts p.0 p.1 rest
  low_first : height p.0 ≤ room
  low_second : height p.1 ≤ room
  quiet : Quiet 0 (next_seen rest)

module _ (inner : ℕ → Parser RawExpr) (j : ℕ) (read : (n : ℕ) → n ≤ 11 → (ts : List Lexeme) → Sound (IsRead j n ts) (inner n ts)) where
  before_sound : (m : Symbol) (ts : List Lexeme) → Sound (IsBefore j m ts) (expr_before inner m ts)
  unfolding expr_before
  before_sound m ts = bind (IsRead j 0 ts) (IsBefore j m ts) (inner 0 ts) _ (read 0 (omega arith) ts)
      (λ a v r. step m _ _ (λ w. Expression 0 ts a w) (λ w. IsBefore j m ts) v r.spells
      (λ c w d k. record { spells = before d k; low = r.low }))

  index_sound : (ts : List Lexeme) → Sound (IsIndex j ts) (index_phrase inner ts)
  unfolding index_phrase
  index_sound ts = step s.LeftBracket _ _ (λ u. Unit {0}) (IsIndex j) ts tt
      (λ b u _ i. weaken (IsBefore j s.RightBracket u) (IsIndex j (b ∷ u)) (expr_before inner s.RightBracket u) (before_sound s.RightBracket u)
      (λ a v r. record { spells = index_of i r.spells; low = r.low }))

  named_sound : (x : Lexeme) (ts : List Lexeme) → x.symbol ≡ s.Name → Sound (IsOperand (suc j) (x ∷ ts)) (element_or_name inner (spot x) ts)
  unfolding element_or_name
  named_sound x ts h = choose (Sound (IsOperand (suc j) (x ∷ ts))) (sees s.LeftBracket ts) _ _
      (λ _. bind (IsIndex j ts) (IsOperand (suc j) (x ∷ ts)) (index_phrase inner ts) _ (index_sound ts)
      (λ a u r. record { spells = tighter (with_index h r.spells); low = omega (arith, height-Elem (spot x) a, r.low) }))
      (λ _. record { spells = tighter (name h); low = omega (arith, height-Name (spot x)) })

  variable_sound : (ts : List Lexeme) → Sound (IsOperand (suc j) ts) (variable_phrase inner ts)
  unfolding variable_phrase
  variable_sound ts = step s.Name spot _ (λ u. Unit {0}) (IsOperand (suc j)) ts tt (λ x u _ h. named_sound x u h)

  cast_sound : (t : Lexeme) (ts : List Lexeme) → t.symbol ≡ s.LeftParen → Sound (IsOperand (suc j) (t ∷ ts)) (read_cast inner t.at ts)
  unfolding read_cast
  cast_sound t ts i = bind (λ to u. TypeName ts to u) (IsOperand (suc j) (t ∷ ts)) (type_name ts) _ (type_sound ts)
      (λ to u y. step s.RightParen _ _ (λ w. TypeName ts to w) (λ w. IsOperand (suc j) (t ∷ ts)) u y
      (λ c v y k. bind (IsRead j 11 v) (IsOperand (suc j) (t ∷ ts)) (inner 11 v) _ (read 11 (omega arith) v)
      (λ a w r. record { spells = cast i y k r.spells; low = omega (arith, height-Cast t.at to a, r.low) })))

  paren_sound : (t : Lexeme) (ts : List Lexeme) → t.symbol ≡ s.LeftParen → Sound (IsOperand (suc j) (t ∷ ts)) (read_paren inner t.at ts)
  unfolding read_paren
  paren_sound t ts i = bind (IsBefore j s.RightParen ts) (IsOperand (suc j) (t ∷ ts)) (expr_before inner s.RightParen ts) _ (before_sound s.RightParen ts)
      (λ a v r. record { spells = tighter (paren_of i r.spells); low = omega (arith, height-Paren t.at a, r.low) })

  opened_sound : (t : Lexeme) (ts : List Lexeme) → t.symbol ≡ s.LeftParen → Sound (IsOperand (suc j) (t ∷ ts)) (cast_or_parentheses inner t.at ts)
  unfolding cast_or_parentheses
  opened_sound t ts i = choose (Sound (IsOperand (suc j) (t ∷ ts))) (begins_type ts) _ _ (λ _. cast_sound t ts i) (λ _. paren_sound t ts i)

  parenthesised_sound : (ts : List Lexeme) → Sound (IsOperand (suc j) ts) (parenthesis_phrase inner ts)
  unfolding parenthesis_phrase
  parenthesised_sound ts = step s.LeftParen _ _ (λ u. Unit {0}) (IsOperand (suc j)) ts tt (λ t u _ i. opened_sound t u i)

  unary_sound : (o : UnOp) (t : Lexeme) (ts : List Lexeme) → unary_operator t.symbol ≡ Some o → Sound (IsOperand (suc j) (t ∷ ts)) (read_unary inner o (t ∷ ts))
  unfolding read_unary
  unary_sound o t ts i = bind (IsRead j 11 ts) (IsOperand (suc j) (t ∷ ts)) (inner 11 ts) _ (read 11 (omega arith) ts)
      (λ a u r. record { spells = unary i r.spells; low = omega (arith, height-Un t.at o a, r.low) })

  unary_by_sound : (x : Option UnOp) (t : Lexeme) (ts : List Lexeme) → unary_operator t.symbol ≡ x → Sound (IsOperand (suc j) (t ∷ ts)) (unary_by inner x (t ∷ ts))
  unary_by_sound None t ts i = tt
  unary_by_sound (Some o) t ts i = unary_sound o t ts i

  operand_by_sound : (x : Symbol) (t : Lexeme) (ts : List Lexeme) → t.symbol ≡ x → Sound (IsOperand (suc j) (t ∷ ts)) (operand_by inner (Some x) (t ∷ ts))
  operand_by_sound s.Number t ts i = taken s.Number constant_expr (IsOperand (suc j)) (t ∷ ts) (λ x u h. record { spells = tighter (number h); low = omega (arith, height-Num x.at x.ty x.value) })
  operand_by_sound s.Name t ts i = variable_sound (t ∷ ts)
  operand_by_sound s.LeftParen t ts i = parenthesised_sound (t ∷ ts)
  operand_by_sound x t ts i = unary_by_sound (unary_operator x) t ts (ap unary_operator i)

  operand_sound : (ts : List Lexeme) → Sound (IsOperand (suc j) ts) (operand inner ts)
  unfolding operand
  operand_sound [] = tt
  operand_sound (t ∷ ts) = operand_by_sound t.symbol t ts refl

  -- an operation, before what does not go on with its right operand
  record IsOperation (ts : List Lexeme) (o : BinOp) (a : RawExpr) (rest : List Lexeme) : Type 0 where
    spells : Expression (level o) ts a rest
    low : height a ≤ suc j
    loose : strength (next_seen rest) ≤ level o

  operation_sound : (ts : List Lexeme) (o : BinOp) (t : Lexeme) (u : List Lexeme) (a : RawExpr) → Expression (level o) ts a (t ∷ u) → t.symbol ≡ s.Operator o → height a ≤ j
      → Sound (IsOperation ts o) (operation inner o a (t ∷ u))
  unfolding operation
  operation_sound ts o t u a d i low = bind (IsRead j (suc (level o)) u) (IsOperation ts o) (inner (suc (level o)) u) _ (read (suc (level o)) (omega (arith, level-below o)) u)
      (λ b v r. record { spells = binary d i r.spells; low = omega (arith, height-Bin o a b, r.low); loose = quiet-strength o (next_seen v) r.quiet })

  choices_sound : (ts : List Lexeme) → Sound (AreChoices j ts) (choices inner ts)
  unfolding choices
  choices_sound ts = bind (IsBefore j s.Colon ts) (AreChoices j ts) (expr_before inner s.Colon ts) _ (before_sound s.Colon ts)
      (λ b w r. bind (IsRead j 0 w) (AreChoices j ts) (inner 0 w) _ (read 0 (omega arith) w)
      (λ c z g. record { spells = choices_of r.spells g.spells; low_first = r.low; low_second = g.low; quiet = g.quiet }))

  conditional_sound : (ts : List Lexeme) (q : Lexeme) (u : List Lexeme) (a : RawExpr) → Expression 1 ts a (q ∷ u) → q.symbol ≡ s.Question → height a ≤ j
      → Sound (IsRead (suc j) 0 ts) (read_conditional inner a (q ∷ u))
  unfolding read_conditional
  conditional_sound ts q u a d i low = bind (AreChoices j u) (IsRead (suc j) 0 ts) (choices inner u) _ (choices_sound u)
      (λ p z r. record { spells = conditional_of d i r.spells; low = omega (arith, height-Cond a p.0 p.1, r.low_first, r.low_second); quiet = r.quiet })

  module _ (least : ℕ) (ts : List Lexeme) where
    stop : (n : ℕ) (u : List Lexeme) (a : RawExpr) → least ≤ n → Expression n ts a u → height a ≤ suc j → Quiet least (next_seen u) → IsRead (suc j) least ts a u
    stop n u a le d low q = record { spells = lift least n le d; low = low; quiet = q }

    onward_at : (go : RawExpr → Parser RawExpr) (n : ℕ) (t : Lexeme) (u : List Lexeme) (a : RawExpr) (x : Next) → next_for (Some t.symbol) ≡ x → binds least x ≡ true
        → Expression n ts a (t ∷ u) → strength x ≤ n → height a ≤ j
        → ((o : BinOp) (b : RawExpr) (v : List Lexeme) → least ≤ level o → IsOperation ts o b v → Sound (IsRead (suc j) least ts) (go b v))
        → Sound (IsRead (suc j) least ts) (with_next_operator inner go a x (t ∷ u))
    onward_at go n t u a Stop i some d loose low again = cc
    onward_at go n t u a Ask i some d loose low again =
        let same : 0 ≡ least = grind (arith, nat_tests) in
        subst (λ (m : ℕ). Sound (IsRead (suc j) m ts) (read_conditional inner a (t ∷ u))) same (conditional_sound ts t u a (lift 1 n loose d) (next_for-ask t.symbol i) low)
    onward_at go n t u a (By o) i some d loose low again = bind (IsOperation ts o) (IsRead (suc j) least ts) (operation inner o a (t ∷ u)) go
        (operation_sound ts o t u a (lift (level o) n loose d) (next_for-by o t.symbol i) low)
        (λ b v r. again o b v (leb-true least (level o) some) r)

    climb_at : (go : RawExpr → Parser RawExpr) (n : ℕ) (t : Lexeme) (u : List Lexeme) (a : RawExpr) (x : Next) → next_for (Some t.symbol) ≡ x → next_seen (t ∷ u) ≡ x
        → least ≤ n → Expression n ts a (t ∷ u) → strength x ≤ n → height a ≤ suc j
        → ((o : BinOp) (b : RawExpr) (v : List Lexeme) → least ≤ level o → IsOperation ts o b v → Sound (IsRead (suc j) least ts) (go b v))
        → Sound (IsRead (suc j) least ts) (climb_by inner (suc j) go least a x (t ∷ u))
    climb_at go n t u a x i next_is le d loose low again = choose (λ (p : Parser RawExpr). Sound (IsRead (suc j) least ts) (p (t ∷ u))) (binds least x) _ _
        (λ some. choose (λ (p : Parser RawExpr). Sound (IsRead (suc j) least ts) (p (t ∷ u))) (nat_le (suc j) (height a)) _ _
        (λ g. tt)
        (λ g. onward_at go n t u a x i some d loose (omega (arith, leb-false (suc j) (height a) g)) again))
        (λ none. stop n (t ∷ u) a le d low (rw next_is none))

    climb_sound : (turns n : ℕ) (u : List Lexeme) (a : RawExpr) → least ≤ n → Expression n ts a u → strength (next_seen u) ≤ n → height a ≤ suc j → Sound (IsRead (suc j) least ts) (climb inner (suc j) turns least a u)
    unfolding climb next_seen
    climb_sound zero n u a le d loose low = tt
    climb_sound (suc turns) n [] a le d loose low = stop n [] a le d low refl
    climb_sound (suc turns) n (t ∷ u) a le d loose low = climb_at (climb inner (suc j) turns least) n t u a (next_for (Some t.symbol)) refl refl le d loose low
        (λ o b v tight r. climb_sound turns (level o) v b tight r.spells r.loose r.low)

pub sound : (room n : ℕ) → n ≤ 11 → (ts : List Lexeme) → Sound (IsRead room n ts) (expr_phrase room n ts)
unfolding expr_phrase
sound zero n le ts = tt
sound (suc j) n le ts = bind (IsOperand (suc j) ts) (IsRead (suc j) n ts) (operand (expr_phrase j) ts) _ (operand_sound (expr_phrase j) j (sound j) ts)
    (λ a u r. climb_sound (expr_phrase j) j (sound j) n ts (suc j) 11 u a le r.spells (strength-below (next_seen u)) r.low)

pub before_read : (room : ℕ) (m : Symbol) (ts : List Lexeme) → Sound (IsBefore room m ts) (expr_before (expr_phrase room) m ts)
before_read room m ts = before_sound (expr_phrase room) room (sound room) m ts

-- the brackets after a name
pub index_read : (room : ℕ) (ts : List Lexeme) → Sound (IsIndex room ts) (index_phrase (expr_phrase room) ts)
index_read room ts = index_sound (expr_phrase room) room (sound room) ts
