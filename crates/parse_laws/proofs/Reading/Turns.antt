-- Reading an expression, a height and a turn at a time.
use Rattle.std.proofs.Common.{◌≡◌, ℕ, zero, suc, ◌-◌, ◌<◌, ◌≤◌, true, false, List, [], ◌∷◌, length, Some, Ok, Err, refl, ap, sym, ◌∙◌, arith}
use Rattle.std.proofs.lemmas.Bool.{le-leb, lt-leb}
use Rattle.c_tree.specs.declared.symbol.Symbol.{Symbol}
use Rattle.c_tree.specs.declared.tree.BinOp.{BinOp}
use Rattle.c_tree.specs.declared.unit.RawExpr.{RawExpr}
use Rattle.c_tree.specs.Grammar.Heights.{height}
use Rattle.c_tree.specs.Tokens.Symbols.{Lexeme}
use Rattle.parse_laws.specs.declared.fault.ReadingFault.{ReadingFault}
use Rattle.parse_laws.specs.declared.fault.ReadingFault.TheVariants.{Depth}
use Rattle.parse_laws.specs.declared.going.Next.TheVariants.{Ask, By}
use Rattle.parse_laws.specs.Going.{next_seen, binds}
use Rattle.parse_laws.specs.Parser.{Outcome, Parser, and_then, first}
use Rattle.parse_laws.specs.ReadExpr.{operand, operation, conditional, climb, expr_phrase}

pub expr_phrase-zero : (least : ℕ) (ts : List Lexeme) → expr_phrase 0 least ts ≡ Err (Depth (length ts))
unfolding expr_phrase
expr_phrase-zero least ts = refl

pub expr_phrase-pos : (room least : ℕ) (ts : List Lexeme) → 0 < room → expr_phrase room least ts ≡ and_then (operand (expr_phrase (room - 1)) ts) (climb (expr_phrase (room - 1)) room room least)
unfolding expr_phrase
expr_phrase-pos zero least ts h = absurd (omega arith)
expr_phrase-pos (suc r) least ts h = let e : r ≡ suc r - 1 = omega arith in ap (λ (i : ℕ). and_then (operand (expr_phrase i) ts) (climb (expr_phrase i) (suc r) (suc r) least)) e

pub first-some : (ts : List Lexeme) (x : Symbol) → first ts ≡ Some x → 0 < length ts
first-some [] x h = cc
first-some (t ∷ ts) x h = omega arith

-- a token that an expression goes on with is there
pub binds-some : (least : ℕ) (ts : List Lexeme) → binds least (next_seen ts) ≡ true → 0 < length ts
unfolding next_seen
binds-some least [] h = cc
binds-some least (t ∷ ts) h = omega arith

-- no turn is left
pub climb-none : (inner : ℕ → Parser RawExpr) (room turns least : ℕ) (a : RawExpr) (ts : List Lexeme) → turns ≡ 0 → climb inner room turns least a ts ≡ Err (Depth (length ts))
unfolding climb
climb-none inner room zero least a ts h = refl
climb-none inner room (suc n) least a ts h = absurd (omega arith)

-- the expression does not go on
pub climb-end : (inner : ℕ → Parser RawExpr) (room turns least : ℕ) (a : RawExpr) (ts : List Lexeme) → 0 < turns → binds least (next_seen ts) ≡ false → climb inner room turns least a ts ≡ Ok (a, ts)
unfolding climb
climb-end inner room zero least a ts h none = absurd (omega arith)
climb-end inner room (suc n) least a ts h none = rw none refl

-- it would be too high
pub climb-deep : (inner : ℕ → Parser RawExpr) (room turns least : ℕ) (a : RawExpr) (ts : List Lexeme) → 0 < turns → binds least (next_seen ts) ≡ true → room ≤ height a
    → climb inner room turns least a ts ≡ Err (Depth (length ts))
unfolding climb
climb-deep inner room zero least a ts h some high = absurd (omega arith)
climb-deep inner room (suc n) least a ts h some high = rw (some, le-leb room (height a) high) refl

-- a `?`
pub climb-ask : (inner : ℕ → Parser RawExpr) (room turns least : ℕ) (a : RawExpr) (ts : List Lexeme) → 0 < turns → binds least (next_seen ts) ≡ true → next_seen ts ≡ Ask → height a < room
    → climb inner room turns least a ts ≡ conditional inner a ts
unfolding climb
climb-ask inner room zero least a ts h some is low = absurd (omega arith)
climb-ask inner room (suc n) least a ts h some is low = rw (some, lt-leb room (height a) low, is) refl

-- a binary operator
pub climb-on : (inner : ℕ → Parser RawExpr) (room turns least : ℕ) (a : RawExpr) (ts : List Lexeme) (o : BinOp) → 0 < turns → binds least (next_seen ts) ≡ true → next_seen ts ≡ By o → height a < room
    → climb inner room turns least a ts ≡ and_then (operation inner o a ts) (climb inner room (turns - 1) least)
unfolding climb
climb-on inner room zero least a ts o h some is low = absurd (omega arith)
climb-on inner room (suc n) least a ts o h some is low =
    let e : n ≡ suc n - 1 = omega arith in
    rw (some, lt-leb room (height a) low, is) (ap (λ (i : ℕ). and_then (operation inner o a ts) (climb inner room i least)) e)

module _ (inner : ℕ → Parser RawExpr) (room turns least : ℕ) (a : RawExpr) (ts : List Lexeme) (o : BinOp) (z : Outcome RawExpr) (some : binds least (next_seen ts) ≡ true) (is : next_seen ts ≡ By o) (same : climb inner room turns least a ts ≡ z) where
  -- the turns after one whose operator was taken
  pub climb-turn : (b : RawExpr) (u : List Lexeme) (m : ℕ) → 0 < turns → height a < room → m ≡ turns - 1 → operation inner o a ts ≡ Ok (b, u) → climb inner room m least b u ≡ z
  climb-turn b u m h low e taken =
      let on = climb-on inner room turns least a ts o h some is low in
      let after : and_then (operation inner o a ts) (climb inner room (turns - 1) least) ≡ climb inner room (turns - 1) least b u = rw taken refl in
      rw e (sym after ∙ sym on ∙ same)

  -- one whose operator could not be taken
  pub climb-stops : (x : ReadingFault) → 0 < turns → height a < room → operation inner o a ts ≡ Err x → z ≡ Err x
  climb-stops x h low stopped =
      let on = climb-on inner room turns least a ts o h some is low in
      let after : and_then (operation inner o a ts) (climb inner room (turns - 1) least) ≡ Err x = rw stopped refl in
      sym same ∙ on ∙ after

pub ruleset turns = (expr_phrase-zero, expr_phrase-pos, first-some, binds-some, climb-none, climb-end, climb-deep, climb-ask, climb-on)
