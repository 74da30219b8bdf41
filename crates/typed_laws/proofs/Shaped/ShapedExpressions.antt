-- What the grammar of expressions sees to, and that what is left of the tokens is fair.
use Rattle.std.proofs.Common.{◌≡◌, ℕ, ◌≤◌, List, [], ◌∷◌, length, subst, arith}
use Rattle.std.specs.Prelude.{IsTrue}
use Rattle.c_tree.specs.declared.tree.Ty.{Ty}
use Rattle.c_tree.specs.declared.unit.RawExpr.{RawExpr}
use Rattle.c_tree.specs.declared.unit.RawExpr.TheBlock as in_expr
use Rattle.c_tree.specs.declared.symbol.Symbol.{Symbol}
use denote.Hole.Carrier.{hidden}
use Rattle.c_tree.specs.Grammar.SpelledExpressions.{Separated, last, comma, TypeName, int, signed, signed_int, unsigned, unsigned_int, Expression, tighter, conditional, binary, unary, cast, number, name, element, paren}
use Rattle.c_tree.specs.Tokens.Symbols.{Lexeme}
use Rattle.typed_laws.specs.Shaped.{ShapedExpr, ShapedPart, ShapedExprs}
use Rattle.typed_laws.proofs.Shaped.FairLexemes.{is_fair, IsFair, AllFair}

pub fair_at : (l : Lexeme) {x : Symbol} → l.symbol ≡ x → IsFair l → IsTrue (is_fair x l.ty l.value)
fair_at l e h = subst (λ (y : Symbol). IsTrue (is_fair y l.ty l.value)) e h

pub type_fair : {ts rest : List Lexeme} {to : Ty} → TypeName ts to rest → AllFair ts → AllFair rest
type_fair (int i) h = h.1
type_fair (signed i) h = h.1
type_fair (signed_int i j) h = h.1.1
type_fair (unsigned i) h = h.1
type_fair (unsigned_int i j) h = h.1.1

pub expr_shaped : {n : ℕ} {ts rest : List Lexeme} {a : RawExpr} → Expression n ts a rest → AllFair ts → ShapedExpr a × AllFair rest
unfolding ShapedExpr ShapedPart in_expr.shape-the_row-RawExpr-0 in_expr.hidden-the_row-RawExpr-0 hidden
expr_shaped (tighter d) h = expr_shaped d h
expr_shaped (conditional d i e j f) h =
    let a = expr_shaped d h in
    let b = expr_shaped e a.1.1 in
    let c = expr_shaped f b.1.1 in
    ((a.0, (b.0, c.0)), c.1)
expr_shaped (binary d i e) h =
    let a = expr_shaped d h in
    let b = expr_shaped e a.1.1 in
    ((a.0, b.0), b.1)
expr_shaped (unary i d) h = expr_shaped d h.1
expr_shaped (cast i y k d) h = expr_shaped d (type_fair y h.1).1
expr_shaped (number {t = t} i) h = (fair_at t i h.0, h.1)
expr_shaped (name i) h = (tt, h.1)
expr_shaped (element i b d k) h = let a = expr_shaped d h.1.1 in (a.0, a.1.1)
expr_shaped (paren i d k) h = let a = expr_shaped d h.1 in (a.0, a.1.1)

-- ---- lists

-- what holds of nothing, and of one more phrase, holds of phrases with a comma between any two
module _ {A : Type 0} (Phrase : List Lexeme → A → List Lexeme → Type 0) (One : A → Type 0) (Many : List A → Type 0)
    (nil : Many []) (cons : (a : A) (more : List A) → One a → Many more → Many (a ∷ more))
    (phrase : (ts : List Lexeme) (a : A) (rest : List Lexeme) → Phrase ts a rest → AllFair ts → One a × AllFair rest) where
  pub separated_shaped : {ts rest : List Lexeme} {list : List A} → Separated Phrase ts list rest → AllFair ts → Many list × AllFair rest
  separated_shaped (last {a = a} d) h = let x = phrase _ a _ d h in (cons a [] x.0 nil, x.1)
  separated_shaped (comma {a = a} {more = more} d i ds) h =
      let x = phrase _ a _ d h in
      let xs = separated_shaped ds x.1.1 in
      (cons a more x.0 xs.0, xs.1)

pub exprs_shaped : {ts rest : List Lexeme} {list : List RawExpr} → Separated (Expression 0) ts list rest → AllFair ts → ShapedExprs list × AllFair rest
exprs_shaped d h = separated_shaped (Expression 0) ShapedExpr ShapedExprs tt (λ a more x xs. (x, xs)) (λ ts a rest e k. expr_shaped e k) d h

pub separated_some : {A : Type 0} {Phrase : List Lexeme → A → List Lexeme → Type 0} {ts rest : List Lexeme} {list : List A} → Separated Phrase ts list rest → 1 ≤ length list
separated_some (last d) = omega arith
separated_some (comma d i ds) = omega arith
