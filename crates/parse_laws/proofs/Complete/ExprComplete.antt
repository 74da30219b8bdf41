-- An expression that is spelled is read.
use Rattle.std.proofs.Common.{◌≡◌, ℕ, zero, suc, ◌+◌, ◌-◌, ◌<◌, ◌≤◌, true, false, List, ◌∷◌, Option, Some, Ok, refl, sym, ap, subst, ◌∙◌, arith}
use Rattle.std.proofs.lemmas.Bool.{le-leb}
use Rattle.c_tree.specs.declared.tree.Ty.{Ty}
use Rattle.c_tree.specs.declared.tree.UnOp.{UnOp}
use Rattle.c_tree.specs.declared.tree.BinOp.{BinOp}
use Rattle.c_tree.specs.declared.unit.RawExpr.{RawExpr}
use Rattle.c_tree.specs.declared.unit.RawExpr.TheVariants as e
use Rattle.c_tree.specs.declared.symbol.Symbol.{Symbol}
use Rattle.c_tree.specs.declared.symbol.Symbol.TheVariants as s
use Rattle.c_tree.specs.Grammar.Heights.{height}
use Rattle.c_tree.specs.Grammar.SpelledExpressions.{unary_operator, level, TypeName, Expression, tighter, conditional, binary, unary, cast, number, name, element, paren}
use Rattle.c_tree.specs.Tokens.Symbols.{Lexeme, spot}
use Rattle.parse_laws.specs.Going.{next_seen, binds}
use Rattle.parse_laws.specs.Lexeme.{constant_expr}
use Rattle.parse_laws.specs.Parser.{Parser, sees, begins_type}
use Rattle.parse_laws.specs.ReadExpr.{expr_before, index_phrase, choices, element_or_name, variable_phrase, cast as read_cast, expr_in_parentheses as read_paren, cast_or_parentheses, parenthesis_phrase, unary_phrase as read_unary, unary_by, operand_by, operand, operation, conditional as read_conditional, climb, expr_phrase}
use Rattle.parse_laws.proofs.Tokens.Begins.{expr_no_type}
use Rattle.parse_laws.proofs.Tokens.Follows.{Ends, Quiet, ends-symbol, ends-by, ends-up, next_seen-by, next_seen-ask, quiet_from, quiet_at, quiet_unary}
use Rattle.parse_laws.proofs.Reading.Layers.{height-Elem, height-Un, height-Cast, height-Bin, height-Cond, height-Paren, height-pos}
use Rattle.parse_laws.proofs.Reading.Steps.{sees-yes, sees-no, expect-yes, symbol_phrase-yes}
use Rattle.parse_laws.proofs.Reading.Turns.{climb-end, climb-ask, climb-turn}
use Rattle.parse_laws.proofs.Tokens.Types.{type_begins, type_yes}

-- Reading at the level m and the height suc j comes to the expression a before rest, and goes on from there.
pub record Climbs (j m : ℕ) (ts : List Lexeme) (a : RawExpr) (rest : List Lexeme) : Type 0 where
  pub turns : ℕ
  pub enough : suc j < turns + height a
  pub same : expr_phrase (suc j) m ts ≡ climb (expr_phrase j) (suc j) turns m a rest

expr_phrase-operand : (j m : ℕ) (ts : List Lexeme) (a : RawExpr) (rest : List Lexeme) → operand (expr_phrase j) ts ≡ Ok (a, rest) → expr_phrase (suc j) m ts ≡ climb (expr_phrase j) (suc j) (suc j) m a rest
unfolding expr_phrase
expr_phrase-operand j m ts a rest h = rw h refl

from_operand : (j m : ℕ) (ts : List Lexeme) (a : RawExpr) (rest : List Lexeme) → operand (expr_phrase j) ts ≡ Ok (a, rest) → Climbs j m ts a rest
from_operand j m ts a rest h = record { turns = suc j; enough = omega (arith, height-pos a); same = expr_phrase-operand j m ts a rest h }

settled : {j m : ℕ} {ts : List Lexeme} {a : RawExpr} {rest : List Lexeme} → Climbs j m ts a rest → height a ≤ suc j → Quiet m (next_seen rest) → expr_phrase (suc j) m ts ≡ Ok (a, rest)
settled {j} {m} {ts} {a} {rest} c l q = c.same ∙ climb-end (expr_phrase j) (suc j) c.turns m a rest (omega (arith, c.enough)) q

-- the same at any height that is enough
inside : (j m : ℕ) (ts : List Lexeme) (a : RawExpr) (rest : List Lexeme) → height a ≤ j → ((i : ℕ) → height a ≤ suc i → Climbs i m ts a rest) → Quiet m (next_seen rest) → expr_phrase j m ts ≡ Ok (a, rest)
inside zero m ts a rest l c q = absurd (omega (arith, height-pos a))
inside (suc j) m ts a rest l c q = settled (c j l) l q

-- ---- going on

operation-yes : (j : ℕ) (o : BinOp) (a b : RawExpr) (t : Lexeme) (u rest : List Lexeme) → expr_phrase j (suc (level o)) u ≡ Ok (b, rest) → operation (expr_phrase j) o a (t ∷ u) ≡ Ok (e.Bin o a b, rest)
unfolding operation
operation-yes j o a b t u rest r = rw r refl

binds-by : (m : ℕ) (o : BinOp) (t : Lexeme) (u : List Lexeme) → t.symbol ≡ s.Operator o → m ≤ level o → binds m (next_seen (t ∷ u)) ≡ true
binds-by m o t u is le = ap (binds m) (next_seen-by o t u is) ∙ le-leb m (level o) le

on_by : (j m : ℕ) (ts u rest : List Lexeme) (o : BinOp) (a b : RawExpr) (t : Lexeme) (turns : ℕ) → suc j < turns + height a → height a ≤ j
    → expr_phrase (suc j) m ts ≡ climb (expr_phrase j) (suc j) turns m a (t ∷ u) → t.symbol ≡ s.Operator o → m ≤ level o → expr_phrase j (suc (level o)) u ≡ Ok (b, rest)
    → Climbs j m ts (e.Bin o a b) rest
on_by j m ts u rest o a b t turns h l same is le r = record {
  turns = turns - 1;
  enough = omega (arith, height-Bin o a b);
  same = same ∙ sym (climb-turn (expr_phrase j) (suc j) turns m a (t ∷ u) o _ (binds-by m o t u is le) (next_seen-by o t u is) refl (e.Bin o a b) rest (turns - 1) (omega arith) (omega arith) refl (operation-yes j o a b t u rest r));
}

conditional-yes : (j : ℕ) (u v rest : List Lexeme) (a b c : RawExpr) (q d : Lexeme) → expr_phrase j 0 u ≡ Ok (b, d ∷ v) → d.symbol ≡ s.Colon → expr_phrase j 0 v ≡ Ok (c, rest)
    → read_conditional (expr_phrase j) a (q ∷ u) ≡ Ok (e.Cond a b c, rest)
unfolding read_conditional choices expr_before
conditional-yes j u v rest a b c q d f i g = rw (f, expect-yes s.Colon d v i, g) refl

binds-ask : (q : Lexeme) (u : List Lexeme) → q.symbol ≡ s.Question → binds 0 (next_seen (q ∷ u)) ≡ true
binds-ask q u is = ap (binds 0) (next_seen-ask q u is)

on_ask : (j : ℕ) (ts u rest : List Lexeme) (a b c : RawExpr) (q : Lexeme) (turns : ℕ) → suc j < turns + height a → height a ≤ j
    → expr_phrase (suc j) 0 ts ≡ climb (expr_phrase j) (suc j) turns 0 a (q ∷ u) → q.symbol ≡ s.Question → read_conditional (expr_phrase j) a (q ∷ u) ≡ Ok (e.Cond a b c, rest) → Quiet 0 (next_seen rest)
    → Climbs j 0 ts (e.Cond a b c) rest
on_ask j ts u rest a b c q turns h l same is r n = record {
  turns = suc j;
  enough = omega (arith, height-pos (e.Cond a b c));
  same = same ∙ climb-ask (expr_phrase j) (suc j) turns 0 a (q ∷ u) (omega arith) (binds-ask q u is) (next_seen-ask q u is) (omega arith) ∙ r ∙ sym (climb-end (expr_phrase j) (suc j) (suc j) 0 (e.Cond a b c) rest (omega arith) n);
}

-- ---- operands

operand-is : (inner : ℕ → Parser RawExpr) (m : Symbol) (t : Lexeme) (ts : List Lexeme) → t.symbol ≡ m → operand inner (t ∷ ts) ≡ operand_by inner (Some m) (t ∷ ts)
unfolding operand
operand-is inner m t ts h = ap (λ (x : Symbol). operand_by inner (Some x) (t ∷ ts)) h

-- no unary operator is a number, a name or a `(`
operand-unary : (inner : ℕ → Parser RawExpr) (o : UnOp) (m : Symbol) (ts : List Lexeme) → unary_operator m ≡ Some o → operand_by inner (Some m) ts ≡ read_unary inner o ts
operand-unary inner o s.Number ts h = cc
operand-unary inner o s.Name ts h = cc
operand-unary inner o s.LeftParen ts h = cc
operand-unary inner o m ts h = ap (λ (x : Option UnOp). unary_by inner x ts) h

unary_phrase-yes : (j : ℕ) (o : UnOp) (t : Lexeme) (ts rest : List Lexeme) (a : RawExpr) → unary_operator t.symbol ≡ Some o → expr_phrase j 11 ts ≡ Ok (a, rest) → operand (expr_phrase j) (t ∷ ts) ≡ Ok (e.Un t.at o a, rest)
unfolding read_unary
unary_phrase-yes j o t ts rest a h inner = operand-is (expr_phrase j) t.symbol t ts refl ∙ operand-unary (expr_phrase j) o t.symbol (t ∷ ts) h ∙ rw inner refl

number-yes : (j : ℕ) (t : Lexeme) (rest : List Lexeme) → t.symbol ≡ s.Number → operand (expr_phrase j) (t ∷ rest) ≡ Ok (constant_expr t, rest)
number-yes j t rest h = operand-is (expr_phrase j) s.Number t rest h ∙ symbol_phrase-yes s.Number constant_expr t rest h

name-yes : (j : ℕ) (t : Lexeme) (rest : List Lexeme) → t.symbol ≡ s.Name → sees s.LeftBracket rest ≡ false → operand (expr_phrase j) (t ∷ rest) ≡ Ok (e.Name (spot t), rest)
unfolding variable_phrase element_or_name
name-yes j t rest h apart = operand-is (expr_phrase j) s.Name t rest h ∙ rw (symbol_phrase-yes s.Name spot t rest h, apart) refl

pub index_phrase-yes : (j : ℕ) (b c : Lexeme) (ts rest : List Lexeme) (a : RawExpr) → b.symbol ≡ s.LeftBracket → expr_phrase j 0 ts ≡ Ok (a, c ∷ rest) → c.symbol ≡ s.RightBracket → index_phrase (expr_phrase j) (b ∷ ts) ≡ Ok (a, rest)
unfolding index_phrase expr_before
index_phrase-yes j b c ts rest a i inner k = rw (expect-yes s.LeftBracket b ts i, inner, expect-yes s.RightBracket c rest k) refl

element-yes : (j : ℕ) (x b c : Lexeme) (ts rest : List Lexeme) (a : RawExpr) → x.symbol ≡ s.Name → b.symbol ≡ s.LeftBracket → expr_phrase j 0 ts ≡ Ok (a, c ∷ rest) → c.symbol ≡ s.RightBracket
    → operand (expr_phrase j) (x ∷ b ∷ ts) ≡ Ok (e.Elem (spot x) a, rest)
unfolding variable_phrase element_or_name
element-yes j x b c ts rest a h i inner k = operand-is (expr_phrase j) s.Name x (b ∷ ts) h ∙ rw (symbol_phrase-yes s.Name spot x (b ∷ ts) h, sees-yes s.LeftBracket b ts i, index_phrase-yes j b c ts rest a i inner k) refl

expr_in_parentheses-yes : (j : ℕ) (t c : Lexeme) (ts rest : List Lexeme) (a : RawExpr) → t.symbol ≡ s.LeftParen → begins_type ts ≡ false → expr_phrase j 0 ts ≡ Ok (a, c ∷ rest) → c.symbol ≡ s.RightParen
    → operand (expr_phrase j) (t ∷ ts) ≡ Ok (e.Paren t.at a, rest)
unfolding parenthesis_phrase cast_or_parentheses read_paren expr_before
expr_in_parentheses-yes j t c ts rest a h untyped inner k = operand-is (expr_phrase j) s.LeftParen t ts h ∙ rw (expect-yes s.LeftParen t ts h, untyped, inner, expect-yes s.RightParen c rest k) refl

cast-yes : (j : ℕ) (t c : Lexeme) (ts u rest : List Lexeme) (to : Ty) (a : RawExpr) → t.symbol ≡ s.LeftParen → TypeName ts to (c ∷ u) → c.symbol ≡ s.RightParen → expr_phrase j 11 u ≡ Ok (a, rest)
    → operand (expr_phrase j) (t ∷ ts) ≡ Ok (e.Cast t.at to a, rest)
unfolding parenthesis_phrase cast_or_parentheses read_cast
cast-yes j t c ts u rest to a h y k inner = operand-is (expr_phrase j) s.LeftParen t ts h
    ∙ rw (expect-yes s.LeftParen t ts h, type_begins y, type_yes y (sees-no s.Int s.RightParen c u k refl), expect-yes s.RightParen c u k, inner) refl

-- ---- whole expressions

complete : {n : ℕ} {ts rest : List Lexeme} {a : RawExpr} → Expression n ts a rest → (j m : ℕ) → m ≤ n → Ends n rest → height a ≤ suc j → Climbs j m ts a rest
complete (tighter {n = n} d) j m le x h = complete d j m (omega arith) (ends-up x) h
complete (conditional {q = q} {d = d} {ts = ts} {u = u} {v = v} {rest = rest} {a = a} {b = b} {c = c} da i db k dc) j m le x h =
    let colon = ends-symbol 0 s.Colon d v k (omega arith) refl in
    let middle = inside j 0 u b (d ∷ v) (omega (arith, height-Cond a b c)) (λ i low. complete db i 0 (omega arith) colon low) (quiet_at 0 _ colon.loose) in
    let right = inside j 0 v c rest (omega (arith, height-Cond a b c)) (λ i low. complete dc i 0 (omega arith) x low) (quiet_at 0 _ x.loose) in
    let left = complete da j 0 (omega arith) (ends-symbol 1 s.Question q u i (omega arith) refl) (omega (arith, height-Cond a b c)) in
    let whole = on_ask j ts u rest a b c q left.turns left.enough (omega (arith, height-Cond a b c)) left.same i (conditional-yes j u v rest a b c q d middle k right) (quiet_at 0 _ x.loose) in
    let least : 0 ≡ m = omega arith in
    subst (λ (i : ℕ). Climbs j i ts (e.Cond a b c) rest) least whole
complete (binary {o = o} {t = t} {ts = ts} {u = u} {rest = rest} {a = a} {b = b} da i db) j m le x h =
    let left = complete da j m le (ends-by o t u i) (omega (arith, height-Bin o a b)) in
    let right = inside j (suc (level o)) u b rest (omega (arith, height-Bin o a b)) (λ i low. complete db i (suc (level o)) (omega arith) (ends-up x) low) (quiet_from (level o) (suc (level o)) _ x.loose (omega arith)) in
    on_by j m ts u rest o a b t left.turns left.enough (omega (arith, height-Bin o a b)) left.same i le right
complete (unary {o = o} {t = t} {ts = ts} {rest = rest} {a = a} i d) j m le x h =
    let inner = inside j 11 ts a rest (omega (arith, height-Un t.at o a)) (λ i low. complete d i 11 (omega arith) x low) (quiet_unary (next_seen rest)) in
    from_operand j m (t ∷ ts) _ rest (unary_phrase-yes j o t ts rest a i inner)
complete (cast {t = t} {c = c} {to = to} {ts = ts} {u = u} {rest = rest} {a = a} i y k d) j m le x h =
    let inner = inside j 11 u a rest (omega (arith, height-Cast t.at to a)) (λ i low. complete d i 11 (omega arith) x low) (quiet_unary (next_seen rest)) in
    from_operand j m (t ∷ ts) _ rest (cast-yes j t c ts u rest to a i y k inner)
complete (number {t = t} {rest = rest} i) j m le x h = from_operand j m (t ∷ rest) _ rest (number-yes j t rest i)
complete (name {x = y} {rest = rest} i) j m le x h = from_operand j m (y ∷ rest) _ rest (name-yes j y rest i x.apart)
complete (element {x = y} {b = b} {c = c} {ts = ts} {rest = rest} {a = a} i f d k) j m le x h =
    let ends = ends-symbol 0 s.RightBracket c rest k (omega arith) refl in
    let inner = inside j 0 ts a (c ∷ rest) (omega (arith, height-Elem (spot y) a)) (λ i low. complete d i 0 (omega arith) ends low) (quiet_at 0 _ ends.loose) in
    from_operand j m (y ∷ b ∷ ts) _ rest (element-yes j y b c ts rest a i f inner k)
complete (paren {t = t} {c = c} {ts = ts} {rest = rest} {a = a} i d k) j m le x h =
    let ends = ends-symbol 0 s.RightParen c rest k (omega arith) refl in
    let inner = inside j 0 ts a (c ∷ rest) (omega (arith, height-Paren t.at a)) (λ i low. complete d i 0 (omega arith) ends low) (quiet_at 0 _ ends.loose) in
    from_operand j m (t ∷ ts) _ rest (expr_in_parentheses-yes j t c ts rest a i (expr_no_type d) inner k)

-- at a height that is enough, before what no expression goes on with
pub expr_read : {ts rest : List Lexeme} {a : RawExpr} (room : ℕ) → Expression 0 ts a rest → Ends 0 rest → height a ≤ room → expr_phrase room 0 ts ≡ Ok (a, rest)
expr_read {ts} {rest} {a} room d x h = inside room 0 ts a rest h (λ i low. complete d i 0 (omega arith) x low) (quiet_at 0 _ x.loose)
