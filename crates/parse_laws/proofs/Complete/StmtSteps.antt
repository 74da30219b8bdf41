-- Statements that are spelled are read.
use Rattle.std.proofs.Common.{◌≡◌, ℕ, zero, suc, ◌-◌, ◌<◌, Bool, true, false, List, [], ◌∷◌, ◌++◌, length, Option, Some, Ok, refl, ap, subst, ◌∙◌, arith}
use Rattle.c_tree.specs.declared.unit.RawBound.{RawBound}
use Rattle.c_tree.specs.declared.unit.RawExpr.{RawExpr}
use Rattle.c_tree.specs.declared.unit.RawStmt.{RawStmt}
use Rattle.c_tree.specs.declared.unit.RawStmt.TheVariants as stmt
use Rattle.c_tree.specs.declared.symbol.Symbol.{Symbol}
use Rattle.c_tree.specs.declared.symbol.Symbol.TheVariants as s
use Rattle.c_tree.specs.Grammar.SpelledStatements.{LoopBound, unbounded, bounded}
use Rattle.c_tree.specs.Tokens.Symbols.{Lexeme}
use Rattle.parse_laws.specs.Parser.{Parser, and_then, first, sees}
use Rattle.parse_laws.specs.ReadDecl.{begins_declaration, declaration_phrase}
use Rattle.parse_laws.specs.ReadSimple.{empty, break_statement, continue_statement}
use Rattle.parse_laws.specs.ReadStmt.{until, condition, initialiser, test, for_step, do_end, for_head, possible_bound, other, if_statement, while_loop, do_phrase, for_loop, loop_by, loop_phrase, plain_phrase, plain_by, compound_end, compound_phrase, as_body, as_item}
use Rattle.parse_laws.proofs.Complete.AssignComplete.{plain_phrase-is}
use Rattle.parse_laws.proofs.Complete.ForComplete.{bound_read}
use Rattle.parse_laws.proofs.Reading.Steps.{sees-yes, sees-no, expect-yes}

-- ---- the steps

module _ (room : ℕ) (inside : Parser (List RawStmt)) where
  pub plain_phrase-empty : (t : Lexeme) (rest : List Lexeme) → t.symbol ≡ s.Semicolon → plain_phrase room inside (t ∷ rest) ≡ Ok (stmt.Empty ∷ [], rest)
  unfolding empty
  plain_phrase-empty t rest h = plain_phrase-is room inside s.Semicolon t rest h ∙ rw (expect-yes s.Semicolon t rest h) refl

  pub plain_phrase-break : (t c : Lexeme) (rest : List Lexeme) → t.symbol ≡ s.Break → c.symbol ≡ s.Semicolon → plain_phrase room inside (t ∷ c ∷ rest) ≡ Ok (stmt.Break t.at ∷ [], rest)
  unfolding break_statement
  plain_phrase-break t c rest h k = plain_phrase-is room inside s.Break t (c ∷ rest) h ∙ rw (expect-yes s.Break t (c ∷ rest) h, expect-yes s.Semicolon c rest k) refl

  pub plain_phrase-continue : (t c : Lexeme) (rest : List Lexeme) → t.symbol ≡ s.Continue → c.symbol ≡ s.Semicolon → plain_phrase room inside (t ∷ c ∷ rest) ≡ Ok (stmt.Continue t.at ∷ [], rest)
  unfolding continue_statement
  plain_phrase-continue t c rest h k = plain_phrase-is room inside s.Continue t (c ∷ rest) h ∙ rw (expect-yes s.Continue t (c ∷ rest) h, expect-yes s.Semicolon c rest k) refl

  pub other-none : (ts : List Lexeme) → sees s.Else ts ≡ false → other room inside ts ≡ Ok ([], ts)
  unfolding other
  other-none ts h = rw h refl

  pub other-some : (l : Lexeme) (ts rest : List Lexeme) (ys : List RawStmt) → l.symbol ≡ s.Else → inside ts ≡ Ok (ys, rest) → other room inside (l ∷ ts) ≡ Ok (ys, rest)
  unfolding other
  other-some l ts rest ys h read = rw (sees-yes s.Else l ts h, expect-yes s.Else l ts h, read) refl

  pub plain_phrase-choice : (t : Lexeme) (ts u v rest : List Lexeme) (a : RawExpr) (xs ys : List RawStmt) → t.symbol ≡ s.If → condition room ts ≡ Ok (a, u) → inside u ≡ Ok (xs, v) → other room inside v ≡ Ok (ys, rest)
      → plain_phrase room inside (t ∷ ts) ≡ Ok (stmt.If a xs ys ∷ [], rest)
  unfolding if_statement
  plain_phrase-choice t ts u v rest a xs ys h c b o = plain_phrase-is room inside s.If t ts h ∙ rw (expect-yes s.If t ts h, c, b, o) refl

  -- ---- loops

  plain_phrase-looped : (m : Symbol) → plain_by room inside (Some m) ≡ loop_phrase room inside → {t : Lexeme} {ts u : List Lexeme} {b : Option RawBound} → LoopBound ts b (t ∷ u) → t.symbol ≡ m → plain_phrase room inside ts ≡ loop_phrase room inside ts
  plain_phrase-looped m is {t} {ts} {u} unbounded h = plain_phrase-is room inside m t u h ∙ ap (λ (p : Parser (List RawStmt)). p (t ∷ u)) is
  plain_phrase-looped m is {t} {ts} {u} (bounded {t = d} i) h = plain_phrase-is room inside s.Bound d (t ∷ u) i

  loop_phrase-yes : (m : Symbol) (t : Lexeme) (ts u rest : List Lexeme) (b : Option RawBound) (xs : List RawStmt) → possible_bound ts ≡ Ok (b, t ∷ u) → t.symbol ≡ m → loop_by room inside b (Some m) (t ∷ u) ≡ Ok (xs, rest) → loop_phrase room inside ts ≡ Ok (xs, rest)
  unfolding loop_phrase
  loop_phrase-yes m t ts u rest b xs read h more =
      let go : and_then (possible_bound ts) (λ b v. loop_by room inside b (first v) v) ≡ loop_by room inside b (Some t.symbol) (t ∷ u) = rw read refl in
      go ∙ ap (λ (x : Symbol). loop_by room inside b (Some x) (t ∷ u)) h ∙ more

  while-yes : (w : Lexeme) (ts u rest : List Lexeme) (b : Option RawBound) (a : RawExpr) (xs : List RawStmt) → w.symbol ≡ s.While → condition room ts ≡ Ok (a, u) → inside u ≡ Ok (xs, rest)
      → while_loop room inside b (w ∷ ts) ≡ Ok (stmt.While w.at b a xs ∷ [], rest)
  unfolding while_loop
  while-yes w ts u rest b a xs h c read = rw (expect-yes s.While w ts h, c, read) refl

  do-yes : (d w e : Lexeme) (ts u rest : List Lexeme) (b : Option RawBound) (a : RawExpr) (xs : List RawStmt) → d.symbol ≡ s.Do → inside ts ≡ Ok (xs, w ∷ u) → w.symbol ≡ s.While → condition room u ≡ Ok (a, e ∷ rest) → e.symbol ≡ s.Semicolon
      → do_phrase room inside b (d ∷ ts) ≡ Ok (stmt.Do d.at b xs a ∷ [], rest)
  unfolding do_phrase do_end
  do-yes d w e ts u rest b a xs h read i c k = rw (expect-yes s.Do d ts h, read, expect-yes s.While w u i, c, expect-yes s.Semicolon e rest k) refl

  for-yes : (f p c d e : Lexeme) (u v w z rest : List Lexeme) (b : Option RawBound) (i j : Option RawStmt) (a : RawExpr) (xs : List RawStmt) → f.symbol ≡ s.For → p.symbol ≡ s.LeftParen → initialiser room u ≡ Ok (i, c ∷ v) → c.symbol ≡ s.Semicolon
      → test room v ≡ Ok (a, d ∷ w) → d.symbol ≡ s.Semicolon → for_step room w ≡ Ok (j, e ∷ z) → e.symbol ≡ s.RightParen → inside z ≡ Ok (xs, rest) → for_loop room inside b (f ∷ p ∷ u) ≡ Ok (stmt.For f.at b i a j xs ∷ [], rest)
  unfolding for_loop for_head
  for-yes f p c d e u v w z rest b i j a xs hf hp ri hc ra hd rj he read =
      rw (expect-yes s.For f (p ∷ u) hf, expect-yes s.LeftParen p u hp, ri, expect-yes s.Semicolon c v hc, ra, expect-yes s.Semicolon d w hd, rj, expect-yes s.RightParen e z he, read) refl

  pub plain_phrase-while : {w : Lexeme} {ts u v rest : List Lexeme} {b : Option RawBound} {a : RawExpr} {xs : List RawStmt} → LoopBound ts b (w ∷ u) → w.symbol ≡ s.While → condition room u ≡ Ok (a, v) → inside v ≡ Ok (xs, rest)
      → plain_phrase room inside ts ≡ Ok (stmt.While w.at b a xs ∷ [], rest)
  plain_phrase-while {w} {ts} {u} {v} {rest} {b} {a} {xs} l h c read =
      plain_phrase-looped s.While refl l h ∙ loop_phrase-yes s.While w ts u rest b _ (bound_read l (sees-no s.Bound s.While w u h refl)) h (while-yes w u v rest b a xs h c read)

  pub plain_phrase-do : {d w e : Lexeme} {ts u v rest : List Lexeme} {b : Option RawBound} {a : RawExpr} {xs : List RawStmt} → LoopBound ts b (d ∷ u) → d.symbol ≡ s.Do → inside u ≡ Ok (xs, w ∷ v) → w.symbol ≡ s.While → condition room v ≡ Ok (a, e ∷ rest)
      → e.symbol ≡ s.Semicolon → plain_phrase room inside ts ≡ Ok (stmt.Do d.at b xs a ∷ [], rest)
  plain_phrase-do {d} {w} {e} {ts} {u} {v} {rest} {b} {a} {xs} l h read i c k =
      plain_phrase-looped s.Do refl l h ∙ loop_phrase-yes s.Do d ts u rest b _ (bound_read l (sees-no s.Bound s.Do d u h refl)) h (do-yes d w e u v rest b a xs h read i c k)

  pub plain_phrase-for : {f p c d e : Lexeme} {ts u v w z rest : List Lexeme} {b : Option RawBound} {i j : Option RawStmt} {a : RawExpr} {xs : List RawStmt} → LoopBound ts b (f ∷ p ∷ u) → f.symbol ≡ s.For → p.symbol ≡ s.LeftParen
      → initialiser room u ≡ Ok (i, c ∷ v) → c.symbol ≡ s.Semicolon → test room v ≡ Ok (a, d ∷ w) → d.symbol ≡ s.Semicolon → for_step room w ≡ Ok (j, e ∷ z) → e.symbol ≡ s.RightParen → inside z ≡ Ok (xs, rest)
      → plain_phrase room inside ts ≡ Ok (stmt.For f.at b i a j xs ∷ [], rest)
  plain_phrase-for {f} {p} {c} {d} {e} {ts} {u} {v} {w} {z} {rest} {b} {i} {j} {a} {xs} l hf hp ri hc ra hd rj he read =
      plain_phrase-looped s.For refl l hf ∙ loop_phrase-yes s.For f ts (p ∷ u) rest b _ (bound_read l (sees-no s.Bound s.For f (p ∷ u) hf refl)) hf (for-yes f p c d e u v w z rest b i j a xs hf hp ri hc ra hd rj he read)

-- ---- compound statements

pub compound_phrase-yes : (one : Parser (List RawStmt)) (t c : Lexeme) (ts rest : List Lexeme) (xs : List RawStmt) → t.symbol ≡ s.LeftBrace → until (sees s.RightBrace) one (length ts) ts ≡ Ok (xs, c ∷ rest) → c.symbol ≡ s.RightBrace
    → compound_phrase one (t ∷ ts) ≡ Ok (xs, rest)
unfolding compound_phrase compound_end
compound_phrase-yes one t c ts rest xs h read k = rw (expect-yes s.LeftBrace t ts h, read, expect-yes s.RightBrace c rest k) refl

pub body-block : (one two : Parser (List RawStmt)) (t : Lexeme) (ts rest : List Lexeme) (xs : List RawStmt) → t.symbol ≡ s.LeftBrace → compound_phrase one (t ∷ ts) ≡ Ok (xs, rest) → as_body one two (t ∷ ts) ≡ Ok (xs, rest)
unfolding as_body
body-block one two t ts rest xs h read = rw (sees-yes s.LeftBrace t ts h) read

pub body-plain : (one two : Parser (List RawStmt)) (ts rest : List Lexeme) (xs : List RawStmt) → sees s.LeftBrace ts ≡ false → two ts ≡ Ok (xs, rest) → as_body one two ts ≡ Ok (xs, rest)
unfolding as_body
body-plain one two ts rest xs h read = rw h read

module _ (room : ℕ) (one two : Parser (List RawStmt)) where
  pub item-group : (t : Lexeme) (ts rest : List Lexeme) (xs : List RawStmt) → t.symbol ≡ s.LeftBrace → compound_phrase one (t ∷ ts) ≡ Ok (xs, rest) → as_item room one two (t ∷ ts) ≡ Ok (stmt.Group xs ∷ [], rest)
  unfolding as_item
  item-group t ts rest xs h read = rw (sees-yes s.LeftBrace t ts h, read) refl

  pub item-declare : (ts rest : List Lexeme) (xs : List RawStmt) → sees s.LeftBrace ts ≡ false → begins_declaration ts ≡ true → declaration_phrase room ts ≡ Ok (xs, rest) → as_item room one two ts ≡ Ok (xs, rest)
  unfolding as_item
  item-declare ts rest xs h i read = rw (h, i) read

  pub item-plain : (ts rest : List Lexeme) (xs : List RawStmt) → sees s.LeftBrace ts ≡ false → begins_declaration ts ≡ false → two ts ≡ Ok (xs, rest) → as_item room one two ts ≡ Ok (xs, rest)
  unfolding as_item
  item-plain ts rest xs h i read = rw (h, i) read

module _ {A : Type 0} (ends : List Lexeme → Bool) (one : Parser (List A)) where
  pub until-stop : (n : ℕ) (ts : List Lexeme) → ends ts ≡ true → until ends one n ts ≡ Ok ([], ts)
  unfolding until
  until-stop zero ts h = refl
  until-stop (suc n) ts h = rw h refl

  pub until-next : (n : ℕ) (ts u rest : List Lexeme) (xs ys : List A) → 0 < n → ends ts ≡ false → one ts ≡ Ok (xs, u) → until ends one (n - 1) u ≡ Ok (ys, rest) → until ends one n ts ≡ Ok (xs ++ ys, rest)
  unfolding until
  until-next zero ts u rest xs ys p h a b = absurd (omega arith)
  until-next (suc n) ts u rest xs ys p h a b = let e : suc n - 1 ≡ n = omega arith in let read = subst (λ (i : ℕ). until ends one i u ≡ Ok (ys, rest)) e b in rw (h, a, read) refl
