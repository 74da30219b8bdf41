-- Statements that are read are spelled.
use Rattle.std.proofs.Common.{◌≡◌, ℕ, zero, suc, false, List, [], ◌∷◌, length, arith}
use Rattle.c_tree.specs.declared.unit.RawStmt.{RawStmt}
use Rattle.c_tree.specs.declared.unit.RawStmt.TheVariants as stmt
use Rattle.c_tree.specs.declared.symbol.Symbol.TheVariants as s
use Rattle.c_tree.specs.Grammar.Heights.{body_height}
use Rattle.c_tree.specs.Grammar.SpelledStatements.{Sort, Plain, Body, Item, Statement, compound, body, group, item, Statements, none, more}
use Rattle.c_tree.specs.Tokens.Symbols.{Lexeme}
use Rattle.parse_laws.specs.Parser.{Parser, sees}
use Rattle.parse_laws.specs.ReadDecl.{begins_declaration}
use Rattle.parse_laws.specs.ReadStmt.{until, compound_end, compound_phrase, as_body, as_item, statement}
use Rattle.parse_laws.proofs.Sound.AssignSound.{IsStatement}
use Rattle.parse_laws.proofs.Sound.CallSound.{declaration_sound}
use Rattle.parse_laws.proofs.Reading.Layers.{height-Group, body_height-append}
use Rattle.parse_laws.proofs.Sound.LoopSound.{plain_sound}
use Rattle.parse_laws.proofs.Reading.Phrases.{IsPhrase}
use Rattle.parse_laws.proofs.Reading.Steps.{Sound, bind, choose, step, weaken}

-- ---- `{ statements }`

pub data Block : List Lexeme → List RawStmt → List Lexeme → Type 0 where
  block_of : {t c : Lexeme} {ts rest : List Lexeme} {xs : List RawStmt} → t.symbol ≡ s.LeftBrace → Statements ts xs (c ∷ rest) → c.symbol ≡ s.RightBrace → Block (t ∷ ts) xs rest

body_block : {ts rest : List Lexeme} {xs : List RawStmt} → Block ts xs rest → Statement Body false ts xs rest
body_block (block_of h x k) = compound h x k

item_block : {ts rest : List Lexeme} {xs : List RawStmt} → Block ts xs rest → Statement Item false ts (stmt.Group xs ∷ []) rest
item_block (block_of h x k) = group h x k

module _ (r : ℕ) (one : Parser (List RawStmt)) (read_item : (ts : List Lexeme) → Sound (IsStatement Item r ts) (one ts)) where
  items_sound : (n : ℕ) (ts : List Lexeme) → Sound (IsPhrase Statements body_height r ts) (until (sees s.RightBrace) one n ts)
  unfolding until
  items_sound zero ts = record { spells = none; low = omega arith }
  items_sound (suc n) ts = choose (Sound (IsPhrase Statements body_height r ts)) (sees s.RightBrace ts) _ _
      (λ h. record { spells = none; low = omega arith })
      (λ h. bind (IsStatement Item r ts) (IsPhrase Statements body_height r ts) (one ts) _ (read_item ts)
      (λ xs u b. bind (IsPhrase Statements body_height r u) (IsPhrase Statements body_height r ts) (until (sees s.RightBrace) one n u) _ (items_sound n u)
      (λ ys v m. record { spells = more b.spells m.spells; low = omega (arith, body_height-append xs ys, b.low, m.low) })))

  block_sound : (ts : List Lexeme) → Sound (IsPhrase Block body_height r ts) (compound_phrase one ts)
  unfolding compound_phrase compound_end
  block_sound ts = step s.LeftBrace _ _ (λ u. Unit {0}) (IsPhrase Block body_height r) ts tt
      (λ t u _ i. bind (IsPhrase Statements body_height r u) (IsPhrase Block body_height r (t ∷ u)) (until (sees s.RightBrace) one (length u) u) _ (items_sound (length u) u)
      (λ xs v m. step s.RightBrace _ _ (λ w. Statements u xs w) (λ w. IsPhrase Block body_height r (t ∷ u)) v m.spells
      (λ c w d k. record { spells = block_of i d k; low = m.low })))

  body_sound : (two : Parser (List RawStmt)) → ((ts : List Lexeme) → Sound (IsStatement Plain r ts) (two ts)) → (ts : List Lexeme) → Sound (IsStatement Body r ts) (as_body one two ts)
  unfolding as_body
  body_sound two read_plain ts = choose (Sound (IsStatement Body r ts)) (sees s.LeftBrace ts) _ _
      (λ h. weaken (IsPhrase Block body_height r ts) (IsStatement Body r ts) (compound_phrase one ts) (block_sound ts) (λ xs u b. record { open_if = false; spells = body_block b.spells; low = b.low; shut = λ n. cc }))
      (λ h. weaken (IsStatement Plain r ts) (IsStatement Body r ts) (two ts) (read_plain ts) (λ xs u b. record { open_if = b.open_if; spells = body b.spells; low = b.low; shut = b.shut }))

item_sound : (j : ℕ) (one two : Parser (List RawStmt)) → ((ts : List Lexeme) → Sound (IsStatement Item j ts) (one ts)) → ((ts : List Lexeme) → Sound (IsStatement Plain (suc j) ts) (two ts))
    → (ts : List Lexeme) → Sound (IsStatement Item (suc j) ts) (as_item j one two ts)
unfolding as_item
item_sound j one two read_item read_plain ts = choose (Sound (IsStatement Item (suc j) ts)) (sees s.LeftBrace ts) _ _
    (λ h. bind (IsPhrase Block body_height j ts) (IsStatement Item (suc j) ts) (compound_phrase one ts) _ (block_sound j one read_item ts)
    (λ xs u b. record { open_if = false; spells = item_block b.spells; low = omega (arith, height-Group xs, b.low); shut = λ n. cc }))
    (λ h. choose (Sound (IsStatement Item (suc j) ts)) (begins_declaration ts) _ _
    (λ is. declaration_sound j ts)
    (λ is. weaken (IsStatement Plain (suc j) ts) (IsStatement Item (suc j) ts) (two ts) (read_plain ts) (λ xs u b. record { open_if = b.open_if; spells = item b.spells; low = b.low; shut = b.shut })))

pub statement_sound : (room : ℕ) (o : Sort) (ts : List Lexeme) → Sound (IsStatement o room ts) (statement room o ts)
unfolding statement
statement_sound zero Plain ts = tt
statement_sound zero Item ts = tt
statement_sound zero Body ts = body_sound 0 _ (λ u. tt) _ (λ u. tt) ts
statement_sound (suc r) Plain ts = plain_sound r (statement r Body) (statement_sound r Body) ts
statement_sound (suc r) Item ts = item_sound r (statement r Item) _ (statement_sound r Item) (plain_sound r (statement r Body) (statement_sound r Body)) ts
statement_sound (suc r) Body ts = body_sound (suc r) _ (item_sound r (statement r Item) _ (statement_sound r Item) (plain_sound r (statement r Body) (statement_sound r Body)))
    _ (plain_sound r (statement r Body) (statement_sound r Body)) ts

pub block_read : (room : ℕ) (ts : List Lexeme) → Sound (IsPhrase Block body_height room ts) (compound_phrase (statement room Item) ts)
block_read room ts = block_sound room (statement room Item) (statement_sound room Item) ts
