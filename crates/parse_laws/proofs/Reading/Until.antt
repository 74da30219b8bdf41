-- Reading phrases up to what ends them, a turn at a time.
use Rattle.std.proofs.Common.{◌≡◌, ℕ, zero, suc, ◌-◌, ◌<◌, Bool, true, false, List, [], ◌∷◌, ◌++◌, length, Some, None, Ok, refl, sym, ap, ◌∙◌, arith, append_assoc, append-nil}
use Rattle.c_tree.specs.Tokens.Symbols.{Lexeme}
use Rattle.c_tree.specs.declared.unit.RawStmt.{RawStmt}
use Rattle.c_tree.specs.declared.symbol.Symbol.{Symbol}
use Rattle.c_tree.specs.declared.symbol.Symbol.TheVariants as s
use Rattle.parse_laws.specs.Parser.{Outcome, Parser, and_then, first, sees, expect}
use Rattle.parse_laws.specs.ReadStmt.{until, until_on, compound_end, compound_phrase}
use Rattle.parse_laws.specs.ReadUnit.{top_of, is_end, unit_end, whole_unit}
use Rattle.parse_laws.proofs.Reading.Steps.{then_assoc, then_same}

module _ {A B : Type 0} (ends : List Lexeme → Bool) (one : Parser (List A)) (last : List A → Parser B) where
  -- no turn is left
  pub until-none : (n : ℕ) (front : List A) (ts : List Lexeme) → n ≡ 0 → until_on ends one last n front ts ≡ last front ts
  unfolding until_on until
  until-none zero front ts h = ap (λ (xs : List A). last xs ts) (append-nil front)
  until-none (suc n) front ts h = absurd (omega arith)

  -- the end comes
  pub until-end : (n : ℕ) (front : List A) (ts : List Lexeme) → 0 < n → ends ts ≡ true → until_on ends one last n front ts ≡ last front ts
  unfolding until_on until
  until-end zero front ts p h = absurd (omega arith)
  until-end (suc n) front ts p h = rw h (ap (λ (xs : List A). last xs ts) (append-nil front))

  -- a phrase comes
  pub until-more : (n : ℕ) (front : List A) (ts : List Lexeme) → 0 < n → ends ts ≡ false
      → until_on ends one last n front ts ≡ and_then (one ts) (λ xs. until_on ends one last (n - 1) (front ++ xs))
  unfolding until_on until
  until-more zero front ts p h = absurd (omega arith)
  until-more (suc n) front ts p h =
      let e : n ≡ suc n - 1 = omega arith in
      rw h (then_assoc (one ts) _ _ ∙ then_same (one ts) _ _ (λ xs u. then_assoc (until ends one n u) _ _
      ∙ then_same (until ends one n u) _ _ (λ more v. ap (λ (l : List A). last l v) (sym (append_assoc front xs more)))
      ∙ ap (λ (i : ℕ). and_then (until ends one i u) (λ more. last ((front ++ xs) ++ more))) e))

  pub until-turn : (n m : ℕ) (front all xs : List A) (ts u : List Lexeme) (z : Outcome B) → 0 < n → m ≡ n - 1 → ends ts ≡ false → one ts ≡ Ok (xs, u) → all ≡ front ++ xs
      → until_on ends one last n front ts ≡ z → until_on ends one last m all u ≡ z
  until-turn n m front all xs ts u z p e h r a w =
      let step = until-more n front ts p h in
      let go : and_then (one ts) (λ ys. until_on ends one last (n - 1) (front ++ ys)) ≡ until_on ends one last (n - 1) (front ++ xs) u = rw r refl in
      rw (e, a) (sym go ∙ sym step ∙ w)

pub compound_phrase-start : (one : Parser (List RawStmt)) (ts : List Lexeme) → compound_phrase one ts ≡ and_then (expect s.LeftBrace ts) (λ at u. until_on (sees s.RightBrace) one compound_end (length u) [] u)
unfolding compound_phrase until_on
compound_phrase-start one ts = refl

pub whole_unit-start : (room : ℕ) (ts : List Lexeme) → whole_unit room ts ≡ until_on is_end (top_of room) unit_end (length ts) [] ts
unfolding whole_unit until_on
whole_unit-start room ts = refl

pub end-none : (ts : List Lexeme) → first ts ≡ None → is_end ts ≡ true
unfolding is_end
end-none [] h = refl
end-none (t ∷ ts) h = cc

pub end-some : (ts : List Lexeme) (m : Symbol) → first ts ≡ Some m → is_end ts ≡ false
unfolding is_end
end-some [] m h = cc
end-some (t ∷ ts) m h = refl

pub ruleset ends = (end-none, end-some)

pub ruleset until_turns = (until-none, until-end, until-more, compound_phrase-start, whole_unit-start)
