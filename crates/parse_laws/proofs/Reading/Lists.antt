-- Phrases with commas between them: reading them a turn at a time, and both ways against the rule.
use Rattle.std.proofs.Common.{◌≡◌, ℕ, zero, suc, ◌-◌, ◌<◌, ◌≤◌, Bool, true, false, List, [], ◌∷◌, ◌++◌, length, Ok, Err, refl, sym, ap, ◌∙◌, arith, append_assoc}
use Rattle.std.specs.Prelude.{not, if◌then◌else◌}
use Rattle.c_tree.specs.declared.symbol.Symbol.{Symbol}
use Rattle.c_tree.specs.declared.symbol.Symbol.TheVariants as s
use Rattle.c_tree.specs.declared.unit.RawExpr.{RawExpr}
use Rattle.c_tree.specs.Grammar.Heights.{height, list_height}
use Rattle.c_tree.specs.Grammar.SpelledExpressions.{Separated, last, comma}
use Rattle.c_tree.specs.Tokens.Symbols.{Lexeme}
use Rattle.parse_laws.specs.declared.fault.ReadingFault.TheVariants.{Syntax}
use Rattle.parse_laws.specs.Parser.{Parser, and_then, tail, symbol_phrase, sees, sees_second, expect, another, another_value, separated_phrases, separated_on, phrases}
use Rattle.parse_laws.specs.Same.{is_same_symbol}
use Rattle.parse_laws.proofs.Reading.Steps.{Sound, bind, choose, step, then_assoc, then_same, then-pure, sees-some, sees-yes, sees-no, expect-yes}

-- ---- a turn at a time

pub phrases-start : {A : Type 0} (goes_on : List Lexeme → Bool) (phrase : Parser A) (ts : List Lexeme) → phrases goes_on phrase ts ≡ separated_on goes_on phrase (length ts) [] ts
unfolding phrases separated_on
phrases-start goes_on phrase ts = sym (then-pure (separated_phrases goes_on phrase (length ts) ts))

pub phrases-none : {A : Type 0} (goes_on : List Lexeme → Bool) (phrase : Parser A) (n : ℕ) (front : List A) (ts : List Lexeme) → n ≡ 0 → separated_on goes_on phrase n front ts ≡ Err (Syntax (length ts))
unfolding separated_on separated_phrases
phrases-none goes_on phrase zero front ts h = refl
phrases-none goes_on phrase (suc n) front ts h = absurd (omega arith)

-- what comes after one phrase
unfoldable pub phrases_by : {A : Type 0} → (List Lexeme → Bool) → Parser A → ℕ → List A → A → Parser (List A)
phrases_by goes_on phrase n front a u = if goes_on u then and_then (expect s.Comma u) (λ at v. separated_on goes_on phrase n (front ++ a ∷ []) v) else Ok (front ++ a ∷ [], u)

phrases-by : {A : Type 0} (goes_on : List Lexeme → Bool) (phrase : Parser A) (n : ℕ) (front : List A) (a : A) (u : List Lexeme)
    → and_then (if goes_on u then and_then (expect s.Comma u) (λ at v. and_then (separated_phrases goes_on phrase n v) (λ more w. Ok (a ∷ more, w))) else Ok (a ∷ [], u)) (λ more u. Ok (front ++ more, u)) ≡ phrases_by goes_on phrase n front a u
unfolding separated_on phrases_by
phrases-by {A} goes_on phrase n front a u = by_test (goes_on u)
  where
    by_test : (b : Bool) → and_then (if b then and_then (expect s.Comma u) (λ at v. and_then (separated_phrases goes_on phrase n v) (λ more w. Ok (a ∷ more, w))) else Ok (a ∷ [], u)) (λ more u. Ok (front ++ more, u))
        ≡ (if b then and_then (expect s.Comma u) (λ at v. and_then (separated_phrases goes_on phrase n v) (λ more w. Ok ((front ++ a ∷ []) ++ more, w))) else Ok (front ++ a ∷ [], u))
    by_test true = then_assoc (expect s.Comma u) _ _ ∙ then_same (expect s.Comma u) _ _
        (λ at v. then_assoc (separated_phrases goes_on phrase n v) _ _ ∙ then_same (separated_phrases goes_on phrase n v) _ _ (λ more w. ap (λ l. Ok (l, w)) (sym (append_assoc front (a ∷ []) more))))
    by_test false = refl

pub phrases-more : {A : Type 0} (goes_on : List Lexeme → Bool) (phrase : Parser A) (n : ℕ) (front : List A) (ts : List Lexeme) → 0 < n
    → separated_on goes_on phrase n front ts ≡ and_then (phrase ts) (phrases_by goes_on phrase (n - 1) front)
unfolding separated_on separated_phrases
phrases-more goes_on phrase zero front ts h = absurd (omega arith)
phrases-more goes_on phrase (suc n) front ts h = let e : n ≡ suc n - 1 = omega arith in
    then_assoc (phrase ts) _ _ ∙ then_same (phrase ts) _ _ (λ a u. phrases-by goes_on phrase n front a u ∙ ap (λ i. phrases_by goes_on phrase i front a u) e)

-- the comma that comes next is taken
taken : {A : Type 0} (after : Parser A) (u : List Lexeme) → sees s.Comma u ≡ true → and_then (expect s.Comma u) (λ at v. after v) ≡ after (tail u)
unfolding symbol_phrase
taken after u h = rw h refl

another-comma : (u : List Lexeme) → another u ≡ true → sees s.Comma u ≡ true
unfolding another
another-comma u h = h

value-comma : (u : List Lexeme) → another_value u ≡ true → sees s.Comma u ≡ true
unfolding another_value
value-comma u h = by_test (sees s.Comma u) h
  where
    by_test : (b : Bool) → (if b then not (sees_second s.RightBrace u) else false) ≡ true → b ≡ true
    by_test true h = refl
    by_test false h = cc

pub another-some : (u : List Lexeme) → another u ≡ true → 0 < length u
another-some u h = sees-some s.Comma u (another-comma u h)

pub value-some : (u : List Lexeme) → another_value u ≡ true → 0 < length u
value-some u h = sees-some s.Comma u (value-comma u h)

phrases-yes : {A : Type 0} (goes_on : List Lexeme → Bool) (phrase : Parser A) (n : ℕ) (front : List A) (a : A) (u : List Lexeme) → goes_on u ≡ true → sees s.Comma u ≡ true
    → phrases_by goes_on phrase n front a u ≡ separated_on goes_on phrase n (front ++ a ∷ []) (tail u)
unfolding phrases_by
phrases-yes goes_on phrase n front a u h i = rw h (taken (λ v. separated_on goes_on phrase n (front ++ a ∷ []) v) u i)

pub phrases-another : {A : Type 0} (phrase : Parser A) (n : ℕ) (front : List A) (a : A) (u : List Lexeme) → another u ≡ true
    → phrases_by another phrase n front a u ≡ separated_on another phrase n (front ++ a ∷ []) (tail u)
phrases-another phrase n front a u h = phrases-yes another phrase n front a u h (another-comma u h)

pub phrases-value : {A : Type 0} (phrase : Parser A) (n : ℕ) (front : List A) (a : A) (u : List Lexeme) → another_value u ≡ true
    → phrases_by another_value phrase n front a u ≡ separated_on another_value phrase n (front ++ a ∷ []) (tail u)
phrases-value phrase n front a u h = phrases-yes another_value phrase n front a u h (value-comma u h)

pub phrases-no : {A : Type 0} (goes_on : List Lexeme → Bool) (phrase : Parser A) (n : ℕ) (front : List A) (a : A) (u : List Lexeme) → goes_on u ≡ false → phrases_by goes_on phrase n front a u ≡ Ok (front ++ a ∷ [], u)
unfolding phrases_by
phrases-no goes_on phrase n front a u h = rw h refl

-- for a loop whose invariant is `separated_on goes_on phrase (turn-end - turn) list self ≡ phrases goes_on phrase fn.self`
pub ruleset list_turns = (phrases-start, phrases-none, phrases-more, phrases-another, phrases-value, phrases-no, another-some, value-some)

-- ---- whether a further phrase comes

pub another-yes : (t : Lexeme) (ts : List Lexeme) → t.symbol ≡ s.Comma → another (t ∷ ts) ≡ true
unfolding another
another-yes t ts h = sees-yes s.Comma t ts h

second-is : (m : Symbol) (t : Lexeme) (ts : List Lexeme) → sees_second m (t ∷ ts) ≡ sees m ts
unfolding sees sees_second
second-is m t ts = refl

pub value-yes : (t : Lexeme) (ts : List Lexeme) → t.symbol ≡ s.Comma → sees s.RightBrace ts ≡ false → another_value (t ∷ ts) ≡ true
unfolding another_value
value-yes t ts h i = rw (sees-yes s.Comma t ts h, second-is s.RightBrace t ts, i) refl

-- the last comma of a list
pub value-last : (t : Lexeme) (ts : List Lexeme) → t.symbol ≡ s.Comma → sees s.RightBrace ts ≡ true → another_value (t ∷ ts) ≡ false
unfolding another_value
value-last t ts h i = rw (sees-yes s.Comma t ts h, second-is s.RightBrace t ts, i) refl

pub value-no : (f : Symbol) (t : Lexeme) (ts : List Lexeme) → t.symbol ≡ f → is_same_symbol f s.Comma ≡ false → another_value (t ∷ ts) ≡ false
unfolding another_value
value-no f t ts h differs = rw (sees-no s.Comma f t ts h differs) refl

-- ---- what is spelled is read

-- each of the list is so
abbrev pub Every : {A : Type 0} → (A → Type 0) → List A → Type 0
Every P [] = Unit {0}
Every P (a ∷ rest) = P a × Every P rest

-- how reading phrases by the rule goes: `Low` tells which are low enough, `Before` what a phrase may stand before
pub record Readable {A : Type 0} (Phrase : List Lexeme → A → List Lexeme → Type 0) (goes_on : List Lexeme → Bool) (phrase : Parser A) (Low : A → Type 0) (Before : List Lexeme → Type 0) : Type 0 where
  pub shorter : (ts u : List Lexeme) (a : A) → Phrase ts a u → length u < length ts
  pub read : (ts u : List Lexeme) (a : A) → Phrase ts a u → Low a → Before u → phrase ts ≡ Ok (a, u)
  pub before : (c : Lexeme) (u : List Lexeme) → c.symbol ≡ s.Comma → Before (c ∷ u)
  pub again : (c : Lexeme) (u v : List Lexeme) (a : A) → c.symbol ≡ s.Comma → Phrase u a v → goes_on (c ∷ u) ≡ true

pub separated_shorter : {A : Type 0} {Phrase : List Lexeme → A → List Lexeme → Type 0} {ts rest : List Lexeme} {list : List A}
    → ((ts u : List Lexeme) (a : A) → Phrase ts a u → length u < length ts) → Separated Phrase ts list rest → length rest < length ts
separated_shorter shorter (last {ts = ts} {rest = rest} {a = a} d) = shorter ts rest a d
separated_shorter shorter (comma {c = c} {ts = ts} {u = u} {a = a} d k m) = omega (arith, shorter ts (c ∷ u) a d, separated_shorter shorter m)

-- its first phrase tells how the list begins
pub separated_begins : {A : Type 0} {Phrase : List Lexeme → A → List Lexeme → Type 0} {ts rest : List Lexeme} {list : List A} (P : List Lexeme → Type 0)
    → ((ts u : List Lexeme) (a : A) → Phrase ts a u → P ts) → Separated Phrase ts list rest → P ts
separated_begins P begins (last {ts = ts} {rest = rest} {a = a} d) = begins ts rest a d
separated_begins P begins (comma {c = c} {ts = ts} {u = u} {a = a} d k m) = begins ts (c ∷ u) a d

-- another rule for each phrase
pub separated_each : {A : Type 0} {P Q : List Lexeme → A → List Lexeme → Type 0} {ts rest : List Lexeme} {list : List A}
    → ((ts u : List Lexeme) (a : A) → P ts a u → Q ts a u) → Separated P ts list rest → Separated Q ts list rest
separated_each each (last {ts = ts} {rest = rest} {a = a} d) = last (each ts rest a d)
separated_each each (comma {c = c} {ts = ts} {u = u} {a = a} d k m) = comma (each ts (c ∷ u) a d) k (separated_each each m)

-- what each phrase tells of what was read
pub separated_all : {A : Type 0} {Phrase : List Lexeme → A → List Lexeme → Type 0} (P : A → Type 0) {ts rest : List Lexeme} {list : List A}
    → ((ts u : List Lexeme) (a : A) → Phrase ts a u → P a) → Separated Phrase ts list rest → Every P list
separated_all P each (last {ts = ts} {rest = rest} {a = a} d) = (each ts rest a d, tt)
separated_all P each (comma {c = c} {ts = ts} {u = u} {a = a} d k m) = (each ts (c ∷ u) a d, separated_all P each m)

module _ {A : Type 0} {Phrase : List Lexeme → A → List Lexeme → Type 0} {goes_on : List Lexeme → Bool} {phrase : Parser A} {Low : A → Type 0} {Before : List Lexeme → Type 0} (how : Readable Phrase goes_on phrase Low Before) where
  separated_phrases-last : (n : ℕ) (ts rest : List Lexeme) (a : A) → phrase ts ≡ Ok (a, rest) → goes_on rest ≡ false → separated_phrases goes_on phrase (suc n) ts ≡ Ok (a ∷ [], rest)
  unfolding separated_phrases
  separated_phrases-last n ts rest a one h = rw (one, h) refl

  separated_phrases-more : (n : ℕ) (c : Lexeme) (ts u rest : List Lexeme) (a : A) (more : List A) → phrase ts ≡ Ok (a, c ∷ u) → c.symbol ≡ s.Comma → goes_on (c ∷ u) ≡ true → separated_phrases goes_on phrase n u ≡ Ok (more, rest)
      → separated_phrases goes_on phrase (suc n) ts ≡ Ok (a ∷ more, rest)
  unfolding separated_phrases
  separated_phrases-more n c ts u rest a more one h g m = rw (one, g, expect-yes s.Comma c u h, m) refl

  separated_yes : {ts rest : List Lexeme} {list : List A} → Separated Phrase ts list rest → (n : ℕ) → length ts ≤ n → Every Low list → Before rest → goes_on rest ≡ false → separated_phrases goes_on phrase n ts ≡ Ok (list, rest)
  separated_yes (last {ts = ts} {rest = rest} {a = a} d) zero w low b h = absurd (omega (arith, how.shorter ts rest a d))
  separated_yes (last {ts = ts} {rest = rest} {a = a} d) (suc n) w low b h = separated_phrases-last n ts rest a (how.read ts rest a d low.0 b) h
  separated_yes (comma {c = c} {ts = ts} {u = u} {a = a} d k m) zero w low b h = absurd (omega (arith, how.shorter ts (c ∷ u) a d))
  separated_yes (comma {c = c} {ts = ts} {u = u} {rest = rest} {a = a} {more = more} d k m) (suc n) w low b h =
      let again = separated_begins (λ v. goes_on (c ∷ v) ≡ true) (λ v z x p. how.again c v z x k p) m in
      separated_phrases-more n c ts u rest a more (how.read ts (c ∷ u) a d low.0 (how.before c u k)) k again (separated_yes m n (omega (arith, how.shorter ts (c ∷ u) a d)) low.1 b h)

  pub phrases_yes : {ts rest : List Lexeme} {list : List A} → Separated Phrase ts list rest → Every Low list → Before rest → goes_on rest ≡ false → phrases goes_on phrase ts ≡ Ok (list, rest)
  unfolding phrases
  phrases_yes {ts} m low b h = separated_yes m (length ts) (omega arith) low b h

-- ---- what is read is spelled

module _ {A : Type 0} (Phrase : List Lexeme → A → List Lexeme → Type 0) (goes_on : List Lexeme → Bool) (phrase : Parser A) (read : (ts : List Lexeme) → Sound (Phrase ts) (phrase ts)) where
  separated_sound : (n : ℕ) (ts : List Lexeme) → Sound (λ list u. Separated Phrase ts list u) (separated_phrases goes_on phrase n ts)
  unfolding separated_phrases
  separated_sound zero ts = tt
  separated_sound (suc n) ts = bind (Phrase ts) (λ list u. Separated Phrase ts list u) (phrase ts) _ (read ts)
      (λ a u d. choose (Sound (λ list v. Separated Phrase ts list v)) (goes_on u) _ _
      (λ h. step s.Comma _ _ (λ v. Phrase ts a v) (λ v list w. Separated Phrase ts list w) u d
      (λ c v d k. bind (λ more w. Separated Phrase v more w) (λ list w. Separated Phrase ts list w) (separated_phrases goes_on phrase n v) _ (separated_sound n v) (λ more w m. comma d k m)))
      (λ h. last d))

  pub phrases_sound : (ts : List Lexeme) → Sound (λ list u. Separated Phrase ts list u) (phrases goes_on phrase ts)
  unfolding phrases
  phrases_sound ts = separated_sound (length ts) ts

-- ---- heights

pub all_low : (j : ℕ) (list : List RawExpr) → list_height list ≤ j → Every (λ a. height a ≤ j) list
all_low j [] h = tt
all_low j (a ∷ rest) h = (omega arith, all_low j rest (omega arith))
