-- What a step of reading does at a token whose symbol is known, and what a token is that a step has seen.
use Rattle.std.proofs.Common.{◌≡◌, ◌<◌, Bool, true, false, cond, List, [], ◌∷◌, length, Option, Some, Ok, Err, refl, ap, arith}
use Rattle.parse_laws.specs.declared.fault.ReadingFault.TheVariants.{Syntax}
use Rattle.c_tree.specs.declared.symbol.Symbol.{Symbol}
use Rattle.c_tree.specs.Tokens.Symbols.{Lexeme}
use Rattle.parse_laws.specs.Same.{is_same_symbol}
use Rattle.parse_laws.proofs.SameSymbol.{is_same_symbol-yes, is_same_symbol-true}
use Rattle.parse_laws.specs.Parser.{Outcome, Parser, and_then, first, head_lexeme, sees, symbol_phrase, expect, optional_word}

pub sees-some : (m : Symbol) (ts : List Lexeme) → sees m ts ≡ true → 0 < length ts
unfolding sees
sees-some m [] h = cc
sees-some m (t ∷ ts) h = omega arith

pub ruleset seeing = (sees-some)

pub sees-yes : (m : Symbol) (t : Lexeme) (ts : List Lexeme) → t.symbol ≡ m → sees m (t ∷ ts) ≡ true
unfolding sees
sees-yes m t ts h = is_same_symbol-yes t.symbol m h

pub sees-no : (m f : Symbol) (t : Lexeme) (ts : List Lexeme) → t.symbol ≡ f → is_same_symbol f m ≡ false → sees m (t ∷ ts) ≡ false
unfolding sees
sees-no m f t ts h differs = rw h differs

pub sees-is : (m : Symbol) (t : Lexeme) (ts : List Lexeme) → sees m (t ∷ ts) ≡ true → t.symbol ≡ m
unfolding sees
sees-is m t ts h = is_same_symbol-true t.symbol m h

pub head_lexeme-is : (m : Symbol) (ts : List Lexeme) → sees m ts ≡ true → (head_lexeme ts).symbol ≡ m
unfolding sees
head_lexeme-is m [] h = cc
head_lexeme-is m (t ∷ ts) h = sees-is m t ts h

pub symbol_phrase-yes : {A : Type 0} (m : Symbol) (view : Lexeme → A) (t : Lexeme) (ts : List Lexeme) → t.symbol ≡ m → symbol_phrase m view (t ∷ ts) ≡ Ok (view t, ts)
unfolding symbol_phrase
symbol_phrase-yes m view t ts h = rw (sees-yes m t ts h) refl

pub expect-yes : (m : Symbol) (t : Lexeme) (ts : List Lexeme) → t.symbol ≡ m → expect m (t ∷ ts) ≡ Ok (t.at, ts)
expect-yes m t ts h = symbol_phrase-yes m (λ t. t.at) t ts h

pub symbol_phrase-no : {A : Type 0} (m : Symbol) (view : Lexeme → A) (ts : List Lexeme) → sees m ts ≡ false → symbol_phrase m view ts ≡ Err (Syntax (length ts))
unfolding symbol_phrase
symbol_phrase-no m view ts h = rw h refl

-- a list of tokens, by whether the symbol is seen
pub split_at : (m : Symbol) (Q : List Lexeme → Type 0) (ts : List Lexeme) → ((t : Lexeme) (u : List Lexeme) → t.symbol ≡ m → Q (t ∷ u)) → (sees m ts ≡ false → Q ts) → Q ts
split_at m Q ts seen unseen = by_test (sees m ts) refl
  where
    at : (ts : List Lexeme) → ((t : Lexeme) (u : List Lexeme) → t.symbol ≡ m → Q (t ∷ u)) → sees m ts ≡ true → Q ts
    at [] go h = absurd (omega (arith, sees-some m [] h))
    at (t ∷ u) go h = go t u (sees-is m t u h)

    by_test : (b : Bool) → sees m ts ≡ b → Q ts
    by_test true h = at ts seen h
    by_test false h = unseen h

-- ---- reasoning about what was read, without looking into the steps

abbrev pub Sound : {A : Type 0} → (A → List Lexeme → Type 0) → Outcome A → Type 0
Sound P (Ok p) = P p.0 p.1
Sound P (Err x) = Unit {0}

pub bind : {A B : Type 0} (P : A → List Lexeme → Type 0) (Q : B → List Lexeme → Type 0) (r : Outcome A) (f : A → Parser B)
    → Sound P r → ((a : A) (u : List Lexeme) → P a u → Sound Q (f a u)) → Sound Q (and_then r f)
bind P Q (Ok p) f h go = go p.0 p.1 h
bind P Q (Err x) f h go = tt

pub weaken : {A : Type 0} (P Q : A → List Lexeme → Type 0) (r : Outcome A) → Sound P r → ((a : A) (u : List Lexeme) → P a u → Q a u) → Sound Q r
weaken P Q (Ok p) h go = go p.0 p.1 h
weaken P Q (Err x) h go = tt

-- a token that is expected after what D tells of
pub step : {A B : Type 0} (m : Symbol) (view : Lexeme → A) (f : A → Parser B) (D : List Lexeme → Type 0) (Q : List Lexeme → B → List Lexeme → Type 0) (ts : List Lexeme) → D ts
    → ((t : Lexeme) (u : List Lexeme) → D (t ∷ u) → t.symbol ≡ m → Sound (Q (t ∷ u)) (f (view t) u)) → Sound (Q ts) (and_then (symbol_phrase m view ts) f)
step {A} {B} m view f D Q ts d go = split_at m (λ w. D w → Sound (Q w) (and_then (symbol_phrase m view w) f)) ts
    (λ t u is e. rw (symbol_phrase-yes m view t u is) (go t u e is))
    (λ none e. rw (symbol_phrase-no m view ts none) tt)
    d

-- one that nothing follows
pub taken : {A : Type 0} (m : Symbol) (view : Lexeme → A) (Q : List Lexeme → A → List Lexeme → Type 0) (ts : List Lexeme)
    → ((t : Lexeme) (u : List Lexeme) → t.symbol ≡ m → Q (t ∷ u) (view t) u) → Sound (Q ts) (symbol_phrase m view ts)
taken m view Q ts go = split_at m (λ w. Sound (Q w) (symbol_phrase m view w)) ts
    (λ t u is. rw (symbol_phrase-yes m view t u is) (go t u is))
    (λ none. rw (symbol_phrase-no m view ts none) tt)

pub choose : {X : Type 0} (Q : X → Type 0) (b : Bool) (x y : X) → (b ≡ true → Q x) → (b ≡ false → Q y) → Q (cond b x y)
choose Q true x y f g = f refl
choose Q false x y f g = g refl

pub then_assoc : {A B C : Type 0} (r : Outcome A) (f : A → Parser B) (g : B → Parser C) → and_then (and_then r f) g ≡ and_then r (λ a u. and_then (f a u) g)
then_assoc (Ok p) f g = refl
then_assoc (Err x) f g = refl

pub then_same : {A B : Type 0} (r : Outcome A) (f g : A → Parser B) → ((a : A) (u : List Lexeme) → f a u ≡ g a u) → and_then r f ≡ and_then r g
then_same (Ok p) f g h = h p.0 p.1
then_same (Err x) f g h = refl

pub then-pure : {A : Type 0} (r : Outcome A) → and_then r (λ a u. Ok (a, u)) ≡ r
then-pure (Ok p) = refl
then-pure (Err x) = refl

-- ---- a word that may be missing

pub optional_word-yes : (m : Symbol) (t : Lexeme) (ts : List Lexeme) → t.symbol ≡ m → optional_word m (t ∷ ts) ≡ Ok (true, ts)
unfolding optional_word
optional_word-yes m t ts h = rw (sees-yes m t ts h) refl

pub optional_word-no : (m : Symbol) (ts : List Lexeme) → sees m ts ≡ false → optional_word m ts ≡ Ok (false, ts)
unfolding optional_word
optional_word-no m ts h = rw h refl

-- what a list of tokens begins with when p tells its beginning is no symbol of which p tells none
pub not_seen : (p : Option Symbol → Bool) (m : Symbol) (ts : List Lexeme) → p (Some m) ≡ false → p (first ts) ≡ true → sees m ts ≡ false
not_seen p m ts never begins = split_at m (λ u. p (first u) ≡ true → sees m u ≡ false) ts
    (λ t u is yes. let is_same_symbol : p (Some t.symbol) ≡ p (Some m) = ap (λ (x : Symbol). p (Some x)) is in cc)
    (λ unseen yes. unseen)
    begins
