-- Phrases with commas between them, by their heights.
use Rattle.std.proofs.Common.{◌≡◌, ℕ, max, ◌<◌, ◌≤◌, Bool, true, false, List, [], ◌∷◌, length, Ok, refl, arith}
use Rattle.c_tree.specs.declared.symbol.Symbol.TheVariants as s
use Rattle.c_tree.specs.Grammar.SpelledExpressions.{Separated}
use Rattle.c_tree.specs.Tokens.Symbols.{Lexeme}
use Rattle.parse_laws.specs.Parser.{Parser, phrases}
use Rattle.parse_laws.proofs.Reading.Lists.{Every, Readable, phrases_yes, phrases_sound, separated_each, separated_all}
use Rattle.parse_laws.proofs.Reading.Steps.{Sound, weaken}
use Rattle.parse_laws.proofs.Tokens.StmtFollows.{Closes, closes-by}

-- the greatest height of what is in a list, or 0
abbrev pub most : {A : Type 0} → (A → ℕ) → List A → ℕ
most high [] = 0
most high (a ∷ list) = max (high a) (most high list)

each_low : {A : Type 0} (high : A → ℕ) (room : ℕ) (list : List A) → most high list ≤ room → Every (λ a. high a ≤ room) list
each_low high room [] low = tt
each_low high room (a ∷ list) low = (omega arith, each_low high room list (omega arith))

all_low : {A : Type 0} (high : A → ℕ) (room : ℕ) (list : List A) → Every (λ a. high a ≤ room) list → most high list ≤ room
all_low high room [] low = omega arith
all_low high room (a ∷ list) low = omega (arith, low.0, all_low high room list low.1)

-- a phrase of at most the height
pub record IsPhrase {A : Type 0} (Phrase : List Lexeme → A → List Lexeme → Type 0) (high : A → ℕ) (room : ℕ) (ts : List Lexeme) (a : A) (rest : List Lexeme) : Type 0 where
  pub spells : Phrase ts a rest
  pub low : high a ≤ room

pub record ArePhrases {A : Type 0} (Phrase : List Lexeme → A → List Lexeme → Type 0) (high : A → ℕ) (room : ℕ) (ts : List Lexeme) (list : List A) (rest : List Lexeme) : Type 0 where
  pub spells : Separated Phrase ts list rest
  pub low : most high list ≤ room

module _ {A : Type 0} (Phrase : List Lexeme → A → List Lexeme → Type 0) (high : A → ℕ) (room : ℕ) (goes_on : List Lexeme → Bool) (one : Parser A) where
  pub complete_phrases : ((ts u : List Lexeme) (a : A) → Phrase ts a u → length u < length ts) → ((c : Lexeme) (u v : List Lexeme) (a : A) → c.symbol ≡ s.Comma → Phrase u a v → goes_on (c ∷ u) ≡ true)
      → ((ts u : List Lexeme) (a : A) → Phrase ts a u → high a ≤ room → Closes u → one ts ≡ Ok (a, u))
      → {ts rest : List Lexeme} {list : List A} → Separated Phrase ts list rest → most high list ≤ room → Closes rest → goes_on rest ≡ false → phrases goes_on one ts ≡ Ok (list, rest)
  complete_phrases shorter again read {ts} {rest} {list} m low end stop =
      let how : Readable Phrase goes_on one (λ a. high a ≤ room) Closes = record { shorter = shorter; read = read; before = λ c u k. closes-by s.Comma c u k refl; again = again } in
      phrases_yes how m (each_low high room list low) end stop

  pub sound_phrases : ((ts : List Lexeme) → Sound (IsPhrase Phrase high room ts) (one ts)) → (ts : List Lexeme) → Sound (ArePhrases Phrase high room ts) (phrases goes_on one ts)
  sound_phrases read ts = weaken (λ list u. Separated (IsPhrase Phrase high room) ts list u) (ArePhrases Phrase high room ts) (phrases goes_on one ts) (phrases_sound (IsPhrase Phrase high room) goes_on one read ts)
      (λ list u m. record { spells = separated_each (λ v w a d. d.spells) m; low = all_low high room list (separated_all (λ a. high a ≤ room) (λ v w a d. d.low) m) })
