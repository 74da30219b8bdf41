-- Where the tokens of a text lie.
use Rattle.std.proofs.Common.{ℕ, ◌+◌, ◌≤◌, List, [], ◌∷◌, length, take, drop, refl, arith}
use Rattle.c_tree.specs.declared.token.Token.{Token}
use Rattle.c_tree.specs.Tokens.Lexing.{Separates, Reaches, nothing, gap, token}
use Rattle.c_tree.specs.Tokens.Places.{AreInOrder, AreSeparated}
use Rattle.c_token.specs.declared.piece.Piece.TheVariants.{Lexeme}
use Rattle.c_token.proofs.Sizes.{piece_fits}

-- from a later place they lie in order all the more
earlier : (a b : ℕ) (ts : List Token) (to : ℕ) → a ≤ b → AreInOrder b ts to → AreInOrder a ts to
earlier a b [] to le h = let g : b ≤ to = h in omega arith
earlier a b (t ∷ ts) to le h = let g = h.0 in (omega arith, h.1, h.2)

pub reached_in_order : (text : List ℕ) (to : ℕ) {from : ℕ} {ts : List Token} → Reaches text to from ts → AreInOrder from ts to
reached_in_order text to {from} {ts} (nothing e is) = rw is (omega arith)
reached_in_order text to {from} {ts} (gap n s r) = earlier from (from + n) ts to (omega arith) (reached_in_order text to r)
reached_in_order text to {from} {ts} (token kind n rest t r is) =
    let fits = piece_fits (take from text) (drop from text) (Lexeme kind n) t in
    let some = fits.some in
    rw is (omega arith, omega arith, reached_in_order text to r)

-- the separators in front come first
separated_more : (text : List ℕ) (from n : ℕ) (ts : List Token) → Separates (take from text) (drop from text) n → AreSeparated text (from + n) ts → AreSeparated text from ts
separated_more text from n [] s r = gap n s r
separated_more text from n (t ∷ ts) s r = (gap n s r.0, r.1)

pub reached_separated : (text : List ℕ) {from : ℕ} {ts : List Token} → Reaches text (length text) from ts → AreSeparated text from ts
reached_separated text {from} {ts} (nothing e is) = rw is (nothing e refl)
reached_separated text {from} {ts} (gap n s r) = separated_more text from n ts s (reached_separated text r)
reached_separated text {from} {ts} (token kind n rest t r is) = rw is (nothing refl refl, reached_separated text r)
