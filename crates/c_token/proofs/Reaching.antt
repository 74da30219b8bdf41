-- Going on from place to place.
use Rattle.std.proofs.Common.{◌≡◌, ℕ, ◌+◌, List, [], ◌∷◌, ◌++◌, length, take, drop, Option, Some, None, Ok, Err, refl, sym, ◌∙◌, ap, subst, arith, length-drop}
use Rattle.std.specs.Prelude.{MatchOption}
use Rattle.std.specs.Option.{option_to_list}
use Rattle.c_tree.specs.declared.token.Kind.{Kind}
use Rattle.c_tree.specs.declared.token.Token.{Token}
use Rattle.c_tree.specs.Tokens.Lexing.{Separates, IsToken, Reaches, nothing, gap, token}
use Rattle.c_token.specs.declared.piece.Piece.{Piece}
use Rattle.c_token.specs.declared.piece.Piece.TheVariants.{Gap, Lexeme}
use Rattle.c_token.specs.declared.piece.Flaw.{Flaw}
use Rattle.c_token.specs.Pieces.{IsFlaw, Stands, size_of, token_of}
use Rattle.c_token.proofs.Sizes.{piece_some, flaw_some}
use Rattle.c_token.proofs.Sorts.{stands_once}

pub Reaches-append : (text : List ℕ) (to past : ℕ) {from : ℕ} {ts us : List Token} → Reaches text to from ts → Reaches text past to us → Reaches text past from (ts ++ us)
Reaches-append text to past {from} {ts} {us} (nothing e is) r = rw (e, is) r
Reaches-append text to past {from} {ts} {us} (gap n s q) r = gap n s (Reaches-append text to past q r)
Reaches-append text to past {from} {ts} {us} (token kind n rest t q is) r = token kind n (rest ++ us) t (Reaches-append text to past q r) (ap (λ (l : List Token). l ++ us) is)

-- a piece leads to the place behind it
pub piece_reaches : (text : List ℕ) (at to : ℕ) (p : Piece) → to ≡ at + size_of p → Stands (take at text) (drop at text) (Ok p) → Reaches text to at (option_to_list (token_of p at to))
piece_reaches text at to (Gap n) e s = gap n s (nothing (sym e) refl)
piece_reaches text at to (Lexeme kind n) e t = token kind n [] t (nothing (sym e) refl) (ap (λ (l : ℕ). record { kind = kind; from = at; to = l } ∷ []) e)

-- what ends the tokens at a place: the text's end, or a flaw
abbrev pub EndsAt : List ℕ → ℕ → Option Flaw → Type 0
EndsAt text at o = MatchOption o (at ≡ length text) (IsFlaw (take at text) (drop at text))

none_at_end : (text : List ℕ) (at : ℕ) → at ≡ length text → length (drop at text) ≡ 0
none_at_end text at e = let l = length-drop at text in omega arith

-- nothing else stands where the tokens end
no_piece : (text : List ℕ) (at : ℕ) (o : Option Flaw) (p : Piece) → EndsAt text at o → Stands (take at text) (drop at text) (Ok p) → ⊥
no_piece text at None p e s = let l = none_at_end text at e in let some = piece_some (take at text) (drop at text) p s in absurd (omega arith)
no_piece text at (Some flaw) p e s = let same = stands_once (take at text) (drop at text) (Ok p) (Err flaw) s e in cc

same_end : (text : List ℕ) (at : ℕ) (o p : Option Flaw) → EndsAt text at o → EndsAt text at p → o ≡ p
same_end text at None None a b = refl
same_end text at None (Some g) a b = let l = none_at_end text at a in let some = flaw_some (take at text) (drop at text) g b in absurd (omega arith)
same_end text at (Some f) None a b = let l = none_at_end text at b in let some = flaw_some (take at text) (drop at text) f a in absurd (omega arith)
same_end text at (Some f) (Some g) a b = let same = stands_once (take at text) (drop at text) (Err f) (Err g) a b in cc

-- the tokens of a text and how they end
pub record AreSame (a b : ℕ) (ts us : List Token) (o p : Option Flaw) : Type 0 where
  pub place : a ≡ b
  pub tokens : ts ≡ us
  pub end : o ≡ p

same_gaps : (before here : List ℕ) (m n : ℕ) → Separates before here m → Separates before here n → m ≡ n
same_gaps before here m n a b = let same = stands_once before here (Ok (Gap m)) (Ok (Gap n)) a b in cc

same_tokens : (before here : List ℕ) (j k : Kind) (m n : ℕ) → IsToken before here j m → IsToken before here k n → (j ≡ k) × (m ≡ n)
same_tokens before here j k m n a b = let same = stands_once before here (Ok (Lexeme j m)) (Ok (Lexeme k n)) a b in (cc, cc)

no_gap_token : (before here : List ℕ) (k : Kind) (m n : ℕ) → Separates before here m → IsToken before here k n → ⊥
no_gap_token before here k m n a b = let same = stands_once before here (Ok (Gap m)) (Ok (Lexeme k n)) a b in cc

more_tokens : {a b : ℕ} {ts us rest rest' : List Token} {o p : Option Flaw} (t u : Token) → t ≡ u → ts ≡ t ∷ rest → us ≡ u ∷ rest' → AreSame a b rest rest' o p → AreSame a b ts us o p
more_tokens t u e x y same = record { place = same.place; tokens = let s = same.tokens in cc; end = same.end }

pub reached_once : (text : List ℕ) (a b : ℕ) (o p : Option Flaw) {from : ℕ} {ts us : List Token} → EndsAt text a o → EndsAt text b p → Reaches text a from ts → Reaches text b from us → AreSame a b ts us o p
reached_once text a b o p {from} {ts} {us} end end' (nothing e x) (nothing f y) =
    let same : a ≡ b = sym e ∙ f in
    record { place = same; tokens = x ∙ sym y; end = same_end text b o p (subst (λ (l : ℕ). EndsAt text l o) same end) end' }
reached_once text a b o p {from} {ts} {us} end end' (nothing e x) (gap n s r) = absurd (no_piece text from o (Gap n) (subst (λ (l : ℕ). EndsAt text l o) (sym e) end) s)
reached_once text a b o p {from} {ts} {us} end end' (nothing e x) (token kind n rest t r y) = absurd (no_piece text from o (Lexeme kind n) (subst (λ (l : ℕ). EndsAt text l o) (sym e) end) t)
reached_once text a b o p {from} {ts} {us} end end' (gap m s q) (nothing f y) = absurd (no_piece text from p (Gap m) (subst (λ (l : ℕ). EndsAt text l p) (sym f) end') s)
reached_once text a b o p {from} {ts} {us} end end' (gap m s q) (gap n s' r) =
    let same : m ≡ n = same_gaps (take from text) (drop from text) m n s s' in
    reached_once text a b o p end end' (subst (λ (l : ℕ). Reaches text a (from + l) ts) same q) r
reached_once text a b o p {from} {ts} {us} end end' (gap m s q) (token kind n rest t r y) = absurd (no_gap_token (take from text) (drop from text) kind m n s t)
reached_once text a b o p {from} {ts} {us} end end' (token kind m rest t q x) (nothing f y) = absurd (no_piece text from p (Lexeme kind m) (subst (λ (l : ℕ). EndsAt text l p) (sym f) end') t)
reached_once text a b o p {from} {ts} {us} end end' (token kind m rest t q x) (gap n s r) = absurd (no_gap_token (take from text) (drop from text) kind n m s t)
reached_once text a b o p {from} {ts} {us} end end' (token j m rest t q x) (token k n rest' u r y) =
    let same = same_tokens (take from text) (drop from text) j k m n t u in
    more_tokens (record { kind = j; from = from; to = from + m }) (record { kind = k; from = from; to = from + n }) (let e = same.0 in let f = same.1 in cc) x y
    (reached_once text a b o p end end' (subst (λ (l : ℕ). Reaches text a (from + l) rest) same.1 q) r)
