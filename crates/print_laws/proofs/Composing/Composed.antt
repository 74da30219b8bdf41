-- A text in pieces, and the tokens that it is.
use Rattle.std.proofs.Common.{◌≡◌, ℕ, zero, suc, ◌+◌, ◌-◌, ◌<◌, Bool, true, false, not, get_or, List, [], ◌∷◌, ◌++◌, length, take, drop, Some, refl, sym, ◌∙◌, ap, subst, arith, append_assoc, length-append}
use Rattle.std.specs.Prelude.{codes, decimal}
use Rattle.std.specs.List.{list_all, after_last, suffix_len}
use Rattle.std.specs.Str.Parse.{digits_value}
use Rattle.std.proofs.lemmas.List.Sums.{suffix_len_is}
use Rattle.std.proofs.Math.Seq.{take-append_seam, drop-append_seam, drop-length, get_or-append_seam}
use Rattle.c_tree.specs.declared.token.Kind.{Kind}
use Rattle.c_tree.specs.declared.token.Kind.TheVariants.{Bound}
use Rattle.c_tree.specs.declared.token.Token.{Token}
use Rattle.c_tree.specs.Tokens.Characters.{begins, begins_with, is_blank, is_space_or_tab, is_line_feed}
use Rattle.c_tree.specs.Tokens.TokenKinds.{could_be_token, kind_of}
use Rattle.c_tree.specs.Tokens.Lexing.{IsLongest, IsSpelledToken, IsBoundToken, spelled, bound, blank, Reaches, nothing, gap, token, opens_block_comment, opens_line_comment, opens_directive, directive_of, is_bound_line, operand_of, operand_digits, operand_rest}

-- ---- pieces

-- a blank, a token by its bytes, or the line of a loop's bound up to its last digit
pub data Piece : Type 0 where
  Gap : (c : ℕ) → Piece
  Lexeme : (kind : Kind) (bytes : List ℕ) → Piece
  Pragma : (bound : ℕ) → Piece

abbrev pub piece_text : Piece → List ℕ
piece_text (Gap c) = c ∷ []
piece_text (Lexeme kind bytes) = bytes
piece_text (Pragma n) = codes "#pragma loopbound " ++ decimal n

abbrev pub text_of : List Piece → List ℕ
text_of [] = []
text_of (p ∷ ps) = piece_text p ++ text_of ps

-- the tokens of pieces that stand from a place on
abbrev pub tokens_of : ℕ → List Piece → List Token
tokens_of at [] = []
tokens_of at (Gap c ∷ ps) = tokens_of (at + length (piece_text (Gap c))) ps
tokens_of at (Lexeme kind bytes ∷ ps) = record { kind = kind; from = at; to = at + length bytes } ∷ tokens_of (at + length bytes) ps
tokens_of at (Pragma n ∷ ps) =
    record { kind = Bound n; from = at; to = at + length (piece_text (Pragma n)) } ∷ tokens_of (at + length (piece_text (Pragma n))) ps

-- the bytes are a token of this kind, no comment begins with them, and with the next byte they are none, whatever follows
pub record Stands (kind : Kind) (bytes rest : List ℕ) : Type 0 where
  pub next : ℕ
  pub after : List ℕ
  pub goes_on : rest ≡ next ∷ after
  pub kind_is : kind_of bytes ≡ Some kind
  pub could_be : could_be_token bytes ≡ true
  pub stops : (more : List ℕ) → could_be_token (bytes ++ next ∷ more) ≡ false
  pub no_block_comment : opens_block_comment (bytes ++ rest) ≡ false
  pub no_line_comment : opens_line_comment (bytes ++ rest) ≡ false

-- a line of a loop's bound before the rest of a text
pub record IsBoundLine (n : ℕ) (bytes rest : List ℕ) : Type 0 where
  pub hash : begins_with (bytes ++ rest) (codes "#") ≡ true
  pub line : is_bound_line (directive_of (bytes ++ rest)) ≡ true
  pub number : n ≡ digits_value 10 (operand_digits (operand_of (directive_of (bytes ++ rest))))
  pub size : length bytes + length (operand_rest (operand_of (directive_of (bytes ++ rest)))) ≡ 1 + length (directive_of (bytes ++ rest))

-- each piece is what it says; the truth value tells whether a line begins
abbrev pub AreApart : Bool → List Piece → Type 0
AreApart fresh [] = Unit {0}
AreApart fresh (Gap c ∷ ps) = (is_blank c ≡ true) × AreApart (is_line_feed c) ps
AreApart fresh (Lexeme kind bytes ∷ ps) = Stands kind bytes (text_of ps) × AreApart false ps
AreApart fresh (Pragma n ∷ ps) = (fresh ≡ true) × (IsBoundLine n (piece_text (Pragma n)) (text_of ps) × AreApart false ps)

-- ---- one piece

take-past : (w r : List ℕ) (x m : ℕ) → length w < m → (tail : List ℕ) × (take m (w ++ x ∷ r) ≡ w ++ x ∷ tail)
take-past w r x zero h = absurd (omega (arith, h))
take-past [] r x (suc m) h = (take m r, refl)
take-past (y ∷ w) r x (suc m) h =
    let below : length w < m = omega (arith, h) in
    let past = take-past w r x m below in
    (past.0, ap (λ t. y ∷ t) past.1)

is_longest : (w rest : List ℕ) (kind : Kind) → Stands kind w rest → IsLongest (w ++ rest) (length w)
is_longest w rest kind s = record {
  within = omega (arith, length-append w rest);
  could_be = ap could_be_token (take-append_seam w rest) ∙ s.could_be;
  longest = λ m longer within. longest m longer;
}
  where
    longest : (m : ℕ) → length w < m → could_be_token (take m (w ++ rest)) ≡ false
    longest m longer =
        let past = take-past w s.after s.next m longer in
        ap (λ t. could_be_token (take m (w ++ t))) s.goes_on ∙ ap could_be_token past.1 ∙ s.stops past.0

pub is_lexeme : (w rest : List ℕ) (kind : Kind) → Stands kind w rest → IsSpelledToken (w ++ rest) kind (length w)
is_lexeme w rest kind s = record {
  no_block_comment = s.no_block_comment;
  no_line_comment = s.no_line_comment;
  longest = is_longest w rest kind s;
  kind_is = ap kind_of (take-append_seam w rest) ∙ s.kind_is;
}

-- ---- the pieces behind a text

-- where the text is what stands before, a piece and the rest
pub record At (text before piece rest : List ℕ) (from : ℕ) : Type 0 where
  pub front : take from text ≡ before
  pub here : drop from text ≡ piece ++ rest
  pub text_is : text ≡ before ++ piece ++ rest
  pub next_from : from + length piece ≡ length (before ++ piece)

pub at_piece : (text before piece rest : List ℕ) (from : ℕ) → text ≡ before ++ (piece ++ rest) → from ≡ length before → At text before piece rest from
at_piece text before piece rest from is place = record {
  front = (λ i. take (place i) (is i)) ∙ take-append_seam before (piece ++ rest);
  here = (λ i. drop (place i) (is i)) ∙ drop-append_seam before (piece ++ rest);
  text_is = is ∙ sym (append_assoc before piece rest);
  next_from = omega (arith, place, length-append before piece);
}

at_end : (text before : List ℕ) (from : ℕ) → text ≡ before ++ [] → from ≡ length before → from ≡ length text
at_end text before from is place = omega (arith, place, ap length is, length-append before [])

-- ---- where a line begins

-- behind this text a line begins, if it is said so
abbrev pub IsFresh : Bool → List ℕ → Type 0
IsFresh fresh before = fresh ≡ true → list_all is_space_or_tab (after_last is_line_feed before) ≡ true

behind_feed : (before : List ℕ) (c : ℕ) → is_line_feed c ≡ true → after_last is_line_feed (before ++ c ∷ []) ≡ []
behind_feed before c feed =
    let whole : List ℕ = before ++ c ∷ [] in
    let none : suffix_len (λ b. not (is_line_feed b)) whole ≡ length whole - length whole = suffix_len_is (λ b. not (is_line_feed b)) whole (length whole) 0 (omega arith) (λ k from below. absurd (omega (arith, from, below))) (λ _. at_feed) in
    ap (λ (n : ℕ). drop n whole) (omega (arith, none)) ∙ drop-length whole
  where
    place : length (before ++ c ∷ []) - 1 ≡ length before
    place = omega (arith, length-append before (c ∷ []))

    at_feed : not (is_line_feed (get_or (before ++ c ∷ []) (length (before ++ c ∷ []) - 1) 0)) ≡ false
    at_feed = rw (place, get_or-append_seam before c [] 0, feed) refl

fresh_behind : (before : List ℕ) (c : ℕ) → IsFresh (is_line_feed c) (before ++ c ∷ [])
fresh_behind before c feed = ap (list_all is_space_or_tab) (behind_feed before c feed)

stale : (before : List ℕ) → IsFresh false before
stale before bad = absurd (cc)

is_bound : (before : List ℕ) (n : ℕ) (bytes rest : List ℕ) → list_all is_space_or_tab (after_last is_line_feed before) ≡ true → IsBoundLine n bytes rest → IsBoundToken before (bytes ++ rest) (Bound n) (length bytes)
unfolding opens_directive
is_bound before n bytes rest fresh l = record {
  opens = rw (l.hash, fresh) refl;
  line = l.line;
  kind_is = ap Bound l.number;
  size = l.size;
}

-- pieces that are what they say have these tokens
pub reaches : (text before : List ℕ) (from : ℕ) (fresh : Bool) (ps : List Piece) → text ≡ before ++ text_of ps → from ≡ length before → IsFresh fresh before → AreApart fresh ps
    → Reaches text (length text) from (tokens_of from ps)
reaches text before from fresh [] is place begun apart = nothing (at_end text before from is place) refl
reaches text before from fresh (Gap c ∷ ps) is place begun apart =
    let at = at_piece text before (c ∷ []) (text_of ps) from is place in
    gap 1 (blank (ap (begins is_blank) at.here ∙ apart.0) refl) (reaches text (before ++ c ∷ []) (from + 1) (is_line_feed c) ps at.text_is at.next_from (fresh_behind before c) apart.1)
reaches text before from fresh (Lexeme kind w ∷ ps) is place begun apart =
    let at = at_piece text before w (text_of ps) from is place in
    token kind (length w) (tokens_of (from + length w) ps)
    (spelled (subst (λ here. IsSpelledToken here kind (length w)) (sym at.here) (is_lexeme w (text_of ps) kind apart.0)))
    (reaches text (before ++ w) (from + length w) false ps at.text_is at.next_from (stale (before ++ w)) apart.1) refl
reaches text before from fresh (Pragma n ∷ ps) is place begun apart =
    let w : List ℕ = piece_text (Pragma n) in
    let at = at_piece text before w (text_of ps) from is place in
    let as_line : IsBoundToken (take from text) (drop from text) (Bound n) (length w) =
    subst (λ here. IsBoundToken (take from text) here (Bound n) (length w)) (sym at.here)
    (subst (λ front. IsBoundToken front (w ++ text_of ps) (Bound n) (length w)) (sym at.front) (is_bound before n w (text_of ps) (begun apart.0) apart.1.0)) in
    token (Bound n) (length w) (tokens_of (from + length w) ps) (bound as_line)
    (reaches text (before ++ w) (from + length w) false ps at.text_is at.next_from (stale (before ++ w)) apart.1.1) refl

-- a text in pieces is their tokens
pub lexes : (ps : List Piece) → AreApart true ps → Reaches (text_of ps) (length (text_of ps)) 0 (tokens_of 0 ps)
lexes ps apart = reaches (text_of ps) [] 0 true ps refl refl (λ _. refl) apart
