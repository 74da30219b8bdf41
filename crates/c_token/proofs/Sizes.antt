-- How long what stands at a place is.
use Rattle.std.proofs.Common.{◌≡◌, ℕ, zero, suc, ◌+◌, ◌<◌, ◌≤◌, Bool, true, false, List, [], ◌∷◌, length, take, drop, Ok, arith, length-take, length-drop, one-add}
use Rattle.std.specs.List.{position_or_len}
use Rattle.c_tree.specs.declared.token.Kind.{Kind}
use Rattle.c_tree.specs.Tokens.Characters.{begins, begins_with, is_blank, is_line_feed}
use Rattle.c_tree.specs.Tokens.TokenKinds.{could_be_token}
use Rattle.c_tree.specs.Tokens.Lexing.{opens_block_comment, opens_line_comment, opens_directive, IsBlockComment, line_of, IsLineComment, directive_of, Separates, blank, block_comment, line_comment, skipped_line, IsToken, spelled, bound}
use Rattle.c_token.specs.declared.piece.Piece.{Piece}
use Rattle.c_token.specs.declared.piece.Piece.TheVariants.{Gap, Lexeme}
use Rattle.c_token.specs.declared.piece.Flaw.{Flaw}
use Rattle.c_token.specs.declared.piece.Flaw.TheVariants.{Byte, Comment, Number, Directive}
use Rattle.c_token.specs.Pieces.{IsFlaw, Stands, size_of}
use Rattle.c_token.proofs.Beginnings.{front_fails, directive_begins}
use Rattle.c_lexemes.proofs.Comments.{closes_fits}
use Rattle.c_lexemes.proofs.LongestMatch.{no_token_empty}
use Rattle.c_lexemes.proofs.Operands.{operand_rest_le}

-- a piece has a byte, and ends within the text
pub record Fits (here : List ℕ) (n : ℕ) : Type 0 where
  pub some : 0 < n
  pub within : n ≤ length here

begins_some : (p : ℕ → Bool) (here : List ℕ) → begins p here ≡ true → 0 < length here
begins_some p [] e = cc
begins_some p (c ∷ cs) e = omega arith

line_of-le : (here : List ℕ) → length (line_of here) ≤ length here
unfolding line_of
line_of-le here = let h = length-take (position_or_len is_line_feed here) here in omega arith

line_of-some : (here : List ℕ) → 0 < length here → begins is_line_feed here ≡ false → 0 < length (line_of here)
unfolding line_of
line_of-some [] some e = absurd (omega arith)
line_of-some (c ∷ cs) some e = rw (e, one-add) (omega arith)

with_front : (first : ℕ) (front here : List ℕ) → begins_with here (first ∷ front) ≡ true → 0 < length here
with_front first front [] e = cc
with_front first front (c ∷ cs) e = omega arith

directive_some : (before here : List ℕ) → opens_directive before here ≡ true → 0 < length here
directive_some before here e = with_front 35 [] here (directive_begins before here e)

directive_of-le : (here : List ℕ) → 0 < length here → 1 + length (directive_of here) ≤ length here
unfolding directive_of
directive_of-le here some = let l = line_of-le (drop 1 here) in let d = length-drop 1 here in omega arith

comment_fits : (here : List ℕ) (n : ℕ) → IsBlockComment here n → Fits here n
comment_fits here n c =
    let f = (closes_fits (drop 2 here) c.inside c.closes).fits in
    let d = length-drop 2 here in
    let s = c.size in
    record { some = omega arith; within = omega arith }

line_fits : (here : List ℕ) (n : ℕ) → IsLineComment here n → Fits here n
unfolding opens_line_comment is_line_feed
line_fits here n c =
    let some = line_of-some here (with_front 47 (47 ∷ []) here c.opens) (front_fails is_line_feed 47 (47 ∷ []) here c.opens) in
    let l = line_of-le here in
    let s = c.size in
    record { some = omega arith; within = omega arith }

gap_fits : (before here : List ℕ) (n : ℕ) → Separates before here n → Fits here n
gap_fits before here n (blank e is) = let some = begins_some is_blank here e in record { some = omega arith; within = omega arith }
gap_fits before here n (block_comment c) = comment_fits here n c
gap_fits before here n (line_comment c) = line_fits here n c
gap_fits before here n (skipped_line e h is) = let l = directive_of-le here (directive_some before here e) in record { some = omega arith; within = omega arith }

longest_some : (here : List ℕ) (n : ℕ) → could_be_token (take n here) ≡ true → 0 < n
longest_some here zero e = let none = no_token_empty in cc
longest_some here (suc n) e = omega arith

token_fits : (before here : List ℕ) (kind : Kind) (n : ℕ) → IsToken before here kind n → Fits here n
token_fits before here kind n (spelled l) = record { some = longest_some here n l.longest.could_be; within = l.longest.within }
token_fits before here kind n (bound b) =
    let l = directive_of-le here (directive_some before here b.opens) in
    let rest = operand_rest_le (directive_of here) in
    let s = b.size in
    record { some = omega arith; within = omega arith }

pub piece_fits : (before here : List ℕ) (p : Piece) → Stands before here (Ok p) → Fits here (size_of p)
piece_fits before here (Gap n) s = gap_fits before here n s
piece_fits before here (Lexeme kind n) t = token_fits before here kind n t

pub piece_some : (before here : List ℕ) (p : Piece) → Stands before here (Ok p) → 0 < length here
piece_some before here p s = let f = piece_fits before here p s in omega (arith, f.some, f.within)

front_some : (n : ℕ) (here : List ℕ) → could_be_token (take n here) ≡ true → 0 < length here
front_some zero [] e = let none = no_token_empty in cc
front_some (suc n) [] e = let none = no_token_empty in cc
front_some n (c ∷ cs) e = omega arith

pub flaw_some : (before here : List ℕ) (flaw : Flaw) → IsFlaw before here flaw → 0 < length here
unfolding opens_block_comment
flaw_some before here Byte h = h.some
flaw_some before here Comment h = with_front 47 (42 ∷ []) here h.opens
flaw_some before here Number h = front_some h.n here h.longest.could_be
flaw_some before here Directive h = directive_some before here h.opens
