-- Pieces that stand apart, one before others.
use Rattle.std.proofs.Common.{◌≡◌, ℕ, zero, suc, ◌<◌, ◌≤◌, Bool, true, false, List, [], ◌∷◌, ◌++◌, refl, sym, ap, subst, arith}
use Rattle.std.specs.Prelude.{codes}
use Rattle.c_tree.specs.declared.tree.Ty.{Ty}
use Rattle.c_tree.specs.declared.tree.BinOp.{BinOp}
use Rattle.c_tree.specs.declared.tree.Expr.{Expr}
use Rattle.c_tree.specs.declared.token.Kind.TheVariants as kind
use Rattle.c_tree.specs.declared.program.Func.{Func}
use Rattle.c_tree.specs.declared.program.Program.{Program}
use Rattle.c_tree.specs.Tokens.Characters.{is_blank, is_line_feed, is_digit, is_nondigit, is_name_byte, is_sign}
use Rattle.c_tree.specs.Keeping.WellFormed.{is_compound}
use Rattle.print_laws.specs.PrintedExpressions.{bin_text}
use Rattle.print_laws.proofs.Composing.Composed.{Piece, Gap, Lexeme, Pragma, text_of, Stands, AreApart}
use Rattle.print_laws.proofs.Apart.StandingMarks.{assign_stands, compound_stands}
use Rattle.print_laws.proofs.Apart.StandingWords.{IsKeyword, IsSingle}
use Rattle.print_laws.proofs.Apart.BoundLines.{bound_line}
use Rattle.print_laws.proofs.Composing.ComposedExpressions.{IsIdentifier, limit, IsShowable, mark, word, pieces}
use Rattle.print_laws.proofs.Apart.ApartExpressions.{HasText, Follows, of_follows, of_opens, blank_follows, name_opens, name_stands, number_opens, constant_stands, has_text, pieces_apart}
use Rattle.print_laws.proofs.Composing.ExpressionLists.{AreShowable, one, more, list_pieces, list_apart}
use Rattle.print_laws.proofs.Composing.ComposedStatements.{name_piece, number_piece, between, margin_pieces, bound_pieces}

-- pieces that may stand right behind a mark
pub record BehindMark (rest : List Piece) : Type 0 where
  pub text : HasText (text_of rest)
  pub apart : AreApart false rest

-- pieces that may stand right behind a keyword, a name or a number
pub record BehindWord (rest : List Piece) : Type 0 where
  pub follows : Follows (text_of rest)
  pub apart : AreApart false rest

-- pieces that may stand where a line begins
pub record AtLine (rest : List Piece) : Type 0 where
  pub apart : AreApart true rest

pub behind_mark : {rest : List Piece} → BehindWord rest → BehindMark rest
behind_mark {rest} h = record { text = of_follows (text_of rest) h.follows; apart = h.apart }

-- ---- blanks and lines

-- what stands apart within a line does so where one begins
still_apart : (fresh : Bool) (ps : List Piece) → AreApart false ps → AreApart fresh ps
still_apart fresh [] h = tt
still_apart fresh (Gap c ∷ ps) h = h
still_apart fresh (Lexeme k w ∷ ps) h = h
still_apart fresh (Pragma n ∷ ps) h = absurd (let bad = h.0 in cc)

feed_follows : (cs : List ℕ) → Follows (10 ∷ cs)
unfolding is_name_byte is_nondigit is_digit is_sign
feed_follows cs = record { next = 10; after = cs; is = refl; ends = record { no_name = refl; no_dot = refl; no_sign = refl } }

pub at_line : {rest : List Piece} → BehindMark rest → AtLine rest
at_line {rest} h = record { apart = still_apart true rest h.apart }

blank_apart : (rest : List Piece) → AreApart false rest → BehindWord (Gap 32 ∷ rest)
unfolding is_blank is_line_feed
blank_apart rest h = record { follows = blank_follows (text_of rest); apart = (refl, h) }

pub with_blank : {rest : List Piece} → BehindMark rest → BehindWord (Gap 32 ∷ rest)
with_blank {rest} h = blank_apart rest h.apart

pub with_feed : {rest : List Piece} → AtLine rest → BehindWord (Gap 10 ∷ rest)
unfolding is_blank is_line_feed
with_feed {rest} h = record { follows = feed_follows (text_of rest); apart = (refl, h.apart) }

margin_apart : (k : ℕ) (rest : List Piece) → AreApart false rest → AreApart true (margin_pieces k rest)
unfolding margin_pieces is_blank is_line_feed
margin_apart zero rest h = still_apart true rest h
margin_apart (suc k) rest h = margin_apart k (Gap 32 ∷ Gap 32 ∷ Gap 32 ∷ Gap 32 ∷ rest) (refl, (refl, (refl, (refl, h))))

-- a line at a level
pub with_margin : (k : ℕ) {rest : List Piece} → BehindMark rest → AtLine (margin_pieces k rest)
with_margin k {rest} h = record { apart = margin_apart k rest h.apart }

pub with_bound : (n : ℕ) {rest : List Piece} → n ≤ 1048576 → AtLine rest → AtLine (bound_pieces n rest)
unfolding is_blank is_line_feed
with_bound n {rest} few h = record { apart = (refl, (bound_line n (text_of rest) (omega (arith, few)), (refl, h.apart))) }

-- ---- marks

pub with_mark : {c : ℕ} {rest : List Piece} → IsSingle c → BehindMark rest → BehindWord (mark (c ∷ []) ∷ rest)
with_mark {c} {rest} single h = record {
  follows = record { next = c; after = text_of rest; is = refl; ends = single.ends };
  apart = (subst (λ r. Stands kind.Mark (c ∷ []) r) (sym h.text.is) (single.stands h.text.next h.text.after), h.apart);
}

pub with_equals : {rest : List Piece} → BehindMark rest → BehindWord (between (codes "=") rest)
unfolding is_blank is_line_feed
with_equals {rest} h = blank_apart _ (assign_stands (text_of rest), (refl, h.apart))

pub with_compound : (o : BinOp) {rest : List Piece} → is_compound o ≡ true → BehindMark rest → BehindWord (between (bin_text o ++ codes "=") rest)
unfolding is_blank is_line_feed
with_compound o {rest} is h = blank_apart _ (compound_stands o (text_of rest) is, (refl, h.apart))

-- ---- keywords, names and numbers

pub with_keyword : {w : List ℕ} {rest : List Piece} → IsKeyword w → BehindWord rest → BehindMark (word w ∷ rest)
with_keyword {w} {rest} k h = record {
  text = record { next = k.first; after = k.more ++ text_of rest; is = ap (λ t. t ++ text_of rest) k.split };
  apart = (subst (λ t. Stands kind.Word t (text_of rest)) (sym k.split) (subst (λ r. Stands kind.Word (k.first ∷ k.more) r) (sym h.follows.is) (k.stands h.follows.next h.follows.after h.follows.ends.no_name)), h.apart);
}

pub with_name : {w : List ℕ} {rest : List Piece} → IsIdentifier w → BehindWord rest → BehindMark (name_piece w ∷ rest)
with_name {w} {rest} is h = record { text = of_opens _ (name_opens w (text_of rest) is); apart = (name_stands w (text_of rest) is h.follows, h.apart) }

pub with_number : (t : Ty) (n : ℕ) {rest : List Piece} → n < limit t → BehindWord rest → BehindMark (number_piece t n ∷ rest)
with_number t n {rest} small h = record { text = of_opens _ (number_opens t n (text_of rest) small); apart = (constant_stands t n (text_of rest) small h.follows, h.apart) }

-- ---- expressions

pub with_expression : {p : Program} {f : Func} {e : Expr} (d : IsShowable p f e) {rest : List Piece} → BehindWord rest → BehindMark (pieces d rest)
with_expression d {rest} h = record { text = has_text d rest; apart = pieces_apart d false rest h.follows h.apart }

list_has_text : {p : Program} {f : Func} {es : List Expr} (ds : AreShowable p f es) (rest : List Piece) → HasText (text_of (list_pieces ds rest))
unfolding list_pieces
list_has_text (one d) rest = has_text d rest
list_has_text (more d ds) rest = has_text d _

pub with_list : {p : Program} {f : Func} {es : List Expr} (ds : AreShowable p f es) {rest : List Piece} → BehindWord rest → BehindMark (list_pieces ds rest)
with_list ds {rest} h = record { text = list_has_text ds rest; apart = list_apart ds false rest h.follows h.apart }
