-- Expressions with a comma between any two: their text in pieces, which stand apart and spell them.
use Rattle.std.proofs.Common.{◌≡◌, ℕ, ◌+◌, false, List, [], ◌∷◌, ◌++◌, length, refl, sym, ◌∙◌, ap, append_assoc, append-nil, arith}
use Rattle.std.specs.Prelude.{codes, flat_map}
use Rattle.c_tree.specs.declared.tree.Expr.{Expr}
use Rattle.c_tree.specs.declared.unit.RawExpr.{RawExpr}
use Rattle.c_tree.specs.declared.program.Func.{Func}
use Rattle.c_tree.specs.declared.program.Program.{Program}
use Rattle.c_tree.specs.Tokens.Characters.{is_blank, is_line_feed, is_digit, is_nondigit, is_name_byte, is_sign}
use Rattle.c_tree.specs.Grammar.SpelledExpressions as g
use Rattle.c_tree.specs.Grammar.SpelledExpressions.{Separated, Expression}
use Rattle.print_laws.specs.Shown.{ShowAll, show_none, show_more}
use Rattle.print_laws.specs.PrintedExpressions.{comma_list, expr_text}
use Rattle.print_laws.proofs.Composing.Composed.{Piece, Gap, text_of}
use Rattle.print_laws.proofs.Apart.StandingMarks.{comma_stands}
use Rattle.print_laws.proofs.Composing.ComposedExpressions.{IsShowable, mark, pieces, pieces_text}
use Rattle.print_laws.proofs.Apart.ApartExpressions.{Follows, IsApartBefore, pieces_apart}
use Rattle.print_laws.proofs.Spelled.SpelledAgain.{lexemes_of, level_of, looser, spelled}

-- one expression or more
pub data AreShowable (p : Program) (f : Func) : List Expr → Type 0 where
  one : {a : Expr} → IsShowable p f a → AreShowable p f (a ∷ [])
  more : {a b : Expr} {rest : List Expr} → IsShowable p f a → AreShowable p f (b ∷ rest) → AreShowable p f (a ∷ b ∷ rest)

unfoldable pub list_pieces : {p : Program} {f : Func} {es : List Expr} → AreShowable p f es → List Piece → List Piece
list_pieces (one d) rest = pieces d rest
list_pieces (more d ds) rest = pieces d (mark (codes ",") ∷ Gap 32 ∷ list_pieces ds rest)

pub list_text : {p : Program} {f : Func} {es : List Expr} (ds : AreShowable p f es) (rest : List Piece) → text_of (list_pieces ds rest) ≡ comma_list (expr_text p f) es ++ text_of rest
unfolding list_pieces comma_list
list_text {p} {f} (one {a = a} d) rest = pieces_text d rest ∙ ap (λ t. t ++ text_of rest) (sym (append-nil (expr_text p f a)))
list_text {p} {f} (more {a = a} {b = b} {rest = es} d ds) rest =
    let others : List ℕ = flat_map (λ e. codes ", " ++ expr_text p f e) es in
    let behind : List ℕ = codes ", " ++ expr_text p f b ++ others in
    pieces_text d (mark (codes ",") ∷ Gap 32 ∷ list_pieces ds rest)
    ∙ ap (λ t. expr_text p f a ++ (codes ", " ++ t)) (list_text ds rest)
    ∙ ap (λ t. expr_text p f a ++ t) (sym (append_assoc (codes ", ") (expr_text p f b ++ others) (text_of rest)))
    ∙ ap (λ t. expr_text p f a ++ (t ++ text_of rest)) (sym (append_assoc (codes ", ") (expr_text p f b) others))
    ∙ sym (append_assoc (expr_text p f a) behind (text_of rest))

comma_follows : (cs : List ℕ) → Follows (44 ∷ cs)
unfolding is_name_byte is_nondigit is_digit is_sign
comma_follows cs = record { next = 44; after = cs; is = refl; ends = record { no_name = refl; no_dot = refl; no_sign = refl } }

pub list_apart : {p : Program} {f : Func} {es : List Expr} (ds : AreShowable p f es) → IsApartBefore (list_pieces ds)
unfolding list_pieces is_blank is_line_feed
list_apart (one d) fresh rest behind apart = pieces_apart d fresh rest behind apart
list_apart (more d ds) fresh rest behind apart =
    let others : List Piece = list_pieces ds rest in
    let comma : List Piece = mark (codes ",") ∷ Gap 32 ∷ others in
    pieces_apart d fresh comma (comma_follows (codes " " ++ text_of others)) (comma_stands 32 (text_of others), (refl, list_apart ds false rest behind apart))

-- the pieces from a place on are these expressions with commas between, and then the rest
pub record AreSpelled (p : Program) (f : Func) (at : ℕ) (ps rest : List Piece) (es : List Expr) : Type 0 where
  pub to : ℕ
  pub raws : List RawExpr
  pub spells : Separated (Expression 0) (lexemes_of at ps) raws (lexemes_of to rest)
  pub shows : ShowAll p f raws es

pub list_spelled : {p : Program} {f : Func} {es : List Expr} (ds : AreShowable p f es) (at : ℕ) (rest : List Piece) → AreSpelled p f at (list_pieces ds rest) rest es
unfolding list_pieces
list_spelled (one {a = a} d) at rest =
    let x = spelled d at rest in
    record { to = x.to; raws = x.raw ∷ []; spells = g.last (looser (level_of a) 0 (omega arith) x.spells); shows = show_more x.shows show_none }
list_spelled (more {a = a} d ds) at rest =
    let x = spelled d at (mark (codes ",") ∷ Gap 32 ∷ list_pieces ds rest) in
    let xs = list_spelled ds (x.to + length (codes ",") + length (codes " ")) rest in
    record { to = xs.to; raws = x.raw ∷ xs.raws; spells = g.comma (looser (level_of a) 0 (omega arith) x.spells) refl xs.spells; shows = show_more x.shows xs.shows }
