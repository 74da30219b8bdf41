-- The pieces of an expression are the tokens that they say, where no token goes on behind it.
use Rattle.std.proofs.Common.{◌≡◌, ℕ, ◌+◌, ◌<◌, ◌≤◌, Bool, true, false, eqb, ◌&&◌, List, [], ◌∷◌, ◌++◌, refl, sym, ap, subst, arith}
use Rattle.std.specs.Prelude.{nat_lt, codes}
use Rattle.std.specs.List.{list_all}
use Rattle.std.proofs.lemmas.Bool.{ltb-false, and_parts}
use Rattle.std.proofs.lemmas.Bool.Decides.{nat_tests}
use Rattle.c_tree.specs.declared.tree.Ty.{Ty}
use Rattle.c_tree.specs.declared.tree.Ty.TheVariants as ty
use Rattle.c_tree.specs.declared.tree.UnOp.{UnOp}
use Rattle.c_tree.specs.declared.tree.UnOp.TheVariants as uo
use Rattle.c_tree.specs.declared.tree.Expr.{Expr}
use Rattle.c_tree.specs.declared.token.Kind.TheVariants as kind
use Rattle.c_tree.specs.declared.program.Func.{Func}
use Rattle.c_tree.specs.declared.program.Program.{Program}
use Rattle.c_tree.specs.Tokens.Characters.{is_blank, is_line_feed, is_digit, is_nondigit, is_name_byte, is_sign}
use Rattle.c_tree.specs.Tokens.TokenKinds.{is_name, is_number_run, keywords, kind_of}
use Rattle.c_tree.specs.Grammar.SpelledExpressions.{level}
use Rattle.print_laws.specs.PrintedExpressions.{name_text, type_text, un_text, bin_text, number_text, strength}
use Rattle.print_laws.proofs.Composing.Composed.{Piece, Gap, text_of, Stands, AreApart}
use Rattle.print_laws.proofs.Apart.Standing.{EndsNumber, word_stands, number_stands}
use Rattle.print_laws.proofs.Apart.StandingNumbers.{number_text_is}
use Rattle.print_laws.proofs.Apart.StandingMarks.{left_paren_stands, right_paren_stands, left_bracket_stands, right_bracket_stands, question_stands, colon_stands, binary_stands, unary_stands}
use Rattle.print_laws.proofs.Composing.ComposedExpressions.{IsIdentifier, limit, is_unsigned, IsShowable, num, name, elem, un, cast, bin, cond, mark, enclosed_pieces, pieces}
use Rattle.print_laws.proofs.Spelled.SpelledAgain.{level-le}

-- ---- what a text begins with

pub record HasText (text : List ℕ) : Type 0 where
  pub next : ℕ
  pub after : List ℕ
  pub is : text ≡ next ∷ after

-- a byte that neither a name nor a number goes on with
pub record Follows (text : List ℕ) : Type 0 where
  pub next : ℕ
  pub after : List ℕ
  pub is : text ≡ next ∷ after
  pub ends : EndsNumber next

-- a byte that no unary operator goes on with
pub record Opens (text : List ℕ) : Type 0 where
  pub next : ℕ
  pub after : List ℕ
  pub is : text ≡ next ∷ after
  pub plus : eqb 43 next ≡ false
  pub minus : eqb 45 next ≡ false
  pub equals : eqb 61 next ≡ false

pub some_text : (c : ℕ) (cs : List ℕ) → HasText (c ∷ cs)
some_text c cs = record { next = c; after = cs; is = refl }

pub of_follows : (text : List ℕ) → Follows text → HasText text
of_follows text f = record { next = f.next; after = f.after; is = f.is }

pub of_opens : (text : List ℕ) → Opens text → HasText text
of_opens text o = record { next = o.next; after = o.after; is = o.is }

pub blank_follows : (cs : List ℕ) → Follows (32 ∷ cs)
unfolding is_name_byte is_nondigit is_digit is_sign
blank_follows cs = record { next = 32; after = cs; is = refl; ends = record { no_name = refl; no_dot = refl; no_sign = refl } }

pub paren_follows : (cs : List ℕ) → Follows (41 ∷ cs)
unfolding is_name_byte is_nondigit is_digit is_sign
paren_follows cs = record { next = 41; after = cs; is = refl; ends = record { no_name = refl; no_dot = refl; no_sign = refl } }

open_bracket_follows : (cs : List ℕ) → Follows (91 ∷ cs)
unfolding is_name_byte is_nondigit is_digit is_sign
open_bracket_follows cs = record { next = 91; after = cs; is = refl; ends = record { no_name = refl; no_dot = refl; no_sign = refl } }

bracket_follows : (cs : List ℕ) → Follows (93 ∷ cs)
unfolding is_name_byte is_nondigit is_digit is_sign
bracket_follows cs = record { next = 93; after = cs; is = refl; ends = record { no_name = refl; no_dot = refl; no_sign = refl } }

-- ---- names, numbers and types

digit_opens : (c : ℕ) → is_digit c ≡ true → (eqb 43 c ≡ false) × ((eqb 45 c ≡ false) × (eqb 61 c ≡ false))
unfolding is_digit
digit_opens c e = (grind (arith, nat_tests), (grind (arith, nat_tests), grind (arith, nat_tests)))

nondigit_opens : (c : ℕ) → is_nondigit c ≡ true → (eqb 43 c ≡ false) × ((eqb 45 c ≡ false) × (eqb 61 c ≡ false))
unfolding is_nondigit
nondigit_opens c e = (grind (arith, nat_tests), (grind (arith, nat_tests), grind (arith, nat_tests)))

pub name_opens : (w rest : List ℕ) → IsIdentifier w → Opens (w ++ rest)
unfolding is_name
name_opens [] rest h = absurd (let bad = h.name in cc)
name_opens (d ∷ ds) rest h =
    let first = nondigit_opens d (and_parts (is_nondigit d) (list_all is_name_byte ds) h.name).0 in
    record { next = d; after = ds ++ rest; is = refl; plus = first.0; minus = first.1.0; equals = first.1.1 }

pub name_stands : (w rest : List ℕ) → IsIdentifier w → Follows rest → Stands kind.Name w rest
unfolding is_name
name_stands [] rest h f = absurd (let bad = h.name in cc)
name_stands (d ∷ ds) rest h f =
    let parts = and_parts (is_nondigit d) (list_all is_name_byte ds) h.name in
    subst (λ r. Stands kind.Name (d ∷ ds) r) (sym f.is) (word_stands d ds kind.Name f.next f.after parts.0 parts.1 h.kind_is f.ends.no_name)

pub number_opens : (t : Ty) (n : ℕ) (rest : List ℕ) → n < limit t → Opens (number_text t n ++ rest)
number_opens t n rest small =
    let number = number_text_is t n small in
    let first = digit_opens number.first number.digit in
    record { next = number.first; after = number.more ++ rest; is = ap (λ w. w ++ rest) number.split; plus = first.0; minus = first.1.0; equals = first.1.1 }

pub constant_stands : (t : Ty) (n : ℕ) (rest : List ℕ) → n < limit t → Follows rest → Stands (kind.Number (is_unsigned t) n) (number_text t n) rest
constant_stands t n rest small f =
    let number = number_text_is t n small in
    subst (λ w. Stands (kind.Number (is_unsigned t) n) w rest) (sym number.split)
    (subst (λ r. Stands (kind.Number (is_unsigned t) n) (number.first ∷ number.more) r) (sym f.is)
    (number_stands number.first number.more (kind.Number (is_unsigned t) n) f.next f.after number.digit number.names number.kind_is f.ends))

pub type_stands : (t : Ty) (rest : List ℕ) → Follows rest → Stands kind.Word (type_text t) rest
unfolding type_text kind_of is_number_run keywords is_name_byte is_nondigit is_digit
type_stands ty.Int rest f = subst (λ r. Stands kind.Word (codes "int") r) (sym f.is) (word_stands 105 (codes "nt") kind.Word f.next f.after refl refl refl f.ends.no_name)
type_stands ty.Unsigned rest f = subst (λ r. Stands kind.Word (codes "unsigned") r) (sym f.is) (word_stands 117 (codes "nsigned") kind.Word f.next f.after refl refl refl f.ends.no_name)

type_has_text : (t : Ty) (rest : List ℕ) → HasText (type_text t ++ rest)
unfolding type_text
type_has_text ty.Int rest = some_text 105 (codes "nt" ++ rest)
type_has_text ty.Unsigned rest = some_text 117 (codes "nsigned" ++ rest)

unary_has_text : (o : UnOp) (rest : List ℕ) → HasText (un_text o ++ rest)
unfolding un_text
unary_has_text uo.Plus rest = some_text 43 rest
unary_has_text uo.Minus rest = some_text 45 rest
unary_has_text uo.Flip rest = some_text 126 rest
unary_has_text uo.Not rest = some_text 33 rest

-- ---- marks

left_paren : (text : List ℕ) → HasText text → Stands kind.Mark (codes "(") text
left_paren text h = subst (λ r. Stands kind.Mark (codes "(") r) (sym h.is) (left_paren_stands h.next h.after)

right_paren : (text : List ℕ) → HasText text → Stands kind.Mark (codes ")") text
right_paren text h = subst (λ r. Stands kind.Mark (codes ")") r) (sym h.is) (right_paren_stands h.next h.after)

left_bracket : (text : List ℕ) → HasText text → Stands kind.Mark (codes "[") text
left_bracket text h = subst (λ r. Stands kind.Mark (codes "[") r) (sym h.is) (left_bracket_stands h.next h.after)

right_bracket : (text : List ℕ) → HasText text → Stands kind.Mark (codes "]") text
right_bracket text h = subst (λ r. Stands kind.Mark (codes "]") r) (sym h.is) (right_bracket_stands h.next h.after)

pub unary_mark : (o : UnOp) (text : List ℕ) → Opens text → Stands kind.Mark (un_text o) text
unary_mark o text h = subst (λ r. Stands kind.Mark (un_text o) r) (sym h.is) (unary_stands o h.next h.after h.plus h.minus h.equals)

-- ---- what an expression begins with

enclosed_has_text : (b : Bool) (inner : List Piece → List Piece) → ((rest : List Piece) → HasText (text_of (inner rest))) → (rest : List Piece) → HasText (text_of (enclosed_pieces b inner rest))
enclosed_has_text true inner has rest = some_text 40 (text_of (inner (mark (codes ")") ∷ rest)))
enclosed_has_text false inner has rest = has rest

pub has_text : {p : Program} {f : Func} {a : Expr} (d : IsShowable p f a) (rest : List Piece) → HasText (text_of (pieces d rest))
unfolding pieces
has_text (num {t = t} {n = n} h) rest = of_opens _ (number_opens t n (text_of rest) h)
has_text {p} {f} (name {v = v} h) rest = of_opens _ (name_opens (name_text p f v) (text_of rest) h)
has_text {p} {f} (elem {v = v} {i = i} h d) rest = of_opens _ (name_opens (name_text p f v) _ h)
has_text (un {o = o} d) rest = unary_has_text o _
has_text (cast d) rest = some_text 40 _
has_text (bin {o = o} {a = a} d h) rest = enclosed_has_text (nat_lt (strength a) (level o)) (pieces d) (has_text d) _
has_text (cond {c = c} d h k) rest = enclosed_has_text (nat_lt (strength c) 1) (pieces d) (has_text d) _

paren_opens : (cs : List ℕ) → Opens (40 ∷ cs)
paren_opens cs = record { next = 40; after = cs; is = refl; plus = refl; minus = refl; equals = refl }

tight_opens : {p : Program} {f : Func} {a : Expr} (d : IsShowable p f a) (rest : List Piece) → 12 ≤ strength a → Opens (text_of (pieces d rest))
unfolding pieces
tight_opens (num {t = t} {n = n} h) rest tight = number_opens t n (text_of rest) h
tight_opens {p} {f} (name {v = v} h) rest tight = name_opens (name_text p f v) (text_of rest) h
tight_opens {p} {f} (elem {v = v} {i = i} h d) rest tight = name_opens (name_text p f v) _ h
tight_opens (un {o = o} d) rest tight = absurd (omega (arith, tight))
tight_opens (cast d) rest tight = paren_opens _
tight_opens (bin {o = o} {a = a} d h) rest tight = absurd (omega (arith, tight, level-le o))
tight_opens (cond {c = c} d h k) rest tight = absurd (omega (arith, tight))

operand_opens : {p : Program} {f : Func} {a : Expr} (d : IsShowable p f a) (rest : List Piece) → Opens (text_of (enclosed_pieces (nat_lt (strength a) 12) (pieces d) rest))
operand_opens {p} {f} {a} d rest = by_test (nat_lt (strength a) 12) refl
  where
    by_test : (b : Bool) → nat_lt (strength a) 12 ≡ b → Opens (text_of (enclosed_pieces b (pieces d) rest))
    by_test true h = paren_opens _
    by_test false h = tight_opens d rest (ltb-false (strength a) 12 h)

-- ---- expressions

-- the pieces of an inner expression, and before what they are so
abbrev pub IsApartBefore : (List Piece → List Piece) → Type 0
IsApartBefore inner = (fresh : Bool) (rest : List Piece) → Follows (text_of rest) → AreApart false rest → AreApart fresh (inner rest)

enclosed_apart : (b : Bool) (inner : List Piece → List Piece) → ((rest : List Piece) → HasText (text_of (inner rest))) → IsApartBefore inner → IsApartBefore (enclosed_pieces b inner)
enclosed_apart true inner has own fresh rest f apart =
    (left_paren _ (has (mark (codes ")") ∷ rest)), own false (mark (codes ")") ∷ rest) (paren_follows (text_of rest)) (right_paren (text_of rest) (of_follows (text_of rest) f), apart))
enclosed_apart false inner has own fresh rest f apart = own fresh rest f apart

pub pieces_apart : {p : Program} {f : Func} {a : Expr} (d : IsShowable p f a) → IsApartBefore (pieces d)
unfolding pieces is_line_feed is_blank
pieces_apart (num {t = t} {n = n} h) fresh rest behind apart = (constant_stands t n (text_of rest) h behind, apart)
pieces_apart {p} {f} (name {v = v} h) fresh rest behind apart = (name_stands (name_text p f v) (text_of rest) h behind, apart)
pieces_apart {p} {f} (elem {v = v} {i = i} h d) fresh rest behind apart =
    let closing : List Piece = mark (codes "]") ∷ rest in
    let inner : List Piece = enclosed_pieces (nat_lt (strength i) 0) (pieces d) closing in
    let at_inner : AreApart false inner =
    enclosed_apart (nat_lt (strength i) 0) (pieces d) (has_text d) (pieces_apart d) false closing (bracket_follows (text_of rest)) (right_bracket (text_of rest) (of_follows (text_of rest) behind), apart) in (
      name_stands (name_text p f v) (codes "[" ++ text_of inner) h (open_bracket_follows (text_of inner)),
      (left_bracket (text_of inner) (enclosed_has_text (nat_lt (strength i) 0) (pieces d) (has_text d) closing), at_inner),
    )
pieces_apart (un {o = o} {a = a} d) fresh rest behind apart =
    (unary_mark o (text_of (enclosed_pieces (nat_lt (strength a) 12) (pieces d) rest)) (operand_opens d rest), enclosed_apart (nat_lt (strength a) 12) (pieces d) (has_text d) (pieces_apart d) false rest behind apart)
pieces_apart (cast {t = t} {a = a} d) fresh rest behind apart =
    let inner : List Piece = enclosed_pieces (nat_lt (strength a) 11) (pieces d) rest in
    let at_inner : AreApart false inner = enclosed_apart (nat_lt (strength a) 11) (pieces d) (has_text d) (pieces_apart d) false rest behind apart in
    let closing : List ℕ = codes ")" ++ text_of inner in (
      left_paren (type_text t ++ closing) (type_has_text t closing),
      (
        type_stands t closing (paren_follows (text_of inner)),
        (right_paren (text_of inner) (enclosed_has_text (nat_lt (strength a) 11) (pieces d) (has_text d) rest), at_inner),
      ),
    )
pieces_apart (bin {o = o} {a = a} {b = b} d h) fresh rest behind apart =
    let right : List Piece = enclosed_pieces (nat_lt (strength b) (level o + 1)) (pieces h) rest in
    let operator : List Piece = Gap 32 ∷ mark (bin_text o) ∷ Gap 32 ∷ right in
    let at_right : AreApart false right = enclosed_apart (nat_lt (strength b) (level o + 1)) (pieces h) (has_text h) (pieces_apart h) false rest behind apart in
    enclosed_apart (nat_lt (strength a) (level o)) (pieces d) (has_text d) (pieces_apart d) fresh operator (blank_follows (bin_text o ++ (codes " " ++ text_of right))) (refl, (binary_stands o (text_of right), (refl, at_right)))
pieces_apart (cond {c = c} {a = a} {b = b} d h k) fresh rest behind apart =
    let last : List Piece = enclosed_pieces (nat_lt (strength b) 0) (pieces k) rest in
    let colon : List Piece = Gap 32 ∷ mark (codes ":") ∷ Gap 32 ∷ last in
    let middle : List Piece = enclosed_pieces (nat_lt (strength a) 0) (pieces h) colon in
    let question : List Piece = Gap 32 ∷ mark (codes "?") ∷ Gap 32 ∷ middle in
    let at_last : AreApart false last = enclosed_apart (nat_lt (strength b) 0) (pieces k) (has_text k) (pieces_apart k) false rest behind apart in
    let at_middle : AreApart false middle =
    enclosed_apart (nat_lt (strength a) 0) (pieces h) (has_text h) (pieces_apart h) false colon (blank_follows (codes ":" ++ (codes " " ++ text_of last))) (refl, (colon_stands (text_of last), (refl, at_last))) in
    enclosed_apart (nat_lt (strength c) 1) (pieces d) (has_text d) (pieces_apart d) fresh question (blank_follows (codes "?" ++ (codes " " ++ text_of middle))) (refl, (question_stands (text_of middle), (refl, at_middle)))
