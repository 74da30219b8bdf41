-- The text of an expression in pieces.
use Rattle.std.proofs.Common.{◌≡◌, ℕ, ◌+◌, ◌^◌, ◌<◌, Bool, true, false, List, [], ◌∷◌, ◌++◌, sym, ◌∙◌, ap}
use Rattle.std.specs.Prelude.{nat_lt, codes, Some}
use Rattle.c_tree.specs.declared.tree.Ty.{Ty}
use Rattle.c_tree.specs.declared.tree.Ty.TheVariants as ty
use Rattle.c_tree.specs.declared.tree.UnOp.{UnOp}
use Rattle.c_tree.specs.declared.tree.BinOp.{BinOp}
use Rattle.c_tree.specs.declared.tree.Var.{Var}
use Rattle.c_tree.specs.declared.tree.Expr.{Expr}
use Rattle.c_tree.specs.declared.tree.Expr.TheVariants.{Num, Name, Elem, Un, Cast, Bin, Cond}
use Rattle.c_tree.specs.declared.token.Kind.TheVariants as kind
use Rattle.c_tree.specs.declared.program.Func.{Func}
use Rattle.c_tree.specs.declared.program.Program.{Program}
use Rattle.c_tree.specs.Tokens.TokenKinds.{is_name, kind_of}
use Rattle.c_tree.specs.Grammar.SpelledExpressions.{level}
use Rattle.print_laws.specs.PrintedExpressions.{between_blanks, name_text, type_text, un_text, bin_text, number_text, strength, in_parentheses, expr_text, operand_text}
use Rattle.print_laws.proofs.Composing.ExprLayers.{text-Num, text-Name, text-Elem, text-Un, text-Cast, text-Bin, text-Cond}
use Rattle.print_laws.proofs.Composing.Pieces.{before2, before4, before5}
use Rattle.print_laws.proofs.Composing.Composed.{Piece, Gap, Lexeme, text_of}

-- a name that is no keyword
pub record IsIdentifier (bytes : List ℕ) : Type 0 where
  pub name : is_name bytes ≡ true
  pub kind_is : kind_of bytes ≡ Some kind.Name

abbrev pub limit : Ty → ℕ
limit ty.Int = 2 ^ 31
limit ty.Unsigned = 2 ^ 32

abbrev pub is_unsigned : Ty → Bool
is_unsigned ty.Int = false
is_unsigned ty.Unsigned = true

-- the expressions that a text has: each number is of its type, and each variable has a name
pub data IsShowable (p : Program) (f : Func) : Expr → Type 0 where
  num : {t : Ty} {n : ℕ} → n < limit t → IsShowable p f (Num t n)
  name : {v : Var} → IsIdentifier (name_text p f v) → IsShowable p f (Name v)
  elem : {v : Var} {i : Expr} → IsIdentifier (name_text p f v) → IsShowable p f i → IsShowable p f (Elem v i)
  un : {o : UnOp} {a : Expr} → IsShowable p f a → IsShowable p f (Un o a)
  cast : {t : Ty} {a : Expr} → IsShowable p f a → IsShowable p f (Cast t a)
  bin : {o : BinOp} {a b : Expr} → IsShowable p f a → IsShowable p f b → IsShowable p f (Bin o a b)
  cond : {c a b : Expr} → IsShowable p f c → IsShowable p f a → IsShowable p f b → IsShowable p f (Cond c a b)

-- ---- pieces

abbrev pub mark : List ℕ → Piece
mark bytes = Lexeme kind.Mark bytes

abbrev pub word : List ℕ → Piece
word bytes = Lexeme kind.Word bytes

-- in parentheses, where it takes them
abbrev pub enclosed_pieces : Bool → (List Piece → List Piece) → List Piece → List Piece
enclosed_pieces true inner rest = mark (codes "(") ∷ inner (mark (codes ")") ∷ rest)
enclosed_pieces false inner rest = inner rest

-- the pieces of an expression, before others
unfoldable pub pieces : {p : Program} {f : Func} {e : Expr} → IsShowable p f e → List Piece → List Piece
pieces {p} {f} (num {t = t} {n = n} h) rest = Lexeme (kind.Number (is_unsigned t) n) (number_text t n) ∷ rest
pieces {p} {f} (name {v = v} h) rest = Lexeme kind.Name (name_text p f v) ∷ rest
pieces {p} {f} (elem {v = v} {i = i} h d) rest =
    Lexeme kind.Name (name_text p f v) ∷ mark (codes "[") ∷ enclosed_pieces (nat_lt (strength i) 0) (pieces d) (mark (codes "]") ∷ rest)
pieces {p} {f} (un {o = o} {a = a} d) rest = mark (un_text o) ∷ enclosed_pieces (nat_lt (strength a) 12) (pieces d) rest
pieces {p} {f} (cast {t = t} {a = a} d) rest =
    mark (codes "(") ∷ word (type_text t) ∷ mark (codes ")") ∷ enclosed_pieces (nat_lt (strength a) 11) (pieces d) rest
pieces {p} {f} (bin {o = o} {a = a} {b = b} d g) rest =
    enclosed_pieces (nat_lt (strength a) (level o)) (pieces d) (Gap 32 ∷ mark (bin_text o) ∷ Gap 32 ∷ enclosed_pieces (nat_lt (strength b) (level o + 1)) (pieces g) rest)
pieces {p} {f} (cond {c = c} {a = a} {b = b} d g h) rest =
    enclosed_pieces (nat_lt (strength c) 1) (pieces d) (Gap 32 ∷ mark (codes "?") ∷ Gap 32
    ∷ enclosed_pieces (nat_lt (strength a) 0) (pieces g) (Gap 32 ∷ mark (codes ":") ∷ Gap 32 ∷ enclosed_pieces (nat_lt (strength b) 0) (pieces h) rest))

-- ---- their text

enclosed_text : (b : Bool) (inner : List Piece → List Piece) (t : List ℕ) → ((rest : List Piece) → text_of (inner rest) ≡ t ++ text_of rest)
    → (rest : List Piece) → text_of (enclosed_pieces b inner rest) ≡ in_parentheses b t ++ text_of rest
enclosed_text true inner t is rest = ap (λ u. 40 ∷ u) (is (mark (codes ")") ∷ rest) ∙ before2 t (codes ")") (text_of rest))
enclosed_text false inner t is rest = is rest

pub pieces_text : {p : Program} {f : Func} {e : Expr} (d : IsShowable p f e) (rest : List Piece) → text_of (pieces d rest) ≡ expr_text p f e ++ text_of rest
unfolding pieces operand_text
pieces_text {p} {f} (num {t = t} {n = n} h) rest = ap (λ u. u ++ text_of rest) (sym (text-Num p f t n))
pieces_text {p} {f} (name {v = v} h) rest = ap (λ u. u ++ text_of rest) (sym (text-Name p f v))
pieces_text {p} {f} (elem {v = v} {i = i} h d) rest =
    ap (λ u. name_text p f v ++ (codes "[" ++ u)) (enclosed_text (nat_lt (strength i) 0) (pieces d) (expr_text p f i) (pieces_text d) (mark (codes "]") ∷ rest))
    ∙ before4 (name_text p f v) (codes "[") (operand_text p f 0 i) (codes "]") (text_of rest)
    ∙ ap (λ u. u ++ text_of rest) (sym (text-Elem [] p f v i))
pieces_text {p} {f} (un {o = o} {a = a} d) rest =
    ap (λ u. un_text o ++ u) (enclosed_text (nat_lt (strength a) 12) (pieces d) (expr_text p f a) (pieces_text d) rest)
    ∙ before2 (un_text o) (operand_text p f 12 a) (text_of rest)
    ∙ ap (λ u. u ++ text_of rest) (sym (text-Un [] p f o a))
pieces_text {p} {f} (cast {t = t} {a = a} d) rest =
    ap (λ u. codes "(" ++ (type_text t ++ (codes ")" ++ u))) (enclosed_text (nat_lt (strength a) 11) (pieces d) (expr_text p f a) (pieces_text d) rest)
    ∙ before4 (codes "(") (type_text t) (codes ")") (operand_text p f 11 a) (text_of rest)
    ∙ ap (λ u. u ++ text_of rest) (sym (text-Cast [] p f t a))
pieces_text {p} {f} (bin {o = o} {a = a} {b = b} d h) rest =
    let right : List Piece = enclosed_pieces (nat_lt (strength b) (level o + 1)) (pieces h) rest in
    enclosed_text (nat_lt (strength a) (level o)) (pieces d) (expr_text p f a) (pieces_text d) (Gap 32 ∷ mark (bin_text o) ∷ Gap 32 ∷ right)
    ∙ ap (λ u. operand_text p f (level o) a ++ (codes " " ++ (bin_text o ++ (codes " " ++ u)))) (enclosed_text (nat_lt (strength b) (level o + 1)) (pieces h) (expr_text p f b) (pieces_text h) rest)
    ∙ before5 (operand_text p f (level o) a) (codes " ") (bin_text o) (codes " ") (operand_text p f (level o + 1) b) (text_of rest)
    ∙ ap (λ u. u ++ text_of rest) (sym (text-Bin [] p f o a b))
pieces_text {p} {f} (cond {c = c} {a = a} {b = b} d h k) rest =
    let last : List Piece = Gap 32 ∷ mark (codes ":") ∷ Gap 32 ∷ enclosed_pieces (nat_lt (strength b) 0) (pieces k) rest in
    let middle : List Piece = Gap 32 ∷ mark (codes "?") ∷ Gap 32 ∷ enclosed_pieces (nat_lt (strength a) 0) (pieces h) last in
    enclosed_text (nat_lt (strength c) 1) (pieces d) (expr_text p f c) (pieces_text d) middle
    ∙ ap (λ u. operand_text p f 1 c ++ (between_blanks (codes "?") ++ u)) (enclosed_text (nat_lt (strength a) 0) (pieces h) (expr_text p f a) (pieces_text h) last)
    ∙ ap (λ u. operand_text p f 1 c ++ (between_blanks (codes "?") ++ (operand_text p f 0 a ++ (between_blanks (codes ":") ++ u)))) (enclosed_text (nat_lt (strength b) 0) (pieces k) (expr_text p f b) (pieces_text k) rest)
    ∙ before5 (operand_text p f 1 c) (between_blanks (codes "?")) (operand_text p f 0 a) (between_blanks (codes ":")) (operand_text p f 0 b) (text_of rest)
    ∙ ap (λ u. u ++ text_of rest) (sym (text-Cond [] p f c a b))
