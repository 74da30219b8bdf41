-- The pieces of a loop spell it, where those of its list do.
use Rattle.std.proofs.Common.{◌≡◌, ℕ, false, List, ◌∷◌, refl, sym, subst}
use Rattle.std.specs.Prelude.{IsTrue, codes, Option, Some, None}
use Rattle.c_tree.specs.declared.tree.Expr.{Expr}
use Rattle.c_tree.specs.declared.tree.Stmt.{Row_of-Stmt, end_of-Stmt, more_of-Stmt, Held-Stmt-For-1, None', Some'}
use Rattle.c_tree.specs.declared.tree.Stmt.TheVariants.{Scalar, Assign}
use Rattle.c_tree.specs.declared.token.Kind.TheVariants as kind
use Rattle.c_tree.specs.declared.program.Func.{Func}
use Rattle.c_tree.specs.declared.program.Program.{Program}
use Rattle.c_tree.specs.declared.unit.RawBound.{RawBound}
use Rattle.c_tree.specs.declared.unit.RawExpr.{RawExpr}
use Rattle.c_tree.specs.declared.unit.RawStmt.{RawStmt}
use Rattle.c_tree.specs.declared.unit.RawStmt.TheVariants as raw
use Rattle.c_tree.specs.Tokens.Symbols.{Lexeme}
use Rattle.c_tree.specs.Keeping.WellFormed.{is_initialiser, is_step}
use Rattle.c_tree.specs.Grammar.SpelledStatements as g
use Rattle.c_tree.specs.Grammar.SpelledStatements.{Initialiser, Step}
use Rattle.print_laws.specs.Shown.{Shows, ShowsBound, ShowsStmt, ShowsHeld, ShowsSole}
use Rattle.print_laws.proofs.Composing.Composed.{Piece, Gap, Pragma, piece_text}
use Rattle.print_laws.proofs.Composing.ComposedExpressions.{IsShowable, mark, word, pieces}
use Rattle.print_laws.proofs.Spelled.SpelledAgain.{lexeme_at, type_name}
use Rattle.print_laws.proofs.Named.Showable.{IsShowableStmt, IsShowableHeld, IsShowableSole}
use Rattle.print_laws.proofs.Composing.ComposedStatements.{margin_pieces, length_pieces, declared_pieces, between, value_pieces, simple_pieces, bound_pieces, opening_pieces, closing_pieces, stmt_pieces, held_pieces, sole_pieces}
use Rattle.print_laws.proofs.Spelled.SpelledParts.{IsPart, AreInner, behind_margin, braced, expr_part, declaration_is, declares}
use Rattle.print_laws.proofs.Spelled.SpelledLines.{IsItem, ended, assign_part}

-- ---- bounds

-- the line of a loop's bound as a token
abbrev bound_at : ℕ → ℕ → Lexeme
bound_at n at = lexeme_at at (kind.Bound n) (piece_text (Pragma n))

-- what is spelled behind the token of a bound, from each place, is spelled behind the bound's line and a margin
behind_bound : {Shown : RawStmt → Type 0} (n k at : ℕ) (ps rest : List Piece)
    → ((from : ℕ) → IsPart (λ ts. IsItem (bound_at n at ∷ ts)) Shown from ps rest)
    → IsPart IsItem Shown at (bound_pieces n (margin_pieces k ps)) rest
behind_bound {Shown} n k at ps rest h =
    let x = behind_margin {Phrase = λ ts. IsItem (bound_at n at ∷ ts)} {Shown = Shown} k _ ps rest h in
    record { to = x.to; raw = x.raw; spells = x.spells; shows = x.shows }

-- ---- loops with a condition

pub while_part : (p : Program) (f : Func) (n k : ℕ) {b : Expr} {Shown : List RawStmt → Type 0} (inner : List Piece → List Piece) (d : IsShowable p f b) → AreInner Shown inner → (at : ℕ) (rest : List Piece)
    → IsPart IsItem
    (λ r. (at : ℕ) × (k : Option RawBound) × (a : RawExpr) × (xs : List RawStmt) × (r ≡ raw.While at k a xs) × ShowsBound k n × Shows p f a b × Shown xs) at
    (bound_pieces n (margin_pieces k (word (codes "while") ∷ Gap 32 ∷ mark (codes "(") ∷ pieces d (opening_pieces (inner (closing_pieces k rest)))))) rest
while_part p f n k inner d list at rest =
    let body : List Piece = inner (closing_pieces k rest) in
    behind_bound n k at (word (codes "while") ∷ Gap 32 ∷ mark (codes "(") ∷ pieces d (opening_pieces body)) rest (λ from.
    let x = expr_part d _ (opening_pieces body) in
    let y = braced k _ (Gap 10 ∷ rest) list in
    record {
      to = _;
      raw = _;
      spells = (false, g.item (g.while_loop (g.bounded refl) refl refl x.spells refl y.spells.body));
      shows = (_, _, x.raw, y.raw, refl, record { at = at; is = refl }, x.shows, y.shows);
    })

pub do_part : (p : Program) (f : Func) (n k : ℕ) {b : Expr} {Shown : List RawStmt → Type 0} (inner : List Piece → List Piece) (d : IsShowable p f b) → AreInner Shown inner → (at : ℕ) (rest : List Piece)
    → IsPart IsItem
    (λ r. (at : ℕ) × (k : Option RawBound) × (xs : List RawStmt) × (a : RawExpr) × (r ≡ raw.Do at k xs a) × ShowsBound k n × Shown xs × Shows p f a b) at
    (bound_pieces n (margin_pieces k (word (codes "do") ∷ Gap 32 ∷ mark (codes "{") ∷ Gap 10 ∷ inner (margin_pieces k (mark (codes "}") ∷ Gap 32 ∷ word (codes "while") ∷ Gap 32 ∷ mark (codes "(") ∷ pieces d (mark (codes ")") ∷ ended rest)))))) rest
do_part p f n k inner d list at rest =
    let test : List Piece = Gap 32 ∷ word (codes "while") ∷ Gap 32 ∷ mark (codes "(") ∷ pieces d (mark (codes ")") ∷ ended rest) in
    let body : List Piece = inner (margin_pieces k (mark (codes "}") ∷ test)) in
    behind_bound n k at (word (codes "do") ∷ Gap 32 ∷ mark (codes "{") ∷ Gap 10 ∷ body) rest (λ from.
    let y = braced k _ test list in
    let x = expr_part d _ (mark (codes ")") ∷ ended rest) in
    record {
      to = _;
      raw = _;
      spells = (false, g.item (g.do_loop (g.bounded refl) refl y.spells.body refl refl x.spells refl refl));
      shows = (_, _, y.raw, x.raw, refl, record { at = at; is = refl }, y.shows, x.shows);
    })

-- ---- the first line of a `for`

sole_initialiser : {m : _} (p : Program) (f : Func) (x : Row_of-Stmt m) (d : IsShowableSole p f is_initialiser x) (at : ℕ) (rest : List Piece)
    → IsPart Initialiser (λ r. ShowsSole p f r x) at (sole_pieces p f is_initialiser x d rest) rest
unfolding IsShowableStmt ShowsStmt stmt_pieces simple_pieces value_pieces declared_pieces length_pieces
sole_initialiser p f end_of-Stmt d at rest = absurd d
sole_initialiser p f (more_of-Stmt (Scalar n (Some b)) more) d at rest =
    let h = d.1.0 in
    let x = expr_part d.1.1 _ rest in
    subst (λ ps. IsPart Initialiser (λ r. (x : RawStmt) × (r ≡ Some x) × ShowsStmt p f x (Scalar n (Some b))) at ps rest) (sym (declaration_is h (between (codes "=") (pieces d.1.1 rest))))
    (record {
      to = _;
      raw = _;
      spells = g.declaring (type_name h.local.ty _ _) refl refl x.spells;
      shows = (_, refl, (h.local.ty, _, Some x.raw, refl, declares h _, x.shows));
    })
sole_initialiser p f (more_of-Stmt (Scalar n None) more) d at rest = let no : IsTrue false = d.0 in absurd (cc)
sole_initialiser p f (more_of-Stmt (Assign v o b) more) d at rest =
    let x = assign_part p f v o d.1.0 d.1.1 d.1.2 at rest in
    record { to = x.to; raw = Some x.raw; spells = g.assigning x.spells; shows = (x.raw, refl, x.shows) }
sole_initialiser p f (more_of-Stmt s more) d at rest = let no : IsTrue false = d.0 in absurd (cc)

-- the initialiser of a `for`, if it has one
initialiser_part : (p : Program) (f : Func) (i : Held-Stmt-For-1) (d : IsShowableHeld p f is_initialiser i) (at : ℕ) (rest : List Piece)
    → IsPart Initialiser (λ r. ShowsHeld p f r i) at (held_pieces p f is_initialiser i d rest) rest
unfolding IsShowableStmt ShowsStmt stmt_pieces
initialiser_part p f None' d at rest = record { to = at; raw = None; spells = g.no_initialiser; shows = refl }
initialiser_part p f (Some' m x) d at rest = sole_initialiser p f x d at rest

sole_step : {m : _} (p : Program) (f : Func) (x : Row_of-Stmt m) (d : IsShowableSole p f is_step x) (at : ℕ) (rest : List Piece)
    → IsPart Step (λ r. ShowsSole p f r x) at (sole_pieces p f is_step x d rest) rest
unfolding IsShowableStmt ShowsStmt stmt_pieces simple_pieces
sole_step p f end_of-Stmt d at rest = absurd d
sole_step p f (more_of-Stmt (Assign v o b) more) d at rest =
    let x = assign_part p f v o d.1.0 d.1.1 d.1.2 at rest in
    record { to = x.to; raw = Some x.raw; spells = g.step x.spells; shows = (x.raw, refl, x.shows) }
sole_step p f (more_of-Stmt s more) d at rest = let no : IsTrue false = d.0 in absurd (cc)

-- the step of a `for`, if it has one
step_part : (p : Program) (f : Func) (j : Held-Stmt-For-1) (d : IsShowableHeld p f is_step j) (at : ℕ) (rest : List Piece)
    → IsPart Step (λ r. ShowsHeld p f r j) at (held_pieces p f is_step j d rest) rest
unfolding IsShowableStmt ShowsStmt stmt_pieces
step_part p f None' d at rest = record { to = at; raw = None; spells = g.no_step; shows = refl }
step_part p f (Some' m x) d at rest = sole_step p f x d at rest

pub for_part : (p : Program) (f : Func) (n k : ℕ) {b : Expr} {Shown : List RawStmt → Type 0} (inner : List Piece → List Piece)
    (i : Held-Stmt-For-1) (c : IsShowableHeld p f is_initialiser i) (d : IsShowable p f b) (j : Held-Stmt-For-1) (h : IsShowableHeld p f is_step j) → AreInner Shown inner → (at : ℕ) (rest : List Piece)
    → IsPart IsItem
    (λ r. (at : ℕ) × (k : Option RawBound) × (x : Option RawStmt) × (a : RawExpr) × (z : Option RawStmt) × (xs : List RawStmt) × (r ≡ raw.For at k x a z xs) × ShowsBound k n × ShowsHeld p f x i × Shows p f a b × ShowsHeld p f z j × Shown xs) at
    (bound_pieces n (margin_pieces k (word (codes "for") ∷ Gap 32 ∷ mark (codes "(") ∷ held_pieces p f is_initialiser i c (mark (codes ";") ∷ Gap 32 ∷ pieces d (mark (codes ";") ∷ Gap 32 ∷ held_pieces p f is_step j h (opening_pieces (inner (closing_pieces k rest)))))))) rest
for_part p f n k inner i c d j h list at rest =
    let body : List Piece = inner (closing_pieces k rest) in
    let next : List Piece = mark (codes ";") ∷ Gap 32 ∷ held_pieces p f is_step j h (opening_pieces body) in
    let test : List Piece = mark (codes ";") ∷ Gap 32 ∷ pieces d next in
    behind_bound n k at (word (codes "for") ∷ Gap 32 ∷ mark (codes "(") ∷ held_pieces p f is_initialiser i c test) rest (λ from.
    let u = initialiser_part p f i c _ test in
    let x = expr_part d _ next in
    let v = step_part p f j h _ (opening_pieces body) in
    let y = braced k _ (Gap 10 ∷ rest) list in
    record {
      to = _;
      raw = _;
      spells = (false, g.item (g.for_loop (g.bounded refl) refl refl u.spells refl (g.condition x.spells) refl v.spells refl y.spells.body));
      shows = (_, _, u.raw, x.raw, v.raw, y.raw, refl, record { at = at; is = refl }, u.shows, x.shows, v.shows, y.shows);
    })
