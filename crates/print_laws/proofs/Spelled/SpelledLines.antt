-- The pieces of a statement of one line spell it.
use Rattle.std.proofs.Common.{◌≡◌, ℕ, ◌+◌, Bool, false, List, [], ◌∷◌, ◌++◌, length, refl, sym, ap, subst}
use Rattle.std.specs.Prelude.{IsTrue, codes, slice_get, Option, Some, None}
use Rattle.c_tree.specs.declared.tree.Ty.{Ty}
use Rattle.c_tree.specs.declared.tree.BinOp.{BinOp}
use Rattle.c_tree.specs.declared.tree.BinOp.TheVariants as op
use Rattle.c_tree.specs.declared.tree.Expr.{Expr}
use Rattle.c_tree.specs.declared.tree.Place.{Place}
use Rattle.c_tree.specs.declared.tree.Place.TheVariants as place
use Rattle.c_tree.specs.declared.tree.Target.{Target}
use Rattle.c_tree.specs.declared.tree.Target.TheVariants as target
use Rattle.c_tree.specs.declared.tree.Stmt.TheVariants.{Empty, Scalar, Array, Assign, Call, Break, Continue, Return}
use Rattle.c_tree.specs.declared.token.Kind.TheVariants as kind
use Rattle.c_tree.specs.declared.program.Func.{Func}
use Rattle.c_tree.specs.declared.program.Program.{Program}
use Rattle.c_tree.specs.declared.unit.Spot.{Spot}
use Rattle.c_tree.specs.declared.unit.RawExpr.{RawExpr}
use Rattle.c_tree.specs.declared.unit.RawShape.TheVariants as shape
use Rattle.c_tree.specs.declared.unit.RawStmt.{RawStmt}
use Rattle.c_tree.specs.declared.unit.RawStmt.TheVariants as raw
use Rattle.c_tree.specs.declared.symbol.Symbol.TheVariants as s
use Rattle.c_tree.specs.Tokens.Symbols.{Lexeme, symbol_of}
use Rattle.c_tree.specs.Keeping.WellFormed.{is_compound, is_assigning}
use Rattle.c_tree.specs.Grammar.SpelledExpressions.{last}
use Rattle.c_tree.specs.Grammar.SpelledStatements as g
use Rattle.c_tree.specs.Grammar.SpelledStatements.{Assigned, Assignment, Called, Item, Statement}
use Rattle.print_laws.specs.Shown.{ShowAll, show_none, ShowsPlace, NamesFunc, ShowsStmt}
use Rattle.print_laws.specs.PrintedExpressions.{type_text, bin_text}
use Rattle.print_laws.specs.PrintedStatements.{func_name}
use Rattle.print_laws.proofs.Composing.Composed.{Piece, Gap}
use Rattle.print_laws.proofs.Composing.ComposedExpressions.{IsShowable, mark, word, pieces}
use Rattle.print_laws.proofs.Composing.ExpressionLists.{AreShowable, list_pieces, list_spelled}
use Rattle.print_laws.proofs.Spelled.SpelledAgain.{type_name}
use Rattle.print_laws.proofs.Named.Showable.{IsShowableOptional, AreShowableArguments, HasLocal, HasArray, IsShowablePlace, IsShowableTarget, HasFunc}
use Rattle.print_laws.proofs.Composing.ComposedStatements.{length_pieces, declared_pieces, declaration_pieces, between, value_pieces, place_pieces, assign_pieces, target_pieces, argument_pieces, called_pieces, return_pieces}
use Rattle.print_laws.proofs.Spelled.SpelledParts.{IsPart, expr_part, values_part, size_part, declaration_is, declares}

-- a statement of a list, which ends in an open `if` or not
abbrev pub IsItem : List Lexeme → RawStmt → List Lexeme → Type 0
IsItem ts x rest = (o : Bool) × Statement Item o ts (x ∷ []) rest

-- behind the last token of a statement of one line
abbrev pub ended : List Piece → List Piece
ended rest = mark (codes ";") ∷ Gap 10 ∷ rest

-- ---- assignments

compound_symbol : (o : BinOp) → IsTrue (is_compound o) → symbol_of kind.Mark (bin_text o ++ codes "=") ≡ s.Compound o
unfolding bin_text
compound_symbol op.Mul h = refl
compound_symbol op.Div h = refl
compound_symbol op.Rem h = refl
compound_symbol op.Add h = refl
compound_symbol op.Sub h = refl
compound_symbol op.Shl h = refl
compound_symbol op.Shr h = refl
compound_symbol op.And h = refl
compound_symbol op.Xor h = refl
compound_symbol op.Or h = refl
compound_symbol op.Lt h = absurd (cc)
compound_symbol op.Gt h = absurd (cc)
compound_symbol op.Le h = absurd (cc)
compound_symbol op.Ge h = absurd (cc)
compound_symbol op.Eq h = absurd (cc)
compound_symbol op.Ne h = absurd (cc)
compound_symbol op.Both h = absurd (cc)
compound_symbol op.Either h = absurd (cc)

place_part : (p : Program) (f : Func) (v : Place) (d : IsShowablePlace p f v) (at : ℕ) (rest : List Piece) → IsPart Assigned (λ r. ShowsPlace p f r v) at (place_pieces p f v d rest) rest
unfolding place_pieces
place_part p f (place.Scalar v) d at rest = record { to = _; raw = _; spells = g.scalar_place refl; shows = (_, refl, refl) }
place_part p f (place.Elem v i) d at rest =
    let x = expr_part d.1 _ (mark (codes "]") ∷ rest) in
    record { to = _; raw = _; spells = g.element_place refl refl x.spells refl; shows = (_, x.raw, refl, refl, x.shows) }

pub assign_part : (p : Program) (f : Func) (v : Place) (o : Option BinOp) {b : Expr} (d : IsShowablePlace p f v) → IsTrue (is_assigning o) → (h : IsShowable p f b) (at : ℕ) (rest : List Piece)
    → IsPart Assignment (λ r. ShowsStmt p f r (Assign v o b)) at (place_pieces p f v d (assign_pieces o (pieces h rest))) rest
unfolding ShowsStmt assign_pieces
assign_part p f v None d k h at rest =
    let x = place_part p f v d at (between (codes "=") (pieces h rest)) in
    let y = expr_part h _ rest in
    record { to = y.to; raw = _; spells = g.plain_assignment x.spells refl y.spells; shows = (x.raw, y.raw, refl, x.shows, y.shows) }
assign_part p f v (Some o) d k h at rest =
    let x = place_part p f v d at (between (bin_text o ++ codes "=") (pieces h rest)) in
    let y = expr_part h _ rest in
    record { to = y.to; raw = _; spells = g.compound_assignment x.spells (compound_symbol o k) y.spells; shows = (x.raw, y.raw, refl, x.shows, y.shows) }

-- ---- calls

-- a called name with the arguments
abbrev IsCall : List Lexeme → Spot × List RawExpr → List Lexeme → Type 0
IsCall ts c rest = Called ts c.0 c.1 rest

-- it is the function g's, with these arguments
abbrev IsCallOf : Program → Func → ℕ → List Expr → Spot × List RawExpr → Type 0
IsCallOf p f g es c = NamesFunc p c.0 g × ShowAll p f c.1 es

names_func : {p : Program} {n : ℕ} (h : HasFunc p n) (at : ℕ) → NamesFunc p (record { name = func_name (slice_get p.funcs n); at = at }) n
unfolding func_name
names_func h at = record { callee = h.callee; there = h.there; named = ap func_name h.there }

call_part : (p : Program) (f : Func) {n : ℕ} (h : HasFunc p n) (es : List Expr) (d : AreShowableArguments p f es) (at : ℕ) (rest : List Piece)
    → IsPart IsCall (IsCallOf p f n es) at (called_pieces p f n es d rest) rest
unfolding called_pieces argument_pieces
call_part p f h [] d at rest = record { to = _; raw = (_, []); spells = g.without_arguments refl refl refl; shows = (names_func h at, show_none) }
call_part p f h (a ∷ es) d at rest =
    let x = list_spelled d _ (mark (codes ")") ∷ rest) in
    record { to = _; raw = (_, x.raws); spells = g.with_arguments refl refl x.spells refl; shows = (names_func h at, x.shows) }

pub called_part : (p : Program) (f : Func) {n : ℕ} (t : Target) (es : List Expr) (d : IsShowableTarget p f t) (h : HasFunc p n) (k : AreShowableArguments p f es) (at : ℕ) (rest : List Piece)
    → IsPart IsItem (λ r. ShowsStmt p f r (Call t n es)) at (target_pieces p f t (called_pieces p f n es k (ended rest))) rest
unfolding ShowsStmt target_pieces declared_pieces length_pieces
called_part p f target.Nothing es d h k at rest =
    let x = call_part p f h es k at (ended rest) in
    record { to = _; raw = _; spells = (false, g.item (g.call x.spells refl)); shows = (_, x.raw.0, x.raw.1, refl, refl, x.shows.0, x.shows.1) }
called_part p f (target.Assign v) es d h k at rest =
    let x = call_part p f h es k _ (ended rest) in
    record { to = _; raw = _; spells = (false, g.item (g.call_into refl refl x.spells refl)); shows = (_, x.raw.0, x.raw.1, refl, (_, refl, refl), x.shows.0, x.shows.1) }
called_part p f {n} (target.Declare l) es d h k at rest =
    let called : List Piece = called_pieces p f n es k (ended rest) in
    let x = call_part p f h es k _ (ended rest) in
    subst (λ ps. IsPart IsItem (λ r. ShowsStmt p f r (Call (target.Declare l) n es)) at ps rest) (sym (declaration_is d (between (codes "=") called)))
    (record {
      to = _;
      raw = _;
      spells = (false, g.declare_call g.absent (type_name d.local.ty _ _) refl refl x.spells refl);
      shows = (_, x.raw.0, x.raw.1, refl, (d.local.ty, _, refl, declares d _), x.shows.0, x.shows.1);
    })

-- ---- declarations

pub scalar_part : (p : Program) (f : Func) {n : ℕ} (h : HasLocal f n None) (b : Option Expr) (d : IsShowableOptional p f b) (at : ℕ) (rest : List Piece)
    → IsPart IsItem (λ r. ShowsStmt p f r (Scalar n b)) at (declaration_pieces f n (value_pieces p f b d (ended rest))) rest
unfolding ShowsStmt declared_pieces length_pieces value_pieces
scalar_part p f {n} h None d at rest =
    subst (λ ps. IsPart IsItem (λ r. ShowsStmt p f r (Scalar n None)) at ps rest) (sym (declaration_is h (ended rest)))
    (record {
      to = _;
      raw = _;
      spells = (false, g.declare g.absent (type_name h.local.ty _ _) (last (g.scalar refl)) refl);
      shows = (h.local.ty, _, None, refl, declares h _, tt);
    })
scalar_part p f {n} h (Some b) d at rest =
    let x = expr_part d _ (ended rest) in
    subst (λ ps. IsPart IsItem (λ r. ShowsStmt p f r (Scalar n (Some b))) at ps rest) (sym (declaration_is h (between (codes "=") (pieces d (ended rest)))))
    (record {
      to = _;
      raw = _;
      spells = (false, g.declare g.absent (type_name h.local.ty _ _) (last (g.initialised refl refl x.spells)) refl);
      shows = (h.local.ty, _, Some x.raw, refl, declares h _, x.shows);
    })

pub array_part : (p : Program) (f : Func) {n : ℕ} (h : HasArray f n) (bs : List Expr) (d : AreShowable p f bs) (at : ℕ) (rest : List Piece)
    → IsPart IsItem (λ r. ShowsStmt p f r (Array n bs)) at (declaration_pieces f n (between (codes "=") (mark (codes "{") ∷ list_pieces d (mark (codes "}") ∷ ended rest)))) rest
unfolding ShowsStmt declared_pieces
array_part p f {n} h bs d at rest =
    let listed : List Piece = between (codes "=") (mark (codes "{") ∷ list_pieces d (mark (codes "}") ∷ ended rest)) in
    let t : Ty = h.local.local.ty in
    let named : Spot = record { name = h.local.local.name; at = at + length (type_text t) + 1 } in
    let x = size_part h.size _ listed in
    let y = values_part d _ (ended rest) in
    subst (λ ps. IsPart IsItem (λ r. ShowsStmt p f r (Array n bs)) at ps rest) (sym (declaration_is h.local listed))
    (record {
      to = _;
      raw = _;
      spells = (false, g.declare g.absent (type_name t _ _) (last (g.filled refl x.spells refl y.spells)) refl);
      shows = (t, named, h.size, x.shows.0, y.raw, ap (λ a. raw.Declare false t named (shape.Array a (Some y.raw))) x.shows.1, declares h.local named.at, y.shows);
    })

-- ---- statements of a word

pub empty_part : (p : Program) (f : Func) (at : ℕ) (rest : List Piece) → IsPart IsItem (λ r. ShowsStmt p f r Empty) at (ended rest) rest
unfolding ShowsStmt
empty_part p f at rest = record { to = _; raw = _; spells = (false, g.item (g.empty refl)); shows = refl }

pub break_part : (p : Program) (f : Func) (at : ℕ) (rest : List Piece) → IsPart IsItem (λ r. ShowsStmt p f r Break) at (word (codes "break") ∷ ended rest) rest
unfolding ShowsStmt
break_part p f at rest = record { to = _; raw = _; spells = (false, g.item (g.break refl refl)); shows = (_, refl) }

pub continue_part : (p : Program) (f : Func) (at : ℕ) (rest : List Piece) → IsPart IsItem (λ r. ShowsStmt p f r Continue) at (word (codes "continue") ∷ ended rest) rest
unfolding ShowsStmt
continue_part p f at rest = record { to = _; raw = _; spells = (false, g.item (g.continue refl refl)); shows = (_, refl) }

pub return_part : (p : Program) (f : Func) (b : Option Expr) (d : IsShowableOptional p f b) (at : ℕ) (rest : List Piece)
    → IsPart IsItem (λ r. ShowsStmt p f r (Return b)) at (return_pieces p f b d (ended rest)) rest
unfolding ShowsStmt return_pieces
return_part p f None d at rest = record { to = _; raw = _; spells = (false, g.item (g.return_nothing refl refl)); shows = (_, None, refl, tt) }
return_part p f (Some b) d at rest =
    let x = expr_part d _ (ended rest) in
    record { to = _; raw = _; spells = (false, g.item (g.return_value refl x.spells refl)); shows = (_, Some x.raw, refl, x.shows) }
