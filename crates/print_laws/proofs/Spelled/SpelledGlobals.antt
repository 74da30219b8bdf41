-- The pieces of a global spell it.
use Rattle.std.proofs.Common.{◌≡◌, ℕ, suc, ◌+◌, ◌-◌, ◌^◌, ◌≤◌, Bool, true, false, List, [], ◌∷◌, length, refl, sym, ap, subst, arith}
use Rattle.std.specs.Prelude.{IsTrue, codes, if◌then◌else◌, ◌==◌, Option, Some, None, unwrap_or, ℤ, pos, negsuc}
use Rattle.c_tree.specs.declared.tree.Ty.{Ty}
use Rattle.c_tree.specs.declared.tree.Ty.TheVariants as ty
use Rattle.c_tree.specs.declared.tree.UnOp.TheVariants as un
use Rattle.c_tree.specs.declared.program.Global.{Global as Outside}
use Rattle.c_tree.specs.declared.unit.Spot.{Spot}
use Rattle.c_tree.specs.declared.unit.RawExpr.{RawExpr}
use Rattle.c_tree.specs.declared.unit.RawExpr.TheVariants as e
use Rattle.c_tree.specs.declared.unit.RawShape.{RawShape}
use Rattle.c_tree.specs.declared.unit.RawShape.TheVariants as shape
use Rattle.c_tree.specs.declared.unit.RawTop.{RawTop}
use Rattle.c_tree.specs.declared.unit.RawTop.TheVariants as top
use Rattle.c_tree.specs.Tokens.Symbols.{Lexeme}
use Rattle.c_tree.specs.Keeping.WellFormed.{outer_has_none}
use Rattle.c_tree.specs.Grammar.SpelledExpressions.{Separated, last, comma, int, Expression, number, unary, cast}
use Rattle.c_tree.specs.Grammar.SpelledStatements as s
use Rattle.c_tree.specs.Grammar.SpelledStatements.{Declarator}
use Rattle.c_tree.specs.Grammar.Spelling as g
use Rattle.c_tree.specs.Grammar.Spelling.{OuterDeclarator, Top, Tops}
use Rattle.print_laws.specs.Shown.{ShowsLength, ShowsValue, ShowValues, ShowsInitial, ShowsDeclaration, ShowsGlobals}
use Rattle.print_laws.proofs.Composing.Composed.{Piece}
use Rattle.print_laws.proofs.Composing.ComposedExpressions.{mark, word}
use Rattle.print_laws.proofs.Spelled.SpelledAgain.{looser, type_name, number_type}
use Rattle.print_laws.proofs.Named.Showable.{AreShowableGlobals}
use Rattle.print_laws.proofs.Composing.ComposedStatements.{name_piece, number_piece, length_pieces, declared_pieces, between, kept_pieces, more_kept_pieces, initial_pieces, outer_pieces, global_pieces, globals_pieces}
use Rattle.print_laws.proofs.Spelled.SpelledParts.{IsPart, size_part}
use Rattle.print_laws.proofs.Spelled.SpelledLines.{ended}

-- ---- kept values

number_part : (t : Ty) (n at : ℕ) (rest : List Piece) → IsPart (Expression 12) (λ a. a ≡ e.Num at t n) at (number_piece t n ∷ rest) rest
number_part t n at rest = record { to = _; raw = _; spells = number refl; shows = ap (λ u. e.Num at u n) (number_type t n) }

-- a negative value: the truth value tells whether it is the least
negative_part : (least : Bool) (t : Ty) (n at : ℕ) (rest : List Piece)
    → IsPart (Expression 0) (λ a. (at : ℕ) × (from : ℕ) × (a ≡ (if least then e.Cast at ty.Int (e.Num from ty.Unsigned 2147483648) else e.Un at un.Minus (e.Num from t (suc n))))) at
    (if least then mark (codes "(") ∷ word (codes "int") ∷ mark (codes ")") ∷ number_piece ty.Unsigned 2147483648 ∷ rest else mark (codes "-") ∷ number_piece t (suc n) ∷ rest) rest
negative_part true t n at rest =
    let x = number_part ty.Unsigned 2147483648 (at + 1 + 3 + 1) rest in
    record { to = x.to; raw = _; spells = looser 11 0 (omega arith) (cast refl (int refl) refl (looser 12 11 (omega arith) x.spells)); shows = (at, _, ap (λ a. e.Cast at ty.Int a) x.shows) }
negative_part false t n at rest =
    let x = number_part t (suc n) (at + 1) rest in
    record { to = x.to; raw = _; spells = looser 11 0 (omega arith) (unary refl (looser 12 11 (omega arith) x.spells)); shows = (at, _, ap (λ a. e.Un at un.Minus a) x.shows) }

kept_part : (t : Ty) (z : ℤ) (at : ℕ) (rest : List Piece) → IsPart (Expression 0) (λ a. ShowsValue t a z) at (kept_pieces t z rest) rest
unfolding kept_pieces
kept_part t (pos n) at rest =
    let x = number_part t n at rest in
    record { to = x.to; raw = x.raw; spells = looser 12 0 (omega arith) x.spells; shows = (at, x.shows) }
kept_part t (negsuc n) at rest = negative_part (n == 2 ^ 31 - 1) t n at rest

-- one value or more
kept_values : (t : Ty) (z : ℤ) (zs : List ℤ) (at : ℕ) (rest : List Piece)
    → IsPart (Separated (Expression 0)) (λ rs. ShowValues t rs (z ∷ zs)) at (kept_pieces t z (more_kept_pieces t zs rest)) rest
unfolding more_kept_pieces
kept_values t z [] at rest =
    let x = kept_part t z at rest in
    record { to = x.to; raw = x.raw ∷ []; spells = last x.spells; shows = (x.shows, tt) }
kept_values t z (y ∷ zs) at rest =
    let x = kept_part t z at (more_kept_pieces t (y ∷ zs) rest) in
    let more = kept_values t y zs _ rest in
    record { to = more.to; raw = x.raw ∷ more.raw; spells = comma x.spells refl more.spells; shows = (x.shows, more.shows) }

-- ---- initialisers

alone : (z : ℤ) (zs : List ℤ) → length (z ∷ zs) ≤ 1 → zs ≡ []
alone z [] few = refl
alone z (y ∷ zs) few = absurd (omega (arith, few))

-- a declarator with this name, this length and these values
abbrev ShowsDeclarator : {A : Type 0} → (Spot → RawShape → A) → Ty → List ℕ → Option ℕ → List ℤ → A → Type 0
ShowsDeclarator make t name n zs r = (y : Spot) × (sh : RawShape) × (r ≡ make y sh) × (y.name ≡ name) × ShowsInitial t sh n zs

declarator_part : {A : Type 0} (make : Spot → RawShape → A) (t : Ty) (name : List ℕ) (n : Option ℕ) (zs : List ℤ) → length zs ≤ unwrap_or n 1 → (at : ℕ) (rest : List Piece)
    → IsPart (Declarator make) (ShowsDeclarator make t name n zs) at (name_piece name ∷ length_pieces n (initial_pieces t n zs rest)) rest
unfolding length_pieces initial_pieces
declarator_part make t name None [] few at rest = record { to = _; raw = _; spells = s.scalar refl; shows = (_, _, refl, refl, refl) }
declarator_part make t name None (z ∷ zs) few at rest =
    let x = kept_part t z _ rest in
    record { to = x.to; raw = _; spells = s.initialised refl refl x.spells; shows = (_, _, refl, refl, (x.raw, refl, alone z zs few, x.shows)) }
declarator_part make t name (Some m) [] few at rest =
    let x = size_part m _ rest in
    record { to = x.to; raw = _; spells = s.array refl x.spells; shows = (_, _, refl, refl, (x.shows.0, ap (λ a. shape.Array a None) x.shows.1)) }
declarator_part make t name (Some m) (z ∷ zs) few at rest =
    let listed : List Piece = between (codes "=") (mark (codes "{") ∷ kept_pieces t z (more_kept_pieces t zs (mark (codes "}") ∷ rest))) in
    let x = size_part m _ listed in
    let y = kept_values t z zs _ (mark (codes "}") ∷ rest) in
    record {
      to = _;
      raw = _;
      spells = s.filled refl x.spells refl (s.values refl y.spells refl);
      shows = (_, _, refl, refl, (x.shows.0, y.raw, ap (λ a. shape.Array a (Some y.raw)) x.shows.1, y.shows));
    }

outer_part : (t : Ty) (name : List ℕ) (n : Option ℕ) (at : ℕ) (rest : List Piece)
    → IsPart (OuterDeclarator false t) (λ r. (y : Spot) × (a : Option RawExpr) × (r ≡ top.Outer false t y a) × (y.name ≡ name) × ShowsLength a n) at (name_piece name ∷ length_pieces n rest) rest
unfolding length_pieces
outer_part t name None at rest = record { to = _; raw = _; spells = g.outer_scalar refl; shows = (_, None, refl, refl, refl) }
outer_part t name (Some m) at rest =
    record { to = _; raw = _; spells = g.outer_array refl refl (looser 12 0 (omega arith) (number refl)) refl; shows = (_, _, refl, refl, (_, refl)) }

-- ---- globals

-- one declaration at file scope
abbrev IsTop : List Lexeme → RawTop → List Lexeme → Type 0
IsTop ts r rest = Top ts (r ∷ []) rest

without_values : (zs : List ℤ) → IsTrue (outer_has_none true zs) → zs ≡ []
without_values [] h = refl
without_values (z ∷ zs) h = absurd (cc)

-- the declaration of a global, where it has just as many values as it may
declaration_part : (outer : Bool) (x : Outside) → length x.values ≤ unwrap_or x.length 1 → IsTrue (outer_has_none outer x.values) → (at : ℕ) (rest : List Piece)
    → IsPart IsTop (λ r. ShowsDeclaration outer r x) at (outer_pieces outer (declared_pieces x.ty x.name x.length (initial_pieces x.ty x.length x.values (ended rest)))) rest
unfolding outer_pieces declared_pieces initial_pieces
declaration_part true x few outside at rest =
    let none = without_values x.values outside in
    let y = outer_part x.ty x.name x.length _ (ended rest) in
    let shown : List ℤ → List Piece = λ zs. outer_pieces true (declared_pieces x.ty x.name x.length (initial_pieces x.ty x.length zs (ended rest))) in
    subst (λ zs. IsPart IsTop (λ r. ShowsDeclaration true r x) at (shown zs) rest) (sym none)
    (record {
      to = _;
      raw = y.raw;
      spells = g.outer refl s.absent (type_name x.ty _ _) (last y.spells) refl;
      shows = (y.shows.0, y.shows.1, y.shows.2, y.shows.3, y.shows.4, none);
    })
declaration_part false x few outside at rest =
    let y = declarator_part (top.Global false false x.ty) x.ty x.name x.length x.values few _ (ended rest) in
    record { to = _; raw = y.raw; spells = g.global s.absent s.absent (type_name x.ty _ _) (last y.spells) refl; shows = y.shows }

pub globals_spelled : (xs : List Outside) (d : AreShowableGlobals xs) (at : ℕ) (rest : List Piece) → IsPart Tops (λ rs. ShowsGlobals rs xs) at (globals_pieces xs rest) rest
unfolding globals_pieces global_pieces
globals_spelled [] d at rest = record { to = at; raw = []; spells = g.none; shows = tt }
globals_spelled (x ∷ xs) d at rest =
    let y = declaration_part x.outer x d.0.formed.count d.0.formed.outside at (globals_pieces xs rest) in
    let z = globals_spelled xs d.1 _ rest in
    record { to = z.to; raw = y.raw ∷ z.raw; spells = g.more y.spells z.spells; shows = (record { shown = y.shows }, z.shows) }
