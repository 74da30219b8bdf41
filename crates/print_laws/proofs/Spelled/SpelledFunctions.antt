-- The pieces of a function spell it.
use Rattle.std.proofs.Common.{◌≡◌, ℕ, zero, suc, false, List, [], ◌∷◌, length, map, take, refl, sym, ◌∙◌, ap, subst}
use Rattle.std.specs.Prelude.{codes, Option, Some, None}
use Rattle.std.proofs.lemmas.List.{length-map}
use Rattle.c_tree.specs.declared.tree.Ty.{Ty}
use Rattle.c_tree.specs.declared.program.Local.{Local as Declared}
use Rattle.c_tree.specs.declared.program.Func.{Func}
use Rattle.c_tree.specs.declared.program.Program.{Program}
use Rattle.c_tree.specs.declared.unit.RawFunc.{RawFunc}
use Rattle.c_tree.specs.declared.unit.RawTop.TheVariants as top
use Rattle.c_tree.specs.Checking.Naming.{local_of}
use Rattle.c_tree.specs.Tokens.Symbols.{Lexeme}
use Rattle.c_tree.specs.Keeping.WellFormed.{HasParams}
use Rattle.c_tree.specs.Grammar.SpelledExpressions.{Separated, last, comma}
use Rattle.c_tree.specs.Grammar.SpelledStatements.{absent}
use Rattle.c_tree.specs.Grammar.Spelling as g
use Rattle.c_tree.specs.Grammar.Spelling.{Result, Param, Params, Top, Tops}
use Rattle.print_laws.specs.Shown.{local_of_param, ShowsFunc, ShowsFuncs}
use Rattle.print_laws.proofs.Composing.Composed.{Piece, Gap}
use Rattle.print_laws.proofs.Composing.ComposedExpressions.{mark}
use Rattle.print_laws.proofs.Spelled.SpelledAgain.{type_name}
use Rattle.print_laws.proofs.Named.Showable.{IsShowableFunc, AreShowableFuncs}
use Rattle.print_laws.proofs.Composing.ComposedStatements.{length_pieces, declared_pieces, name_piece, opening_pieces, stmts_pieces, result_pieces, more_param_pieces, params_pieces, func_pieces, funcs_pieces}
use Rattle.print_laws.proofs.Spelled.SpelledParts.{IsPart}
use Rattle.print_laws.proofs.Spelled.SpelledStatementsAgain.{stmts_spelled}

-- ---- results and parameters

result_part : (t : Option Ty) (at : ℕ) (rest : List Piece) → IsPart Result (λ r. r ≡ t) at (result_pieces t rest) rest
unfolding result_pieces
result_part None at rest = record { to = _; raw = None; spells = g.nothing refl; shows = refl }
result_part (Some t) at rest = record { to = _; raw = Some t; spells = g.typed (type_name t _ _); shows = refl }

-- none of them has a length
abbrev AreScalars : List Declared → Type 0
AreScalars [] = Unit {0}
AreScalars (l ∷ ls) = (l.length ≡ None) × AreScalars ls

params_scalars : (n : ℕ) (ls : List Declared) → HasParams n ls → AreScalars (take n ls)
params_scalars zero ls h = tt
params_scalars (suc n) [] h = absurd h
params_scalars (suc n) (l ∷ ls) h = (h.0, params_scalars n ls h.1)

params_count : (n : ℕ) (ls : List Declared) → HasParams n ls → length (take n ls) ≡ n
params_count zero ls h = refl
params_count (suc n) [] h = absurd h
params_count (suc n) (l ∷ ls) h = ap suc (params_count n ls h.1)

param_part : (l : Declared) → l.length ≡ None → (at : ℕ) (rest : List Piece) → IsPart Param (λ q. local_of_param q ≡ l) at (declared_pieces l.ty l.name l.length rest) rest
unfolding declared_pieces length_pieces
param_part l scalar at rest =
    subst (λ n. IsPart Param (λ q. local_of_param q ≡ l) at (declared_pieces l.ty l.name n rest) rest) (sym scalar)
    (record { to = _; raw = _; spells = g.param (type_name l.ty _ _) refl; shows = ap (λ n. local_of l.ty l.name n) (sym scalar) })

-- one parameter or more
some_params : (l : Declared) (ls : List Declared) → AreScalars (l ∷ ls) → (at : ℕ) (rest : List Piece)
    → IsPart (Separated Param) (λ qs. map local_of_param qs ≡ l ∷ ls) at (declared_pieces l.ty l.name l.length (more_param_pieces ls rest)) rest
unfolding more_param_pieces
some_params l [] h at rest =
    let x = param_part l h.0 at rest in
    record { to = x.to; raw = x.raw ∷ []; spells = last x.spells; shows = ap (λ m. m ∷ []) x.shows }
some_params l (m ∷ ls) h at rest =
    let x = param_part l h.0 at (more_param_pieces (m ∷ ls) rest) in
    let y = some_params m ls h.1 _ rest in
    record { to = y.to; raw = x.raw ∷ y.raw; spells = comma x.spells refl y.spells; shows = λ i. x.shows i ∷ y.shows i }

params_part : (ls : List Declared) → AreScalars ls → (at : ℕ) (rest : List Piece) → IsPart Params (λ qs. map local_of_param qs ≡ ls) at (params_pieces ls rest) rest
unfolding params_pieces
params_part [] h at rest = record { to = _; raw = []; spells = g.void refl; shows = refl }
params_part (l ∷ ls) h at rest =
    let x = some_params l ls h at rest in
    record { to = x.to; raw = x.raw; spells = g.params x.spells; shows = x.shows }

-- ---- functions

-- a function at file scope
abbrev IsFunc : List Lexeme → RawFunc → List Lexeme → Type 0
IsFunc ts h rest = Top ts (top.Func h ∷ []) rest

func_part : (p : Program) (f : Func) (d : IsShowableFunc p f) (at : ℕ) (rest : List Piece) → IsPart IsFunc (λ h. ShowsFunc p h f) at (func_pieces p f d rest) rest
unfolding func_pieces
func_part p f d at rest =
    let ls : List Declared = take f.params f.locals in
    let closed : List Piece = mark (codes "}") ∷ Gap 10 ∷ rest in
    let body : List Piece = stmts_pieces p f 1 f.body d.body closed in
    let x = result_part f.result at (Gap 32 ∷ name_piece f.name ∷ mark (codes "(") ∷ params_pieces ls (opening_pieces body)) in
    let y = params_part ls (params_scalars f.params f.locals d.params) _ (opening_pieces body) in
    let z = stmts_spelled p f f.body d.body 1 _ closed in
    record {
      to = _;
      raw = record { kept = false; result = x.raw; spot = _; params = y.raw; body = z.raw };
      spells = g.function absent x.spells refl refl y.spells refl refl z.spells refl;
      shows = record {
        kept = refl;
        result = x.shows;
        named = refl;
        params = y.shows;
        count = sym (length-map y.raw local_of_param) ∙ ap length y.shows ∙ params_count f.params f.locals d.params;
        body = z.shows;
      };
    }

-- functions alone
abbrev pub AreFuncs : List Lexeme → List RawFunc → List Lexeme → Type 0
AreFuncs ts hs rest = Tops ts (map top.Func hs) rest

pub funcs_spelled : (p : Program) (fs : List Func) (d : AreShowableFuncs p fs) (at : ℕ) (rest : List Piece) → IsPart AreFuncs (λ hs. ShowsFuncs p hs fs) at (funcs_pieces p fs d rest) rest
funcs_spelled p [] d at rest = record { to = at; raw = []; spells = g.none; shows = tt }
funcs_spelled p (f ∷ fs) d at rest =
    let x = func_part p f d.0 at (funcs_pieces p fs d.1 rest) in
    let y = funcs_spelled p fs d.1 x.to rest in
    record { to = y.to; raw = x.raw ∷ y.raw; spells = g.more x.spells y.spells; shows = (x.shows, y.shows) }
