-- The names that a unit of a text declares are identifiers: those of its globals and functions, and of their parameters and locals.
use Rattle.std.proofs.Common.{Bool, List, [], ◌∷◌, ◌++◌, Option}
use Rattle.c_tree.specs.declared.tree.Ty.{Ty}
use Rattle.c_tree.specs.declared.unit.RawFunc.{RawFunc}
use Rattle.c_tree.specs.declared.unit.RawParam.{RawParam}
use Rattle.c_tree.specs.declared.unit.RawTop.{RawTop}
use Rattle.c_tree.specs.declared.unit.RawTop.TheVariants as top
use Rattle.c_tree.specs.declared.unit.Unit.{Unit as Tree}
use Rattle.c_tree.specs.Checking.Checked.{IsSpelled}
use Rattle.c_tree.specs.Checking.Naming.{list_locals}
use Rattle.c_tree.specs.Grammar.SpelledExpressions.{Separated}
use Rattle.c_tree.specs.Grammar.SpelledStatements.{Declarator}
use Rattle.c_tree.specs.Grammar.Spelling.{OuterDeclarator, outer_scalar, outer_array, Result, typed, nothing, Param, param, Params, no_params, void, params, Top, outer, global, function, Tops, none, more}
use Rattle.c_tree.specs.Tokens.Symbols.{Lexeme}
use Rattle.typed_laws.proofs.DeclaredLocals.{params_locals}
use Rattle.print_laws.proofs.Composing.ComposedExpressions.{IsIdentifier}
use Rattle.print_laws.proofs.Named.Showable.{AreNamed}
use Rattle.print_laws.proofs.Named.NamedTexts.{AllNamed, name_at, lexemes_named}
use Rattle.print_laws.proofs.Named.NamedExpressions.{type_rest, expression_rest, separated_named, optional_rest}
use Rattle.print_laws.proofs.Named.NamedStatements.{declarator_named, statements_named}

-- the name of a function, of its parameters and of the locals that its statements declare
pub record IsNamedFunc (g : RawFunc) : Type 0 where
  pub name : IsIdentifier g.spot.name
  pub params : AreNamed (params_locals g.params)
  pub locals : AreNamed (list_locals g.body)

abbrev pub IsNamedTop : RawTop → Type 0
IsNamedTop (top.Outer constant t x e) = IsIdentifier x.name
IsNamedTop (top.Global kept constant t x sh) = IsIdentifier x.name
IsNamedTop (top.Func g) = IsNamedFunc g

abbrev pub AreNamedTops : List RawTop → Type 0
AreNamedTops [] = Unit {0}
AreNamedTops (t ∷ ts) = IsNamedTop t × AreNamedTops ts

-- ---- globals

outer_named : (constant : Bool) (to : Ty) (ts : List Lexeme) (a : RawTop) (rest : List Lexeme) → OuterDeclarator constant to ts a rest → AllNamed ts → IsNamedTop a × AllNamed rest
outer_named constant to ts a rest (outer_scalar {x = x} i) h = (name_at x i h.0, h.1)
outer_named constant to ts a rest (outer_array {x = x} i j d k) h = (name_at x i h.0, (expression_rest d h.1.1).1)

outers_named : (constant : Bool) (to : Ty) {xs : List RawTop} {ts rest : List Lexeme} → Separated (OuterDeclarator constant to) ts xs rest → AllNamed ts → AreNamedTops xs × AllNamed rest
outers_named constant to d h =
    separated_named (OuterDeclarator constant to) IsNamedTop AreNamedTops tt (λ a more x xs. (x, xs)) (outer_named constant to) d h

globals_named : (kept constant : Bool) (to : Ty) {xs : List RawTop} {ts rest : List Lexeme} → Separated (Declarator (top.Global kept constant to)) ts xs rest → AllNamed ts → AreNamedTops xs × AllNamed rest
globals_named kept constant to d h =
    separated_named (Declarator (top.Global kept constant to)) IsNamedTop AreNamedTops tt (λ a more x xs. (x, xs))
    (declarator_named (top.Global kept constant to) IsNamedTop (λ x form k. k)) d h

-- ---- functions

result_rest : {r : Option Ty} {ts rest : List Lexeme} → Result ts r rest → AllNamed ts → AllNamed rest
result_rest (typed y) h = type_rest y h
result_rest (nothing i) h = h.1

param_named : (ts : List Lexeme) (p : RawParam) (rest : List Lexeme) → Param ts p rest → AllNamed ts → IsIdentifier p.spot.name × AllNamed rest
param_named ts p rest (param {x = x} y i) h = let k = type_rest y h in (name_at x i k.0, k.1)

params_named : {list : List RawParam} {ts rest : List Lexeme} → Params ts list rest → AllNamed ts → AreNamed (params_locals list) × AllNamed rest
params_named no_params h = (tt, h)
params_named (void i) h = (tt, h.1)
params_named (params d) h =
    separated_named Param (λ p. IsIdentifier p.spot.name) (λ list. AreNamed (params_locals list)) tt (λ a more x xs. (x, xs)) param_named d h

-- ---- file scope

top_named : {xs : List RawTop} {ts rest : List Lexeme} → Top ts xs rest → AllNamed ts → AreNamedTops xs × AllNamed rest
top_named (outer {constant = constant} {to = to} i c y d k) h =
    let x = outers_named constant to d (type_rest y (optional_rest c h.1)) in (x.0, x.1.1)
top_named (global {kept = kept} {constant = constant} {to = to} s c y d k) h =
    let x = globals_named kept constant to d (type_rest y (optional_rest c (optional_rest s h))) in (x.0, x.1.1)
top_named (function {x = x} s r i j p k l d m) h =
    let head = result_rest r (optional_rest s h) in
    let list = params_named p head.1.1 in
    let inside = statements_named d list.1.1.1 in
    ((record { name = name_at x i head.0; params = list.0; locals = inside.0 }, tt), inside.1.1)

tops_append : (xs ys : List RawTop) → AreNamedTops xs → AreNamedTops ys → AreNamedTops (xs ++ ys)
tops_append [] ys h k = k
tops_append (x ∷ xs) ys h k = (h.0, tops_append xs ys h.1 k)

tops_named : {xs : List RawTop} {ts rest : List Lexeme} → Tops ts xs rest → AllNamed ts → AreNamedTops xs × AllNamed rest
tops_named none h = (tt, h)
tops_named (more {xs = xs} {ys = ys} d ds) h =
    let x = top_named d h in
    let y = tops_named ds x.1 in
    (tops_append xs ys x.0 y.0, y.1)

pub unit_named : (u : Tree) → IsSpelled u → AreNamedTops u.tops
unit_named u h = (tops_named h.read.spelled.tops (lexemes_named h.text h.read.tokens h.read.lexed)).0
