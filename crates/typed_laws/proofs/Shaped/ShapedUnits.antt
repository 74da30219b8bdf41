-- What the grammar of file scope sees to: a unit that the tokens of a text spell is shaped.
use Rattle.std.proofs.Common.{ℕ, Bool, List, [], ◌∷◌, ◌++◌, Option}
use Rattle.c_tree.specs.declared.token.Token.{Token}
use Rattle.c_tree.specs.declared.tree.Ty.{Ty}
use Rattle.c_tree.specs.declared.unit.RawParam.{RawParam}
use Rattle.c_tree.specs.declared.unit.RawTop.{RawTop}
use Rattle.c_tree.specs.declared.unit.RawTop.TheVariants as top
use Rattle.c_tree.specs.declared.unit.Unit.{Unit as Tree}
use Rattle.c_tree.specs.Tokens.Lexing.{Lexes}
use Rattle.c_tree.specs.Grammar.SpelledExpressions.{Separated}
use Rattle.c_tree.specs.Grammar.SpelledStatements.{Declarator}
use Rattle.c_tree.specs.Grammar.Spelling.{OuterDeclarator, outer_scalar, outer_array, Result, typed, nothing, Param, param, Params, no_params, void, params, Top, outer, global, function, Tops, none, more, Spells}
use Rattle.c_tree.specs.Tokens.Symbols.{Lexeme}
use Rattle.typed_laws.specs.Shaped.{ShapedTop, ShapedTops, ShapedUnit}
use Rattle.typed_laws.proofs.Shaped.FairLexemes.{AllFair, lexemes_fair}
use Rattle.typed_laws.proofs.Shaped.ShapedExpressions.{type_fair, expr_shaped, separated_shaped}
use Rattle.typed_laws.proofs.Shaped.ShapedStatements.{optional_fair, declarator_shaped, statements_shaped}

outer_shaped : (constant : Bool) (to : Ty) (ts : List Lexeme) (a : RawTop) (rest : List Lexeme) → OuterDeclarator constant to ts a rest → AllFair ts → ShapedTop a × AllFair rest
outer_shaped constant to ts a rest (outer_scalar i) h = (tt, h.1)
outer_shaped constant to ts a rest (outer_array i j d k) h = let x = expr_shaped d h.1.1 in (x.0, x.1.1)

outers_shaped : (constant : Bool) (to : Ty) {xs : List RawTop} {ts rest : List Lexeme} → Separated (OuterDeclarator constant to) ts xs rest → AllFair ts → ShapedTops xs × AllFair rest
outers_shaped constant to d h = separated_shaped (OuterDeclarator constant to) ShapedTop ShapedTops tt (λ a more x xs. (x, xs)) (outer_shaped constant to) d h

globals_shaped : (kept constant : Bool) (to : Ty) {xs : List RawTop} {ts rest : List Lexeme} → Separated (Declarator (top.Global kept constant to)) ts xs rest → AllFair ts → ShapedTops xs × AllFair rest
globals_shaped kept constant to d h = separated_shaped (Declarator (top.Global kept constant to)) ShapedTop ShapedTops tt (λ a more x xs. (x, xs))
    (declarator_shaped (top.Global kept constant to) ShapedTop (λ x form k. k)) d h

-- ---- functions

result_fair : {r : Option Ty} {ts rest : List Lexeme} → Result ts r rest → AllFair ts → AllFair rest
result_fair (typed y) h = type_fair y h
result_fair (nothing i) h = h.1

param_fair : (ts : List Lexeme) (p : RawParam) (rest : List Lexeme) → Param ts p rest → AllFair ts → Unit {0} × AllFair rest
param_fair ts p rest (param y i) h = (tt, (type_fair y h).1)

params_fair : {list : List RawParam} {ts rest : List Lexeme} → Params ts list rest → AllFair ts → AllFair rest
params_fair no_params h = h
params_fair (void i) h = h.1
params_fair (params d) h = (separated_shaped Param (λ p. Unit {0}) (λ list. Unit {0}) tt (λ a more x xs. tt) param_fair d h).1

-- ---- file scope

top_shaped : {xs : List RawTop} {ts rest : List Lexeme} → Top ts xs rest → AllFair ts → ShapedTops xs × AllFair rest
top_shaped (outer {constant = constant} {to = to} i c y d k) h =
    let x = outers_shaped constant to d (type_fair y (optional_fair c h.1)) in (x.0, x.1.1)
top_shaped (global {kept = kept} {constant = constant} {to = to} s c y d k) h =
    let x = globals_shaped kept constant to d (type_fair y (optional_fair c (optional_fair s h))) in (x.0, x.1.1)
top_shaped (function s r i j p k l d m) h =
    let x = statements_shaped d (params_fair p (result_fair r (optional_fair s h)).1.1).1.1 in ((x.0, tt), x.1.1)

tops_append : (xs ys : List RawTop) → ShapedTops xs → ShapedTops ys → ShapedTops (xs ++ ys)
tops_append [] ys h k = k
tops_append (x ∷ xs) ys h k = (h.0, tops_append xs ys h.1 k)

tops_shaped : {xs : List RawTop} {ts rest : List Lexeme} → Tops ts xs rest → AllFair ts → ShapedTops xs × AllFair rest
tops_shaped none h = (tt, h)
tops_shaped (more {xs = xs} {ys = ys} d ds) h =
    let x = top_shaped d h in
    let y = tops_shaped ds x.1 in
    (tops_append xs ys x.0 y.0, y.1)

pub unit_shaped : (text : List ℕ) (tokens : List Token) (unit : Tree) → Lexes text tokens → Spells text tokens unit → ShapedUnit unit
unit_shaped text tokens unit lexes spells = (tops_shaped spells.tops (lexemes_fair text tokens lexes)).0
