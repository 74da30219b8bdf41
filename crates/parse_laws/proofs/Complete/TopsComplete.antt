-- A text that is spelled is read.
use Rattle.std.proofs.Common.{◌≡◌, ℕ, ◌-◌, ◌<◌, ◌≤◌, true, false, List, [], ◌∷◌, length, Option, Ok, refl, arith}
use Rattle.c_tree.specs.declared.tree.Ty.{Ty}
use Rattle.c_tree.specs.declared.unit.RawParam.{RawParam}
use Rattle.c_tree.specs.declared.unit.RawTop.{RawTop}
use Rattle.c_tree.specs.declared.unit.RawTop.TheVariants as top
use Rattle.c_tree.specs.Grammar.Heights.{tops_height}
use Rattle.c_tree.specs.Grammar.Spelling.{Result, typed, nothing, Params, no_params, void, params, Top, outer, global, function, Tops, none, more}
use Rattle.c_tree.specs.Tokens.Symbols.{Lexeme}
use Rattle.parse_laws.specs.ReadStmt.{until}
use Rattle.parse_laws.specs.ReadUnit.{top_of, is_end, unit_end, whole_unit}
use Rattle.parse_laws.proofs.Complete.CallComplete.{optional_shorter, declarator_shorter}
use Rattle.parse_laws.proofs.Reading.Lists.{separated_shorter}
use Rattle.parse_laws.proofs.Tokens.Starts.{statements_shorter}
use Rattle.parse_laws.proofs.Complete.StmtSteps.{until-stop, until-next}
use Rattle.parse_laws.proofs.Tokens.Types.{type_shorter}
use Rattle.parse_laws.proofs.Complete.UnitComplete.{param_shorter, outer_shorter, complete_top}
use Rattle.parse_laws.proofs.Sound.UnitSound.{tops_height-append}

-- ---- what is declared takes tokens

result_shorter : {ts rest : List Lexeme} {result : Option Ty} → Result ts result rest → length rest < length ts
result_shorter (typed y) = type_shorter y
result_shorter (nothing h) = omega arith

params_shorter : {ts rest : List Lexeme} {list : List RawParam} → Params ts list rest → length rest ≤ length ts
params_shorter no_params = omega arith
params_shorter (void h) = omega arith
params_shorter (params m) = omega (arith, separated_shorter param_shorter m)

top_shorter : {ts rest : List Lexeme} {xs : List RawTop} → Top ts xs rest → length rest < length ts
top_shorter (outer {constant = constant} {to = to} h o y m k) = omega (arith, optional_shorter o, type_shorter y, separated_shorter outer_shorter m)
top_shorter (global {kept = kept} {constant = constant} {to = to} o q y m k) =
    omega (arith, optional_shorter o, optional_shorter q, type_shorter y, separated_shorter (declarator_shorter (top.Global kept constant to)) m)
top_shorter (function o r h i ps k l m z) = omega (arith, optional_shorter o, result_shorter r, params_shorter ps, statements_shorter m)

-- ---- all tokens

is_end-more : (n : ℕ) (ts : List Lexeme) → n < length ts → is_end ts ≡ false
unfolding is_end
is_end-more n [] h = absurd (omega arith)
is_end-more n (t ∷ ts) h = refl

is_end-none : is_end [] ≡ true
unfolding is_end
is_end-none = refl

complete_tops : {ts rest : List Lexeme} {xs : List RawTop} → Tops ts xs rest → (room n : ℕ) → tops_height xs ≤ room → length ts ≤ n → is_end rest ≡ true → until is_end (top_of room) n ts ≡ Ok (xs, rest)
complete_tops (none {rest = rest}) room n low w e = until-stop is_end (top_of room) n rest e
complete_tops (more {ts = ts} {u = u} {rest = rest} {xs = xs} {ys = ys} x y) room n low w e =
    until-next is_end (top_of room) n ts u rest xs ys (omega (arith, top_shorter x)) (is_end-more (length u) ts (top_shorter x))
    (complete_top room x (omega (arith, tops_height-append xs ys)))
    (complete_tops y room (n - 1) (omega (arith, tops_height-append xs ys)) (omega (arith, top_shorter x)) e)

unit_end-yes : (xs : List RawTop) → unit_end xs [] ≡ Ok (xs, [])
unfolding unit_end
unit_end-yes xs = rw is_end-none refl

pub complete_whole : {ts : List Lexeme} {xs : List RawTop} → Tops ts xs [] → (room : ℕ) → tops_height xs ≤ room → whole_unit room ts ≡ Ok (xs, [])
unfolding whole_unit
complete_whole {ts} {xs} d room low = rw (complete_tops d room (length ts) low (omega arith) is_end-none) (unit_end-yes xs)
