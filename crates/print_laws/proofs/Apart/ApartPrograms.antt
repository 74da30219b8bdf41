-- The pieces of a program stand apart.
use Rattle.std.proofs.Common.{◌≡◌, ℕ, zero, suc, ◌-◌, ◌^◌, ◌<◌, ◌==◌, Bool, true, false, List, [], ◌∷◌, ◌++◌, refl, sym, subst, arith}
use Rattle.std.specs.Prelude.{codes, take, if◌then◌else◌, Option, Some, None, ℤ, pos, negsuc}
use Rattle.std.proofs.lemmas.Bool.{ltb-true}
use Rattle.std.proofs.lemmas.Bool.Decides.{nat_tests}
use Rattle.c_tree.specs.declared.tree.Ty.{Ty}
use Rattle.c_tree.specs.declared.tree.Ty.TheVariants as ty
use Rattle.c_tree.specs.declared.tree.UnOp.TheVariants as un
use Rattle.c_tree.specs.declared.program.Local.{Local as Declared}
use Rattle.c_tree.specs.declared.program.Global.{Global as Outside}
use Rattle.c_tree.specs.declared.program.Func.{Func}
use Rattle.c_tree.specs.declared.program.Program.{Program}
use Rattle.c_tree.specs.Meaning.Values.{is_of}
use Rattle.c_tree.specs.Keeping.WellFormed.{IsLength, HasParams, AreNumbersOf}
use Rattle.print_laws.specs.PrintedExpressions.{un_text, number_text}
use Rattle.print_laws.proofs.Composing.Composed.{Piece, text_of, AreApart}
use Rattle.print_laws.proofs.Composing.ComposedExpressions.{IsIdentifier, limit, mark, word}
use Rattle.print_laws.proofs.Apart.ApartExpressions.{some_text, number_opens, unary_mark}
use Rattle.print_laws.proofs.Named.Showable.{AreNamed, IsShowableFunc, AreShowableFuncs, IsShowableGlobal, AreShowableGlobals, IsShowableProgram}
use Rattle.print_laws.proofs.Composing.ComposedStatements.{number_piece, result_pieces, more_param_pieces, params_pieces, func_pieces, funcs_pieces, kept_pieces, more_kept_pieces, initial_pieces, outer_pieces, global_pieces, globals_pieces, program_pieces}
use Rattle.print_laws.proofs.Apart.StandingWords.{type_word, int_word, void_word, extern_word, left_paren, right_paren, left_brace, right_brace, comma, semicolon}
use Rattle.print_laws.proofs.Apart.ApartPieces.{AtLine, BehindMark, BehindWord, behind_mark, at_line, with_blank, with_feed, with_mark, with_equals, with_keyword, with_name, with_number}
use Rattle.print_laws.proofs.Apart.ApartSimple.{IsShort, declared_apart}
use Rattle.print_laws.proofs.Apart.ApartStatements.{opening_apart, stmts_apart}

-- ---- functions

result_apart : (r : Option Ty) {rest : List Piece} → BehindWord rest → BehindMark (result_pieces r rest)
unfolding result_pieces
result_apart None h = with_keyword void_word h
result_apart (Some t) h = with_keyword (type_word t) h

-- scalars with names
abbrev ArePlain : List Declared → Type 0
ArePlain [] = Unit {0}
ArePlain (l ∷ ls) = (IsIdentifier l.name × (l.length ≡ None)) × ArePlain ls

params_plain : (n : ℕ) (ls : List Declared) → HasParams n ls → AreNamed ls → ArePlain (take n ls)
params_plain zero [] has named = tt
params_plain zero (l ∷ ls) has named = tt
params_plain (suc n) [] has named = absurd has
params_plain (suc n) (l ∷ ls) has named = ((named.0, has.0), params_plain n ls has.1 named.1)

more_params_apart : (ls : List Declared) {rest : List Piece} → ArePlain ls → BehindWord rest → BehindWord (more_param_pieces ls rest)
unfolding more_param_pieces
more_params_apart [] plain h = h
more_params_apart (l ∷ ls) plain h =
    let one = declared_apart l.ty l.name l.length plain.0.0 (subst IsShort (sym plain.0.1) tt) (more_params_apart ls plain.1 h) in
    with_mark comma (behind_mark (with_blank one))

params_apart : (ls : List Declared) {rest : List Piece} → ArePlain ls → BehindWord rest → BehindMark (params_pieces ls rest)
unfolding params_pieces
params_apart [] plain h = with_keyword void_word h
params_apart (l ∷ ls) plain h = declared_apart l.ty l.name l.length plain.0.0 (subst IsShort (sym plain.0.1) tt) (more_params_apart ls plain.1 h)

func_apart : (p : Program) (f : Func) (d : IsShowableFunc p f) (rest : List Piece) → AtLine rest → AtLine (func_pieces p f d rest)
unfolding func_pieces
func_apart p f d rest h =
    let stmts = stmts_apart p f 1 f.body d.body in
    let body = opening_apart (stmts.lines _ (at_line (behind_mark (with_mark right_brace (behind_mark (with_feed h)))))) in
    let named = with_name d.named (with_mark left_paren (params_apart (take f.params f.locals) (params_plain f.params f.locals d.params d.locals) body)) in
    at_line (result_apart f.result (with_blank named))

funcs_apart : (p : Program) (fs : List Func) (d : AreShowableFuncs p fs) (rest : List Piece) → AtLine rest → AtLine (funcs_pieces p fs d rest)
funcs_apart p [] d rest h = h
funcs_apart p (f ∷ fs) d rest h = func_apart p f d.0 _ (funcs_apart p fs d.1 rest h)

-- ---- globals

minus_apart : (t : Ty) (n : ℕ) {rest : List Piece} → n < limit t → BehindWord rest → BehindMark (mark (codes "-") ∷ number_piece t n ∷ rest)
unfolding un_text
minus_apart t n {rest} small h =
    let number = with_number t n small h in
    record { text = some_text 45 _; apart = (unary_mark un.Minus (number_text t n ++ text_of rest) (number_opens t n (text_of rest) small), number.apart) }

least_apart : {rest : List Piece} → BehindWord rest → BehindMark (mark (codes "(") ∷ word (codes "int") ∷ mark (codes ")") ∷ number_piece ty.Unsigned 2147483648 ∷ rest)
least_apart h = behind_mark (with_mark left_paren (with_keyword int_word (with_mark right_paren (with_number ty.Unsigned 2147483648 (omega arith) h))))

small_below : (n : ℕ) → n < 2 ^ 31 → (n == 2 ^ 31 - 1) ≡ false → suc n < 2 ^ 31
small_below n small other = grind (arith, nat_tests)

kept_apart : (t : Ty) (z : ℤ) {rest : List Piece} → is_of t z ≡ true → BehindWord rest → BehindMark (kept_pieces t z rest)
unfolding kept_pieces
kept_apart ty.Int (pos n) is h = with_number ty.Int n (ltb-true n (2 ^ 31) is) h
kept_apart ty.Unsigned (pos n) is h = with_number ty.Unsigned n (ltb-true n (2 ^ 32) is) h
kept_apart ty.Unsigned (negsuc n) is h = absurd (cc)
kept_apart ty.Int (negsuc n) {rest} is h = by_test (n == 2 ^ 31 - 1) refl
  where
    by_test : (b : Bool) → (n == 2 ^ 31 - 1) ≡ b
        → BehindMark (if b then mark (codes "(") ∷ word (codes "int") ∷ mark (codes ")") ∷ number_piece ty.Unsigned 2147483648 ∷ rest else mark (codes "-") ∷ number_piece ty.Int (suc n) ∷ rest)
    by_test true e = least_apart h
    by_test false e = minus_apart ty.Int (suc n) (small_below n (ltb-true n (2 ^ 31) is) e) h

more_kept_apart : (t : Ty) (zs : List ℤ) {rest : List Piece} → AreNumbersOf t zs → BehindWord rest → BehindWord (more_kept_pieces t zs rest)
unfolding more_kept_pieces
more_kept_apart t [] all h = h
more_kept_apart t (z ∷ zs) all h = let one = kept_apart t z all.0 (more_kept_apart t zs all.1 h) in with_mark comma (behind_mark (with_blank one))

initial_apart : (t : Ty) (n : Option ℕ) (zs : List ℤ) {rest : List Piece} → AreNumbersOf t zs → BehindWord rest → BehindWord (initial_pieces t n zs rest)
unfolding initial_pieces
initial_apart t n [] all h = h
initial_apart t None (z ∷ zs) all h = with_equals (kept_apart t z all.0 h)
initial_apart t (Some n) (z ∷ zs) all h = with_equals (behind_mark (with_mark left_brace (kept_apart t z all.0 (more_kept_apart t zs all.1 (with_mark right_brace (behind_mark h))))))

outer_apart : (b : Bool) {rest : List Piece} → BehindMark rest → BehindMark (outer_pieces b rest)
unfolding outer_pieces
outer_apart true h = with_keyword extern_word (with_blank h)
outer_apart false h = h

is_short : (n : Option ℕ) → IsLength n → IsShort n
is_short None h = tt
is_short (Some n) h = h.1

global_apart : (g : Outside) (rest : List Piece) → IsShowableGlobal g → AtLine rest → AtLine (global_pieces g rest)
unfolding global_pieces
global_apart g rest d h =
    let initial = initial_apart g.ty g.length g.values d.formed.numbers (with_mark semicolon (behind_mark (with_feed h))) in
    at_line (outer_apart g.outer (declared_apart g.ty g.name g.length d.named (is_short g.length d.formed.array) initial))

globals_apart : (gs : List Outside) (rest : List Piece) → AreShowableGlobals gs → AtLine rest → AtLine (globals_pieces gs rest)
unfolding globals_pieces
globals_apart [] rest d h = h
globals_apart (g ∷ gs) rest d h = global_apart g _ d.0 (globals_apart gs rest d.1 h)

-- ---- programs

pub program_apart : (p : Program) (d : IsShowableProgram p) → AreApart true (program_pieces p d)
unfolding program_pieces
program_apart p d =
    let whole = globals_apart p.globals _ d.globals (funcs_apart p p.funcs d.funcs [] (record { apart = tt })) in
    whole.apart
