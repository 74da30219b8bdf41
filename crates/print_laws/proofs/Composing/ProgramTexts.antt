-- The pieces of a program are its printed text.
use Rattle.std.proofs.Common.{◌≡◌, ℕ, suc, ◌-◌, ◌^◌, Bool, true, false, List, [], ◌∷◌, ◌++◌, refl, ◌∙◌, append-nil}
use Rattle.std.specs.Prelude.{codes, take, flat_map, if◌then◌else◌, ◌==◌, Option, Some, None, ℤ, pos, negsuc}
use Rattle.std.specs.Fmt as fmt
use Rattle.c_tree.specs.declared.tree.Ty.{Ty}
use Rattle.c_tree.specs.declared.tree.Ty.TheVariants as ty
use Rattle.c_tree.specs.declared.program.Local.{Local as Declared}
use Rattle.c_tree.specs.declared.program.Global.{Global as Outside}
use Rattle.c_tree.specs.declared.program.Func.{Func}
use Rattle.c_tree.specs.declared.program.Program.{Program}
use Rattle.print_laws.specs.PrintedExpressions.{type_text, number_text, value_text, comma_list}
use Rattle.print_laws.specs.PrintedStatements.{list_text}
use Rattle.print_laws.specs.Printed.{outer_text, initial_text, global_text, result_text, param_text, params_text, head_text, func_text, printed_program}
use Rattle.print_laws.proofs.Composing.Composed.{Gap, text_of}
use Rattle.print_laws.proofs.Composing.ComposedExpressions.{mark, word}
use Rattle.print_laws.proofs.Named.Showable.{IsShowableFunc, AreShowableFuncs, IsShowableProgram}
use Rattle.print_laws.proofs.Composing.ComposedStatements.{name_piece, number_piece, opening_pieces, result_pieces, more_param_pieces, params_pieces, func_pieces, funcs_pieces, kept_pieces, more_kept_pieces, initial_pieces, outer_pieces, global_pieces, globals_pieces, program_pieces}
use Rattle.print_laws.proofs.Composing.PieceTexts.{Puts, puts_nothing, puts_piece, both, puts_as, between_text}
use Rattle.print_laws.proofs.Composing.SimpleTexts.{declares_text}
use Rattle.print_laws.proofs.Composing.StatementTexts.{stmts_are}

-- ---- functions

result_is : (r : Option Ty) → Puts (result_pieces r) (result_text r)
unfolding result_pieces result_text
result_is None = puts_piece (word (codes "void"))
result_is (Some t) = puts_piece (word (type_text t))

comma_is : Puts (λ rest. mark (codes ",") ∷ Gap 32 ∷ rest) (codes ", ")
comma_is = both (puts_piece (mark (codes ","))) (puts_piece (Gap 32))

more_params_are : (ls : List Declared) → Puts (more_param_pieces ls) (flat_map (λ l. codes ", " ++ param_text l) ls)
unfolding more_param_pieces param_text
more_params_are [] = puts_nothing
more_params_are (l ∷ ls) = both (both comma_is (declares_text l.ty l.name l.length)) (more_params_are ls)

params_are : (ls : List Declared) → Puts (params_pieces ls) (params_text ls)
unfolding params_pieces params_text param_text comma_list
params_are [] = puts_piece (word (codes "void"))
params_are (l ∷ ls) = both (declares_text l.ty l.name l.length) (more_params_are ls)

func_is : (p : Program) (f : Func) (d : IsShowableFunc p f) → Puts (func_pieces p f d) (func_text p f)
unfolding func_pieces head_text func_text
func_is p f d = both (both (both (both (both (both (both (result_is f.result) (puts_piece (Gap 32))) (puts_piece (name_piece f.name))) (puts_piece (mark (codes "(")))) (params_are (take f.params f.locals))) opens) (stmts_are p f 1 f.body d.body)) closes
  where
    opens : Puts opening_pieces (codes ") {\n")
    opens = both (puts_piece (mark (codes ")"))) (both (puts_piece (Gap 32)) (both (puts_piece (mark (codes "{"))) (puts_piece (Gap 10))))

    closes : Puts (λ rest. mark (codes "}") ∷ Gap 10 ∷ rest) (codes "}\n")
    closes = both (puts_piece (mark (codes "}"))) (puts_piece (Gap 10))

funcs_are : (p : Program) (fs : List Func) (d : AreShowableFuncs p fs) → Puts (funcs_pieces p fs d) (flat_map (func_text p) fs)
funcs_are p [] d = puts_nothing
funcs_are p (f ∷ fs) d = both (func_is p f d.0) (funcs_are p fs d.1)

-- ---- globals

least_is : number_text ty.Unsigned 2147483648 ≡ codes "2147483648u"
unfolding fmt.digits number_text
least_is = refl

kept_is : (t : Ty) (z : ℤ) → Puts (kept_pieces t z) (value_text t z)
unfolding kept_pieces value_text
kept_is t (pos n) = puts_piece (number_piece t n)
kept_is t (negsuc n) = by_test (n == 2 ^ 31 - 1)
  where
    by_test : (b : Bool)
        → Puts (λ rest. if b then mark (codes "(") ∷ word (codes "int") ∷ mark (codes ")") ∷ number_piece ty.Unsigned 2147483648 ∷ rest else mark (codes "-") ∷ number_piece t (suc n) ∷ rest)
        (if b then codes "(int)2147483648u" else codes "-" ++ number_text t (suc n))
    by_test true = both (puts_piece (mark (codes "("))) (both (puts_piece (word (codes "int"))) (both (puts_piece (mark (codes ")"))) (puts_as least_is (puts_piece (number_piece ty.Unsigned 2147483648)))))
    by_test false = both (puts_piece (mark (codes "-"))) (puts_piece (number_piece t (suc n)))

more_kept_are : (t : Ty) (zs : List ℤ) → Puts (more_kept_pieces t zs) (flat_map (λ z. codes ", " ++ value_text t z) zs)
unfolding more_kept_pieces
more_kept_are t [] = puts_nothing
more_kept_are t (z ∷ zs) = both (both comma_is (kept_is t z)) (more_kept_are t zs)

initial_is : (t : Ty) (n : Option ℕ) (zs : List ℤ) → Puts (initial_pieces t n zs) (initial_text t n zs)
unfolding initial_pieces initial_text list_text comma_list
initial_is t n [] = puts_nothing
initial_is t None (z ∷ zs) = both (between_text (codes "=")) (kept_is t z)
initial_is t (Some n) (z ∷ zs) = both (between_text (codes "=")) (both (both (puts_piece (mark (codes "{"))) (both (kept_is t z) (more_kept_are t zs))) (puts_piece (mark (codes "}"))))

outer_is : (b : Bool) → Puts (outer_pieces b) (outer_text b)
unfolding outer_pieces outer_text
outer_is true = both (puts_piece (word (codes "extern"))) (puts_piece (Gap 32))
outer_is false = puts_nothing

global_is : (g : Outside) → Puts (global_pieces g) (global_text g)
unfolding global_pieces global_text
global_is g = both (both (both (outer_is g.outer) (declares_text g.ty g.name g.length)) (initial_is g.ty g.length g.values)) (both (puts_piece (mark (codes ";"))) (puts_piece (Gap 10)))

globals_are : (gs : List Outside) → Puts (globals_pieces gs) (flat_map global_text gs)
unfolding globals_pieces
globals_are [] = puts_nothing
globals_are (g ∷ gs) = both (global_is g) (globals_are gs)

-- ---- programs

pub program_text : (p : Program) (d : IsShowableProgram p) → text_of (program_pieces p d) ≡ printed_program p
unfolding program_pieces printed_program
program_text p d =
    let whole = both (globals_are p.globals) (funcs_are p p.funcs d.funcs) in
    whole.before [] ∙ append-nil (flat_map global_text p.globals ++ flat_map (func_text p) p.funcs)
