-- The pieces of a program spell a tree that shows it.
use Rattle.std.proofs.Common.{ℕ, List, [], ◌++◌, map, refl, sym, subst, append_assoc}
use Rattle.c_tree.specs.declared.program.Program.{Program}
use Rattle.c_tree.specs.declared.unit.RawTop.{RawTop}
use Rattle.c_tree.specs.declared.unit.RawTop.TheVariants as top
use Rattle.c_tree.specs.Tokens.Symbols.{Lexeme}
use Rattle.c_tree.specs.Grammar.Spelling.{Tops, none, more}
use Rattle.print_laws.specs.Shown.{ShowsProgram}
use Rattle.print_laws.proofs.Spelled.SpelledAgain.{lexemes_of}
use Rattle.print_laws.proofs.Named.Showable.{IsShowableProgram}
use Rattle.print_laws.proofs.Composing.ComposedStatements.{funcs_pieces, program_pieces}
use Rattle.print_laws.proofs.Spelled.SpelledFunctions.{funcs_spelled}
use Rattle.print_laws.proofs.Spelled.SpelledGlobals.{globals_spelled}

-- the pieces of a program are the tops of a tree, which shows it wherever its text ends
pub record IsSpelledProgram (p : Program) (d : IsShowableProgram p) : Type 0 where
  pub tops : List RawTop
  pub spells : Tops (lexemes_of 0 (program_pieces p d)) tops []
  pub shows : (end : ℕ) → ShowsProgram (record { tops = tops; end = end }) p

-- tops behind tops
tops_behind : {ts us rest : List Lexeme} {xs ys : List RawTop} → Tops ts xs us → Tops us ys rest → Tops ts (xs ++ ys) rest
tops_behind none ys = ys
tops_behind {ts} {rest = rest} {ys = ys} (more {xs = xs} {ys = zs} d ds) after =
    subst (λ all. Tops ts all rest) (sym (append_assoc xs zs ys)) (more d (tops_behind ds after))

pub program_spelled : (p : Program) (d : IsShowableProgram p) → IsSpelledProgram p d
unfolding program_pieces
program_spelled p d =
    let x = globals_spelled p.globals d.globals 0 (funcs_pieces p p.funcs d.funcs []) in
    let y = funcs_spelled p p.funcs d.funcs x.to [] in
    record {
      tops = x.raw ++ map top.Func y.raw;
      spells = tops_behind x.spells y.spells;
      shows = λ end. record { globals = x.raw; funcs = y.raw; tops = refl; shows_globals = x.shows; shows_funcs = y.shows };
    }
