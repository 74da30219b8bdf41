-- A printed program is read again as that program.
use Rattle.std.proofs.Common.{ℕ, List, [], length, refl, sym, subst}
use Rattle.c_tree.specs.declared.unit.Unit.{Unit as Tree}
use Rattle.c_tree.specs.declared.program.Program.{Program}
use Rattle.c_tree.specs.Checking.Checked.{IsSpelled}
use Rattle.c_tree.specs.Checking.Refusals.{Typed}
use Rattle.c_tree.specs.Grammar.Spelling.{Tops}
use Rattle.print_laws.specs.Printed.{printed_program}
use Rattle.print_laws.specs.Again.{IsReadAs}
use Rattle.print_laws.proofs.Composing.Composed.{tokens_of}
use Rattle.print_laws.proofs.Composing.ComposedStatements.{program_pieces}
use Rattle.print_laws.proofs.Apart.PrintedTokens.{printed_lexes, printed_lexemes}
use Rattle.print_laws.proofs.Spelled.SpelledPrograms.{program_spelled}
use Rattle.print_laws.proofs.Named.ShowablePrograms.{showable}
use Rattle.print_laws.proofs.AtFileScope.TypedAgain.{typed_again}

pub read_again : (unit : Tree) (entry : List ℕ) (p : Program) → IsSpelled unit → Typed unit entry p → IsReadAs (printed_program p) entry p
read_again unit entry p spelled typed =
    let d = showable unit entry p spelled typed in
    let y = program_spelled p d in
    let tree : Tree = record { tops = y.tops; end = length (printed_program p) } in
    record {
      unit = tree;
      read = record {
        tokens = tokens_of 0 (program_pieces p d);
        lexed = printed_lexes p d;
        spelled = record { tops = subst (λ ls. Tops ls y.tops []) (sym (printed_lexemes p d)) y.spells; ends = refl };
      };
      typed = typed_again unit tree entry p spelled typed (y.shows (length (printed_program p)));
    }
