-- A printed program is the tokens of its pieces.
use Rattle.std.proofs.Common.{◌≡◌, [], refl, sym, subst}
use Rattle.c_tree.specs.declared.program.Program.{Program}
use Rattle.c_tree.specs.Tokens.Lexing.{Lexes}
use Rattle.c_tree.specs.Tokens.Symbols.{lexemes}
use Rattle.print_laws.specs.Printed.{printed_program}
use Rattle.print_laws.proofs.Composing.Composed.{tokens_of, lexes}
use Rattle.print_laws.proofs.Spelled.SpelledAgain.{lexemes_of}
use Rattle.print_laws.proofs.Apart.LexemesOfPieces.{lexemes_are}
use Rattle.print_laws.proofs.Named.Showable.{IsShowableProgram}
use Rattle.print_laws.proofs.Composing.ComposedStatements.{program_pieces}
use Rattle.print_laws.proofs.Composing.ProgramTexts.{program_text}
use Rattle.print_laws.proofs.Apart.ApartPrograms.{program_apart}

pub printed_lexes : (p : Program) (d : IsShowableProgram p) → Lexes (printed_program p) (tokens_of 0 (program_pieces p d))
printed_lexes p d = subst (λ t. Lexes t (tokens_of 0 (program_pieces p d))) (program_text p d) (lexes (program_pieces p d) (program_apart p d))

pub printed_lexemes : (p : Program) (d : IsShowableProgram p) → lexemes (printed_program p) (tokens_of 0 (program_pieces p d)) ≡ lexemes_of 0 (program_pieces p d)
printed_lexemes p d = lexemes_are (printed_program p) [] 0 (program_pieces p d) (sym (program_text p d)) refl
