use Rattle.print_laws.proofs.PrintedPrograms.{read_again}
use Rattle.print_laws.proofs.law.printed_programs_are_read_again.Goals as goal

pub returns : goal.returns
returns c unit entry p spelled typed = read_again unit entry p spelled typed
