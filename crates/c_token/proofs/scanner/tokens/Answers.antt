use Rattle.c_token.specs.declared.piece.Flaw.TheVariants.{Byte, Comment, Number, Directive}
use Rattle.c_token.proofs.Answering as answering
use Rattle.c_token.proofs.scanner.tokens.Goals as goal

pub returns-clause-complete : goal.returns-clause-complete
returns-clause-complete c = answering.complete (λ v. v.items) c.args.text.now c.scan.result c.scan.ensures

pub returns-clause-byte : goal.returns-clause-byte
returns-clause-byte c at = answering.exact (λ v. v.items) c.args.text.now Byte at c.scan.result c.scan.ensures

pub returns-clause-comment : goal.returns-clause-comment
returns-clause-comment c at = answering.exact (λ v. v.items) c.args.text.now Comment at c.scan.result c.scan.ensures

pub returns-clause-number : goal.returns-clause-number
returns-clause-number c at = answering.exact (λ v. v.items) c.args.text.now Number at c.scan.result c.scan.ensures

pub returns-clause-directive : goal.returns-clause-directive
returns-clause-directive c at = answering.exact (λ v. v.items) c.args.text.now Directive at c.scan.result c.scan.ensures
