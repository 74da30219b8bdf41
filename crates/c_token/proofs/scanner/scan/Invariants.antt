use Rattle.std.proofs.Common.{◌≡◌, ◌-◌, ◌≤◌, length}
use Rattle.c_tree.specs.Tokens.Lexing.{Reaches}
use Rattle.c_token.proofs.scanner.scan.Given as goal

abbrev pub invariant-loop-scanner : goal.invariant-loop-scanner
invariant-loop-scanner l = record {
  text : l.scanner.text.now ≡ l.text;
  within : l.scanner.at ≤ length l.text;
  reached : Reaches l.text l.scanner.at 0 l.tokens.items;
}

abbrev pub decreases-loop-scanner : goal.decreases-loop-scanner
decreases-loop-scanner l = length l.text - l.scanner.at
