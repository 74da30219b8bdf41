use Rattle.std.proofs.Common.{◌≡◌, ◌++◌, take, All}
use Rattle.std.specs.List.{flat_map}
use Rattle.cnf_form.specs.Texts.{line_text}
use Rattle.cnf_form.specs.Forms.{IsLogLine}
use Rattle.cnf_form.proofs.write.push_lines.Given as goal

abbrev pub invariant-loop-line : goal.invariant-loop-line
invariant-loop-line l = record {
  text : l.text.items ≡ l.fn.text.items ++ flat_map line_text (take l.line-index l.lines);
  each : All IsLogLine (take l.line-index l.lines);
}
