use Rattle.std.proofs.Common.{◌++◌, List, ℕ, Some, None, ap, ◌∙◌}
use Rattle.std.proofs.lemmas.Grind.{flat_map-append}
use Rattle.report_text.specs.Texts.{line_text, lines_text, front_lines, value_lines, shown_lines, last_lines}
use Rattle.report_text.proofs.law.reports_are_pieces.Goals as goal

pub returns-clause-report : goal.returns-clause-report
returns-clause-report c = λ r.
    flat_map-append line_text (front_lines r.copies r.ipet) (shown_lines None r.shown ++ last_lines r.last)
    ∙ ap (λ (rest : List ℕ). lines_text (front_lines r.copies r.ipet) ++ rest) (flat_map-append line_text (shown_lines None r.shown) (last_lines r.last))

pub returns-clause-value : goal.returns-clause-value
returns-clause-value c = λ before value values. flat_map-append line_text (value_lines before value) (shown_lines (Some value) values)
