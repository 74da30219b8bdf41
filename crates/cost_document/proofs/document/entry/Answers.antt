use Rattle.std.proofs.Common.{◌≡◌, unwrap_or, ap, sym}
use Rattle.toml.specs.Data.{no_members}
use Rattle.toml.specs.View.{table_view}
use Rattle.cost_document.specs.Documents.{entries}
use Rattle.cost_document.proofs.Reading.{no_text_no_key}
use Rattle.cost_document.proofs.document.entry.Goals as goal

pub returns-in-Err-clause-value : goal.returns-in-Err-clause-value
returns-in-Err-clause-value c =
    let none = no_text_no_key c.args.name.now c.in_ok-entries.entries.now.entries c.in-Err.ensures.cases.0 in
    let table : entries (table_view c.args.document.now) ≡ table_view c.in_ok-entries.entries.now = ap (λ ms. unwrap_or ms no_members) (sym c.in_ok-entries.ensures) in
    sym (rw table none)
