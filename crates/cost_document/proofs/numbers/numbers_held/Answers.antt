use Rattle.std.proofs.Common.{◌≡◌, ℕ, ◌<◌, None, unwrap_or, ap, sym, subst, arith, rules}
use Rattle.toml.specs.Data.{no_members, get_member}
use Rattle.toml.specs.View.{table_view}
use Rattle.cost_document.specs.Documents.{entries, numbered_name, TellsNumbers}
use Rattle.cost_document.proofs.Reading.{no_text_no_key}
use Rattle.cost_document.proofs.NumberedKeys.{no_text_no_number, tells_none}
use Rattle.cost_document.proofs.numbers.numbers_held.Goals as goal

pub returns-in_default-from_utf8 : goal.returns-in_default-from_utf8
returns-in_default-from_utf8 c =
    let function = c.args.function.now in
    let table : entries (table_view c.args.document.now) ≡ table_view c.in-Some.entries.now = ap (λ ms. unwrap_or ms no_members) (sym c.in-Some.ensures) in
    let none : (number : ℕ) → number < c.args.count → get_member (numbered_name function number) (table_view c.in-Some.entries.now) ≡ None =
    λ number below. no_text_no_key (numbered_name function number) c.in-Some.entries.now.entries (no_text_no_number function number (omega (arith, below, c.ranges.count.fits)) c.in_default-from_utf8.ensures.cases.0) in
    subst (λ ms. TellsNumbers ms function c.args.count c.in_ok-held.held.items) (sym table)
    (tells_none (table_view c.in-Some.entries.now) function c.args.count c.in_ok-held.held.items (search rules) none)
