use Rattle.std.proofs.Common.{◌≡◌, ℕ, ◌&&◌, ◌||◌, true, List, string_bytes, subst, ap, sym, Vec, Global}
use Rattle.std.specs.Prelude.{is_some}
use Rattle.std.specs.Str.{bytes_eq}
use Rattle.std.specs.BTreeSet.{contains_text}
use Rattle.toml.specs.Data.{get_member}
use Rattle.toml.specs.View.{view, table_view}
use Rattle.cost_document.specs.Documents.{entries}
use Rattle.cost_table.proofs.KnownNames.{inserted, is_there}
use Rattle.cost_table.proofs.known.add_entry.Goals as goal

pub returns : goal.returns
returns c =
    let es = entries (table_view c.args.document.now) in
    let is : string_bytes c.in-Ok.name ≡ c.args.name.items = ap (λ (v : Vec ℕ Global). v.items) c.in-Ok.ensures.ok in
    let has : is_some (get_member (string_bytes c.in-Ok.name) es) ≡ true = rw (is, ← c.as_slice.ensures.value) (is_there (λ v. view v.now) c.entry.result _ c.if-is_none.ensures c.entry.ensures.value) in
    subst (λ (name : List ℕ). (key : List ℕ) → contains_text c.insert.new.self key ≡ (contains_text c.args.known.now key || (bytes_eq key name && is_some (get_member key es)))) is
    (inserted es c.in-Ok.name c.args.known.now c.insert.new.self c.insert.result (sym c.if-is_err.ensures.value) has c.insert.ensures.updates)
