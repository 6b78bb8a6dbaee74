use Rattle.std.proofs.Common.{rules, ◌≡◌, ◌↔◌, IsTrue}
use Rattle.std.specs.List.{Any}
use Rattle.wu_schema.specs.Indexes.{NamedIndex, index_at}
use Rattle.wu_tables.proofs.FoundLemmas.{any_indexed, indexed_from}
use Rattle.wu_tables.proofs.lookup.is_indexed.Goals as goal

pub returns : goal.returns
returns c =
    let named : NamedIndex = (c.args.name.now, c.args.columns.now) in
    let any : IsTrue c.any.result ↔ Any (λ i. i ≡ index_at named c.args.table i.tree) c.args.schema.now.indexes = search rules in
    (λ h. indexed_from c.args.schema.now c.args.table named (any.0 h), λ has. any.1 (any_indexed c.args.schema.now c.args.table named has))
