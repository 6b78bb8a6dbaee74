use Rattle.std.proofs.Common.{rules, ◌↔◌, IsTrue}
use Rattle.std.specs.List.{All}
use Rattle.wu_tables.specs.Found.{IsByBytes}
use Rattle.wu_tables.proofs.FoundLemmas.{all_listed, listed_all}
use Rattle.wu_tables.proofs.lookup.are_by_bytes.Goals as goal

pub returns : goal.returns
returns c =
    let all : IsTrue c.all.result ↔ All (IsByBytes c.args.hosts) c.args.schema.now.indexes = search rules in
    (λ h. all_listed (IsByBytes c.args.hosts) _ (all.0 h), λ each. all.1 (listed_all (IsByBytes c.args.hosts) _ each))
