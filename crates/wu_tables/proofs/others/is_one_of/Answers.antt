use Rattle.std.proofs.Common.{rules, ◌≡◌, ◌↔◌, IsTrue}
use Rattle.std.specs.List.{Any}
use Rattle.wu_tables.proofs.OthersLemmas.{any_named, named_any}
use Rattle.wu_tables.proofs.others.is_one_of.Goals as goal

pub returns : goal.returns
returns c =
    let any : IsTrue c.any.result ↔ Any (λ given. given.now ≡ c.args.name.now) c.args.names.now = search rules in
    (λ h. named_any c.args.names.now c.args.name.now (any.0 h), λ has. any.1 (any_named c.args.names.now c.args.name.now has))
