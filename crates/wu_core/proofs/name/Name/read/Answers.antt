-- A name is text, so it is never refused as none.
use Rattle.std.proofs.Common.{◌≡◌, true, rules}
use Rattle.wu_core.specs.Names.{is_name}
use Rattle.wu_core.proofs.NameLemmas.{IsUtf8-from_is_name}
use Rattle.wu_core.proofs.name.Name.read.Goals as goal

pub returns-in_default : goal.returns-in_default
returns-in_default c =
    let is : is_name c.args.text.now ≡ true = search rules in
    absurd (c.in_default.ensures.cases.0 (IsUtf8-from_is_name c.args.text.now is))
