use Rattle.std.proofs.Common.{rules}
use Rattle.wu_audit.specs.LoadedWorlds.{world_of_parts}
use Rattle.wu_refill.specs.Refilling.{Refills}
use Rattle.wu_refill.proofs.RefillLemmas.{refilled}
use Rattle.wu_refill.proofs.filling.changes_of.Goals as goal

pub returns-clause-makes : goal.returns-clause-makes
returns-clause-makes c =
    let changes = c.add_imports.new.changes.items in
    let world = world_of_parts c.args.parts c.args.imports.now in
    let fill : Refills world changes = search rules in
    refilled world c.requires changes fill
