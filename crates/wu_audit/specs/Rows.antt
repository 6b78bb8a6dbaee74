-- The parts of soundness that speak of one grant and of one import.
use Rattle.std.specs.Prelude.{◌<◌, ◌≤◌}
use Rattle.wu_core.specs.declared.workunit.Grant.{Grant}
use Rattle.wu_core.specs.Limits.{most_credit, most_instances}
use Rattle.wu_core.specs.Storable.{AreVerdicts, IsName}
use Rattle.wu_core.specs.World.{World, Import}
use Rattle.wu_machine.specs.Sound.{IsGiven}

-- The grant is for a number that a workunit was given, and its place and its credit are in their ranges.
abbrev pub IsRightGrant : World → Grant → Type 0
IsRightGrant world grant = IsGiven world grant.workunit × (grant.n < most_instances) × (grant.credit ≤ most_credit)

-- The import has a valid name, and its verdicts are numbers of verdicts on files of its kind.
abbrev pub IsRightImport : Import → Type 0
IsRightImport import = IsName import.name × AreVerdicts import.kind import.verdicts
