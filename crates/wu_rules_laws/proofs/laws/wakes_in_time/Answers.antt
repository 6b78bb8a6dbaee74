use Rattle.wu_rules_laws.proofs.Awake.{woken-changed, changed-woken}
use Rattle.wu_rules_laws.proofs.laws.wakes_in_time.Goals as goal

pub returns : goal.returns
returns c w now = (woken-changed w now, changed-woken w now)
