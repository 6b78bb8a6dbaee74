use Rattle.wu_cli.proofs.TroubleLemmas.{unmade_told}
use Rattle.wu_cli.proofs.backup.line_of_unmade.Goals as goal

pub returns-in_default : goal.returns-in_default
returns-in_default g c =
    let told = rw c.words.ensures at c.worded.ensures in
    rw (unmade_told c.args.why c.in_default.not-Memory) told
