use Rattle.wu_cli.proofs.TroubleLemmas.{reason_told}
use Rattle.wu_cli.proofs.reason.line_of_reason.Goals as goal

pub returns-in_default : goal.returns-in_default
returns-in_default g c =
    let told = rw c.words.ensures at c.worded.ensures in
    rw (reason_told c.args.reason c.in_default.not-Memory) told
