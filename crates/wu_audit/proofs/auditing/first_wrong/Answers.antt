use Rattle.std.proofs.Common.{subst}
use Rattle.wu_audit.specs.Wrong.{FindsWrong, ToGrantAstray}
use Rattle.wu_audit.proofs.SoundLemmas.{order_of_keyed}
use Rattle.wu_audit.proofs.auditing.first_wrong.Goals as goal

pub wrong_record-requires : goal.wrong_record-requires
wrong_record-requires c =
    let keyed : ToGrantAstray c.args.loaded.now = subst (λ found. FindsWrong ToGrantAstray c.args.loaded.now found) c.in_default-3.is c.in_ok-wrong-2.ensures in
    record { keyed = keyed; order = order_of_keyed c.args.loaded.now keyed }
