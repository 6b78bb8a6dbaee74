use Rattle.std.specs.Prelude.{All}
use Rattle.wu_feed.specs.Ranges.{IsSendRow}
use Rattle.wu_feed.specs.Sends.{sends_of_file}
use Rattle.wu_feed.proofs.FaultLemmas.{sends_told, file_read}
use Rattle.wu_feed.proofs.RangeLemmas.{sends_read}
use Rattle.wu_feed.proofs.sends.read_sends.Goals as goal

pub returns : goal.returns
returns c =
    let gave = c.read_file.ensures in
    file_read sends_of_file (All IsSendRow) sends_told sends_read c.args.file.now c.read_file.result gave.exact gave.long gave.few
