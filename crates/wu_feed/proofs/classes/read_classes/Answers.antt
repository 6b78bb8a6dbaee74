use Rattle.wu_core.specs.Classes.{AreClassed}
use Rattle.wu_feed.specs.Classes.{classes_of_file}
use Rattle.wu_feed.proofs.FaultLemmas.{classes_told, file_read}
use Rattle.wu_feed.proofs.RangeLemmas.{classes_read}
use Rattle.wu_feed.proofs.classes.read_classes.Goals as goal

pub returns : goal.returns
returns c =
    let gave = c.read_file.ensures in
    file_read classes_of_file AreClassed classes_told classes_read c.args.file.now c.read_file.result gave.exact gave.long gave.few
