use Rattle.std.specs.Prelude.{All}
use Rattle.wu_feed.specs.Jobs.{jobs_of_file}
use Rattle.wu_feed.specs.Ranges.{IsJob}
use Rattle.wu_feed.proofs.FaultLemmas.{jobs_told, file_read}
use Rattle.wu_feed.proofs.RangeLemmas.{jobs_read}
use Rattle.wu_feed.proofs.jobs.read_jobs.Goals as goal

pub returns : goal.returns
returns c =
    let gave = c.read_file.ensures in
    file_read jobs_of_file (All IsJob) jobs_told jobs_read c.args.file.now c.read_file.result gave.exact gave.long gave.few
