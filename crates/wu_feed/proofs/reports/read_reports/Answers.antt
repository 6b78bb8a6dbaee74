use Rattle.std.specs.Prelude.{All}
use Rattle.wu_feed.specs.Ranges.{IsReportRow}
use Rattle.wu_feed.specs.Reports.{reports_of_file}
use Rattle.wu_feed.proofs.FaultLemmas.{reports_told, file_read}
use Rattle.wu_feed.proofs.RangeLemmas.{reports_read}
use Rattle.wu_feed.proofs.reports.read_reports.Goals as goal

pub returns : goal.returns
returns c =
    let gave = c.read_file.ensures in
    file_read reports_of_file (All IsReportRow) reports_told reports_read c.args.file.now c.read_file.result gave.exact gave.long gave.few
