-- The numbers and the words of verdicts on rows of sends and of reports.
use Rattle.std.specs.Prelude.{ℕ, List, codes, Option, Some, None}
use Rattle.wu_rules.specs.declared.verdicts.SendVerdict.{SendVerdict}
use Rattle.wu_rules.specs.declared.verdicts.SendVerdict.TheVariants as send
use Rattle.wu_rules.specs.declared.verdicts.ReportVerdict.{ReportVerdict}
use Rattle.wu_rules.specs.declared.verdicts.ReportVerdict.TheVariants as report

-- The number of the verdict, as a table stores it.
abbrev pub send_verdict_code : SendVerdict → ℕ
send_verdict_code send.Applied = 0
send_verdict_code send.Unknown = 1
send_verdict_code send.NotUnsent = 2
send_verdict_code send.SameHost = 3
send_verdict_code send.Class = 4

abbrev pub report_verdict_code : ReportVerdict → ℕ
report_verdict_code report.Applied = 0
report_verdict_code report.Unknown = 1
report_verdict_code report.NotSent = 2
report_verdict_code report.WrongHost = 3
report_verdict_code report.BeforeSent = 4
report_verdict_code report.Over = 5

-- Why a row of sends was skipped; `None` if it was applied.
abbrev pub send_verdict_word : SendVerdict → Option (List ℕ)
send_verdict_word send.Applied = None
send_verdict_word send.Unknown = Some (codes "unknown")
send_verdict_word send.NotUnsent = Some (codes "not_unsent")
send_verdict_word send.SameHost = Some (codes "same_host")
send_verdict_word send.Class = Some (codes "class")

-- Why a row of reports was skipped; `None` if it was applied.
abbrev pub report_verdict_word : ReportVerdict → Option (List ℕ)
report_verdict_word report.Applied = None
report_verdict_word report.Unknown = Some (codes "unknown")
report_verdict_word report.NotSent = Some (codes "not_sent")
report_verdict_word report.WrongHost = Some (codes "wrong_host")
report_verdict_word report.BeforeSent = Some (codes "before_sent")
report_verdict_word report.Over = Some (codes "over")
