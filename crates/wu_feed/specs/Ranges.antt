-- What holds of each row that is read from a file: names are names, and numbers and bytes are in their ranges.
use Rattle.std.specs.Prelude.{◌≡◌, ◌<◌, ◌≤◌, true, length}
use Rattle.wu_core.specs.Limits.{last_moment, longest_input, longest_output, most_instances}
use Rattle.wu_core.specs.Names.{is_name}
use Rattle.wu_feed.specs.declared.jobs.Job.{Job}
use Rattle.wu_feed.specs.declared.reports.ReportRow.{ReportRow}
use Rattle.wu_feed.specs.declared.sends.SendRow.{SendRow}

-- The values of a job of a file are in range.
pub record IsJob (job : Job) : Type 0 where
  pub name : is_name job.name ≡ true
  pub input : length job.input ≤ longest_input

-- The values of a send of a file are in range.
pub record IsSendRow (row : SendRow) : Type 0 where
  pub workunit : is_name row.workunit ≡ true
  pub place : row.n < most_instances
  pub host : is_name row.host ≡ true
  pub moment : row.moment ≤ last_moment

-- The values of a report of a file are in range.
pub record IsReportRow (row : ReportRow) : Type 0 where
  pub workunit : is_name row.workunit ≡ true
  pub place : row.n < most_instances
  pub host : is_name row.host ≡ true
  pub moment : row.moment ≤ last_moment
  pub output : length row.output ≤ longest_output
