use Rattle.wu_cli.proofs.LintLemmas.{forgotten}
use Rattle.wu_cli.proofs.linting.read_as.Goals as goal

pub returns-in-Jobs : goal.returns-in-Jobs
returns-in-Jobs c = rw c.in-Jobs.is (forgotten _ _ _ c.read_jobs.ensures.exact c.nothing_of.ensures)

pub returns-in-Sends : goal.returns-in-Sends
returns-in-Sends c = rw c.in-Sends.is (forgotten _ _ _ c.read_sends.ensures.exact c.nothing_of-in-Sends.ensures)

pub returns-in-Reports : goal.returns-in-Reports
returns-in-Reports c = rw c.in-Reports.is (forgotten _ _ _ c.read_reports.ensures.exact c.nothing_of-in-Reports.ensures)

pub returns-in-Classes : goal.returns-in-Classes
returns-in-Classes c = rw c.in-Classes.is (forgotten _ _ _ c.read_classes.ensures.exact c.nothing_of-in-Classes.ensures)

pub returns-in-Template : goal.returns-in-Template
returns-in-Template c = rw c.in-Template.is (forgotten _ _ _ c.read_template.ensures.exact c.nothing_of-in-Template.ensures)
