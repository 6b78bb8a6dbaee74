use Rattle.wu_report.proofs.MomentLemmas.{first-text, noon-text, leap_day-text, last-text, last_deadline-text}
use Rattle.wu_report.proofs.examples.prints_moments.Goals as goal

pub returns-clause-first : goal.returns-clause-first
returns-clause-first c = first-text

pub returns-clause-noon : goal.returns-clause-noon
returns-clause-noon c = noon-text

pub returns-clause-leap_day : goal.returns-clause-leap_day
returns-clause-leap_day c = leap_day-text

pub returns-clause-last : goal.returns-clause-last
returns-clause-last c = last-text

pub returns-clause-last_deadline : goal.returns-clause-last_deadline
returns-clause-last_deadline c = last_deadline-text
