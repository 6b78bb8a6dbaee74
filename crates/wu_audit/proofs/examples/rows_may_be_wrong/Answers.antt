use Rattle.wu_audit.proofs.ExampleLemmas.{unstamped_wrong, unstorable_wrong, decided_and_given_up_wrong, kept_too_late_wrong, kept_unsendable_wrong, verdict_wrong, grant_of_100_wrong}
use Rattle.wu_audit.proofs.examples.rows_may_be_wrong.Goals as goal

pub returns : goal.returns
returns c = record { form = unstamped_wrong; values = unstorable_wrong; states = decided_and_given_up_wrong; archived = kept_too_late_wrong; mask = kept_unsendable_wrong; verdict = verdict_wrong; grant = grant_of_100_wrong }
