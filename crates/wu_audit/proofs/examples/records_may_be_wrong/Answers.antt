use Rattle.wu_audit.proofs.ExampleLemmas.{grant_astray_wrong, grant_missing_wrong, kept_otherwise_wrong, unkept_wrong, name_taken_wrong}
use Rattle.wu_audit.proofs.examples.records_may_be_wrong.Goals as goal

pub returns : goal.returns
returns c = record { astray = grant_astray_wrong; missing = grant_missing_wrong; otherwise = kept_otherwise_wrong; unkept = unkept_wrong; taken = name_taken_wrong }
