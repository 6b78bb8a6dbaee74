use Rattle.std.proofs.Common.{◌≢◌, None, Some}
use Rattle.wu_core.specs.declared.workunit.Archived.{Archived}
use Rattle.wu_audit.specs.Wrong.{ToArchivedNameTwice}
use Rattle.wu_audit.proofs.MovedLemmas.{pair_moved}
use Rattle.wu_audit.proofs.auditing.wrong_archived_key.Goals as goal
use Rattle.wu_audit.proofs.auditing.wrong_archived_key.Goals.{In_default-2}

once : (c : In_default-2) → ToArchivedNameTwice c.args.loaded.now
once c = (
  (c.requires, c.in_default.ensures),
  pair_moved (λ (one other : Archived). one.number ≢ other.number) c.archived-archived.result.now c.args.loaded.now.archived c.in_ok-place.field-0 None c.archived-archived.ensures c.in_default-2.is c.in_ok-place.ensures,
)

pub returns-in-Some : goal.returns-in-Some
returns-in-Some c = (c.requires, c.in-Some.ensures)

pub returns-in-Some-2 : goal.returns-in-Some-2
returns-in-Some-2 c = (
  (c.requires, c.in_default.ensures),
  pair_moved (λ (one other : Archived). one.number ≢ other.number) c.archived-archived.result.now c.args.loaded.now.archived c.in_ok-place.field-0 (Some c.in-Some-2.place) c.archived-archived.ensures c.in-Some-2.is c.in_ok-place.ensures,
)

pub returns-in-Some-3 : goal.returns-in-Some-3
returns-in-Some-3 c = (
  once (goal.at.returns-in-Some-3 c).In_default-2,
  pair_moved (λ (one other : Archived). one.name ≢ other.name) c.archived-archived.result.now c.args.loaded.now.archived c.in_ok-place-2.field-0 (Some c.in-Some-3.place) c.archived-archived.ensures c.in-Some-3.is c.in_ok-place-2.ensures,
)

pub returns : goal.returns
returns c = (
  once (goal.at.returns c).In_default-2,
  pair_moved (λ (one other : Archived). one.name ≢ other.name) c.archived-archived.result.now c.args.loaded.now.archived c.in_ok-place-2.field-0 None c.archived-archived.ensures c.in_default-3.is c.in_ok-place-2.ensures,
)
