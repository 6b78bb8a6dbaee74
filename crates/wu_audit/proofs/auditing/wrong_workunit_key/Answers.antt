use Rattle.std.proofs.Common.{◌≢◌, ◌<◌, List, None, Some, subst}
use Rattle.std.specs.List.{AllPairs}
use Rattle.wu_core.specs.declared.workunit.Workunit.{Workunit}
use Rattle.wu_audit.specs.Against.{IsFirstPairAgainst}
use Rattle.wu_audit.specs.Wrong.{ToTwice}
use Rattle.wu_audit.proofs.MovedLemmas.{pair_moved}
use Rattle.wu_audit.proofs.auditing.wrong_workunit_key.Goals as goal
use Rattle.wu_audit.proofs.auditing.wrong_workunit_key.Goals.{In_default-first_out_of_order}

ordered : (c : In_default-first_out_of_order) → ToTwice c.args.loaded.now
ordered c = ((c.requires, c.in_default.ensures), subst (AllPairs (λ (one other : Workunit). one.number < other.number)) c.workunits-workunits.ensures c.in_default-first_out_of_order.ensures)

pub returns-in-Some : goal.returns-in-Some
returns-in-Some c = (c.requires, c.in-Some.ensures)

pub returns-in-Some-first_out_of_order : goal.returns-in-Some-first_out_of_order
returns-in-Some-first_out_of_order c =
    ((c.requires, c.in_default.ensures), subst (λ (ws : List Workunit). IsFirstPairAgainst (λ one other. one.number < other.number) ws c.in-Some-first_out_of_order.place) c.workunits-workunits.ensures c.in-Some-first_out_of_order.ensures)

pub returns-in-Some-2 : goal.returns-in-Some-2
returns-in-Some-2 c = (
  ordered (goal.at.returns-in-Some-2 c).In_default-first_out_of_order,
  pair_moved (λ (one other : Workunit). one.name ≢ other.name) c.workunits-workunits.result.now c.args.loaded.now.workunits c.in_ok-place.field-0 (Some c.in-Some-2.place) c.workunits-workunits.ensures c.in-Some-2.is c.in_ok-place.ensures,
)

pub returns : goal.returns
returns c = (
  ordered (goal.at.returns c).In_default-first_out_of_order,
  pair_moved (λ (one other : Workunit). one.name ≢ other.name) c.workunits-workunits.result.now c.args.loaded.now.workunits c.in_ok-place.field-0 None c.workunits-workunits.ensures c.in_default-2.is c.in_ok-place.ensures,
)
