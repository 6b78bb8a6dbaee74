use Rattle.std.proofs.Common.{None, Some, subst, sym}
use Rattle.wu_audit.specs.Places.{Ascends}
use Rattle.wu_audit.specs.Records.{IsBackedGrant, IsGranted}
use Rattle.wu_audit.specs.Wrong.{ToGrantMissing}
use Rattle.wu_audit.proofs.MovedLemmas.{first_moved_by}
use Rattle.wu_audit.proofs.auditing.wrong_credit.Goals as goal
use Rattle.wu_audit.proofs.auditing.wrong_credit.Goals.{In_default}

backed : (c : In_default) → ToGrantMissing c.args.loaded.now
backed c = (
  c.requires.keyed,
  first_moved_by IsBackedGrant c.workunits-workunits.result.now c.args.loaded.now.workunits c.grants-grants.result.now c.args.loaded.now.grants c.first_unbacked_grant.result None c.workunits-workunits.ensures c.grants-grants.ensures c.in_default.is c.first_unbacked_grant.ensures,
)

pub first_unbacked_grant-requires : goal.first_unbacked_grant-requires
first_unbacked_grant-requires c = subst Ascends (sym c.workunits-workunits.ensures) c.requires.order

pub returns-in-Some : goal.returns-in-Some
returns-in-Some c = (
  c.requires.keyed,
  first_moved_by IsBackedGrant c.workunits-workunits.result.now c.args.loaded.now.workunits c.grants-grants.result.now c.args.loaded.now.grants c.first_unbacked_grant.result (Some c.in-Some.place) c.workunits-workunits.ensures c.grants-grants.ensures c.in-Some.is c.first_unbacked_grant.ensures,
)

pub returns-in-Some-2 : goal.returns-in-Some-2
returns-in-Some-2 c = (
  backed (goal.at.returns-in-Some-2 c).In_default,
  first_moved_by IsGranted c.grants-grants.result.now c.args.loaded.now.grants c.workunits-workunits.result.now c.args.loaded.now.workunits c.in_ok-place.field-0 (Some c.in-Some-2.place) c.grants-grants.ensures c.workunits-workunits.ensures c.in-Some-2.is c.in_ok-place.ensures,
)

pub returns : goal.returns
returns c = record {
  earlier = backed (goal.at.returns c).In_default;
  granted = first_moved_by IsGranted c.grants-grants.result.now c.args.loaded.now.grants c.workunits-workunits.result.now c.args.loaded.now.workunits c.in_ok-place.field-0 None c.grants-grants.ensures c.workunits-workunits.ensures c.in_default-2.is c.in_ok-place.ensures;
}
