use Rattle.std.proofs.Common.{None, Some, subst, sym}
use Rattle.wu_audit.specs.Places.{Ascends}
use Rattle.wu_audit.specs.Records.{IsArchivedIfDone, IsBackedRow, IsNameFree}
use Rattle.wu_audit.specs.Wrong.{ToArchivedMissing, ToNameTaken}
use Rattle.wu_audit.proofs.MovedLemmas.{first_moved_by}
use Rattle.wu_audit.proofs.auditing.wrong_archive.Goals as goal
use Rattle.wu_audit.proofs.auditing.wrong_archive.Goals.{In_default, In_default-2}

backed : (c : In_default) → ToArchivedMissing c.args.loaded.now
backed c = (
  c.requires.credited,
  first_moved_by IsBackedRow c.workunits-workunits.result.now c.args.loaded.now.workunits c.archived-archived.result.now c.args.loaded.now.archived c.first_unbacked_row.result None c.workunits-workunits.ensures c.archived-archived.ensures c.in_default.is c.first_unbacked_row.ensures,
)

kept : (c : In_default-2) → ToArchivedMissing c.args.loaded.now → ToNameTaken c.args.loaded.now
kept c earlier = (
  earlier,
  first_moved_by IsArchivedIfDone c.archived-archived.result.now c.args.loaded.now.archived c.workunits-workunits.result.now c.args.loaded.now.workunits c.in_ok-place.field-0 None c.archived-archived.ensures c.workunits-workunits.ensures c.in_default-2.is c.in_ok-place.ensures,
)

pub first_unbacked_row-requires : goal.first_unbacked_row-requires
first_unbacked_row-requires c = subst Ascends (sym c.workunits-workunits.ensures) c.requires.order

pub returns-in-Some : goal.returns-in-Some
returns-in-Some c = (
  c.requires.credited,
  first_moved_by IsBackedRow c.workunits-workunits.result.now c.args.loaded.now.workunits c.archived-archived.result.now c.args.loaded.now.archived c.first_unbacked_row.result (Some c.in-Some.place) c.workunits-workunits.ensures c.archived-archived.ensures c.in-Some.is c.first_unbacked_row.ensures,
)

pub returns-in-Some-2 : goal.returns-in-Some-2
returns-in-Some-2 c = (
  backed (goal.at.returns-in-Some-2 c).In_default,
  first_moved_by IsArchivedIfDone c.archived-archived.result.now c.args.loaded.now.archived c.workunits-workunits.result.now c.args.loaded.now.workunits c.in_ok-place.field-0 (Some c.in-Some-2.place) c.archived-archived.ensures c.workunits-workunits.ensures c.in-Some-2.is c.in_ok-place.ensures,
)

pub returns-in-Some-3 : goal.returns-in-Some-3
returns-in-Some-3 c =
    let at = goal.at.returns-in-Some-3 c in (
      kept at.In_default-2 (backed at.In_default),
      first_moved_by IsNameFree c.archived-archived.result.now c.args.loaded.now.archived c.workunits-workunits.result.now c.args.loaded.now.workunits c.in_ok-place-2.field-0 (Some c.in-Some-3.place) c.archived-archived.ensures c.workunits-workunits.ensures c.in-Some-3.is c.in_ok-place-2.ensures,
    )

pub returns : goal.returns
returns c =
    let at = goal.at.returns c in record {
      earlier = kept at.In_default-2 (backed at.In_default);
      free = first_moved_by IsNameFree c.archived-archived.result.now c.args.loaded.now.archived c.workunits-workunits.result.now c.args.loaded.now.workunits c.in_ok-place-2.field-0 None c.archived-archived.ensures c.workunits-workunits.ensures c.in_default-3.is c.in_ok-place-2.ensures;
    }
