use Rattle.std.proofs.Common.{List, subst, sym}
use Rattle.std.specs.List.{All}
use Rattle.std.proofs.lemmas.Bool.{iff_false}
use Rattle.wu_core.specs.Formed.{IsWorkunit}
use Rattle.wu_core.specs.Storable.{IsNextNumber, IsStorable, IsStoredArchived}
use Rattle.wu_core.specs.World.{Import}
use Rattle.wu_core.specs.declared.workunit.Archived.{Archived}
use Rattle.wu_core.specs.declared.workunit.Workunit.{Workunit}
use Rattle.wu_rules.specs.Consistent.{IsConsistent}
use Rattle.wu_machine.specs.Sound.{HasPossibleMask}
use Rattle.wu_audit.specs.Against.{IsFirstAgainst}
use Rattle.wu_audit.specs.Rows.{IsRightImport}
use Rattle.wu_audit.specs.Wrong.{ToArchivedMask, ToArchivedValues, ToForm, ToStates, ToValues, ToVerdicts}
use Rattle.wu_audit.proofs.auditing.wrong_row.Goals as goal
use Rattle.wu_audit.proofs.auditing.wrong_row.Goals.{After-workunits-workunits, In_default, In_default-first_inconsistent, In_default-first_unstorable, In_default-first_unstorable_archived, In_default-first_wrong_import}

next : (c : After-workunits-workunits) → ToForm c.args.loaded.now
next c = subst IsNextNumber c.next_number.ensures (c.is_next_number.ensures.0 c.if-not-is_next_number.false)

formed : (c : In_default) → ToForm c.args.loaded.now → ToValues c.args.loaded.now
formed c earlier = (earlier, subst (All IsWorkunit) c.workunits-workunits.ensures c.in_default.ensures)

storable : (c : In_default-first_unstorable) → ToValues c.args.loaded.now → ToArchivedValues c.args.loaded.now
storable c earlier = (earlier, subst (All IsStorable) c.workunits-workunits.ensures c.in_default-first_unstorable.ensures)

archivable : (c : In_default-first_unstorable_archived) → ToArchivedValues c.args.loaded.now → ToVerdicts c.args.loaded.now
archivable c earlier = (earlier, subst (All IsStoredArchived) c.archived.ensures c.in_default-first_unstorable_archived.ensures)

importable : (c : In_default-first_wrong_import) → ToVerdicts c.args.loaded.now → ToStates c.args.loaded.now
importable c earlier = (earlier, subst (All IsRightImport) c.imports.ensures c.in_default-first_wrong_import.ensures)

consistent : (c : In_default-first_inconsistent) → ToStates c.args.loaded.now → ToArchivedMask c.args.loaded.now
consistent c earlier = (earlier, subst (All IsConsistent) c.workunits-workunits.ensures c.in_default-first_inconsistent.ensures)

pub returns-then-not-is_next_number : goal.returns-then-not-is_next_number
returns-then-not-is_next_number c next = iff_false c.is_next_number.ensures c.if-not-is_next_number.true (subst IsNextNumber (sym c.next_number.ensures) next)

pub returns-in-Some : goal.returns-in-Some
returns-in-Some c = (
  next (goal.at.returns-in-Some c).After-workunits-workunits,
  subst (λ (ws : List Workunit). IsFirstAgainst IsWorkunit ws c.in-Some.place) c.workunits-workunits.ensures c.in-Some.ensures,
)

pub returns-in-Some-first_unstorable : goal.returns-in-Some-first_unstorable
returns-in-Some-first_unstorable c =
    let at = goal.at.returns-in-Some-first_unstorable c in (
      formed at.In_default (next at.After-workunits-workunits),
      subst (λ (ws : List Workunit). IsFirstAgainst IsStorable ws c.in-Some-first_unstorable.place) c.workunits-workunits.ensures c.in-Some-first_unstorable.ensures,
    )

pub returns-in-Some-first_unstorable_archived : goal.returns-in-Some-first_unstorable_archived
returns-in-Some-first_unstorable_archived c =
    let at = goal.at.returns-in-Some-first_unstorable_archived c in (
      storable at.In_default-first_unstorable (formed at.In_default (next at.After-workunits-workunits)),
      subst (λ (rows : List Archived). IsFirstAgainst IsStoredArchived rows c.in-Some-first_unstorable_archived.place) c.archived.ensures c.in-Some-first_unstorable_archived.ensures,
    )

pub returns-in-Some-first_wrong_import : goal.returns-in-Some-first_wrong_import
returns-in-Some-first_wrong_import c =
    let at = goal.at.returns-in-Some-first_wrong_import c in (
      archivable at.In_default-first_unstorable_archived (storable at.In_default-first_unstorable (formed at.In_default (next at.After-workunits-workunits))),
      subst (λ (is : List Import). IsFirstAgainst IsRightImport is c.in-Some-first_wrong_import.place) c.imports.ensures c.in-Some-first_wrong_import.ensures,
    )

pub returns-in-Some-first_inconsistent : goal.returns-in-Some-first_inconsistent
returns-in-Some-first_inconsistent c =
    let at = goal.at.returns-in-Some-first_inconsistent c in (
      importable at.In_default-first_wrong_import (archivable at.In_default-first_unstorable_archived (storable at.In_default-first_unstorable (formed at.In_default (next at.After-workunits-workunits)))),
      subst (λ (ws : List Workunit). IsFirstAgainst IsConsistent ws c.in-Some-first_inconsistent.place) c.workunits-workunits.ensures c.in-Some-first_inconsistent.ensures,
    )

pub returns-in-Some-first_impossible_mask : goal.returns-in-Some-first_impossible_mask
returns-in-Some-first_impossible_mask c =
    let at = goal.at.returns-in-Some-first_impossible_mask c in (
      consistent at.In_default-first_inconsistent (importable at.In_default-first_wrong_import (archivable at.In_default-first_unstorable_archived (storable at.In_default-first_unstorable (formed at.In_default (next at.After-workunits-workunits))))),
      subst (λ (rows : List Archived). IsFirstAgainst HasPossibleMask rows c.in-Some-first_impossible_mask.place) c.archived-2.ensures c.in-Some-first_impossible_mask.ensures,
    )

pub returns : goal.returns
returns c =
    let at = goal.at.returns c in (
      consistent at.In_default-first_inconsistent (importable at.In_default-first_wrong_import (archivable at.In_default-first_unstorable_archived (storable at.In_default-first_unstorable (formed at.In_default (next at.After-workunits-workunits))))),
      subst (All HasPossibleMask) c.archived-2.ensures c.in_default-first_impossible_mask.ensures,
    )
