use Rattle.std.proofs.Common.{None, Some}
use Rattle.wu_audit.specs.Keys.{AreApart, AreOtherImports}
use Rattle.wu_audit.specs.Wrong.{ToImportTwice}
use Rattle.wu_audit.proofs.MovedLemmas.{pair_moved}
use Rattle.wu_audit.proofs.auditing.wrong_grant_or_import.Goals as goal
use Rattle.wu_audit.proofs.auditing.wrong_grant_or_import.Goals.{In_default-2}

once : (c : In_default-2) → ToImportTwice c.args.loaded.now
once c = (
  (c.requires, c.in_default.ensures),
  pair_moved AreApart c.grants.result.now c.args.loaded.now.grants c.in_ok-place.field-0 None c.grants.ensures c.in_default-2.is c.in_ok-place.ensures,
)

pub returns-in-Some : goal.returns-in-Some
returns-in-Some c = (c.requires, c.in-Some.ensures)

pub returns-in-Some-2 : goal.returns-in-Some-2
returns-in-Some-2 c = (
  (c.requires, c.in_default.ensures),
  pair_moved AreApart c.grants.result.now c.args.loaded.now.grants c.in_ok-place.field-0 (Some c.in-Some-2.place) c.grants.ensures c.in-Some-2.is c.in_ok-place.ensures,
)

pub returns-in-Some-3 : goal.returns-in-Some-3
returns-in-Some-3 c = (
  once (goal.at.returns-in-Some-3 c).In_default-2,
  pair_moved AreOtherImports c.imports.result.now c.args.loaded.now.imports c.in_ok-place-2.field-0 (Some c.in-Some-3.place) c.imports.ensures c.in-Some-3.is c.in_ok-place-2.ensures,
)

pub returns : goal.returns
returns c = record {
  earlier = once (goal.at.returns c).In_default-2;
  imported_once = pair_moved AreOtherImports c.imports.result.now c.args.loaded.now.imports c.in_ok-place-2.field-0 None c.imports.ensures c.in_default-3.is c.in_ok-place-2.ensures;
}
