use Rattle.std.proofs.Common.{◌≡◌, ◌<◌, ◌∙◌, List, Some, ap, arith, get_or, length, refl, slice_get, subst, sym}
use Rattle.std.proofs.lemmas.Option.{slice_get-get_or}
use Rattle.std.proofs.lemmas.Result.{IfOk-weaker}
use Rattle.wu_audit.specs.declared.wrong.AuditTable.TheVariants as table
use Rattle.wu_core.specs.declared.workunit.Archived.{Archived}
use Rattle.wu_core.specs.declared.workunit.Grant.{Grant}
use Rattle.wu_core.specs.declared.workunit.Workunit.{Workunit}
use Rattle.wu_check.specs.declared.finding.Key.TheVariants as key
use Rattle.wu_check.proofs.KeyLemmas.{key_at, key_of_none, row_within}
use Rattle.wu_check.proofs.keys.key_of_wrong.Goals as goal

pub bounds-workunits-place : goal.bounds-workunits-place
bounds-workunits-place c = subst (λ (ws : List Workunit). c.in-Some.place < length ws) (sym c.workunits.ensures) (row_within c.args.loaded.now c.args.wrong table.Workunit c.in-Some.place c.requires (sym c.table.ensures ∙ c.in-Workunit.is) (sym c.place.ensures ∙ c.in-Some.is))

pub place_from_one-requires : goal.place_from_one-requires
place_from_one-requires c = subst (λ (gs : List Grant). c.in-Some.place < length gs) (sym c.grants.ensures) (row_within c.args.loaded.now c.args.wrong table.Grant c.in-Some.place c.requires (sym c.table.ensures ∙ c.in-Grant.is) (sym c.place.ensures ∙ c.in-Some.is))

pub place_from_one-requires-in-Archived : goal.place_from_one-requires-in-Archived
place_from_one-requires-in-Archived c = subst (λ (rows : List Archived). c.in-Some.place < length rows) (sym c.archived.ensures) (row_within c.args.loaded.now c.args.wrong table.Archived c.in-Some.place c.requires (sym c.table.ensures ∙ c.in-Archived.is) (sym c.place.ensures ∙ c.in-Some.is))

pub import_key-requires : goal.import_key-requires
import_key-requires c = row_within c.args.loaded.now c.args.wrong table.Import c.in-Some.place c.requires (sym c.table.ensures ∙ c.in-Import.is) (sym c.place.ensures ∙ c.in-Some.is)

pub returns-in_default : goal.returns-in_default
returns-in_default c = record { ok = key_of_none c.args.loaded.now c.args.wrong (sym c.place.ensures ∙ c.in_default.is); fault = tt }

pub returns-in-Project : goal.returns-in-Project
returns-in-Project c = record {
  ok = let none = row_within c.args.loaded.now c.args.wrong table.Project c.in-Some.place c.requires (sym c.table.ensures ∙ c.in-Project.is) (sym c.place.ensures ∙ c.in-Some.is) in absurd (omega (arith, none));
  fault = tt;
}

pub returns-in-Workunit : goal.returns-in-Workunit
returns-in-Workunit c =
    let place = c.in-Some.place in
    let read : Workunit = get_or c.workunits.result.now place c.index-workunits-place.result in
    let within = subst (λ (ws : List Workunit). place < length ws) (sym c.workunits.ensures) (row_within c.args.loaded.now c.args.wrong table.Workunit place c.requires (sym c.table.ensures ∙ c.in-Workunit.is) (sym c.place.ensures ∙ c.in-Some.is)) in
    let there = subst (λ (ws : List Workunit). slice_get ws place ≡ Some read) c.workunits.ensures (slice_get-get_or c.workunits.result.now place c.index-workunits-place.result within) in
    record { ok = key_at c.args.loaded.now c.args.wrong table.Workunit place (key.Workunit read.number) (sym c.table.ensures ∙ c.in-Workunit.is) (sym c.place.ensures ∙ c.in-Some.is) (read, (place, refl, there), refl); fault = tt }

pub returns-in-Grant : goal.returns-in-Grant
returns-in-Grant c = record {
  ok = key_at c.args.loaded.now c.args.wrong table.Grant c.in-Some.place (key.Grant c.place_from_one.result) (sym c.table.ensures ∙ c.in-Grant.is) (sym c.place.ensures ∙ c.in-Some.is) (c.in-Some.place, refl, ap key.Grant c.place_from_one.ensures);
  fault = tt;
}

pub returns-in-Archived : goal.returns-in-Archived
returns-in-Archived c = record {
  ok = key_at c.args.loaded.now c.args.wrong table.Archived c.in-Some.place (key.Archived c.place_from_one-in-Archived.result) (sym c.table.ensures ∙ c.in-Archived.is) (sym c.place.ensures ∙ c.in-Some.is) (c.in-Some.place, refl, ap key.Archived c.place_from_one-in-Archived.ensures);
  fault = tt;
}

pub returns-in-Import : goal.returns-in-Import
returns-in-Import c = record {
  ok = IfOk-weaker c.import_key.result _ _ (λ k is. key_at c.args.loaded.now c.args.wrong table.Import c.in-Some.place k (sym c.table.ensures ∙ c.in-Import.is) (sym c.place.ensures ∙ c.in-Some.is) is) c.import_key.ensures.ok;
  fault = c.import_key.ensures.fault;
}

pub class_key-requires : goal.class_key-requires
class_key-requires c = row_within c.args.loaded.now c.args.wrong table.HostClass c.in-Some.place c.requires (sym c.table.ensures ∙ c.in-HostClass.is) (sym c.place.ensures ∙ c.in-Some.is)

pub returns-in-HostClass : goal.returns-in-HostClass
returns-in-HostClass c = record {
  ok = IfOk-weaker c.class_key.result _ _ (λ k is. key_at c.args.loaded.now c.args.wrong table.HostClass c.in-Some.place k (sym c.table.ensures ∙ c.in-HostClass.is) (sym c.place.ensures ∙ c.in-Some.is) is) c.class_key.ensures.ok;
  fault = c.class_key.ensures.fault;
}
