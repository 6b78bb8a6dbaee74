use Rattle.wu_schema.proofs.Words.{rules}
use Rattle.std.proofs.Common.{◌∙◌, refl, subst}
use Rattle.sqlite.specs.Held.{state}
use Rattle.wu_schema.proofs.CallLemmas.{ok_both, ok_on}
use Rattle.wu_store.proofs.MarkedLemmas.{stands_kept, stands_without}
use Rattle.wu_store.proofs.PlacedLemmas.{placed_above}
use Rattle.wu_store.specs.Changes.{AddsGrants, with_archived, with_grants, with_import, with_next}
use Rattle.wu_store.specs.Changing.{import_of_change}
use Rattle.wu_store.specs.StandsFor.{StandsFor, marked}
use Rattle.wu_store.proofs.SpareLemmas.{project_there, there_in}
use Rattle.wu_store.proofs.ChangingLemmas.{makes_one}
use Rattle.wu_store.proofs.changes.make.Goals as goal
use Rattle.wu_schema.specs.declared.table.ProjectTable.TheVariants as the_table

pub returns-in-Add : goal.returns-in-Add
returns-in-Add g c = record {
  works = search rules;
  makes = λ clean.
      makes_one c.add.result _ _ _ _ c.in-Add.is
      (ok_on c.add.result _ _ (λ adds world stands right. subst (StandsFor _) (placed_above c.in-Add.workunit world right.0.1) (adds world right.0.0 stands)) (c.add.ensures.makes clean))
      (ok_on c.add.result _ _ (λ spares world stands right. (spares (there_in _ world right.0.0 stands)).1) (c.add.ensures.spares clean));
}

pub returns-in-Replace : goal.returns-in-Replace
returns-in-Replace g c = record {
  works = search rules;
  makes = λ clean.
      makes_one c.replace.result _ _ _ _ c.in-Replace.is
      (ok_on c.replace.result _ _ (λ replaces world stands right. replaces world right.0.0 stands right.0.1) (c.replace.ensures.puts clean))
      (ok_on c.replace.result _ _ (λ spares world stands right. (spares (there_in _ world right.0.0 stands)).1) (c.replace.ensures.spares clean));
}

pub returns-in-Remove : goal.returns-in-Remove
returns-in-Remove g c = record {
  works = search rules;
  makes = λ clean.
      makes_one c.delete_workunit.result _ _ _ _ c.in-Remove.is
      (ok_both c.delete_workunit.result _ _ _ (λ deletes goes world stands right. stands_without _ _ world c.in-Remove.number stands deletes goes) (c.delete_workunit.ensures.makes clean) (c.delete_workunit.ensures.keeps clean))
      (ok_on c.delete_workunit.result _ _ (λ spares world stands right. (spares (((stands.refines.trees the_table.Workunit), (stands.refines.tables.each the_table.Workunit tt)), tt)).1) (c.delete_workunit.ensures.spares clean));
}

pub returns-in-Grants : goal.returns-in-Grants
returns-in-Grants g c = record {
  works = search rules;
  makes = λ clean.
      let old = (state g.S.Store c.args.tx.now.conn.now).now in
      let new = (state g.S.Store c.add_grants.new.tx.conn.now).now in
      makes_one c.add_grants.result _ _ old new c.in-Grants.is
      (ok_both c.add_grants.result _ _ _ (λ adds keeps world stands right.
      let all : AddsGrants c.in-Grants.place c.in-Grants.grants.items c.in-Grants.sums.items old new = subst (λ gs. AddsGrants c.in-Grants.place gs c.in-Grants.sums.items old new) c.as_slice.ensures.value (subst (λ ss. AddsGrants c.in-Grants.place c.as_slice.result.now ss old new) c.as_slice-in-Grants.ensures.value adds) in
      stands_kept old new world (with_grants c.in-Grants.grants.items world) stands (λ queued. queued) refl (all world stands.refines right.0.0 right.0.1) keeps) (c.add_grants.ensures.adds clean) (c.add_grants.ensures.queue clean))
      (ok_on c.add_grants.result _ _ (λ spares world stands right. spares world stands.refines) (c.add_grants.ensures.spares clean));
}

pub returns-in-Archive : goal.returns-in-Archive
returns-in-Archive g c = record {
  works = search rules;
  makes = λ clean.
      makes_one c.insert_archived.result _ _ _ _ c.in-Archive.is
      (ok_both c.insert_archived.result _ _ _ (λ puts keeps world stands right.
      stands_kept _ _ world (with_archived c.in-Archive.archived world) stands (λ queued. queued) refl (puts world stands.refines right.0) keeps) (c.insert_archived.ensures.makes clean) (c.insert_archived.ensures.keeps clean))
      (ok_on c.insert_archived.result _ _ (λ spares world stands right. (spares (((stands.refines.trees the_table.Archived), (stands.refines.tables.each the_table.Archived tt)), tt)).1) (c.insert_archived.ensures.spares clean));
}

pub returns-in-Next : goal.returns-in-Next
returns-in-Next g c = record {
  works = search rules;
  makes = λ clean.
      makes_one c.set_next_number.result _ _ _ _ c.in-Next.is
      (ok_both c.set_next_number.result _ _ _ (λ sets keeps world stands right.
      stands_kept _ _ world (with_next c.in-Next.number world) stands (λ queued. queued) refl (sets world stands.refines) keeps) (c.set_next_number.ensures.makes clean) (c.set_next_number.ensures.keeps clean))
      (ok_on c.set_next_number.result _ _ (λ spares world stands right. (spares (project_there _ world stands.refines)).1) (c.set_next_number.ensures.spares clean));
}

pub returns-in-Keep : goal.returns-in-Keep
returns-in-Keep g c = record {
  works = search rules;
  makes = λ clean.
      makes_one c.insert_import.result _ _ _ _ c.in-Keep.is
      (ok_both c.insert_import.result _ _ _ (λ puts keeps world stands right.
      stands_kept _ _ world (with_import (import_of_change c.in-Keep.import) world) stands (λ queued. queued) refl (puts world stands.refines right.0) keeps) (c.insert_import.ensures.makes clean) (c.insert_import.ensures.keeps clean))
      (ok_on c.insert_import.result _ _ (λ spares world stands right. (spares (((stands.refines.trees the_table.Import), (stands.refines.tables.each the_table.Import tt)), tt)).1) (c.insert_import.ensures.spares clean));
}

pub returns-in-Class : goal.returns-in-Class
returns-in-Class g c = record {
  works = search rules;
  makes = λ clean.
      makes_one c.put_host_class.result _ _ _ _ c.in-Class.is
      (ok_on c.put_host_class.result _ _ (λ sets world stands right. record {
        refines = sets.stands world right.0 stands.refines;
        queue = λ queued. sets.queue world (marked world) right.0 stands.refines (stands.queue queued);
      }) (c.put_host_class.ensures.makes clean))
      (ok_on c.put_host_class.result _ _ (λ spares world stands right. (spares (((stands.refines.trees the_table.HostClass), stands.refines.tables.each the_table.HostClass right.0), tt)).1) (c.put_host_class.ensures.spares clean));
}

pub returns-in-Upgrade : goal.returns-in-Upgrade
returns-in-Upgrade g c = record {
  works = search rules;
  makes = λ clean.
      makes_one c.upgrade.result _ _ _ _ c.in-Upgrade.is
      (ok_on c.upgrade.result _ _ (λ upgrades world stands right.
      let (from, older, same) = right.0 in
      upgrades world from older stands (c.as_slice-in-Upgrade.ensures.value ∙ same)) (c.upgrade.ensures.makes clean))
      (ok_on c.upgrade.result _ _ (λ spares world stands right. let (from, older, same) = right.0 in spares world from stands (c.as_slice-in-Upgrade.ensures.value ∙ same)) (c.upgrade.ensures.spares clean));
}
