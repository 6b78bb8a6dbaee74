-- Every step leads from a sound world to a sound one, and so does every list of requests.
use Rattle.std.proofs.Common.{◌≡◌, ℕ, ◌+◌, ◌≤◌, false, List, [], ◌∷◌, ◌++◌, length, None, Ok, Result, refl, sym, subst, arith, nat_lt}
use Rattle.std.proofs.lemmas.Bool.Decides.{nat_tests}
use Rattle.std.proofs.lemmas.List.Elements.{All-head, All-replicate, All-tail}
use Rattle.std.specs.List.{All, enumerate_from}
use Rattle.std.specs.Prelude.{find}
use Rattle.wu_core.specs.Limits.{class_version, most_workunits}
use Rattle.wu_core.specs.World.{World, Import, is_import, last_skip}
use Rattle.wu_core.specs.declared.fault.Fault.{Fault}
use Rattle.wu_core.specs.declared.import.ImportKind.TheVariants as kind
use Rattle.wu_feed.specs.Classes.{classes_of_file}
use Rattle.wu_feed.specs.Jobs.{jobs_of_file}
use Rattle.wu_feed.specs.Reports.{reports_of_file}
use Rattle.wu_feed.specs.Sends.{sends_of_file}
use Rattle.wu_feed.specs.Templates.{template_of}
use Rattle.wu_feed.proofs.RangeLemmas.{classes_ranged, jobs_ranged, reports_ranged, sends_ranged, template_ranged}
use Rattle.wu_core.specs.Storable.{AreVerdicts, IsName}
use Rattle.wu_machine.specs.Batches.{all_applied, first_number, with_jobs}
use Rattle.wu_machine.specs.FileRows.{Rule, after_classes, after_rows, report_rule, row_verdicts, send_rule}
use Rattle.wu_machine.specs.Imports.{batch_given, classes_given, Given, import_of, kept_import, reported_given, rows_read, sent_given}
use Rattle.wu_machine.specs.Machine.{done_now, fold_steps, HasValues, is_upgrade, present_version, step}
use Rattle.wu_machine.specs.Sound.{IsProject, IsSound}
use Rattle.wu_machine.specs.Requests.{Request, AskBatch, AskClasses, AskSent, AskReported, AskPass, AskCancel, AskUpgrade}
use Rattle.wu_machine.proofs.BatchKeeps.{keeps_project, news, with_kept}
use Rattle.wu_machine.proofs.ImportLemmas.{same_classes, same_rows}
use Rattle.wu_machine.proofs.StorableLemmas.{class_verdicts, report_verdicts, send_verdicts}
use Rattle.wu_machine_laws.proofs.Lasts.{lasts_beside, Leads, leads_same, leads_then}
use Rattle.wu_machine_laws.proofs.Middles.{to_pairs}
use Rattle.wu_machine_laws.proofs.Results.{asked, batch_by, By, classes_by, file_by, import_by, pass_by}
use Rattle.wu_machine_laws.proofs.SoundJobs.{free_of_archive, sound_jobs, sound_kept}
use Rattle.wu_machine_laws.proofs.SoundLemmas.{now_of, project_now, sound_now}
use Rattle.wu_machine_laws.proofs.SoundPasses.{sound_passed}
use Rattle.wu_machine_laws.proofs.SoundRows.{sound_cancelled, sound_classes, sound_reports, sound_sends}
use Rattle.wu_machine_laws.proofs.SoundParts.{Differ}

module _ (world : World) (sound : IsSound world) where
  -- where nothing is done
  stays : Leads world world
  stays = leads_same world sound

  -- an import that is kept behind what is done
  kept : (after : World) → Leads world after → (import : Import) → IsName import.name → AreVerdicts import.kind import.verdicts
      → find (is_import import.kind import.name) after.imports ≡ None → Leads world (with_kept import after)
  kept after leads import named told fresh = leads_then world after (with_kept import after) leads (sound_kept after leads.0 import named told fresh)

  -- a batch, whose names the world at the present version shows to be free
  batch_sound : (name template file : List ℕ) → IsName name → By (Leads world) world (done_now world (AskBatch name template file))
  batch_sound name template file named =
      let given = batch_given name template file in
      import_by (Leads world) world stays given (λ new. batch_by (Leads world) world stays given (template_of template) (jobs_of_file file)
      (λ params jobs template_is file_is free few.
      let within : world.next_number + length jobs ≤ most_workunits + 1 = grind (arith, nat_tests) in
      let after : IsProject (step (now_of world) (AskBatch name template file)) = keeps_project (now_of world) (project_now world sound) name template file in
      let project = rw (new, template_is, file_is, free, few) at after in
      let added : Leads world (with_jobs world params jobs) = sound_jobs params (template_ranged template params template_is) jobs
      (jobs_ranged file jobs file_is) world sound within
      (to_pairs Differ (world.workunits ++ news params (enumerate_from world.next_number jobs)) project.names) (free_of_archive world jobs free) in
      kept (with_jobs world params jobs) added (kept_import given (first_number world jobs) (all_applied jobs)) named
      (All-replicate (λ verdict. verdict ≤ last_skip kind.Batch) (length jobs) 0 (omega arith)) new))

  -- a file of rows that lead to a sound world, with verdicts of its kind
  file_sound : {Row : Type 0} (rule : Rule Row) (given : Given) (file : Result (List Row) Fault) → IsName given.name → import_of world given ≡ None
      → ((rows : List Row) → file ≡ Ok rows → Leads world (after_rows rule world rows) × AreVerdicts given.kind (row_verdicts rule world rows))
      → By (Leads world) world (rows_read rule given world file)
  file_sound rule given file named fresh keep = file_by (Leads world) world stays rule given file (λ rows is.
      kept (after_rows rule world rows) (keep rows is).0 (kept_import given 0 (row_verdicts rule world rows)) named (keep rows is).1
      (subst (λ imports. find (is_import given.kind given.name) imports ≡ None) (sym (same_rows rule world rows).imports) fresh))

  -- what is done now, of a version with classes unless it is an upgrade
  done_sound : (request : Request) → (is_upgrade request ≡ false → class_version ≤ world.version) → HasValues request
      → By (Leads world) world (done_now world request)
  done_sound (AskBatch name template file) young values = batch_sound name template file values
  done_sound (AskSent name file) young values =
      let given = sent_given name file in
      import_by (Leads world) world stays given (λ new. file_sound (send_rule world.classes) given (sends_of_file file) values new (λ rows is.
      (sound_sends world.classes sound.classed rows (sends_ranged file rows is) world (young refl) sound, send_verdicts world.classes rows world)))
  done_sound (AskReported name file) young values =
      let given = reported_given name file in
      import_by (Leads world) world stays given (λ new. file_sound report_rule given (reports_of_file file) values new (λ rows is.
      (sound_reports rows (reports_ranged file rows is) world (young refl) sound, report_verdicts rows world)))
  done_sound (AskClasses name file) young values =
      let given = classes_given name file in
      import_by (Leads world) world stays given (λ new. classes_by (Leads world) world stays given (classes_of_file file) (λ rows is.
      kept (after_classes world rows) (sound_classes rows (classes_ranged file rows is) world (young refl) sound) (kept_import given 0 (all_applied rows))
      values (class_verdicts rows)
      (subst (λ imports. find (is_import given.kind given.name) imports ≡ None) (sym (same_classes world rows).imports) new)))
  done_sound (AskPass pass now limit min_age) young values =
      pass_by (Leads world) world stays pass now limit min_age (sound_passed pass now limit min_age values world sound (young refl))
  done_sound (AskCancel name) young values = sound_cancelled world sound (young refl) name
  done_sound AskUpgrade young values = (sound_now world sound, lasts_beside world world.imports world.classes present_version)

  -- a step leads to a sound world
  pub sound_step : (request : Request) → HasValues request → Leads world (step world request)
  sound_step request values = asked (Leads world) world stays request (λ younger. done_sound request (λ other.
      let known : nat_lt world.version present_version ≡ false = younger other in grind (arith, nat_tests)) values)

-- so does a list of requests
pub sound_steps : (requests : List Request) (world : World) → All HasValues requests → IsSound world → Leads world (fold_steps world requests)
sound_steps [] world values sound = leads_same world sound
sound_steps (request ∷ requests) world values sound =
    let one = sound_step world sound request (All-head HasValues request requests values) in
    leads_then world (step world request) _ one (sound_steps requests (step world request) (All-tail HasValues request requests values) one.0)
