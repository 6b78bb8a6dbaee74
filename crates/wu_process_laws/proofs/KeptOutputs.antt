-- From what was kept of a copy to the outputs of the files.
use Rattle.std.proofs.Common.{◌≡◌, ℕ, List, Result, Ok, Err, inl, inr, sym, ap, subst}
use Rattle.std.specs.Prelude.{MatchResult}
use Rattle.sqlite_disk.specs.declared.Files.{Files}
use Rattle.wu_process.specs.declared.memory_file.MemoryFile.{MemoryFile}
use Rattle.sqlite_wal.specs.Recovery.{Image}
use Rattle.sqlite_store.specs.declared.store.FileStore.{FileStore}
use Rattle.sqlite.specs.Effect.{Database}
use Rattle.sqlite.specs.Files.{file_state, image_of, over_files}
use Rattle.sqlite.specs.Held.{Held}
use Rattle.wu_schema.specs.Refines.{Refines}
use Rattle.wu_core.specs.World.{World}
use Rattle.wu_core.specs.declared.fault.Fault.{Fault}
use Rattle.wu_check.specs.declared.finding.Counts.{Counts}
use Rattle.wu_check.specs.declared.finding.Verdict.{Verdict}
use Rattle.wu_check.specs.declared.finding.Verdict.TheVariants as verdict
use Rattle.wu_stops.specs.Beginning.{HoldsWorld}
use Rattle.wu_store.specs.StandsFor.{KnowsClasses}
use Rattle.wu_views.specs.Lines.{archived_lines}
use Rattle.wu_arguments.specs.declared.order.OutputFiles.{OutputFiles}
use Rattle.wu_cli.specs.Backups.{AreOfVerdict, CountsSound}
use Rattle.wu_cli.specs.Outputs.{HaveFront, KeepsOutputs, KeepsRows}
use Rattle.wu_cli.specs.declared.outputs.KeptCounts.{KeptCounts}
use Rattle.wu_cli.specs.declared.outputs.LostOutput.{LostOutput}
use Rattle.wu_cli.specs.declared.trouble.Trouble.{Trouble}
use Rattle.wu_cli.specs.declared.trouble.Trouble.TheVariants as trouble
use Rattle.wu_process.specs.Checks.{IsOpenedIn}
use Rattle.wu_process.specs.MemoryFiles.{memory_disk}
use Rattle.wu_process.specs.Outputs.{KeepsOpened}
use Rattle.wu_process_laws.specs.Checked.{image_of_bytes}
use Rattle.wu_process_laws.specs.KeptOutputs.{AreItsOutputs, EachOutputBeforeHasItsFile, EachOutputHasItsFile}
use Rattle.wu_process_laws.proofs.BackedUp.{found_stands, kept, sound}
use Rattle.wu_process_laws.proofs.Checked.{memory_clean}

-- no check reports an output without a file
not_lost : (v : Result Verdict Fault) (lost : LostOutput) → AreOfVerdict v (Err (trouble.Lost lost)) → ⊥
not_lost (Ok (verdict.Sound counts)) lost gives = cc
not_lost (Ok (verdict.Unsound found)) lost gives = cc
not_lost (Err fault) lost gives = cc

module _ (keeps : List ℕ → List ℕ → Type 0) (asked : OutputFiles) (files : Files MemoryFile) where
  abbrev image : Image
  image = image_of memory_disk files

  module _ (conn mid again : Held (FileStore MemoryFile memory_disk)) (opened : IsOpenedIn files conn) where
    -- the rows that are kept are those of each world of the files
    rows_of : (its : Counts) → CountsSound over_files conn mid (Ok its) → (done : Result KeptCounts Trouble) → KeepsOutputs over_files keeps asked mid again done
        → (world : World) → KnowsClasses world → HoldsWorld image world → KeepsRows keeps asked (archived_lines world) done
    rows_of its checks done ends world known held =
        let same : (file_state mid).now ≡ (file_state conn).now = elim (kept files conn opened mid its checks) [
          | inl is ↦ ap (λ (h : Held (FileStore MemoryFile memory_disk)). (file_state h).now) is
          | inr unchanged ↦ unchanged.0.now_is
        ] in
        let refines : Refines (file_state mid).now world = subst (λ (d : Database). Refines d world) (sym same) (found_stands files conn opened world held).refines in
        ends.archive (memory_clean again) world known refines

    its_outputs : (counts : KeptCounts) (its : Result Counts Trouble) → CountsSound over_files conn mid its
        → MatchResult its (λ _. KeepsOutputs over_files keeps asked mid again (Ok counts)) (λ told. ◌≡◌ {A = Result KeptCounts Trouble} (Ok counts) (Err told))
        → AreItsOutputs keeps image asked counts
    its_outputs counts (Ok its) checks ends = record { numbers = its; sound = sound files conn opened mid its checks; files = rows_of its checks (Ok counts) ends }
    its_outputs counts (Err told) checks ends = absurd (cc ends)

    its_front : (lost : LostOutput) (its : Result Counts Trouble) → CountsSound over_files conn mid its
        → MatchResult its (λ _. KeepsOutputs over_files keeps asked mid again (Err (trouble.Lost lost))) (λ told. ◌≡◌ {A = Result KeptCounts Trouble} (Err (trouble.Lost lost)) (Err told))
        → (world : World) → KnowsClasses world → HoldsWorld image world → HaveFront keeps asked (archived_lines world) (trouble.Lost lost)
    its_front lost (Ok its) checks ends world known held = rows_of its checks (Err (trouble.Lost lost)) ends world known held
    its_front lost (Err told) checks ends world known held =
        let same : told ≡ trouble.Lost lost = let e = ends in cc in
        absurd (not_lost checks.verdict lost (subst (λ t. AreOfVerdict checks.verdict (Err t)) same checks.gives))

  pub opened_outputs : (counts : KeptCounts) → KeepsOpened memory_disk keeps asked files (Ok counts) → AreItsOutputs keeps image asked counts
  opened_outputs counts it =
      let over = it.keeps_all.1 in
      its_outputs it.conn over.mid it.keeps_all.0 it.opened counts over.counts over.checks over.ends

  pub opened_front : (lost : LostOutput) → KeepsOpened memory_disk keeps asked files (Err (trouble.Lost lost))
      → (world : World) → KnowsClasses world → HoldsWorld image world → HaveFront keeps asked (archived_lines world) (trouble.Lost lost)
  opened_front lost it =
      let over = it.keeps_all.1 in
      its_front it.conn over.mid it.keeps_all.0 it.opened lost over.counts over.checks over.ends

pub each_output : {F : Type 0} (keeps : F → List ℕ → List ℕ → Type 0) → EachOutputHasItsFile keeps
each_output keeps files path asked counts it =
    let same : image_of memory_disk it.files ≡ image_of_bytes it.copy.bytes = λ i. record { log = it.copy.copied.log.same i; db = it.copy.copied.db.same i } in
    subst (λ (image : Image). AreItsOutputs (keeps files) image asked counts) same (elim it.keeps_all [
      | inl opened ↦ opened_outputs (keeps files) asked it.files counts opened
      | inr (told, unopened, why) ↦ absurd (let e = why in cc)
    ])

pub each_before : {F : Type 0} (keeps : F → List ℕ → List ℕ → Type 0) → EachOutputBeforeHasItsFile keeps
each_before keeps files path asked lost it =
    let same : image_of memory_disk it.files ≡ image_of_bytes it.copy.bytes = λ i. record { log = it.copy.copied.log.same i; db = it.copy.copied.db.same i } in
    subst (λ (image : Image). (world : World) → KnowsClasses world → HoldsWorld image world → HaveFront (keeps files) asked (archived_lines world) (trouble.Lost lost)) same (elim it.keeps_all [
      | inl opened ↦ opened_front (keeps files) asked it.files lost opened
      | inr (told, unopened, why) ↦ absurd (let e = why in let u = unopened.is in cc)
    ])
