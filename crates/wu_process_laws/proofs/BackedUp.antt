-- From what a backup did to what its new file holds.
use Rattle.std.proofs.Common.{◌≡◌, ◌∙◌, ℕ, List, Option, Some, Result, Ok, Err, inl, inr, refl, sym, ap, subst}
use Rattle.std.proofs.Math.Logic.{∥∥₁_elim}
use Rattle.std.specs.Prelude.{IfOk, IfSome, MatchResult, OnOk}
use Rattle.sqlite_disk.specs.declared.Files.{Files}
use Rattle.wu_process.specs.declared.memory_file.MemoryFile.{MemoryFile}
use Rattle.sqlite_trees.specs.Tree.{Trees}
use Rattle.sqlite_wal.specs.Recovery.{Image}
use Rattle.sqlite_store.specs.declared.store.FileStore.{FileStore}
use Rattle.sqlite.specs.Effect.{Database, IsDatabase}
use Rattle.sqlite.specs.Files.{AreFoundIn, file_state, HoldsDatabase, image_of, over_files}
use Rattle.sqlite.specs.Held.{Held}
use Rattle.wu_check.specs.Findings.{IsSoundAs}
use Rattle.wu_check.specs.declared.finding.Verdict.{Verdict}
use Rattle.wu_check.specs.declared.finding.Verdict.TheVariants as verdict
use Rattle.wu_core.specs.declared.fault.Fault.{Fault}
use Rattle.wu_core.specs.World.{World}
use Rattle.wu_stops.specs.Beginning.{HoldsWorld}
use Rattle.wu_tables.specs.Others.{HasOnlyAProject}
use Rattle.wu_schema.specs.Asking.{Asks, IsAsBefore}
use Rattle.wu_schema.specs.Refines.{Refines}
use Rattle.wu_stops.proofs.BeginningLemmas.{goes_from, finds_in}
use Rattle.wu_store.specs.StandsFor.{StandsFor}
use Rattle.wu_cli.specs.Backups.{AreOfVerdict, CountsSound}
use Rattle.wu_check.specs.declared.finding.Counts.{Counts}
use Rattle.wu_cli.specs.declared.trouble.Trouble.{Trouble}
use Rattle.wu_cli.specs.declared.trouble.Trouble.TheVariants as trouble
use Rattle.wu_process.specs.Backups.{BecomesFile, ClosesFolded, Folds, IsFilledWith, LoadsWorld, may_become}
use Rattle.wu_process.specs.Checks.{IsOpenedIn}
use Rattle.wu_process.specs.Closing.{IsClosedInto}
use Rattle.wu_process.specs.MemoryFiles.{bytes_held, memory_disk}
use Rattle.wu_process.specs.declared.backup.Checked.{Checked}
use Rattle.wu_process.specs.declared.backup.Folded.{Folded}
use Rattle.wu_process_laws.specs.BackedUp.{EachBackupHolds, HasNoOthers, HoldsTables, IsBackupOf, without_log}
use Rattle.wu_process_laws.specs.Checked.{FindsWith, image_of_bytes}
use Rattle.wu_process_laws.proofs.Checked.{found_in_order, memory_clean, sound_counts}
use Rattle.wu_process_laws.proofs.RefilledLemmas.{stands_again}

-- what holds of an answer that gave numbers
pub of_counts : (v : Result Verdict Fault) (its : Counts) (A : Type 0) → AreOfVerdict v (Ok its) → OnOk v A → A
of_counts (Ok (verdict.Sound counts)) its A gives holds = holds
of_counts (Ok (verdict.Unsound found)) its A gives holds = absurd cc
of_counts (Err fault) its A gives holds = absurd cc

-- of two answers that are the same
same_checked : (a b : Checked) → ◌≡◌ {A = Result Checked Trouble} (Ok a) (Ok b) → a ≡ b
same_checked a b same = cc

-- ---- the copy that was closed

abbrev Copy : Type 0
Copy = Held (FileStore MemoryFile memory_disk)

-- what is as before has the same database
module _ (a b : Copy) (same : IsAsBefore over_files a b) where
  same_committed : (file_state b).committed ≡ (file_state a).committed
  same_committed = elim same [
    | inl is ↦ ap (λ (h : Copy). (file_state h).committed) is
    | inr unchanged ↦ unchanged.0.committed_is
  ]

  same_now : (file_state b).now ≡ (file_state a).now
  same_now = elim same [
    | inl is ↦ ap (λ (h : Copy). (file_state h).now) is
    | inr unchanged ↦ unchanged.0.now_is
  ]

module _ (files : Files MemoryFile) (conn : Copy) (opened : IsOpenedIn files conn) where
  abbrev image : Image
  image = image_of memory_disk files

  found_image : AreFoundIn image (file_state conn).now.trees
  found_image =
      let opens = opened.opens (memory_clean conn) in
      subst (λ (d : Database). AreFoundIn image d.trees) (sym opens.0.clean) (opened.finds (memory_clean conn)).reads

  -- the database of a world that the files hold is that of the world
  pub found_stands : (world : World) → HoldsWorld image world → StandsFor (file_state conn).now world
  found_stands world held =
      let opens = opened.opens (memory_clean conn) in
      ((goes_from conn opens image (finds_in files conn (opened.finds (memory_clean conn))) (λ file. refl) world held).stands opens.0.is_open).0

  module _ (mid : Copy) (its : Counts) (checks : CountsSound over_files conn mid (Ok its)) where
    pub kept : IsAsBefore over_files conn mid
    kept = of_counts checks.verdict its _ checks.gives (checks.checks.asks.answered (memory_clean mid))

    pub sound : FindsWith image (λ db. IsSoundAs db its)
    sound =
        let db = (file_state conn).now in
        let opens = opened.opens (memory_clean conn) in
        let right : IsDatabase db = (opens.1 opens.0.is_open).0 in
        record {
          db = db;
          found = found_image;
          sound = right;
          holds = λ whole. sound_counts checks.verdict its db checks.gives (checks.checks.sound (memory_clean mid) (record { ordered = found_in_order image db found_image right; whole = whole }));
        }

    -- the world was loaded, or not, and all is as before
    loaded_as : (again : Copy) (world : Result (Option World) Fault) (checked : Checked) → Asks over_files mid again world
        → MatchResult world (λ it. ◌≡◌ {A = Result Checked Trouble} (Ok checked) (Ok (record { counts = its; world = it }))) (λ fault. ◌≡◌ {A = Result Checked Trouble} (Ok checked) (Err (trouble.Fault fault)))
        → (found : Option World) × (world ≡ Ok found) × (checked ≡ record { counts = its; world = found }) × IsAsBefore over_files mid again
    loaded_as again (Ok found) checked asks gives = (found, refl, same_checked checked (record { counts = its; world = found }) gives, asks.answered (memory_clean again))
    loaded_as again (Err fault) checked asks gives = absurd (let e = gives in cc)

    module _ (again : Copy) (checked : Checked) (loads : LoadsWorld over_files mid again its (Ok checked)) where
      abbrev loaded : (found : Option World) × (loads.world ≡ Ok found) × (checked ≡ record { counts = its; world = found }) × IsAsBefore over_files mid again
      loaded = loaded_as again loads.world checked loads.asks loads.gives

      its_counts : checked.counts ≡ its
      its_counts = ap (λ (c : Checked). c.counts) loaded.2

      -- the closed copy holds all tables
      holds_tables : (closed : Files MemoryFile) → IsClosedInto again closed → HoldsTables image (bytes_held closed.db)
      holds_tables closed closes db held =
          let copied = closes.copied refl in
          let finds = opened.finds (memory_clean conn) in
          let same = same_committed mid again loaded.3 ∙ same_committed conn mid kept in
          subst (λ (ts : Trees). ∥ HoldsDatabase (without_log (bytes_held closed.db)) ts ∥₁) (ap (λ (d : Database). d.trees) same ∙ finds.holds db held) copied.seen.alone

      -- if a world was loaded, the files hold nothing of another program, and it is that of each world of them
      module _ (it : World) (is : checked.world ≡ Some it) where
        found : loads.world ≡ Ok (Some it)
        found = loaded.1 ∙ ap Ok (sym (ap (λ (c : Checked). c.world) loaded.2) ∙ is)

        only : HasOnlyAProject (file_state conn).now.schema
        only =
            let Only : Database → Result (Option World) Fault → Type 0 = λ d r. IfOk r (λ o. IfSome o (λ _. HasOnlyAProject d.schema)) in
            let here : HasOnlyAProject (file_state mid).now.schema = subst (Only (file_state mid).now) found (loads.found.only (memory_clean again)) in
            subst (λ (d : Database). HasOnlyAProject d.schema) (same_now conn mid kept) here

        theirs : (world : World) → HoldsWorld image world → Refines (file_state conn).now it
        theirs world held =
            let same = same_now conn mid kept in
            let Theirs : Result (Option World) Fault → Type 0 = λ r. IfOk r (λ o. IfSome o (Refines (file_state mid).now)) in
            let stands : Refines (file_state mid).now world = subst (λ (d : Database). Refines d world) (sym same) (found_stands world held).refines in
            let here : Refines (file_state mid).now it = subst Theirs found (loads.found.theirs (memory_clean again) world stands) in
            subst (λ (d : Database). Refines d it) same here

      -- and new files with it hold each of these worlds
      module _ (new : Files MemoryFile) (it : World) (is : checked.world ≡ Some it) (filled : IsFilledWith it new) where
        refilled : (world : World) → HoldsWorld image world → ∥ HoldsWorld (without_log (bytes_held new.db)) world ∥₁
        refilled world held =
            let last = filled.fills.again in
            let done = filled.fills.fills (memory_clean last) in
            let copied = filled.fills.closed.copied refl in
            let stands = stands_again (file_state conn).now (file_state last).now it world (theirs it is world held) (found_stands world held).refines done.makes.stands in
            ∥∥₁_elim copied.seen.alone squash₁ (λ holds. ∣ record {
              trees = (file_state last).committed.trees;
              holds = holds;
              found = record { database = (file_state last).now; same = ap (λ (d : Database). d.trees) (sym done.committed); stands = stands };
            } ∣₁)

        no_others : HasNoOthers image
        no_others = record { db = (file_state conn).now; found = found_image; only = only it is }

  -- tables that are all there are those of each world
  held_by_tables : (bytes : List ℕ) → HoldsTables image bytes → (world : World) → HoldsWorld image world → ∥ HoldsWorld (without_log bytes) world ∥₁
  held_by_tables bytes tables world held = ∥∥₁_elim (tables held.trees held.holds) squash₁ (λ it. ∣ record { trees = held.trees; holds = it; found = held.found } ∣₁)

  module _ (to : List ℕ) (folded : Folded MemoryFile) (counts : Counts) (file : BecomesFile may_become to folded (Ok counts)) where
    backup_closed : (mid again : Copy) (its : Counts) (checks : CountsSound over_files conn mid (Ok its)) (checked : Checked) → LoadsWorld over_files mid again its (Ok checked) → ClosesFolded again checked (Ok folded)
        → IsBackupOf image (bytes_held file.files.db) counts
    backup_closed mid again its checks checked loads closes =
        let numbers : its ≡ counts = sym (its_counts mid its checks again checked loads) ∙ sym (ap (λ (c : Checked). c.counts) closes.0) ∙ sym file.makes_file.1 in
        let right = subst (λ (c : Counts). FindsWith image (λ db. IsSoundAs db c)) numbers (sound mid its checks) in
        elim file.source [
          | inl same ↦
              let tables = subst (λ (f : Files MemoryFile). HoldsTables image (bytes_held f.db)) (sym same) (holds_tables mid its checks again checked loads folded.files closes.1) in
              record { world = held_by_tables (bytes_held file.files.db) tables; others = inl tables; sound = right }
          | inr (it, of, filled) ↦
              let is : checked.world ≡ Some it = sym (ap (λ (c : Checked). c.world) closes.0) ∙ of in
              record { world = refilled mid its checks again checked loads file.files it is filled; others = inr (no_others mid its checks again checked loads file.files it is filled); sound = right }
        ]

    backup_counted : (mid again : Copy) (counted : Result Counts Trouble) → CountsSound over_files conn mid counted → (checked : Result Checked Trouble)
        → MatchResult counted (λ its. LoadsWorld over_files mid again its checked) (λ told. checked ≡ Err told) → MatchResult checked (λ it. ClosesFolded again it (Ok folded)) (λ told. ◌≡◌ {A = Result (Folded MemoryFile) Trouble} (Ok folded) (Err told))
        → IsBackupOf image (bytes_held file.files.db) counts
    backup_counted mid again (Ok its) checks (Ok checked) loads closes = backup_closed mid again its checks checked loads closes
    backup_counted mid again (Err why) checks (Ok checked) loads closes = absurd (let e = loads in cc)
    backup_counted mid again counted checks (Err told) loads closes = absurd (let e = closes in cc)

    backup_of : Folds conn (Ok folded) → IsBackupOf image (bytes_held file.files.db) counts
    backup_of folds = backup_counted folds.checks.mid folds.again folds.checks.counts folds.checks.checks folds.checked folds.checks.loads folds.ends

pub each_backup : EachBackupHolds
each_backup path to made it folded is counts file =
    let same : image_of memory_disk it.files ≡ image_of_bytes it.copy.bytes = λ i. record { log = it.copy.copied.log.same i; db = it.copy.copied.db.same i } in
    subst (λ (image : Image). IsBackupOf image (bytes_held file.files.db) counts) same (elim it.folds [
      | inl (conn, opened, folds) ↦ backup_of it.files conn opened to folded counts file (subst (λ done. Folds conn done) is folds)
      | inr (told, unopened, why) ↦ absurd (let e = why in let f = is in cc)
    ])
