-- What the first of two runs leaves of its files, and what the second finds there.
use Rattle.std.proofs.Common.{◌≡◌, ◌≤◌, ℕ, IsTrue, List, [], IfSome, None, Option, Some, inl, inr, length, take, sym, subst, ◌∙◌, arith}
use Rattle.std.proofs.lemmas.Bool.{cases_Bool}
use Rattle.std.proofs.Math.Logic.{∥∥₁_map}
use Rattle.sqlite_disk.specs.declared.Disk.{Ghosts}
use Rattle.sqlite_disk.specs.declared.Files.{Files}
use Rattle.sqlite_wal.specs.Files.{outcomes}
use Rattle.sqlite_wal.specs.Reads.{AreClean}
use Rattle.sqlite_wal.specs.Recovery.{Image}
use Rattle.sqlite_wal.proofs.LogLemmas.{SeenMayStay}
use Rattle.sqlite_pool.proofs.StateLemmas.{clean_is, may_leave_is}
use Rattle.sqlite_trees.specs.View.{IsClean, IsQuiet}
use Rattle.sqlite_trees.proofs.Doubt.{no_doubt}
use Rattle.sqlite_store.specs.declared.store.FileStore.{FileStore}
use Rattle.sqlite_store.specs.FileStore.{state, view, faults, recovers, is_shielded, files as store_files}
use Rattle.sqlite.specs.Closing.{IsCopied}
use Rattle.sqlite_store.specs.Laws.{stays_at}
use Rattle.sqlite.specs.Files.{file_state, over_files}
use Rattle.sqlite.specs.Held.{Held, AreDatabases}
use Rattle.sqlite.specs.State.{HasCleanDisk}
use Rattle.sqlite.specs.Tree.{Trees}
use Rattle.sqlite.proofs.Theorems.{opens_again}
use Rattle.wu_core.specs.World.{World}
use Rattle.wu_drive.specs.Driving.{AnswerAll, DrivesProject, EndsBy, world_after}
use Rattle.wu_drive.specs.Running.{RunsList}
use Rattle.wu_drive.specs.declared.runs.Run.{Run}
use Rattle.wu_machine.specs.Sessions.{world_of_life}
use Rattle.sqlite_trees.specs.declared.store.Store as Store
use Rattle.wu_machine.specs.declared.command.Answer.{Answer}
use Rattle.wu_machine.specs.declared.command.Command.{Command}
use Rattle.wu_passes.specs.Projects.{IsOver, IsSessionOpen, IsSessionEnded, KnowsTables, state_of}
use Rattle.wu_passes.specs.Standing.{GoesOn, IsFailure}
use Rattle.wu_passes.specs.declared.project.Project.{Project}
use Rattle.wu_lives.specs.Reopening.{IsLeftByRun}
use Rattle.wu_lives.specs.Runs.{BeginsOver, DoesFirst, HoldsBeginningIn, LivesOn, told_by}
use Rattle.wu_lives.proofs.ReopeningLemmas.{IsBeginning, answers_none, beginning_none, beginning_of, lived_more}

-- a connection was let go, and its two files
module _ {D : Type 0} {g : Ghosts D} (old : Held (FileStore D g)) (store : FileStore D g) (files : Files D)
    (numbered : IsClean (view store) → IsTrue (view store).is_numbered) (sound : IsClean (view store) → AreDatabases (recovers store)) (quiet : IsQuiet view faults recovers is_shielded old.store store)
    (is : (files.log, files.db) ≡ store_files store) (honest : AreClean g files.log files.db) where
  sure : AreClean g (store_files store).0 (store_files store).1
  sure = subst (λ (p : D × D). AreClean g p.0 p.1) is honest

  clean : IsClean (view store)
  clean = no_doubt _ (clean_is store.pool ∙ sure)

  pub was_clean : HasCleanDisk (file_state old)
  was_clean = let now = clean in omega (arith, now, quiet.clean)

  -- each image that a stop may leave of them holds tables that the stop could leave of the connection
  pub beginning_in : (world : World) (commands : List Command) (run : Run) → ((db : Trees) → (file_state old).may_leave db → IsBeginning world commands run db)
      → (image : Image) → outcomes g files.log files.db image → ∥ HoldsBeginningIn world commands run image ∥₁
  beginning_in world commands run each image may =
      let allowed : (state store).may_leave image = may_leave_is store.pool image sure (subst (λ (p : D × D). outcomes g p.0 p.1 image) is may) in
      ∥∥₁_map (opens_again store (numbered clean) (sound clean) image allowed) (λ it.
      let begins : IsBeginning world commands run it.0 = each it.0 (quiet.outcomes it.0 it.1) in
      record { count = begins.count; kept = begins.kept; held = record { trees = it.0; holds = it.2; found = begins.found }; project = begins.project })

-- a close gave the files back, which hold the last commit
pub beginning_copied : {D : Type 0} {g : Ghosts D} (old : Held (FileStore D g)) (files : Files D) → SeenMayStay g → IsCopied old files → (world : World) (commands : List Command) (run : Run)
    → ((db : Trees) → (file_state old).may_leave db → IsBeginning world commands run db) → (image : Image) → outcomes g files.log files.db image → ∥ HoldsBeginningIn world commands run image ∥₁
beginning_copied old files stays copied world commands run each image may =
    ∥∥₁_map (copied.left image may).both (λ holds.
    let begins : IsBeginning world commands run (file_state old).committed.trees = each (file_state old).committed.trees (stays_at old.store stays copied.was_open) in
    record { count = begins.count; kept = begins.kept; held = record { trees = (file_state old).committed.trees; holds = holds; found = begins.found }; project = begins.project })

-- what a run left of its session stands for the world after a beginning of its list
module _ {D : Type 0} {g : Ghosts D} (old mid : Project (FileStore D g) over_files) (commands : List Command) (answers : List Answer) (run : Run) (counted : length answers ≡ run.acknowledged)
    (drives : DrivesProject old mid commands answers run) (ends : IsSessionOpen old → IsSessionEnded mid → EndsBy run IsFailure) (ended : IsSessionEnded old → (mid ≡ old) × (run.acknowledged ≡ 0)) (clean : HasCleanDisk (state_of mid)) (world : World) (over : IsOver old world) where
  pub begins_at : (db : Trees) → (state_of mid).may_leave db → IsBeginning world commands run db
  begins_at db may = elim (cases_Bool old.has_ended) [
    | inl was ↦
        let (same, none) = ended was in
        beginning_none world commands (state_of mid) over.is_project db may run none (subst (λ (p : Project (FileStore D g) over_files). GoesOn (state_of p) world) (sym same) over.goes)
    | inr going ↦ beginning_of world commands (state_of mid) over.is_project db may answers run mid.has_ended (ends going) (drives going clean world over)
  ]

  pub answered_at : AnswerAll world (take run.acknowledged commands) answers
  answered_at = elim (cases_Bool old.has_ended) [
    | inl was ↦ answers_none world commands answers run (ended was).1 counted
    | inr going ↦ (drives going clean world over).answered
  ]

-- so the machine does what a run did, as it left its session
module _ {D W : Type 0} {g : Ghosts D} {contents : W → Option (List ℕ)} {old mid : Project (FileStore D g) over_files} {out_old out_new : W} {commands : List Command} {run : Run}
    (it : RunsList contents old mid out_old out_new commands run) where
  pub left_by : IsLeftByRun old commands run mid
  left_by = record { ends = it.ends; broken = it.broken; same = λ was. (it.ended was).0; lives = it.lives }

  nothing : IsSessionEnded old → (mid ≡ old) × (run.acknowledged ≡ 0)
  nothing was = ((it.ended was).0, (it.ended was).2)

  pub does_first : (files : Files D) → (AreClean g files.log files.db → HasCleanDisk (state_of mid))
      → (AreClean g files.log files.db → (world : World) → ((db : Trees) → (state_of mid).may_leave db → IsBeginning world commands run db)
      → (image : Image) → outcomes g files.log files.db image → ∥ HoldsBeginningIn world commands run image ∥₁)
      → DoesFirst old commands run it.answers.0 files
  does_first files early each =
      let (answers, written, drives, drives_from) = it.answers in
      record {
        replies = λ honest world over. answered_at old mid commands answers run written.counted drives it.ends nothing (early honest) world over;
        beginnings = λ honest world over. each honest world (begins_at old mid commands answers run written.counted drives it.ends nothing (early honest) world over);
        why = λ going honest world over. (drives going (early honest) world over).end;
      }

-- the second run opened such an image, and the life goes on over both
pub lives_on : {D T : Type 0} {g : Ghosts D} {h : Store.Ghosts T} (old : Project (FileStore D g) over_files) (commands : List Command) (run : Run) (answers : List Answer) (files : Files D) (image : Image) (new : Project T h)
    → DoesFirst old commands run answers files → BeginsOver image (state_of new) → KnowsTables new → LivesOn old commands run answers files image new
lives_on old commands run answers files image new does begins knows honest may clean world told lived =
    let start : World = world_of_life world lived.life in
    ∥∥₁_map (does.beginnings honest start lived.over image may) (λ it.
    let first : 1 ≤ (world_after start commands it.count).version = it.project.first in
    let goes : GoesOn (state_of new) (world_after start commands it.count) = (begins (world_after start commands it.count) first it.held clean).0 in
    lived_more world told (told_by commands answers run) old new lived (record { count = it.count; kept = it.kept; goes = goes; project = it.project })
    (knows clean (world_after start commands it.count) goes.stands) (does.replies honest start lived.over))
