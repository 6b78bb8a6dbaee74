-- What is found where the files of a connection that was closed are opened again after a stop.
use Rattle.std.proofs.Common.{◌≡◌, IsTrue, Result, Ok, Err, inl, inr, sym, ap, subst, ◌∙◌, arith}
use Rattle.std.proofs.Math.Logic.{∥∥₁_elim, ∥∥₁_map}
use Rattle.sqlite_disk.specs.declared.Disk.{Ghosts}
use Rattle.sqlite_disk.specs.declared.Files.{Files}
use Rattle.sqlite_wal.specs.Files.{outcomes, seen_image}
use Rattle.sqlite_wal.specs.Reads.{AreClean}
use Rattle.sqlite_wal.proofs.LogLemmas.{SeenMayStay}
use Rattle.sqlite_pool.proofs.StateLemmas.{clean_is, may_leave_is}
use Rattle.sqlite_trees.specs.View.{IsClean}
use Rattle.sqlite_trees.specs.Props.{Trees-set}
use Rattle.sqlite_trees.proofs.Doubt.{no_doubt}
use Rattle.sqlite_store.specs.declared.store.FileStore.{FileStore}
use Rattle.sqlite_store.specs.FileStore.{state, view, files as store_files}
use Rattle.sqlite_store.specs.Laws.{settled_at, stays_at}
use Rattle.sqlite.specs.Effect.{Database}
use Rattle.sqlite.specs.Closing.{IsCopied}
use Rattle.sqlite.specs.declared.error.Error.{Error}
use Rattle.sqlite.specs.Files.{Finds, IsClosed, file_state, over_files}
use Rattle.sqlite.specs.Held.{Held}
use Rattle.sqlite.specs.State.{State, HasCleanDisk}
use Rattle.sqlite.proofs.Theorems.{next_run}
use Rattle.wu_core.specs.World.{empty_world}
use Rattle.wu_stops.proofs.StoppingLemmas.{empty_project}
use Rattle.wu_passes.specs.Adopting.{Adopts}
use Rattle.wu_passes.specs.Projects.{state_of}
use Rattle.wu_passes.specs.declared.project.Project.{Project}
use Rattle.wu_stops.specs.Beginning.{BeginsAgain, GoesAgain}
use Rattle.wu_stops.specs.Closing.{AfterClose, FindsOutcome, IsUnclosed}
use Rattle.wu_stops.specs.Stopping.{FindsAgain, IsCommitted, IsReopened}
use Rattle.wu_stops.proofs.BeginningLemmas.{found_standing, vacant_or_fresh}
use Rattle.wu_stops.proofs.StoppingLemmas.{and_both}

-- the two files crashed, and a connection was opened over them
pub outcome_of : {D : Type 0} {g : Ghosts D} (files : Files D) (again : Held (FileStore D g)) (log_after db_after : D) → g.may_leave files.log (g.seen log_after) → g.may_leave files.db (g.seen db_after)
    → (IsTrue (g.is_clean log_after) → IsTrue (g.is_clean files.log)) → (IsTrue (g.is_clean db_after) → IsTrue (g.is_clean files.db)) → Finds (record { log = log_after; db = db_after }) again → IsCommitted (file_state again) → FindsOutcome g files again
outcome_of {D} {g} files again log_after db_after left_log left_db clean_log clean_db found whole = record {
  whole = whole;
  honest = and_both _ _ _ _ clean_log clean_db found.honest;
  image = seen_image g log_after db_after;
  may = (left_log, left_db);
  found = record { holds = found.holds; reads = found.reads };
}

-- two files were opened again after a stop
module _ {D : Type 0} {g : Ghosts D} (files : Files D) (old again : Held (FileStore D g)) (stays : SeenMayStay g) (outcome : FindsOutcome g files again) where
  reopened_by : ∥ (file_state old).may_leave (file_state again).committed.trees ∥₁ → IsReopened (file_state old) (file_state again)
  reopened_by allowed = record {
    found = subst (λ (d : Database). ∥ (file_state old).may_leave d.trees ∥₁) outcome.whole.committed allowed;
    exactly = λ is_open. ap (λ (d : Database). d.trees) (sym outcome.whole.committed) ∙ ∥∥₁_elim allowed (Trees-set _ _) (λ may. settled_at old.store stays _ is_open may);
    whole = outcome.whole;
  }

  -- the close copied the last commit
  pub found_copied : IsCopied old files → IsReopened (file_state old) (file_state again)
  found_copied copied =
      let same : (file_state again).committed.trees ≡ (file_state old).committed.trees = ∥∥₁_elim (copied.left outcome.image outcome.may).both (Trees-set _ _) (λ holds. outcome.found.holds _ holds) in
      reopened_by ∣ subst (file_state old).may_leave (sym same) (stays_at old.store stays copied.was_open) ∣₁

  -- the close failed and left a store
  module _ (left : FileStore D g) (is : (files.log, files.db) ≡ store_files left) where
    sure : AreClean g (store_files left).0 (store_files left).1
    sure = subst (λ (p : D × D). AreClean g p.0 p.1) is outcome.honest

    clean : IsClean (view left)
    clean = no_doubt _ (clean_is left.pool ∙ sure)

    pub unclosed_clean : IsClosed old left → HasCleanDisk (file_state old)
    unclosed_clean closed = let now = clean in omega (arith, now, closed.quiet.clean)

    pub found_unclosed : IsUnclosed left old → IsReopened (file_state old) (file_state again)
    found_unclosed it =
        let may : (state left).may_leave outcome.image = may_leave_is left.pool outcome.image sure (subst (λ (p : D × D). outcomes g p.0 p.1 outcome.image) is outcome.may) in
        reopened_by (∥∥₁_map (next_run left it.numbered (it.closed.sound clean) outcome.image may (file_state again) outcome.found) (it.closed.quiet.outcomes _))

-- and a session adopts what was found
module _ {D : Type 0} {g : Ghosts D} (old : Held (FileStore D g)) (again : State) (new : Project (FileStore D g) over_files) (adopts : Adopts again (state_of new)) (found : FindsAgain (file_state old) again) where
  pub begins_after : BeginsAgain old new
  begins_after free clean =
      let early : HasCleanDisk again = omega (arith, clean, adopts.clean) in (
        ∥∥₁_map (vacant_or_fresh (file_state old) (file_state old) again free (λ db may. inl may) (found early)) (λ it. elim it [
          | inl vacant ↦ (adopts.fresh clean vacant).goes
          | inr goes ↦ (adopts.goes clean empty_world (omega arith) goes).0
        ]),
        empty_project,
      )

  pub goes_after : GoesAgain old new
  goes_after world first goes clean =
      let early : HasCleanDisk again = omega (arith, clean, adopts.clean) in
      ∥∥₁_map (found_standing (file_state old) again world goes (found early)) (λ it. adopts.goes clean world first it)

pub after_more : {D : Type 0} {g : Ghosts D} (old : Held (FileStore D g)) (closed : Result (Unit {0}) Error) {A B : Type 0} → (A → B) → AfterClose old closed A → AfterClose old closed B
after_more old (Ok done) more holds = more holds
after_more old (Err error) more (left, is, holds) = (left, is, λ numbered. more (holds numbered))
