-- What is found where the two files of a connection are opened again after a stop.
use Rattle.std.specs.Prelude.{Option, Some, None, IfSome}
use Rattle.std.proofs.Common.{◌≡◌, IsTrue, ◌&&◌, true, false, Bool, refl, sym, ap, subst, ◌∙◌, arith}
use Rattle.std.proofs.Math.Logic.{∥∥₁_elim, ∥∥₁_map}
use Rattle.sqlite_disk.specs.declared.Disk.{Ghosts}
use Rattle.sqlite_wal.specs.Files.{outcomes, seen_image}
use Rattle.sqlite_wal.specs.Reads.{AreClean}
use Rattle.sqlite_wal.proofs.LogLemmas.{SeenMayStay}
use Rattle.sqlite_pool.proofs.StateLemmas.{clean_is, may_leave_is}
use Rattle.sqlite_trees.specs.View.{IsClean, IsQuiet}
use Rattle.sqlite_trees.specs.Props.{Trees-set}
use Rattle.sqlite_trees.proofs.Doubt.{no_doubt}
use Rattle.sqlite_store.specs.declared.store.FileStore.{FileStore}
use Rattle.sqlite_store.specs.FileStore.{state, view, faults, recovers, is_shielded, files}
use Rattle.sqlite_store.specs.Laws.{settled_at, stays_at}
use Rattle.sqlite.specs.Effect.{Database, IsDatabase}
use Rattle.sqlite.specs.State.{State, HasCleanDisk}
use Rattle.sqlite.specs.Held.{Held, AreDatabases}
use Rattle.sqlite.specs.Files.{Finds, IsOpened, file_state}
use Rattle.sqlite.proofs.Theorems.{next_run}
use Rattle.wu_core.specs.World.{World, empty_world}
use Rattle.wu_schema.specs.Calls.{LeavesOnly}
use Rattle.wu_store.specs.StandsFor.{StandsFor}
use Rattle.wu_schema.proofs.StandsLemmas.{same_database}
use Rattle.wu_plans.specs.Planning.{IsPresentProject}
use Rattle.wu_machine_laws.proofs.SoundLemmas.{empty_sound, is_project}
use Rattle.wu_passes.specs.Committing.{FoundAs}
use Rattle.wu_passes.specs.Standing.{GoesOn}
use Rattle.wu_stops.specs.Stopping.{IsCommitted, IsReopened}

-- what holds of a value that is there, by what held of it
pub some_then : {T : Type 0} {P Q : T → Type 0} (r : Option T) → ((it : T) → P it → Q it) → IfSome r P → IfSome r Q
some_then None next held = tt
some_then (Some it) next held = next it held

pub and_both : (a b c d : Bool) → (IsTrue c → IsTrue a) → (IsTrue d → IsTrue b) → IsTrue (c && d) → IsTrue (a && b)
and_both a b true true f h is = rw (f refl, h refl) refl
and_both a b true false f h is = absurd cc
and_both a b false d f h is = absurd cc

-- what an open gives: its database is committed, and a stop leaves nothing else
pub committed_at : {D : Type 0} {g : Ghosts D} (again : Held (FileStore D g)) → SeenMayStay g → IsOpened again → IsCommitted (file_state again)
committed_at again stays opened =
    let same : (file_state again).now ≡ (file_state again).committed = opened.0.clean in
    let only : LeavesOnly (file_state again) (file_state again).committed.trees = record { only = λ db may. settled_at again.store stays db opened.0.is_open may; stays = stays_at again.store stays opened.0.is_open } in
    record {
      is_open = opened.0.is_open;
      sound = (opened.1 opened.0.is_open).0;
      committed = sym same;
      left = subst (λ (d : Database). LeavesOnly (file_state again) d.trees) (sym same) only;
    }

-- a connection was let go, its two files crashed, and another was opened over them
module _ {D : Type 0} {g : Ghosts D} (old again : Held (FileStore D g)) (store : FileStore D g) (log db log_after db_after : D)
    (numbered : IsClean (view store) → IsTrue (view store).is_numbered) (sound : IsClean (view store) → AreDatabases (recovers store)) (quiet : IsQuiet view faults recovers is_shielded old.store store)
    (is : (log, db) ≡ files store) (left_log : g.may_leave log (g.seen log_after)) (left_db : g.may_leave db (g.seen db_after))
    (clean_log : IsTrue (g.is_clean log_after) → IsTrue (g.is_clean log)) (clean_db : IsTrue (g.is_clean db_after) → IsTrue (g.is_clean db))
    (found : Finds (record { log = log_after; db = db_after }) again) where
  sure : AreClean g (files store).0 (files store).1
  sure = subst (λ (p : D × D). AreClean g p.0 p.1) is (and_both _ _ _ _ clean_log clean_db found.honest)

  clean : IsClean (view store)
  clean = no_doubt _ (clean_is store.pool ∙ sure)

  found_allowed : ∥ (file_state old).may_leave (file_state again).committed.trees ∥₁
  found_allowed =
      let image = seen_image g log_after db_after in
      let may : (state store).may_leave image = may_leave_is store.pool image sure (subst (λ (p : D × D). outcomes g p.0 p.1 image) is (left_log, left_db)) in
      ∥∥₁_map (next_run store (numbered clean) (sound clean) image may (file_state again) (record { holds = found.holds; reads = found.reads })) (quiet.outcomes _)

  pub found_clean : HasCleanDisk (file_state old)
  found_clean = let now = clean in omega (arith, now, quiet.clean)

  pub found_again : SeenMayStay g → IsOpened again → IsReopened (file_state old) (file_state again)
  found_again stays opened =
      let same : (file_state again).now ≡ (file_state again).committed = opened.0.clean in
      record {
        found = subst (λ (d : Database). ∥ (file_state old).may_leave d.trees ∥₁) (sym same) found_allowed;
        exactly = λ is_open. ap (λ (d : Database). d.trees) same ∙ ∥∥₁_elim found_allowed (Trees-set _ _) (λ may. settled_at old.store stays _ is_open may);
        whole = committed_at again stays opened;
      }

-- tables that stood for a world stand for it again
pub stands_still : (old new : Database) (world : World) → StandsFor old world → IsDatabase new → new.trees ≡ old.trees → StandsFor new world
stands_still old new world stands sound same = subst (λ (d : Database). StandsFor d world) (sym (same_database old new stands.refines.sound sound same)) stands

pub goes_again : (new : State) (world : World) → IsCommitted new → FoundAs new.now.trees world → GoesOn new world
goes_again new world again found =
    let stands : StandsFor new.now world = stands_still found.database new.now world found.stands again.sound (sym found.same) in
    record { stands = λ is_open. (stands, again.committed); left = λ db may. record { database = new.now; same = sym (again.left.only db may); stands = stands } }

-- and a fresh project is one that commands run over
pub empty_project : IsPresentProject empty_world
empty_project = (refl, is_project empty_world empty_sound (omega arith) (omega arith))
