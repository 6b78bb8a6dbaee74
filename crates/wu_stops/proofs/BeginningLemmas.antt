-- What is found where two files are opened first.
use Rattle.std.proofs.Common.{◌≡◌, ℕ, List, [], ◌∷◌, length, filter, codes, refl, sym, ap, subst, ◌∙◌, inl, inr, arith}
use Rattle.std.specs.List.{AllZip}
use Rattle.sqlite_disk.specs.declared.Disk.{Ghosts}
use Rattle.sqlite_disk.specs.declared.Files.{Files}
use Rattle.sqlite_wal.proofs.LogLemmas.{SeenMayStay}
use Rattle.sqlite_wal.specs.Recovery.{Image}
use Rattle.sqlite_trees.specs.Objects.{catalog_tree}
use Rattle.sqlite_catalog.specs.Listing.{is_table_row, is_index_row, is_view_row, IsIndexRow, IsTableRow, IsViewRow, Lists}
use Rattle.sqlite_store.specs.declared.store.FileStore.{FileStore}
use Rattle.sqlite.specs.Effect.{Database}
use Rattle.sqlite.specs.Held.{Held}
use Rattle.sqlite.specs.Order.{Row}
use Rattle.sqlite.specs.Schema.{Schema}
use Rattle.sqlite.specs.Files.{AreFoundIn, Finds, IsEmpty, IsOpened, file_state, image_of}
use Rattle.sqlite.specs.Start.{FindsIn}
use Rattle.sqlite.specs.Tree.{Trees}
use Rattle.wu_core.specs.World.{World, empty_world}
use Rattle.wu_passes.specs.Committing.{FoundAs}
use Rattle.wu_passes.specs.Adopting.{IsVacant, LeavesFresh}
use Rattle.wu_passes.specs.Standing.{GoesOn}
use Rattle.wu_schema.specs.Refines.{IsFree}
use Rattle.wu_schema.proofs.VersionLemmas.{free_lacks}
use Rattle.std.proofs.Common.{◌⊎◌}
use Rattle.std.proofs.Math.Logic.{∥∥₁_map}
use Rattle.sqlite.specs.State.{State}
use Rattle.wu_schema.specs.Versions.{LacksProject}
use Rattle.wu_schema.proofs.StandsLemmas.{same_database}
use Rattle.wu_stops.specs.Beginning.{AwaitsProject, HoldsWorld}
use Rattle.wu_stops.specs.Stopping.{IsReopened}
use Rattle.wu_stops.proofs.StoppingLemmas.{committed_at, goes_again}

pub none_beside : {A B : Type 0} (R : A → B → Type 0) (xs : List A) (ys : List B) → xs ≡ [] → AllZip R xs ys → ys ≡ []
none_beside R [] [] none all = refl
none_beside R [] (y ∷ ys) none all = absurd all
none_beside R (x ∷ xs) ys none all = absurd cc

-- a list of no object names none
free_of_none : (schema : Schema) (objects : List Row) (name : List ℕ) → objects ≡ [] → Lists objects schema → IsFree schema name
free_of_none schema objects name none lists = record {
  table = rw (none_beside IsTableRow _ schema.tables (ap (λ rs. filter is_table_row rs) none) lists.listed.tables) refl;
  index = rw (none_beside (IsIndexRow schema.tables) _ schema.indexes (ap (λ rs. filter is_index_row rs) none) lists.listed.indexes) refl;
  view = rw (none_beside IsViewRow _ schema.views (ap (λ rs. filter is_view_row rs) none) lists.listed.views) refl;
}

-- an empty file holds no database
pub no_database : (image : Image) (db : Trees) → image.db ≡ [] → AreFoundIn image db → IsEmpty db
no_database image db blank (inl (size, pages, wanted, adopts, ours, reads)) = let low = adopts.found.present in absurd (omega (arith, low, ap (λ bytes. length bytes) blank))
no_database image db blank (inr (nothing, empty)) = empty

-- a connection was opened
module _ {D : Type 0} {g : Ghosts D} (again : Held (FileStore D g)) (opened : IsOpened again) where
  -- no tree, no project
  pub empty_vacant : IsEmpty (file_state again).committed.trees → IsVacant (file_state again)
  empty_vacant empty =
      let same : (file_state again).now ≡ (file_state again).committed = opened.0.clean in
      let none : (file_state again).now.trees catalog_tree ≡ [] = ap (λ (d : Database). d.trees catalog_tree) same ∙ empty.1 in
      free_lacks _ (free_of_none _ _ (codes "project") none ((opened.1 opened.0.is_open).0.lists))

  pub goes_from_trees : SeenMayStay g → (world : World) → FoundAs (file_state again).committed.trees world → GoesOn (file_state again) world
  goes_from_trees stays world held =
      goes_again (file_state again) world (committed_at again stays opened) (subst (λ (d : Database). FoundAs d.trees world) (sym opened.0.clean) held)

pub finds_in : {D : Type 0} {g : Ghosts D} (files : Files D) (again : Held (FileStore D g)) → Finds files again → FindsIn (image_of g files) (file_state again)
finds_in files again found = record { holds = found.holds; reads = found.reads }

-- over two files with these bytes
module _ {D : Type 0} {g : Ghosts D} (again : Held (FileStore D g)) (opened : IsOpened again) (image : Image) (found : FindsIn image (file_state again)) where
  pub blank_vacant : image.db ≡ [] → IsVacant (file_state again)
  blank_vacant blank = empty_vacant again opened (no_database image _ blank found.reads)

  pub goes_from : SeenMayStay g → (world : World) → HoldsWorld image world → GoesOn (file_state again) world
  goes_from stays world held = goes_from_trees again opened stays world (subst (λ (db : Trees). FoundAs db world) (sym (found.holds held.trees held.holds)) held.found)

-- what a stop within an adoption left of a free database
module _ (old mid again : State) (free : AwaitsProject old) (left : LeavesFresh old mid) (reopened : IsReopened mid again) where
  still_vacant : again.now.trees ≡ old.now.trees → IsVacant again
  still_vacant same = subst (λ (d : Database). LacksProject d.schema) (sym (same_database old.now again.now free.committed.sound reopened.whole.sound same)) free.vacant

  pub vacant_or_fresh : ∥ IsVacant again ⊎ GoesOn again empty_world ∥₁
  vacant_or_fresh = ∥∥₁_map reopened.found (λ may. elim (left _ may) [
    | inl before ↦ inl (still_vacant (free.committed.left.only _ before))
    | inr fresh ↦ inr (goes_again again empty_world reopened.whole fresh)
  ])

pub found_standing : (mid again : State) (world : World) → GoesOn mid world → IsReopened mid again → ∥ GoesOn again world ∥₁
found_standing mid again world goes reopened = ∥∥₁_map reopened.found (λ may. goes_again again world reopened.whole (goes.left _ may))
