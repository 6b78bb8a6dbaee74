-- From what a check did to what it told of the files.
use Rattle.std.proofs.Common.{◌≡◌, ◌⊎◌, ℕ, ◌==◌, true, false, Bool, List, filter, if◌then◌else◌, None, Option, Result, Ok, Err, inl, inr, refl, sym, ap, subst, ◌∙◌}
use Rattle.std.proofs.Math.Logic.{∥∥₁_elim}
use Rattle.std.specs.Prelude.{IfErr, IfOk, IsOkUnless}
use Rattle.sqlite_disk.specs.declared.Files.{Files}
use Rattle.wu_process.specs.declared.memory_file.MemoryFile.{MemoryFile}
use Rattle.sqlite_disk.specs.declared.tally.Tally.{Tally}
use Rattle.sqlite_wal.specs.Reads.{tally_of_files}
use Rattle.sqlite_wal.specs.Recovery.{Image}
use Rattle.sqlite_catalog.proofs.LayoutLemmas.{laid_out}
use Rattle.sqlite_catalog.specs.Listing.{is_table_row, IsSound, IsTableRow}
use Rattle.sqlite_pool.proofs.StateLemmas.{clean_is}
use Rattle.sqlite_pool.specs.File.{version_in}
use Rattle.sqlite_trees.proofs.Doubt.{no_doubt}
use Rattle.sqlite_trees.specs.Objects.{catalog_tree, IsListed}
use Rattle.sqlite_trees.specs.Props.{IsShaped-prop}
use Rattle.sqlite_trees.specs.Tree.{Trees}
use Rattle.sqlite_trees.specs.View.{IsOrdered, IsShaped}
use Rattle.sqlite_trees.specs.declared.error.StoreError.TheVariants.{Corrupt, Full, Io}
use Rattle.sqlite_trees.specs.declared.store.Shape.TheVariants as shape
use Rattle.sqlite_store.proofs.ListingLemmas.{all_ordered}
use Rattle.sqlite_store.specs.Listed.{catalog_rows, is_listed}
use Rattle.sqlite_store.specs.Listing.{all_reals, all_shapes, file_trees}
use Rattle.sqlite_store.specs.Report.{named}
use Rattle.sqlite_store.specs.declared.store.FileStore.{FileStore}
use Rattle.sqlite.specs.Effect.{Database, IsDatabase}
use Rattle.sqlite.specs.Files.{AreFoundIn, file_state, image_of, IsCleanLeft, tally_left}
use Rattle.sqlite.specs.Held.{Held}
use Rattle.sqlite.specs.State.{HasCleanDisk, store_error}
use Rattle.sqlite.specs.Table.{Table}
use Rattle.sqlite.specs.declared.file.Leftover.{Leftover}
use Rattle.sqlite.specs.declared.file.Leftover.TheVariants as left
use Rattle.wu_schema.proofs.Words.{Has, all_has}
use Rattle.wu_core.specs.World.{World}
use Rattle.wu_check.specs.Checking.{HasWholeRows, HasRowsInOrder, IsWellKept, IsSoundProject}
use Rattle.wu_check.specs.Findings.{IsSoundAs, SaysLater, SaysSound, SaysUnsound, SaysWhy}
use Rattle.wu_check.specs.declared.finding.Counts.{Counts}
use Rattle.wu_check.specs.declared.finding.Finding.{Finding}
use Rattle.wu_check.specs.declared.finding.Verdict.{Verdict}
use Rattle.wu_check.specs.declared.finding.Verdict.TheVariants as verdict
use Rattle.wu_core.specs.declared.fault.Fault.{Fault}
use Rattle.wu_core.specs.declared.fault.Fault.TheVariants.{Output}
use Rattle.wu_passes.specs.Committing.{FoundAs}
use Rattle.wu_report.specs.Writing.{WritesBytes}
use Rattle.wu_schema.specs.Faults.{IsFailure}
use Rattle.wu_stops.proofs.StoppingLemmas.{stands_still}
use Rattle.wu_store.specs.StandsFor.{StandsFor}
use Rattle.wu_cli.specs.Backups.{AreOfVerdict}
use Rattle.wu_cli.specs.Checking.{TellsSound}
use Rattle.wu_cli.specs.Checks.{reason_of_copy, sound_line}
use Rattle.wu_cli.specs.declared.trouble.Trouble.{Trouble}
use Rattle.wu_cli.specs.declared.trouble.Trouble.TheVariants as trouble
use Rattle.wu_process.specs.Checks.{ChecksOpened, ChecksUnopened}
use Rattle.wu_process.specs.MemoryFiles.{memory_disk}
use Rattle.wu_process_laws.specs.Checked.{EachCheckIsTrue, ReportsSound, FindsWith, image_of_bytes, IsTakenName, IsToldTruly, IsWant, TellsOfFiles}
use Rattle.wu_stops.proofs.BeginningLemmas.{none_beside}

-- ---- order

-- the rows of each table that an opening finds stand in order of their rowids
pub found_in_order : (image : Image) (db : Database) → AreFoundIn image db.trees → IsDatabase db → HasRowsInOrder db
found_in_order image db (inl (size, pages, wanted, adopts, ours, reads)) sound table has =
    ∥∥₁_elim ours (IsShaped-prop shape.Table (db.trees table.tree)) (λ it.
    let ordered : IsOrdered (all_shapes wanted) (file_trees size wanted pages) = all_ordered it.file.db (version_in pages) in
    let here : IsSound db.schema (file_trees size wanted pages) = subst (IsSound db.schema) reads sound in
    let listed : IsListed (file_trees size wanted pages catalog_tree) (all_shapes wanted) (all_reals wanted) = rw (catalog_rows size wanted _) (is_listed wanted) in
    let objects : IsShaped shape.Table (file_trees size wanted pages catalog_tree) = subst (λ s. IsShaped s (file_trees size wanted pages catalog_tree)) listed.itself.0 (ordered catalog_tree) in
    let laid = laid_out listed objects here.lists.listed in
    let is : all_shapes wanted table.tree ≡ shape.Table = all_has (λ (t : Table). all_shapes wanted t.tree ≡ shape.Table) db.schema.tables table laid.tables has in
    subst (λ (ts : Trees). IsShaped shape.Table (ts table.tree)) (sym reads) (subst (λ s. IsShaped s (file_trees size wanted pages table.tree)) is (ordered table.tree)))
found_in_order image db (inr (nothing, empty)) sound table has =
    let none = none_beside IsTableRow _ db.schema.tables (ap (λ rs. filter is_table_row rs) empty.1) sound.lists.listed.tables in
    absurd (subst (λ (ts : List Table). Has ts table) none has)

-- ---- a disk in memory tells no lie

pub memory_clean : (conn : Held (FileStore MemoryFile memory_disk)) → HasCleanDisk (file_state conn)
memory_clean conn = no_doubt _ (clean_is conn.store.pool)

left_clean : (rest : Leftover MemoryFile memory_disk) → IsCleanLeft rest
left_clean (left.Files files) = refl
left_clean (left.Unopened files) = clean_is files.pool
left_clean (left.Store store) = clean_is store.pool

-- ---- what was counted of a verdict

-- the numbers are those of the verdict
pub sound_counts : (v : Result Verdict Fault) (its : Counts) (db : Database) → AreOfVerdict v (Ok its) → IfOk v (SaysSound db) → IsSoundAs db its
sound_counts (Ok (verdict.Sound counts)) its db gives says = let same : counts ≡ its = cc in subst (IsSoundAs db) same says
sound_counts (Ok (verdict.Unsound found)) its db gives says = absurd cc
sound_counts (Err fault) its db gives says = absurd cc

-- a finding that is reported is that of the verdict
found_by : (v : Result Verdict Fault) (finding : Finding) (P : Verdict → Type 0) → AreOfVerdict v (Err (trouble.Unsound finding)) → IfOk v P → P (verdict.Unsound finding)
found_by (Ok (verdict.Sound counts)) finding P gives says = absurd cc
found_by (Ok (verdict.Unsound found)) finding P gives says = let same : found ≡ finding = cc in subst (λ f. P (verdict.Unsound f)) same says
found_by (Err fault) finding P gives says = absurd cc

-- ---- a database that was opened

module _ {W : Type 0} (contents : W → Option (List ℕ)) (old new : W) (done : Result (Unit {0}) Trouble) where
  module _ (image : Image) (db : Database) (found : AreFoundIn image db.trees) (sound : IsDatabase db) where
    kept : HasWholeRows db → IsWellKept db
    kept whole = record { ordered = found_in_order image db found sound; whole = whole }

    finds : (P : Database → Type 0) → (IsWellKept db → P db) → FindsWith image P
    finds P holds = record { db = db; found = found; sound = sound; holds = λ whole. holds (kept whole) }

    sound_from : (v : Result Verdict Fault) (its : Result Counts Trouble) → AreOfVerdict v its → (IsWellKept db → IfOk v (SaysSound db)) → TellsSound contents old new its done → done ≡ Ok tt → ReportsSound image (contents old) (contents new)
    sound_from v (Ok counts) gives says tells is = record {
      counts = counts;
      told = subst (λ (r : Result (Unit {0}) Trouble). WritesBytes (contents old) (contents new) (sound_line counts) r) is tells.0;
      found = finds _ (λ k. sound_counts v counts db gives (says k));
    }
    sound_from v (Err told) gives says tells is = absurd (let e = tells.0 in cc)

    why_from : (v : Result Verdict Fault) (its : Result Counts Trouble) (limit : Option ℕ) → limit ≡ None → AreOfVerdict v its → (IsWellKept db → IfOk v (SaysWhy db)) → (IsWellKept db → IfOk v (SaysLater limit db)) → TellsSound contents old new its done
        → (finding : Finding) → done ≡ Err (trouble.Unsound finding) → FindsWith image (λ d. IsToldTruly d finding)
    why_from v (Ok counts) limit unlimited gives says later tells finding is =
        absurd (let e : trouble.Unsound finding ≡ trouble.Fault Output = subst (λ (r : Result (Unit {0}) Trouble). IsOkUnless r (trouble.Fault Output)) is tells.1 in cc)
    why_from v (Err told) limit unlimited gives says later tells finding is =
        let same : told ≡ trouble.Unsound finding = let e = tells.0 in cc in
        let of : AreOfVerdict v (Err (trouble.Unsound finding)) = subst (λ t. AreOfVerdict v (Err t)) same gives in
        finds (λ d. IsToldTruly d finding) (λ k. record { tells = found_by v finding (SaysWhy db) of (says k); later = found_by v finding (SaysLater limit db) of (later k) unlimited })

    abbrev IsExpected : World → Trouble → Type 0
    IsExpected world told = IsWant told ⊎ IsTakenName image world told

    -- what a check of a sound project may report
    expected : (v : Result Verdict Fault) (told : Trouble) → AreOfVerdict v (Err told) → IfOk v (SaysUnsound db) → IfErr v IsFailure → (p : IsSoundProject db) → IsExpected p.world told
    expected (Ok (verdict.Sound counts)) told gives says fails p = absurd cc
    expected (Ok (verdict.Unsound f)) told gives says fails p =
        let same : trouble.Unsound f ≡ told = cc in
        subst (IsExpected p.world) same (inr (record { db = db; found = found; sound = sound; taken = says p }))
    expected (Err f) told gives says fails p =
        let same : trouble.Fault f ≡ told = cc in
        subst (IsExpected p.world) same (inl (inl fails))

    want_from : (v : Result Verdict Fault) (its : Result Counts Trouble) → AreOfVerdict v its → IfOk v (SaysUnsound db) → IfErr v IsFailure → TellsSound contents old new its done → (p : IsSoundProject db) → IfErr done (IsExpected p.world)
    want_from v (Ok counts) gives says fails tells p = wanted done tells.1
      where
        wanted : (r : Result (Unit {0}) Trouble) → IsOkUnless r (trouble.Fault Output) → IfErr r (IsExpected p.world)
        wanted (Ok u) is = tt
        wanted (Err t) is = inl (subst IsWant (sym is) (inr refl))
    want_from v (Err told) gives says fails tells p =
        subst (λ (r : Result (Unit {0}) Trouble). IfErr r (IsExpected p.world)) (sym tells.0) (expected v told gives says fails p)

  module _ (files : Files MemoryFile) where
    abbrev image : Image
    image = image_of memory_disk files

    opened_tells : ChecksOpened memory_disk contents files old new done → TellsOfFiles image (contents old) (contents new) done
    opened_tells it =
        let db = (file_state it.conn).now in
        let over = it.checks.1 in
        let counted = over.checks in
        let check = counted.checks in
        let clean = memory_clean it.checks.0 in
        let opens = it.opened.opens (memory_clean it.conn) in
        let finds = it.opened.finds (memory_clean it.conn) in
        let same : db ≡ (file_state it.conn).committed = opens.0.clean in
        let sound : IsDatabase db = (opens.1 opens.0.is_open).0 in
        let found : AreFoundIn image db.trees = subst (λ (d : Database). AreFoundIn image d.trees) (sym same) finds.reads in
        record {
          sound = λ is. sound_from image db found sound counted.verdict over.counts counted.gives (check.sound clean) over.tells is;
          unsound = λ world held right known.
              let at : FoundAs (file_state it.conn).committed.trees world = subst (λ (ts : Trees). FoundAs ts world) (sym (finds.holds held.trees held.holds)) held.found in
              let stands : StandsFor db world = stands_still at.database db world at.stands sound (ap (λ (d : Database). d.trees) same ∙ sym at.same) in
              want_from image db found sound counted.verdict over.counts counted.gives (check.unsound clean) (check.answered clean it.opened.fresh.unlimited) over.tells (record { world = world; stands = stands; sound = right; known = known });
          why = λ finding is. why_from image db found sound counted.verdict over.counts it.conn.step_limit it.opened.fresh.unlimited counted.gives (check.told clean) (check.later clean) over.tells finding is;
        }

    -- ---- one that could not be opened

    reason_wanted : (one other : Tally) → IsWant (trouble.Unchecked (reason_of_copy (store_error (named one other))))
    reason_wanted one other = go (other.caught == one.caught) (other.refused == one.refused)
      where
        go : (b c : Bool) → IsWant (trouble.Unchecked (reason_of_copy (store_error (if b then (if c then Io else Full) else Corrupt))))
        go true true = inl refl
        go true false = inl refl
        go false c = inr refl

    unopened_tells : ChecksUnopened memory_disk contents files old new done → TellsOfFiles image (contents old) (contents new) done
    unopened_tells it =
        let why = it.unopened in
        let is : done ≡ Err (trouble.Unchecked (reason_of_copy why.error)) = it.told ∙ ap {B = Result (Unit {0}) Trouble} (λ t. Err t) why.is in
        record {
          sound = λ ok. absurd cc;
          unsound = λ world held right known. subst (λ (r : Result (Unit {0}) Trouble). IfErr r (λ told. IsWant told ⊎ IsTakenName image world told)) (sym is) (inl (elim (why.cause (left_clean why.rest)) [
            | inl memory ↦ rw memory (inl refl)
            | inr (inl (other, none)) ↦ absurd (none (inl (held.trees, held.holds)))
            | inr (inr (inl (kind, more))) ↦ rw kind (reason_wanted (tally_of_files memory_disk (files.log, files.db)) (tally_left why.rest))
            | inr (inr (inr (full, limit))) ↦ rw full (inl refl)
          ]));
          why = λ finding told. absurd cc;
        }

pub each_check : {W : Type 0} (contents : W → Option (List ℕ)) → EachCheckIsTrue contents
each_check contents path old new done check =
    let same : image_of memory_disk check.files ≡ image_of_bytes check.copy.bytes = λ i. record { log = check.copy.copied.log.same i; db = check.copy.copied.db.same i } in
    subst (λ (image : Image). TellsOfFiles image (contents old) (contents new) done) same (elim check.checks [
      | inl opened ↦ opened_tells contents old new done check.files opened
      | inr unopened ↦ unopened_tells contents old new done check.files unopened
    ])
