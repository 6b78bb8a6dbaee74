-- What is found keeps a database from holding a sound project.
use Rattle.wu_schema.proofs.Words.{Database, Err, Fault, IfOk, List, None, Ok, Refines, Result, Row, Some, World, ap, arith, codes, map, refl, slice_get, stored_workunit, subst, sym, ℕ, ◌-◌, ◌∙◌, ◌≡◌, ◌≤◌}
use Rattle.wu_audit.proofs.SoundLemmas.{stands_against}
use Rattle.wu_audit.specs.Laws.{SoundInAnyOrder}
use Rattle.wu_core.specs.declared.workunit.Workunit.{Workunit}
use Rattle.wu_loader.proofs.StandLemmas.{stands_arranged, all_whole}
use Rattle.wu_loader.specs.Shown.{AreArranged, AreWhole, IsArranged}
use Rattle.wu_loader.specs.Worlds.{IsReadable}
use Rattle.wu_machine.specs.Sound.{IsSound}
use Rattle.wu_rules.specs.Marks.{marks}
use Rattle.wu_schema.specs.Queue.{HasQueue}
use Rattle.wu_schema.specs.Stored.{stored_marks}
use Rattle.wu_schema.specs.Tables.{IsClassedVersion, queue_at, workunit_at}
use Rattle.wu_schema.specs.ProjectTables.{HasTables, ProjectTrees}
use Rattle.wu_store.specs.StandsFor.{IsQueued, marked}
use Rattle.wu_store.specs.Worlds.{SameWorld}
use Rattle.wu_store.proofs.SameWorld.{one_world, one_table}
use Rattle.wu_tables.specs.Found.{HasQueueIn}
use Rattle.wu_tables.specs.Upgrades.{HasFreeNames, TakesUpgradeName}
use Rattle.wu_schema.specs.declared.table.ProjectTable.TheVariants.{Project}
use Rattle.wu_tables.specs.declared.project.Misfit.{Misfit}
use Rattle.wu_tables.specs.declared.project.Misfit.TheVariants.{Missing}
use Rattle.sqlite_trees.specs.View.{IsShaped}
use Rattle.sqlite_trees.specs.declared.store.Shape.TheVariants as shape
use Rattle.wu_check.proofs.LaterLemmas.{other_stands}
use Rattle.wu_check.proofs.VersionLemmas.{fewer_tables}
use Rattle.wu_check.specs.Queues.{HasMarks}
use Rattle.wu_check.specs.Checking.{IsCounted, IsKnownVersion, IsSoundProject}
use Rattle.wu_check.specs.Examining.{IsLegible}
use Rattle.wu_check.specs.Findings.{HasTakenName, IsJudged, IsRightWorld, IsSoundAs, LacksTables, Says, SaysSound, SaysUnsound, SaysWhy, Tells, TellsOfSound}
use Rattle.wu_check.specs.declared.finding.Counts.{Counts}
use Rattle.wu_check.specs.declared.finding.Finding.{Finding}
use Rattle.wu_check.specs.declared.finding.Finding.TheVariants as finding
use Rattle.wu_check.specs.declared.finding.Verdict.{Verdict}
use Rattle.wu_check.specs.declared.finding.Verdict.TheVariants as verdict
use Rattle.wu_schema.specs.declared.table.ProjectTable.TheVariants as the_table
use Rattle.wu_schema.proofs.Parts.{placed}
use Rattle.wu_schema.proofs.TableOrder.{table_of_more}

-- the values of a sound world are such as rows are read as
pub readable : (world : World) → IsSound world → 1 ≤ world.version → IsReadable world
readable world sound first = record {
  project = record { version = first; next_number = sound.next_number };
  workunits = sound.storable;
  grants = λ k d low. record { host = sound.granted_to k d low; n = let few = (sound.grants k d low).1 in omega (arith, few) };
  archived = sound.archivable;
  imports = sound.imports;
  classes = λ k d low. record { host = (sound.classed k d low).host; class = (sound.classed k d low).within };
}

module _ (any_order : SoundInAnyOrder) (db : Database) (p : IsSoundProject db) where
  same : (world : World) → Refines db world → SameWorld p.world world
  same world stands = one_world db p.world world p.stands.refines stands

  -- each world that the tables stand for is sound
  sound_of : (world : World) → Refines db world → IsSound world
  sound_of world stands =
      let it = same world stands in
      let here : record p.world { imports = world.imports } ≡ world = λ i. record {
        workunits = it.workunits i;
        grants = it.grants i;
        archived = it.archived i;
        imports = world.imports;
        classes = it.classes i;
        next_number = it.next_number i;
        version = it.version i;
      } in
      subst IsSound here (any_order p.world world.imports it.imports p.sound)

  -- and has its queue
  queue_of : (world : World) → Refines db world → IsQueued world → HasQueue db (marked world)
  queue_of world stands queued =
      let it = same world stands in
      let version = it.version in
      subst (λ (ws : List Workunit). HasQueue db (map (λ (w : Workunit). (w.number, marks w)) ws)) it.workunits (p.stands.queue (omega (arith, queued, version)))

  -- its tables are there
  never_lacks : (misfit : Misfit) → LacksTables db misfit → ⊥
  never_lacks misfit told = told.none p.stands.refines.trees (fewer_tables p.world.version told.version (told.needed p.world p.stands.refines) db p.stands.refines.trees p.stands.refines.tables)

  -- what is found of it is a name that something has, and nothing else
  refuted : (found : Finding) → Tells db found → TellsOfSound db.schema p.world found
  refuted (finding.Tables misfit) told = never_lacks misfit told.lacks
  refuted (finding.Barred name) told = never_lacks (Missing Project) told.lacks
  refuted (finding.Row wrong) told = told.none p.world (readable p.world p.sound p.known.first) p.stands.refines
  refuted (finding.Sums sums) told = told.row.none p.world (readable p.world p.sound p.known.first) p.stands.refines
  refuted (finding.Version version) told = told.other (subst IsKnownVersion (other_stands db version told p.world p.stands.refines) p.known)
  refuted (finding.World wrong key) told = stands_against told.world wrong told.against (sound_of told.world told.refines)
  refuted finding.Queue told =
      let q = queue_of told.world told.refines told.queued in
      told.none q.tree (record { table = q.table; indexes = q.indexes })
  refuted (finding.Marks place) told =
      let q = queue_of told.world told.refines told.queued in
      let rows = one_table db (codes "queue") (queue_at told.tree) (queue_at q.tree) told.queue.table q.table ∙ q.rows.same in
      told.differs.other (ap (λ (rs : List Row). slice_get rs (place - 1)) rows)
  refuted (finding.Taken version name) told = (told.is ∙ sym (same told.project.world told.project.stands.refines).version, told.taken)

  -- its tables, and those of an older version, are in order
  arranged : (version : ℕ) → (IsClassedVersion version → IsClassedVersion p.world.version) → (trees : ProjectTrees) → HasTables version db.schema trees → AreArranged version db.trees trees
  arranged version within trees has table is_in =
      let was = table_of_more version p.world.version within table is_in in
      let here = stands_arranged db p.stands.refines.trees p.world p.stands.refines.rows table was in
      subst IsArranged (ap (λ n. db.trees n) (sym (placed p.stands.refines.trees table)) ∙ one_table db _ _ _ (p.stands.refines.tables.each table was) (has.each table is_in) ∙ ap (λ n. db.trees n) (placed trees table)) here

  -- what questions show of it is all that is there
  sound_legible : IsLegible db
  sound_legible =
      let tables = p.stands.refines.tables in
      record {
        plain = arranged 1 (λ known. absurd (omega (arith, known)));
        project = λ version told. arranged version (subst IsClassedVersion (sym (told p.world p.stands.refines)));
        workunits = λ tree has.
            subst (AreWhole 15) (sym p.stands.refines.rows.workunits.same ∙ one_table db _ _ (workunit_at tree) (tables.each the_table.Workunit tt) has) (all_whole 15 stored_workunit (λ w. refl) p.world.workunits);
        queue = λ world stands queued tree has.
            let q = queue_of world stands queued in
            let same_rows = one_table db (codes "queue") (queue_at q.tree) (queue_at tree) q.table has in
            record {
              ordered = subst IsArranged same_rows q.rows.shaped;
              whole = subst (AreWhole 6) (sym q.rows.same ∙ same_rows) (all_whole 6 stored_marks (λ m. refl) (marked world));
            };
      }

-- ---- the parts of what a verdict says

pub says_sound : (db : Database) (v : Verdict) → Says db v → SaysSound db v
says_sound db (verdict.Sound counts) says = says
says_sound db (verdict.Unsound found) says = tt

pub says_why : (db : Database) (v : Verdict) → Says db v → SaysWhy db v
says_why db (verdict.Sound counts) says = tt
says_why db (verdict.Unsound found) says = says

-- of a sound project questions show all
says_unsound : SoundInAnyOrder → (db : Database) (v : Verdict) → (IsLegible db → Says db v) → SaysUnsound db v
says_unsound any_order db (verdict.Sound counts) says = tt
says_unsound any_order db (verdict.Unsound found) says = λ p. refuted any_order db p found (says (sound_legible any_order db p))

pub unsound_from : SoundInAnyOrder → (db : Database) (r : Result Verdict Fault) → (IsLegible db → IfOk r (Says db)) → IfOk r (SaysUnsound db)
unsound_from any_order db (Ok v) says = says_unsound any_order db v says
unsound_from any_order db (Err fault) says = tt

-- a world that was judged right is that of a sound project
abbrev judged_project : (db : Database) (world : World) → Refines db world → IsJudged db world → IsSoundProject db
judged_project db world stands judged = record {
  world = world;
  stands = record { refines = stands; queue = judged.queue };
  sound = judged.sound;
  known = judged.known;
}

-- something may have a name that its upgrade gives
pub judged_taken : (db : Database) (world : World) → Refines db world → IsJudged db world → (version : ℕ) → version ≡ world.version → (name : List ℕ) → TakesUpgradeName db.schema version name → HasTakenName db version name
judged_taken db world stands judged version is name taken = record { project = judged_project db world stands judged; is = is; taken = taken }

-- and it is counted as it is
pub judged_sound : (db : Database) (world : World) → Refines db world → IsJudged db world → (counts : Counts) → IsCounted world counts → HasFreeNames db.schema counts.version → IsSoundAs db counts
judged_sound db world stands judged counts counted free = record { project = judged_project db world stands judged; counted = counted; free = free }

-- ---- the queue of a world that is right but for it

module _ (db : Database) (world : World) (tree : ℕ) (has : HasQueueIn db.schema tree) (right : IsRightWorld db.schema world) (shaped : IsShaped shape.Table (db.trees tree)) where
  pub judged_right : HasMarks world (db.trees tree) None → IsJudged db world
  judged_right same = record {
    sound = right.sound;
    known = right.known;
    queue = λ queued. record { tree = tree; table = has.table; indexes = has.indexes; rows = record { shaped = shaped; same = same } };
  }

  pub judged_wrong : Refines db world → IsQueued world → (place : ℕ) → HasMarks world (db.trees tree) (Some place) → Tells db (finding.Marks place)
  judged_wrong refines queued place differs = record { world = world; refines = refines; sound = right.sound; known = right.known; queued = queued; tree = tree; queue = has; differs = differs }
