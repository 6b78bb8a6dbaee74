-- The world that is found of a sound project is sound.
use Rattle.std.proofs.Common.{◌≡◌, ℕ, Option, Result, Ok, Err, IfOk, IfSome, IsSomeAnd, None, Some, refl, sym, subst, ◌∙◌, arith}
use Rattle.std.proofs.lemmas.List.Elements.{All-from_recursion}
use Rattle.std.proofs.lemmas.Result.{IfOk-weaker}
use Rattle.sqlite.specs.Effect.{Database}
use Rattle.sqlite.specs.Held.{Held, state}
use Rattle.sqlite.specs.State.{HasCleanDisk}
use Rattle.sqlite.specs.Store.{Ghosts}
use Rattle.wu_audit.specs.Laws.{SoundInAnyOrder}
use Rattle.wu_core.specs.World.{World, MayBeKept}
use Rattle.wu_core.specs.declared.fault.Fault.{Fault}
use Rattle.wu_loader.specs.Asked.{HasArranged}
use Rattle.wu_loader.specs.Finding.{LoadsTables}
use Rattle.wu_loader.specs.Shown.{AreArranged, AreWhole}
use Rattle.wu_loader.specs.Worlds.{IsReadable}
use Rattle.wu_loader.specs.declared.finding.Found.{Found}
use Rattle.wu_loader.specs.declared.finding.Found.TheVariants as found
use Rattle.wu_loader.proofs.StandLemmas.{stands_arranged, all_whole}
use Rattle.wu_machine.specs.Machine.{IsUpToDate, present_version}
use Rattle.wu_machine.specs.Sound.{IsSound}
use Rattle.wu_schema.specs.Calls.{OnAnswer}
use Rattle.wu_schema.specs.Refines.{Refines}
use Rattle.wu_schema.specs.Stored.{stored_workunit}
use Rattle.wu_schema.specs.ProjectTables.{HasTables}
use Rattle.wu_schema.specs.Versions.{AnswersVersion}
use Rattle.wu_store.proofs.SameWorld.{one_world}
use Rattle.wu_tables.specs.Others.{HasOnlyAProject}
use Rattle.wu_refill.specs.Loading.{FindsAlone, FindsSound, FindsTheirs, KeepsSoundWorld}
use Rattle.wu_schema.specs.declared.table.ProjectTable.TheVariants as the_table

-- the values of a sound world of the present version are such as rows are read as
readable : (world : World) → IsSound world → IsUpToDate world → IsReadable world
readable world sound is = record {
  project = record { version = omega (arith, is); next_number = sound.next_number };
  workunits = sound.storable;
  grants = λ k d low. record { host = sound.granted_to k d low; n = let few = (sound.grants k d low).1 in omega (arith, few) };
  archived = sound.archivable;
  imports = sound.imports;
  classes = λ k d low. record { host = (sound.classed k d low).host; class = (sound.classed k d low).within };
}

module _ (any_order : SoundInAnyOrder) (db : Database) (world : World) (stands : Refines db world) (sound : IsSound world) (is : IsUpToDate world) where
  -- of tables that represent a sound world each world is sound
  sound_of : (it : World) → Refines db it → IsSound it
  sound_of it refines =
      let same = one_world db world it stands refines in
      let here : record world { imports = it.imports } ≡ it = λ i. record {
        workunits = same.workunits i;
        grants = same.grants i;
        archived = same.archived i;
        imports = it.imports;
        classes = same.classes i;
        next_number = same.next_number i;
        version = same.version i;
      } in
      subst IsSound here (any_order world it.imports same.imports sound)

  present_of : (it : World) → Refines db it → IsUpToDate it
  present_of it refines = sym (one_world db world it stands refines).version ∙ is

  -- and so is kept
  kept_of : (it : World) → Refines db it → (kept : Option World) → KeepsSoundWorld (found.World it) kept → IsSomeAnd kept (λ w. Refines db w × IsSound w)
  kept_of it refines kept keeps =
      let same = keeps (sound_of it refines) (present_of it refines) (All-from_recursion MayBeKept it.imports refines.rows.imports_kept) in
      subst (λ (o : Option World). IsSomeAnd o (λ w. Refines db w × IsSound w)) (sym same) (refines, sound_of it refines)

module _ (db : Database) (world : World) (stands : Refines db world) where
  arranged : IsUpToDate world → HasArranged present_version db stands.trees
  arranged is = record {
    tables = subst (λ version. HasTables version db.schema stands.trees) is stands.tables;
    arranged = subst (λ version. AreArranged version db.trees stands.trees) is (stands_arranged db stands.trees world stands.rows);
  }

  whole : AreWhole 15 (db.trees (stands.trees the_table.Workunit))
  whole = subst (AreWhole 15) (sym stands.rows.workunits.same) (all_whole 15 stored_workunit (λ w. refl) world.workunits)

pub finds_sound : {S : Type 0} → SoundInAnyOrder → (g : Ghosts S) (old new : Held S) (it : Found) → LoadsTables present_version g old new (Ok it)
    → (r : Result (Option World) Fault) → IfOk r (KeepsSoundWorld it) → FindsSound g old new r
finds_sound any_order g old new (found.World it) loads r keeps clean world stands sound is =
    let db = (state g old).now in
    let refines : Refines db it = loads.looks.says clean stands.trees (arranged db world stands is) (whole db world stands) in
    IfOk-weaker r _ _ (kept_of any_order db world stands sound is it refines) keeps
finds_sound any_order g old new (found.Wrong wrong) loads r keeps clean world stands sound is =
    absurd (loads.none clean world (readable world sound is) is stands)

-- a world that is kept is the one that was found
theirs_of : (db : Database) (it : Found) → ((world : World) → it ≡ found.World world → Refines db world) → (kept : Option World) → IfSome kept (λ world. it ≡ found.World world) → IfSome kept (Refines db)
theirs_of db it stands None same = tt
theirs_of db it stands (Some world) same = stands world same

pub finds_theirs : {S : Type 0} → (g : Ghosts S) (old new : Held S) (it : Found) → LoadsTables present_version g old new (Ok it) → (r : Result (Option World) Fault) → IfOk r (λ kept. IfSome kept (λ world. it ≡ found.World world)) → FindsTheirs g old new r
finds_theirs g old new it loads r same clean world stands is =
    let db = (state g old).now in
    let told : (other : World) → it ≡ found.World other → Refines db other =
    λ other e. (subst (λ (f : Found). LoadsTables present_version g old new (Ok f)) e loads).looks.says clean stands.trees (arranged db world stands is) (whole db world stands) in
    IfOk-weaker r _ _ (theirs_of db it told) same

-- what holds, holds if a world is found
if_found : (A : Type 0) → A → (r : Result (Option World) Fault) → IfOk r (λ found. IfSome found (λ _. A))
if_found A holds (Ok (Some it)) = holds
if_found A holds (Ok None) = tt
if_found A holds (Err fault) = tt

pub alone_found : {S : Type 0} (g : Ghosts S) (old mid new : Held S) (version : Option ℕ) → version ≡ Some present_version → (HasCleanDisk (state g new) → HasCleanDisk (state g mid))
    → (HasCleanDisk (state g mid) → (state g mid).now ≡ (state g old).now) → OnAnswer {E = Fault} g old mid (Ok version) AnswersVersion → HasOnlyAProject (state g mid).now.schema
    → (r : Result (Option World) Fault) → FindsTheirs g mid new r → FindsAlone g old new r
alone_found g old mid new version is before same answers only r finds = record {
  only = λ clean. if_found _ (subst (λ (db : Database). HasOnlyAProject db.schema) (same (before clean)) only) r;
  theirs = λ clean world stands.
      let there = same (before clean) in
      let of : Some world.version ≡ Some present_version = sym ((answers (before clean)).of_world world stands) ∙ is in
      let known : IsUpToDate world = cc in
      subst (λ (db : Database). IfOk r (λ found. IfSome found (Refines db))) there
      (finds clean world (subst (λ (db : Database). Refines db world) (sym there) stands) known);
}
