-- Tables that represent a world represent the same world with its imports in another order.
use Rattle.std.proofs.Common.{◌≡◌, map, subst}
use Rattle.std.specs.List.Sorted.{IsPermutation}
use Rattle.std.proofs.lemmas.List.Sorted.{IsPermutation-map, IsPermutation-sym, IsPermutation-trans}
use Rattle.sqlite.specs.Effect.{Database}
use Rattle.wu_core.specs.World.{World}
use Rattle.wu_schema.specs.Refines.{Refines}
use Rattle.wu_schema.specs.Stored.{import_cells}
use Rattle.wu_store.specs.StandsFor.{StandsFor}
use Rattle.wu_store.specs.Worlds.{SameWorld}
use Rattle.wu_store.proofs.SameWorld.{one_world}

-- One database represents two worlds, and another the first of them. Then that represents the second.
pub stands_again : (db new : Database) (it world : World) → Refines db it → Refines db world → StandsFor new it → StandsFor new world
stands_again db new it world one two stands =
    let same : SameWorld it world = one_world db it world one two in
    let here : record it { imports = world.imports } ≡ world = λ i. record {
      workunits = same.workunits i;
      grants = same.grants i;
      archived = same.archived i;
      imports = world.imports;
      classes = same.classes i;
      next_number = same.next_number i;
      version = same.version i;
    } in
    let rows = stands.refines.rows in
    let moved : IsPermutation (map import_cells world.imports) (map import_cells it.imports) = IsPermutation-map import_cells _ _ (IsPermutation-sym it.imports world.imports same.imports) in
    let refines : Refines new (record it { imports = world.imports }) = record {
      trees = stands.refines.trees;
      tables = stands.refines.tables;
      rows = record {
        project = rows.project;
        workunits = rows.workunits;
        instances = rows.instances;
        grants = rows.grants;
        hosts = rows.hosts;
        archived = rows.archived;
        imports = record { shaped = rows.imports.shaped; same = IsPermutation-trans _ _ _ moved rows.imports.same };
        imported_once = two.rows.imported_once;
        imports_kept = two.rows.imports_kept;
        classes = λ known. record { hosts = (rows.classes known).hosts; workunits = (rows.classes known).workunits };
        classless = λ older. record { hosts = (rows.classless older).hosts; workunits = (rows.classless older).workunits };
        classes_in_order = rows.classes_in_order;
      };
      sound = stands.refines.sound;
    } in
    subst (StandsFor new) here (record { refines = refines; queue = stands.queue })
