-- The world that the parts of a loaded one are those of.
use Rattle.std.specs.Prelude.{List}
use Rattle.wu_audit.specs.declared.loaded.LoadedParts.{LoadedParts}
use Rattle.wu_core.specs.World.{World, Import}

-- The world of these parts and imports.
abbrev pub world_of_parts : LoadedParts → List Import → World
world_of_parts parts imports = record {
  workunits = parts.workunits.items;
  grants = parts.grants.items;
  archived = parts.archived.items;
  imports = imports;
  classes = parts.classes.items;
  next_number = parts.next_number;
  version = parts.version;
}
