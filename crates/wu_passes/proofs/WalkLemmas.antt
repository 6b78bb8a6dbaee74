-- One walk after another, and what goes on over a world that was only read.
use Rattle.std.proofs.Common.{refl}
use Rattle.sqlite.specs.Store.{Ghosts}
use Rattle.wu_store.proofs.LoadLemmas.{read_none}
use Rattle.wu_passes.specs.declared.project.Project.{Project}
use Rattle.wu_passes.specs.Projects.{state_of}
use Rattle.wu_passes.specs.Walks.{OnlyReads}

pub reads_none : {S : Type 0} {g : Ghosts S} (p : Project S g) → OnlyReads p p
reads_none {S} {g} p = record { session = refl; read = read_none (state_of p); limit = refl; version = refl }
