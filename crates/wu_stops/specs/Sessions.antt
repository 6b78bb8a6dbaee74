-- What a session is that begins over two files.
use Rattle.sqlite.specs.Store.{Ghosts}
use Rattle.wu_passes.specs.Projects.{IsOpen, IsSessionOpen, IsUnlimited, KnowsTables}
use Rattle.wu_passes.specs.declared.project.Project.{Project}

module _ {S : Type 0} {g : Ghosts S} where
  -- A session that begins over files. What it begins from is said of files without a byte, and of files with a world.
  pub record OpensSession (Blank Found : Type 0) (project : Project S g) : Type 0 where
    -- The session has not ended.
    pub begins : IsSessionOpen project
    -- The session has no limit on steps.
    pub unlimited : IsUnlimited project
    -- The connection is open.
    pub opens : IsOpen project
    -- Whatever world the tables represent, the session knows the version of it.
    pub knows : KnowsTables project
    -- Over files without a byte in the database the session begins from the empty world.
    pub blank : Blank
    -- Over files that hold the tables of a world the session goes on from it.
    pub found : Found

  -- A session that begins again after a crash. What it begins from is said of a database without a project, and of one
  -- with a project.
  pub record ResumesSession (Clean Free Found : Type 0) (project : Project S g) : Type 0 where
    -- The session has not ended.
    pub begins : IsSessionOpen project
    -- A disk with no fault by now had none before.
    pub clean : Clean
    -- Whatever world the tables represent, the session knows the version of it.
    pub knows : KnowsTables project
    -- Where no project was, the session begins from the empty world.
    pub free : Free
    -- Where a project was, the session goes on from its world.
    pub found : Found
