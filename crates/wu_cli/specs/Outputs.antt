-- The outputs of archived workunits as files.
use Rattle.std.specs.Prelude.{◌≡◌, ◌+◌, ◌⊎◌, ℕ, suc, Bool, true, false, ◌&&◌, List, [], ◌∷◌, ◌++◌, All, bytes_eq, codes, filter, if◌then◌else◌, is_some, length, MatchResult, Option, Some, None, Result, Ok, Err}
use Rattle.std.specs.Fmt.{decimal}
use Rattle.sqlite.specs.Held.{Held}
use Rattle.sqlite.specs.Store.{Ghosts}
use Rattle.wu_core.specs.declared.fault.Fault.{Fault}
use Rattle.wu_core.specs.declared.workunit.Archived.{Archived}
use Rattle.wu_report.specs.Texts.{line_end}
use Rattle.wu_store.specs.Classes.{ForEachClassed}
use Rattle.wu_store.specs.Loading.{Asks, IsStoreFault}
use Rattle.wu_views.specs.Lines.{archived_lines}
use Rattle.wu_arguments.specs.declared.order.OutputFiles.{OutputFiles}
use Rattle.wu_cli.specs.Backups.{CountsSound, unmade_words}
use Rattle.wu_cli.specs.LogNames.{is_reserved}
use Rattle.wu_check.specs.declared.finding.Counts.{Counts}
use Rattle.wu_cli.specs.declared.backup.Unmade.{Unmade}
use Rattle.wu_cli.specs.declared.backup.Unmade.TheVariants as unmade
use Rattle.wu_cli.specs.declared.outputs.KeptCounts.{KeptCounts}
use Rattle.wu_cli.specs.declared.outputs.LostOutput.{LostOutput}
use Rattle.wu_cli.specs.declared.outputs.OutputKeeper.{OutputKeeper}
use Rattle.wu_cli.specs.declared.trouble.Trouble.{Trouble}
use Rattle.wu_cli.specs.declared.trouble.Trouble.TheVariants as trouble

-- Whether a workunit is asked for: it has this name, or none is named.
abbrev pub is_asked : Option (List ℕ) → Archived → Bool
is_asked None row = true
is_asked (Some name) row = bytes_eq name row.name

-- Whether the output of an archived workunit is kept: it is canonical, and the workunit is asked for.
abbrev pub is_wanted : Option (List ℕ) → Archived → Bool
is_wanted name row = is_some row.canonical && is_asked name row

-- The archived workunits whose outputs are kept.
abbrev pub wanted_of : OutputFiles → List Archived → List Archived
wanted_of asked rows = filter (is_wanted asked.name) rows

-- What stands after the name of a workunit in that of its output's file.
abbrev pub reserved_ending : List ℕ → List ℕ
reserved_ending name = if is_reserved name then codes "+" else []

-- The path of the file of an output: in the folder, and named for its workunit. A `+` stands after a name that no file of
-- an output has.
abbrev pub output_path : List ℕ → List ℕ → List ℕ
output_path folder name = folder ++ (codes "/" ++ (name ++ reserved_ending name))

-- How many outputs have their files.
abbrev pub total : KeptCounts → ℕ
total counts = counts.made + counts.there

-- ---- row by row

module _ {F : Type 0} (keeps : F → List ℕ → List ℕ → Type 0) where
  -- The output has its file with exactly its bytes, and one file more is counted.
  pub record HasFile (keeper : OutputKeeper F) (row : Archived) (counts : KeptCounts) : Type 0 where
    pub file : keeps keeper.files.now (output_path keeper.asked.now.folder row.name) row.output
    pub one_more : total counts ≡ suc (total keeper.kept)

  -- The wanted output of a row has its file.
  pub record KeepsWanted (old new : OutputKeeper F) (row : Archived) : Type 0 where
    pub files : new.files.now ≡ old.files.now
    pub asked : new.asked.now ≡ old.asked.now
    pub lost : new.lost ≡ old.lost
    pub has : HasFile old row new.kept

  -- A row is taken: if its output is wanted, that has its file.
  abbrev pub KeepsRowIf : Bool → OutputKeeper F → OutputKeeper F → Archived → Type 0
  KeepsRowIf true old new row = KeepsWanted old new row
  KeepsRowIf false old new row = new ≡ old

  abbrev pub KeepsRow : OutputKeeper F → OutputKeeper F → Archived → Type 0
  KeepsRow old new row = KeepsRowIf (is_wanted old.asked.now.name row) old new row

-- It names this workunit and why its output has no file, or memory ran out.
abbrev pub IsLost : Archived → LostOutput → Type 0
IsLost row lost = ((why : Unmade) × (lost ≡ record { number = row.number; name = row.name; why = why })) ⊎ (lost.why ≡ unmade.Memory)

-- The output of a row is wanted and has no file, which is noted.
abbrev pub LosesRow : {F : Type 0} → OutputKeeper F → OutputKeeper F → Archived → Type 0
LosesRow old new row = (lost : LostOutput) × (new.lost ≡ Some lost) × (is_wanted old.asked.now.name row ≡ true) × IsLost row lost

-- The trouble of a walk that ended with a fault.
abbrev pub trouble_of_walk : Option LostOutput → Fault → Trouble
trouble_of_walk (Some lost) fault = trouble.Lost lost
trouble_of_walk None fault = trouble.Fault fault

-- ---- all rows

module _ (keeps : List ℕ → List ℕ → Type 0) (asked : OutputFiles) where
  -- Each wanted output of these rows has its file, with exactly its bytes.
  abbrev pub HaveFiles : List Archived → Type 0
  HaveFiles rows = All (λ row. keeps (output_path asked.folder row.name) row.output) (wanted_of asked rows)

  -- The trouble is that the output of the next row is wanted and has no file, or a fault of the store.
  abbrev pub IsCause : List Archived → Trouble → Type 0
  IsCause rest told =
      ((row : Archived) × (more : List Archived) × (lost : LostOutput) × (rest ≡ row ∷ more) × (is_wanted asked.name row ≡ true) × IsLost row lost × (told ≡ trouble.Lost lost))
      ⊎ ((fault : Fault) × IsStoreFault fault × (told ≡ trouble.Fault fault))

  -- The wanted outputs of the first rows have their files, up to the trouble.
  pub record HaveFront (rows : List Archived) (told : Trouble) : Type 0 where
    pub front : List Archived
    pub rest : List Archived
    pub all : rows ≡ front ++ rest
    pub files : HaveFiles front
    pub cause : IsCause rest told

  -- All wanted outputs of the rows have their files and are counted, or the first ones have them.
  abbrev pub KeepsRows : List Archived → Result KeptCounts Trouble → Type 0
  KeepsRows rows (Ok counts) = HaveFiles rows × (total counts ≡ length (wanted_of asked rows))
  KeepsRows rows (Err told) = HaveFront rows told

-- ---- over an open database

module _ {S : Type 0} (g : Ghosts S) (keeps : List ℕ → List ℕ → Type 0) (asked : OutputFiles) where
  -- The outputs of the archive have their files.
  pub record KeepsOutputs (old new : Held S) (done : Result KeptCounts Trouble) : Type 0 where
    -- The archive is only read.
    pub asks : (walked : Result (Unit {0}) Fault) × Asks g old new walked
    -- What is kept are outputs of rows, whatever the tables hold.
    pub some : (rows : List Archived) × KeepsRows keeps asked rows done
    -- They are the archived workunits of each world with classes that the tables represent.
    pub archive : ForEachClassed g old new (λ world. KeepsRows keeps asked (archived_lines world) done)

  -- The database is checked, and the outputs of a sound project have their files; else the trouble is why not.
  pub record KeepsIfSound (old new : Held S) (done : Result KeptCounts Trouble) : Type 0 where
    pub mid : Held S
    pub counts : Result Counts Trouble
    pub checks : CountsSound g old mid counts
    pub ends : MatchResult counts (λ _. KeepsOutputs mid new done) (λ told. done ≡ Err told)

-- ---- what is reported

-- The line that reports how many outputs have their files.
abbrev pub outputs_line : List ℕ → KeptCounts → List ℕ
outputs_line folder counts =
    codes "outputs " ++ (folder ++ (codes ": made=" ++ (decimal counts.made ++ (codes " there=" ++ (decimal counts.there ++ line_end)))))

-- The line that reports an output without a file.
abbrev pub lost_line_of : ℕ → List ℕ → Unmade → List ℕ
lost_line_of number name unmade.Memory = codes "F14 Memory" ++ line_end
lost_line_of number name why =
    codes "cannot write the output of workunit " ++ (decimal number ++ (codes ", " ++ (name ++ (codes ": " ++ (unmade_words why ++ line_end)))))

abbrev pub lost_line : LostOutput → List ℕ
lost_line lost = lost_line_of lost.number lost.name lost.why

-- The line that reports that there is no such folder.
abbrev pub no_folder_line : List ℕ
no_folder_line = codes "cannot write the outputs: there is no such folder" ++ line_end
