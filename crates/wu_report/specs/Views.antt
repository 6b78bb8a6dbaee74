-- What a view shows of a project.
use Rattle.std.specs.Prelude.{◌≡◌, ◌≢◌, ◌⊎◌, ℕ, List, Option, Result, Err, IfErr, IfSome, OnOk}
use Rattle.std.specs.Io.KnownBytes.{Appends}
use Rattle.sqlite.specs.State.{HasCleanDisk}
use Rattle.sqlite_trees.specs.declared.store.Store.{Ghosts}
use Rattle.wu_core.specs.declared.fault.Fault.{Fault}
use Rattle.wu_core.specs.declared.fault.Fault.TheVariants.{Ended, NotAProject, OldSchema, Output}
use Rattle.wu_core.specs.Classes.{AreClassed}
use Rattle.wu_core.specs.World.{World}
use Rattle.wu_views.specs.Lines.{AreHostsNamed, AreImportsStorable}
use Rattle.wu_core.specs.Storable.{AreStorable, IsArchiveStorable}
use Rattle.wu_store.specs.StandsFor.{KnowsClasses}
use Rattle.wu_views.specs.Walking.{IsWalkFault}
use Rattle.wu_views.specs.Summaries.{CountsCredit, CountsStates, granted_in, IsCountable, results_in}
use Rattle.wu_views.specs.declared.lines.Summary.{Summary}
use Rattle.wu_passes.specs.Standing.{ShowsWorld}
use Rattle.wu_passes.specs.declared.project.Project.{Project}
use Rattle.wu_passes.specs.Projects.{BreaksOn, IsPresentSession, IsSessionOpen, IsSessionEnded, IsUnlimited, older_version, ServesShown, state_of}
use Rattle.wu_report.specs.Projects.{ReadsSession}
use Rattle.wu_machine.specs.declared.view.View.{View}
use Rattle.wu_machine.specs.declared.view.View.TheVariants as view
use Rattle.wu_report.specs.Texts.{summary_lines, view_text}
use Rattle.wu_report.specs.Writing.{IsCut, WritesTo}

-- If the fault is `Output`, the text is cut: a text that went out whole is never reported as failed.
abbrev pub CutsOutput : {T : Type 0} → Option (List ℕ) → Option (List ℕ) → List ℕ → Result T Fault → Type 0
CutsOutput before after text result = IfErr result (λ fault. fault ≡ Output → IsCut before after text)

-- ---- a view

-- On a clean disk, if the tables represent a world with classes, this text of it is written, and with a fault a prefix
-- of it.
abbrev pub ShowsText : {S W T : Type 0} {store : Ghosts S} → (W → Option (List ℕ)) → Project S store → Project S store → W → W → (World → List ℕ) → Result T Fault → Type 0
ShowsText contents old new out_old out_new text_of result =
    IsSessionOpen old → HasCleanDisk (state_of new) → (world : World) → KnowsClasses world → ShowsWorld (state_of old) world
    → WritesTo contents out_old out_new (text_of world) result

-- On a clean disk, if the tables represent a world with classes, its text is cut if the fault is `Output`.
abbrev pub CutsShown : {S W T : Type 0} {store : Ghosts S} → (W → Option (List ℕ)) → Project S store → Project S store → W → W → (World → List ℕ) → Result T Fault → Type 0
CutsShown contents old new out_old out_new text_of result =
    IsSessionOpen old → HasCleanDisk (state_of new) → (world : World) → KnowsClasses world → ShowsWorld (state_of old) world
    → CutsOutput (contents out_old) (contents out_new) (text_of world) result

-- The text of the view is written, and with a fault a prefix of it.
abbrev pub Shows : {S W T : Type 0} {store : Ghosts S} → (W → Option (List ℕ)) → Project S store → Project S store → W → W → View → Result T Fault → Type 0
Shows contents old new out_old out_new view result = ShowsText contents old new out_old out_new (λ world. view_text world view) result

-- The values of the world that the view reads can be read.
abbrev pub CanBeShown : World → View → Type 0
CanBeShown world view.Workunits = AreStorable world
CanBeShown world view.Results = AreStorable world
CanBeShown world view.Hosts = AreHostsNamed world
CanBeShown world view.Archive = IsArchiveStorable world
CanBeShown world view.Summary = IsCountable world
CanBeShown world view.Classes = AreClassed world.classes
CanBeShown world view.Imports = AreImportsStorable world
CanBeShown world (view.Import name) = AreImportsStorable world
CanBeShown world (view.Status now) = AreStorable world

-- On a clean disk and without a limit on steps, no read is refused over such a world.
abbrev pub UnrefusedWhere : {S T : Type 0} {store : Ghosts S} → (World → Type 0) → Project S store → Project S store → Result T Fault → Type 0
UnrefusedWhere IsReadable old new result =
    IsSessionOpen old → HasCleanDisk (state_of new) → IsUnlimited old → (world : World) → KnowsClasses world → IsReadable world
    → ShowsWorld (state_of old) world
    → IfErr result (λ fault. fault ≢ NotAProject)

-- If the values that the view reads can be read, the view is not refused.
abbrev pub ShowsUnrefused : {S T : Type 0} {store : Ghosts S} → Project S store → Project S store → View → Result T Fault → Type 0
ShowsUnrefused old new view result = UnrefusedWhere (λ world. CanBeShown world view) old new result

-- Over the present version, the only faults are `Output` and those of the store.
abbrev pub ShowsOrFails : {S T : Type 0} {store : Ghosts S} → Project S store → Result T Fault → Type 0
ShowsOrFails old result = IsSessionOpen old → IsPresentSession old → IfErr result IsWalkFault

-- The view is refused with this fault, and neither the project nor the output is touched.
abbrev pub RefusesWith : {S W T : Type 0} {store : Ghosts S} → (W → Option (List ℕ)) → Project S store → Project S store → W → W → Result T Fault → Fault → Type 0
RefusesWith contents old new out_old out_new result fault = (result ≡ Err fault) × (new ≡ old) × (contents out_new ≡ contents out_old)

-- The view is refused before anything is written.
pub record RefusesView {S W T : Type 0} {store : Ghosts S} (contents : W → Option (List ℕ)) (old new : Project S store) (out_old out_new : W) (result : Result T Fault) : Type 0 where
  -- After the end of a session it answers `Ended`.
  pub ended : IsSessionEnded old → RefusesWith contents old new out_old out_new result Ended
  -- Over an older version it answers `OldSchema` with that version.
  pub older : IsSessionOpen old → IfSome (older_version old) (λ version. RefusesWith contents old new out_old out_new result (OldSchema version))

-- The written summary counts each row of instances and of grants, whatever the tables represent.
pub record WritesCounts {S W : Type 0} {store : Ghosts S} (contents : W → Option (List ℕ)) (old new : Project S store) (out_old out_new : W) : Type 0 where
  pub summary : Summary
  pub states : CountsStates (state_of old) (state_of new) (results_in summary)
  pub credit : CountsCredit (state_of old) (state_of new) (granted_in summary)
  pub text : Appends (contents out_old) (contents out_new) (summary_lines summary)

-- With success, the written summary counts each row.
abbrev pub CountsShown : {S W T : Type 0} {store : Ghosts S} → (W → Option (List ℕ)) → Project S store → Project S store → W → W → Result T Fault → Type 0
CountsShown contents old new out_old out_new result = HasCleanDisk (state_of new) → OnOk result (WritesCounts contents old new out_old out_new)

-- All that is known of the written lines of a view.
pub record WritesView {S W T : Type 0} {store : Ghosts S} (contents : W → Option (List ℕ)) (old new : Project S store) (out_old out_new : W) (text_of : World → List ℕ) (IsReadable : World → Type 0) (result : Result T Fault) : Type 0 where
  pub early : RefusesView contents old new out_old out_new result
  pub reads : ReadsSession old new result
  pub opens : IsSessionOpen old → ServesShown old new result
  pub text : ShowsText contents old new out_old out_new text_of result
  pub cut : CutsShown contents old new out_old out_new text_of result
  pub fault : ShowsOrFails old result
  pub unrefused : UnrefusedWhere IsReadable old new result
  pub broke : BreaksOn old new result
