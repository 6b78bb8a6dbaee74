-- Texts in which no line begins with '='. In a session such a line ends an answer.
use Rattle.std.specs.Prelude.{◌≢◌, ℕ, ⊤, All, List, slice_get, Some}
use Rattle.std.specs.Str.Lines.{lines}
use Rattle.wu_core.specs.declared.workunit.Archived.{Archived}
use Rattle.wu_core.specs.declared.workunit.HostClass.{HostClass}
use Rattle.wu_core.specs.Storable.{IsHost, IsName}
use Rattle.wu_core.specs.World.{World}
use Rattle.wu_views.specs.declared.failures.HostFailures.{HostFailures}
use Rattle.wu_schema.specs.declared.rows.HostSum.{HostSum}
use Rattle.wu_views.specs.declared.lines.ImportLine.{ImportLine}
use Rattle.wu_views.specs.declared.lines.ResultLine.{ResultLine}
use Rattle.wu_views.specs.declared.lines.WorkunitLine.{WorkunitLine}
use Rattle.wu_views.specs.Failures.{worst_hosts}
use Rattle.wu_views.specs.Lines.{archived_lines, class_lines, host_lines, import_lines, import_lines_named, result_lines, workunit_lines}
use Rattle.wu_machine.specs.declared.view.View.{View}
use Rattle.wu_machine.specs.declared.view.View.TheVariants as view
use Rattle.wu_report.specs.Texts.{view_text}
use Rattle.wu_report.specs.Views.{CanBeShown}

-- The byte '='.
abbrev pub equals_sign : ℕ
equals_sign = 61

-- No line of the text begins with this byte.
abbrev pub NoLineBeginsWith : ℕ → List ℕ → Type 0
NoLineBeginsWith byte text = All (λ line. slice_get line 0 ≢ Some byte) (lines text)

-- The names in the view of the world are valid; other views have none.
abbrev pub HasValidNames : World → View → Type 0
HasValidNames world view.Workunits = All (λ (line : WorkunitLine). IsName line.name) (workunit_lines world)
HasValidNames world view.Results = All (λ (line : ResultLine). IsName line.workunit × IsHost line.host) (result_lines world)
HasValidNames world view.Hosts = All (λ (line : HostSum). IsName line.name) (host_lines world)
HasValidNames world view.Archive = All (λ (row : Archived). IsName row.name) (archived_lines world)
HasValidNames world view.Classes = All (λ (it : HostClass). IsName it.host) (class_lines world)
HasValidNames world view.Imports = All (λ (line : ImportLine). IsName line.name) (import_lines world)
HasValidNames world (view.Import name) = All (λ (line : ImportLine). IsName line.name) (import_lines_named name world)
HasValidNames world (view.Status now) = All (λ (it : HostFailures). IsName it.host) (worst_hosts world)
HasValidNames world _ = ⊤

-- If the names in a view are valid, no line of its text begins with '='.
abbrev pub NoViewLineIsMarked : Type 0
NoViewLineIsMarked = (world : World) (view : View) → HasValidNames world view → NoLineBeginsWith equals_sign (view_text world view)

-- The names in a view that can be read are valid.
abbrev pub ReadableNamesAreValid : Type 0
ReadableNamesAreValid = (world : World) (view : View) → CanBeShown world view → HasValidNames world view
