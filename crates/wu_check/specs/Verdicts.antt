-- What a check does to a connection, and what its verdict means.
use Rattle.std.specs.Prelude.{Result, IfErr}
use Rattle.sqlite.specs.Held.{Held}
use Rattle.sqlite.specs.Store.{Ghosts}
use Rattle.wu_core.specs.declared.fault.Fault.{Fault}
use Rattle.wu_schema.specs.Asking.{Asks, ServesUnlessFailed}
use Rattle.wu_schema.specs.Calls.{OnAnswer}
use Rattle.wu_schema.specs.Faults.{IsStoreFault}
use Rattle.wu_check.specs.Examining.{AnswersUnlessFailed, OnKept}
use Rattle.wu_check.specs.Findings.{SaysLater, SaysSound, SaysUnsound, SaysWhy}
use Rattle.wu_check.specs.declared.finding.Verdict.{Verdict}

-- A database is checked.
pub record Checks {S : Type 0} (g : Ghosts S) (old new : Held S) (result : Result Verdict Fault) : Type 0 where
  -- It begins no transaction and commits nothing. Except after `Memory` and `Broken` all is as before, and `Broken` means
  -- a failed disk or a closed connection.
  pub asks : Asks g old new result
  -- The connection is open afterwards, except after `Memory` and `Broken`.
  pub opens : ServesUnlessFailed g new result
  -- Over kept tables, `Sound` means that they represent a sound world of a known version with these numbers, and that
  -- nothing has a name that its upgrade gives.
  pub sound : OnKept g old new result SaysSound
  -- A finding means that the tables represent no sound world of a known version; or it is `Taken`, with the world's
  -- version and the first name of its upgrade that something has.
  pub unsound : OnAnswer g old new result SaysUnsound
  -- Over kept tables the finding is true, and the first in the written order: tables, their rows, keys and agreement,
  -- queue, names of an upgrade. An unknown version is that of the one row of `project`, or of what has its name. A
  -- missing `project` is `Barred` if something has a name of a new project.
  pub told : OnKept g old new result SaysWhy
  -- Over kept tables with no limit on steps, a finding reports the version that the one row of `project` has, if it is
  -- later.
  pub later : OnKept g old new result (SaysLater old.step_limit)
  -- A fault is `Memory`, `Broken` or `NotAProject`.
  pub fault : IfErr result IsStoreFault
  -- With no limit on steps, the only faults are `Memory` and `Broken`.
  pub answered : AnswersUnlessFailed g old new result
