use Rattle.std.proofs.Common.{refl, inl, arith}
use Rattle.sqlite_wal.specs.Files.{image_at}
use Rattle.sqlite.specs.Files.{file_state}
use Rattle.sqlite.specs.State.{HasCleanDisk}
use Rattle.wu_drive.proofs.DrivingLemmas.{empty_project}
use Rattle.wu_stops.proofs.StoppingLemmas.{some_then}
use Rattle.wu_stops.proofs.BeginningLemmas.{blank_vacant, goes_from}
use Rattle.wu_lives.proofs.runs.begin_at.Goals as goal

pub returns-in-Ok-clause-begins : goal.returns-in-Ok-clause-begins
returns-in-Ok-clause-begins g c = some_then c.begin.result (λ project begun. (begun.going, begun.knows)) c.begin.ensures

pub returns-in-Ok-clause-blank : goal.returns-in-Ok-clause-blank
returns-in-Ok-clause-blank g c = some_then c.begin.result (λ project begun blank clean.
    let adopts = begun.adopts in
    let early : HasCleanDisk (file_state c.in-Ok.conn) = omega (arith, clean, adopts.clean) in (
      (adopts.fresh clean (blank_vacant c.in-Ok.conn (c.in-Ok.ensures.opened early) (image_at g.S.Start) (c.in-Ok.ensures.found early) blank)).goes,
      empty_project,
    )) c.begin.ensures

pub returns-in-Ok-clause-found : goal.returns-in-Ok-clause-found
returns-in-Ok-clause-found g c = some_then c.begin.result (λ project begun world first held clean.
    let adopts = begun.adopts in
    let early : HasCleanDisk (file_state c.in-Ok.conn) = omega (arith, clean, adopts.clean) in
    adopts.goes clean world first (goes_from c.in-Ok.conn (c.in-Ok.ensures.opened early) (image_at g.S.Start) (c.in-Ok.ensures.found early) (λ file. inl refl) world held)) c.begin.ensures
