use Rattle.sqlite.proofs.Callers.{memory_is_clean}
use Rattle.wu_passes.specs.Projects.{connection_of}
use Rattle.wu_drive.proofs.DemonstrationLemmas.{demonstrated, empty_is_vacant}
use Rattle.wu_drive.proofs.DrivingLemmas.{empty_project}
use Rattle.wu_drive.proofs.runs.run_demo.Goals as goal

pub returns : goal.returns
returns g c =
    let clean = memory_is_clean (connection_of c.in-Ok.project) in
    let begins = c.in-Ok.ensures.session in
    let fresh = begins.adopts.fresh clean (empty_is_vacant _ c.in_ok-conn.ensures.empty) in
    demonstrated g.W.Write.contents c.in-Ok.project c.drive.new.project c.show.new.project c.args.out.now c.drive.new.out c.show.new.out
    c.in_ok-demo_batch.field-0 c.drive.result c.in_ok-demo_batch.ensures begins.going
    (record { is_project = empty_project.1; version = begins.knows clean _ fresh.goes.stands; goes = fresh.goes })
    (memory_is_clean (connection_of c.drive.new.project)) (memory_is_clean (connection_of c.show.new.project)) c.in-None.is
    c.drive.ensures.all c.drive.ensures.ends c.drive.ensures.answers c.show.result c.show.ensures.text
