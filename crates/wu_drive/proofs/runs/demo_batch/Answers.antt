use Rattle.std.proofs.Common.{◌≡◌, ◌++◌, [], Ok, rules}
use Rattle.std.specs.Prelude.{codes}
use Rattle.wu_core.specs.Names.{name_of}
use Rattle.wu_core.specs.Reads.{IsOrWantsMemory}
use Rattle.wu_report.specs.Texts.{line_end}
use Rattle.wu_drive.proofs.DemonstrationLemmas.{is_demonstration}
use Rattle.wu_drive.proofs.runs.demo_batch.Goals as goal

pub returns : goal.returns
returns c =
    let named : IsOrWantsMemory (Ok c.in_ok-read.field-0) (name_of (codes "b1")) = search rules in
    let file : c.from_vec.result ≡ codes "name,input" ++ line_end ++ codes "job_1,00ff" ++ line_end = search rules in
    let none : c.new.result ≡ [] = search rules in
    rw none (is_demonstration c.in_ok-read.field-0 c.from_vec.result named file)
