use Rattle.std.proofs.Common.{◌++◌, rules, take}
use Rattle.std.proofs.KnownBytes.{Appends-trans}
use Rattle.wu_report.proofs.WritingLemmas.{Appends-none, Appends-nought, IsCut-part, moves_front, prints_cut}
use Rattle.wu_report.proofs.output.write_bytes.Goals as goal

pub loop-rest-preserved : goal.loop-rest-preserved
loop-rest-preserved g c =
    let (done, split, appended) = c.loop-rest.invariant in
    let rest = c.loop-rest.rest.now in
    let n = c.in-Ok.count in
    (done ++ take n rest, moves_front _ done rest n split, Appends-trans _ _ _ _ _ appended c.in-Ok.ensures.bytes)

pub returns-in-Ok-eq0 : goal.returns-in-Ok-eq0
returns-in-Ok-eq0 g c =
    let (done, split, appended) = c.loop-rest.invariant in
    prints_cut g.W.Write.contents _ _ _ (IsCut-part _ _ _ _ done c.loop-rest.rest.now split (search rules) appended
    (Appends-nought _ _ c.loop-rest.rest.now c.in-Ok-eq0.field-0 c.in-Ok-eq0.field-0-test c.in-Ok-eq0.ensures.bytes))

pub returns-in-Err : goal.returns-in-Err
returns-in-Err g c =
    let (done, split, appended) = c.loop-rest.invariant in
    prints_cut g.W.Write.contents _ _ _ (IsCut-part _ _ _ _ done c.loop-rest.rest.now split (search rules) appended (Appends-none _ _ c.in-Err.ensures.bytes))
