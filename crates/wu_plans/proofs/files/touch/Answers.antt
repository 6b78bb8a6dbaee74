use Rattle.wu_store.proofs.AskLemmas.{reads_also, reads_handed, reads_made, reads_none, reads_if}
use Rattle.std.proofs.Common.{◌≡◌, ◌∙◌, Some, sym}
use Rattle.wu_machine.specs.Worlds.{workunit_named}
use Rattle.wu_store.proofs.WorldOnce.{once_named}
use Rattle.wu_plans.proofs.FileLemmas.{not_touched, taken_in, touched_has, touched_none}
use Rattle.wu_plans.proofs.ExitLemmas.{memory_told, memory_unbroken, memory_unrefused}
use Rattle.wu_plans.proofs.files.touch.Goals as goal

pub returns-then-has : goal.returns-then-has
returns-then-has g c = reads_none g.S.Store _ _ (λ never. never) (λ world stands known images. touched_has world c.args.touched.now c.args.name.now (sym c.has.ensures ∙ c.if-has.true) images)

pub returns-in-Some : goal.returns-in-Some
returns-in-Some g c =
    reads_also g.S.Store _ _ c.in_ok-workunit.field-0 c.insert.result (memory_unbroken c.insert.result c.insert.ensures.fault) (memory_told c.insert.result c.insert.ensures.fault) (reads_if (λ never. absurd never) c.in_ok-workunit.ensures.reads) (λ world stands earlier known images. let new = not_touched c.args.touched.now c.args.name.now (sym c.has.ensures ∙ c.if-has.false) in
    let present : workunit_named world c.args.name.now ≡ Some c.in-Some.workunit = sym (sym c.in-Some.is ∙ earlier known) in
    taken_in world (once_named _ world stands) c.args.touched.now c.insert.new.self c.args.name.now c.in-Some.workunit present new images c.insert.result c.insert.ensures.also)
    (λ world stands earlier can. memory_unrefused c.insert.result c.insert.ensures.fault)

pub returns-in-None : goal.returns-in-None
returns-in-None g c =
    let new = not_touched c.args.touched.now c.args.name.now (sym c.has.ensures ∙ c.if-has.false) in
    reads_made g.S.Store _ _ c.in_ok-workunit.field-0 _ (reads_if (λ never. absurd never) c.in_ok-workunit.ensures.reads) (λ world stands found known images. touched_none world c.args.touched.now c.args.name.now new (sym (sym c.in-None.is ∙ found known)) images)

pub returns-in_err-workunit : goal.returns-in_err-workunit
returns-in_err-workunit g c =
    reads_handed g.S.Store _ _ c.from_residual.result c.in_err-workunit.field-0.0 c.from_residual.ensures.1 (reads_if (λ never. absurd never) c.in_err-workunit.ensures.reads) (λ other told world known images. tt) (λ world stands can. can)
