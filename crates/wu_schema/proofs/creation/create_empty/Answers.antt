use Rattle.wu_schema.proofs.Words.{IsDatabase, ⊤}
use Rattle.wu_schema.specs.Made.{HasBareProject, MakesEmpty, MakesTables, PutsProject, class_tables, record_tables, work_tables}
use Rattle.wu_schema.proofs.BreakLemmas.{bare_made}
use Rattle.wu_schema.proofs.MadeLemmas.{all_made}
use Rattle.wu_schema.proofs.StepLemmas.{made_as, made_then, over_any, stopped}
use Rattle.wu_schema.proofs.creation.create_empty.Goals as goal

pub returns-in_err-create_work : goal.returns-in_err-create_work
returns-in_err-create_work g c =
    let one = c.in_err-create_work.ensures in
    stopped MakesEmpty (over_any IsDatabase one) c.from_residual.result c.from_residual.ensures.1

pub returns-in_err-create_records : goal.returns-in_err-create_records
returns-in_err-create_records g c =
    let one = c.in_ok-create_work.ensures in
    let two = c.in_err-create_records.ensures in
    let made = made_then (λ old mid made over. tt) (over_any IsDatabase one) two in
    stopped MakesEmpty made c.from_residual-in_err-create_records.result c.from_residual-in_err-create_records.ensures.1

pub returns-in_err-create_classes : goal.returns-in_err-create_classes
returns-in_err-create_classes g c =
    let one = c.in_ok-create_work.ensures in
    let two = c.in_ok-create_records.ensures in
    let three = c.in_err-create_classes.ensures in
    let before = made_then (λ old mid made over. tt) (over_any IsDatabase one) two in
    let made = made_then (λ old mid made over. tt) before three in
    stopped MakesEmpty made c.from_residual-in_err-create_classes.result c.from_residual-in_err-create_classes.ensures.1

pub returns : goal.returns
returns g c =
    let one = c.in_ok-create_work.ensures in
    let two = c.in_ok-create_records.ensures in
    let three = c.in_ok-create_classes.ensures in
    let four = c.insert_project.ensures in
    let before = made_then (λ old mid made over. tt) (over_any IsDatabase one) two in
    let made = made_then (λ old mid made over. tt) before three in
    let all = made_then (λ old end it sound. bare_made old it.1.0 it.0 end sound it.1.1 it.1.2 it.2) made four in
    made_as (λ old new it. all_made old it.1.1.0 it.1.0 it.0 new it.1.1.1 it.1.1.2 it.1.2 it.2) all
