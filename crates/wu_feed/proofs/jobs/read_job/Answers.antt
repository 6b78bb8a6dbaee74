use Rattle.wu_feed.proofs.ReadLemmas.{passed_on}
use Rattle.wu_feed.proofs.ToldLemmas.{job_told}
use Rattle.wu_feed.specs.Inputs.{input_of}
use Rattle.wu_feed.proofs.jobs.read_job.Goals as goal

pub returns-in_err-name : goal.returns-in_err-name
returns-in_err-name c =
    let same = passed_on c.in_err-name.field-0.0 c.from_residual.result c.from_residual.ensures in
    let was = rw (c.both.ensures, c.at_field-name.ensures) at c.in_err-name.was in
    let told = job_told c.args.number c.args.name.now (input_of c.args.input.now) c.read.result c.read_input-input.result _ c.read.ensures.name c.read.ensures.told c.read_input-input.ensures was in
    rw same (record { exact = told.0; told = told.1 })

pub returns : goal.returns
returns c =
    let was = rw (c.both.ensures, c.at_field-name.ensures) at c.in_ok-name.was in
    let told = job_told c.args.number c.args.name.now (input_of c.args.input.now) c.read.result c.read_input-input.result _ c.read.ensures.name c.read.ensures.told c.read_input-input.ensures was in
    record { exact = told.0; told = told.1 }
