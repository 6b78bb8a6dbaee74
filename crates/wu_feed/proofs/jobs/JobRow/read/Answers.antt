use Rattle.std.proofs.Common.{inl, refl}
use Rattle.csv.specs.Records.{fields_of}
use Rattle.wu_feed.proofs.FieldLemmas.{two_long}
use Rattle.wu_feed.proofs.jobs.JobRow.read.Goals as goal

pub returns-in-Some : goal.returns-in-Some
returns-in-Some c =
    let long = two_long (c.in-Some.name.now, c.in-Some.input.now) (fields_of c.args.row.now) c.in-Some.ensures in
    rw (← c.in-Some.ensures) (record {
      exact = c.read_job.ensures.exact;
      fields = λ other. absurd (other long);
      told = c.read_job.ensures.told;
    })

pub returns-in-None : goal.returns-in-None
returns-in-None c = rw (c.fault_at.ensures, ← c.in-None.ensures) (record { exact = inl refl; fields = λ other. refl; told = λ row why found e. e })
