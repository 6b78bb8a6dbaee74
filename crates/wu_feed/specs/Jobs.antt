-- Files of jobs: a header `name,input`, and a row for each job.
use Rattle.std.specs.Prelude.{ℕ, if◌then◌else◌, codes, List, [], ◌∷◌, Option, Some, None, Result, Ok, Err}
use Rattle.wu_core.specs.Names.{is_name}
use Rattle.wu_core.specs.declared.fault.Fault.{Fault}
use Rattle.wu_core.specs.declared.fault.Fault.TheVariants.{BadFile}
use Rattle.wu_core.specs.declared.fault.FileCause.TheVariants as cause
use Rattle.wu_feed.specs.Fields.{two_of}
use Rattle.wu_feed.specs.Inputs.{input_of}
use Rattle.wu_feed.specs.Rows.{rows_of_file}
use Rattle.wu_feed.specs.declared.jobs.Job.{Job}

abbrev pub jobs_header : List (List ℕ)
jobs_header = codes "name" ∷ codes "input" ∷ []

-- The job with this name and input; without an input a fault.
abbrev pub job_with : ℕ → List ℕ → Option (List ℕ) → Result Job Fault
job_with row name (Some input) = Ok (record { name = name; input = input })
job_with row name None = Err (BadFile row cause.Input)

-- The job of a name and an input, or the first fault.
abbrev pub job_of_two : ℕ → Option (List ℕ × List ℕ) → Result Job Fault
job_of_two row (Some pair) = if is_name pair.0 then job_with row pair.0 (input_of pair.1) else Err (BadFile row cause.Name)
job_of_two row None = Err (BadFile row cause.Fields)

-- The job of a row's fields, or the first fault.
abbrev pub job_of : ℕ → List (List ℕ) → Result Job Fault
job_of row fields = job_of_two row (two_of fields)

-- The jobs of a file, or its first fault.
abbrev pub jobs_of_file : List ℕ → Result (List Job) Fault
jobs_of_file = rows_of_file jobs_header job_of
