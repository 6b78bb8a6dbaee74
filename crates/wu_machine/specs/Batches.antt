-- Batches of jobs.
use Rattle.std.specs.Prelude.{ℕ, ◌+◌, nat_lt, Bool, if◌then◌else◌, List, [], ◌∷◌, ◌++◌, map, length, replicate, take, find, bytes_eq, Option, Some, None, Result, Ok, Err}
use Rattle.std.specs.List.{list_any, enumerate_from}
use Rattle.wu_core.specs.declared.workunit.Workunit.{Workunit}
use Rattle.wu_core.specs.declared.states.Assimilate.TheVariants as assimilate
use Rattle.wu_core.specs.declared.states.FileDelete.TheVariants as file_delete
use Rattle.wu_core.specs.declared.fault.Fault.{Fault}
use Rattle.wu_core.specs.declared.fault.Fault.TheVariants.{WorkunitUsed, TooMany}
use Rattle.wu_core.specs.Limits.{most_workunits}
use Rattle.wu_core.specs.Mask.{no_errors}
use Rattle.wu_core.specs.Parameters.{Parameters}
use Rattle.wu_core.specs.World.{World}
use Rattle.wu_feed.specs.declared.jobs.Job.{Job}

-- Whether the name is one of these.
abbrev pub is_one_of : List (List ℕ) → List ℕ → Bool
is_one_of names name = list_any (λ one. bytes_eq one name) names

-- The names that are taken in a world: those of present workunits, and of archived ones.
abbrev pub taken_names : World → List (List ℕ)
taken_names world = map (λ w. w.name) world.workunits ++ map (λ row. row.name) world.archived

abbrev pub job_names : List Job → List (List ℕ)
job_names jobs = map (λ job. job.name) jobs

-- The place and the name of the first job whose name is taken, by the world or by an earlier job; else `None`.
abbrev pub first_taken : World → List Job → Option (ℕ × List ℕ)
first_taken world jobs =
    find (λ p. is_one_of (taken_names world ++ take p.0 (job_names jobs)) p.1) (enumerate_from 0 (job_names jobs))

-- The workunit that a batch makes of a job.
abbrev pub new_workunit : Parameters → ℕ → Job → Workunit
new_workunit params number job = record {
  number = number;
  name = job.name;
  params = params;
  input = job.input;
  error_mask = no_errors;
  canonical = None;
  assimilate = assimilate.Init;
  file_delete = file_delete.Init;
  done_at = None;
  class = 0;
  instances = [];
}

-- The world with a workunit for each job, with consecutive numbers from the next one.
abbrev pub with_jobs : World → Parameters → List Job → World
with_jobs world params jobs = record world {
  workunits = world.workunits ++ map (λ p. new_workunit params p.0 p.1) (enumerate_from world.next_number jobs);
  next_number = world.next_number + length jobs;
}

abbrev pub unless_taken : World → Parameters → List Job → Option (ℕ × List ℕ) → Result World Fault
unless_taken world params jobs (Some place) = Err (WorkunitUsed (place.0 + 2))
unless_taken world params jobs None =
    if nat_lt (most_workunits + 1) (world.next_number + length jobs) then Err TooMany else Ok (with_jobs world params jobs)

-- The world with a workunit for each job; refused at the first name that is taken, or if there would be too many
-- workunits ever.
abbrev pub jobs_added : World → Parameters → List Job → Result World Fault
jobs_added world params jobs = unless_taken world params jobs (first_taken world jobs)

-- The number of the first workunit of a batch; 0 if the batch has no job.
abbrev pub first_number : World → List Job → ℕ
first_number world [] = 0
first_number world (job ∷ jobs) = world.next_number

-- The verdicts of a file whose rows are all applied.
abbrev pub all_applied : {Row : Type 0} → List Row → List ℕ
all_applied rows = replicate (length rows) 0
