-- Worked examples of the machine: worlds, and what is asked of them.
use Rattle.std.specs.Prelude.{ℕ, List, [], ◌∷◌, Some, codes, map}
use Rattle.wu_core.specs.declared.workunit.Instance.{Instance}
use Rattle.wu_core.specs.declared.workunit.Workunit.{Workunit}
use Rattle.wu_core.specs.Parameters.{default_parameters}
use Rattle.wu_core.specs.Workunit.{fresh}
use Rattle.wu_core.specs.World.{World, empty_world}
use Rattle.wu_core.specs.declared.workunit.HostClass.{HostClass}
use Rattle.wu_feed.specs.Classes.{classed}
use Rattle.wu_feed.specs.declared.jobs.Job.{Job}
use Rattle.wu_rules.specs.Examples.{job, out, aa, h1, h2, h3, masked, cancelled_mask, unneeded}
use Rattle.wu_rules.specs.Assimilation.{archived_row}
use Rattle.wu_core.specs.declared.states.Status.TheVariants as status
use Rattle.wu_feed.specs.declared.reports.ReportRow.{ReportRow}
use Rattle.wu_feed.specs.declared.sends.SendRow.{SendRow}

abbrev pub job_1 : List ℕ
job_1 = codes "job_1"

-- A world of these workunits.
abbrev pub with_workunits : List Workunit → World
with_workunits workunits = record empty_world { workunits = workunits; next_number = 10 }

-- The workunit of this number and name, with these instances.
abbrev pub workunit_numbered : ℕ → List ℕ → List Instance → Workunit
workunit_numbered number name instances = record (job default_parameters instances) { number = number; name = name }

-- An instance that was sent to the first host an hour after noon, with this deadline.
abbrev pub out_until : ℕ → Instance
out_until deadline = record (out h1) { deadline = Some deadline }

-- Three workunits with late instances; that of the third is the first to be late.
abbrev pub three_late : World
three_late = with_workunits
    (workunit_numbered 1 (codes "a1") (out_until 1772973000 ∷ fresh ∷ [])
    ∷ workunit_numbered 2 (codes "a2") (out_until 1772973000 ∷ fresh ∷ [])
    ∷ workunit_numbered 3 (codes "a3") (out_until 1772971200 ∷ fresh ∷ [])
    ∷ [])

abbrev pub numbers_of : List Workunit → List ℕ
numbers_of = map (λ w. w.number)

-- One instance is out to the first host, and the other is unsent.
abbrev pub world_of_one_out : World
world_of_one_out = with_workunits (job default_parameters (out h1 ∷ fresh ∷ []) ∷ [])

abbrev pub sent_row : ℕ → List ℕ → SendRow
sent_row n host = record { workunit = job_1; n = n; host = host; moment = 1772370000 }

-- A reported success of one byte.
abbrev pub reported_row : List ℕ → ℕ → List ℕ → ℕ → ReportRow
reported_row workunit n host moment = record { workunit = workunit; n = n; host = host; moment = moment; status = status.Success; output = aa }

-- Three sends: of a second instance to the same host, of an instance that is out already, and one that is applied.
abbrev pub three_sends : List SendRow
three_sends = sent_row 1 h1 ∷ sent_row 0 h2 ∷ sent_row 1 h2 ∷ []

-- A world with two unsent instances.
abbrev pub world_of_two_unsent : World
world_of_two_unsent = with_workunits (job default_parameters (fresh ∷ fresh ∷ []) ∷ [])

-- Three hosts with classes; the first and the third are of one class.
abbrev pub three_classes : List HostClass
three_classes = classed h1 1 ∷ classed h2 2 ∷ classed h3 1 ∷ []

-- Sends of one instance to the first host, and of the other to the second and to the third.
abbrev pub sends_to_three : List SendRow
sends_to_three = sent_row 0 h1 ∷ sent_row 1 h2 ∷ sent_row 1 h3 ∷ []

-- Six reports: of no instance, of an unsent one, from another host, from before the sending, a right one, and the same
-- again.
abbrev pub six_reports : List ReportRow
six_reports =
    reported_row (codes "job_9") 0 h1 1772373600
    ∷ reported_row job_1 1 h1 1772373600
    ∷ reported_row job_1 0 h2 1772373600
    ∷ reported_row job_1 0 h1 1772369999
    ∷ reported_row job_1 0 h1 1772373600
    ∷ reported_row job_1 0 h1 1772373600
    ∷ []

-- A world whose only workunit was cancelled, archived and purged.
abbrev pub one_archived : World
one_archived = record empty_world {
  archived = archived_row (masked cancelled_mask (job default_parameters (unneeded ∷ []))) 1772409600 ∷ [];
  next_number = 2;
}

abbrev pub one_job : List Job
one_job = record { name = job_1; input = 0 ∷ 255 ∷ [] } ∷ []
