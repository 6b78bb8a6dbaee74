-- What holds of what a request makes of a world, whichever way it is answered.
use Rattle.std.proofs.Common.{◌≡◌, ℕ, ◌+◌, ◌==◌, nat_lt, Bool, true, false, List, [], ◌∷◌, length, Option, Some, None, Result, Ok, Err, refl, inl, inr, eqb-true}
use Rattle.std.proofs.lemmas.Bool.{cases_Bool}
use Rattle.std.proofs.lemmas.List.Elements.{All-head, All-tail}
use Rattle.std.specs.List.{All}
use Rattle.std.specs.Prelude.{◌&&◌, not, if◌then◌else◌}
use Rattle.wu_core.specs.Limits.{most_workunits}
use Rattle.wu_core.specs.Parameters.{Parameters}
use Rattle.wu_core.specs.World.{World, Import}
use Rattle.wu_core.specs.declared.fault.Fault.{Fault}
use Rattle.wu_core.specs.declared.fault.Fault.TheVariants.{OldSchema}
use Rattle.wu_core.specs.declared.workunit.HostClass.{HostClass}
use Rattle.wu_core.specs.declared.workunit.Workunit.{Workunit}
use Rattle.wu_feed.specs.declared.jobs.Job.{Job}
use Rattle.wu_rules.specs.Cancelling.{cancelled}
use Rattle.wu_rules.specs.Counts.{is_undecided}
use Rattle.wu_rules.specs.declared.due.Pass.{Pass}
use Rattle.wu_machine.specs.Batches.{first_taken, unless_taken, with_jobs}
use Rattle.wu_machine.specs.FileRows.{Rule, after_row, after_rows, row_verdict}
use Rattle.wu_machine.specs.Imports.{batch_read, classes_read, Done, Given, has_content, import_of, imported, imported_after, jobs_kept, newly_imported, rows_read}
use Rattle.wu_machine.specs.Machine.{cancel_done, done_now, is_limit_right, is_upgrade, pass_done, present_version, reply, step, world_of}
use Rattle.wu_machine.specs.Passes.{passed}
use Rattle.wu_machine.specs.Requests.{Reply, Request}
use Rattle.wu_machine.specs.Worlds.{with_named, workunit_named}

-- what holds of each where it is taken holds of the one that is taken
pub either : {A : Type 0} (P : A → Type 0) (b : Bool) (one other : A) → (b ≡ true → P one) → (b ≡ false → P other) → P (if b then one else other)
either P true one other first second = first refl
either P false one other first second = second refl

-- this holds of what becomes of a world
abbrev pub By : (World → Type 0) → World → Result Done Fault → Type 0
By P world result = P (world_of world result)

-- a world that answers anything but an upgrade is not older
pub not_older : (world : World) (request : Request) (it : Reply) → is_upgrade request ≡ false → reply world request ≡ Ok it
    → nat_lt world.version present_version ≡ false
not_older world request it other is = elim (cases_Bool (nat_lt world.version present_version)) [
  | inl older ↦ absurd (let no : Err (OldSchema world.version) ≡ Ok it = rw (older, other) at is in cc)
  | inr younger ↦ younger
]

-- ---- what holds of the world before, and after each way that a request is answered

module _ (P : World → Type 0) (world : World) (same : P world) where
  -- before an upgrade nothing else is done of an older project
  pub asked : (request : Request) → ((is_upgrade request ≡ false → nat_lt world.version present_version ≡ false) → By P world (done_now world request))
      → P (step world request)
  asked request now =
      either (By P world) (nat_lt world.version present_version && not (is_upgrade request)) _ _ (λ older. same)
      (λ younger. now (by (nat_lt world.version present_version) (is_upgrade request) younger))
    where
      by : (older upgrade : Bool) → (older && not upgrade) ≡ false → upgrade ≡ false → older ≡ false
      by true true is other = other
      by true false is other = is
      by false upgrade is other = refl

  -- an import that came before changes nothing
  pub import_by : (given : Given) → (import_of world given ≡ None → By P world (newly_imported world given given.kind)) → By P world (imported world given)
  import_by given new = by (import_of world given) refl
    where
      by : (found : Option Import) → import_of world given ≡ found → By P world (imported_after world given found)
      by (Some import) is = either (By P world) (has_content given import) _ _ (λ again. same) (λ other. same)
      by None is = new is

  -- nor does a file that cannot be read
  pub file_by : {Row : Type 0} (rule : Rule Row) (given : Given) (file : Result (List Row) Fault)
      → ((rows : List Row) → file ≡ Ok rows → By P world (rows_read rule given world (Ok rows))) → By P world (rows_read rule given world file)
  file_by rule given (Err fault) read = same
  file_by rule given (Ok rows) read = read rows refl

  pub classes_by : (given : Given) (file : Result (List HostClass) Fault)
      → ((rows : List HostClass) → file ≡ Ok rows → By P world (classes_read given world (Ok rows))) → By P world (classes_read given world file)
  classes_by given (Err fault) read = same
  classes_by given (Ok rows) read = read rows refl

  -- nor a batch that is refused
  pub batch_by : (given : Given) (template : Result Parameters Fault) (file : Result (List Job) Fault)
      → ((params : Parameters) (jobs : List Job) → template ≡ Ok params → file ≡ Ok jobs → first_taken world jobs ≡ None
      → nat_lt (most_workunits + 1) (world.next_number + length jobs) ≡ false → By P world (jobs_kept given world jobs (Ok (with_jobs world params jobs))))
      → By P world (batch_read given world template file)
  batch_by given (Err fault) file added = same
  batch_by given (Ok params) (Err fault) added = same
  batch_by given (Ok params) (Ok jobs) added = by (first_taken world jobs) refl
    where
      by : (taken : Option (ℕ × List ℕ)) → first_taken world jobs ≡ taken → By P world (jobs_kept given world jobs (unless_taken world params jobs taken))
      by (Some place) is = same
      by None is =
          either (λ after. By P world (jobs_kept given world jobs after)) (nat_lt (most_workunits + 1) (world.next_number + length jobs)) _ _ (λ many. same)
          (added params jobs refl refl is)

  -- nor a cancel of what is not there or is decided
  pub cancel_by : (name : List ℕ) → ((w : Workunit) → workunit_named world name ≡ Some w → is_undecided w ≡ true → P (with_named world name cancelled))
      → By P world (cancel_done world name (workunit_named world name))
  cancel_by name done = by (workunit_named world name) refl
    where
      by : (found : Option Workunit) → workunit_named world name ≡ found → By P world (cancel_done world name found)
      by None is = same
      by (Some w) is = either (By P world) (is_undecided w) _ _ (done w is) (λ decided. same)

  -- nor a pass whose limit is refused
  pub pass_by : (pass : Pass) (now limit min_age : ℕ) → (is_limit_right pass limit min_age ≡ true → P (passed pass now min_age limit world))
      → By P world (pass_done world pass now limit min_age)
  pass_by pass now limit min_age right = either (By P world) (is_limit_right pass limit min_age) _ _ right (λ wrong. same)

-- ---- rows

module _ {Row : Type 0} (rule : Rule Row) (P : World → Type 0) where
  -- a row that is skipped changes nothing
  pub row_by : (world : World) (row : Row) → P world → (row_verdict rule world row ≡ 0 → P (with_named world (rule.workunit row) (rule.image row)))
      → P (after_row rule world row)
  row_by world row same applied =
      either P (row_verdict rule world row == 0) _ _ (λ is. applied (eqb-true (row_verdict rule world row) 0 is)) (λ skipped. same)

  -- what an applied row keeps, all keep
  pub rows_by : (Q : Row → Type 0) → ((world : World) (row : Row) → Q row → row_verdict rule world row ≡ 0 → P world
      → P (with_named world (rule.workunit row) (rule.image row))) → (rows : List Row) → All Q rows → (world : World) → P world
      → P (after_rows rule world rows)
  rows_by Q keeps [] all world same = same
  rows_by Q keeps (row ∷ rows) all world same =
      rows_by Q keeps rows (All-tail Q row rows all) (after_row rule world row)
      (row_by world row same (λ applied. keeps world row (All-head Q row rows all) applied same))
