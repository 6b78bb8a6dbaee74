-- Which instances may be sent and reported, and what becomes of them, in BOINC's words.
use Rattle.std.specs.Prelude.{◌≡◌, ◌≢◌, ◌↔◌, ℕ, ◌+◌, ◌≤◌, true, List, Some, IfSome, IsSomeAnd, slice_get}
use Rattle.wu_core.specs.declared.workunit.Instance.{Instance}
use Rattle.wu_core.specs.declared.workunit.Workunit.{Workunit}
use Rattle.wu_core.specs.declared.states.FileDelete.TheVariants as file_delete
use Rattle.wu_core.specs.declared.states.Outcome.TheVariants as outcome
use Rattle.wu_core.specs.declared.states.ServerState.TheVariants as server
use Rattle.wu_core.specs.declared.states.Status.{Status}
use Rattle.wu_core.specs.declared.states.Status.TheVariants as status
use Rattle.wu_core.specs.declared.states.ValidateState.TheVariants as validate
use Rattle.wu_rules.specs.declared.verdicts.ReportVerdict.TheVariants as report
use Rattle.wu_rules.specs.declared.verdicts.SendVerdict.TheVariants as send
use Rattle.wu_rules.specs.Counts.{has_active}
use Rattle.wu_rules.specs.Reporting.{report_verdict_in, reported_in}
use Rattle.wu_rules.specs.Sending.{send_verdict_in, sent_in}

-- Only the instance of this number changes.
pub record ChangesOnlyAt (old new : Workunit) (n : ℕ) : Type 0 where
  pub others : (k : ℕ) → k ≢ n → slice_get new.instances k ≡ slice_get old.instances k
  pub rest : new ≡ record old { instances = new.instances }

-- The instance is unsent, the host has no instance of its workunit, and an active workunit is of the host's class.
pub record MayBeSent (w : Workunit) (n : ℕ) (host : List ℕ) (class : ℕ) : Type 0 where
  pub waits : IsSomeAnd (slice_get w.instances n) (λ i. i.server_state ≡ server.Unsent)
  pub another : (k : ℕ) (i : Instance) → slice_get w.instances k ≡ Some i → i.host ≢ Some host
  pub alike : has_active w ≡ true → w.class ≡ class

-- The instance is out at this host since this moment, due after its workunit's delay, and all else of it stays.
pub record IsSent (w : Workunit) (host : List ℕ) (moment : ℕ) (i j : Instance) : Type 0 where
  pub out : j.server_state ≡ server.InProgress
  pub at : j.host ≡ Some host
  pub since : j.sent_at ≡ Some moment
  pub until : j.deadline ≡ Some (moment + w.params.delay_bound)
  pub end : (j.outcome ≡ i.outcome) × (j.validate_state ≡ i.validate_state)
  pub report : (j.received_at ≡ i.received_at) × (j.output ≡ i.output)
      × (j.file_delete ≡ i.file_delete)

-- A send is applied exactly if the instance may be sent. It is then sent, its workunit is of the host's class, and
-- nothing else changes.
pub record Sends (w : Workunit) (n : ℕ) (host : List ℕ) (class : ℕ) (moment : ℕ) : Type 0 where
  pub applied : (send_verdict_in w n host class ≡ send.Applied) ↔ MayBeSent w n host class
  pub sent : (i : Instance) → slice_get w.instances n ≡ Some i
      → IsSomeAnd (slice_get (sent_in w n host class moment).instances n) (IsSent w host moment i)
  pub bound : (i : Instance) → slice_get w.instances n ≡ Some i
      → (sent_in w n host class moment).class ≡ class
  pub only : ChangesOnlyAt w (record (sent_in w n host class moment) { class = w.class }) n

abbrev pub SendsAsTold : Type 0
SendsAsTold = (w : Workunit) (n : ℕ) (host : List ℕ) (class : ℕ) (moment : ℕ) → Sends w n host class moment

-- The instance was sent to this host by this moment, and it is not over except without a reply.
pub record MayBeReported (host : List ℕ) (moment : ℕ) (i : Instance) : Type 0 where
  pub its : i.host ≡ Some host
  pub after : IfSome i.sent_at (λ since. since ≤ moment)
  pub awaited : i.server_state ≡ server.Over → i.outcome ≡ outcome.NoReply

-- The instance is over at this moment as its host reports, with the reported output and without a verdict. Its sending
-- stays.
pub record IsReported (moment : ℕ) (said : Status) (output : List ℕ) (i j : Instance) : Type 0 where
  pub over : (j.server_state ≡ server.Over) × (j.received_at ≡ Some moment)
  pub success : said ≡ status.Success → j.outcome ≡ outcome.Success
  pub client_error : said ≡ status.ClientError → j.outcome ≡ outcome.ClientError
  pub detached : said ≡ status.Detached → j.outcome ≡ outcome.ClientDetached
  pub sends_back : j.output ≡ output
  pub unjudged : (j.validate_state ≡ validate.Init) × (j.file_delete ≡ file_delete.Init)
  pub sending : (j.host ≡ i.host) × (j.sent_at ≡ i.sent_at) × (j.deadline ≡ i.deadline)

-- A report is applied exactly if the instance may be reported. It is then as reported, and nothing else changes.
pub record Reports (w : Workunit) (n : ℕ) (host : List ℕ) (moment : ℕ) (said : Status) (output : List ℕ) : Type 0 where
  pub applied : (report_verdict_in w n host moment ≡ report.Applied)
      ↔ IsSomeAnd (slice_get w.instances n) (MayBeReported host moment)
  pub reported : (i : Instance) → slice_get w.instances n ≡ Some i
      → IsSomeAnd (slice_get (reported_in w n moment said output).instances n)
      (IsReported moment said output i)
  pub only : ChangesOnlyAt w (reported_in w n moment said output) n

abbrev pub ReportsAsTold : Type 0
ReportsAsTold =
    (w : Workunit) (n : ℕ) (host : List ℕ) (moment : ℕ) (said : Status) (output : List ℕ)
    → Reports w n host moment said output
