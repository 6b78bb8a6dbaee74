-- Want of memory is told only where nothing else is wrong with a row.
use Rattle.std.proofs.Common.{◌≡◌, ◌≢◌, ◌∙◌, ℕ, length, Bool, true, false, ◌&&◌, inl, inr, List, [], ◌∷◌, Result, Ok, Err, Option, Some, None, IfErr, if◌then◌else◌, refl, ap, subst, sym}
use Rattle.std.specs.List.{list_any, before_last, after_last}
use Rattle.std.specs.Option.{ok_or}
use Rattle.wu_core.specs.Names.{is_name, name_of, place_of}
use Rattle.wu_core.specs.Reads.{IsOrWantsMemory, TellsRefusal}
use Rattle.wu_core.specs.ResultNames.{instance_of, is_underscore, result_name_of}
use Rattle.wu_core.specs.declared.fault.Fault.{Fault}
use Rattle.wu_core.specs.declared.fault.Fault.TheVariants.{BadFile, BadMoment, BadName}
use Rattle.wu_core.specs.declared.fault.FileCause.{FileCause}
use Rattle.wu_core.specs.declared.fault.FileCause.TheVariants as cause
use Rattle.wu_core.specs.declared.name.ResultName.{ResultName}
use Rattle.wu_core.specs.declared.states.Status.{Status}
use Rattle.wu_core.specs.declared.workunit.HostClass.{HostClass}
use Rattle.wu_feed.specs.Classes.{classed, host_class_of_fields}
use Rattle.wu_feed.specs.Jobs.{job_with}
use Rattle.wu_feed.specs.Moments.{four_at, has_shape, moment_at, moment_of, two_at}
use Rattle.wu_feed.specs.Reports.{ending_of, ending_with, report_of, report_of_fields, report_with, reported_output}
use Rattle.wu_feed.specs.Sends.{send_of, send_of_fields}
use Rattle.wu_feed.specs.Told.{at_field, both, is_found, TellsFound}
use Rattle.wu_feed.specs.declared.jobs.Job.{Job}
use Rattle.wu_feed.specs.declared.reports.ReportRow.{ReportRow}
use Rattle.wu_feed.specs.declared.sends.SendRow.{SendRow}

-- a refusal for such a cause is told as that
abbrev pub Tells : {T : Type 0} → (FileCause → Type 0) → Result T Fault → Result T Fault → Type 0
Tells Found given expected = (row : ℕ) (why : FileCause) → Found why → expected ≡ Err (BadFile row why) → given ≡ Err (BadFile row why)

-- it refuses a row, or nothing
abbrev pub IsOfRow : {T : Type 0} → Result T Fault → Type 0
IsOfRow expected = IfErr expected (λ fault. (row : ℕ) × (why : FileCause) × (fault ≡ BadFile row why))

-- whatever the cause, or where it is found without memory
abbrev pub Any : FileCause → Type 0
Any why = Unit {0}

abbrev pub Found : FileCause → Type 0
Found why = is_found why ≡ true

-- what is given is what is expected, want of memory aside, which is not told of these causes
abbrev pub Reads : {T : Type 0} → (FileCause → Type 0) → Result T Fault → Result T Fault → Type 0
Reads Seen given expected = IsOrWantsMemory given expected × Tells Seen given expected × IsOfRow expected

module _ (Seen : FileCause → Type 0) {A B : Type 0} where
  value_first : (a : A) (given : Result A Fault) (expected other : Result B Fault) → IsOrWantsMemory given (Ok a) → IsOrWantsMemory other expected → Tells Seen other expected
      → IsOfRow expected → Reads Seen (both given other) (both (Ok a) expected)
  value_first a given (Ok b) other (inl first) (inl second) told row = rw (first, second) (inl refl, (λ r w s e. cc e), tt)
  value_first a given (Ok b) other (inl first) (inr second) told row = rw (first, second) (inr refl, (λ r w s e. cc e), tt)
  value_first a given (Ok b) other (inr first) (inl second) told row = rw (first, second) (inr refl, (λ r w s e. cc e), tt)
  value_first a given (Ok b) other (inr first) (inr second) told row = rw (first, second) (inr refl, (λ r w s e. cc e), tt)
  value_first a given (Err f) other (inl first) (inl second) told row = rw (first, second) (inl refl, (λ r w s e. e), row)
  value_first a given (Err f) other (inr first) (inl second) told row = rw (first, second) (inl refl, (λ r w s e. e), row)
  value_first a given (Err f) other (inl first) (inr second) told row =
      rw (first, second) (inr refl, (λ r w s e. absurd (let same : f ≡ BadFile r w = cc e in let no = sym second ∙ told r w s (ap Err same) in cc no)), row)
  value_first a given (Err f) other (inr first) (inr second) told row =
      rw (first, second) (inr refl, (λ r w s e. absurd (let same : f ≡ BadFile r w = cc e in let no = sym second ∙ told r w s (ap Err same) in cc no)), row)

  fault_first : (row : ℕ) (why : FileCause) (given : Result A Fault) (expected other : Result B Fault) → given ≡ Err (BadFile row why)
      → Reads Seen (both given other) (both (Err (BadFile row why)) expected)
  fault_first row why given expected other is = rw is (inl refl, (λ r w s e. e), (row, why, refl))

  -- two fields, of which the first is read whatever the cause
  pub both_reads : (one given : Result A Fault) (expected other : Result B Fault) → Reads Any given one → Reads Seen other expected → Reads Seen (both given other) (both one expected)
  both_reads (Ok a) given expected other first second = value_first a given expected other first.0 second.0 second.1 second.2
  both_reads (Err f) given expected other first second =
      let (row, why, is) = first.2 in
      let given_is = first.1 row why tt (ap Err is) in
      subst (λ (f : Fault). Reads Seen (both given other) (both (Err f) expected)) (sym is) (fault_first row why given expected other given_is)

-- ---- a field

-- it is refused as what it is, and not for want of memory
abbrev pub Refuses : {T : Type 0} → Fault → Result T Fault → Type 0
Refuses fault expected = IfErr expected (λ why. why ≡ fault)

pub name_refuses : (text : List ℕ) → Refuses BadName (name_of text)
name_refuses text = by (is_name text)
  where
    by : (b : Bool) → Refuses {T = List ℕ} BadName (if b then Ok text else Err BadName)
    by true = tt
    by false = refl

instance_refuses : (name : List ℕ) (place : Option ℕ) → Refuses BadName (instance_of name place)
instance_refuses name (Some n) = tt
instance_refuses name None = refl

pub result_name_refuses : (text : List ℕ) → Refuses BadName (result_name_of text)
result_name_refuses text = by (list_any is_underscore text && is_name (before_last is_underscore text))
  where
    by : (b : Bool) → Refuses BadName (if b then instance_of (before_last is_underscore text) (place_of (after_last is_underscore text)) else Err BadName)
    by true = instance_refuses (before_last is_underscore text) (place_of (after_last is_underscore text))
    by false = refl

moment_at-refuses : (b : Bool) (seconds : ℕ) → Refuses BadMoment (if b then Ok seconds else Err BadMoment)
moment_at-refuses true seconds = tt
moment_at-refuses false seconds = refl

pub moment_refuses : (text : List ℕ) → Refuses BadMoment (moment_of text)
moment_refuses text = by (has_shape text)
  where
    by : (b : Bool) → Refuses BadMoment (if b then moment_at (four_at text 0) (two_at text 5) (two_at text 8) (two_at text 11) (two_at text 14) (two_at text 17) else Err BadMoment)
    by true = moment_at-refuses _ _
    by false = refl

-- a name, or a name of an instance
pub name_reads : {T : Type 0} (number : ℕ) (why : FileCause) (expected given : Result T Fault) → Refuses BadName expected → IsOrWantsMemory given expected → TellsRefusal given expected
    → Reads Any (at_field number why given) (at_field number why expected)
name_reads number why (Ok x) given plain (inl is) told = rw is (inl refl, (λ r w s e. cc e), tt)
name_reads number why (Ok x) given plain (inr is) told = rw is (inr refl, (λ r w s e. cc e), tt)
name_reads number why (Err f) given plain gave told =
    let is : given ≡ Err BadName = told ∙ ap Err plain in
    rw (is, plain) (inl refl, (λ r w s e. e), (number, why, refl))

-- a moment
pub moment_reads : (number : ℕ) (why : FileCause) (moment : Result ℕ Fault) → Refuses BadMoment moment → Reads Any (at_field number why moment) (at_field number why moment)
moment_reads number why (Ok x) plain = (inl refl, (λ r w s e. cc e), tt)
moment_reads number why (Err f) plain = rw plain (inl refl, (λ r w s e. e), (number, why, refl))

-- a class
pub option_reads : {T : Type 0} (number : ℕ) (why : FileCause) (found : Option T) → Reads Any (ok_or found (BadFile number why)) (ok_or found (BadFile number why))
option_reads number why (Some x) = (inl refl, (λ r w s e. cc e), tt)
option_reads number why None = (inl refl, (λ r w s e. e), (number, why, refl))

-- ---- what is made of the fields

abbrev pub mapped : {A B : Type 0} → (A → B) → Result A Fault → Result B Fault
mapped make (Ok x) = Ok (make x)
mapped make (Err fault) = Err fault

module _ {A B : Type 0} (Seen : FileCause → Type 0) (make : A → B) where
  pub made_gives : (expected given : Result A Fault) (row : Result B Fault) → mapped make expected ≡ row → IsOrWantsMemory given expected → IsOrWantsMemory (mapped make given) row
  made_gives expected given row is (inl e) = rw e (inl is)
  made_gives expected given row is (inr e) = rw e (inr refl)

  pub made_tells : (expected given : Result A Fault) (row : Result B Fault) → mapped make expected ≡ row → Tells Seen given expected → Tells Seen (mapped make given) row
  made_tells (Ok x) given row is told = λ r w s e. absurd (let no = is ∙ e in cc no)
  made_tells (Err f) given row is told = λ r w s e.
      let no = is ∙ e in
      let same : f ≡ BadFile r w = cc no in
      let given_is = told r w s (ap Err same) in
      rw given_is refl

  pub made_of_row : (expected : Result A Fault) (row : Result B Fault) → mapped make expected ≡ row → IsOfRow expected → IsOfRow row
  made_of_row (Ok x) row is of_row = rw (← is) tt
  made_of_row (Err f) row is of_row = rw (← is) of_row

pub all_told : {T : Type 0} (given expected : Result T Fault) → Tells Any given expected → IsOfRow expected → TellsRefusal given expected
all_told given (Ok x) told of_row = tt
all_told given (Err f) told of_row =
    let (row, why, is) = of_row in
    told row why tt (ap Err is) ∙ ap Err (sym is)

pub refusal_tells : {T : Type 0} (Seen : FileCause → Type 0) (given expected : Result T Fault) → TellsRefusal given expected → Tells Seen given expected
refusal_tells Seen given (Ok x) told = λ r w s e. cc e
refusal_tells Seen given (Err f) told = λ r w s e. told ∙ e

-- ---- classes

abbrev pub classed_by : List ℕ × ℕ → HostClass
classed_by pair = classed pair.0 pair.1

host_class_made : (number : ℕ) (host : Result (List ℕ) Fault) (class : Option ℕ) → Refuses BadName host
    → mapped classed_by (both (at_field number cause.Host host) (ok_or class (BadFile number cause.Class))) ≡ host_class_of_fields number host class
host_class_made number (Ok host) (Some class) plain = refl
host_class_made number (Ok host) None plain = refl
host_class_made number (Err f) class plain = rw plain refl

-- what is told of a row with a host and a class
pub host_class_told : (number : ℕ) (host : List ℕ) (class : Option ℕ) (given : Result (List ℕ) Fault) (answer : Result (List ℕ × ℕ) Fault)
    → IsOrWantsMemory given (name_of host) → TellsRefusal given (name_of host)
    → both (at_field number cause.Host given) (ok_or class (BadFile number cause.Class)) ≡ answer
    → IsOrWantsMemory (mapped classed_by answer) (host_class_of_fields number (name_of host) class)
    × TellsRefusal (mapped classed_by answer) (host_class_of_fields number (name_of host) class)
host_class_told number host class given answer gave told is =
    let one = at_field number cause.Host (name_of host) in
    let two = ok_or class (BadFile number cause.Class) in
    let read = both_reads Any one (at_field number cause.Host given) two two (name_reads number cause.Host (name_of host) given (name_refuses host) gave told) (option_reads number cause.Class class) in
    let made = host_class_made number (name_of host) class (name_refuses host) in
    let row = host_class_of_fields number (name_of host) class in
    rw (← is) (
      made_gives Any classed_by (both one two) (both (at_field number cause.Host given) two) row made read.0,
      all_told _ row (made_tells Any classed_by (both one two) (both (at_field number cause.Host given) two) row made read.1) (made_of_row Any classed_by (both one two) row made read.2),
    )

-- ---- jobs

-- what is read of hex digits, of which it is not told without memory that they are none
pub unfound_reads : {T : Type 0} (number : ℕ) (why : FileCause) (found : Option T) (given : Result T Fault) → is_found why ≡ false
    → IsOrWantsMemory given (ok_or found (BadFile number why)) → Reads Found given (ok_or found (BadFile number why))
unfound_reads number why (Some x) given unfound gave = (gave, (λ r w s e. cc e), tt)
unfound_reads number why None given unfound gave =
    (gave, (λ r w s e. absurd (let same : why ≡ w = cc e in let no : true ≡ false = sym s ∙ ap is_found (sym same) ∙ unfound in cc no)), (number, why, refl))

abbrev pub job_by : List ℕ × List ℕ → Job
job_by pair = record { name = pair.0; input = pair.1 }

job_made : (b : Bool) (number : ℕ) (name : List ℕ) (input : Option (List ℕ))
    → mapped job_by (both (at_field number cause.Name (if b then Ok name else Err BadName)) (ok_or input (BadFile number cause.Input)))
    ≡ (if b then job_with number name input else Err (BadFile number cause.Name))
job_made true number name (Some input) = refl
job_made true number name None = refl
job_made false number name input = refl

-- what is told of a row with a name and an input
pub job_told : (number : ℕ) (name : List ℕ) (input : Option (List ℕ)) (given read : Result (List ℕ) Fault) (answer : Result (List ℕ × List ℕ) Fault)
    → IsOrWantsMemory given (name_of name) → TellsRefusal given (name_of name) → IsOrWantsMemory read (ok_or input (BadFile number cause.Input))
    → both (at_field number cause.Name given) read ≡ answer
    → IsOrWantsMemory (mapped job_by answer) (if is_name name then job_with number name input else Err (BadFile number cause.Name))
    × TellsFound (mapped job_by answer) (if is_name name then job_with number name input else Err (BadFile number cause.Name))
job_told number name input given read answer gave told hex is =
    let one = at_field number cause.Name (name_of name) in
    let two = ok_or input (BadFile number cause.Input) in
    let parts = both_reads Found one (at_field number cause.Name given) two read (name_reads number cause.Name (name_of name) given (name_refuses name) gave told) (unfound_reads number cause.Input input read refl hex) in
    let made = job_made (is_name name) number name input in
    let row : Result Job Fault = if is_name name then job_with number name input else Err (BadFile number cause.Name) in
    rw (← is) (
      made_gives Found job_by (both one two) (both (at_field number cause.Name given) read) row made parts.0,
      made_tells Found job_by (both one two) (both (at_field number cause.Name given) read) row made parts.1,
    )

-- ---- sends

abbrev pub sent_by : ResultName × (List ℕ × ℕ) → SendRow
sent_by parts = record { workunit = parts.0.workunit; n = parts.0.n; host = parts.1.0; moment = parts.1.1 }

send_made : (number : ℕ) (name : Result ResultName Fault) (host : Result (List ℕ) Fault) (moment : Result ℕ Fault) → Refuses BadName name → Refuses BadName host → Refuses BadMoment moment
    → mapped sent_by (both (at_field number cause.Result name) (both (at_field number cause.Host host) (at_field number cause.Moment moment))) ≡ send_of_fields number name host moment
send_made number (Ok name) (Ok host) (Ok moment) x y z = refl
send_made number (Ok name) (Ok host) (Err f) x y z = rw z refl
send_made number (Ok name) (Err f) moment x y z = rw y refl
send_made number (Err f) host moment x y z = rw x refl

pub send_of_row : (number : ℕ) (name : Result ResultName Fault) (host : Result (List ℕ) Fault) (moment : Result ℕ Fault) → IsOfRow (send_of_fields number name host moment)
send_of_row number (Ok name) (Ok host) (Ok moment) = tt
send_of_row number (Ok name) (Ok host) (Err f) = (number, cause.Moment, refl)
send_of_row number (Ok name) (Err f) moment = (number, cause.Host, refl)
send_of_row number (Err f) host moment = (number, cause.Result, refl)

-- what is told of a row with an instance, a host and a moment
pub send_told : (number : ℕ) (name host moment : List ℕ) (named : Result ResultName Fault) (given : Result (List ℕ) Fault) (answer : Result (ResultName × (List ℕ × ℕ)) Fault)
    → IsOrWantsMemory named (result_name_of name) → TellsRefusal named (result_name_of name) → IsOrWantsMemory given (name_of host) → TellsRefusal given (name_of host)
    → both (at_field number cause.Result named) (both (at_field number cause.Host given) (at_field number cause.Moment (moment_of moment))) ≡ answer
    → IsOrWantsMemory (mapped sent_by answer) (send_of_fields number (result_name_of name) (name_of host) (moment_of moment))
    × TellsRefusal (mapped sent_by answer) (send_of_fields number (result_name_of name) (name_of host) (moment_of moment))
send_told number name host moment named given answer gave told gave_host told_host is =
    let one = at_field number cause.Result (result_name_of name) in
    let two = at_field number cause.Host (name_of host) in
    let three = at_field number cause.Moment (moment_of moment) in
    let more = both_reads Any two (at_field number cause.Host given) three three
    (name_reads number cause.Host (name_of host) given (name_refuses host) gave_host told_host) (moment_reads number cause.Moment (moment_of moment) (moment_refuses moment)) in
    let parts = both_reads Any one (at_field number cause.Result named) (both two three) (both (at_field number cause.Host given) three)
    (name_reads number cause.Result (result_name_of name) named (result_name_refuses name) gave told) more in
    let made = send_made number (result_name_of name) (name_of host) (moment_of moment) (result_name_refuses name) (name_refuses host) (moment_refuses moment) in
    let row = send_of_fields number (result_name_of name) (name_of host) (moment_of moment) in
    let all = both one (both two three) in
    let read = both (at_field number cause.Result named) (both (at_field number cause.Host given) three) in
    rw (← is) (made_gives Any sent_by all read row made parts.0, all_told (mapped sent_by read) row (made_tells Any sent_by all read row made parts.1) (made_of_row Any sent_by all row made parts.2))

-- ---- reports

abbrev pub report_by : SendRow × (Status × List ℕ) → ReportRow
report_by parts = record { workunit = parts.0.workunit; n = parts.0.n; host = parts.0.host; moment = parts.0.moment; status = parts.1.0; output = parts.1.1 }

with_made : (number : ℕ) (sent : SendRow) (status : Status) (output : Option (List ℕ)) → mapped report_by (both (Ok sent) (ending_with number status output)) ≡ report_with number sent status output
with_made number sent status (Some output) = refl
with_made number sent status None = refl

report_made : (number : ℕ) (sent : Result SendRow Fault) (status : Option Status) (output : List ℕ) → IsOfRow sent
    → mapped report_by (both sent (ending_of number status output)) ≡ report_of_fields number sent status output
report_made number (Ok sent) (Some status) output of_row = with_made number sent status (reported_output status output)
report_made number (Ok sent) None output of_row = refl
report_made number (Err f) status output of_row = let (row, why, is) = of_row in rw is refl

ending_with_row : (number : ℕ) (status : Status) (output : Option (List ℕ)) → IsOfRow (ending_with number status output)
ending_with_row number status (Some output) = tt
ending_with_row number status None = (number, cause.Output, refl)

ending_of_row : (number : ℕ) (status : Option Status) (output : List ℕ) → IsOfRow (ending_of number status output)
ending_of_row number (Some status) output = ending_with_row number status (reported_output status output)
ending_of_row number None output = (number, cause.Status, refl)

-- what is told of a row with a send, a status and an output
pub report_told : (number : ℕ) (sent given : Result SendRow Fault) (status : Option Status) (output : List ℕ) (read : Result (Status × List ℕ) Fault) (answer : Result (SendRow × (Status × List ℕ)) Fault)
    → IsOfRow sent → IsOrWantsMemory given sent → TellsRefusal given sent → IsOrWantsMemory read (ending_of number status output) → TellsFound read (ending_of number status output)
    → both given read ≡ answer
    → IsOrWantsMemory (mapped report_by answer) (report_of_fields number sent status output) × TellsFound (mapped report_by answer) (report_of_fields number sent status output)
report_told number sent given status output read answer of_row gave told gave_ending told_ending is =
    let ending = ending_of number status output in
    let parts = both_reads Found sent given ending read (gave, refusal_tells Any given sent told, of_row) (gave_ending, told_ending, ending_of_row number status output) in
    let made = report_made number sent status output of_row in
    let row = report_of_fields number sent status output in
    rw (← is) (made_gives Found report_by (both sent ending) (both given read) row made parts.0, made_tells Found report_by (both sent ending) (both given read) row made parts.1)

-- a row of another number of fields is refused for that
pub report_of-other : (number : ℕ) (fields : List (List ℕ)) → length fields ≢ 5 → report_of number fields ≡ Err (BadFile number cause.Fields)
report_of-other number [] other = refl
report_of-other number (a ∷ []) other = refl
report_of-other number (a ∷ b ∷ []) other = refl
report_of-other number (a ∷ b ∷ c ∷ []) other = refl
report_of-other number (a ∷ b ∷ c ∷ d ∷ []) other = refl
report_of-other number (a ∷ b ∷ c ∷ d ∷ e ∷ []) other = absurd (other refl)
report_of-other number (a ∷ b ∷ c ∷ d ∷ e ∷ f ∷ more) other = refl

pub send_of-other : (number : ℕ) (fields : List (List ℕ)) → length fields ≢ 3 → send_of number fields ≡ Err (BadFile number cause.Fields)
send_of-other number [] other = refl
send_of-other number (a ∷ []) other = refl
send_of-other number (a ∷ b ∷ []) other = refl
send_of-other number (a ∷ b ∷ c ∷ []) other = absurd (other refl)
send_of-other number (a ∷ b ∷ c ∷ d ∷ more) other = refl
