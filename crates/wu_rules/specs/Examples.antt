-- The workunits of the worked examples.
use Rattle.std.specs.Prelude.{ℕ, List, [], ◌∷◌, Some, None, true, codes}
use Rattle.wu_core.specs.Classes.{with_class}
use Rattle.wu_core.specs.Mask.{no_errors}
use Rattle.wu_core.specs.Parameters.{Parameters, default_parameters}
use Rattle.wu_core.specs.Workunit.{fresh}
use Rattle.wu_core.specs.declared.mask.ErrorMask.{ErrorMask}
use Rattle.wu_core.specs.declared.workunit.HostClass.{HostClass}
use Rattle.wu_core.specs.declared.workunit.Instance.{Instance}
use Rattle.wu_core.specs.declared.workunit.Workunit.{Workunit}
use Rattle.wu_core.specs.declared.workunit.Grant.{Grant}
use Rattle.wu_core.specs.declared.states.ServerState.TheVariants as server
use Rattle.wu_core.specs.declared.states.Outcome.{Outcome}
use Rattle.wu_core.specs.declared.states.Outcome.TheVariants as outcome
use Rattle.wu_core.specs.declared.states.ValidateState.{ValidateState}
use Rattle.wu_core.specs.declared.states.ValidateState.TheVariants as validate
use Rattle.wu_core.specs.declared.states.Assimilate.TheVariants as assimilate
use Rattle.wu_core.specs.declared.states.FileDelete.{FileDelete}
use Rattle.wu_core.specs.declared.states.FileDelete.TheVariants as file_delete

-- An undecided workunit with these parameters and instances.
abbrev pub job : Parameters → List Instance → Workunit
job params instances = record {
  number = 1;
  name = codes "job_1";
  params = params;
  input = 0 ∷ 255 ∷ [];
  error_mask = no_errors;
  canonical = None;
  assimilate = assimilate.Init;
  file_delete = file_delete.Init;
  done_at = None;
  class = 0;
  instances = instances;
}

-- Noon: 2026-03-01T12:00:00Z.
abbrev pub noon : ℕ
noon = 1772366400

-- An hour after noon, and the deadline a week after that.
abbrev pub sending : ℕ
sending = 1772370000

abbrev pub due : ℕ
due = 1772974800

-- A second after the deadline.
abbrev pub a_second_late : ℕ
a_second_late = 1772974801

-- An hour after the sending.
abbrev pub reporting : ℕ
reporting = 1772373600

-- An instance that was sent to this host.
abbrev pub out : List ℕ → Instance
out host = record fresh {
  server_state = server.InProgress;
  host = Some host;
  sent_at = Some sending;
  deadline = Some due;
}

-- An instance that this host reported.
abbrev pub back : List ℕ → Outcome → List ℕ → Instance
back host how output = record (out host) {
  server_state = server.Over;
  outcome = how;
  received_at = Some reporting;
  output = output;
}

-- An instance that this host reported as an error.
abbrev pub failed : List ℕ → Instance
failed host = back host outcome.ClientError []

-- A success with this verdict.
abbrev pub success : List ℕ → List ℕ → ValidateState → Instance
success host output verdict = record (back host outcome.Success output) { validate_state = verdict }

-- An instance that is over without a reply.
abbrev pub lost : List ℕ → Instance
lost host = record (out host) { server_state = server.Over; outcome = outcome.NoReply }

-- An instance that is over because it was not needed.
abbrev pub unneeded : Instance
unneeded = record fresh { server_state = server.Over; outcome = outcome.DidntNeed }

abbrev pub h1 : List ℕ
h1 = codes "h1"

abbrev pub h2 : List ℕ
h2 = codes "h2"

abbrev pub h3 : List ℕ
h3 = codes "h3"

-- An output of one byte.
abbrev pub aa : List ℕ
aa = 0xaa ∷ []

abbrev pub ab : List ℕ
ab = 0xab ∷ []

abbrev pub bb : List ℕ
bb = 0xbb ∷ []

-- A grant of one credit for an instance of workunit 1.
abbrev pub credit : ℕ → List ℕ → Grant
credit n host = record { workunit = 1; n = n; host = host; credit = 1 }

abbrev pub with_target : ℕ → Parameters
with_target n = record default_parameters { target_nresults = n }

abbrev pub with_quorum : ℕ → ℕ → Parameters
with_quorum quorum target = record default_parameters { min_quorum = quorum; target_nresults = target }

-- The workunit, given up for this reason.
abbrev pub masked : ErrorMask → Workunit → Workunit
masked mask w = record w { error_mask = mask }

abbrev pub too_many_errors : ErrorMask
too_many_errors = record no_errors { too_many_error_results = true }

abbrev pub too_many_total : ErrorMask
too_many_total = record no_errors { too_many_total_results = true }

abbrev pub too_many_successes : ErrorMask
too_many_successes = record no_errors { too_many_success_results = true }

abbrev pub cancelled_mask : ErrorMask
cancelled_mask = record no_errors { cancelled = true }

-- The workunit, ready to be assimilated.
abbrev pub ready : Workunit → Workunit
ready w = record w { assimilate = assimilate.Ready }

-- The workunit, decided for this instance.
abbrev pub decided_for : ℕ → Workunit → Workunit
decided_for n w = record (ready w) { canonical = Some n }

abbrev pub with_file : FileDelete → Instance → Instance
with_file f i = record i { file_delete = f }

-- The instance, emptied after its output was deleted.
abbrev pub gone : Instance → Instance
gone i = record i { file_delete = file_delete.Done; output = [] }

-- The workunit, assimilated at this moment, with its input in this state of deletion.
abbrev pub assimilated_at : ℕ → FileDelete → Workunit → Workunit
assimilated_at now f w = record w { assimilate = assimilate.Done; done_at = Some now; file_delete = f }

-- ---- a workunit with the default parameters

abbrev pub new_job : Workunit
new_job = job default_parameters []

abbrev pub two_unsent : Workunit
two_unsent = job default_parameters (fresh ∷ fresh ∷ [])

abbrev pub one_out : Workunit
one_out = job default_parameters (out h1 ∷ fresh ∷ [])

-- A new instance replaces one without a reply.
abbrev pub one_lost : Workunit
one_lost = job default_parameters (lost h1 ∷ fresh ∷ fresh ∷ [])

abbrev pub one_failed : Workunit
one_failed = job default_parameters (failed h1 ∷ fresh ∷ [])

abbrev pub one_back : Workunit
one_back = job default_parameters (success h1 aa validate.Init ∷ fresh ∷ [])

-- The missing reply comes after all, a second late.
abbrev pub one_late : Workunit
one_late = job default_parameters (record (success h1 aa validate.Init) { received_at = Some a_second_late } ∷ fresh ∷ fresh ∷ [])

-- ---- classes of hosts

-- The workunit, bound to this class.
abbrev pub in_class : ℕ → Workunit → Workunit
in_class class w = record w { class = class }

abbrev pub h4 : List ℕ
h4 = codes "h4"

-- Three hosts with classes; a fourth host has none.
abbrev pub three_classed : List HostClass
three_classed = with_class h1 1 (with_class h2 2 (with_class h3 1 []))

-- An hour after the deadline.
abbrev pub an_hour_late : ℕ
an_hour_late = 1772978400

-- An instance was sent to a second host when the first host's reply was missing.
abbrev pub second_out_and : Instance → Workunit
second_out_and first =
    in_class 2 (job default_parameters (first ∷ record (out h2) { sent_at = Some an_hour_late; deadline = Some 1773583200 } ∷ fresh ∷ []))

-- The success that was missing, an hour late.
abbrev pub late_success : Instance
late_success = record (success h1 aa validate.Init) { received_at = Some an_hour_late }

-- ---- two results that differ, and a third

abbrev pub two_differ : Workunit
two_differ = job default_parameters (success h1 aa validate.Init ∷ success h2 ab validate.Init ∷ [])

-- Both results are inconclusive, and a third is needed.
abbrev pub two_doubted_and : List Instance → Workunit
two_doubted_and more = job (with_target 3) (success h1 aa validate.Inconclusive ∷ success h2 ab validate.Inconclusive ∷ more)

abbrev pub two_doubted : Workunit
two_doubted = two_doubted_and []

abbrev pub third_unsent : Workunit
third_unsent = two_doubted_and (fresh ∷ [])

-- The third result agrees with the second.
abbrev pub third_agrees : Workunit
third_agrees = two_doubted_and (success h3 ab validate.Init ∷ [])

abbrev pub second_chosen : Workunit
second_chosen = decided_for 1 (job (with_target 3) (success h1 aa validate.Invalid ∷ success h2 ab validate.Valid ∷ success h3 ab validate.Valid ∷ []))

-- ---- quorums of three, four and one

abbrev pub two_of_three : Workunit
two_of_three = job (with_quorum 3 3) (success h1 aa validate.Init ∷ success h2 bb validate.Init ∷ success h3 aa validate.Init ∷ [])

abbrev pub two_of_three_chosen : Workunit
two_of_three_chosen = decided_for 0 (job (with_quorum 3 3) (success h1 aa validate.Valid ∷ success h2 bb validate.Invalid ∷ success h3 aa validate.Valid ∷ []))

-- Two results agree, and the other two agree.
abbrev pub two_and_two : ValidateState → List Instance
two_and_two verdict = success h1 aa verdict ∷ success h2 bb verdict ∷ success h3 bb verdict ∷ success h1 aa verdict ∷ []

abbrev pub two_of_four : Workunit
two_of_four = job (with_quorum 4 4) (two_and_two validate.Init)

abbrev pub two_of_four_doubted : Workunit
two_of_four_doubted = job (with_quorum 4 5) (two_and_two validate.Inconclusive)

-- One result for a quorum of one.
abbrev pub one_of_one : Workunit
one_of_one = job (with_quorum 1 1) (success h1 aa validate.Init ∷ [])

abbrev pub one_of_one_chosen : Workunit
one_of_one_chosen = decided_for 0 (job (with_quorum 1 1) (success h1 aa validate.Valid ∷ []))

-- ---- ends without a result

-- A success with this verdict, and four errors where three are allowed.
abbrev pub four_failed_and : ValidateState → Workunit
four_failed_and verdict = job (with_target 5) (success h1 aa verdict ∷ failed h2 ∷ failed h3 ∷ failed h2 ∷ failed h3 ∷ [])

abbrev pub four_failed : Workunit
four_failed = four_failed_and validate.Init

abbrev pub ended_by_errors : Workunit
ended_by_errors = ready (masked too_many_errors (four_failed_and validate.NoCheck))

-- At most two instances may be made: one failed, and this one.
abbrev pub one_failed_and : Instance → Workunit
one_failed_and other = job (record default_parameters { max_total_results = 2 }) (failed h1 ∷ other ∷ [])

abbrev pub last_out : Workunit
last_out = one_failed_and (out h2)

abbrev pub ended_by_total : Workunit
ended_by_total = ready (masked too_many_total (one_failed_and (lost h2)))

-- A workunit that allows two successes without a consensus.
abbrev pub bears_two : List Instance → Workunit
bears_two instances = job (record default_parameters { target_nresults = 4; max_success_results = 2 }) instances

abbrev pub three_differ : Workunit
three_differ = bears_two (success h1 aa validate.Init ∷ success h2 ab validate.Init ∷ success h3 bb validate.Init ∷ fresh ∷ [])

abbrev pub three_doubted : Workunit
three_doubted = masked too_many_successes (bears_two (success h1 aa validate.Inconclusive ∷ success h2 ab validate.Inconclusive ∷ success h3 bb validate.Inconclusive ∷ unneeded ∷ []))

-- A workunit that was given up for its successes; one with this verdict is left.
abbrev pub one_left : ValidateState → Workunit
one_left verdict = masked too_many_successes (bears_two (success h1 aa verdict ∷ unneeded ∷ []))

abbrev pub ended_by_successes : Workunit
ended_by_successes = ready (one_left validate.NoCheck)

-- ---- a third result after the decision

abbrev pub two_agree_and : ValidateState → Instance → List Instance
two_agree_and verdict third = success h1 aa verdict ∷ success h2 aa verdict ∷ third ∷ []

abbrev pub two_agree : Workunit
two_agree = job (with_target 3) (two_agree_and validate.Init (out h3))

abbrev pub first_chosen : Workunit
first_chosen = decided_for 0 (job (with_target 3) (two_agree_and validate.Valid (out h3)))

-- The workunit is assimilated while the third instance is out: the second output may be deleted, the first and the
-- input not yet.
abbrev pub second_may_go : Workunit
second_may_go = assimilated_at sending file_delete.Init (decided_for 0 (job (with_target 3) (success h1 aa validate.Valid ∷ with_file file_delete.Ready (success h2 aa validate.Valid) ∷ out h3 ∷ [])))

-- Input and outputs are deleted, and this is the third instance.
abbrev pub after_all : Instance → Workunit
after_all third = assimilated_at sending file_delete.Done (decided_for 0 (job (with_target 3) (gone (success h1 aa validate.Valid) ∷ gone (success h2 aa validate.Valid) ∷ third ∷ [])))

-- The third instance is a success with this verdict.
abbrev pub third_after_all : ValidateState → Workunit
third_after_all verdict = after_all (success h3 aa verdict)

-- ---- empty outputs

-- A success with an empty output.
abbrev pub empty : List ℕ → Instance
empty host = success host [] validate.Init

-- An instance that was refused for its empty output.
abbrev pub no_result : List ℕ → Instance
no_result host = record (back host outcome.ValidateError []) { validate_state = validate.Invalid }

-- This instance, and a success with an output.
abbrev pub one_and_a_result : Instance → List Instance → Workunit
one_and_a_result one more = job default_parameters (one ∷ success h2 aa validate.Init ∷ more)

abbrev pub holding_two : Instance → Instance → Workunit
holding_two one other = job default_parameters (one ∷ other ∷ [])

-- The workunit is decided, and this instance was reported after that.
abbrev pub after_decision : Instance → Workunit
after_decision third = decided_for 0 (job (with_target 3) (two_agree_and validate.Valid third))

-- ---- cancelled

abbrev pub cancelled_with : List Instance → Workunit
cancelled_with instances = masked cancelled_mask (job default_parameters instances)

abbrev pub two_unneeded : Workunit
two_unneeded = cancelled_with (unneeded ∷ unneeded ∷ [])

-- The workunit is assimilated, and its input and outputs may be deleted.
abbrev pub two_may_go : Workunit
two_may_go = assimilated_at sending file_delete.Ready (cancelled_with (with_file file_delete.Ready unneeded ∷ with_file file_delete.Ready unneeded ∷ []))

abbrev pub one_may_go : Workunit
one_may_go = assimilated_at sending file_delete.Ready (cancelled_with (with_file file_delete.Ready unneeded ∷ []))

-- The workunit was assimilated at this moment, and all its files are deleted.
abbrev pub one_gone_since : ℕ → Workunit
one_gone_since moment = assimilated_at moment file_delete.Done (cancelled_with (gone unneeded ∷ []))

abbrev pub one_emptied : Workunit
one_emptied = record (one_gone_since sending) { input = [] }
