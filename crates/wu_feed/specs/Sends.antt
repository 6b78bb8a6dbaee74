-- Files of sends: a header `result,host,moment`, and a row for each instance that was sent.
use Rattle.std.specs.Prelude.{ℕ, codes, List, [], ◌∷◌, Result, Ok, Err}
use Rattle.wu_core.specs.declared.fault.Fault.{Fault}
use Rattle.wu_core.specs.declared.fault.Fault.TheVariants.{BadFile}
use Rattle.wu_core.specs.declared.fault.FileCause.TheVariants as cause
use Rattle.wu_core.specs.declared.name.ResultName.{ResultName}
use Rattle.wu_core.specs.Names.{name_of}
use Rattle.wu_core.specs.ResultNames.{result_name_of}
use Rattle.wu_feed.specs.Moments.{moment_of}
use Rattle.wu_feed.specs.Rows.{rows_of_file}
use Rattle.wu_feed.specs.declared.sends.SendRow.{SendRow}

abbrev pub sends_header : List (List ℕ)
sends_header = codes "result" ∷ codes "host" ∷ codes "moment" ∷ []

-- A send, from its fields; the first field that is wrong decides the fault.
abbrev pub send_of_fields : ℕ → Result ResultName Fault → Result (List ℕ) Fault → Result ℕ Fault → Result SendRow Fault
send_of_fields row (Ok name) (Ok host) (Ok moment) = Ok (record { workunit = name.workunit; n = name.n; host = host; moment = moment })
send_of_fields row (Ok name) (Ok host) (Err fault) = Err (BadFile row cause.Moment)
send_of_fields row (Ok name) (Err fault) moment = Err (BadFile row cause.Host)
send_of_fields row (Err fault) host moment = Err (BadFile row cause.Result)

-- The send of a row's fields (instance, host and moment), or the first fault.
abbrev pub send_of : ℕ → List (List ℕ) → Result SendRow Fault
send_of row (name ∷ host ∷ moment ∷ []) = send_of_fields row (result_name_of name) (name_of host) (moment_of moment)
send_of row _ = Err (BadFile row cause.Fields)

-- The sends of a file, or its first fault.
abbrev pub sends_of_file : List ℕ → Result (List SendRow) Fault
sends_of_file = rows_of_file sends_header send_of
