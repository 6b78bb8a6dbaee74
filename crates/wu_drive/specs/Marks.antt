-- Answers in whose texts no line begins with '='.
use Rattle.std.specs.Prelude.{⊤, ◌++◌, IfOk}
use Rattle.wu_core.specs.Storable.{IsName}
use Rattle.wu_core.specs.World.{World}
use Rattle.wu_core.specs.declared.fault.Fault.{Fault}
use Rattle.wu_machine.specs.Machine.{HasValues, reply}
use Rattle.wu_machine.specs.Requests.{Request, Reply, Imported, Passed, Cancelled, Upgraded}
use Rattle.wu_machine.specs.Sound.{IsProject}
use Rattle.wu_report.specs.Marks.{NoLineBeginsWith, equals_sign}
use Rattle.wu_report.specs.Texts.{line_end}
use Rattle.wu_drive.specs.Texts.{fault_text, reply_text}

-- The name in the answer, if it has one, is valid.
abbrev pub HasValidName : Reply → Type 0
HasValidName (Imported kind name first verdicts) = IsName name
HasValidName (Passed pass handled) = ⊤
HasValidName (Cancelled workunit) = IsName workunit
HasValidName (Upgraded from to) = ⊤

-- If the name in an answer is valid, no line of its text begins with '='.
abbrev pub NoAnswerLineIsMarked : Type 0
NoAnswerLineIsMarked = (answer : Reply) → HasValidName answer → NoLineBeginsWith equals_sign (reply_text answer)

-- The answer to a request with values in range, over a world that commands run over, has a valid name.
abbrev pub AnswersHaveValidNames : Type 0
AnswersHaveValidNames = (world : World) (request : Request) → HasValues request → IsProject world → IfOk (reply world request) HasValidName

-- Over a world that commands run over, no line of the answer to the request begins with '='.
abbrev pub HasUnmarkedAnswer : Request → Type 0
HasUnmarkedAnswer request = (world : World) → IsProject world → IfOk (reply world request) (λ answer. NoLineBeginsWith equals_sign (reply_text answer))

-- No line of the text of a fault begins with '='.
abbrev pub NoFaultLineIsMarked : Type 0
NoFaultLineIsMarked = (fault : Fault) → NoLineBeginsWith equals_sign (fault_text fault ++ line_end)
