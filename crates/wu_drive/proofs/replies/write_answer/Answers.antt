use Rattle.wu_report.proofs.WritingLemmas.{Writes-kept}
use Rattle.wu_drive.specs.Texts.{reply_text}
use Rattle.wu_machine.specs.Commands.{reply_of_answer}
use Rattle.wu_drive.proofs.replies.write_answer.Goals as goal

pub returns : goal.returns
returns g c = record {
  bytes = Writes-kept _ _ _ (reply_text (reply_of_answer c.args.answer.now)) c.flush.result c.in_ok-write_answer_text.ensures.bytes c.flush.ensures.bytes;
  fault = c.flush.ensures.fault;
}
