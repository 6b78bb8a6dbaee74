use Rattle.std.proofs.lemmas.Result.{IfOk-weaker}
use Rattle.wu_check.proofs.KeptLemmas.{legible_of}
use Rattle.wu_check.proofs.VerdictLemmas.{says_sound, says_why, unsound_from}
use Rattle.wu_check.proofs.checking.check.Goals as goal

pub returns : goal.returns
returns g c =
    let it = c.examine.ensures.examines in
    record {
      asks = it.asks;
      opens = c.examine.ensures.opens;
      sound = λ clean kept. IfOk-weaker c.examine.result _ _ (says_sound _) (it.says clean (legible_of _ kept));
      unsound = λ clean. unsound_from c.sound_in_any_order.ensures _ c.examine.result (it.says clean);
      told = λ clean kept. IfOk-weaker c.examine.result _ _ (says_why _) (it.says clean (legible_of _ kept));
      later = λ clean kept. c.examine.ensures.later clean (legible_of _ kept);
      fault = it.fault;
      answered = it.answered;
    }
