use Rattle.std.proofs.Common.{◌∙◌, sym}
use Rattle.wu_feed.proofs.ScriptLemmas.{no_cause, no_text}
use Rattle.wu_feed.proofs.script.read_word.Goals as goal

pub returns-in-Ok-clause-word : goal.returns-in-Ok-clause-word
returns-in-Ok-clause-word c =
    (c.in-Ok.ensures.cases.0, no_cause c.args.field.now (sym c.contains.ensures.value ∙ c.if-contains.false) c.in-Ok.ensures.cases.1)

pub returns-in-Err-clause-cause : goal.returns-in-Err-clause-cause
returns-in-Err-clause-cause c = no_text c.args.field.now (sym c.contains.ensures.value ∙ c.if-contains.false) c.in-Err.ensures.cases.0
