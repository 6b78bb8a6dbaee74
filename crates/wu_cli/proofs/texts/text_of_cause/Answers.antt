use Rattle.wu_cli.proofs.TextLemmas.{cause_told_as}
use Rattle.wu_cli.proofs.texts.text_of_cause.Goals as goal

pub returns-in-NotText : goal.returns-in-NotText
returns-in-NotText g c = cause_told_as _ _ c.write_line-in-NotText.result _ _ c.in-NotText.is c.write_line-in-NotText.ensures

pub returns-in-TooManyLines : goal.returns-in-TooManyLines
returns-in-TooManyLines g c = cause_told_as _ _ c.write_line-in-TooManyLines.result _ _ c.in-TooManyLines.is c.write_line-in-TooManyLines.ensures
