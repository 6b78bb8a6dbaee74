use Rattle.wu_cli.proofs.TextLemmas.{usage_told_as}
use Rattle.wu_cli.proofs.texts.text_of_usage.Goals as goal

pub returns-in-UnknownView : goal.returns-in-UnknownView
returns-in-UnknownView g c = usage_told_as _ _ c.write_line.result _ _ c.in-UnknownView.is c.write_line.ensures

pub returns-in-UnknownTopic : goal.returns-in-UnknownTopic
returns-in-UnknownTopic g c = usage_told_as _ _ c.text_of_unknown_topic.result _ _ c.in-UnknownTopic.is c.text_of_unknown_topic.ensures

pub returns-in-UnknownKind : goal.returns-in-UnknownKind
returns-in-UnknownKind g c = usage_told_as _ _ c.write_line-in-UnknownKind.result _ _ c.in-UnknownKind.is c.write_line-in-UnknownKind.ensures
