use Rattle.std.proofs.Common.{◌∙◌}
use Rattle.wu_feed.proofs.TemplateLemmas.{is_key-listed}
use Rattle.wu_feed.proofs.template.is_key.Goals as goal

pub returns : goal.returns
returns c = c.contains.ensures.value ∙ is_key-listed c.args.text.now
