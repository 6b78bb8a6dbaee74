use Rattle.std.proofs.Common.{◌∙◌, ap}
use Rattle.wu_core.proofs.params.Params.checked.Goals as goal
use Rattle.wu_core.specs.Templates.{template_parameters}

-- src/params.rt:109:5
pub returns : goal.returns
returns c = c.from_template.ensures ∙ ap template_parameters c.each_whole.ensures
