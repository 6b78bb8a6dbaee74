use Rattle.std.proofs.Common.{ap}
use Rattle.wu_arguments.proofs.TableLemmas.{requiring}
use Rattle.wu_arguments.proofs.command.bare_command.Goals as goal

pub returns : goal.returns
returns c = rw (c.subcommand_required.ensures, c.after_help.ensures, c.version.ensures, c.about.ensures) (ap requiring c.new.ensures.app)
