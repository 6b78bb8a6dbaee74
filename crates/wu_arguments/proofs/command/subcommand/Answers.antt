use Rattle.std.proofs.Common.{◌≡◌, [], map, subst}
use Rattle.clap.specs.Words.{app_of}
use Rattle.wu_arguments.proofs.TableLemmas.{options_added}
use Rattle.wu_arguments.specs.CommandLine.{leaf_with, local_rule, options_of, rule_and_global, subcommand_name}
use Rattle.wu_arguments.proofs.command.subcommand.Goals as goal

pub returns : goal.returns
returns c =
    let same = subst (λ options. map rule_and_global c.in_ok-args.args.items ≡ map local_rule options) c.form-form.ensures.options c.in_ok-args.ensures in
    options_added (subcommand_name c.args.subcommand) (options_of c.args.subcommand) c.in_ok-args.args.items c.bare_subcommand.result c.args-3.result
    same (subst (λ name. app_of c.bare_subcommand.result ≡ leaf_with name []) c.form-form.ensures.name c.bare_subcommand.ensures.shape) c.bare_subcommand.ensures.local c.args-3.ensures
