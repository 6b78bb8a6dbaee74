use Rattle.std.proofs.Common.{◌≡◌, drop}
use Rattle.wu_arguments.specs.CommandLine.{all_subcommands, subcommand_named}
use Rattle.wu_arguments.proofs.TableLemmas.{named_among}
use Rattle.wu_arguments.proofs.subcommand.Subcommand.named.Given as goal

abbrev pub invariant-loop-one : goal.invariant-loop-one
invariant-loop-one l = named_among l.fn.name (drop l.one-index all_subcommands) ≡ subcommand_named l.fn.name
