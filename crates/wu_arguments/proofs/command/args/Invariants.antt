use Rattle.std.proofs.Common.{◌≡◌, length, map, take}
use Rattle.std.specs.Prelude.{vec_capacity, vec_len}
use Rattle.wu_arguments.specs.CommandLine.{local_rule, rule_and_global}
use Rattle.wu_arguments.proofs.command.args.Given as goal

abbrev pub invariant-loop-option : goal.invariant-loop-option
invariant-loop-option l = record {
  are : map rule_and_global l.args.items ≡ map local_rule (take l.option-index l.fn.options);
  len : vec_len l.args ≡ l.option-index;
  capacity : vec_capacity l.args ≡ length l.fn.options;
}
