use Rattle.std.proofs.Common.{◌≡◌, length, map, take}
use Rattle.std.specs.Prelude.{vec_capacity, vec_len}
use Rattle.wu_arguments.specs.CommandLine.{local_shape, shape_and_globals}
use Rattle.wu_arguments.proofs.command.subcommands.Given as goal

abbrev pub invariant-loop-one : goal.invariant-loop-one
invariant-loop-one l = record {
  are : map shape_and_globals l.all.items ≡ map local_shape (take l.one-index l.fn.which);
  len : vec_len l.all ≡ l.one-index;
  capacity : vec_capacity l.all ≡ length l.fn.which;
}
