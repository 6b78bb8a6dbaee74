use Rattle.std.proofs.Common.{◌∙◌, ◌+◌, ap, map}
use Rattle.wu_arguments.proofs.TableLemmas.{image_more}
use Rattle.wu_arguments.specs.CommandLine.{local_shape, shape_and_globals}
use Rattle.wu_arguments.proofs.command.subcommands.Goals as goal

pub loop-one-preserved : goal.loop-one-preserved
loop-one-preserved c = record {
  are = image_more shape_and_globals local_shape c.loop-one.all.items _ c.in_ok-subcommand.field-0 c.args.which.now c.loop-one.one-index _ c.loop-one-test.true
      c.push_reserved.ensures.items c.loop-one.invariant.are c.in_ok-subcommand.ensures;
  len = c.push_reserved.ensures.len ∙ ap (λ n. n + 1) c.loop-one.invariant.len;
  capacity = c.push_reserved.ensures.capacity ∙ c.loop-one.invariant.capacity;
}

pub loop-one-init : goal.loop-one-init
loop-one-init c = record {
  are = ap (map shape_and_globals) c.in_ok-all.ensures.items;
  len = c.in_ok-all.ensures.len;
  capacity = c.in_ok-all.ensures.exact;
}

pub push_reserved-requires : goal.push_reserved-requires
push_reserved-requires c = rw (c.loop-one.invariant.len, c.loop-one.invariant.capacity) c.loop-one-test.true
