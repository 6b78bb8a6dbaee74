use Rattle.std.proofs.Common.{◌∙◌, ◌+◌, ap, ap₂, map, Bool}
use Rattle.clap.specs.Words.{Rule}
use Rattle.wu_arguments.proofs.TableLemmas.{image_more}
use Rattle.wu_arguments.specs.CommandLine.{local_rule, rule_and_global}
use Rattle.wu_arguments.proofs.command.args.Goals as goal

pub loop-option-preserved : goal.loop-option-preserved
loop-option-preserved c = record {
  are = image_more rule_and_global local_rule c.loop-option.args.items _ c.arg.result c.args.options.now c.loop-option.option-index _ c.loop-option-test.true
      c.push_reserved.ensures.items c.loop-option.invariant.are (ap₂ {C = Rule × Bool} (λ r g. (r, g)) c.arg.ensures.rule c.arg.ensures.local);
  len = c.push_reserved.ensures.len ∙ ap (λ n. n + 1) c.loop-option.invariant.len;
  capacity = c.push_reserved.ensures.capacity ∙ c.loop-option.invariant.capacity;
}

pub loop-option-init : goal.loop-option-init
loop-option-init c = record {
  are = ap (map rule_and_global) c.in_ok-args.ensures.items;
  len = c.in_ok-args.ensures.len;
  capacity = c.in_ok-args.ensures.exact;
}

pub push_reserved-requires : goal.push_reserved-requires
push_reserved-requires c = rw (c.loop-option.invariant.len, c.loop-option.invariant.capacity) c.loop-option-test.true
