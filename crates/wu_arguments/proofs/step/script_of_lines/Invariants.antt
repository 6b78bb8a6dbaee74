use Rattle.std.proofs.Common.{◌≡◌, ◌++◌}
use Rattle.std.specs.Vec.Iter.{into_iter_items}
use Rattle.wu_arguments.specs.Steps.{AskFor}
use Rattle.wu_arguments.proofs.step.script_of_lines.Given as goal

abbrev pub invariant-loop-line : goal.invariant-loop-line
invariant-loop-line g l = record {
  asks : AskFor (g.F.ReadFile.gives l.fn.files) l.fn.db l.yielded l.steps.items l.exports.items;
  order : l.fn.lines ≡ l.yielded ++ into_iter_items l.line-iterator;
}
