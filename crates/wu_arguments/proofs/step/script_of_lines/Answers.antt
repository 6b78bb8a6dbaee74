use Rattle.std.proofs.Common.{◌∙◌, ◌∷◌, ◌++◌, [], ap, append_assoc, refl, rules, subst, sym}
use Rattle.std.specs.Vec.Iter.{into_iter_items}
use Rattle.wu_arguments.specs.Steps.{Takes}
use Rattle.wu_arguments.proofs.ScriptLemmas.{none_asked, not_taken, taken}
use Rattle.wu_arguments.proofs.step.script_of_lines.Goals as goal

pub loop-line-init : goal.loop-line-init
loop-line-init g c = record {
  asks = rw c.new-steps.ensures.items (rw c.new-exports.ensures.items (none_asked (g.F.ReadFile.gives c.args.files.now) c.args.db.now));
  order = search rules;
}

pub loop-line-preserved : goal.loop-line-preserved
loop-line-preserved g c = record {
  asks = taken (g.F.ReadFile.gives c.args.files.now) c.args.db.now c.loop-line.yielded _ _ _ _ c.in-Some.line c.step_of-asked.result c.loop-line.invariant.asks c.step_of-asked.ensures
      (subst (λ r. Takes c.loop-line.steps.items c.loop-line.exports.items c.step_of-asked.result c.take.new.steps.items c.take.new.exports.items r) c.in-Ok.is c.take.ensures);
  order = c.loop-line.invariant.order ∙ ap (λ l. c.loop-line.yielded ++ l) c.in-Some.ensures.steps.0
      ∙ sym (append_assoc c.loop-line.yielded (c.in-Some.line ∷ []) (into_iter_items c.next.new.self));
}

pub returns-in-Err : goal.returns-in-Err
returns-in-Err g c = record {
  front = c.loop-line.yielded;
  line = c.in-Some.line;
  behind = into_iter_items c.next.new.self;
  order = c.loop-line.invariant.order ∙ ap (λ l. c.loop-line.yielded ++ l) c.in-Some.ensures.steps.0;
  steps = c.loop-line.steps.items;
  exports = c.loop-line.exports.items;
  before = c.loop-line.invariant.asks;
  number_is = refl;
  is_bad = not_taken (g.F.ReadFile.gives c.args.files.now) c.args.db.now _ _ _ _ c.in-Some.line c.step_of-asked.result c.in-Err.why c.step_of-asked.ensures
      (subst (λ r. Takes c.loop-line.steps.items c.loop-line.exports.items c.step_of-asked.result c.take.new.steps.items c.take.new.exports.items r) c.in-Err.is c.take.ensures);
}
