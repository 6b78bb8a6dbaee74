use Rattle.std.proofs.Common.{List, sym, ap, ◌∙◌, is_some}
use Rattle.std.specs.BTreeMap.{get_by_text}
use Rattle.wu_plans.specs.declared.touched.Touch.{Touch}
use Rattle.wu_plans.specs.Touched.{touched_named}
use Rattle.wu_plans.proofs.NamedLemmas.{named_is}
use Rattle.wu_plans.proofs.touched.Touched.has.Goals as goal

pub returns : goal.returns
returns c =
    c.contains_key.ensures
    ∙ ap is_some (ap (get_by_text c.self.inside.by_name) c.as_str.ensures ∙ sym (named_is c.self.inside.by_name.entries c.self.invariant c.args.name.now) ∙ ap (λ (ts : List Touch). touched_named ts c.args.name.now) c.self.view_is)
