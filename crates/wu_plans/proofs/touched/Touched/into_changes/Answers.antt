use Rattle.std.proofs.Common.{◌≡◌, ◌∙◌, List, map, sym, ap, subst, String, Global}
use Rattle.std.proofs.lemmas.List.{map-id}
use Rattle.std.proofs.lemmas.Simd.{map-map}
use Rattle.std.proofs.lemmas.Iterator.Consumers.{YieldsList-end, YieldsList-from_rest}
use Rattle.wu_plans.specs.declared.touched.Touch.{Touch}
use Rattle.wu_plans.specs.Touched.{AreDistinct, replaces}
use Rattle.wu_plans.proofs.NamedLemmas.{distinct_names}
use Rattle.wu_plans.proofs.touched.Touched.into_changes.Goals as goal

pub returns-in_err-push-clause-distinct : goal.returns-in_err-push-clause-distinct
returns-in_err-push-clause-distinct c =
    subst (λ (ts : List Touch). AreDistinct ts) c.self.view_is (distinct_names c.self.inside.by_name.entries c.into_iter-touch-iterator.ensures.into_iter_gives.5 c.self.invariant)

pub returns-clause-distinct : goal.returns-clause-distinct
returns-clause-distinct c =
    subst (λ (ts : List Touch). AreDistinct ts) c.self.view_is (distinct_names c.self.inside.by_name.entries c.into_iter-touch-iterator.ensures.into_iter_gives.5 c.self.invariant)

pub returns-clause-changes : goal.returns-clause-changes
returns-clause-changes c =
    let entries = c.self.inside.by_name.entries in
    let seen = YieldsList-end (YieldsList-from_rest {shows = λ (e : String Global × Touch). e} {s = c.into_iter-touch-iterator.result} entries c.into_iter-touch-iterator.ensures.into_iter_gives.0) c.loop-touch.yielded c.loop-touch.touch-iterator c.loop-touch.yielded_by c.next.result c.next.new.self c.in-None.is c.next.ensures.steps in
    let whole : c.loop-touch.yielded ≡ entries = sym (map-id c.loop-touch.yielded) ∙ seen.0 in
    c.loop-touch.invariant ∙ ap (λ (es : List (String Global × Touch)). map (λ e. replaces e.1) es) whole
    ∙ sym (map-map replaces (λ (e : String Global × Touch). e.1) entries) ∙ ap (λ (ts : List Touch). map replaces ts) c.self.view_is
