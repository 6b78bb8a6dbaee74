use Rattle.std.proofs.Common.{◌≡◌, ◌<◌, List, Some, ap, length, refl, slice_get, subst, sym}
use Rattle.std.proofs.lemmas.Option.{slice_get_read}
use Rattle.wu_core.specs.declared.workunit.HostClass.{HostClass}
use Rattle.wu_check.specs.declared.finding.Key.TheVariants as key
use Rattle.wu_check.proofs.keys.class_key.Goals as goal

pub returns : goal.returns
returns c = record {
  ok =
      let one : HostClass = c.index-classes-place.result in
      let within = subst (λ (all : List HostClass). c.args.place < length all) (sym c.classes.ensures) c.requires in
      let there = subst (λ (all : List HostClass). slice_get all c.args.place ≡ Some one) c.classes.ensures (slice_get_read c.classes.result.now _ c.args.place one refl within c.index-classes-place.is) in
      (one, (c.args.place, refl, there), ap key.HostClass c.in_ok-copy.ensures);
  fault = tt;
}
