use Rattle.std.proofs.Common.{◌≡◌, ◌∙◌, ◌<◌, List, Some, length, refl, slice_get, subst, sym}
use Rattle.std.proofs.lemmas.Option.{slice_get_read}
use Rattle.wu_core.specs.World.{Import}
use Rattle.wu_check.specs.declared.finding.Key.TheVariants as key
use Rattle.wu_check.proofs.keys.import_key.Goals as goal

pub returns : goal.returns
returns c = record {
  ok =
      let import : Import = c.index-imports-place.result in
      let within = subst (λ (all : List Import). c.args.place < length all) (sym c.imports.ensures) c.requires in
      let there = subst (λ (all : List Import). slice_get all c.args.place ≡ Some import) c.imports.ensures (slice_get_read c.imports.result.now _ c.args.place import refl within c.index-imports-place.is) in
      (import, (c.args.place, refl, there), (λ i. key.Import (c.kind.ensures i) ((c.in_ok-copy.ensures ∙ c.name.ensures) i)));
  fault = tt;
}
