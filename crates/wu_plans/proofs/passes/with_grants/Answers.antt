use Rattle.std.proofs.Common.{rules, ◌++◌, [], ◌∷◌, ◌≡◌, refl, subst}
use Rattle.wu_store.specs.Sums.{AreSums}
use Rattle.wu_store.specs.declared.changes.Change.TheVariants.{Grants}
use Rattle.wu_plans.proofs.passes.with_grants.Goals as goal

pub returns : goal.returns
returns c = record {
  ok =
      let sums = c.in_ok-sums.sums in
      let one = Grants c.args.place c.args.grants sums ∷ [] in
      let behind : c.push.new.self.items ≡ c.args.changes.now.items ++ one = search rules in
      record {
        given = one;
        keeps = record { kept = c.args.grants; sums = sums; are = refl; summed = subst (AreSums sums.items) c.as_slice.ensures.value c.in_ok-sums.ensures.sums; one = refl };
        few = c.in_ok-sums.ensures.few;
        changes = behind;
      };
  fault = tt;
}
