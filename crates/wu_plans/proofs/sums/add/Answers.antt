use Rattle.std.proofs.Common.{rules, ◌++◌, [], ◌∷◌, ◌≡◌, ◌∙◌, ap, sym, subst}
use Rattle.wu_schema.proofs.CallLemmas.{ok_on}
use Rattle.wu_plans.specs.Summing.{sum_of, with_more, SumsAlso}
use Rattle.wu_plans.proofs.SumLemmas.{adds_begun, adds_grown}
use Rattle.wu_plans.proofs.sums.add.Goals as goal

pub returns-then-grown : goal.returns-then-grown
returns-then-grown c = record {
  ok =
      let g = c.args.grant.now in
      let rest = c.pop.new.self.items in
      let last = c.in-Some.last in
      let was : c.args.sums.now.items ≡ rest ++ last ∷ [] = search rules in
      let is : c.push.new.self.items ≡ rest ++ with_more g last ∷ [] = search rules in
      subst (λ old. SumsAlso g old c.push.new.self.items) (sym was) (subst (SumsAlso g (rest ++ last ∷ [])) (sym is) (adds_grown g rest last (c.grow-grown.ensures.host c.if-grown.true)));
  fault = tt;
}

pub returns : goal.returns
returns c = record {
  ok =
      let g = c.args.grant.now in
      let rest = c.pop.new.self.items in
      let last = c.in-Some.last in
      let was : c.args.sums.now.items ≡ rest ++ last ∷ [] = search rules in
      let still : c.push.new.self.items ≡ rest ++ last ∷ [] = search rules in
      ok_on c.begin-2.result _ _ (λ begun. subst (λ old. SumsAlso g old c.begin-2.new.sums.items) (sym was)
      (subst (SumsAlso g (rest ++ last ∷ [])) (ap (λ sums. sums ++ sum_of g ∷ []) (sym still) ∙ sym begun) (adds_begun g rest last (c.grow-grown.ensures.full c.if-grown.false)))) c.begin-2.ensures.ok;
  fault = c.begin-2.ensures.fault;
}
