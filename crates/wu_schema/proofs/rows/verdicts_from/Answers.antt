use Rattle.wu_schema.proofs.Words.{NotAProject, [], arith, inr, last_skip, refl, rules, take_all, ◌++◌, ◌∙◌, ◌∷◌, ◌≡◌, ◌≤◌}
use Rattle.std.proofs.lemmas.List.Elements.{All-push}
use Rattle.wu_schema.proofs.ReadingLemmas.{no_digit, unread, verdicts_more, verdicts_restored}
use Rattle.wu_schema.proofs.rows.verdicts_from.Goals as goal

pub returns-in_default : goal.returns-in_default
returns-in_default c = unread _ _ c.args.digits.now NotAProject (inr (refl, no_digit c.args.kind c.args.digits.now c.loop-digit.digit-index c.loop-digit-test.true c.in_default.ensures))

pub loop-digit-preserved : goal.loop-digit-preserved
loop-digit-preserved c =
    let grown : c.push.new.self.items ≡ c.loop-digit.verdicts.items ++ c.in-Some.verdict ∷ [] = search rules in
    let told = c.in-Some.ensures in
    rw grown (
      verdicts_more c.loop-digit.verdicts.items c.args.digits.now c.loop-digit.digit-index c.in-Some.verdict c.loop-digit.invariant.0 c.loop-digit-test.true told.0.0 told.1,
      All-push (λ v. v ≤ last_skip c.args.kind) c.loop-digit.verdicts.items c.in-Some.verdict c.loop-digit.invariant.1 (omega (arith, told.0.1, told.1)),
    )

pub returns : goal.returns
returns c = rw c.from_vec.ensures (verdicts_restored c.args.kind c.args.digits.now c.loop-digit.verdicts.items (c.loop-digit.invariant.0 ∙ take_all _ _ c.loop-digit-test.false) c.loop-digit.invariant.1)
