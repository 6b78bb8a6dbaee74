use Rattle.std.proofs.Common.{rules, ◌≡◌, ◌++◌, ◌∷◌, [], ◌∙◌, sym, ap, inl, take_all, Ok}
use Rattle.wu_schema.specs.Stored.{verdict_digits}
use Rattle.wu_store.specs.Verdicts.{verdicts_of}
use Rattle.wu_store.proofs.VerdictLemmas.{digits_more, verdicts_back}
use Rattle.wu_store.proofs.verdicts.Verdicts.from_slice.Goals as goal

pub loop-verdict-preserved : goal.loop-verdict-preserved
loop-verdict-preserved c =
    let grown : c.push.new.self.bytes.items ≡ c.loop-verdict.digits.bytes.items ++ c.digit_of.result ∷ [] = search rules in
    digits_more c.args.verdicts.now c.loop-verdict.digits.bytes.items c.push.new.self.bytes.items c.loop-verdict.verdict-index c.digit_of.result c.loop-verdict.invariant c.loop-verdict-test.true
    (c.digit_of.ensures.digit (c.requires c.loop-verdict.verdict-index 0 c.loop-verdict-test.true)) grown

pub invariant_of-result : goal.invariant_of-result
invariant_of-result c =
    let whole : c.loop-verdict.digits.bytes.items ≡ verdict_digits c.args.verdicts.now = c.loop-verdict.invariant ∙ ap verdict_digits (take_all _ _ c.loop-verdict-test.false) in
    ap (λ ds. verdict_digits (verdicts_of ds)) whole ∙ ap verdict_digits (verdicts_back c.args.verdicts.now) ∙ sym whole

pub returns : goal.returns
returns c =
    let whole : c.loop-verdict.digits.bytes.items ≡ verdict_digits c.args.verdicts.now = c.loop-verdict.invariant ∙ ap verdict_digits (take_all _ _ c.loop-verdict-test.false) in
    inl (ap (λ vs. Ok vs) (ap verdicts_of whole ∙ verdicts_back c.args.verdicts.now))
