use Rattle.std.proofs.Common.{◌≡◌, ◌∙◌, false, true, None, subst, sym}
use Rattle.wu_loader.specs.declared.finding.Found.{Found}
use Rattle.wu_refill.specs.Loading.{KeepsSoundWorld}
use Rattle.wu_refill.proofs.loading.keep_refillable.Goals as goal

pub returns-else-branch-clause-kept : goal.returns-else-branch-clause-kept
returns-else-branch-clause-kept c =
    let exact = c.in_ok-may_be_refilled.ensures.exact in
    subst (λ (it : Found). KeepsSoundWorld it None) (sym c.in-World.is) (λ sound is kept. absurd (let no : true ≡ false = sym (exact.1 (sound, is, kept)) ∙ c.if-branch.false in cc))
