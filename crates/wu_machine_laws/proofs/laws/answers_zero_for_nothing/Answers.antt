use Rattle.std.proofs.Common.{◌∙◌, sym}
use Rattle.wu_machine_laws.proofs.PassLaws.{pass_answered, zero_for_nothing}
use Rattle.wu_machine_laws.proofs.laws.answers_zero_for_nothing.Goals as goal

pub returns : goal.returns
returns c pass now limit min_age n world is =
    let answer = pass_answered pass now limit min_age n world is in
    let zero = zero_for_nothing pass now min_age limit world in
    (λ none. answer.1 ∙ zero.0 (sym answer.0 ∙ none), λ same. answer.0 ∙ zero.1 (sym answer.1 ∙ same))
