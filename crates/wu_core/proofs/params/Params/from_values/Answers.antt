use Rattle.std.proofs.Common.{◌≡◌, ◌∙◌, Option, Result, Ok, Err, IfSome, List, ℤ, length, ap, sym, refl, rules}
use Rattle.std.specs.Result.{result_ok}
use Rattle.wu_core.proofs.ParameterLemmas.{all_pass, valued}
use Rattle.wu_core.proofs.params.Params.from_values.Goals as goal
use Rattle.wu_core.specs.Limits.{highest_target}
use Rattle.wu_core.specs.Parameters.{Parameters, values_of}
use Rattle.wu_core.specs.Templates.{listed, parameters_to}
use Rattle.wu_core.specs.declared.fault.Fault.{Fault}

-- the answer is that of the values' tests
answer : (values : List ℤ) (found : Option Parameters) → found ≡ result_ok (parameters_to highest_target (listed values)) → (r : Result Parameters Fault) → parameters_to highest_target (listed values) ≡ r → length values ≡ 7 → IfSome found (λ p. values_of p ≡ values)
answer values found is (Ok p) same long = rw (is ∙ ap result_ok same) (valued values p long same)
answer values found is (Err why) same long = rw (is ∙ ap result_ok same) tt

pub returns-clause-found : goal.returns-clause-found
returns-clause-found c p is same =
    c.ok.ensures.value ∙ ap result_ok (c.within.ensures ∙ ap (parameters_to highest_target) (c.each_whole.ensures ∙ ap listed (sym same)) ∙ all_pass p is)

pub returns-clause-valued : goal.returns-clause-valued
returns-clause-valued c =
    let long : length c.args.values ≡ 7 = search rules in
    answer c.args.values c.ok.result (c.ok.ensures.value ∙ ap result_ok (c.within.ensures ∙ ap (parameters_to highest_target) c.each_whole.ensures)) _ refl long
