use Rattle.std.proofs.Common.{◌≡◌, Err, rules}
use Rattle.wu_core.proofs.ResultNameLemmas.{result_name_of-none, result_name_of-no_place, result_name_of-no_name, result_name_of-both, result_name_of-told, given_told}
use Rattle.wu_core.proofs.name.ResultName.read.Goals as goal

pub returns-in_default-clause-name : goal.returns-in_default-clause-name
returns-in_default-clause-name c = let e = result_name_of-none c.args.text.now (c.in_default.ensures.none) in rw e (search rules)

pub returns-in_default-place-clause-name : goal.returns-in_default-place-clause-name
returns-in_default-place-clause-name c =
    let e = result_name_of-no_place c.args.text.now c.in-Some.cut c.in-Some.ensures.found c.in_default-place.ensures in
    rw e (search rules)

pub returns-in_err-workunit-clause-name : goal.returns-in_err-workunit-clause-name
returns-in_err-workunit-clause-name c =
    let same : c.from_residual.result ≡ Err c.in_err-workunit.field-0.0 = search rules in
    rw same (result_name_of-no_name c.args.text.now c.in-Some.cut _ c.in-Some.ensures.found c.in_err-workunit.ensures.name)

pub returns-clause-name : goal.returns-clause-name
returns-clause-name c = result_name_of-both c.args.text.now c.in-Some.cut c.in_ok-workunit.workunit c.in-Some-place.n c.in-Some.ensures.found c.in-Some-place.ensures c.in_ok-workunit.ensures.name

pub returns-in_err-workunit-clause-told : goal.returns-in_err-workunit-clause-told
returns-in_err-workunit-clause-told c =
    let same : c.from_residual.result ≡ Err c.in_err-workunit.field-0.0 = search rules in
    rw same (result_name_of-told c.args.text.now c.in-Some.cut c.in-Some-place.n _ c.in-Some.ensures.found c.in-Some-place.ensures c.in_err-workunit.ensures.told)

pub returns-clause-told : goal.returns-clause-told
returns-clause-told c = given_told _ _ (result_name_of-both c.args.text.now c.in-Some.cut c.in_ok-workunit.workunit c.in-Some-place.n c.in-Some.ensures.found c.in-Some-place.ensures c.in_ok-workunit.ensures.name)
