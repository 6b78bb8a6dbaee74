use Rattle.std.proofs.Common.{rules, inl, refl}
use Rattle.wu_core.specs.Names.{name_of}
use Rattle.wu_machine.specs.declared.view.View.TheVariants.{Import}
use Rattle.wu_arguments.specs.declared.action.Action.TheVariants.{Look}
use Rattle.wu_arguments.proofs.ActionLemmas.{had, not_had}
use Rattle.wu_arguments.proofs.action.imports.Goals as goal

pub returns-in_ok-name-in-Some : goal.returns-in_ok-name-in-Some
returns-in_ok-name-in-Some c =
    rw c.in-Some.is (had (λ name. Look (Import name)) _ (name_of c.in-Some.text) _ c.in_ok-name-in-Some.ensures.name (inl refl))

pub returns-in_err-name-in-Some : goal.returns-in_err-name-in-Some
returns-in_err-name-in-Some c =
    rw c.in-Some.is
    (not_had (λ name. Look (Import name)) _ (name_of c.in-Some.text) _ (search rules) c.in_err-name-in-Some.ensures.name c.in_err-name-in-Some.ensures.told)
