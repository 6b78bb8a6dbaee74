use Rattle.std.proofs.Common.{Ok, Err, Result, ap, inl, inr, refl, rules, subst}
use Rattle.wu_core.specs.declared.fault.Fault.{Fault}
use Rattle.wu_core.specs.Names.{name_of}
use Rattle.wu_core.specs.Reads.{TellsRefusal}
use Rattle.wu_machine.specs.declared.command.Command.TheVariants as command
use Rattle.wu_arguments.specs.Actions.{pass_command}
use Rattle.wu_arguments.specs.declared.action.Action.{Action}
use Rattle.wu_arguments.specs.declared.action.Action.TheVariants.{Look}
use Rattle.wu_arguments.proofs.ActionLemmas.{made, not_made, told_same}
use Rattle.wu_arguments.proofs.action.prepare.Goals as goal

pub returns-in-Import : goal.returns-in-Import
returns-in-Import c = rw c.in-Import.is (record { action = c.import.ensures.action; told = c.import.ensures.told })

pub returns-in-Cycle : goal.returns-in-Cycle
returns-in-Cycle c = rw c.in-Cycle.is (record { action = c.all_of_cycle.ensures.action; told = c.all_of_cycle.ensures.told })

pub returns-in_ok-copy-in-Show : goal.returns-in_ok-copy-in-Show
returns-in_ok-copy-in-Show c =
    rw c.in-Show.is (record { action = inl (ap {B = Result Action Fault} (λ view. Ok (Look view)) c.in_ok-copy-in-Show.ensures); told = tt })

pub returns-in_err-copy-in-Show : goal.returns-in_err-copy-in-Show
returns-in_err-copy-in-Show c = rw c.in-Show.is (record { action = inr (search rules); told = tt })

pub returns-in-Imports : goal.returns-in-Imports
returns-in-Imports c = rw c.in-Imports.is (record { action = c.imports.ensures.action; told = c.imports.ensures.told })

pub returns-in-Status : goal.returns-in-Status
returns-in-Status c = rw c.in-Status.is (record { action = inl c.status.ensures; told = told_same _ _ c.status.ensures })

pub returns-in-Upgrade : goal.returns-in-Upgrade
returns-in-Upgrade c = rw c.in-Upgrade.is (record { action = c.one-in-Upgrade.ensures; told = tt })

pub returns-in_ok-pass_command-in-Pass : goal.returns-in_ok-pass_command-in-Pass
returns-in_ok-pass_command-in-Pass c =
    rw c.in-Pass.is
    (made (λ command. command) _ (pass_command c.in-Pass.pass c.in-Pass.now c.in-Pass.limit c.in-Pass.min_age) _ (inl c.in_ok-pass_command-in-Pass.ensures) c.one.ensures)

pub returns-in_err-pass_command-in-Pass : goal.returns-in_err-pass_command-in-Pass
returns-in_err-pass_command-in-Pass c =
    rw c.in-Pass.is
    (not_made (λ command. command) _ (pass_command c.in-Pass.pass c.in-Pass.now c.in-Pass.limit c.in-Pass.min_age) _ (search rules) (inl c.in_err-pass_command-in-Pass.ensures)
    (subst (TellsRefusal (Err _)) c.in_err-pass_command-in-Pass.ensures refl))

pub returns-in_ok-workunit-in-Cancel : goal.returns-in_ok-workunit-in-Cancel
returns-in_ok-workunit-in-Cancel c =
    rw c.in-Cancel.is (made command.Cancel _ (name_of c.in-Cancel.workunit) _ c.in_ok-workunit-in-Cancel.ensures.name c.one-in-Cancel.ensures)

pub returns-in_err-workunit-in-Cancel : goal.returns-in_err-workunit-in-Cancel
returns-in_err-workunit-in-Cancel c =
    rw c.in-Cancel.is
    (not_made command.Cancel _ (name_of c.in-Cancel.workunit) _ (search rules) c.in_err-workunit-in-Cancel.ensures.name c.in_err-workunit-in-Cancel.ensures.told)
