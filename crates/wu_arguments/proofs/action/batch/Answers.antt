use Rattle.std.proofs.Common.{◌≡◌, ◌∙◌, ℕ, List, [], ◌∷◌, Ok, Err, ap, rules, subst, sym}
use Rattle.wu_core.specs.Reads.{IsOrWantsMemory, TellsRefusal}
use Rattle.wu_machine.specs.declared.command.Command.TheVariants as command
use Rattle.wu_feed.specs.Told.{both}
use Rattle.wu_arguments.specs.Actions.{batch, bytes_of}
use Rattle.wu_arguments.specs.declared.action.Action.{Action}
use Rattle.wu_arguments.specs.declared.action.Action.TheVariants.{Commands}
use Rattle.wu_arguments.proofs.BothLemmas.{files_follow, followed}
use Rattle.wu_arguments.proofs.action.batch.Goals as goal

make : List ℕ × (List ℕ × List ℕ) → Action
make parts = Commands (command.Batch (record { name = parts.0; template = parts.1.1; file = parts.1.0 }) ∷ [])

pub returns-in_err-name : goal.returns-in_err-name
unfolding make
returns-in_err-name c =
    let same : c.from_residual.result ≡ Err c.in_err-name.field-0.0 = search rules in
    let told = followed (batch c.args.text.now (bytes_of c.args.contents.items)) make _ (Err c.in_err-name.field-0.0)
    (ap (both c.name.result) (sym c.batch_files.ensures) ∙ sym c.both.ensures ∙ c.in_err-name.was)
    (files_follow c.args.text.now (bytes_of c.args.contents.items) c.name.result make c.name.ensures.name c.name.ensures.told) in
    rw same (record { action = told.0; told = told.1 })

pub returns : goal.returns
unfolding make
returns c =
    let is = followed (batch c.args.text.now (bytes_of c.args.contents.items)) make _ (Ok (c.in_ok-name.name, (c.in_ok-name.file, c.in_ok-name.template)))
    (ap (both c.name.result) (sym c.batch_files.ensures) ∙ sym c.both.ensures ∙ c.in_ok-name.was)
    (files_follow c.args.text.now (bytes_of c.args.contents.items) c.name.result make c.name.ensures.name c.name.ensures.told) in
    record { action = subst (IsOrWantsMemory c.one.result) (sym is) c.one.ensures; told = subst (TellsRefusal c.one.result) (sym is) tt }
