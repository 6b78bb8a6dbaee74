use Rattle.std.proofs.Common.{◌≡◌, ◌∙◌, ℕ, List, Ok, Err, ap, inl, rules, subst, sym}
use Rattle.wu_core.specs.Reads.{TellsRefusal}
use Rattle.wu_machine.specs.declared.command.RowsFile.{RowsFile}
use Rattle.wu_feed.specs.Told.{both}
use Rattle.wu_arguments.specs.Actions.{bytes_of, content_of, rows_file}
use Rattle.wu_arguments.proofs.BothLemmas.{file_follows, followed}
use Rattle.wu_arguments.proofs.action.rows_file.Goals as goal

make : List ℕ × List ℕ → RowsFile
make parts = record { name = parts.0; file = parts.1 }

pub returns-in_err-name : goal.returns-in_err-name
unfolding make
returns-in_err-name c =
    let same : c.from_residual.result ≡ Err c.in_err-name.field-0.0 = search rules in
    let read : c.next_content-file.result ≡ content_of (bytes_of c.args.contents.items) 0 = search rules in
    let told = followed (rows_file c.args.text.now (bytes_of c.args.contents.items)) make _ (Err c.in_err-name.field-0.0)
    (ap (both c.name.result) (sym read) ∙ sym c.both.ensures ∙ c.in_err-name.was)
    (file_follows c.args.text.now (bytes_of c.args.contents.items) c.name.result make c.name.ensures.name c.name.ensures.told) in
    rw same (record { file = told.0; told = told.1 })

pub returns : goal.returns
unfolding make
returns c =
    let read : c.next_content-file.result ≡ content_of (bytes_of c.args.contents.items) 0 = search rules in
    let is = followed (rows_file c.args.text.now (bytes_of c.args.contents.items)) make _ (Ok (c.in_ok-name.name, c.in_ok-name.file))
    (ap (both c.name.result) (sym read) ∙ sym c.both.ensures ∙ c.in_ok-name.was)
    (file_follows c.args.text.now (bytes_of c.args.contents.items) c.name.result make c.name.ensures.name c.name.ensures.told) in
    record { file = inl (sym is); told = subst (TellsRefusal (Ok (make (c.in_ok-name.name, c.in_ok-name.file)))) (sym is) tt }
