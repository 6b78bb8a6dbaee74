use Rattle.std.proofs.Common.{◌≡◌, Err, inl, rules, subst}
use Rattle.wu_arguments.specs.Steps.{GivesScript}
use Rattle.wu_cli.specs.Working.{ReadsScript}
use Rattle.wu_cli.specs.declared.trouble.Trouble.TheVariants as trouble
use Rattle.wu_cli.proofs.work.Work.of_script.Goals as goal

pub returns-in_err-asked : goal.returns-in_err-asked
returns-in_err-asked g c =
    let same : c.from_residual-in_err-asked.result ≡ Err (trouble.BadLine c.in_err-asked.field-0.0) = search rules in
    inl (record {
      lines = c.in_ok-lines.lines;
      reads = subst (ReadsScript (g.F.ReadFile.gives c.args.files.now) c.args.script.now) c.in_ok-lines.was c.lines_of_script.ensures;
      parts = Err c.in_err-asked.field-0.0;
      asks = subst (GivesScript (g.F.ReadFile.gives c.args.files.now) c.args.script.now.db c.in_ok-lines.lines) c.in_err-asked.was (rw c.as_str.ensures at c.script_of_lines.ensures);
      asked = same;
    })
