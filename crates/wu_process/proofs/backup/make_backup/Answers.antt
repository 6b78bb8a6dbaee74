use Rattle.std.proofs.Common.{◌≡◌, Ok, Err, Result, inl, rules, subst, sym}
use Rattle.wu_process.specs.declared.memory_file.MemoryFile.{MemoryFile}
use Rattle.std.specs.Prelude.{IfOk, false}
use Rattle.wu_cli.specs.LogNames.{names_log}
use Rattle.wu_cli.specs.declared.backup.Unmade.{Unmade}
use Rattle.wu_cli.specs.declared.trouble.Trouble.{Trouble}
use Rattle.wu_process.specs.Backups.{EndsBackup}
use Rattle.wu_process.specs.declared.backup.Folded.{Folded}
use Rattle.wu_cli.proofs.TroubleLemmas.{handed_on}
use Rattle.wu_process.proofs.backup.make_backup.Goals as goal

pub returns-in_err-folded : goal.returns-in_err-folded
returns-in_err-folded g c =
    let made = c.from_residual.result in
    let is : c.fold.result ≡ Err c.in_err-folded.field-0.0 = search rules in
    let told : made ≡ Err c.in_err-folded.field-0.0 = handed_on made _ c.from_residual.ensures.1 in
    inl (record {
      own_name = subst (λ (r : Result (Unit {0}) Unmade). IfOk r (λ _. names_log c.args.to.now ≡ false)) c.in_default.is c.refuse_path.ensures;
      files = c.in-Ok.files;
      copy = c.in-Ok.ensures;
      folded = c.fold.result;
      folds = c.fold.ensures.folds;
      ends = subst (λ (r : Result (Folded MemoryFile) Trouble). EndsBackup (g.F.MakeFile.makes c.args.new_files.now) c.args.to.now r made) (sym is) told;
    })

pub returns : goal.returns
returns g c =
    let is : c.fold.result ≡ Ok c.in_ok-folded.folded = search rules in
    inl (record {
      own_name = subst (λ (r : Result (Unit {0}) Unmade). IfOk r (λ _. names_log c.args.to.now ≡ false)) c.in_default.is c.refuse_path.ensures;
      files = c.in-Ok.files;
      copy = c.in-Ok.ensures;
      folded = c.fold.result;
      folds = c.fold.ensures.folds;
      ends = subst (λ (r : Result (Folded MemoryFile) Trouble). EndsBackup (g.F.MakeFile.makes c.args.new_files.now) c.args.to.now r c.make_folded.result) (sym is) c.make_folded.ensures;
    })
