use Rattle.std.proofs.Common.{inl}
use Rattle.wu_process.proofs.check.check_path.Goals as goal

pub returns-in-Ok : goal.returns-in-Ok
returns-in-Ok g c = inl (record {
  files = c.in-Ok.files;
  copy = c.in-Ok.ensures;
  checks = c.check_files.ensures;
})
