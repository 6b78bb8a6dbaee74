use Rattle.std.proofs.Common.{inl}
use Rattle.wu_process.proofs.outputs.keep_of_path.Goals as goal

pub returns-in-Ok : goal.returns-in-Ok
returns-in-Ok g c = inl (record {
  files = c.in-Ok.copy;
  copy = c.in-Ok.ensures;
  keeps_all = c.keep_of_files.ensures;
})
