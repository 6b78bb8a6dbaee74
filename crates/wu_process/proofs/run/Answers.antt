use Rattle.std.proofs.Common.{inl, refl}
use Rattle.wu_process.proofs.run.Goals as goal

pub returns-in-Ok : goal.returns-in-Ok
returns-in-Ok c = inl (record {
  words = c.words-words.result;
  old = c.begin.new.self;
  new = c.run_with-end.new.out;
  err_old = c.new-err.result;
  err_new = c.run_with-end.new.err;
  in_old = _;
  in_new = _;
  end = c.run_with-end.result;
  runs = c.run_with-end.ensures;
  same = refl;
})
