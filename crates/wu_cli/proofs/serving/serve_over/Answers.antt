use Rattle.wu_cli.proofs.serving.serve_over.Goals as goal

pub returns-in-Ok-clause-serves : goal.returns-in-Ok-clause-serves
returns-in-Ok-clause-serves g c = record {
  old = c.in-Ok.project;
  new = c.serve_project-status.new.project;
  begins = c.in-Ok.ensures.session;
  serves = c.serve_project-status.ensures;
  released = c.release.ensures.same;
}
