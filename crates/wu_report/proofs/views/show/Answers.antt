use Rattle.std.proofs.Common.{rules}
use Rattle.wu_passes.specs.Projects.{state_of}
use Rattle.wu_passes.proofs.StandingLemmas.{goes_read}
use Rattle.wu_report.proofs.WritingLemmas.{Writes-kept}
use Rattle.wu_report.specs.Texts.{view_text}
use Rattle.wu_report.proofs.views.show.Goals as goal

-- all lines were written, and then it was flushed
pub returns-in-Ok : goal.returns-in-Ok
returns-in-Ok g c = record {
  text = λ going clean world knows shows. Writes-kept _ _ _ (view_text world c.args.view.now) c.flush.result (c.in-Ok.ensures.written.text going clean world knows shows) c.flush.ensures.bytes;
  goes = λ clean world goes. goes_read (state_of c.args.project.now) _ world clean c.write_view.ensures.written.reads.read goes;
  reads = c.write_view.ensures.written.reads.read;
  clean = c.write_view.ensures.written.reads.read.survives.clean;
  counts = c.write_view.ensures.written.reads.read.survives.counts;
  limit = c.write_view.ensures.written.reads.limit;
  refused = search rules;
  ends = search rules;
  broken = search rules;
  fault = search rules;
  unrefused = search rules;
  broke = search rules;
  opens = search rules;
  version = c.write_view.ensures.written.reads.version;
  counted = λ is clean. search rules;
}

-- a line was not, and the session goes on
pub returns-else-eq : goal.returns-else-eq
returns-else-eq g c = record {
  text = c.in-Err.ensures.written.text;
  goes = λ clean world goes. goes_read (state_of c.args.project.now) _ world clean c.write_view.ensures.written.reads.read goes;
  reads = c.write_view.ensures.written.reads.read;
  clean = c.write_view.ensures.written.reads.read.survives.clean;
  counts = c.write_view.ensures.written.reads.read.survives.counts;
  limit = c.write_view.ensures.written.reads.limit;
  refused = c.in-Err.ensures.written.early;
  ends = c.in-Err.ensures.written.reads.ends;
  broken = search rules;
  fault = c.in-Err.ensures.written.fault;
  unrefused = c.in-Err.ensures.written.unrefused;
  broke = c.in-Err.ensures.written.broke;
  opens = c.in-Err.ensures.written.opens;
  version = c.write_view.ensures.written.reads.version;
  counted = λ is clean. tt;
}
