use Rattle.std.proofs.Common.{sym, subst}
use Rattle.sqlite.specs.Closing.{IsCopied}
use Rattle.sqlite.specs.Files.{IsClosed}
use Rattle.sqlite_wal.specs.Reads.{AreClean}
use Rattle.wu_lives.proofs.RunsLemmas.{beginning_copied, beginning_in, does_first, left_by, was_clean}
use Rattle.wu_lives.proofs.runs.run_and_close.Goals as goal

pub returns-in-Ok-clause-leaves : goal.returns-in-Ok-clause-leaves
returns-in-Ok-clause-leaves g c =
    let it = c.drive_and_release-conn.ensures.runs in
    let mid = c.drive_and_release-conn.ensures.left in
    let files = c.in-Ok.files in
    let (store, files_are, closed, emptied) = c.in-Ok.ensures.ok in
    let copied : AreClean g.D.Disk files.log files.db → IsCopied mid.conn files = λ honest. subst (λ h. IsCopied h files) c.drive_and_release-conn.ensures.released (c.in-Ok.ensures.copied honest) in
    record {
      answers = it.answers.0;
      written = it.answers.1;
      left = record { left = mid; is_left = left_by it; store = store; quiet = (subst (λ h. IsClosed h store) c.drive_and_release-conn.ensures.released closed).quiet; files_are = sym files_are };
      does = does_first it files (λ honest. (copied honest).was_clean)
          (λ honest world each. beginning_copied mid.conn files g.met.D.Disk.seen_may_stay (copied honest) world c.args.commands.now c.drive_and_release-conn.result.0 each);
    }

pub returns-in-Ok-clause-ended : goal.returns-in-Ok-clause-ended
returns-in-Ok-clause-ended g c was = let (same, unwritten, none, why) = c.drive_and_release-conn.ensures.runs.ended was in (unwritten, none, why)

pub returns-in-Err-clause-unclosed : goal.returns-in-Err-clause-unclosed
returns-in-Err-clause-unclosed g c =
    let it = c.drive_and_release-conn.ensures.runs in
    let mid = c.drive_and_release-conn.ensures.left in
    let store = c.in-Err.store in
    let closed : IsClosed mid.conn store = subst (λ h. IsClosed h store) c.drive_and_release-conn.ensures.released c.in-Err.ensures.err.0 in
    record {
      answers = it.answers.0;
      written = it.answers.1;
      left = λ files is. record { left = mid; is_left = left_by it; store = store; quiet = closed.quiet; files_are = is };
      does = λ numbered files is.
          does_first it files (was_clean mid.conn store files (λ clean. numbered) closed.sound closed.quiet is)
          (λ honest world each. beginning_in mid.conn store files (λ clean. numbered) closed.sound closed.quiet is honest world c.args.commands.now c.drive_and_release-conn.result.0 each);
    }

pub returns-in-Err-clause-ended : goal.returns-in-Err-clause-ended
returns-in-Err-clause-ended g c was = let (same, unwritten, none, why) = c.drive_and_release-conn.ensures.runs.ended was in (unwritten, none, why)
