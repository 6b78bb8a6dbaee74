use Rattle.std.proofs.Common.{subst}
use Rattle.sqlite_store.specs.FileStore.{view, faults, recovers, is_shielded}
use Rattle.sqlite_trees.specs.View.{IsQuiet}
use Rattle.wu_lives.proofs.RunsLemmas.{beginning_in, does_first, left_by, was_clean}
use Rattle.wu_lives.proofs.runs.run_and_leave.Goals as goal

pub returns : goal.returns
returns g c =
    let mid = c.drive_and_release-conn.ensures.left in
    let files = c.close.result in
    let store = c.store_of.result in
    let it = c.drive_and_release-conn.ensures.runs in
    let quiet : IsQuiet view faults recovers is_shielded mid.conn.store store = subst (λ h. IsQuiet view faults recovers is_shielded h.store store) c.drive_and_release-conn.ensures.released c.store_of.ensures.quiet in
    record {
      leaves = record {
        answers = it.answers.0;
        written = it.answers.1;
        left = record { left = mid; is_left = left_by it; store = store; quiet = quiet; files_are = c.close.ensures };
        does = does_first it files (was_clean mid.conn store files c.store_of.ensures.numbered c.store_of.ensures.sound quiet c.close.ensures)
            (λ honest world each.
            beginning_in mid.conn store files c.store_of.ensures.numbered c.store_of.ensures.sound quiet c.close.ensures honest world c.args.commands.now c.drive_and_release-conn.result.0 each);
      };
      all = (it.count, it.all);
      ended = λ was. let (same, unwritten, none, why) = it.ended was in (unwritten, none, why);
    }
