use Rattle.sqlite_wal.specs.Files.{image_at}
use Rattle.wu_lives.proofs.RunsLemmas.{lives_on}
use Rattle.wu_lives.proofs.runs.run_and_begin_again.Goals as goal

pub returns-clause-lives : goal.returns-clause-lives
returns-clause-lives g c =
    let first = c.run_and_leave-files.ensures.leaves in
    let files = c.run_and_leave-files.result.1 in
    record {
      files = files;
      first = first;
      lives = lives_on c.args.project c.args.commands.now c.run_and_leave-files.result.0 first.answers files (image_at g.S.Start) c.in_ok-again.again first.does c.in_ok-again.ensures.found c.in_ok-again.ensures.begins.1;
    }
