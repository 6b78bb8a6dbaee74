use Rattle.std.proofs.Common.{arith, sym, subst, inl, inr}
use Rattle.std.proofs.lemmas.Bool.{cases_Bool}
use Rattle.sqlite.specs.State.{HasCleanDisk}
use Rattle.sqlite.specs.Files.{file_state}
use Rattle.wu_passes.specs.Standing.{GoesOn}
use Rattle.wu_stops.specs.Stopping.{IsReopened}
use Rattle.wu_lives.proofs.ReopeningLemmas.{answers_none, holds_beginning, holds_none}
use Rattle.wu_lives.proofs.reopening.drive_stop_and_open.Goals as goal

pub returns-in-Some : goal.returns-in-Some
returns-in-Some g c =
    let mid = c.drive_and_release-conn.ensures.left in
    let it = c.drive_and_release-conn.ensures.runs in
    let same = c.drive_and_release-conn.ensures.released in
    let here = c.in-Some.again in
    let run = c.drive_and_release-conn.result.0 in
    let again : HasCleanDisk (file_state here) → IsReopened (file_state mid.conn) (file_state here) = λ clean. subst (λ h. IsReopened (file_state h) (file_state here)) same (c.in-Some.ensures.reopened clean) in
    let early : HasCleanDisk (file_state here) → HasCleanDisk (file_state mid.conn) = λ clean. subst (λ h. HasCleanDisk (file_state h)) same (c.in-Some.ensures.clean clean) in
    let (answers, written, drives, drives_from) = it.answers in
    record {
      clean = λ clean. let now = early clean in omega (arith, now, it.clean);
      answers = (
        answers,
        written,
        λ clean world over. elim (cases_Bool c.args.project.has_ended) [
          | inl was ↦ answers_none world c.args.commands.now answers run (it.ended was).2 written.counted
          | inr going ↦ (drives going (early clean) world over).answered
        ],
      );
      found = λ clean world over. elim (cases_Bool c.args.project.has_ended) [
        | inl was ↦
            let ended = it.ended was in
            holds_none world c.args.commands.now _ _ (again clean) over.is_project run ended.2 (subst (λ p. GoesOn (file_state p.conn) world) (sym ended.0) over.goes)
        | inr going ↦ holds_beginning world c.args.commands.now _ _ (again clean) over.is_project answers run mid.has_ended (it.ends going) (drives going (early clean) world over)
      ];
      all = (it.count, it.all);
      ended = λ was. let (unchanged, unwritten, none, why) = it.ended was in (unwritten, none, why);
      ends = λ going clean world over. (drives going (early clean) world over).end;
      reopened = (
        mid,
        record {
          ends = it.ends;
          broken = it.broken;
          same = λ was. (it.ended was).0;
          lives = it.lives;
        },
        again,
      );
    }
