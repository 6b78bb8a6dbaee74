use Rattle.std.proofs.Common.{rules, ◌≡◌, ◌+◌, [], ◌∷◌, ◌++◌, length, take, true, false, inl, inr, Some, None, Err, ap, sym, ◌∙◌, subst, arith, length-append, refl}
use Rattle.std.specs.Io.KnownBytes.{Appends}
use Rattle.std.proofs.KnownBytes.{Appends-trans}
use Rattle.sqlite.specs.State.{HasCleanDisk}
use Rattle.std.proofs.lemmas.Bool.{cases_Bool}
use Rattle.wu_core.specs.declared.fault.Fault.{Fault}
use Rattle.wu_core.specs.declared.fault.Fault.TheVariants.{Broken, Output}
use Rattle.wu_drive.proofs.AnswerLemmas.{all_written, answers_text-more, last_cut}
use Rattle.wu_drive.proofs.DrivingLemmas.{broke_after, driving_from_more, driving_from_none, driving_more, driving_none, drives_cut, drives_from_cut, drives_from_so_far, drives_so_far, ended_first, leaves_first, never_told, never_whole, not_done, nothing_next, ok_holds, one_fault, serves_done, serves_or_rests}
use Rattle.wu_drive.proofs.CountingLemmas.{counts_next}
use Rattle.wu_drive.proofs.LifeLemmas.{lengthens}
use Rattle.wu_drive.specs.Counting.{last_handled}
use Rattle.wu_drive.specs.Driving.{DrivesFromAny, DrivesProject, MakeNothing}
use Rattle.wu_machine.specs.Sessions.{world_of_life}
use Rattle.wu_passes.proofs.StandingLemmas.{keeps_self, keeps_then, open_self, open_then, shut_then}
use Rattle.wu_passes.specs.Projects.{has_ended, IsSessionOpen, state_of}
use Rattle.wu_drive.specs.Writing.{answers_text}
use Rattle.wu_drive.proofs.runs.drive_and_count.Goals as goal

pub loop-command-init : goal.loop-command-init
loop-command-init g c = (
  refl,
  λ ended. (refl, refl, refl),
  λ going. going,
  refl,
  omega arith,
  omega arith,
  λ going was clean. was,
  λ first. refl,
  λ going clean world shows none. keeps_self _,
  λ going clean world shows. refl,
  ([], refl, search rules, λ going clean world over. driving_none world c.args.commands.now _ going over, λ going clean world shows. driving_from_none world c.args.commands.now _ going shows),
  open_self (state_of c.args.project.now),
  λ clean is_open. is_open,
)

pub loop-command-preserved : goal.loop-command-preserved
loop-command-preserved g c =
    let (index, was_ended, goes_still, limited, kept_clean, rises, opened, untried, idle, counts, (answers, counted, whole, driving, driving_from), stays, shut) = c.loop-command.invariant in
    let answer = c.in-Ok.answer in
    let longer : length (answers ++ answer ∷ []) ≡ c.loop-command.acknowledged + 1 = length-append answers (answer ∷ []) ∙ omega arith in
    let more = Appends-trans _ _ _ (answers_text answers) _ whole c.in_default.ensures.bytes in
    let going_on : IsSessionOpen c.args.project.now → IsSessionOpen c.run.new.self = λ going.
    elim (cases_Bool (has_ended c.run.new.self)) [ inl over ↦ absurd (c.in-Ok.ensures.session.ends (goes_still going) over) | inr still ↦ still ] in
    let before : HasCleanDisk (state_of c.run.new.self) → HasCleanDisk (state_of c.loop-command.project) = λ clean. omega (arith, c.run.ensures.session.clean, clean) in (
      ap (λ k. k + 1) index,
      λ ended.
          let still : has_ended c.loop-command.project ≡ true = ap has_ended (was_ended ended).1 ∙ ended in
          absurd (let no = sym (c.run.ensures.ended still).0 ∙ c.in-Ok.is in cc),
      going_on,
      c.run.ensures.session.limit ∙ limited,
      omega (arith, kept_clean, c.run.ensures.session.clean),
      omega (arith, rises, c.run.ensures.session.counts),
      λ going was clean. serves_done c.loop-command.project c.run.new.self c.command-item.result c.run.result (c.run.ensures.opens (goes_still going)) (c.run.ensures.refused (goes_still going)) answer c.in-Ok.is clean,
      λ first. absurd (omega (arith, first)),
      λ going clean world shows none.
          let so_far = driving_from going (before clean) world shows in
          let (firsts, here) = nothing_next world c.args.commands.now c.loop-command.command-index c.command-item.result c.command-item.result c.loop-command-test.true (sym c.command-item.is) none in
          keeps_then _ _ _ (idle going (before clean) world shows firsts)
          (ok_holds c.run.result answer _ c.in-Ok.is (c.run.ensures.idle (goes_still going) clean _ so_far.shows here)),
      λ going clean world shows.
          let so_far = driving_from going (before clean) world shows in
          counts_next world c.args.commands.now c.loop-command.command-index c.command-item.result c.command-item.result c.loop-command-test.true (sym c.command-item.is) answer _ c.handled_by-handled.ensures
          ((c.in-Ok.ensures.runs so_far.going).from clean _ so_far.shows).0,
      (
        answers ++ answer ∷ [],
        longer,
        subst (Appends _ _) (sym (answers_text-more answers answer)) more,
        λ going clean world over.
            let so_far = driving going (before clean) world over in
            driving_more world c.args.commands.now answers c.loop-command.command-index _ _ c.command-item.result c.command-item.result c.loop-command-test.true (sym c.command-item.is) clean so_far answer (c.in-Ok.ensures.runs so_far.going),
        λ going clean world shows.
            let so_far = driving_from going (before clean) world shows in
            driving_from_more world c.args.commands.now answers c.loop-command.command-index _ _ c.command-item.result c.command-item.result c.loop-command-test.true (sym c.command-item.is) clean so_far answer (c.in-Ok.ensures.runs so_far.going) (going_on going),
      ),
      open_then (state_of c.args.project.now) (state_of c.loop-command.project) (state_of c.run.new.self) c.run.ensures.session.clean rises c.run.ensures.session.counts stays c.run.ensures.session.opens,
      shut_then (state_of c.args.project.now) (state_of c.loop-command.project) (state_of c.run.new.self) c.run.ensures.session.clean shut c.run.ensures.session.shut,
    )

-- a command was not done
pub returns-in-Err-clause-runs : goal.returns-in-Err-clause-runs
returns-in-Err-clause-runs g c =
    let (index, was_ended, goes_still, limited, kept_clean, rises, opened, untried, idle, counts, (answers, counted, whole, driving, driving_from), stays, shut) = c.loop-command.invariant in
    let before : HasCleanDisk (state_of c.run.new.self) → HasCleanDisk (state_of c.loop-command.project) = λ clean. omega (arith, c.run.ensures.session.clean, clean) in
    let drives : DrivesProject c.args.project.now c.run.new.self c.args.commands.now answers _ = λ going clean world over.
    let so_far = driving going (before clean) world over in
    drives_cut world c.args.commands.now answers c.loop-command.command-index c.loop-command.project c.run.new.self c.command-item.result c.command-item.result c.loop-command-test.true (sym c.command-item.is) clean so_far c.commands_keep_projects.ensures c.in-Err.fault _ index refl
    (c.in-Err.ensures.runs so_far.going) in
    let drives_from : DrivesFromAny c.args.project.now c.run.new.self c.args.commands.now answers _ = λ going clean world shows.
    let so_far = driving_from going (before clean) world shows in
    drives_from_cut world c.args.commands.now answers c.loop-command.command-index c.loop-command.project c.run.new.self c.command-item.result c.command-item.result c.loop-command-test.true (sym c.command-item.is) clean so_far c.in-Err.fault _ index refl
    (c.in-Err.ensures.runs so_far.going) in
    record {
      answers = (answers, all_written _ _ answers _ counted whole, drives, drives_from);
      why = λ going clean unlimited world shows fault told.
          let so_far = driving_from going (before clean) world shows in
          inl (not_done _ _ (broke_after c.args.project.now c.loop-command.project c.run.new.self rises (λ was. opened going was (before clean))) world c.args.commands.now c.loop-command.command-index c.command-item.result c.command-item.result
          c.loop-command-test.true (sym c.command-item.is) _ index c.in-Err.fault fault _ told refl (c.in-Err.ensures.why so_far.going clean (limited ∙ unlimited) _ so_far.shows));
      opens = λ going was clean. elim (serves_or_rests c.loop-command.project c.run.new.self c.command-item.result c.run.result (c.run.ensures.opens (goes_still going)) (c.run.ensures.refused (goes_still going)) c.in-Err.fault c.in-Err.is (opened going was) clean) [
        | inl failed ↦ inl (c.in-Err.fault, refl, failed)
        | inr still ↦ inr still
      ];
      stays = open_then (state_of c.args.project.now) (state_of c.loop-command.project) (state_of c.run.new.self) c.run.ensures.session.clean rises c.run.ensures.session.counts stays c.run.ensures.session.opens;
      shut = shut_then (state_of c.args.project.now) (state_of c.loop-command.project) (state_of c.run.new.self) c.run.ensures.session.clean shut c.run.ensures.session.shut;
      lives = λ going clean start life over. lengthens start life c.args.commands.now answers _ _ _ (drives going clean (world_of_life start life) over);
      ended = λ was.
          let first = was_ended was in
          let still : has_ended c.loop-command.project ≡ true = ap has_ended first.1 ∙ was in
          ended_first c.args.project.now c.loop-command.project c.run.new.self c.args.out.now c.loop-command.out c.loop-command.acknowledged c.in-Err.fault c.run.result (index ∙ first.0, first.1, first.2) (c.run.ensures.ended still) c.in-Err.is;
      untouched = λ clean none. leaves_first _ _ c.run.new.self c.in-Err.fault (untried (sym index ∙ none)) (c.in-Err.ensures.untouched clean);
      idle = λ going clean world shows none.
          let kept = idle going (before clean) world shows (subst (λ k. MakeNothing world (take k c.args.commands.now)) index none) in
          elim (c.in-Err.ensures.untouched clean) [ inl failed ↦ inl (c.in-Err.fault, refl, failed) | inr same ↦ inr (keeps_then _ _ _ kept same) ];
      ends = λ going over. (c.in-Err.fault, refl, c.in-Err.ensures.session.ends (goes_still going) over);
      broken = λ going is. c.run.ensures.session.broken (goes_still going) (c.in-Err.is ∙ ap (λ (f : Fault). Err f) (one_fault _ _ is));
      clean = omega (arith, kept_clean, c.run.ensures.session.clean);
      counts = omega (arith, rises, c.run.ensures.session.counts);
      limit = c.run.ensures.session.limit ∙ limited;
      count = omega (arith, index, c.loop-command-test.true);
      all = λ none. never_whole _ none;
    }

-- the text of one that was done could not be written
pub returns-in-Err-write_answer-clause-runs : goal.returns-in-Err-write_answer-clause-runs
returns-in-Err-write_answer-clause-runs g c =
    let (index, was_ended, goes_still, limited, kept_clean, rises, opened, untried, idle, counts, (answers, counted, whole, driving, driving_from), stays, shut) = c.loop-command.invariant in
    let answer = c.in-Ok.answer in
    let before : HasCleanDisk (state_of c.run.new.self) → HasCleanDisk (state_of c.loop-command.project) = λ clean. omega (arith, c.run.ensures.session.clean, clean) in
    let going_on : IsSessionOpen c.args.project.now → IsSessionOpen c.run.new.self = λ going.
    elim (cases_Bool (has_ended c.run.new.self)) [ inl over ↦ absurd (c.in-Ok.ensures.session.ends (goes_still going) over) | inr still ↦ still ] in
    let drives : DrivesProject c.args.project.now c.run.new.self c.args.commands.now (answers ++ answer ∷ []) _ = λ going clean world over.
    let so_far = driving going (before clean) world over in
    let longer = driving_more world c.args.commands.now answers c.loop-command.command-index _ _ c.command-item.result c.command-item.result c.loop-command-test.true (sym c.command-item.is) clean so_far answer (c.in-Ok.ensures.runs so_far.going) in
    drives_so_far world c.args.commands.now (answers ++ answer ∷ []) (c.loop-command.command-index + 1) _ _ (ap (λ k. k + 1) index) longer (omega (arith, c.loop-command-test.true))
    (λ fault told. (one_fault fault Output (sym told ∙ ap Some c.in-Err-write_answer.ensures.fault), omega arith)) in
    let drives_from : DrivesFromAny c.args.project.now c.run.new.self c.args.commands.now (answers ++ answer ∷ []) _ = λ going clean world shows.
    let so_far = driving_from going (before clean) world shows in
    let longer = driving_from_more world c.args.commands.now answers c.loop-command.command-index _ _ c.command-item.result c.command-item.result c.loop-command-test.true (sym c.command-item.is) clean so_far answer (c.in-Ok.ensures.runs so_far.going) (going_on going) in
    drives_from_so_far world c.args.commands.now (answers ++ answer ∷ []) (c.loop-command.command-index + 1) _ _ (ap (λ k. k + 1) index) longer
    (λ fault told. (one_fault fault Output (sym told ∙ ap Some c.in-Err-write_answer.ensures.fault), omega arith)) in
    record {
      answers = (
        answers ++ answer ∷ [],
        last_cut _ _ (g.W.Write.contents c.write_answer.new.out) answers answer _ (omega arith) (ap Some c.in-Err-write_answer.ensures.fault) whole c.in-Err-write_answer.ensures.bytes,
        drives,
        drives_from,
      );
      why = λ going clean unlimited world shows fault told.
          inr (one_fault fault Output (sym told ∙ ap Some c.in-Err-write_answer.ensures.fault), omega arith, going_on going);
      opens = λ going was clean. inr (serves_done c.loop-command.project c.run.new.self c.command-item.result c.run.result (c.run.ensures.opens (goes_still going)) (c.run.ensures.refused (goes_still going)) c.in-Ok.answer c.in-Ok.is clean);
      stays = open_then (state_of c.args.project.now) (state_of c.loop-command.project) (state_of c.run.new.self) c.run.ensures.session.clean rises c.run.ensures.session.counts stays c.run.ensures.session.opens;
      shut = shut_then (state_of c.args.project.now) (state_of c.loop-command.project) (state_of c.run.new.self) c.run.ensures.session.clean shut c.run.ensures.session.shut;
      lives = λ going clean start life over. lengthens start life c.args.commands.now (answers ++ answer ∷ []) _ _ _ (drives going clean (world_of_life start life) over);
      ended = λ was.
          let first = was_ended was in
          let still : has_ended c.loop-command.project ≡ true = ap has_ended first.1 ∙ was in
          absurd (let no = sym (c.run.ensures.ended still).0 ∙ c.in-Ok.is in cc);
      untouched = λ clean none. absurd (omega (arith, none));
      idle = λ going clean world shows none.
          let so_far = driving_from going (before clean) world shows in
          let (firsts, here) = nothing_next world c.args.commands.now c.loop-command.command-index c.command-item.result c.command-item.result c.loop-command-test.true (sym c.command-item.is)
          (subst (λ k. MakeNothing world (take (k + 1) c.args.commands.now)) index none) in
          inr (keeps_then _ _ _ (idle going (before clean) world shows firsts)
          (ok_holds c.run.result answer _ c.in-Ok.is (c.run.ensures.idle (goes_still going) clean _ so_far.shows here)));
      ends = λ going over. absurd (c.in-Ok.ensures.session.ends (goes_still going) over);
      broken = λ going is. absurd (let other : Output ≡ Broken = sym c.in-Err-write_answer.ensures.fault ∙ one_fault _ _ is in cc);
      clean = omega (arith, kept_clean, c.run.ensures.session.clean);
      counts = omega (arith, rises, c.run.ensures.session.counts);
      limit = c.run.ensures.session.limit ∙ limited;
      count = omega (arith, index, c.loop-command-test.true);
      all = λ none. never_whole _ none;
    }

-- the list ended
pub returns-clause-runs : goal.returns-clause-runs
returns-clause-runs g c =
    let (index, was_ended, goes_still, limited, kept_clean, rises, opened, untried, idle, counts, (answers, counted, whole, driving, driving_from), stays, shut) = c.loop-command.invariant in
    let drives : DrivesProject c.args.project.now c.loop-command.project c.args.commands.now answers (record { acknowledged = c.loop-command.acknowledged; end = None }) = λ going clean world over.
    drives_so_far world c.args.commands.now answers c.loop-command.command-index _ _ index (driving going clean world over) c.loop-command.auto.command-index-end (λ fault told. never_told fault told) in
    let drives_from : DrivesFromAny c.args.project.now c.loop-command.project c.args.commands.now answers (record { acknowledged = c.loop-command.acknowledged; end = None }) = λ going clean world shows.
    drives_from_so_far world c.args.commands.now answers c.loop-command.command-index _ _ index (driving_from going clean world shows) (λ fault told. never_told fault told) in
    record {
      answers = (answers, all_written _ _ answers _ counted whole, drives, drives_from);
      why = λ going clean unlimited world shows fault told. never_told fault told;
      opens = λ going was clean. inr (opened going was clean);
      stays = stays;
      shut = shut;
      lives = λ going clean start life over. lengthens start life c.args.commands.now answers _ _ _ (drives going clean (world_of_life start life) over);
      ended = λ was. let first = was_ended was in (first.1, first.2, index ∙ first.0, tt);
      untouched = λ clean none. tt;
      idle = λ going clean world shows none. inr (idle going clean world shows (subst (λ k. MakeNothing world (take k c.args.commands.now)) index none));
      ends = λ going over. absurd (let no : true ≡ false = sym over ∙ goes_still going in cc);
      broken = λ going is. never_told Broken is;
      clean = kept_clean;
      counts = rises;
      limit = limited;
      count = omega (arith, index, c.loop-command.auto.command-index-end);
      all = λ none. omega (arith, index, c.loop-command.auto.command-index-end, c.loop-command-test.false);
    }

-- ---- how many workunits the last one handled

pub returns-in-Err-clause-counts : goal.returns-in-Err-clause-counts
returns-in-Err-clause-counts g c going clean world shows =
    let (index, was_ended, goes_still, limited, kept_clean, rises, opened, untried, idle, counts, rest, stays, shut) = c.loop-command.invariant in
    let before : HasCleanDisk (state_of c.loop-command.project) = omega (arith, c.run.ensures.session.clean, clean) in
    subst (λ k. c.loop-command.handled ≡ last_handled world (take k c.args.commands.now)) (sym index) (counts going before world shows)

pub returns-in-Err-write_answer-clause-counts : goal.returns-in-Err-write_answer-clause-counts
returns-in-Err-write_answer-clause-counts g c going clean world shows =
    let (index, was_ended, goes_still, limited, kept_clean, rises, opened, untried, idle, counts, (answers, counted, whole, driving, driving_from), stays, shut) = c.loop-command.invariant in
    let before : HasCleanDisk (state_of c.loop-command.project) = omega (arith, c.run.ensures.session.clean, clean) in
    let so_far = driving_from going before world shows in
    subst (λ k. c.handled_by-handled.result ≡ last_handled world (take (k + 1) c.args.commands.now)) (sym index)
    (counts_next world c.args.commands.now c.loop-command.command-index c.command-item.result c.command-item.result c.loop-command-test.true (sym c.command-item.is) c.in-Ok.answer _ c.handled_by-handled.ensures
    ((c.in-Ok.ensures.runs so_far.going).from clean _ so_far.shows).0)

pub returns-clause-counts : goal.returns-clause-counts
returns-clause-counts g c going clean world shows =
    let (index, was_ended, goes_still, limited, kept_clean, rises, opened, untried, idle, counts, rest, stays, shut) = c.loop-command.invariant in
    subst (λ k. c.loop-command.handled ≡ last_handled world (take k c.args.commands.now)) (sym index) (counts going clean world shows)
