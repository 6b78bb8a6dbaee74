-- From the lines that a session answered to what it left.
use Rattle.std.proofs.Common.{◌≡◌, ◌⊎◌, ◌∙◌, inl, inr, ℕ, Bool, false, List, [], ◌∷◌, ◌++◌, length, take, None, Option, Some, Result, Ok, Err, refl, sym, ap, subst, arith, append_assoc, length-append, drop, ◌+◌}
use Rattle.std.proofs.Math.Logic.{∥∥₁_map}
use Rattle.std.proofs.Math.Seq.{take-append-add}
use Rattle.std.proofs.lemmas.List.{take-append-drop, length-take-le}
use Rattle.std.specs.Prelude.{IfErr}
use Rattle.sqlite_disk.specs.declared.Disk.{Ghosts as DiskGhosts}
use Rattle.sqlite_disk.specs.declared.Files.{Files}
use Rattle.sqlite_disk.specs.declared.calls.Calls as calls
use Rattle.sqlite_disk.specs.declared.modelled.Modelled.{Modelled}
use Rattle.sqlite_disk.specs.declared.start.Start as start
use Rattle.sqlite_std_file.specs.declared.host.Host.{Host}
use Rattle.sqlite_store.specs.declared.store.FileStore.{FileStore}
use Rattle.sqlite_trees.specs.declared.store.Store.{Ghosts}
use Rattle.sqlite_wal.proofs.LogLemmas.{SeenMayStay}
use Rattle.sqlite_wal.specs.Files.{image_at, outcomes}
use Rattle.sqlite_wal.specs.Recovery.{Image}
use Rattle.sqlite.specs.Closing.{IsCopied}
use Rattle.sqlite.specs.Files.{file_state, IsOpened, over_files, HoldsDatabase}
use Rattle.sqlite.specs.Held.{Held}
use Rattle.sqlite.specs.Start.{FindsIn}
use Rattle.sqlite.specs.State.{HasCleanDisk}
use Rattle.sqlite.specs.Tree.{Trees}
use Rattle.wu_core.specs.World.{World}
use Rattle.wu_core.specs.declared.fault.Fault.{Fault}
use Rattle.wu_drive.specs.Driving.{AnswerAll, Drives, world_after}
use Rattle.wu_machine.specs.Sound.{IsProject}
use Rattle.wu_machine.specs.declared.command.Answer.{Answer}
use Rattle.wu_machine.specs.declared.command.Command.{Command}
use Rattle.wu_passes.specs.Projects.{has_ended, IsOver, is_new_project, IsSessionOpen, state_of}
use Rattle.wu_passes.specs.Standing.{FaultsOnlyGrow}
use Rattle.wu_passes.specs.declared.project.Project.{Project}
use Rattle.wu_passes.proofs.AdoptingLemmas.{begins_over}
use Rattle.wu_report.specs.Writing.{WritesTo}
use Rattle.wu_arguments.specs.declared.refusal.Refusal.{Refusal}
use Rattle.wu_arguments.specs.declared.step.Script.{Script}
use Rattle.wu_cli.proofs.AcceptLemmas.{answers_clean, heard_clean, still_open}
use Rattle.wu_cli.specs.Exports.{SaysOfExport}
use Rattle.wu_cli.specs.Hearing.{Hears}
use Rattle.wu_cli.specs.Repeating.{commands_of_steps, unrolled}
use Rattle.wu_cli.specs.Scripting.{so_far}
use Rattle.wu_cli.specs.Sessions.{AnswersEach, AnswersHeard, DoesAsked, DoesHeard, ends_with, RunsSession, ready_line, ServesAdopted, ServesIf, ServesNothing, ServesOver}
use Rattle.wu_cli.specs.Troubles.{trouble_status}
use Rattle.wu_cli.specs.declared.line_trouble.LineTrouble.{LineTrouble}
use Rattle.wu_cli.specs.declared.trouble.Trouble.{Trouble}
use Rattle.wu_cli.proofs.ActionLemmas.{world_of, world_both, answer_both}
use Rattle.wu_process.specs.Asking.{may_hold}
use Rattle.wu_process.specs.Backups.{may_become}
use Rattle.wu_process.specs.Exports.{MakesExport}
use Rattle.wu_process.specs.Opening.{IsOpenedAt}
use Rattle.wu_process.specs.Serving.{EndsServed, ServesAt, ServesOpened}
use Rattle.wu_process.specs.declared.End.{End}
use Rattle.wu_process.specs.declared.database.LeftDatabase.{LeftDatabase}
use Rattle.wu_process.specs.declared.database.LeftDatabase.TheVariants as left
use Rattle.wu_stops.specs.Beginning.{HoldsWorld}
use Rattle.wu_stops.proofs.BeginningLemmas.{goes_from}
use Rattle.wu_process_laws.proofs.Leaving.{all_hold, begins_from, copied_each, leaves_its_work, hold_after, hold_one_more, unclosed_clean, unclosed_each}
use Rattle.wu_process_laws.specs.Runs.{HoldAfter, ImageRefines, LeavesAsItWas, OfEachImage, Holds, HoldAfterOneMore}
use Rattle.wu_process_laws.specs.SessionRuns.{AskedDid, AsksOfHeard, GoesOnFrom, InputDid, LeavesItsLines, LeavesSession, LineDid, LinesDid, BeginsWhereOneEnded, GoesFromFirst, ResumesAfter, LeavesItsLinesUnclosed, EndDid}

-- ---- the machine over two lists

-- what holds after so many of the second list, over the world after the first, holds of both
module _ (world : World) (first all : List Command) (image : Image) where
  after_both : (count : ℕ) → HoldAfter (world_of world first) all count image → HoldAfter world (first ++ all) (length first + count) image
  after_both count it =
      let same : world_after world (first ++ all) (length first + count) ≡ world_after (world_of world first) all count =
      ap (λ (cs : List Command). world_of world cs) (take-append-add first all count) ∙ world_both world first (take count all) in
      record {
        held = subst (λ (w : World). HoldsWorld image w) (sym same) it.held;
        project = subst (λ (w : World). IsProject w) (sym same) it.project;
      }

  more_after_both : (count : ℕ) → HoldAfterOneMore (world_of world first) all count image → HoldAfterOneMore world (first ++ all) (length first + count) image
  more_after_both count it = record {
    kept = length first + it.kept;
    within = omega (arith, it.within, length-append first all);
    has_done = omega (arith, it.has_done);
    at_most_one_more = omega (arith, it.at_most_one_more);
    after = after_both it.kept it.after;
  }

-- ---- what a line did

-- a session that goes on told the end of its answer whole
told_whole : (told : Result (Unit {0}) Fault) (ended : Bool) (done : Result Bool LineTrouble) → None ≡ ends_with told ended done → told ≡ Ok tt
told_whole (Ok told) ended done none = refl
told_whole (Err fault) ended done none = absurd (cc)

-- an input of which nothing was read
heard_none : (unread : Option (List ℕ)) → Hears unread unread []
heard_none None = tt
heard_none (Some bytes) = (bytes, refl, refl)

module _ {S : Type 0} {store : Ghosts S} where
  -- these commands were answered over a world, and the session goes on over the one after them
  record HasAnswered (world : World) (commands : List Command) (new : Project S store) : Type 0 where
    pub answers : List Answer
    pub answered : AnswerAll world commands answers
    pub over : IsOver new (world_of world commands)

  -- so, and then so many of these were done, and the session may have ended within the next one
  record HasDriven (world : World) (first all : List Command) (count : ℕ) (new : Project S store) : Type 0 where
    pub answers : List Answer
    pub answered : AnswerAll world first answers
    pub more : List Answer
    pub is_cut : Bool
    pub drives : Drives (world_of world first) all more (so_far count) is_cut (state_of new)

  answered_none : (project : Project S store) (world : World) → IsOver project world → HasAnswered world [] project
  answered_none project world over = record { answers = []; answered = tt; over = over }

  answered_both : (mid new : Project S store) (world : World) (xs ys : List Command) → HasAnswered world xs mid → HasAnswered (world_of world xs) ys new → HasAnswered world (xs ++ ys) new
  answered_both mid new world xs ys one two = record {
    answers = one.answers ++ two.answers;
    answered = answer_both world xs ys one.answers two.answers one.answered two.answered;
    over = subst (λ (w : World). IsOver new w) (sym (world_both world xs ys)) two.over;
  }

  -- over a world that the session goes on over, no command is done
  drives_none : (new : Project S store) (world : World) → IsOver new world → Drives world [] [] (so_far 0) false (state_of new)
  drives_none new world over = record {
    within = omega arith;
    answered = tt;
    end = λ fault told. absurd (cc);
    goes = λ still. over.goes;
    ended = λ ended. absurd (cc);
    project = over.is_project;
    cut_project = λ ended cut there. absurd (cc);
  }

  driven_all : (new : Project S store) (world : World) (commands : List Command) → HasAnswered world commands new → HasDriven world commands [] 0 new
  driven_all new world commands it = record { answers = it.answers; answered = it.answered; more = []; is_cut = false; drives = drives_none new (world_of world commands) it.over }

module _ {S W : Type 0} {store : Ghosts S} (contents : W → Option (List ℕ)) (gives : List ℕ → ℕ → Option (List ℕ) → Type 0) (exports : SaysOfExport) (db : List ℕ) where
  -- what a heard line asks for, and what was done of that
  asked_of : (old new : Project S store) (out_old out_new : W) (heard : Result (List ℕ) Refusal) (done : Result Bool LineTrouble) → DoesHeard contents gives exports db old new out_old out_new heard done
      → (asked : Result Script Refusal) × AsksOfHeard gives db heard asked × DoesAsked contents gives exports db old new out_old out_new asked done
  asked_of old new out_old out_new (Ok text) done does = does
  asked_of old new out_old out_new (Err why) done refused = (Err why, refl, refused)

  -- so many commands of a line were done, whatever ended it; if the session goes on, it does so over the world after them
  abbrev Driven : World → List Command → ℕ → Project S store → Type 0
  Driven world all count new =
      (answers : List Answer) × (is_cut : Bool) × Drives world all answers (so_far count) is_cut (state_of new) × (IsSessionOpen new → IsOver new (world_of world (take count all)))

  asked_did : (old new : Project S store) (out_old out_new : W) (asked : Result Script Refusal) (done : Result Bool LineTrouble) → DoesAsked contents gives exports db old new out_old out_new asked done
      → IsSessionOpen old → HasCleanDisk (state_of new) → (world : World) → IsOver old world
      → (all : List Command) × (count : ℕ) × AskedDid contents gives exports db world out_old out_new asked done (take count all) (drop count all) × Driven world all count new
  asked_did old new out_old out_new (Ok script) done (end, out_mid, does, then) going clean world over =
      let (ran, are, driven, on) = does.drives going clean world over in (
        commands_of_steps world (unrolled world ran),
        driven.count,
        (
          end,
          out_mid,
          record { ran = ran; are = are; count = driven.count; within = driven.drives.within; did = refl; left_out = refl; told = driven.told; whole = driven.whole },
          then,
        ),
        (driven.answers, driven.is_cut, driven.drives, on),
      )
  asked_did old new out_old out_new (Err why) done (is, same, unwritten) going clean world over =
      let here : IsOver new world = subst (λ (p : Project S store). IsOver p world) (sym same) over in
      ([], 0, (is, refl, refl, unwritten), ([], false, drives_none new world here, λ still. here))

  line_did : (old new : Project S store) (out_old out_new : W) (heard : Result (List ℕ) Refusal) (ends : Option ℕ) (it : AnswersHeard contents gives exports db old new out_old out_new heard ends)
      → IsSessionOpen old → HasCleanDisk (state_of new) → (world : World) → IsOver old world
      → (all : List Command) × (count : ℕ) × LineDid contents gives exports db world out_old out_new heard (take count all) (drop count all) it.told × Driven world all count new
  line_did old new out_old out_new heard ends it going clean world over =
      let (asked, asks, does) = asked_of old new out_old it.out_done heard it.done it.does in
      let (all, count, did, driven) = asked_did old new out_old it.out_done asked it.done does going clean world over in
      (all, count, record { asked = asked; asks = asks; done = it.done; out_done = it.out_done; does = did; wrote = it.wrote }, driven)

  -- ---- line by line

  each_open : (old new : Project S store) (out_old out_new : W) (heard : List (Result (List ℕ) Refusal)) → AnswersEach contents gives exports db old new out_old out_new heard → IsSessionOpen old → IsSessionOpen new
  unfolding AnswersEach
  each_open old new out_old out_new [] each going = subst (λ (p : Project S store). IsSessionOpen p) (sym each.0) going
  each_open old new out_old out_new (one ∷ more) each going = each_open each.0 new each.1 out_new more each.3 (still_open contents gives exports db old each.0 out_old each.1 one each.2)

  lines_did : (old new : Project S store) (out_old out_new : W) (heard : List (Result (List ℕ) Refusal)) → AnswersEach contents gives exports db old new out_old out_new heard
      → IsSessionOpen old → HasCleanDisk (state_of new) → (world : World) → IsOver old world
      → (commands : List Command) × LinesDid contents gives exports db world out_old out_new heard commands × HasAnswered world commands new
  unfolding AnswersEach
  lines_did old new out_old out_new [] each going clean world over = ([], (refl, each.1), answered_none new world (subst (λ (p : Project S store). IsOver p world) (sym each.0) over))
  lines_did old new out_old out_new (one ∷ more) each going clean world over =
      let kept = answers_clean contents gives exports db each.0 new each.1 out_new more each.3 in
      let before : HasCleanDisk (state_of each.0) = omega (arith, kept, clean) in
      let opened = still_open contents gives exports db old each.0 out_old each.1 one each.2 in
      let (all, count, did, (answers, is_cut, drives, on)) = line_did old each.0 out_old each.1 one None each.2 going before world over in
      let here : HasAnswered world (take count all) each.0 = record { answers = answers; answered = drives.answered; over = on opened } in
      let (rest, others, has) = lines_did each.0 new each.1 out_new more each.3 opened clean (world_of world (take count all)) here.over in
      let whole : LineDid contents gives exports db world out_old each.1 one (take count all) (drop count all) (Ok tt) =
      subst (λ (t : Result (Unit {0}) Fault). LineDid contents gives exports db world out_old each.1 one (take count all) (drop count all) t) (told_whole each.2.told (has_ended each.0) each.2.done each.2.next) did in
      (take count all ++ rest, (take count all, drop count all, rest, each.1, whole, others, refl), answered_both each.0 new world (take count all) rest here has)

  -- ---- all lines of an input

  abbrev HasServed : World → W → W → Option (List ℕ) → Option (List ℕ) → Project S store → Type 0
  HasServed world out_old out_new in_old in_new new =
      (first : List Command) × (all : List Command) × (count : ℕ) × InputDid contents gives exports db world out_old out_new in_old in_new (first ++ take count all) (drop count all) × HasDriven world first all count new

  last_clean : (mid new : Project S store) (out_mid out_new : W) (last : Result (List ℕ) Refusal) (ends : Option ℕ) → AnswersHeard contents gives exports db mid new out_mid out_new last ends → FaultsOnlyGrow (state_of mid) (state_of new)
  last_clean mid new out_mid out_new last ends it = heard_clean contents gives exports db mid new out_mid it.out_done last it.done it.does

  -- the lines did these, and the input ended so
  input_of : (world : World) (old new : Project S store) (out_old out_new : W) (in_old in_new : Option (List ℕ)) (status : ℕ) (runs : RunsSession contents gives exports db old new out_old out_new in_old in_new status)
      → (first last undone : List Command) → LinesDid contents gives exports db world out_old runs.out_mid runs.heard first
      → EndDid contents gives exports db (world_of world first) runs.out_mid out_new runs.in_mid in_new last undone → InputDid contents gives exports db world out_old out_new in_old in_new (first ++ last) undone
  input_of world old new out_old out_new in_old in_new status runs first last undone each end = record {
    heard = runs.heard;
    in_mid = runs.in_mid;
    hears = runs.hears;
    first = first;
    out_mid = runs.out_mid;
    each = each;
    last = last;
    end = end;
    all = refl;
  }

  input_did : (old new : Project S store) (out_old out_new : W) (in_old in_new : Option (List ℕ)) (status : ℕ) → RunsSession contents gives exports db old new out_old out_new in_old in_new status
      → IsSessionOpen old → HasCleanDisk (state_of new) → (world : World) → IsOver old world → HasServed world out_old out_new in_old in_new new
  input_did old new out_old out_new in_old in_new status runs going clean world over = elim runs.end [
    | inl ends ↦
        let before : HasCleanDisk (state_of runs.mid) = subst (λ (p : Project S store). HasCleanDisk (state_of p)) ends.same clean in
        let (first, did, has) = lines_did old runs.mid out_old runs.out_mid runs.heard runs.each going before world over in (
          first,
          [],
          0,
          input_of world old new out_old out_new in_old in_new status runs first [] [] did (inl (refl, refl, ends.unwritten, ends.nothing)),
          subst (λ (p : Project S store). HasDriven world first [] 0 p) (sym ends.same) (driven_all runs.mid world first has),
        )
    | inr ends ↦
        let kept = last_clean runs.mid new runs.out_mid out_new ends.last ends.ends ends.answered in
        let before : HasCleanDisk (state_of runs.mid) = omega (arith, kept, clean) in
        let (first, did, has) = lines_did old runs.mid out_old runs.out_mid runs.heard runs.each going before world over in
        let opened = each_open old runs.mid out_old runs.out_mid runs.heard runs.each going in
        let (all, count, ended, (answers, is_cut, drives, on)) = line_did runs.mid new runs.out_mid out_new ends.last ends.ends ends.answered opened clean (world_of world first) has.over in (
          first,
          all,
          count,
          input_of world old new out_old out_new in_old in_new status runs first (take count all) (drop count all) did (inr (record {
            last = ends.last;
            told = ends.answered.told;
            did = ended;
            heard = elim ends.heard [
              | inl next ↦ inl next.0
              | inr unread ↦ inr (unread.0, unread.1, unread.2)
            ];
          })),
          record { answers = has.answers; answered = has.answered; more = answers; is_cut = is_cut; drives = drives },
        )
  ]

  -- where the first line did not go out, no line was heard
  if_did : (told : Result (Unit {0}) Fault) (old new : Project S store) (out_old out_new : W) (in_old in_new : Option (List ℕ)) (status : ℕ) → ServesIf contents gives exports db told old new out_old out_new in_old in_new status
      → IsSessionOpen old → HasCleanDisk (state_of new) → (world : World) → IsOver old world → HasServed world out_old out_new in_old in_new new
  if_did (Ok told) old new out_old out_new in_old in_new status runs going clean world over = input_did old new out_old out_new in_old in_new status runs going clean world over
  if_did (Err fault) old new out_old out_new in_old in_new status ends going clean world over = (
    [],
    [],
    0,
    record {
      heard = [];
      in_mid = in_old;
      hears = heard_none in_old;
      first = [];
      out_mid = out_old;
      each = (refl, refl);
      last = [];
      end = inl (refl, refl, ends.unwritten, subst (λ i. Hears in_old i []) (sym ends.unread) (heard_none in_old));
      all = refl;
    },
    driven_all new world [] (answered_none new world (subst (λ (p : Project S store). IsOver p world) (sym ends.same) over)),
  )

  if_clean : (told : Result (Unit {0}) Fault) (old new : Project S store) (out_old out_new : W) (in_old in_new : Option (List ℕ)) (status : ℕ) → ServesIf contents gives exports db told old new out_old out_new in_old in_new status
      → FaultsOnlyGrow (state_of old) (state_of new)
  if_clean (Ok told) old new out_old out_new in_old in_new status runs =
      let lines = answers_clean contents gives exports db old runs.mid out_old runs.out_mid runs.heard runs.each in
      elim runs.end [
        | inl ends ↦ subst (λ (p : Project S store). FaultsOnlyGrow (state_of old) (state_of p)) (sym ends.same) lines
        | inr ends ↦
            let last = last_clean runs.mid new runs.out_mid out_new ends.last ends.ends ends.answered in
            let both : FaultsOnlyGrow (state_of old) (state_of new) = omega (arith, lines, last) in both
      ]
  if_clean (Err fault) old new out_old out_new in_old in_new status ends = subst (λ (p : Project S store). FaultsOnlyGrow (state_of old) (state_of p)) (sym ends.same) (omega arith)

-- ---- what a session leaves

-- the status is that of the trouble that kept it from its first line
served_status : {D E : Type 0} {g : DiskGhosts D} (told_of : E → Option (List ℕ)) (err_old err_new : E) (done : Result ℕ Trouble) (leaves : Option (LeftDatabase D g)) (end : End D g)
    → EndsServed told_of err_old err_new done leaves end → IfErr done (λ t. end.status ≡ trouble_status t)
served_status told_of err_old err_new (Ok status) leaves end ends = tt
served_status told_of err_old err_new (Err t) leaves end ends = ends.tells.0

module _ {S W : Type 0} {c : calls.Ghosts Host} {s : start.Ghosts S} {g : DiskGhosts (Modelled Host S c s)} (stays : SeenMayStay g) (contents : W → Option (List ℕ)) (gives : List ℕ → ℕ → Option (List ℕ) → Type 0) (exports : SaysOfExport) (path : List ℕ)
    (conn again : Held (FileStore (Modelled Host S c s) g)) (old new : W) (in_old in_new : Option (List ℕ)) (files : Files (Modelled Host S c s)) (at : IsOpenedAt path (image_at s) conn) (clean : HasCleanDisk (file_state again))
    (each : OfEachImage g files (λ image. (db : Trees) × (file_state again).may_leave db × HoldsDatabase image db)) (says : Holds)
    (both : (world : World) (first all : List Command) (image : Image) (count : ℕ) → says (world_of world first) all count image → says world (first ++ all) (length first + count) image)
    (hold : (world : World) (commands : List Command) (answers : List Answer) (count : ℕ) (is_cut : Bool) → Drives world commands answers (so_far count) is_cut (file_state again) → OfEachImage g files (says world commands count)) where
  session_left : (status : ℕ) → ServesAdopted over_files contents gives exports path conn again old new in_old in_new status → (world : World) → IsProject world → ImageRefines (image_at s) world
      → LeavesSession g files says contents gives exports path world old new in_old in_new
  session_left status it world project start =
      let after : HasCleanDisk (state_of it.new) = subst (λ (h : Held (FileStore (Modelled Host S c s) g)). HasCleanDisk (file_state h)) it.released clean in
      let kept = if_clean contents gives exports path it.serves.told it.old it.new it.serves.out_ready new in_old in_new status it.serves.serves in
      let began : HasCleanDisk (state_of it.old) = omega (arith, kept, after) in
      let early : HasCleanDisk (file_state conn) = omega (arith, began, it.begins.adopts.clean) in
      let opened : IsOpened conn = at.opens early in
      let found : FindsIn (image_at s) (file_state conn) = at.finds early in
      let over : IsOver it.old world = begins_over over_files conn it.old it.begins began world project (begins_from stays conn opened (image_at s) found world start) in
      let (first, all, count, did, has) = if_did contents gives exports path it.serves.told it.old it.new it.serves.out_ready new in_old in_new status it.serves.serves it.begins.going after world over in
      let drives = subst (λ (h : Held (FileStore (Modelled Host S c s) g)). Drives (world_of world first) all has.more (so_far count) has.is_cut (file_state h)) (sym it.released) has.drives in
      let whole : first ++ all ≡ (first ++ take count all) ++ drop count all =
      ap (λ (l : List Command). first ++ l) (sym (take-append-drop count all)) ∙ sym (append_assoc first (take count all) (drop count all)) in
      let long : length first + count ≡ length (first ++ take count all) =
      ap (λ (n : ℕ). length first + n) (sym (length-take-le count all has.drives.within)) ∙ sym (length-append first (take count all)) in
      record {
        is_new = is_new_project it.old;
        out_ready = it.serves.out_ready;
        told = it.serves.told;
        ready = subst (λ (older : Option ℕ). WritesTo contents old it.serves.out_ready (ready_line older (is_new_project it.old)) it.serves.told) over.version it.serves.wrote;
        commands = first ++ take count all;
        undone = drop count all;
        did = did;
        answers = has.answers ++ has.more;
        answered = answer_both world first (take count all) has.answers has.more has.answered has.drives.answered;
        held = λ image may. ∥∥₁_map (hold (world_of world first) all has.more count has.is_cut drives image may) (λ held.
            subst (λ (n : ℕ). says world ((first ++ take count all) ++ drop count all) n image) long
            (subst (λ (cs : List Command). says world cs (length first + count) image) whole (both world first all image count held)));
      }

  -- or the files hold what they held
  nothing_left : (t : Trouble) (status : ℕ) → ServesNothing over_files contents gives exports path conn again old new in_old in_new t → status ≡ trouble_status t → (world : World)
      → LeavesAsItWas g files (image_at s) (contents old) (contents new) world status
  nothing_left t status none has world =
      let early : HasCleanDisk (file_state conn) = omega (arith, clean, none.refused.clean) in
      record {
        fault = none.fault;
        told = has ∙ ap (λ (t : Trouble). trouble_status t) none.told_is;
        why = none.refused.told;
        unwritten = ap contents none.unwritten;
        held = λ held. all_hold again files each world ((none.refused.given clean).goes world (goes_from conn (at.opens early) (image_at s) (at.finds early) stays world held));
      }

  served_left : (done : Result ℕ Trouble) (status : ℕ) → ServesOver over_files contents gives exports path conn again old new in_old in_new done → IfErr done (λ t. status ≡ trouble_status t)
      → (world : World) → IsProject world → ImageRefines (image_at s) world
      → LeavesSession g files says contents gives exports path world old new in_old in_new ⊎ LeavesAsItWas g files (image_at s) (contents old) (contents new) world status
  served_left (Ok ended) status it has world project start = inl (session_left ended it world project start)
  served_left (Err t) status none has world project start = inr (nothing_left t status none has world)

module _ {S W E : Type 0} {c : calls.Ghosts Host} {s : start.Ghosts S} {g : DiskGhosts (Modelled Host S c s)} (stays : SeenMayStay g) (contents : W → Option (List ℕ)) (told_of : E → Option (List ℕ)) where
  pub leaves_its_lines : (end : End (Modelled Host S c s) g) → LeavesItsLines contents told_of end
  leaves_its_lines end it honest world project start =
      let run = it.run in
      let session = run.session in
      let opens : ServesOpened {g = g} contents session.path run.old run.new run.in_old run.in_new session.done (left.Closed it.files) =
      subst (λ l. ServesAt {g = g} contents session.path run.old run.new run.in_old run.in_new session.done l) it.closed session.runs in
      let copied : IsCopied opens.again it.files = opens.closed.copied honest in
      let each = copied_each opens.again it.files stays copied in
      served_left stays contents may_hold (MakesExport may_become may_become) session.path opens.conn opens.again run.old run.new run.in_old run.in_new it.files opens.opened copied.was_clean each
      HoldAfter after_both (hold_after opens.again it.files each copied.was_open) session.done end.status opens.serves (served_status told_of session.err_mid run.err_new session.done end.left end session.ends) world project start

  pub leaves_its_lines_unclosed : (end : End (Modelled Host S c s) g) → LeavesItsLinesUnclosed contents told_of end
  leaves_its_lines_unclosed end it honest world project start =
      let run = it.run in
      let session = run.session in
      let opens : ServesOpened {g = g} contents session.path run.old run.new run.in_old run.in_new session.done (left.Unclosed it.close.error it.close.store) =
      subst (λ l. ServesAt {g = g} contents session.path run.old run.new run.in_old run.in_new session.done l) it.close.unclosed session.runs in
      let each = unclosed_each opens.again it.close.store opens.closed.quiet it.close.numbered it.close.files it.close.files_are honest in
      served_left stays contents may_hold (MakesExport may_become may_become) session.path opens.conn opens.again run.old run.new run.in_old run.in_new it.close.files opens.opened
      (unclosed_clean opens.again it.close.store opens.closed.quiet it.close.numbered it.close.files it.close.files_are honest) each
      HoldAfterOneMore more_after_both (hold_one_more opens.again it.close.files each) session.done end.status opens.serves (served_status told_of session.err_mid run.err_new session.done end.left end session.ends) world project start

-- ---- one after another

module _ {S T W E : Type 0} {c d : calls.Ghosts Host} {s : start.Ghosts S} {t : start.Ghosts T} {g : DiskGhosts (Modelled Host S c s)} {h : DiskGhosts (Modelled Host T d t)} (still : SeenMayStay h)
    (contents : W → Option (List ℕ)) (told_of : E → Option (List ℕ)) (first : End (Modelled Host S c s) g) (second : End (Modelled Host T d t) h) where
  -- a run over files that hold a world goes on from it
  goes_on_from : (world : World) → IsProject world → HoldsWorld (image_at t) world → GoesOnFrom contents told_of first second world
  goes_on_from world project held = record {
    line = λ two honest. leaves_its_work still contents told_of second two honest world project (inl held);
    session = λ two honest. leaves_its_lines still contents told_of second two honest world project (inl held);
  }

  -- or from one that may have one command more
  goes_on_after : (world : World) (commands : List Command) (count : ℕ) → HoldAfterOneMore world commands count (image_at t) → ResumesAfter contents told_of first second world commands count
  goes_on_after world commands count it = record {
    kept = it.kept;
    within = it.within;
    has_done = it.has_done;
    at_most_one_more = it.at_most_one_more;
    next = goes_on_from _ it.after.project it.after.held;
  }

  from_first : (files : Files (Modelled Host S c s)) (before after : Option (List ℕ)) → outcomes g files.log files.db (image_at t) → GoesFromFirst contents told_of first second files before after
  from_first files before after may world project held it = ∥∥₁_map (it.held held (image_at t) may) (λ there. goes_on_from world project there)

  pub begins_where_one_ended : BeginsWhereOneEnded contents told_of first second
  begins_where_one_ended = record {
    after_run = λ one may. record {
      done = λ world it. ∥∥₁_map (it.held (image_at t) may) (λ after. goes_on_from _ after.project after.held);
      kept = from_first one.files _ _ may;
    };
    after_stopped_run = λ one may. record {
      done = λ world it. ∥∥₁_map (it.held (image_at t) may) (goes_on_after world _ _);
      kept = from_first one.close.files _ _ may;
    };
    after_session = λ one may. record {
      done = λ world it. ∥∥₁_map (it.held (image_at t) may) (λ after. goes_on_from _ after.project after.held);
      kept = from_first one.files _ _ may;
    };
    after_stopped_session = λ one may. record {
      done = λ world it. ∥∥₁_map (it.held (image_at t) may) (goes_on_after world _ _);
      kept = from_first one.close.files _ _ may;
    };
  }
