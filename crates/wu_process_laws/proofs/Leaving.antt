-- From what a run found to what it left.
use Rattle.std.proofs.Common.{◌≡◌, ◌⊎◌, ℕ, ◌+◌, true, false, Bool, List, [], length, None, Option, Some, Result, Ok, Err, inl, inr, refl, sym, ap, subst, ◌∙◌, arith, IsTrue}
use Rattle.std.proofs.Math.Logic.{∥∥₁_map}
use Rattle.std.proofs.lemmas.Option.{slice_get_within}
use Rattle.std.specs.Prelude.{IfErr, OnOk}
use Rattle.sqlite_disk.specs.declared.Disk.{Ghosts}
use Rattle.sqlite_disk.specs.declared.Files.{Files}
use Rattle.sqlite_wal.proofs.LogLemmas.{SeenMayStay}
use Rattle.sqlite_wal.specs.Files.{outcomes}
use Rattle.sqlite_wal.specs.Reads.{AreClean}
use Rattle.sqlite_wal.specs.Recovery.{Image}
use Rattle.sqlite_pool.proofs.StateLemmas.{clean_is, may_leave_is}
use Rattle.sqlite_trees.proofs.Doubt.{no_doubt}
use Rattle.sqlite_trees.specs.View.{IsClean}
use Rattle.sqlite_store.specs.FileStore.{state, view, files as store_files}
use Rattle.sqlite_store.specs.Laws.{stays_at}
use Rattle.sqlite_store.specs.declared.store.FileStore.{FileStore}
use Rattle.sqlite.specs.Closing.{IsCopied}
use Rattle.sqlite.proofs.Theorems.{opens_again}
use Rattle.sqlite.specs.Files.{HoldsDatabase, IsClosed, IsOpened, file_state, over_files}
use Rattle.sqlite.specs.Held.{Held}
use Rattle.sqlite.specs.Start.{FindsIn}
use Rattle.sqlite.specs.State.{HasCleanDisk}
use Rattle.sqlite.specs.Tree.{Trees}
use Rattle.wu_core.specs.World.{World}
use Rattle.wu_core.specs.declared.fault.Fault.{Fault}
use Rattle.wu_drive.specs.Driving.{Drives, world_after}
use Rattle.wu_machine.specs.declared.command.Command.{Command}
use Rattle.wu_machine.specs.Sound.{IsProject}
use Rattle.wu_machine.specs.declared.command.Answer.{Answer}
use Rattle.wu_passes.specs.Adopting.{BeginsFrom}
use Rattle.wu_passes.specs.Committing.{FoundAs}
use Rattle.wu_passes.specs.Projects.{has_ended, state_of}
use Rattle.wu_passes.specs.Standing.{GoesOn}
use Rattle.wu_arguments.specs.Statuses.{fault_status}
use Rattle.wu_arguments.specs.declared.action.Action.{Action}
use Rattle.wu_arguments.specs.declared.action.Action.TheVariants.{Commands, Look, Refused}
use Rattle.wu_arguments.specs.declared.step.LineFault.{LineFault}
use Rattle.wu_cli.specs.Trying.{RanStep}
use Rattle.wu_cli.specs.Scripting.{so_far}
use Rattle.wu_cli.specs.Troubles.{trouble_status}
use Rattle.wu_cli.specs.Working.{commands_of_work, DoesAdopted, BeginsNothing, DoesOver, DrivesWork, line_outcome, RefusesWork, script_outcome}
use Rattle.wu_cli.specs.Printing.{printed_action}
use Rattle.wu_cli.proofs.PrintLemmas.{one_prints}
use Rattle.wu_cli.proofs.ScriptLemmas.{script_clean}
use Rattle.wu_cli.proofs.TellingLemmas.{drives_script}
use Rattle.wu_cli.proofs.WorkLemmas.{line_whole, script_whole, work_clean, work_drives}
use Rattle.wu_passes.proofs.SessionLemmas.{over_shows}
use Rattle.wu_passes.proofs.AdoptingLemmas.{begins_over}
use Rattle.wu_report.specs.Writing.{WritesTo}
use Rattle.wu_arguments.specs.declared.step.Script.{Script}
use Rattle.std.proofs.Math.Seq.{take-length}
use Rattle.std.specs.Io.KnownBytes.{Appends}
use Rattle.wu_cli.specs.declared.trouble.Trouble.{Trouble}
use Rattle.wu_cli.specs.declared.trouble.Trouble.TheVariants as trouble
use Rattle.wu_cli.specs.declared.work.Work.{Work}
use Rattle.wu_cli.specs.declared.work.Work.TheVariants as work
use Rattle.sqlite_disk.specs.declared.calls.Calls as calls
use Rattle.sqlite_disk.specs.declared.modelled.Modelled.{Modelled}
use Rattle.sqlite_disk.specs.declared.start.Start as start
use Rattle.sqlite_std_file.specs.declared.host.Host.{Host}
use Rattle.sqlite_wal.specs.Files.{image_at}
use Rattle.wu_stops.specs.Closing.{IsNumbered}
use Rattle.wu_stops.specs.Beginning.{HoldsWorld}
use Rattle.wu_stops.proofs.BeginningLemmas.{goes_from, blank_vacant}
use Rattle.wu_process.specs.Opening.{IsOpenedAt}
use Rattle.wu_process.specs.Running.{ExportsIfDone, TellsTrouble}
use Rattle.wu_process.specs.declared.End.{End}
use Rattle.wu_process.specs.declared.database.LeftDatabase.TheVariants as left
use Rattle.wu_process_laws.specs.Runs.{done_by, done_by_unclosed, HoldAfter, HoldAfterOneMore, Holds, LeavesAsItWas, LeavesDone, LeavesItsWork, LeavesItsWorkUnclosed, OfEachImage, ImageRefines, TellsDone, TellsText}
use Rattle.wu_lives.proofs.ReopeningLemmas.{next_world}

-- ---- statuses

trouble_told : (t : Trouble) → trouble_status t ≡ 0 → ⊥
trouble_told t none = grind arith

-- the status is that of the trouble, where there is one
abbrev HasStatus : Result (Unit {0}) Trouble → ℕ → Type 0
HasStatus done status = IfErr done (λ t. status ≡ trouble_status t)

-- with status 0 there was no trouble
whole_at : (done : Result (Unit {0}) Trouble) (status : ℕ) (A : Type 0) → HasStatus done status → OnOk done A → status ≡ 0 → A
whole_at (Ok done) status A has whole none = whole
whole_at (Err t) status A has whole none = absurd (trouble_told t (sym has ∙ none))

done_at : (done : Result (Unit {0}) Trouble) (status : ℕ) → HasStatus done status → status ≡ 0 → done ≡ Ok tt
done_at (Ok done) status has none = refl
done_at (Err t) status has none = absurd (trouble_told t (sym has ∙ none))

status_at : (done : Result (Unit {0}) Trouble) (status : ℕ) (f : Fault) → HasStatus done status → done ≡ Err (trouble.Fault f) → status ≡ fault_status f
status_at done status f has told = subst (λ (d : Result (Unit {0}) Trouble). HasStatus d status) told has

-- the trouble of what comes before the exports ends the run
first_status : {V W : Type 0} (contents : V → Option (List ℕ)) (path : List ℕ) (asked : Work) (old new : V) (told_of : W → Option (List ℕ)) (err_old err_new : W) (first done : Result (Unit {0}) Trouble) (status : ℕ) (is_told : Bool)
    → ExportsIfDone contents path asked old new first done → TellsTrouble told_of err_old err_new done status is_told → HasStatus first status
first_status contents path asked old new told_of err_old err_new (Ok it) done status is_told exports tells = tt
first_status contents path asked old new told_of err_old err_new (Err t) done status is_told (told, unwritten) tells =
    (subst (λ (d : Result (Unit {0}) Trouble). TellsTrouble told_of err_old err_new d status is_told) told tells).0

-- ---- what is doubted of the disk stays doubted through a run

was_clean : {D W : Type 0} {g : Ghosts D} (contents : W → Option (List ℕ)) (conn again : Held (FileStore D g)) (old new : W) (asked : Work) (done : Result (Unit {0}) Trouble)
    → DoesOver over_files contents conn again old new asked done → HasCleanDisk (file_state again) → HasCleanDisk (file_state conn)
was_clean contents conn again old new asked done (inl does) clean =
    let after : HasCleanDisk (state_of does.new) = subst (λ c. HasCleanDisk (file_state c)) does.released clean in
    let kept = work_clean contents does.old does.new old new asked done does.does in
    omega (arith, kept, after, does.begins.adopts.clean)
was_clean contents conn again old new asked done (inr none) clean = omega (arith, clean, none.refused.clean)

-- ---- what was told of the work

-- what ended without a trouble ended without a fault
line_ended : (end : Option Fault) → line_outcome end ≡ Ok tt → end ≡ None
line_ended None is = refl
line_ended (Some fault) is = absurd cc

script_ended : (end : Option LineFault) → script_outcome end ≡ Ok tt → end ≡ None
script_ended None is = refl
script_ended (Some end) is = absurd cc

-- and what is told with success is told with what follows from that
tells_at : {A B : Type 0} (before after : Option (List ℕ)) (world : World) (asked : Work) (ran : List RanStep) (answers : List Answer) (count : ℕ) → (B → A)
    → TellsDone before after A world asked ran answers count → TellsDone before after B world asked ran answers count
tells_at before after world (work.Line (Commands commands)) ran answers count then (end, whole, written) = (end, λ b. whole (then b), written)
tells_at before after world (work.Line (Look view)) ran answers count then (part, whole) = (part, λ b. whole (then b))
tells_at before after world (work.Line (Refused fault)) ran answers count then (part, whole) = (part, λ b. whole (then b))
tells_at before after world (work.Script script) ran answers count then (end, whole, told) = (end, λ b. whole (then b), told)

module _ {D W : Type 0} {g : Ghosts D} (contents : W → Option (List ℕ)) (conn again : Held (FileStore D g)) (old new : W) (done : Result (Unit {0}) Trouble) where
  abbrev ToldWork : World → Work → Type 0
  ToldWork world asked = (it : DrivesWork world asked done (file_state again)) × TellsDone (contents old) (contents new) (done ≡ Ok tt) world asked it.ran it.answers it.count

  -- a line of commands was done over an adopted project
  line_told : (commands : List Command) (does : DoesAdopted over_files contents conn again old new (work.Line (Commands commands)) done) → HasCleanDisk (file_state again) → (world : World) → IsProject world
      → BeginsFrom (file_state conn) world → ToldWork world (work.Line (Commands commands))
  line_told commands does clean world project begun =
      let (end, (run, runs, is), told) = does.does in
      let (answers, written, driven, driven_from) = runs.answers in
      let after : HasCleanDisk (state_of does.new) = subst (λ c. HasCleanDisk (file_state c)) does.released clean in
      let before : HasCleanDisk (state_of does.old) = let kept = runs.clean in omega (arith, kept, after) in
      let over = begins_over over_files conn does.old does.begins before world project begun in
      let drives = driven does.begins.going after world over in
      let it : Drives world commands answers (so_far run.acknowledged) (has_ended does.new) (state_of does.new) = record {
        within = drives.within;
        answered = drives.answered;
        end = λ fault told. absurd (cc);
        goes = drives.goes;
        ended = drives.ended;
        project = drives.project;
        cut_project = drives.cut_project;
      } in
      let whole : OnOk done (run.acknowledged ≡ length commands) = subst (λ (d : Result (Unit {0}) Trouble). OnOk d (run.acknowledged ≡ length commands)) (sym told) (line_whole end _ (λ none. runs.all (is ∙ none))) in (
        record {
          ran = [];
          are = refl;
          count = run.acknowledged;
          answers = answers;
          is_cut = has_ended does.new;
          drives = subst (λ c. Drives world commands answers (so_far run.acknowledged) (has_ended does.new) (file_state c)) (sym does.released) it;
          whole = whole;
        },
        (run.end, λ ok. is ∙ line_ended end (sym told ∙ ok), written),
      )

  -- a script was
  script_told : (script : Script) (does : DoesAdopted over_files contents conn again old new (work.Script script) done) → HasCleanDisk (file_state again) → (world : World) → IsProject world
      → BeginsFrom (file_state conn) world → ToldWork world (work.Script script)
  script_told script does clean world project begun =
      let (end, performs, told) = does.does in
      let after : HasCleanDisk (state_of does.new) = subst (λ c. HasCleanDisk (file_state c)) does.released clean in
      let before : HasCleanDisk (state_of does.old) = let kept = script_clean contents does.old does.new old new script.steps end performs in omega (arith, kept, after) in
      let over = begins_over over_files conn does.old does.begins before world project begun in
      let (ran, are, driven, on) = drives_script contents does.old does.new old new script.steps end performs does.begins.going after world over in
      let commands = commands_of_work world (work.Script script) ran in
      let whole : OnOk done (driven.count ≡ length commands) = subst (λ (d : Result (Unit {0}) Trouble). OnOk d (driven.count ≡ length commands)) (sym told) (script_whole end _ driven.whole) in (
        record {
          ran = ran;
          are = are;
          count = driven.count;
          answers = driven.answers;
          is_cut = driven.is_cut;
          drives = subst (λ c. Drives world commands driven.answers (so_far driven.count) driven.is_cut (file_state c)) (sym does.released) driven.drives;
          whole = whole;
        },
        (end, λ ok. script_ended end (sym told ∙ ok), driven.told),
      )

  -- of an action at least a part of its text went out, and with success all of it
  text_told : (action : Action) (does : DoesAdopted over_files contents conn again old new (work.Line action) done) → HasCleanDisk (file_state again) → (world : World) → IsProject world
      → BeginsFrom (file_state conn) world → DrivesWork world (work.Line action) done (file_state again) × TellsText (contents old) (contents new) (done ≡ Ok tt) (printed_action world action)
  text_told action does clean world project begun =
      let (end, acts, told) = does.does in
      let after : HasCleanDisk (state_of does.new) = subst (λ c. HasCleanDisk (file_state c)) does.released clean in
      let before : HasCleanDisk (state_of does.old) = let kept = work_clean contents does.old does.new old new (work.Line action) done does.does in omega (arith, kept, after) in
      let over = begins_over over_files conn does.old does.begins before world project begun in
      let drives = work_drives contents does.old does.new old new (work.Line action) done does.does does.begins.going after world over in
      let writes = subst (λ (d : Result (Unit {0}) Trouble). WritesTo contents old new (printed_action world action) d) (sym told)
      (one_prints contents does.old does.new old new action end acts does.begins.going after world (over_shows does.old world over)) in
      (subst (λ c. DrivesWork world (work.Line action) done (file_state c)) (sym does.released) drives, text_of done writes)
    where
      text : List ℕ
      text = printed_action world action

      text_of : (d : Result (Unit {0}) Trouble) → WritesTo contents old new text d → TellsText (contents old) (contents new) (d ≡ Ok tt) text
      text_of (Ok it) whole = ((length text, subst (Appends (contents old) (contents new)) (sym (take-length text)) whole), λ _. whole)
      text_of (Err why) part = (part, λ is. absurd cc)

  abbrev RefusedWork : World → Type 0
  RefusedWork world = RefusesWork (file_state conn) (file_state again) world done × (contents new ≡ contents old)

  nothing_told : (asked : Work) → BeginsNothing over_files contents conn again old new asked done → HasCleanDisk (file_state again) → (world : World) → RefusedWork world
  nothing_told asked none clean world = (
    record {
      fault = none.fault;
      told = none.told;
      why = none.refused.told;
      stands = (none.refused.given clean).goes world;
    },
    ap contents none.unwritten,
  )

  work_told : (asked : Work) → DoesOver over_files contents conn again old new asked done → HasCleanDisk (file_state again) → (world : World) → IsProject world
      → BeginsFrom (file_state conn) world → ToldWork world asked ⊎ RefusedWork world
  work_told asked (inr none) clean world project begun = inr (nothing_told asked none clean world)
  work_told (work.Line (Commands commands)) (inl does) clean world project begun = inl (line_told commands does clean world project begun)
  work_told (work.Line (Look view)) (inl does) clean world project begun = inl (text_told (Look view) does clean world project begun)
  work_told (work.Line (Refused fault)) (inl does) clean world project begun = inl (text_told (Refused fault) does clean world project begun)
  work_told (work.Script script) (inl does) clean world project begun = inl (script_told script does clean world project begun)

-- ---- what a run begins with

module _ {D : Type 0} {g : Ghosts D} (stays : SeenMayStay g) (conn : Held (FileStore D g)) (opened : IsOpened conn) (image : Image) (found : FindsIn image (file_state conn)) where
  pub begins_from : (world : World) → ImageRefines image world → BeginsFrom (file_state conn) world
  begins_from world (inl held) = inl (goes_from conn opened image found stays world held)
  begins_from world (inr (blank, same)) = inr (blank_vacant conn opened image found blank, same)

-- ---- what it leaves

-- each image that a stop may leave of the files holds tables that it may leave of the connection
module _ {D : Type 0} {g : Ghosts D} (again : Held (FileStore D g)) (files : Files D)
    (each : OfEachImage g files (λ image. (db : Trees) × (file_state again).may_leave db × HoldsDatabase image db)) where
  pub all_hold : (world : World) → GoesOn (file_state again) world → OfEachImage g files (λ image. HoldsWorld image world)
  all_hold world goes image may = ∥∥₁_map (each image may) (λ it.
      let held : HoldsWorld image world = record { trees = it.0; holds = it.2; found = goes.left it.0 it.1 } in held)

  -- a session that ended within a command left the connection open, so the world of before that is committed
  pub hold_after : IsTrue (file_state again).is_open → (world : World) (commands : List Command) (answers : List Answer) (count : ℕ) (is_cut : Bool)
      → Drives world commands answers (so_far count) is_cut (file_state again) → OfEachImage g files (HoldAfter world commands count)
  hold_after is_open world commands answers count is_cut drives image may = ∥∥₁_map (all_hold (world_after world commands count) (goes is_cut drives) image may) (λ held.
      let it : HoldAfter world commands count image = record { held = held; project = drives.project } in it)
    where
      goes : (is_cut : Bool) → Drives world commands answers (so_far count) is_cut (file_state again) → GoesOn (file_state again) (world_after world commands count)
      goes false drives = drives.goes refl
      goes true drives = (drives.ended refl).2.stands is_open

  -- or that of after it may be
  pub hold_one_more : (world : World) (commands : List Command) (answers : List Answer) (count : ℕ) (is_cut : Bool)
      → Drives world commands answers (so_far count) is_cut (file_state again) → OfEachImage g files (HoldAfterOneMore world commands count)
  hold_one_more world commands answers count is_cut drives image may = ∥∥₁_map (each image may) (λ it. kept is_cut drives it.0 it.1 it.2)
    where
      kept : (is_cut : Bool) → Drives world commands answers (so_far count) is_cut (file_state again) → (db : Trees) → (file_state again).may_leave db → HoldsDatabase image db → HoldAfterOneMore world commands count image
      kept false drives db left holds = record {
        kept = count;
        within = drives.within;
        has_done = omega arith;
        at_most_one_more = omega arith;
        after = record { held = record { trees = db; holds = holds; found = (drives.goes refl).left db left }; project = drives.project };
      }
      kept true drives db left holds =
          let (cut, there, ended) = drives.ended refl in
          let low = slice_get_within commands count cut there in
          elim (ended.left db left) [
            | inl before ↦ record {
              kept = count;
              within = drives.within;
              has_done = omega arith;
              at_most_one_more = omega arith;
              after = record { held = record { trees = db; holds = holds; found = before }; project = drives.project };
            }
            | inr after ↦
                let next = next_world world commands count cut there in
                record {
                  kept = count + 1;
                  within = omega (arith, low);
                  has_done = omega arith;
                  at_most_one_more = omega arith;
                  after = record {
                    held = record { trees = db; holds = holds; found = subst (λ w. FoundAs db w) (sym next) after };
                    project = subst (λ w. IsProject w) (sym next) (drives.cut_project refl cut there);
                  };
                }
          ]

  module _ (done : Result (Unit {0}) Trouble) (status : ℕ) (has : HasStatus done status) where
    leaves_done : (says : Holds) (before after : Option (List ℕ)) (world : World) (asked : Work) (it : DrivesWork world asked done (file_state again)) → TellsDone before after (done ≡ Ok tt) world asked it.ran it.answers it.count
        → OfEachImage g files (says world (commands_of_work world asked it.ran) it.count) → LeavesDone g files says before after world asked status
    leaves_done says before after world asked it told held = record {
      ran = it.ran;
      are = it.are;
      count = it.count;
      within = it.drives.within;
      answers = it.answers;
      answered = it.drives.answered;
      told = tells_at before after world asked it.ran it.answers it.count (done_at done status has) told;
      whole = whole_at done status _ has it.whole;
      held = held;
    }

    leaves_as_it_was : (conn : Held (FileStore D g)) (first : Image) (before after : Option (List ℕ)) (world : World) → (HoldsWorld first world → GoesOn (file_state conn) world)
        → RefusesWork (file_state conn) (file_state again) world done → after ≡ before → LeavesAsItWas g files first before after world status
    leaves_as_it_was conn first before after world goes it unwritten = record {
      unwritten = unwritten;
      fault = it.fault;
      told = status_at done status it.fault has it.told;
      why = it.why;
      held = λ held. all_hold world (it.stands (goes held));
    }

-- ---- what a close leaves

pub copied_each : {D : Type 0} {g : Ghosts D} (again : Held (FileStore D g)) (files : Files D) → SeenMayStay g → IsCopied again files
    → OfEachImage g files (λ image. (db : Trees) × (file_state again).may_leave db × HoldsDatabase image db)
copied_each again files stays copied image may = ∥∥₁_map (copied.left image may).both (λ holds. ((file_state again).committed.trees, stays_at again.store stays copied.was_open, holds))

-- where it failed
module _ {D : Type 0} {g : Ghosts D} (again : Held (FileStore D g)) (last : FileStore D g) (closed : IsClosed again last) (numbered : IsNumbered last) (files : Files D)
    (is : (files.log, files.db) ≡ store_files last) (honest : AreClean g files.log files.db) where
  sure : AreClean g (store_files last).0 (store_files last).1
  sure = subst (λ (p : D × D). AreClean g p.0 p.1) is honest

  clean : IsClean (view last)
  clean = no_doubt _ (clean_is last.pool ∙ sure)

  pub unclosed_clean : HasCleanDisk (file_state again)
  unclosed_clean = let now = clean in omega (arith, now, closed.quiet.clean)

  pub unclosed_each : OfEachImage g files (λ image. (db : Trees) × (file_state again).may_leave db × HoldsDatabase image db)
  unclosed_each image may =
      let allowed : (state last).may_leave image = may_leave_is last.pool image sure (subst (λ (p : D × D). outcomes g p.0 p.1 image) is may) in
      ∥∥₁_map (opens_again last numbered (closed.sound clean) image allowed) (λ it. (it.0, closed.quiet.outcomes it.0 it.1, it.2))

-- ---- a run

module _ {S W E : Type 0} {c : calls.Ghosts Host} {s : start.Ghosts S} {g : Ghosts (Modelled Host S c s)} (stays : SeenMayStay g) (contents : W → Option (List ℕ)) (told_of : E → Option (List ℕ)) where
  -- a database was opened, the work was done over it, and each image holds what is left of that
  opened_leaves : (says : Holds) (conn again : Held (FileStore (Modelled Host S c s) g)) (path : List ℕ) (asked : Work) (old new : W) (done : Result (Unit {0}) Trouble) (status : ℕ) (files : Files (Modelled Host S c s))
      → IsOpenedAt path (image_at s) conn → DoesOver over_files contents conn again old new asked done → HasStatus done status
      → HasCleanDisk (file_state again) → OfEachImage g files (λ image. (db : Trees) × (file_state again).may_leave db × HoldsDatabase image db)
      → ((world : World) (it : DrivesWork world asked done (file_state again)) → OfEachImage g files (says world (commands_of_work world asked it.ran) it.count))
      → (world : World) → IsProject world → ImageRefines (image_at s) world → LeavesDone g files says (contents old) (contents new) world asked status ⊎ LeavesAsItWas g files (image_at s) (contents old) (contents new) world status
  opened_leaves says conn again path asked old new done status files at does has clean each hold world project start =
      let early : HasCleanDisk (file_state conn) = was_clean contents conn again old new asked done does clean in
      let opened : IsOpened conn = at.opens early in
      let found : FindsIn (image_at s) (file_state conn) = at.finds early in
      elim (work_told contents conn again old new done asked does clean world project (begins_from stays conn opened (image_at s) found world start)) [
        | inl works ↦ inl (leaves_done again files each done status has says (contents old) (contents new) world asked works.0 works.1 (hold world works.0))
        | inr refuses ↦ inr (leaves_as_it_was again files each done status has conn (image_at s) (contents old) (contents new) world (goes_from conn opened (image_at s) found stays world) refuses.0 refuses.1)
      ]

  pub leaves_its_work : (end : End (Modelled Host S c s) g) → LeavesItsWork contents told_of end
  leaves_its_work end run =
      let runs = done_by contents told_of end run in
      let opens = runs.runs in
      let conn = opens.does.conn in
      let it = opens.does.does in
      let has = first_status contents _ runs.work _ _ told_of run.err_old run.err_new opens.first run.obeys.done end.status end.is_told opens.exports run.obeys.tells in
      λ honest.
      let copied : IsCopied it.again run.files = it.closed.copied honest in
      let each = copied_each it.again run.files stays copied in
      opened_leaves HoldAfter conn it.again _ runs.work run.old opens.mid opens.first end.status run.files opens.does.opened it.does has copied.was_clean each
      (λ world works. hold_after it.again run.files each copied.was_open world (commands_of_work world runs.work works.ran) works.answers works.count works.is_cut works.drives)

  pub leaves_its_work_unclosed : (end : End (Modelled Host S c s) g) → LeavesItsWorkUnclosed contents told_of end
  leaves_its_work_unclosed end run =
      let runs = done_by_unclosed contents told_of end run in
      let opens = runs.runs in
      let conn = opens.does.conn in
      let it = opens.does.does in
      let has = first_status contents _ runs.work _ _ told_of run.err_old run.err_new opens.first run.obeys.done end.status end.is_told opens.exports run.obeys.tells in
      λ honest.
      let each = unclosed_each it.again run.close.store it.closed.quiet run.close.numbered run.close.files run.close.files_are honest in
      opened_leaves HoldAfterOneMore conn it.again _ runs.work run.old opens.mid opens.first end.status run.close.files opens.does.opened it.does has
      (unclosed_clean it.again run.close.store it.closed.quiet run.close.numbered run.close.files run.close.files_are honest) each
      (λ world works. hold_one_more it.again run.close.files each world (commands_of_work world runs.work works.ran) works.answers works.count works.is_cut works.drives)
