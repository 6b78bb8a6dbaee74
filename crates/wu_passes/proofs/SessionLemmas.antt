-- What a session refuses before anything is asked.
use Rattle.std.proofs.Common.{◌≡◌, ◌⊎◌, ◌<◌, ℕ, Bool, true, false, nat_lt, if◌then◌else◌, IfSome, IsSome, None, Option, Some, Result, Ok, Err, refl, sym, ap, subst, ◌∙◌, inl, inr, arith}
use Rattle.std.proofs.lemmas.Bool.{cases_Bool}
use Rattle.std.proofs.lemmas.Bool.Decides.{nat_tests}
use Rattle.sqlite.specs.Effect.{Database}
use Rattle.sqlite.specs.State.{HasCleanDisk, State}
use Rattle.sqlite.specs.Store.{Ghosts}
use Rattle.wu_core.specs.declared.fault.Fault.{Fault}
use Rattle.wu_core.specs.declared.fault.Fault.TheVariants.{BadLimit, OldSchema}
use Rattle.wu_core.specs.World.{World}
use Rattle.wu_schema.proofs.AskingLemmas.{survives_none}
use Rattle.wu_schema.proofs.CallLemmas.{back_none}
use Rattle.wu_machine.specs.declared.command.Answer.{Answer}
use Rattle.wu_machine.specs.declared.command.Command.{Command}
use Rattle.wu_machine.specs.Commands.{reply_of_answer, request_of}
use Rattle.wu_machine.specs.Laws.{KeepsProjects}
use Rattle.wu_machine.specs.Machine.{done, has_right_limits, is_upgrade, IsUpToDate, present_version, reply, reply_of, step, world_of}
use Rattle.wu_machine.specs.Requests.{AskBatch, AskCancel, AskClasses, AskPass, AskReported, AskSent, AskUpgrade, Reply, Request}
use Rattle.wu_machine.specs.Sound.{IsProject}
use Rattle.wu_machine.proofs.ImportLemmas.{stays_step}
use Rattle.wu_machine.proofs.Versions.{done_older, done_up_to_date, done_upgrade, up_to_date}
use Rattle.wu_store.specs.StandsFor.{StandsFor}
use Rattle.wu_passes.specs.Adopting.{KeepsAll, older_than_present}
use Rattle.wu_passes.specs.declared.project.Project.{Project}
use Rattle.wu_passes.specs.Projects.{AnswersOlder, has_ended, IsOfItsVersion, IsOver, KeepsVersion, older_version, ReachesPresent, refused_for, RunsFromAny, RunsOver, ShowsProject, state_of, StaysOver, StaysShut}
use Rattle.wu_passes.specs.Standing.{FailureCause, KeepsShut, ShowsWorld}
use Rattle.wu_passes.proofs.StandingLemmas.{from_unplanned, stands_read}

-- only a pass has wrong limits
wrong_limits : (world : World) (request : Request) → IsUpToDate world → has_right_limits request ≡ false → reply world request ≡ Err BadLimit
wrong_limits world (AskBatch name template file) is wrong = absurd cc
wrong_limits world (AskSent name file) is wrong = absurd cc
wrong_limits world (AskReported name file) is wrong = absurd cc
wrong_limits world (AskClasses name file) is wrong = absurd cc
wrong_limits world (AskPass pass now limit min_age) is wrong =
    let told : done world (AskPass pass now limit min_age) ≡ Err BadLimit = done_up_to_date world (AskPass pass now limit min_age) is ∙ rw wrong refl in
    ap reply_of told
wrong_limits world (AskCancel name) is wrong = absurd cc
wrong_limits world AskUpgrade is wrong = absurd cc

upgrade_right : (request : Request) → is_upgrade request ≡ true → has_right_limits request ≡ true
upgrade_right (AskBatch name template file) is = refl
upgrade_right (AskSent name file) is = refl
upgrade_right (AskReported name file) is = refl
upgrade_right (AskClasses name file) is = refl
upgrade_right (AskPass pass now limit min_age) is = absurd cc
upgrade_right (AskCancel name) is = refl
upgrade_right AskUpgrade is = refl

-- what is refused for an older version is no upgrade,
pub refused_other : (request : Request) (older : Option ℕ) (version : ℕ) → refused_for request older ≡ Some version → (is_upgrade request ≡ false) × (older ≡ Some version)
refused_other request older version is = elim (cases_Bool (is_upgrade request)) [
  | inl up ↦ absurd (let no : None ≡ Some version = subst (λ b. (if b then None else older) ≡ Some version) up is in cc)
  | inr other ↦ (other, subst (λ b. (if b then None else older) ≡ Some version) other is)
]

-- and what is not is one, or the session is over no older version
pub not_refused : (request : Request) (older : Option ℕ) → refused_for request older ≡ None → is_upgrade request ≡ false → older ≡ None
not_refused request older is other = subst (λ b. (if b then None else older) ≡ None) other is

pub some_right : (request : Request) (older : Option ℕ) → refused_for request older ≡ None → IsSome older → has_right_limits request ≡ true
some_right request older is some = elim (cases_Bool (is_upgrade request)) [
  | inl up ↦ upgrade_right request up
  | inr other ↦ absurd (let no : IsSome {T = ℕ} None = subst (λ (o : Option ℕ). IsSome o) (not_refused request older is other) some in cc)
]

-- it answers that version, and touches nothing
pub answers_older : {S : Type 0} (T : Type 0) {g : Ghosts S} (project : Project S g) (version : ℕ) → older_version project ≡ Some version → AnswersOlder {T = T} project project (Err (OldSchema version))
answers_older T project version is =
    subst (λ (o : Option ℕ). IfSome o (λ v. ◌≡◌ {A = Result T Fault} (Err (OldSchema version)) (Err (OldSchema v)) × (project ≡ project))) (sym is) (refl, refl)

-- a version that is older than the present one is that, and low
pub older_is : (of version : ℕ) → Some version ≡ older_than_present of → (version ≡ of) × (of < present_version)
older_is of version is = elim (cases_Bool (nat_lt of present_version)) [
  | inl low ↦ (let same : Some version ≡ Some of = subst (λ b. Some version ≡ (if b then Some of else None)) low is in cc, grind (arith, nat_tests, low))
  | inr high ↦ absurd (let no : Some version ≡ None = subst (λ b. Some version ≡ (if b then Some of else None)) high is in cc)
]

-- one that is not is none
pub none_older : (of : ℕ) → None ≡ older_than_present of → nat_lt of present_version ≡ false
none_older of is = elim (cases_Bool (nat_lt of present_version)) [
  | inl low ↦ absurd (let no : None ≡ Some of = subst (λ b. None ≡ (if b then Some of else None)) low is in cc)
  | inr high ↦ high
]

pub present_none : (of : ℕ) → of ≡ present_version → None ≡ older_than_present of
present_none of is = let high : nat_lt of present_version ≡ false = grind (arith, nat_tests, is) in rw high refl

module _ {S : Type 0} {g : Ghosts S} (project : Project S g) (command : Command) where
  -- what is refused early leaves the session over the world that it was
  stays_refused : (fault : Fault) → StaysOver project project command (Err fault)
  stays_refused fault clean world shows = shows

  -- in a session over an older version, each command but an upgrade
  module _ (version : ℕ) (refused : refused_for (request_of command) (older_version project) ≡ Some version) where
    told : (world : World) → IsOfItsVersion project world → reply world (request_of command) ≡ Err (OldSchema version)
    told world of =
        let it = refused_other (request_of command) (older_version project) version refused in
        let (same, low) = older_is world.version version (sym it.1 ∙ of) in
        ap reply_of (done_older world (request_of command) low it.0) ∙ ap (λ v. Err (OldSchema v)) (sym same)

    pub older_runs : RunsOver project project command (Err (OldSchema version))
    older_runs = record {
      goes = λ clean world over. (inl (told world over.version), stands_read (has_ended project) (state_of project) world (request_of command) over.goes);
      from = λ clean world shows.
          from_unplanned (state_of project) (state_of project) world (request_of command) (has_ended project) (OldSchema version) clean shows.shows (back_none (state_of project)) (survives_none (state_of project)) (inl (told world shows.version));
      stays = stays_refused (OldSchema version);
    }

    pub older_why : (Broke : Type 0) (ended : Bool) (world : World) → ended ≡ false → IsOfItsVersion project world → FailureCause Broke ended world (request_of command) (OldSchema version)
    older_why Broke true world still of = absurd cc
    older_why Broke false world still of = inl (told world of)

  -- in another, a pass whose limits are wrong
  module _ (unrefused : refused_for (request_of command) (older_version project) ≡ None) (wrong : has_right_limits (request_of command) ≡ false) where
    none : older_version project ≡ None
    none = elim (is_none (older_version project)) [
      | inl is ↦ is
      | inr some ↦ absurd (let right = some_right (request_of command) (older_version project) unrefused some in let no = sym right ∙ wrong in cc)
    ]
      where
        is_none : (o : Option ℕ) → (o ≡ None) ⊎ IsSome o
        is_none None = inl refl
        is_none (Some v) = inr refl

    present : (world : World) → IsProject world → IsOfItsVersion project world → IsUpToDate world
    present world is_project of = up_to_date world is_project (none_older world.version (sym none ∙ of))

    refused_limits : (world : World) → IsProject world → IsOfItsVersion project world → reply world (request_of command) ≡ Err BadLimit
    refused_limits world is_project of = wrong_limits world (request_of command) (present world is_project of) wrong

    pub limits_run : RunsOver project project command (Err BadLimit)
    limits_run = record {
      goes = λ clean world over. (inl (refused_limits world over.is_project over.version), stands_read (has_ended project) (state_of project) world (request_of command) over.goes);
      from = λ clean world shows.
          from_unplanned (state_of project) (state_of project) world (request_of command) (has_ended project) BadLimit clean shows.shows (back_none (state_of project)) (survives_none (state_of project)) (inl (refused_limits world shows.is_project shows.version));
      stays = stays_refused BadLimit;
    }

    pub limits_why : (Broke : Type 0) (ended : Bool) (world : World) → ended ≡ false → IsProject world → IsOfItsVersion project world → FailureCause Broke ended world (request_of command) BadLimit
    limits_why Broke true world going is_project of = absurd cc
    limits_why Broke false world going is_project of = inl (refused_limits world is_project of)

-- ---- over which world it is behind a command

-- after an upgrade a world is of the present version
upgraded : (world : World) (request : Request) → is_upgrade request ≡ true → IsUpToDate (step world request)
upgraded world (AskBatch name template file) up = absurd cc
upgraded world (AskSent name file) up = absurd cc
upgraded world (AskReported name file) up = absurd cc
upgraded world (AskClasses name file) up = absurd cc
upgraded world (AskPass pass now limit min_age) up = absurd cc
upgraded world (AskCancel name) up = absurd cc
upgraded world AskUpgrade up = ap (λ d. (world_of world d).version) (done_upgrade world)

-- so it is after any request that was answered
pub answered_present : (world : World) (request : Request) (answer : Reply) → IsProject (step world request) → reply world request ≡ Ok answer → IsUpToDate (step world request)
answered_present world request answer still is = elim (cases_Bool (nat_lt world.version present_version)) [
  | inr younger ↦ up_to_date (step world request) still ((stays_step world request).version younger)
  | inl older ↦ elim (cases_Bool (is_upgrade request)) [
    | inl up ↦ upgraded world request up
    | inr other ↦
        let low : world.version < present_version = grind (arith, nat_tests, older) in
        let refused : reply world request ≡ Err (OldSchema world.version) = ap reply_of (done_older world request low other) in
        absurd (let no = sym is ∙ refused in cc)
  ]
]

-- where nothing was made, the tables stand for what they stood for
kept_shows : (old new : State) (world : World) → HasCleanDisk new → KeepsShut old new → KeepsAll old new → ShowsWorld old world → ShowsWorld new world
kept_shows old new world clean shut kept shows is_open =
    let was = shows (shut clean is_open) in
    (subst (λ (d : Database). StandsFor d world) (sym kept.now) was.0, kept.committed ∙ was.1 ∙ sym kept.now)

module _ {S : Type 0} {g : Ghosts S} (old new : Project S g) (command : Command) (keeps : KeepsProjects (request_of command)) where
  -- behind one that was done or not
  pub stays_over : (result : Result Answer Fault) → RunsFromAny old new command result → StaysShut old new → ReachesPresent old new result → StaysOver old new command result
  stays_over (Ok answer) from shut present clean world shows =
      let runs = from clean world shows in
      let next = step world (request_of command) in
      let still : IsProject next = keeps world shows.is_project in
      record {
        is_project = still;
        version = present ∙ present_none next.version (answered_present world (request_of command) (reply_of_answer answer) still runs.0);
        shows = elim runs.1 [
          | inl goes ↦ goes.0.stands
          | inr same ↦ subst (λ w. ShowsWorld (state_of new) w) (sym same.0) (kept_shows (state_of old) (state_of new) world clean shut same.1 shows.shows)
        ];
      }
  stays_over (Err fault) from shut kept clean world shows =
      record { is_project = shows.is_project; version = kept ∙ shows.version; shows = (from clean world shows).1 }

-- what only read, and then a command
pub reaches_then : {S T : Type 0} {g : Ghosts S} (old mid new : Project S g) (r : Result T Fault) → KeepsVersion old mid → ReachesPresent mid new r → ReachesPresent old new r
reaches_then old mid new (Ok x) kept reaches = reaches
reaches_then old mid new (Err fault) kept reaches = reaches ∙ kept

-- a session that goes on over a world shows it
pub over_shows : {S : Type 0} {g : Ghosts S} (project : Project S g) (world : World) → IsOver project world → ShowsProject project world
over_shows project world over = record { is_project = over.is_project; version = over.version; shows = over.goes.stands }
