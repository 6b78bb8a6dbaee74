-- What an adoption gives, from what its question for the version and its creation give.
use Rattle.std.proofs.Common.{refl, ◌≡◌, ◌⊎◌, true, false, ◌==◌, ◌<◌, ◌≤◌, ℕ, Bool, true≢false, Option, None, Some, Result, Ok, Err, IfErr, IfOk, IsTrue, sym, ap, subst, ◌∙◌, inl, inr, arith}
use Rattle.std.proofs.lemmas.Bool.{cases_Bool}
use Rattle.std.proofs.lemmas.Bool.Decides.{nat_tests}
use Rattle.sqlite.specs.Effect.{Database}
use Rattle.sqlite.specs.Held.{Held, state}
use Rattle.sqlite.specs.State.{State, HasCleanDisk, IsUnchanged, Survives}
use Rattle.sqlite.specs.Store.{Ghosts}
use Rattle.wu_core.specs.declared.fault.Fault.{Fault}
use Rattle.wu_core.specs.declared.fault.Fault.TheVariants.{Broken, NewSchema, NotAProject}
use Rattle.wu_core.specs.World.{World, empty_world}
use Rattle.wu_schema.proofs.CallLemmas.{back_unchanged}
use Rattle.wu_schema.proofs.VersionLemmas.{has_understood, project_of, project_row}
use Rattle.wu_schema.specs.Calls.{BreaksBetween, IsBack, IsDone, IsMade, IsRefused, IsUndone, LeavesOnly}
use Rattle.wu_schema.specs.Faults.{IsFailure}
use Rattle.wu_schema.specs.Fresh.{IsTakenFault, MakesProject}
use Rattle.wu_schema.specs.Refines.{Refines}
use Rattle.wu_schema.specs.Versions.{AnswersVersion, HasProject, HasVersion, RefusesVersion}
use Rattle.wu_machine.specs.Machine.{present_version}
use Rattle.wu_machine.specs.Requests.{Request}
use Rattle.wu_machine.specs.Sound.{IsProject}
use Rattle.wu_store.specs.Loading.{IsStoreFault}
use Rattle.wu_store.specs.StandsFor.{StandsFor}
use Rattle.wu_store.proofs.SameWorld.{one_world}
use Rattle.wu_passes.specs.Standing.{GoesOn, HasEnded, ShowsWorld, TellsLater}
use Rattle.wu_passes.specs.Adopting.{Adopts, BeginsFrom, IsAdoptionFault, IsKnownRow, IsVacant, KeepsAll, KnowsVersion, LeavesFresh, LeavesNoMore, older_than_present, RefusesAdoption, RefusesRow, TellsNew}
use Rattle.wu_passes.specs.declared.project.Project.{Project}
use Rattle.wu_passes.specs.Projects.{BeginsSession, connection_of, FailsAgain, GoesOnAgain, IsOver, state_of}
use Rattle.wu_passes.proofs.StandingLemmas.{goes_read}

-- ---- a connection whose limit on steps was taken off shows what it showed

abbrev no_limit : State → State
no_limit s = record s { step_limit = None }

limit_goes : (s : State) (world : World) → GoesOn s world → GoesOn (no_limit s) world
limit_goes s world goes = record { stands = goes.stands; left = goes.left }

limit_keeps : (old new : State) → KeepsAll (no_limit old) new → KeepsAll old new
limit_keeps old new keeps = record { now = keeps.now; committed = keeps.committed; left = keeps.left }

limit_adopts : (old new : State) → Adopts (no_limit old) new → Adopts old new
limit_adopts old new a = record {
  clean = a.clean;
  unlimited = a.unlimited;
  was_open = a.was_open;
  is_open = a.is_open;
  goes = λ clean world first goes. a.goes clean world first (limit_goes old world goes);
  found = λ clean there. let f = a.found clean there in record { kept = limit_keeps old new f.kept; known = f.known };
  fresh = λ clean vacant. let f = a.fresh clean vacant in record { beside = f.beside; goes = f.goes };
  left = a.left;
}

limit_knows : (old new : State) (version : ℕ) → KnowsVersion (no_limit old) new version → KnowsVersion old new version
limit_knows old new version k = record { known = k.known; found = k.found; fresh = k.fresh; over = k.over }

limit_new : (old new : State) (is_new : Bool) → TellsNew (no_limit old) new is_new → TellsNew old new is_new
limit_new old new is_new tells = record { made = tells.made; found = tells.found }

limit_refuses : (old new : State) (fault : Fault) → RefusesAdoption (no_limit old) new fault → RefusesAdoption old new fault
limit_refuses old new fault r = record {
  told = r.told;
  clean = r.clean;
  cause = λ clean. let why = r.cause clean in record {
    stored = λ version is. let s = why.stored version is in record { is_open = s.is_open; there = s.there; stored = s.stored; later = s.later };
    only = why.only;
    broken = why.broken;
    vacant = why.vacant;
  };
  given = λ clean. let left = r.given clean in record {
    back = record { was_open = left.back.was_open; now = left.back.now; committed = left.back.committed };
    left = left.left;
    kept = left.kept;
    whole = λ is. limit_keeps old new (left.whole is);
    goes = λ world goes. left.goes world (limit_goes old world goes);
    serves = left.serves;
  };
}

module _ {S : Type 0} (g : Ghosts S) (old bare : Held S) (is : bare ≡ record old { step_limit = None }) (new : State) where
  pub bare_adopts : Adopts (state g bare) new → Adopts (state g old) new
  bare_adopts adopts = limit_adopts (state g old) new (subst (λ h. Adopts (state g h) new) is adopts)

  pub bare_knows : (version : ℕ) → KnowsVersion (state g bare) new version → KnowsVersion (state g old) new version
  bare_knows version knows = limit_knows (state g old) new version (subst (λ h. KnowsVersion (state g h) new version) is knows)

  pub bare_new : (is_new : Bool) → TellsNew (state g bare) new is_new → TellsNew (state g old) new is_new
  bare_new is_new tells = limit_new (state g old) new is_new (subst (λ h. TellsNew (state g h) new is_new) is tells)

  pub bare_refused : (fault : Fault) → RefusesAdoption (state g bare) new fault → RefusesAdoption (state g old) new fault
  bare_refused fault refuses = limit_refuses (state g old) new fault (subst (λ h. RefusesAdoption (state g h) new fault) is refuses)

  pub bare_settled : (IsTrue (state g old).is_open → (state g old).now ≡ (state g old).committed) → IsTrue (state g bare).is_open → (state g bare).now ≡ (state g bare).committed
  bare_settled settled = subst (λ h. IsTrue (state g h).is_open → (state g h).now ≡ (state g h).committed) (sym is) settled

  pub bare_limit : (state g bare).step_limit ≡ None
  bare_limit = ap (λ (h : Held S). h.step_limit) is

-- ---- which faults may come

pub adoption_fault : (fault : Fault) → IsStoreFault fault → IsAdoptionFault fault
adoption_fault fault told = inl told

never_later : (fault : Fault) (version : ℕ) → IsStoreFault fault → ¬ (fault ≡ NewSchema version)
never_later fault version (inl wanted) is = absurd (let no = sym wanted ∙ is in cc)
never_later fault version (inr (inl failed)) is = absurd (let no = sym failed ∙ is in cc)
never_later fault version (inr (inr refused)) is = absurd (let no = sym refused ∙ is in cc)

-- where no project is, one of these
taken_fault : (fault : Fault) {broke : Type 0} → IsStoreFault fault → (fault ≡ Broken → broke) → IsTakenFault broke fault
taken_fault fault (inl memory) breaks = inr (inl memory)
taken_fault fault (inr (inl broken)) breaks = inr (inr (broken, breaks broken))
taken_fault fault (inr (inr refused)) breaks = inl refused

-- ---- what stands is a project

-- a lone row has one version
one_version : (db : Database) (has : HasProject db.schema) (a b : ℕ) → HasVersion db has a → HasVersion db has b → a ≡ b
one_version db has a b (first, one) (second, other) = let same = sym one.1 ∙ other.1 in cc

-- the version that was read is that of the row
read_version : (db : Database) (found : Option ℕ) (version : ℕ) → found ≡ Some version → AnswersVersion db found → (has : HasProject db.schema) → HasVersion db has version
read_version db found version is answers has =
    let (one, one_is, of) = answers.of_row has in
    let same : one ≡ version = let so = sym one_is ∙ is in cc in
    subst (λ n. HasVersion db has n) same of

-- and this program knows it,
pub row_known : (db : Database) (found : Option ℕ) (version : ℕ) → found ≡ Some version → AnswersVersion db found → version ≤ present_version → IsKnownRow db version
row_known db found version is answers known = (read_version db found version is answers, known)

-- or it is later,
pub row_later : (limit : Option ℕ) (db : Database) (found : Option ℕ) (version : ℕ) (fault : Fault) → found ≡ Some version → AnswersVersion db found → TellsLater version fault → RefusesRow limit db fault
row_later limit db found version fault is answers later = record {
  later = λ one told.
      let same : version ≡ one = let so = sym later.0 ∙ told in cc in
      (λ has. subst (λ n. HasVersion db has n) same (read_version db found version is answers has), subst (λ n. present_version < n) same later.1);
  only = λ bare has one of. inr (subst (λ n. TellsLater n fault) (one_version db has version one (read_version db found version is answers has) of) later);
}

-- or there is no row,
pub row_absent : (limit : Option ℕ) (db : Database) (found : Option ℕ) → found ≡ None → AnswersVersion db found → RefusesRow limit db NotAProject
row_absent limit db found none answers = record {
  later = λ version told. absurd cc;
  only = λ bare has version of. let (one, one_is, stored) = answers.of_row has in absurd (let no = sym one_is ∙ none in cc);
}

-- or the question was refused
pub row_unread : (limit : Option ℕ) (db : Database) (fault : Fault) → IsStoreFault fault → RefusesVersion limit db fault → RefusesRow limit db fault
row_unread limit db fault told refuses = record {
  later = λ version is. absurd (never_later fault version told is);
  only = λ bare has version of. inl (refuses.of_row has version of bare);
}

-- a world's version is that of the row
pub version_stands : (db : Database) (world : World) (stands : Refines db world) → 1 ≤ world.version → HasVersion db (project_of db world stands) world.version
version_stands db world stands first = (first, project_row db world stands)

-- a fresh project stands for the empty world
pub fresh_stands : (old new : Database) → MakesProject old new → StandsFor new empty_world
fresh_stands old new makes = record { refines = makes.stands; queue = λ _. makes.queue }

never_vacant : (s : State) (world : World) → Refines s.now world → ¬ IsVacant s
never_vacant s world stands vacant = absurd (has_understood _ (project_of s.now world stands) vacant)

-- ---- the question for the version

module _ (old asked : State) (crash : Survives old asked (λ _. ⊥)) (unlimited : old.step_limit ≡ None) where
  leaves_no_more : HasCleanDisk asked → LeavesNoMore old asked
  leaves_no_more clean db may = elim (crash.crash clean db may) [ inl before ↦ before | inr none ↦ absurd none ]

  keeps_all : HasCleanDisk asked → IsUnchanged old asked → KeepsAll old asked
  keeps_all clean same = record { now = same.0.now_is; committed = same.0.committed_is; left = leaves_no_more clean }

  goes_asked : (world : World) → HasCleanDisk asked → IsBack old asked → GoesOn old world → GoesOn asked world
  goes_asked world clean back goes = goes_read old asked world clean (record { survives = crash; back = λ _. back }) goes

  -- a version was found
  module _ (found : Option ℕ) (version : ℕ) (is : found ≡ Some version) (same : HasCleanDisk asked → IsUnchanged old asked) (answers : HasCleanDisk asked → AnswersVersion old.now found) where
    there : HasCleanDisk asked → ¬ IsVacant old
    there clean vacant = absurd (let no = sym is ∙ (answers clean).absent vacant in cc)

    of_row : HasCleanDisk asked → (has : HasProject old.now.schema) → HasVersion old.now has version
    of_row clean has = let (one, one_is, of) = (answers clean).of_row has in let same : one ≡ version = let so = sym one_is ∙ is in cc in subst (λ n. HasVersion old.now has n) same of

    of_world : HasCleanDisk asked → (world : World) → Refines old.now world → version ≡ world.version
    of_world clean world stands = let so = sym is ∙ (answers clean).of_world world stands in cc

    pub known_adopts : version ≤ present_version → Adopts old asked
    known_adopts known = record {
      clean = crash.clean;
      unlimited = crash.limit ∙ unlimited;
      was_open = λ clean. (same clean).0.was_open;
      is_open = λ clean. (same clean).0.is_open;
      goes = λ clean world first goes.
          let is = of_world clean world (goes.stands (same clean).0.was_open).0.refines in
          (goes_asked world clean (back_unchanged old asked (same clean)) goes, omega (arith, is, known));
      found = λ clean _. record { kept = keeps_all clean (same clean); known = λ has. (version, of_row clean has, known) };
      fresh = λ clean vacant. absurd (there clean vacant);
      left = λ clean db may. inl (leaves_no_more clean db may);
    }

    pub found_knows : version ≤ present_version → KnowsVersion old asked version
    found_knows known = record {
      known = known;
      found = of_row;
      fresh = λ clean vacant. absurd (there clean vacant);
      over = λ clean world first shows. of_world clean world (shows (same clean).0.was_open).0.refines;
    }

    pub found_tells : TellsNew old asked false
    found_tells = record { made = λ clean no. absurd (true≢false (sym no)); found = λ clean _. there clean }

    pub later_refuses : (fault : Fault) → TellsLater version fault → RefusesAdoption old asked fault
    later_refuses fault later = record {
      told = inr (version, later);
      clean = crash.clean;
      cause = λ clean. record {
        stored = λ one is.
            let told : version ≡ one = let so = sym later.0 ∙ is in cc in
            record {
              is_open = (same clean).0.was_open;
              there = there clean;
              stored = λ has. subst (λ n. HasVersion old.now has n) told (of_row clean has);
              later = subst (λ n. present_version < n) told later.1;
            };
        only = λ idle has one of. inr (subst (λ n. TellsLater n fault) (one_version old.now has version one (of_row clean has) of) later);
        broken = λ is. absurd (let no = sym later.0 ∙ is in cc);
        vacant = λ vacant. absurd (there clean vacant);
      };
      given = λ clean. record {
        back = back_unchanged old asked (same clean);
        left = λ db may. inl (leaves_no_more clean db may);
        kept = λ _. leaves_no_more clean;
        whole = λ is. absurd (let no = sym later.0 ∙ is in cc);
        goes = λ world goes. goes_asked world clean (back_unchanged old asked (same clean)) goes;
        serves = λ idle. inr (same clean).0.is_open;
      };
    }

  -- it was refused
  pub unasked_refuses : (fault : Fault) → IsStoreFault fault → (HasCleanDisk asked → IsBack old asked) → (HasCleanDisk asked → fault ≡ NotAProject → IsUnchanged old asked)
      → (HasCleanDisk asked → (has : HasProject old.now.schema) (version : ℕ) → HasVersion old.now has version → IsFailure fault)
      → (HasCleanDisk asked → fault ≡ Broken → BreaksBetween old asked) → RefusesAdoption old asked fault
  unasked_refuses fault told back serves fails breaks = record {
    told = adoption_fault fault told;
    clean = crash.clean;
    cause = λ clean. record {
      stored = λ version is. absurd (never_later fault version told is);
      only = λ idle has version of. inl (fails clean has version of);
      broken = breaks clean;
      vacant = λ vacant. taken_fault fault told (breaks clean);
    };
    given = λ clean. record {
      back = back clean;
      left = λ db may. inl (leaves_no_more clean db may);
      kept = λ _. leaves_no_more clean;
      whole = λ is. keeps_all clean (serves clean is);
      goes = λ world goes. goes_asked world clean (back clean) goes;
      serves = λ idle. elim told [
        | inl wanted ↦ inl (inl wanted)
        | inr other ↦ elim other [ inl failed ↦ inl (inr failed) | inr refused ↦ inr (serves clean refused).0.is_open ]
      ];
    };
  }

  -- none was found, and a fresh project is made
  module _ (made : State) (creates : Survives asked made (IsMade MakesProject asked.now)) (same : HasCleanDisk asked → IsUnchanged old asked) (vacant : HasCleanDisk asked → IsVacant old) where
    before : HasCleanDisk made → HasCleanDisk asked
    before clean = omega (arith, creates.clean)

    leaves_fresh : HasCleanDisk made → LeavesFresh old made
    leaves_fresh clean db may = elim (creates.crash clean db may) [
      | inl was ↦ inl (leaves_no_more (before clean) db was)
      | inr fresh ↦ inr (record { database = fresh.0; same = fresh.1; stands = fresh_stands asked.now fresh.0 fresh.2 })
    ]

    fresh_goes : IsDone MakesProject asked made → GoesOn made empty_world
    fresh_goes created =
        let stands = fresh_stands asked.now made.now created.makes in
        record { stands = λ is_open. (stands, created.committed); left = λ db may. record { database = made.now; same = sym (created.left.only db may); stands = stands } }

    pub fresh_adopts : (HasCleanDisk made → IsDone MakesProject asked made) → Adopts old made
    fresh_adopts created = record {
      clean = omega (arith, crash.clean, creates.clean);
      unlimited = creates.limit ∙ crash.limit ∙ unlimited;
      was_open = λ clean. (same (before clean)).0.was_open;
      is_open = λ clean. (created clean).is_open;
      goes = λ clean world first goes. absurd (never_vacant old world (goes.stands (same (before clean)).0.was_open).0.refines (vacant (before clean)));
      found = λ clean there. absurd (there (vacant (before clean)));
      fresh = λ clean _. record {
        beside = subst (λ (d : Database). MakesProject d made.now) (same (before clean)).0.now_is (created clean).makes;
        goes = fresh_goes (created clean);
      };
      left = leaves_fresh;
    }

    pub fresh_knows : KnowsVersion old made present_version
    fresh_knows = record {
      known = omega arith;
      found = λ clean has. absurd (has_understood _ has (vacant (before clean)));
      fresh = λ clean _. refl;
      over = λ clean world first shows. absurd (never_vacant old world (shows (same (before clean)).0.was_open).0.refines (vacant (before clean)));
    }

    pub fresh_tells : TellsNew old made true
    fresh_tells = record { made = λ clean _. vacant (before clean); found = λ clean no. absurd (true≢false no) }

    module _ (settled : IsTrue old.is_open → old.now ≡ old.committed) (only : IsTrue asked.is_open → LeavesOnly asked asked.committed.trees) where
      keeps_refused : HasCleanDisk made → IsRefused asked made → KeepsAll old made
      keeps_refused clean refused =
          let was = same (before clean) in
          record {
            now = refused.now ∙ was.0.committed_is ∙ sym (settled was.0.was_open);
            committed = refused.committed ∙ was.0.committed_is;
            left = λ db may. leaves_no_more (before clean) db (subst (λ t. asked.may_leave t) (sym (refused.left.only db may)) (only was.0.is_open).stays);
          }

      back_undone : HasCleanDisk made → IsUndone asked made → IsBack old made
      back_undone clean undone =
          let was = same (before clean) in
          record {
            was_open = λ _. was.0.was_open;
            now = λ is_open. inr ((undone.now is_open).0 ∙ was.0.committed_is);
            committed = λ is_open. (undone.now is_open).1 ∙ was.0.committed_is;
          }

      pub unmade_refuses : (fault : Fault) → IsStoreFault fault → (HasCleanDisk made → IsUndone asked made) → (HasCleanDisk made → fault ≡ NotAProject → IsRefused asked made) → (HasCleanDisk made → fault ≡ Broken → BreaksBetween asked made) → RefusesAdoption old made fault
      unmade_refuses fault told undone refused breaks = record {
        told = adoption_fault fault told;
        clean = omega (arith, crash.clean, creates.clean);
        cause = λ clean. record {
          stored = λ version is. absurd (never_later fault version told is);
          only = λ idle has version of. absurd (has_understood _ has (vacant (before clean)));
          broken = broke clean;
          vacant = λ vacant. taken_fault fault told (broke clean);
        };
        given = λ clean. record {
          back = back_undone clean (undone clean);
          left = leaves_fresh clean;
          kept = λ there. absurd (there (vacant (before clean)));
          whole = λ is. keeps_refused clean (refused clean is);
          goes = λ world goes. absurd (never_vacant old world (goes.stands (same (before clean)).0.was_open).0.refines (vacant (before clean)));
          serves = λ idle. elim told [
            | inl wanted ↦ inl (inl wanted)
            | inr other ↦ elim other [ inl failed ↦ inl (inr failed) | inr is ↦ inr (refused clean is).is_open ]
          ];
        };
      }
        where
          broke : HasCleanDisk made → fault ≡ Broken → BreaksBetween old made
          broke clean is = elim (breaks clean is) [
            | inl more ↦ inl (omega (arith, crash.counts, more))
            | inr shut ↦ absurd (let no = sym shut ∙ (same (before clean)).0.is_open in cc)
          ]

-- ---- what follows

module _ (old new : State) (fault : Fault) (clean : HasCleanDisk new) (refuses : RefusesAdoption old new fault) where
  -- a row of a version that this program knows is refused for a failure alone
  pub known_refused : old.in_transaction ≡ false → (has : HasProject old.now.schema) (version : ℕ) → HasVersion old.now has version → version ≤ present_version → IsFailure fault
  known_refused idle has version of known = elim ((refuses.cause clean).only idle has version of) [ inl failed ↦ failed | inr later ↦ absurd (omega (arith, later.1, known)) ]

-- ---- the older version of a session that begins

module _ (old new : State) (version : ℕ) (adopts : Adopts old new) (knows : KnowsVersion old new version) (clean : HasCleanDisk new) where
  -- each world that the tables of a project stand for that was found is of its version
  found_known : ¬ IsVacant old → (world : World) → Refines new.now world → world.version ≡ version
  found_known there world stands =
      let was : Refines old.now world = subst (λ (d : Database). Refines d world) (adopts.found clean there).kept.now stands in
      let has = project_of old.now world was in
      let of : HasVersion old.now has version = knows.found clean has in
      one_version old.now has world.version version (subst (λ n. 1 ≤ n) (let same = sym of.1.1 ∙ (project_row old.now world was).1 in cc) of.0, project_row old.now world was) of

  -- and that of one that was made is the present one
  fresh_known : IsVacant old → (world : World) → Refines new.now world → world.version ≡ version
  fresh_known vacant world stands =
      (one_world new.now world empty_world stands ((adopts.fresh clean vacant).goes.stands (adopts.is_open clean)).0.refines).version ∙ sym (knows.fresh clean vacant)

  -- no project is there, or one was found
  vacant_or_not : ¬ ¬ (IsVacant old ⊎ ¬ IsVacant old)
  vacant_or_not neither = neither (inr (λ vacant. neither (inl vacant)))

  -- so a session that begins is over the version of each
  pub begins_knowing : (world : World) → ShowsWorld new world → older_than_present version ≡ older_than_present world.version
  begins_knowing world shows =
      let stands = (shows (adopts.is_open clean)).0.refines in
      elim (cases_Bool (world.version == version)) [
        | inl is ↦ let same : world.version ≡ version = grind (arith, nat_tests, is) in ap older_than_present (sym same)
        | inr other ↦ absurd (vacant_or_not (λ either. elim either [
          | inl vacant ↦ let same = fresh_known vacant world stands in absurd (grind (arith, nat_tests, same, other))
          | inr there ↦ let same = found_known there world stands in absurd (grind (arith, nat_tests, same, other))
        ]))
      ]

-- a session begins over the world of the tables, or over the empty one
module _ {S : Type 0} (g : Ghosts S) (conn : Held S) (new : Project S g) (begins : BeginsSession g conn new) (clean : HasCleanDisk (state_of new)) (world : World) (project : IsProject world) where
  goes_from : BeginsFrom (state g conn) world → GoesOn (state_of new) world
  goes_from (inl goes) = (begins.adopts.goes clean world project.first goes).0
  goes_from (inr (vacant, is)) = subst (λ w. GoesOn (state_of new) w) (sym is) (begins.adopts.fresh clean vacant).goes

  pub begins_over : BeginsFrom (state g conn) world → IsOver new world
  begins_over begun = let goes = goes_from begun in record { is_project = project; version = begins.knows clean world goes.stands; goes = goes }

-- ---- a new session over the connection of one that a fault ended

pub adopts_again : (old new : State) (world : World) (cut : Request) → Adopts old new → HasCleanDisk new → IsTrue old.is_open → IsProject world → HasEnded old world cut → GoesOn new world
adopts_again old new world cut adopts clean is_open project ended = (adopts.goes clean world project.first (ended.stands is_open)).0

pub refuses_again : (old new : State) (fault : Fault) (world : World) (cut : Request) → RefusesAdoption old new fault → HasCleanDisk new → old.in_transaction ≡ false → IsTrue old.is_open → IsProject world
    → HasEnded old world cut → GoesOn new world × IsFailure fault
refuses_again old new fault world cut refuses clean idle is_open project ended =
    let goes = ended.stands is_open in
    let stands = (goes.stands is_open).0.refines in
    ((refuses.given clean).goes world goes, known_refused old new fault clean refuses idle (project_of old.now world stands) world.version (version_stands old.now world stands project.first) project.known)

pub goes_again : {S : Type 0} {g : Ghosts S} (old : Project S g) (r : Result (Project S g) (Held S × Fault)) → IfOk r (BeginsSession g (connection_of old)) → IfOk r (GoesOnAgain old)
goes_again old (Ok new) begins = λ clean is_open world cut project ended. adopts_again (state_of old) (state_of new) world cut begins.adopts clean is_open project ended
goes_again old (Err refusal) begins = tt

pub fails_again : {S : Type 0} {g : Ghosts S} (old : Project S g) (r : Result (Project S g) (Held S × Fault)) → (connection_of old).in_transaction ≡ false
    → IfErr r (λ refusal. RefusesAdoption (state_of old) (state g refusal.0) refusal.1) → IfErr r (FailsAgain old)
fails_again old (Ok new) idle refuses = tt
fails_again {S} {g} old (Err refusal) idle refuses =
    λ clean is_open world cut project ended. refuses_again (state_of old) (state g refusal.0) refusal.1 world cut refuses clean idle is_open project ended
