-- What stands of a session after each exit of a command.
use Rattle.std.proofs.Common.{arith, refl, ◌≡◌, ◌≢◌, ◌≤◌, ◌⊎◌, Bool, true, false, List, [], ◌∷◌, Result, Ok, Err, IfErr, IsTrue, OnOk, sym, ap, subst, ◌∙◌, inl, inr}
use Rattle.sqlite.specs.Effect.{Database}
use Rattle.sqlite.specs.State.{State, HasCleanDisk, Survives}
use Rattle.sqlite_trees.specs.View.{doubt}
use Rattle.wu_core.specs.declared.fault.Fault.{Fault}
use Rattle.wu_core.specs.declared.fault.Fault.TheVariants.{Broken, NotAProject}
use Rattle.wu_schema.specs.Faults.{IsFailure}
use Rattle.wu_core.specs.World.{World}
use Rattle.sqlite.specs.Held.{Held, state}
use Rattle.sqlite.specs.Store.{Ghosts}
use Rattle.wu_schema.specs.Asking.{IsAsBefore}
use Rattle.wu_schema.specs.Calls.{LeavesOnly, IsBack, IsDone, IsMade, IsRefused, IsUndone}
use Rattle.wu_schema.specs.Others.{SparesOthers}
use Rattle.wu_passes.specs.Adopting.{KeepsAll, LeavesNoMore}
use Rattle.wu_store.specs.Changing.{AreRight, made_all, MakesWorlds}
use Rattle.wu_passes.specs.Committing.{FoundAs, FoundSparing}
use Rattle.wu_machine.specs.Machine.{done, reply, reply_of, step, world_of}
use Rattle.wu_plans.specs.Planning.{IsPlan, Plans}
use Rattle.wu_machine.specs.Commands.{reply_of_answer}
use Rattle.wu_store.specs.Loading.{IsReadOnly, IsStoreFault}
use Rattle.wu_store.specs.StandsFor.{StandsFor}
use Rattle.wu_machine.specs.Requests.{Request}
use Rattle.wu_passes.specs.Leaving.{LeavesAtMost, RunsFrom}
use Rattle.wu_passes.specs.Standing.{GoesOn, HasEnded, IsCutBy, KeepsOpen, KeepsShut, MakesSome, ShowsWorld, RefinesAfterFault, FailureCause}
use Rattle.wu_plans.specs.declared.plan.Plan.{Plan}
use Rattle.wu_machine.specs.declared.command.Answer.{Answer}
use Rattle.wu_store.specs.declared.changes.Change.{Change}

-- a call that reads
pub shows_back : (old new : State) (world : World) → IsBack old new → ShowsWorld old world → ShowsWorld new world
shows_back old new world back shows is_open =
    let was = shows (back.was_open is_open) in
    let now : new.now ≡ old.now = elim (back.now is_open) [ inl same ↦ same | inr last ↦ last ∙ was.1 ] in
    (subst (λ (d : Database). StandsFor d world) (sym now) was.0, back.committed is_open ∙ was.1 ∙ sym now)

pub leaves_read : (old new : State) → HasCleanDisk new → Survives old new (λ _. ⊥) → LeavesNoMore old new
leaves_read old new clean survives db may = elim (survives.crash clean db may) [ inl before ↦ before | inr none ↦ absurd none ]

pub goes_read : (old new : State) (world : World) → HasCleanDisk new → IsReadOnly old new → GoesOn old world → GoesOn new world
goes_read old new world clean read goes = record {
  stands = shows_back old new world (read.back clean) goes.stands;
  left = λ db may. goes.left db (leaves_read old new clean read.survives db may);
}

pub goes_ended : (s : State) (world : World) (request : Request) → GoesOn s world → HasEnded s world request
goes_ended s world request goes = record { stands = λ _. goes; left = λ db may. inl (goes.left db may) }

-- the changes are done
pub goes_done : (old new : State) (world : World) (changes : List Change) → StandsFor old.now world → AreRight changes world → IsDone (MakesWorlds changes) old new → GoesOn new (made_all changes world)
goes_done old new world changes stands right is_done =
    let after = is_done.makes.stands world stands right in
    record { stands = λ is_open. (after, is_done.committed); left = λ db may. record { database = new.now; same = sym (is_done.left.only db may); stands = after } }

-- they were cut: while the connection is open, all is as before
goes_undone : (old new : State) (world : World) → GoesOn old world → IsUndone old new → IsTrue new.is_open → GoesOn new world
goes_undone old new world goes undone is_open =
    let was = goes.stands (undone.was_open is_open) in
    let (now, committed) = undone.now is_open in
    let same : new.now ≡ old.now = now ∙ was.1 in
    let stands : StandsFor new.now world = subst (λ (d : Database). StandsFor d world) (sym same) was.0 in
    record {
      stands = λ _. (stands, committed ∙ sym now);
      left = λ db may. record { database = new.now; same = ap (λ (d : Database). d.trees) now ∙ sym ((undone.left is_open).only db may); stands = stands };
    }

pub ended_undone : (old new : State) (world : World) (request : Request) (changes : List Change) → HasCleanDisk new → StandsFor old.now world → GoesOn old world → AreRight changes world
    → step world request ≡ made_all changes world → IsUndone old new → Survives old new (IsMade (MakesWorlds changes) old.now) → HasEnded new world request
ended_undone old new world request changes clean stands goes right is undone survives = record {
  stands = λ is_open. goes_undone old new world goes undone is_open;
  left = λ db may. elim (survives.crash clean db may) [ inl before ↦ inl (goes.left db before) | inr after ↦ inr (subst (λ w. FoundAs db w) (sym is) (record { database = after.0; same = after.1; stands = after.2.stands world stands right })) ];
}

-- what a plan says of the machine
pub reply_is : (world : World) (request : Request) (answer : Answer) (changes : List Change) → Plans world request answer changes → reply world request ≡ Ok (reply_of_answer answer)
reply_is world request answer changes plans = ap reply_of plans.done

pub step_is : (world : World) (request : Request) (answer : Answer) (changes : List Change) → Plans world request answer changes → step world request ≡ made_all changes world
step_is world request answer changes plans = ap (world_of world) plans.done

pub refused_is : (world : World) (request : Request) (fault : Fault) → (done world request ≡ Err fault) ⊎ IsStoreFault fault → (reply world request ≡ Err fault) ⊎ IsStoreFault fault
refused_is world request fault (inl is) = inl (ap reply_of is)
refused_is world request fault (inr store) = inr store

-- what a plan's fault says of a session over this world
pub error_is : (f g : Fault) → ◌≡◌ {A = Result Plan Fault} (Err f) (Err g) → f ≡ g
error_is f g is = cc

-- a fault of a plan over a connection that was open, or for want of memory or of the disk
pub plan_refused : (old new : State) (world : World) (request : Request) (fault : Fault) → ShowsWorld old world → IsBack old new
    → IsFailure fault ⊎ IsTrue new.is_open → (StandsFor old.now world → IsPlan world request (Err fault)) → (reply world request ≡ Err fault) ⊎ IsStoreFault fault
plan_refused old new world request fault shows back (inl (inl memory)) plan = inr (inl memory)
plan_refused old new world request fault shows back (inl (inr broken)) plan = inr (inr (inl broken))
plan_refused old new world request fault shows back (inr still) plan = refused_is world request fault (plan (shows (back.was_open still)).0)

-- a plan that was cut makes something
makes_some : (world : World) (request : Request) (answer : Answer) (changes : List Change) (fault : Fault) → Plans world request answer changes
    → (changes ≡ [] → ◌≡◌ {A = Result Answer Fault} (Err fault) (Ok answer)) → MakesSome world request
makes_some world request answer changes fault plans none = (
  (reply_of_answer answer, reply_is world request answer changes plans),
  λ nothing. absurd (let no = none (plans.idle nothing) in cc),
)

-- why a command was not done: its plan is there,
pub cut_why : (Broke : Type 0) (ended : Bool) (world : World) (request : Request) (answer : Answer) (changes : List Change) (r : Result Answer Fault) → Plans world request answer changes
    → (changes ≡ [] → r ≡ Ok answer) → IfErr r (IsCutBy ended) → IfErr r (FailureCause Broke ended world request)
cut_why Broke ended world request answer changes (Ok given) plans none cut = tt
cut_why Broke true world request answer changes (Err fault) plans none cut = inr (cut, makes_some world request answer changes fault plans none)
cut_why Broke false world request answer changes (Err fault) plans none refused = inr (inr (refused, makes_some world request answer changes fault plans none))

-- or there is none
pub refused_why : (Broke : Type 0) (world : World) (request : Request) (fault : Fault) → fault ≢ Broken → fault ≢ NotAProject → (reply world request ≡ Err fault) ⊎ IsStoreFault fault
    → FailureCause Broke false world request fault
refused_why Broke world request fault whole served (inl told) = inl told
refused_why Broke world request fault whole served (inr (inl memory)) = inr (inl memory)
refused_why Broke world request fault whole served (inr (inr (inl broken))) = absurd (whole broken)
refused_why Broke world request fault whole served (inr (inr (inr refused))) = absurd (served refused)

pub unplanned_why : (Broke : Type 0) (ended : Bool) (world : World) (request : Request) (fault : Fault) → (ended ≡ true → fault ≡ Broken) → (fault ≡ Broken → ended ≡ true) → (fault ≡ Broken → Broke)
    → fault ≢ NotAProject → (reply world request ≡ Err fault) ⊎ IsStoreFault fault → FailureCause Broke ended world request fault
unplanned_why Broke true world request fault ends broken broke served told = inl (ends refl, broke (ends refl))
unplanned_why Broke false world request fault ends broken broke served told = refused_why Broke world request fault (λ is. let no = broken is in cc) served told

-- before a transaction all stands as it did, whether the session ends or not
pub stands_read : (ended : Bool) (s : State) (world : World) (request : Request) → GoesOn s world → RefinesAfterFault ended s world request
stands_read true s world request goes = goes_ended s world request goes
stands_read false s world request goes = goes

-- a read that is refused leaves the connection open
pub refused_open : (s : State) (fault : Fault) → fault ≡ NotAProject → IsFailure fault ⊎ IsTrue s.is_open → IsTrue s.is_open
refused_open s fault is (inl (inl memory)) = absurd (let no = sym is ∙ memory in cc)
refused_open s fault is (inl (inr broken)) = absurd (let no = sym is ∙ broken in cc)
refused_open s fault is (inr still) = still

-- ---- what is as it was

pub keeps_self : (s : State) → KeepsAll s s
keeps_self s = record { now = refl; committed = refl; left = λ db may. may }

-- after a question that changed nothing
pub keeps_as_before : {S : Type 0} (g : Ghosts S) (old new : Held S) → HasCleanDisk (state g new) → Survives (state g old) (state g new) (λ _. ⊥) → IsAsBefore g old new → KeepsAll (state g old) (state g new)
keeps_as_before g old new clean survives (inl same) = subst (λ h. KeepsAll (state g old) (state g h)) (sym same) (record { now = refl; committed = refl; left = λ db may. may })
keeps_as_before g old new clean survives (inr same) = record {
  now = same.0.now_is;
  committed = same.0.committed_is;
  left = λ db may. elim (survives.crash clean db may) [ inl before ↦ before | inr none ↦ absurd none ];
}

-- after a plan that was refused
pub plan_keeps : {S : Type 0} (g : Ghosts S) (old new : Held S) (fault : Fault) → HasCleanDisk (state g new) → Survives (state g old) (state g new) (λ _. ⊥) → IsFailure fault ⊎ IsAsBefore g old new
    → IsFailure fault ⊎ KeepsAll (state g old) (state g new)
plan_keeps g old new fault clean survives (inl failed) = inl failed
plan_keeps g old new fault clean survives (inr same) = inr (keeps_as_before g old new clean survives same)

-- with an answer of a plan that changes nothing
pub idle_keeps : {S : Type 0} (g : Ghosts S) (old mid new : Held S) (answer : Answer) (changes : List Change) (r : Result Answer Fault) → changes ≡ [] → (changes ≡ [] → state g new ≡ state g mid)
    → KeepsAll (state g old) (state g mid) → OnOk r (KeepsAll (state g old) (state g new))
idle_keeps g old mid new answer changes (Ok given) none same kept = subst (λ s. KeepsAll (state g old) s) (sym (same none)) kept
idle_keeps g old mid new answer changes (Err fault) none same kept = tt

pub keeps_then : (a b c : State) → KeepsAll a b → KeepsAll b c → KeepsAll a c
keeps_then a b c one two = record { now = two.now ∙ one.now; committed = two.committed ∙ one.committed; left = λ db may. one.left db (two.left db may) }

-- after changes that were refused, where all was committed
pub changes_keep : (old new : State) → old.committed ≡ old.now → LeavesOnly old old.committed.trees → IsRefused old new → KeepsAll old new
changes_keep old new whole only refused = record {
  now = refused.now ∙ whole;
  committed = refused.committed;
  left = λ db may. subst (λ t. old.may_leave t) (sym (refused.left.only db may)) only.stays;
}

-- ---- whatever a stop could leave before

-- nothing was to be made
pub from_nothing : (old new : State) (world : World) (request : Request) (answer : Answer) (changes : List Change) (ended : Bool) → changes ≡ [] → new ≡ old → Plans world request answer changes
    → RunsFrom old world request ended new (Ok answer)
from_nothing old new world request answer changes ended none same plans = (
  reply_is world request answer changes plans,
  inr (step_is world request answer changes plans ∙ ap (λ cs. made_all cs world) none, subst (λ s. KeepsAll old s) (sym same) (keeps_self old)),
)

-- the changes are done
pub from_done : (old new : State) (world : World) (request : Request) (answer : Answer) (changes : List Change) (ended : Bool) → StandsFor old.now world → Plans world request answer changes
    → IsDone (MakesWorlds changes) old new → RunsFrom old world request ended new (Ok answer)
from_done old new world request answer changes ended stands plans is_done = (
  reply_is world request answer changes plans,
  inl (subst (λ w. GoesOn new w) (sym (step_is world request answer changes plans)) (goes_done old new world changes stands plans.right is_done), is_done.makes.spares world stands plans.right),
)

-- they were refused
pub from_refused : (old new : State) (world : World) (request : Request) (fault : Fault) → ShowsWorld old world → IsStoreFault fault → IsUndone old new → IsRefused old new → KeepsAll old new
    → RunsFrom old world request false new (Err fault)
from_refused old new world request fault shows store undone refused kept =
    let was = shows (undone.was_open refused.is_open) in
    (inr store, λ is_open. (subst (λ (d : Database). StandsFor d world) (sym kept.now) was.0, kept.committed ∙ was.1 ∙ sym kept.now), kept.left)

-- they were cut
pub from_cut : (old new : State) (world : World) (request : Request) (answer : Answer) (changes : List Change) (fault : Fault) → HasCleanDisk new → StandsFor old.now world → ShowsWorld old world
    → Plans world request answer changes → IsStoreFault fault → IsUndone old new → Survives old new (IsMade (MakesWorlds changes) old.now) → RunsFrom old world request true new (Err fault)
from_cut old new world request answer changes fault clean stands shows plans store undone survives = (
  inr store,
  λ is_open.
      let was = shows (undone.was_open is_open) in
      let (now, committed) = undone.now is_open in
      let same : new.now ≡ old.now = now ∙ was.1 in
      (subst (λ (d : Database). StandsFor d world) (sym same) was.0, committed ∙ sym now),
  λ db may. elim (survives.crash clean db may) [
    | inl before ↦ inl before
    | inr after ↦ inr (subst (λ w. FoundSparing old.now db w) (sym (step_is world request answer changes plans)) (record {
      found = record { database = after.0; same = after.1; stands = after.2.stands world stands plans.right };
      spares = after.2.spares world stands plans.right;
    }))
  ],
)

-- a plan was refused
pub from_unplanned : (old new : State) (world : World) (request : Request) (ended : Bool) (fault : Fault) → HasCleanDisk new → ShowsWorld old world → IsBack old new → Survives old new (λ _. ⊥)
    → (reply world request ≡ Err fault) ⊎ IsStoreFault fault → RunsFrom old world request ended new (Err fault)
from_unplanned old new world request true fault clean shows back survives told = (told, shows_back old new world back shows, λ db may. inl (leaves_read old new clean survives db may))
from_unplanned old new world request false fault clean shows back survives told = (told, shows_back old new world back shows, leaves_read old new clean survives)

pub most_then : (ended : Bool) (old mid new : State) (world : World) (request : Request) → KeepsAll old mid → LeavesAtMost ended mid new world request → LeavesAtMost ended old new world request
most_then true old mid new world request kept most =
    λ db may. elim (most db may) [ inl before ↦ inl (kept.left db before) | inr after ↦ inr (subst (λ (d : Database). FoundSparing d db (step world request)) kept.now after) ]
most_then false old mid new world request kept most = λ db may. kept.left db (most db may)

-- what is carried out after a question
pub from_then : (old mid new : State) (world : World) (request : Request) (ended : Bool) (r : Result Answer Fault) → KeepsAll old mid → RunsFrom mid world request ended new r → RunsFrom old world request ended new r
from_then old mid new world request ended (Ok answer) kept runs = (
  runs.0,
  elim runs.1 [ inl goes ↦ inl (goes.0, subst (λ (d : Database). SparesOthers d new.now) kept.now goes.1) | inr same ↦ inr (same.0, keeps_then old mid new kept same.1) ],
)
from_then old mid new world request ended (Err fault) kept runs = (runs.0, runs.1, most_then ended old mid new world request kept runs.2)

-- ---- whether the connection is open

pub open_self : (s : State) → KeepsOpen s s
open_self s clean is_open = inl is_open

pub open_then : (a b c : State) → doubt b.is_clean ≤ doubt c.is_clean → a.faults ≤ b.faults → b.faults ≤ c.faults → KeepsOpen a b → KeepsOpen b c → KeepsOpen a c
open_then a b c kept rises more one two clean is_open =
    let before : HasCleanDisk b = omega (arith, kept, clean) in
    elim (one before is_open) [
      | inl mid ↦ elim (two clean mid) [ inl still ↦ inl still | inr failed ↦ inr (omega (arith, failed, rises)) ]
      | inr failed ↦ inr (omega (arith, failed, more))
    ]

pub shut_then : (a b c : State) → doubt b.is_clean ≤ doubt c.is_clean → KeepsShut a b → KeepsShut b c → KeepsShut a c
shut_then a b c kept one two clean is_open = one (omega (arith, kept, clean)) (two clean is_open)
