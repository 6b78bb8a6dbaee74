-- A cancel and each pass keep a project one: what they make of a workunit can be read.
use Rattle.std.proofs.Common.{◌≡◌, ◌≢◌, ◌⊎◌, ℕ, ◌<◌, ◌≤◌, Bool, true, false, List, [], ◌∷◌, ◌++◌, length, Option, Some, None, is_some, refl, sym, subst, ◌∙◌, ap, inl, inr, arith}
use Rattle.std.proofs.lemmas.List.Elements.{All-from_recursion, recursion_from_All}
use Rattle.std.specs.List.{AllByRecursion}
use Rattle.std.specs.Prelude.{⊤, ◌^◌, flat_map, if◌then◌else◌}
use Rattle.wu_core.specs.Limits.{last_moment, most_instances}
use Rattle.wu_core.specs.World.{World}
use Rattle.wu_core.specs.declared.states.Assimilate.TheVariants as assimilate
use Rattle.wu_core.specs.declared.workunit.Workunit.{Workunit}
use Rattle.wu_rules.specs.Assimilation.{assimilated, emptied}
use Rattle.wu_rules.specs.Cancelling.{cancelled}
use Rattle.wu_rules.specs.Counts.{is_undecided}
use Rattle.wu_rules.specs.Instances.{is_ready_assimilate}
use Rattle.wu_rules.specs.Transition.{transitioned}
use Rattle.wu_rules.specs.Validation as validation
use Rattle.wu_rules.proofs.Keeping.{formed_stays, Keeps, keeps_cancelled, keeps_emptied, keeps_transitioned, keeps_validated, StaysWithInstances}
use Rattle.wu_rules.specs.Due.{chosen}
use Rattle.wu_core.specs.Storable.{IsMoment, IsName, IsPlace, IsStoredInstance, IsStorable, IsAbove}
use Rattle.wu_rules.specs.declared.due.Pass.{Pass}
use Rattle.wu_rules.specs.declared.due.Pass.TheVariants.{Transition, Validate, Assimilate, Delete, Purge}
use Rattle.wu_machine.specs.FileRows.{Rule, after_row}
use Rattle.wu_machine.specs.Machine.{cancel_done, HasValues, is_limit_right, IsUpToDate, step}
use Rattle.wu_machine.specs.Passes.{images, is_among, passed}
use Rattle.wu_machine.specs.Sound.{IsProject}
use Rattle.wu_machine.specs.Laws.{KeepsProjects}
use Rattle.wu_machine.specs.Requests.{Request, AskBatch, AskSent, AskReported, AskClasses, AskCancel, AskPass, AskUpgrade}
use Rattle.wu_machine.specs.Worlds.{workunit_named}
use Rattle.wu_machine.proofs.ApartLemmas.{Apart, apart_pairs, pairs_apart}
use Rattle.wu_machine.proofs.BatchKeeps.{has_classes, keeps_done, KeepsProject, keeps_if, keeps_project}
use Rattle.wu_machine.proofs.StorableLemmas.{IsKeeping, keeps_project_classes, keeps_project_reported, keeps_project_sent, row_keeps}
use Rattle.wu_machine.proofs.Versions.{done_upgrade}

-- ---- a workunit that can be read, as a rule leaves it

stored_stays : StaysWithInstances IsStoredInstance
stored_stays = record {
  new = record { values = record { host = tt; moments = record { sent_at = tt; deadline = tt; received_at = tt }; output = omega arith }; formed = formed_stays.new };
  judged = λ i v viable h. record { values = record { host = h.values.host; moments = h.values.moments; output = h.values.output }; formed = formed_stays.judged i v viable h.formed };
  filed = λ i f h. record { values = record { host = h.values.host; moments = h.values.moments; output = h.values.output }; formed = formed_stays.filed i f h.formed };
  deleted = λ i h. record { values = record { host = h.values.host; moments = h.values.moments; output = omega arith }; formed = formed_stays.deleted i h.formed };
  ended = λ i o other h. record { values = record { host = h.values.host; moments = h.values.moments; output = h.values.output }; formed = formed_stays.ended i o other h.formed };
  refused = λ i h. record { values = record { host = h.values.host; moments = h.values.moments; output = h.values.output }; formed = formed_stays.refused i h.formed };
}

-- the number of a canonical result, where there is one, fits into 32 bits
few_places : (place : Option ℕ) → ((n : ℕ) → place ≡ Some n → n < 2 ^ 32) → IsPlace place
few_places None low = tt
few_places (Some n) low = low n refl

place_low : (place : Option ℕ) (n : ℕ) → IsPlace place → place ≡ Some n → n < 2 ^ 32
place_low None n low e = cc
place_low (Some m) n low e = (let same : m ≡ n = cc in omega (arith, low))

pub keeps_storable : (w v : Workunit) → Keeps IsStoredInstance w v → IsStorable w → IsStorable v
keeps_storable w v keeps storable = record {
  number = subst (λ n. n < 2 ^ 63) (sym keeps.number) storable.number;
  row = record {
    name = subst IsName (sym keeps.name) storable.row.name;
    parameters = keeps.parameters storable.instances.few storable.row.parameters;
    input = (let short = keeps.input in let long = storable.row.input in omega (arith, short, long));
    canonical = few_places v.canonical (λ n e. low n (keeps.canonical n e));
    stamped = record {
      moment = subst IsMoment (sym keeps.done_at) storable.row.stamped.moment;
      done = λ e. ap is_some keeps.done_at ∙ storable.row.stamped.done (keeps.done e);
      done_only = λ e. keeps.stays_done (storable.row.stamped.done_only (sym (ap is_some keeps.done_at) ∙ e));
    };
    bare = refl;
    classless = refl;
  };
  class = (let less = keeps.class in let within = storable.class in omega (arith, less, within));
  instances = record { each = keeps.each storable.instances.each; few = few };
  whole = record {
    within = subst (λ total. length v.instances ≤ total) (sym keeps.total) (keeps.room w.params.max_total_results (omega arith) storable.whole.within);
    canonical = λ n e. among n (keeps.canonical n e);
  };
}
  where
    among : (n : ℕ) → (w.canonical ≡ Some n) ⊎ (n < length v.instances) → n < length v.instances
    among n (inl e) = (let before = storable.whole.canonical n e in let grows = keeps.grows in omega (arith, before, grows))
    among n (inr within) = within

    few : length v.instances ≤ most_instances
    few = keeps.room most_instances storable.row.parameters.max_total_results.1 storable.instances.few

    low : (n : ℕ) → (w.canonical ≡ Some n) ⊎ (n < length v.instances) → n < 2 ^ 32
    low n (inl e) = place_low w.canonical n storable.row.canonical e
    low n (inr within) = (let at_most = few in omega (arith, within, at_most))

-- ---- a cancel

-- a cancel as a row that is applied wherever its workunit is
abbrev cancel_rule : Rule (List ℕ)
cancel_rule = record { workunit = λ name. name; verdict = λ name w. 0; image = λ name w. cancelled w }

cancel_keeps : (name : List ℕ) → IsKeeping cancel_rule name
cancel_keeps name = record {
  number = λ w. (keeps_cancelled IsStoredInstance stored_stays w).number;
  name = λ w. (keeps_cancelled IsStoredInstance stored_stays w).name;
  storable = λ w storable applied. keeps_storable w (cancelled w) (keeps_cancelled IsStoredInstance stored_stays w) storable;
}

module _ (world : World) (project : IsProject world) where
  cancel_found : (name : List ℕ) (found : Option Workunit) → workunit_named world name ≡ found → IsUpToDate world → KeepsProject world (cancel_done world name found)
  cancel_found name None is now = project
  cancel_found name (Some w) is now =
      let kept : IsProject (after_row cancel_rule world name) = row_keeps cancel_rule name (cancel_keeps name) world now project in
      keeps_if (is_undecided w) world _ _ (rw is at kept) project

  -- a cancel keeps a project one, whatever becomes of it
  pub keeps_project_cancel : (name : List ℕ) → IsProject (step world (AskCancel name))
  keeps_project_cancel name = keeps_done world (AskCancel name) project refl (cancel_found name (workunit_named world name) refl)

-- ---- a pass

-- what became of a workunit: number and name are as they were, and it can be read
record Follows (w v : Workunit) : Type 0 where
  number : v.number ≡ w.number
  name : v.name ≡ w.name
  storable : IsStorable v

-- nothing is left of a workunit, or one that follows it
abbrev IsLeftOf : Workunit → List Workunit → Type 0
IsLeftOf w [] = ⊤
IsLeftOf w (v ∷ []) = Follows w v
IsLeftOf w (v ∷ u ∷ vs) = ⊥

abbrev OthersThan : List ℕ → List Workunit → Type 0
OthersThan name = AllByRecursion (λ (v : Workunit). name ≢ v.name)

one_above : (n : ℕ) (w : Workunit) (vs us : List Workunit) → IsLeftOf w vs → w.number < n → IsAbove n us → IsAbove n (vs ++ us)
one_above n w [] us left low above = above
one_above n w (v ∷ []) us left low above = (subst (λ k. k < n) (sym left.number) low, above)
one_above n w (v ∷ u ∷ vs) us left low above = absurd left

one_other : (name : List ℕ) (w : Workunit) (vs us : List Workunit) → IsLeftOf w vs → name ≢ w.name → OthersThan name us → OthersThan name (vs ++ us)
one_other name w [] us left other others = others
one_other name w (v ∷ []) us left other others = ((λ same. other (same ∙ left.name)), others)
one_other name w (v ∷ u ∷ vs) us left other others = absurd left

one_apart : (w : Workunit) (vs us : List Workunit) → IsLeftOf w vs → OthersThan w.name us → Apart us → Apart (vs ++ us)
one_apart w [] us left others apart = apart
one_apart w (v ∷ []) us left others apart = (subst (λ name. OthersThan name us) (sym left.name) others, apart)
one_apart w (v ∷ u ∷ vs) us left others apart = absurd left

one_storable : (w : Workunit) (vs us : List Workunit) → IsLeftOf w vs → AllByRecursion IsStorable us → AllByRecursion IsStorable (vs ++ us)
one_storable w [] us left storable = storable
one_storable w (v ∷ []) us left storable = (left.storable, storable)
one_storable w (v ∷ u ∷ vs) us left storable = absurd left

module _ (change : Workunit → List Workunit) (leaves : (w : Workunit) → IsStorable w → IsLeftOf w (change w)) where
  all_above : (n : ℕ) (ws : List Workunit) → AllByRecursion IsStorable ws → IsAbove n ws → IsAbove n (flat_map change ws)
  all_above n [] storable above = tt
  all_above n (w ∷ ws) storable above = one_above n w (change w) (flat_map change ws) (leaves w storable.0) above.0 (all_above n ws storable.1 above.1)

  all_other : (name : List ℕ) (ws : List Workunit) → AllByRecursion IsStorable ws → OthersThan name ws → OthersThan name (flat_map change ws)
  all_other name [] storable others = tt
  all_other name (w ∷ ws) storable others = one_other name w (change w) (flat_map change ws) (leaves w storable.0) others.0 (all_other name ws storable.1 others.1)

  all_apart : (ws : List Workunit) → AllByRecursion IsStorable ws → Apart ws → Apart (flat_map change ws)
  all_apart [] storable apart = tt
  all_apart (w ∷ ws) storable apart =
      one_apart w (change w) (flat_map change ws) (leaves w storable.0) (all_other w.name ws storable.1 apart.0) (all_apart ws storable.1 apart.1)

  all_storable : (ws : List Workunit) → AllByRecursion IsStorable ws → AllByRecursion IsStorable (flat_map change ws)
  all_storable [] storable = tt
  all_storable (w ∷ ws) storable = one_storable w (change w) (flat_map change ws) (leaves w storable.0) (all_storable ws storable.1)

follows_rule : (w v : Workunit) → Keeps IsStoredInstance w v → IsStorable w → Follows w v
follows_rule w v keeps storable = record { number = keeps.number; name = keeps.name; storable = keeps_storable w v keeps storable }

follows_assimilated : (w : Workunit) (now : ℕ) → now ≤ last_moment → IsStorable w → Follows w (assimilated w now)
unfolding assimilated
follows_assimilated w now low storable = by (is_ready_assimilate w.assimilate)
  where
    by : (b : Bool) → Follows w (if b then record w { assimilate = assimilate.Done; done_at = Some now } else w)
    by true = record {
      number = refl;
      name = refl;
      storable = record {
        number = storable.number;
        row = record {
          name = storable.row.name;
          parameters = storable.row.parameters;
          input = storable.row.input;
          canonical = storable.row.canonical;
          stamped = record { moment = low; done = λ e. refl; done_only = λ e. refl };
          bare = refl;
          classless = refl;
        };
        class = storable.class;
        instances = storable.instances;
        whole = record { within = storable.whole.within; canonical = storable.whole.canonical };
      };
    }
    by false = record { number = refl; name = refl; storable = storable }

leaves_images : (pass : Pass) (now : ℕ) → now ≤ last_moment → (w : Workunit) → IsStorable w → IsLeftOf w (images pass now w)
leaves_images Transition now low w storable = follows_rule w (transitioned w now) (keeps_transitioned IsStoredInstance stored_stays w now) storable
leaves_images Validate now low w storable = follows_rule w (validation.validated w) (keeps_validated IsStoredInstance stored_stays w) storable
leaves_images Assimilate now low w storable = follows_assimilated w now low storable
leaves_images Delete now low w storable = follows_rule w (emptied w) (keeps_emptied IsStoredInstance stored_stays w) storable
leaves_images Purge now low w storable = tt

module _ (world : World) (project : IsProject world) where
  passed_keeps : (pass : Pass) (now limit min_age : ℕ) → now ≤ last_moment → IsUpToDate world → IsProject (passed pass now min_age limit world)
  passed_keeps pass now limit min_age low is = record {
    first = project.first;
    known = project.known;
    above = all_above change leaves world.next_number world.workunits stored project.above;
    next = project.next;
    verdicts = project.verdicts;
    storable = All-from_recursion IsStorable (flat_map change world.workunits) (all_storable change leaves world.workunits stored);
    names = apart_pairs (flat_map change world.workunits) (all_apart change leaves world.workunits stored (pairs_apart world.workunits project.names));
    classed = project.classed;
    classes_in_time = has_classes world is (passed pass now min_age limit world) refl;
  }
    where
      -- what the pass makes of a workunit, which it may not have taken
      change : Workunit → List Workunit
      change w = if is_among (chosen pass now min_age limit world) w then images pass now w else w ∷ []

      leaves : (w : Workunit) → IsStorable w → IsLeftOf w (change w)
      leaves w storable = by (is_among (chosen pass now min_age limit world) w)
        where
          by : (b : Bool) → IsLeftOf w (if b then images pass now w else w ∷ [])
          by true = leaves_images pass now low w storable
          by false = record { number = refl; name = refl; storable = storable }

      stored : AllByRecursion IsStorable world.workunits
      stored = recursion_from_All IsStorable world.workunits project.storable

  -- a pass keeps a project one, whatever becomes of it
  pub keeps_project_pass : (pass : Pass) (now limit min_age : ℕ) → now ≤ last_moment → IsProject (step world (AskPass pass now limit min_age))
  keeps_project_pass pass now limit min_age low =
      keeps_done world (AskPass pass now limit min_age) project refl
      (λ is. keeps_if (is_limit_right pass limit min_age) world _ _ (passed_keeps pass now limit min_age low is) project)

-- ---- a command

-- an upgrade leaves the present version, of an older one too
keeps_project_upgrade : (world : World) → IsProject world → IsProject (step world AskUpgrade)
keeps_project_upgrade world project =
    subst (KeepsProject world) (sym (done_upgrade world)) (record {
      first = omega arith;
      known = omega arith;
      above = project.above;
      next = project.next;
      verdicts = project.verdicts;
      storable = project.storable;
      names = project.names;
      classed = project.classed;
      classes_in_time = λ low. absurd (omega (arith, low));
    })

-- whatever becomes of a request, what it leaves of a project is one
pub keeps_by : (request : Request) → HasValues request → KeepsProjects request
keeps_by (AskBatch name template file) values world project = keeps_project world project name template file
keeps_by (AskSent name file) values world project = keeps_project_sent world project name file
keeps_by (AskReported name file) values world project = keeps_project_reported world project name file
keeps_by (AskClasses name file) values world project = keeps_project_classes world project name file
keeps_by (AskPass pass now limit min_age) values world project = keeps_project_pass world project pass now limit min_age values
keeps_by (AskCancel name) values world project = keeps_project_cancel world project name
keeps_by AskUpgrade values world project = keeps_project_upgrade world project
