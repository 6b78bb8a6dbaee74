-- What the plan that gives a workunit up makes of a world is what the machine makes of it.
use Rattle.std.proofs.Common.{◌≡◌, ℕ, List, [], ◌∷◌, bytes_eq, if◌then◌else◌, Some, None, Result, Ok, Err, IfErr, IfOk, refl, sym, ap, subst, ◌∙◌, inl, inr, arith}
use Rattle.std.proofs.lemmas.Bool.{cases_Bool}
use Rattle.sqlite.specs.Effect.{Database}
use Rattle.wu_core.specs.declared.fault.Fault.{Fault}
use Rattle.wu_core.specs.declared.fault.Fault.TheVariants.{UnknownWorkunit}
use Rattle.wu_core.specs.declared.workunit.Workunit.{Workunit}
use Rattle.wu_core.specs.World.{World}
use Rattle.wu_rules.specs.Cancelling.{cancelled}
use Rattle.wu_schema.specs.Refines.{Refines}
use Rattle.wu_store.specs.Changing.{AreRight, made_all}
use Rattle.wu_store.specs.declared.changes.Change.TheVariants.{Replace}
use Rattle.wu_store.proofs.WorldOnce.{once_named, once_number}
use Rattle.wu_plans.specs.declared.plan.Plan.{Plan}
use Rattle.wu_machine.specs.Imports.{Done}
use Rattle.wu_machine.specs.Machine.{cancel_done, done, IsUpToDate}
use Rattle.wu_plans.specs.Planning.{IsCancelPlan, IsPlan, RefusesCancel}
use Rattle.wu_machine.specs.Commands.{reply_of_answer}
use Rattle.wu_machine.specs.Requests.{AskCancel, Cancelled, Reply}
use Rattle.wu_plans.specs.declared.touched.Touch.{Touch}
use Rattle.wu_plans.specs.Touched.{AreImages, touched_named, untouched, with_touched}
use Rattle.wu_machine.specs.Worlds.{workunit_named, with_named}
use Rattle.wu_machine.proofs.Versions.{done_up_to_date}
use Rattle.wu_plans.proofs.PlanLemmas.{classed}
use Rattle.wu_plans.proofs.TouchedLemmas.{ChangesTo, images_by_row, images_empty, images_loaded, left_by_row, loaded, loaded_found, name_found, replaced_all, touched_empty}

module _ (db : Database) (world : World) (stands : Refines db world) (name : List ℕ) (w : Workunit) (present : workunit_named world name ≡ Some w) where
  images : AreImages world (untouched w ∷ [])
  images = images_loaded world (once_named db world stands) [] (untouched w ∷ []) name w present refl (λ q. refl) (images_empty world)

  there : touched_named (untouched w ∷ []) name ≡ Some (untouched w)
  there = loaded_found world (once_named db world stands) [] (untouched w ∷ []) name w present refl (λ q. refl)

  here : with_touched (untouched w ∷ []) world ≡ world
  here = loaded world (once_named db world stands) [] (untouched w ∷ []) name w present refl (λ q. refl) ∙ touched_empty world

  -- another of its name and number in its place
  module _ (image : Workunit) (named : image.name ≡ w.name) (numbered : image.number ≡ w.number) where
    abbrev changed : Touch
    changed = record { was = w; now = image }

    found_by : (q : List ℕ) → touched_named (changed ∷ []) q ≡ (if bytes_eq w.name q then Some changed else touched_named (untouched w ∷ []) q)
    found_by q = ap (λ n. if bytes_eq n q then Some changed else None) named ∙ elim (cases_Bool (bytes_eq w.name q)) [
      | inl on ↦ rw on refl
      | inr off ↦ rw off refl
    ]

    pub replaced_one : (change : Workunit → Workunit) → change w ≡ image → ChangesTo (Replace w image ∷ []) world (with_named world name change)
    replaced_one change makes =
        let all = images_by_row world (untouched w ∷ []) (changed ∷ []) name (untouched w) image there images named numbered found_by in
        let now = left_by_row world (untouched w ∷ []) (changed ∷ []) name (untouched w) image there images named numbered found_by change makes in
        let put = replaced_all (changed ∷ []) world (once_named db world stands) (once_number db world stands) all (λ i j d low within. absurd (omega (arith, low, within))) in
        (put.0 ∙ now ∙ ap (λ (v : World). with_named v name change) here, put.1)

pub same_name : (v : Workunit) → (cancelled v).name ≡ v.name
unfolding cancelled
same_name v = refl

same_number : (v : Workunit) → (cancelled v).number ≡ v.number
unfolding cancelled
same_number v = refl

module _ (db : Database) (world : World) (stands : Refines db world) (is : IsUpToDate world) (name : List ℕ) where
  asked : done world (AskCancel name) ≡ cancel_done world name (workunit_named world name)
  asked = done_up_to_date world (AskCancel name) is

  pub cancel_unknown : workunit_named world name ≡ None → done world (AskCancel name) ≡ Err UnknownWorkunit
  cancel_unknown none = asked ∙ ap (cancel_done world name) none

  pub cancel_planned : (w : Workunit) → workunit_named world name ≡ Some w → (r : Result Plan Fault) → IfOk r (IsCancelPlan w) → IfErr r (RefusesCancel w) → IsPlan world (AskCancel name) r
  cancel_planned w present (Ok plan) it err =
      let one = replaced_one db world stands name w present (cancelled w) (same_name w) (same_number w) cancelled refl in
      record {
        done = asked ∙ ap (cancel_done world name) present ∙ rw it.undecided (ap (λ (d : Done). Ok d) (same one.0));
        right = subst (λ changes. AreRight changes world) (sym it.changes) (one.1 (classed world is));
        idle = λ none. absurd none;
      }
    where
      same : made_all (Replace w (cancelled w) ∷ []) world ≡ with_named world name cancelled
          → ◌≡◌ {A = Done} (Cancelled name, with_named world name cancelled) (reply_of_answer plan.answer, made_all plan.changes.items world)
      same made =
          ap {B = Done} (λ (n : List ℕ). (Cancelled n, with_named world name cancelled)) (sym (name_found world.workunits name w present))
          ∙ ap {B = Done} (λ (a : Reply). (a, with_named world name cancelled)) (sym (ap (λ a. reply_of_answer a) it.answer))
          ∙ ap {B = Done} (λ (v : World). (reply_of_answer plan.answer, v)) (sym (ap (λ changes. made_all changes world) it.changes ∙ made))
  cancel_planned w present (Err fault) it (inl memory) = inr (inl memory)
  cancel_planned w present (Err fault) it (inr other) =
      inl (asked ∙ ap (cancel_done world name) present ∙ rw other.1 (ap (λ (f : Fault). Err f) (sym other.0)))
