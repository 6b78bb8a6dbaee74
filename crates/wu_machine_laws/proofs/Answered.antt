-- What a cancel and an upgrade did, where they are answered.
use Rattle.std.proofs.Common.{◌≡◌, ℕ, Bool, true, List, Option, Some, None, option_map, Result, Ok, bytes_eq, refl, sym, ap, subst, ◌∙◌}
use Rattle.std.specs.Option.{IsSomeAnd}
use Rattle.std.specs.Prelude.{if◌then◌else◌}
use Rattle.wu_core.specs.World.{World}
use Rattle.wu_core.specs.declared.fault.Fault.{Fault}
use Rattle.wu_core.specs.declared.workunit.Workunit.{Workunit}
use Rattle.wu_rules.specs.Cancelling.{cancelled}
use Rattle.wu_rules.specs.Counts.{is_undecided}
use Rattle.wu_rules_laws.proofs.Cancels.{cancels}
use Rattle.wu_rules_laws.specs.Laws.{IsCancelled}
use Rattle.wu_machine.specs.Imports.{Done}
use Rattle.wu_machine.specs.Machine.{cancel_done, present_version, reply_of, world_of}
use Rattle.wu_machine.specs.Requests.{AskCancel, Cancelled, Upgraded}
use Rattle.wu_machine.specs.Worlds.{with_named, workunit_named}
use Rattle.wu_machine.proofs.Versions.{done_upgrade}
use Rattle.wu_machine_laws.proofs.FileLaws.{find_map, found_passes}
use Rattle.wu_machine_laws.proofs.Results.{either, not_older}
use Rattle.wu_machine_laws.specs.Leaving.{DoesAsAnswered}

-- what a cancel that is answered found, and what it made of it
abbrev Did : World → List ℕ → Result Done Fault → Type 0
Did world name result =
    reply_of result ≡ Ok (Cancelled name)
    → IsSomeAnd (workunit_named world name) (λ w. (is_undecided w ≡ true) × IsSomeAnd (workunit_named (world_of world result) name) (IsCancelled w))

-- the workunit of the name, cancelled
named_cancelled : (world : World) (name : List ℕ) (w : Workunit) → workunit_named world name ≡ Some w
    → workunit_named (with_named world name cancelled) name ≡ Some (cancelled w)
unfolding cancelled
named_cancelled world name w found =
    find_map (λ v. bytes_eq v.name name) (λ v. if bytes_eq v.name name then cancelled v else v) (λ v. same v (bytes_eq v.name name)) world.workunits
    ∙ (ap (option_map (λ v. if bytes_eq v.name name then cancelled v else v)) found
    ∙ ap (λ b. Some (if b then cancelled w else w)) (found_passes (λ v. bytes_eq v.name name) world.workunits w found))
  where
    same : (v : Workunit) (b : Bool) → bytes_eq (if b then cancelled v else v).name name ≡ bytes_eq v.name name
    same v b = either (λ (u : Workunit). bytes_eq u.name name ≡ bytes_eq v.name name) b _ _ (λ is. refl) (λ other. refl)

did : (world : World) (name : List ℕ) (found : Option Workunit) → workunit_named world name ≡ found → Did world name (cancel_done world name found)
did world name None is = λ answered. absurd (cc)
did world name (Some w) is = either (Did world name) (is_undecided w) _ _ (λ undecided answered.
    subst (λ o. IsSomeAnd o (λ v. (is_undecided v ≡ true) × IsSomeAnd (workunit_named (with_named world name cancelled) name) (IsCancelled v))) (sym is)
    (undecided, subst (λ o. IsSomeAnd o (IsCancelled w)) (sym (named_cancelled world name w is)) (cancels w))) (λ decided answered. absurd (cc))

pub does_as_answered : (world : World) → DoesAsAnswered world
does_as_answered world = record {
  cancelled = λ name answered.
      let younger = not_older world (AskCancel name) _ refl answered in
      rw younger (did world name (workunit_named world name) refl (rw younger at answered));
  upgraded = λ from to answered.
      let same : Ok (Upgraded world.version present_version) ≡ Ok (Upgraded from to) = sym (ap reply_of (done_upgrade world)) ∙ answered in
      let one : world.version ≡ from = cc in
      let other : present_version ≡ to = cc in
      (sym one, sym other, ap (λ result. (world_of world result).version) (done_upgrade world) ∙ other);
}
