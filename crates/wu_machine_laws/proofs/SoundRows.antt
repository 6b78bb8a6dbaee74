-- A cancel, and a row of a file, keep a sound world sound.
use Rattle.std.proofs.Common.{◌≡◌, ℕ, ◌≤◌, true, List, [], ◌∷◌, map, append-nil, Some, bytes_eq, refl, sym, subst, ◌∙◌, inl, inr}
use Rattle.std.proofs.lemmas.Bool.{cases_Bool}
use Rattle.std.proofs.lemmas.List.Concat.{flat_map_single}
use Rattle.std.proofs.lemmas.List.Elements.{All-cons, All-head, All-nil, All-tail}
use Rattle.std.proofs.lemmas.Slice.Eq.{bytes_eq-Decides}
use Rattle.std.specs.List.{All, flat_map}
use Rattle.std.specs.Prelude.{find, if◌then◌else◌}
use Rattle.wu_core.specs.Limits.{class_version}
use Rattle.wu_core.specs.Classes.{AreClassed, class_of, IsClassed, with_class}
use Rattle.wu_core.specs.Formed.{IsWorkunit}
use Rattle.wu_core.specs.World.{World}
use Rattle.wu_core.specs.declared.workunit.Archived.{Archived}
use Rattle.wu_core.specs.declared.workunit.Grant.{Grant}
use Rattle.wu_core.specs.declared.workunit.HostClass.{HostClass}
use Rattle.wu_core.specs.declared.workunit.Workunit.{Workunit}
use Rattle.wu_feed.specs.Ranges.{IsReportRow, IsSendRow}
use Rattle.wu_feed.specs.declared.reports.ReportRow.{ReportRow}
use Rattle.wu_feed.specs.declared.sends.SendRow.{SendRow}
use Rattle.wu_rules.specs.Cancelling.{cancelled}
use Rattle.wu_rules.specs.Counts.{is_undecided}
use Rattle.wu_rules.specs.Reporting.{report_verdict_in}
use Rattle.wu_rules.specs.Sending.{send_verdict_in}
use Rattle.wu_rules.specs.Consistent.{IsConsistent, Rewrites}
use Rattle.wu_rules_laws.proofs.Rewriting.{rewrites_unchanged, rules_rewrite}
use Rattle.wu_core.specs.Storable.{IsStoredArchived, IsStorable}
use Rattle.wu_core.proofs.ClassLemmas.{classed-set, in_order-set}
use Rattle.wu_machine.specs.FileRows.{Rule, after_classes, after_row, after_rows, report_rule, row_verdict, send_rule}
use Rattle.wu_machine.specs.Machine.{cancel_done, IsUpToDate, step, world_of}
use Rattle.wu_machine.specs.Sound.{IsProject, IsSound}
use Rattle.wu_machine.specs.Requests.{AskCancel}
use Rattle.wu_machine.specs.Worlds.{with_host_class, with_named, workunit_named}
use Rattle.wu_machine.proofs.PassKeeps.{keeps_project_cancel}
use Rattle.wu_machine.proofs.ImageLemmas.{gives_nothing}
use Rattle.wu_machine.proofs.StorableLemmas.{code_applied, reports_keep, sends_keep}
use Rattle.wu_machine_laws.proofs.Becoming.{sound_changed}
use Rattle.wu_machine_laws.proofs.FileLaws.{send_zero}
use Rattle.wu_machine_laws.proofs.Lasts.{lasts_beside, Leads, leads_same, leads_then}
use Rattle.wu_machine_laws.proofs.Middles.{of_each, Pairs, to_pairs}
use Rattle.wu_machine_laws.proofs.Results.{cancel_by, either, rows_by}
use Rattle.wu_machine_laws.proofs.SoundLemmas.{now_of, project_now, sound_beside, too_old}
use Rattle.wu_machine_laws.proofs.SoundParts.{Differ}

-- ---- the workunit of a name changed

-- where names differ, the workunit of a name is the one that is found
pub found_named : (name : List ℕ) (ws : List Workunit) → Pairs Differ ws
    → All (λ (w : Workunit). bytes_eq w.name name ≡ true → find (λ (v : Workunit). bytes_eq v.name name) ws ≡ Some w) ws
found_named name [] apart = All-nil (λ (w : Workunit). bytes_eq w.name name ≡ true → find (λ (v : Workunit). bytes_eq v.name name) [] ≡ Some w)
found_named name (w ∷ ws) apart =
    All-cons (λ (u : Workunit). bytes_eq u.name name ≡ true → find (λ (v : Workunit). bytes_eq v.name name) (w ∷ ws) ≡ Some u) w ws (λ is. rw is refl)
    (λ k d low here. elim (cases_Bool (bytes_eq w.name name)) [
      | inl is ↦ absurd (apart.0 k d low ((bytes_eq-Decides w.name name).0 is ∙ sym ((bytes_eq-Decides _ name).0 here)))
      | inr not ↦ rw not (found_named name ws apart.1 k d low here)
    ])

module _ (world : World) (sound : IsSound world) (young : class_version ≤ world.version) (name : List ℕ) (image : Workunit → Workunit) where
  -- a workunit with the one of the name changed
  abbrev changed : Workunit → Workunit
  changed w = if bytes_eq w.name name then image w else w

  -- where the workunit of the name is rewritten, the world stays sound
  pub sound_named : All IsStorable (map changed world.workunits) → ((w : Workunit) → workunit_named world name ≡ Some w → IsWorkunit w → IsConsistent w
      → Rewrites w (image w) [] [])
      → Leads world (with_named world name image)
  sound_named storable rewrites =
      rw (
        single,
        gives_nothing no_grants world.workunits (λ w. refl),
        gives_nothing no_rows world.workunits (λ w. refl),
        append-nil world.grants,
        append-nil world.archived,
      ) at
      (sound_changed world young (λ w. changed w ∷ []) no_grants no_rows sound (λ k d low. (
        rewritten _ (found k d low) (sound.formed k d low) (sound.consistent k d low),
        All-head IsStorable _ [] (each k d low),
        All-nil IsStoredArchived,
      )))
    where
      no_grants : Workunit → List Grant
      no_grants w = []

      no_rows : Workunit → List Archived
      no_rows w = []

      single : flat_map (λ w. changed w ∷ []) world.workunits ≡ map changed world.workunits
      single = flat_map_single changed world.workunits

      each : All (λ w. All IsStorable (changed w ∷ [])) world.workunits
      each = of_each IsStorable (λ w. changed w ∷ []) world.workunits (subst (All IsStorable) (sym single) storable)

      found : All (λ (w : Workunit). bytes_eq w.name name ≡ true → workunit_named world name ≡ Some w) world.workunits
      found = found_named name world.workunits (to_pairs Differ world.workunits sound.names)

      rewritten : (w : Workunit) → (bytes_eq w.name name ≡ true → workunit_named world name ≡ Some w) → IsWorkunit w → IsConsistent w
          → Rewrites w (changed w) [] []
      rewritten w is formed consistent =
          either (λ v. Rewrites w v [] []) (bytes_eq w.name name) _ _ (λ here. rewrites w (is here) formed consistent)
          (λ other. rewrites_unchanged w formed consistent)

-- ---- a cancel

module _ (world : World) (sound : IsSound world) (young : class_version ≤ world.version) (name : List ℕ) where
  -- a cancel leads to a sound world
  pub sound_cancelled : Leads world (world_of world (cancel_done world name (workunit_named world name)))
  sound_cancelled = cancel_by (Leads world) world (leads_same world sound) name (λ w is undecided.
      let kept : IsProject (step (now_of world) (AskCancel name)) = keeps_project_cancel (now_of world) (project_now world sound) name in
      let after : IsProject (with_named (now_of world) name cancelled) = rw (is, undecided) at kept in
      sound_named world sound young name cancelled after.storable (λ v here formed consistent.
      let same : w ≡ v = cc in
      (rules_rewrite v formed consistent).cancelled (subst (λ u. is_undecided u ≡ true) same undecided)))

-- ---- a row, and the rows of a file

module _ {Row : Type 0} (rule : Rule Row) (IsRow : Row → Type 0) (keeps : (row : Row) → IsRow row → (world : World) → IsUpToDate world → IsProject world
    → IsProject (after_row rule world row))
    (rewrites : (row : Row) (w : Workunit) → IsWorkunit w → IsConsistent w → rule.verdict row w ≡ 0 → Rewrites w (rule.image row w) [] []) where
  -- an applied row leads to a sound world
  sound_row : (world : World) (row : Row) → IsRow row → row_verdict rule world row ≡ 0 → class_version ≤ world.version → IsSound world
      → Leads world (with_named world (rule.workunit row) (rule.image row))
  sound_row world row ranged nought young sound =
      let kept : IsProject (after_row rule (now_of world) row) = keeps row ranged (now_of world) refl (project_now world sound) in
      let after : IsProject (with_named (now_of world) (rule.workunit row) (rule.image row)) = rw nought at kept in
      sound_named world sound young (rule.workunit row) (rule.image row) after.storable (λ w here formed consistent.
      let verdict : rule.verdict row w ≡ 0 = rw here at nought in
      rewrites row w formed consistent verdict)

  -- so do the rows of a file
  pub sound_rows : (rows : List Row) → All IsRow rows → (world : World) → class_version ≤ world.version → IsSound world → Leads world (after_rows rule world rows)
  sound_rows rows ranged world young sound =
      (rows_by rule (λ after. Leads world after × (class_version ≤ after.version)) IsRow (λ between row is nought it.
      (leads_then world between _ it.0 (sound_row between row is nought it.1 it.0.0), it.1)) rows ranged world (leads_same world sound, young)).0

-- sends do
pub sound_sends : (classes : List HostClass) → AreClassed classes → (rows : List SendRow) → All IsSendRow rows → (world : World) → class_version ≤ world.version
    → IsSound world → Leads world (after_rows (send_rule classes) world rows)
sound_sends classes are =
    sound_rows (send_rule classes) IsSendRow
    (λ row ranged world is project. sends_keep classes (row ∷ []) world are (All-cons IsSendRow row [] ranged (All-nil IsSendRow)) is project)
    (λ row w formed consistent applied. (rules_rewrite w formed consistent).sent row.n row.host (class_of classes row.host) row.moment
    (send_zero (send_verdict_in w row.n row.host (class_of classes row.host)) applied))

-- reports do
pub sound_reports : (rows : List ReportRow) → All IsReportRow rows → (world : World) → class_version ≤ world.version → IsSound world → Leads world (after_rows report_rule world rows)
sound_reports =
    sound_rows report_rule IsReportRow
    (λ row ranged world is project. reports_keep (row ∷ []) world (All-cons IsReportRow row [] ranged (All-nil IsReportRow)) is project)
    (λ row w formed consistent applied. (rules_rewrite w formed consistent).reported row.n row.host row.moment row.status row.output
    (code_applied (report_verdict_in w row.n row.host row.moment) applied))

-- ---- the rows of a file of classes

-- the rows of a file of classes lead to a sound world
pub sound_classes : (rows : List HostClass) → AreClassed rows → (world : World) → class_version ≤ world.version → IsSound world
    → Leads world (after_classes world rows)
sound_classes [] ranged world young sound = leads_same world sound
sound_classes (row ∷ rows) ranged world young sound =
    let classes = with_class row.host row.class world.classes in
    let set = sound_beside world world.imports classes world.version sound sound.imports sound.imported_once
    (classed-set row.host row.class world.classes (All-head IsClassed row rows ranged) sound.classed)
    (in_order-set row.host row.class world.classes sound.classes_in_order) (too_old world.version young) in
    leads_then world (with_host_class world row) _ (set, lasts_beside world world.imports classes world.version)
    (sound_classes rows (All-tail IsClassed row rows ranged) (with_host_class world row) young set)
