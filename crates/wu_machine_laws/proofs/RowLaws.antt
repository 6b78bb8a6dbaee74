-- Each row is taken in the world as the rows before it left it.
use Rattle.std.proofs.Common.{◌≡◌, ◌≢◌, ℕ, suc, List, [], ◌∷◌, slice_get, Option, Some, None, option_map, Ok, bytes_eq, refl, sym, ap, subst, ◌∙◌}
use Rattle.std.proofs.lemmas.Slice.Eq.{bytes_eq-Decides}
use Rattle.std.specs.Option.{IsSomeAnd, option_and_then, option_map_or}
use Rattle.std.specs.Prelude.{IfSome}
use Rattle.wu_core.specs.Classes.{class_of}
use Rattle.wu_core.specs.World.{World}
use Rattle.wu_core.specs.declared.import.ImportKind.{ImportKind}
use Rattle.wu_core.specs.declared.import.ImportKind.TheVariants as kind
use Rattle.wu_core.specs.declared.workunit.HostClass.{HostClass}
use Rattle.wu_core.specs.declared.workunit.Instance.{Instance}
use Rattle.wu_core.specs.declared.workunit.Workunit.{Workunit}
use Rattle.wu_feed.specs.Reports.{reports_of_file}
use Rattle.wu_feed.specs.Sends.{sends_of_file}
use Rattle.wu_feed.specs.declared.reports.ReportRow.{ReportRow}
use Rattle.wu_feed.specs.declared.sends.SendRow.{SendRow}
use Rattle.wu_rules_laws.proofs.Told.{reports, sends}
use Rattle.wu_rules_laws.specs.Rows.{IsReported, IsSent, MayBeReported, MayBeSent}
use Rattle.wu_machine.specs.FileRows.{Rule, after_row, after_rows, report_rule, row_verdict, row_verdicts, send_rule, unknown}
use Rattle.wu_machine.specs.Imports.{Given, import_of, reported_given, rows_read, sent_given}
use Rattle.wu_machine.specs.Machine.{reply, reply_of, step, world_of}
use Rattle.wu_machine.specs.Requests.{AskReported, AskSent, Imported}
use Rattle.wu_machine.specs.Worlds.{with_named, workunit_named}
use Rattle.wu_machine_laws.proofs.FileLaws.{found_passes, image_found, made, may_report, may_send, named_made, row_applied}
use Rattle.wu_machine_laws.proofs.LeavingLaws.{Keeps, each_named, reports_keep, rows_change, sends_keep}
use Rattle.wu_machine_laws.proofs.Results.{either, not_older, row_by}
use Rattle.wu_machine_laws.specs.Files.{OfInstance}
use Rattle.wu_machine_laws.specs.Rows.{IsVerdict, LeavesAllBut, LeavesUnnamedInstances, MakesOf, NoneIsOf, RowByRow, RowsSeeRows, TakesReport, TakesSend, instance_in}

-- ---- of any kind of rows

-- which instance a row is of, and what it makes of it
module _ {Row : Type 0} (rule : Rule Row) (keeps : Keeps rule) (place : Row → ℕ)
    (only : (row : Row) (w : Workunit) (k : ℕ) → k ≢ place row → slice_get (rule.image row w).instances k ≡ slice_get w.instances k) where
  -- the verdict is that of the workunit
  verdict_told : (world : World) (row : Row) → IsVerdict world (rule.workunit row) (rule.verdict row) unknown (row_verdict rule world row)
  verdict_told world row = record {
    present = by (workunit_named world (rule.workunit row));
    absent = λ none. ap (λ o. option_map_or (rule.verdict row) o unknown) none;
  }
    where
      by : (o : Option Workunit) → IfSome o (λ w. option_map_or (rule.verdict row) o unknown ≡ rule.verdict row w)
      by None = tt
      by (Some w) = refl

  -- a change of its workunit leaves an instance that the row is not of
  made_leaves : (world : World) (row : Row) (name : List ℕ) (n : ℕ) → (name ≡ rule.workunit row → n ≢ place row)
      → instance_in (with_named world (rule.workunit row) (rule.image row)) name n ≡ instance_in world name n
  made_leaves world row name n off =
      ap (option_and_then (λ (w : Workunit). slice_get w.instances n)) (named_made rule keeps world row name) ∙ by (workunit_named world name) refl
    where
      at : (w : Workunit) → w.name ≡ name → slice_get (made rule keeps row w).instances n ≡ slice_get w.instances n
      at w is = either (λ (v : Workunit). slice_get v.instances n ≡ slice_get w.instances n) (bytes_eq w.name (rule.workunit row)) _ _
          (λ same. only row w n (off (sym is ∙ (bytes_eq-Decides w.name (rule.workunit row)).0 same))) (λ other. refl)

      by : (o : Option Workunit) → workunit_named world name ≡ o
          → option_and_then (λ (w : Workunit). slice_get w.instances n) (option_map (made rule keeps row) o) ≡ option_and_then (λ (w : Workunit). slice_get w.instances n) o
      by None found = refl
      by (Some w) found = at w ((bytes_eq-Decides w.name name).0 (found_passes (λ v. bytes_eq v.name name) world.workunits w found))

  -- so does a row, whether it is applied or not
  row_leaves : (world : World) (row : Row) (name : List ℕ) (n : ℕ) → (row_verdict rule world row ≡ 0 → name ≡ rule.workunit row → n ≢ place row)
      → instance_in (after_row rule world row) name n ≡ instance_in world name n
  row_leaves world row name n off =
      row_by rule (λ after. instance_in after name n ≡ instance_in world name n) world row refl (λ nought. made_leaves world row name n (off nought))

  rows_leave : (rows : List Row) (world : World) (name : List ℕ) (n : ℕ) → NoneIsOf rule.workunit place rows (row_verdicts rule world rows) name n
      → instance_in (after_rows rule world rows) name n ≡ instance_in world name n
  rows_leave [] world name n none = refl
  rows_leave (row ∷ rows) world name n none =
      rows_leave rows (after_row rule world row) name n (λ k other here is. none (suc k) other here is)
      ∙ row_leaves world row name n (λ nought. none 0 row refl (ap Some nought))

  leaves_all_but : (world : World) (row : Row) → LeavesAllBut (rule.workunit row) (place row) world (after_row rule world row)
  leaves_all_but world row = record {
    instances = λ k differ. row_leaves world row (rule.workunit row) k (λ nought same. differ);
    workunits = rows_change rule keeps (rule.workunit row ∷ []) (row ∷ []) (each_named rule.workunit (row ∷ [])) world;
  }

  row_skipped : (world : World) (row : Row) → row_verdict rule world row ≢ 0 → after_row rule world row ≡ world
  row_skipped world row off = row_by rule (λ after. after ≡ world) world row refl (λ nought. absurd (off nought))

  -- an applied row makes of its instance what its rule makes
  row_makes : (Becomes : Row → Workunit → Instance → Instance → Type 0)
      → ((row : Row) (w : Workunit) (i : Instance) → slice_get w.instances (place row) ≡ Some i → IsSomeAnd (slice_get (rule.image row w).instances (place row)) (Becomes row w i))
      → (world : World) (row : Row) → row_verdict rule world row ≡ 0 → MakesOf world (after_row rule world row) (rule.workunit row) (place row) (Becomes row)
  row_makes Becomes becomes world row nought w i found there =
      subst (λ o. IsSomeAnd o (OfInstance (place row) (Becomes row w i))) (sym (image_found rule keeps world row w nought found)) (becomes row w i there)

  -- ---- row by row

  module _ (Takes : Row → ℕ → World → World → Type 0) (takes : (world : World) (row : Row) → Takes row (row_verdict rule world row) world (after_row rule world row)) where
    row_by_row : (rows : List Row) (world after : World) → after.workunits ≡ (after_rows rule world rows).workunits
        → RowByRow Takes rows (row_verdicts rule world rows) world after
    unfolding RowByRow
    row_by_row [] world after same = same
    row_by_row (row ∷ rows) world after same = (after_row rule world row, takes world row, row_by_row rows (after_row rule world row) after same)

    -- a file of these rows with these verdicts takes them so, and leaves each instance that no applied row is of
    abbrev Follows : World → List Row → List ℕ → World → Type 0
    Follows world rows verdicts after =
        RowByRow Takes rows verdicts world after
        × ((workunit : List ℕ) (n : ℕ) → NoneIsOf rule.workunit place rows verdicts workunit n → instance_in after workunit n ≡ instance_in world workunit n)

    file_follows : (world : World) (given : Given) (rows : List Row) (k : ImportKind) (name verdicts : List ℕ)
        → reply_of (rows_read rule given world (Ok rows)) ≡ Ok (Imported k name 0 verdicts)
        → Follows world rows verdicts (world_of world (rows_read rule given world (Ok rows)))
    file_follows world given rows k name verdicts answered =
        let same : row_verdicts rule world rows ≡ verdicts = cc in
        subst (λ vs. Follows world rows vs (world_of world (rows_read rule given world (Ok rows)))) same
        (row_by_row rows world (world_of world (rows_read rule given world (Ok rows))) refl, rows_leave rows world)

-- ---- sends

module _ (classes : List HostClass) where
  only_sent : (row : SendRow) (w : Workunit) (k : ℕ) → k ≢ row.n → slice_get ((send_rule classes).image row w).instances k ≡ slice_get w.instances k
  only_sent row w k differ = (sends w row.n row.host (class_of classes row.host) row.moment).only.others k differ

  takes_send : (world : World) (row : SendRow) → TakesSend classes row (row_verdict (send_rule classes) world row) world (after_row (send_rule classes) world row)
  takes_send world row =
      let keep = sends_keep classes in
      record {
        told = verdict_told (send_rule classes) keep (λ row. row.n) only_sent world row;
        applied = row_applied (send_rule classes) keep (λ row w. MayBeSent w row.n row.host (class_of classes row.host)) (may_send classes) world row;
        sent = row_makes (send_rule classes) keep (λ row. row.n) only_sent (λ row w. IsSent w row.host row.moment)
            (λ row w i there. (sends w row.n row.host (class_of classes row.host) row.moment).sent i there) world row;
        others = leaves_all_but (send_rule classes) keep (λ row. row.n) only_sent world row;
        skipped = row_skipped (send_rule classes) keep (λ row. row.n) only_sent world row;
      }

-- ---- reports

only_reported : (row : ReportRow) (w : Workunit) (k : ℕ) → k ≢ row.n → slice_get (report_rule.image row w).instances k ≡ slice_get w.instances k
only_reported row w k differ = (reports w row.n row.host row.moment row.status row.output).only.others k differ

pub takes_report : (world : World) (row : ReportRow) → TakesReport row (row_verdict report_rule world row) world (after_row report_rule world row)
takes_report world row = record {
  told = verdict_told report_rule reports_keep (λ row. row.n) only_reported world row;
  applied = row_applied report_rule reports_keep (λ row. OfInstance row.n (MayBeReported row.host row.moment)) may_report world row;
  reported = row_makes report_rule reports_keep (λ row. row.n) only_reported (λ row w. IsReported row.moment row.status row.output)
      (λ row w i there. (reports w row.n row.host row.moment row.status row.output).reported i there) world row;
  others = leaves_all_but report_rule reports_keep (λ row. row.n) only_reported world row;
  skipped = row_skipped report_rule reports_keep (λ row. row.n) only_reported world row;
}

-- ---- the laws

sent_follows : (world : World) (name file verdicts : List ℕ) (rows : List SendRow) → import_of world (sent_given name file) ≡ None → sends_of_file file ≡ Ok rows
    → reply world (AskSent name file) ≡ Ok (Imported kind.Sent name 0 verdicts)
    → Follows (send_rule world.classes) (sends_keep world.classes) (λ row. row.n) (only_sent world.classes) (TakesSend world.classes) (takes_send world.classes) world rows
    verdicts (step world (AskSent name file))
sent_follows world name file verdicts rows new is answered =
    let younger = not_older world (AskSent name file) _ refl answered in
    let classes = world.classes in
    rw (younger, new, is) (file_follows (send_rule classes) (sends_keep classes) (λ row. row.n) (only_sent classes) (TakesSend classes) (takes_send classes) world
    (sent_given name file) rows kind.Sent name verdicts (rw (younger, new, is) at answered))

reported_follows : (world : World) (name file verdicts : List ℕ) (rows : List ReportRow) → import_of world (reported_given name file) ≡ None → reports_of_file file ≡ Ok rows
    → reply world (AskReported name file) ≡ Ok (Imported kind.Reported name 0 verdicts)
    → Follows report_rule reports_keep (λ row. row.n) only_reported TakesReport takes_report world rows verdicts (step world (AskReported name file))
reported_follows world name file verdicts rows new is answered =
    let younger = not_older world (AskReported name file) _ refl answered in
    rw (younger, new, is) (file_follows report_rule reports_keep (λ row. row.n) only_reported TakesReport takes_report world (reported_given name file) rows kind.Reported
    name verdicts (rw (younger, new, is) at answered))

pub rows_see_rows : RowsSeeRows
rows_see_rows world name file verdicts = record {
  sent = λ rows new is answered. (sent_follows world name file verdicts rows new is answered).0;
  reported = λ rows new is answered. (reported_follows world name file verdicts rows new is answered).0;
}

pub leaves_unnamed_instances : LeavesUnnamedInstances
leaves_unnamed_instances world name file verdicts = record {
  sent = λ rows new is answered. (sent_follows world name file verdicts rows new is answered).1;
  reported = λ rows new is answered. (reported_follows world name file verdicts rows new is answered).1;
}
