-- A host whose row has other sums than its grants is the first that is wrong.
use Rattle.wu_schema.proofs.Words.{Database, Grant, IsPermutation, List, None, Option, ProjectTrees, Row, Some, arith, filter, inl, inr, length, slice_get, subst, sym, ℕ, ◌+◌, ◌-◌, ◌<◌, ◌∙◌, ◌≡◌}
use Rattle.std.specs.Borrow.{Bor}
use Rattle.std.specs.Prelude.{IfSome, sum_by}
use Rattle.wu_core.specs.Hosts.{is_to}
use Rattle.wu_store.proofs.GrantSums.{same_count, same_credit}
use Rattle.wu_loader.specs.Finding.{IsShownWrong}
use Rattle.wu_loader.specs.First.{AreRightBefore, IsRightOfClasses, IsRightPlain}
use Rattle.wu_schema.specs.ProjectTables.{rank}
use Rattle.wu_loader.specs.Granting.{by_name, referred, IsUngranted, Rise}
use Rattle.wu_loader.specs.Questions.{ShowsTable}
use Rattle.wu_loader.specs.Rows.{grant_row}
use Rattle.wu_schema.specs.Reading.{host_row, IsStoredHost}
use Rattle.wu_loader.specs.Totals.{HasOtherSums, IsFirstOfOtherSums, ShowsOtherSums}
use Rattle.wu_loader.specs.Whole.{rows_of, AreSorted}
use Rattle.wu_loader.specs.Wrongs.{IsWrongHostBeside}
use Rattle.wu_schema.specs.declared.table.ProjectTable.{ProjectTable}
use Rattle.wu_schema.specs.declared.table.ProjectTable.TheVariants as the_table
use Rattle.wu_loader.specs.declared.finding.WrongRow as told
use Rattle.wu_schema.specs.declared.rows.HostSum.{HostSum}
use Rattle.wu_loader.specs.declared.tables.PlainRows.{PlainRows}
use Rattle.wu_loader.specs.declared.tables.TableRows.{TableRows}
use Rattle.wu_loader.specs.declared.totals.OtherSums.{OtherSums}
use Rattle.wu_loader.proofs.RunLemmas.{run_count, run_credit, ungranted_moved}

-- ---- sums of grants

-- the sums of its run are those of the host's grants
pub sums_of_run : (grants run : List (Bor Grant)) (kept : HostSum) (credit count : ℕ) → referred run ≡ filter (is_to kept.name) (referred grants) → credit ≡ sum_by (λ (g : Bor Grant). g.now.credit) run → count ≡ length run → (kept.total ≡ credit → kept.grants ≡ count → ⊥)
    → HasOtherSums (referred grants) (record { kept = kept; credit = credit; grants = count })
sums_of_run grants run kept credit count is sum long differ = record { credit = sum ∙ sym (run_credit grants run kept is); count = long ∙ sym (run_count grants run kept is); differ = differ }

-- grants in another order have the same sums
pub sums_moved : (xs ys : List Grant) → IsPermutation xs ys → (sums : OtherSums) → HasOtherSums xs sums → HasOtherSums ys sums
sums_moved xs ys moved sums other = record {
  credit = other.credit ∙ sym (same_credit xs ys moved sums.kept.name);
  count = other.count ∙ sym (same_count xs ys moved sums.kept.name);
  differ = other.differ;
}

-- ---- the host that is found

module _ (given rows : List Row) (grants sorted : List Grant) (hosts : List HostSum) (place : ℕ) (given_are : given ≡ rows_of grant_row grants) (moved : IsPermutation sorted grants) (read : AreSorted host_row IsStoredHost by_name rows hosts) (rise : Rise hosts) (un : IsUngranted sorted hosts place) where
  pub other_found : (found : Option OtherSums) → IfSome found (λ sums. slice_get hosts place ≡ Some sums.kept) → IfSome found (HasOtherSums sorted) → IfSome found (λ sums. (n : ℕ) × IsFirstOfOtherSums given rows n sums)
  other_found None there other = tt
  other_found (Some sums) there other = (
    place + 1,
    let e : place ≡ place + 1 - 1 = omega arith in
        record {
          grants = grants;
          rows_are = given_are;
          hosts = hosts;
          read = read;
          counted = omega arith;
          rise = rise;
          first = subst (IsUngranted grants hosts) e (ungranted_moved sorted grants moved hosts place un);
          there = subst (λ n. slice_get hosts n ≡ Some sums.kept) e there;
          other = sums_moved sorted grants moved sums other;
        },
  )

pub shows_found : (db : Database) (trees : ProjectTrees) (hosts grants : List Row) → ShowsTable the_table.Host db.trees trees hosts → ShowsTable the_table.Grant db.trees trees grants → (found : Option OtherSums) → IfSome found (λ sums. (n : ℕ) × IsFirstOfOtherSums grants hosts n sums)
    → IfSome found (ShowsOtherSums db.trees trees)
shows_found db trees hosts grants hosts_shown grants_shown None is = tt
shows_found db trees hosts grants hosts_shown grants_shown (Some sums) is = record { hosts = hosts; grants = grants; hosts_shown = hosts_shown; grants_shown = grants_shown; place = is.0; is = is.1 }

-- ---- the first wrong row

other_wrong : (given rows : List Row) (place : ℕ) (sums : OtherSums) → IsFirstOfOtherSums given rows place sums → IsWrongHostBeside given rows place
other_wrong given rows place sums is = record { grants = is.grants; rows_are = is.rows_are; wrong = inr (record { hosts = is.hosts; read = is.read; counted = is.counted; wrong = inr (is.rise, inl is.first) }) }

module _ (version : ℕ) (db : Database) (trees : ProjectTrees) (wrong : told.WrongRow) (of_host : wrong.table ≡ the_table.Host) (first : IsShownWrong version db trees wrong) (sums : OtherSums) (shows : ShowsOtherSums db.trees trees sums) where
  -- the rows of hosts as they are shown now, and all other rows as before
  abbrev plain : PlainRows
  plain = record first.rows.plain { hosts = shows.hosts }

  abbrev rows : TableRows
  rows = record { plain = plain; classes = first.rows.classes }

  is_shown : IsFirstOfOtherSums rows.plain.grants rows.plain.hosts shows.place sums
  is_shown = subst (λ given. IsFirstOfOtherSums given shows.hosts shows.place sums) (shows.grants_shown ∙ sym first.shown.plain.grants) shows.is

  -- the tables before are as right as they were
  right_before : (which : ProjectTable) → rank which < 4 → IsRightPlain version plain which
  right_before which low = go which low (subst (λ t. AreRightBefore version first.rows.plain (rank t)) of_host first.is.plain which low)
    where
      go : (which : ProjectTable) → rank which < 4 → IsRightPlain version first.rows.plain which → IsRightPlain version plain which
      go the_table.Project low right = right
      go the_table.Workunit low right = right
      go the_table.Result low right = right
      go the_table.Grant low right = right
      go the_table.Host low right = absurd (omega (arith, low))
      go the_table.Archived low right = right
      go the_table.Import low right = right
      go the_table.HostClass low right = right
      go the_table.WorkunitClass low right = right

  shown_first : IsShownWrong version db trees (record { table = the_table.Host; place = shows.place })
  shown_first = record {
    rows = rows;
    shown = record {
      plain = record {
        project = first.shown.plain.project;
        workunits = first.shown.plain.workunits;
        instances = first.shown.plain.instances;
        grants = first.shown.plain.grants;
        hosts = shows.hosts_shown;
        archived = first.shown.plain.archived;
        imports = first.shown.plain.imports;
      };
      classes = first.shown.classes;
    };
    is = record {
      wrong_row = inl (other_wrong rows.plain.grants rows.plain.hosts shows.place sums is_shown);
      plain = right_before;
      classes = subst (λ t. (which : ProjectTable) → rank which < rank t → IsRightOfClasses first.rows.classes which) of_host first.is.classes;
    };
  }

  -- the row of that host is the first wrong one
  pub shown_sums : (it : IsShownWrong version db trees (record { table = the_table.Host; place = shows.place })) × IsFirstOfOtherSums it.rows.plain.grants it.rows.plain.hosts shows.place sums
  unfolding shown_first
  shown_sums = (shown_first, is_shown)
