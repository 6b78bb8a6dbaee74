-- Lines of the same row are one line.
use Rattle.std.proofs.Common.{◌≡◌, ◌∙◌, ℕ, ◌<◌, ◌^◌, List, [], ◌∷◌, ◌++◌, length, Result, Ok, Err, IsErrAnd, ap, inl, refl, subst, sym}
use Rattle.std.specs.Prelude.{⊤}
use Rattle.sqlite.specs.Order.{Row, column}
use Rattle.sqlite.specs.declared.types.Value.TheVariants.{Blob, Text}
use Rattle.wu_core.specs.declared.import.ImportKind.{ImportKind}
use Rattle.wu_core.specs.declared.workunit.Archived.{Archived}
use Rattle.wu_core.proofs.MaskLemmas.{flags_of}
use Rattle.wu_core.specs.Codes.{assimilate_code, file_delete_code}
use Rattle.wu_core.specs.Mask.{error_mask_code}
use Rattle.wu_core.specs.Parameters.{IsParameters, Parameters}
use Rattle.wu_core.specs.Storable.{AreVerdicts, IsClass, IsName}
use Rattle.wu_core.specs.declared.fault.Fault.{Fault}
use Rattle.wu_core.specs.declared.workunit.Instance.{Instance}
use Rattle.wu_schema.specs.Stored.{archived_cells, number, number_or_null, parameter_cells}
use Rattle.wu_schema.specs.Restoring.{Restores}
use Rattle.wu_schema.specs.Reading.{IsBareInstance, IsProgress, bare_instance_row, columns, host_row, kind_cell, progress_cells, verdicts_cell}
use Rattle.wu_schema.specs.declared.rows.Progress.{Progress}
use Rattle.wu_schema.proofs.ReadingLemmas.{is_bare, not_ok, same_verdicts, whole_row}
use Rattle.wu_store.proofs.SameWorld.{archived_again, assimilate_again, assimilate_of, delete_again, delete_of, kind_again, kind_of, mask_again, maybe_again, read_archived, read_maybe, read_number, read_text, same_by, same_instances}
use Rattle.wu_views.specs.Lines.{IsInputLength, IsOutputLength, IsStoredImportLine, IsStoredLine, IsStoredResult, bare_instance_of, import_row, line_row, result_line_of, result_line_row}
use Rattle.wu_schema.specs.declared.rows.HostSum.{HostSum}
use Rattle.wu_views.specs.declared.lines.ImportLine.{ImportLine}
use Rattle.wu_views.specs.declared.lines.ResultLine.{ResultLine}
use Rattle.wu_views.specs.declared.lines.WorkunitLine.{WorkunitLine}

-- a workunit's line is its row's alone,
pub same_line : (v w : WorkunitLine) → line_row v ≡ line_row w → v ≡ w
same_line v w is =
    let number : v.number ≡ w.number = cc in
    let name : v.name ≡ w.name = cc in
    let quorum : v.params.min_quorum ≡ w.params.min_quorum = cc in
    let target : v.params.target_nresults ≡ w.params.target_nresults = cc in
    let errors : v.params.max_error_results ≡ w.params.max_error_results = cc in
    let total : v.params.max_total_results ≡ w.params.max_total_results = cc in
    let successes : v.params.max_success_results ≡ w.params.max_success_results = cc in
    let delay : v.params.delay_bound ≡ w.params.delay_bound = cc in
    let credit : v.params.credit ≡ w.params.credit = cc in
    let input : v.input ≡ w.input = cc in
    let mask = same_by error_mask_code flags_of mask_again v.error_mask w.error_mask cc in
    let canonical = same_by number_or_null read_maybe maybe_again v.canonical w.canonical cc in
    let assimilated = same_by assimilate_code assimilate_of assimilate_again v.assimilate w.assimilate cc in
    let deleted = same_by file_delete_code delete_of delete_again v.file_delete w.file_delete cc in
    let done = same_by number_or_null read_maybe maybe_again v.done_at w.done_at cc in
    let class : v.class ≡ w.class = cc in
    rw (number, name, quorum, target, errors, total, successes, delay, credit, input, mask, canonical, assimilated, deleted, done, class) refl

-- and so is an instance's
pub same_result : (r q : ResultLine) → result_line_row r ≡ result_line_row q → r ≡ q
same_result r q is =
    let n : r.n ≡ q.n = cc in
    let workunit : r.workunit ≡ q.workunit = cc in
    let output : r.output ≡ q.output = cc in
    let both : bare_instance_of r ∷ [] ≡ bare_instance_of q ∷ [] = same_instances (bare_instance_of r ∷ []) (bare_instance_of q ∷ []) (λ k. (columns (is k) 0 8 ++ Blob [] ∷ []) ∷ []) in
    let instance : bare_instance_of r ≡ bare_instance_of q = cc in
    (λ k. record (result_line_of (workunit k) (n k, instance k)) { output = output k })

-- ---- hosts and what was archived

-- what a row tells of these
abbrev host_of_row : Row → HostSum
host_of_row r = record { name = read_text (column r 0); total = read_number (column r 1); grants = read_number (column r 2) }

pub same_host : (h k : HostSum) → host_row h ≡ host_row k → h ≡ k
same_host h k is = ap host_of_row is

pub same_archived : (a b : Archived) → archived_cells a ≡ archived_cells b → a ≡ b
same_archived = same_by archived_cells read_archived archived_again

pub same_import : (a b : ImportLine) → import_row a ≡ import_row b → a ≡ b
same_import a b is =
    let kind = sym (kind_again a.kind) ∙ ap (λ r. kind_of (read_number (column r 0))) is ∙ kind_again b.kind in
    let verdicts = same_verdicts a.verdicts b.verdicts (ap (λ r. read_text (column r 3)) is) in
    (λ i. record { kind = kind i; name = read_text (column (is i) 1); first_number = read_number (column (is i) 2); verdicts = verdicts i })

-- ---- a row whose columns are read

-- one with columns that can't be read is stored of nothing, whatever hands the fault on
pub part_unread : {T U : Type 0} (part : T → U) (stored_as : T → Row) (cells : U → Row) (IsValue : T → Type 0) (IsPart : U → Type 0) (row : Row) (from count : ℕ) → ((t : T) → IsValue t → IsPart (part t)) → ((t : T) → columns (stored_as t) from count ≡ cells (part t))
    → (fault : Fault) → Restores cells IsPart (columns row from count) (Err fault) → (r : Result T Fault) → IsErrAnd r (λ other. other ≡ fault) → Restores stored_as IsValue row r
part_unread part stored_as cells IsValue IsPart row from count are shown fault unread (Ok t) same = absurd same
part_unread part stored_as cells IsValue IsPart row from count are shown fault unread (Err other) same = subst (λ f. Restores stored_as IsValue row (Err f)) (sym same) (record {
  value = tt;
  found = λ t is stored. not_ok fault (part t) t (unread.found (part t) (are t is) (ap (λ r. columns r from count) stored ∙ shown t));
  refused = unread.refused;
})

-- the progress of a workunit's line
abbrev pub progress_of : WorkunitLine → Progress
progress_of w = record { error_mask = w.error_mask; canonical = w.canonical; assimilate = w.assimilate; file_delete = w.file_delete; done_at = w.done_at }

pub progress_is : (w : WorkunitLine) → IsStoredLine w → IsProgress (progress_of w)
progress_is w is = record { canonical = is.canonical; stamped = is.stamped }

-- sixteen columns that read as these are those of this workunit's line alone
module _ (row : Row) (n : ℕ) (name : List ℕ) (params : Parameters) (input : ℕ) (progress : Progress) (class : ℕ) where
  abbrev read_line : WorkunitLine
  read_line = record {
    number = n;
    name = name;
    input = input;
    params = params;
    error_mask = progress.error_mask;
    canonical = progress.canonical;
    assimilate = progress.assimilate;
    file_delete = progress.file_delete;
    done_at = progress.done_at;
    class = class;
  }

  pub workunit_line_read : length row ≡ 16 → Restores number (λ _. ⊤) (column row 0) (Ok n) → Restores Text IsName (column row 1) (Ok name) → Restores parameter_cells IsParameters (columns row 2 7) (Ok params)
      → Restores number IsInputLength (column row 9) (Ok input) → Restores progress_cells IsProgress (columns row 10 5) (Ok progress) → Restores number IsClass (column row 15) (Ok class) → Restores line_row IsStoredLine row (Ok read_line)
  workunit_line_read long number_is name_is params_are input_is progress_are class_is = record {
    value = (stored, record { name = name_is.value.1; parameters = params_are.value.1; input = input_is.value.1; canonical = progress_are.value.1.canonical; stamped = progress_are.value.1.stamped; class = class_is.value.1 });
    found = λ w is same. inl (ap (λ w. Ok w) (same_line read_line w (sym stored ∙ same)));
    refused = tt;
  }
    where
      stored : row ≡ line_row read_line
      stored = sym (whole_row 16 row long) ∙ (λ i. number_is.value.0 i ∷ name_is.value.0 i ∷ params_are.value.0 i ++ (input_is.value.0 i ∷ progress_are.value.0 i ++ (class_is.value.0 i ∷ [])))

pub bare_is : (r : ResultLine) → IsStoredResult r → IsBareInstance (bare_instance_of r)
bare_is r is = record { stored = is.instance; bare = refl }

-- and eleven those of this instance's
module _ (row : Row) (n : ℕ) (workunit : List ℕ) (i : Instance) (output : ℕ) where
  abbrev read_result : ResultLine
  read_result = record (result_line_of workunit (n, i)) { output = output }

  pub result_line_read : length row ≡ 11 → Restores number (λ n. n < 2 ^ 32) (column row 8) (Ok n) → Restores Text IsName (column row 9) (Ok workunit) → Restores bare_instance_row IsBareInstance (columns row 0 8) (Ok i)
      → Restores number IsOutputLength (column row 10) (Ok output) → Restores result_line_row IsStoredResult row (Ok read_result)
  result_line_read long number_is name_is instance_is output_is = record {
    value = (stored, record { workunit = name_is.value.1; n = number_is.value.1; instance = (is_bare i instance_is.value.1.stored).stored; output = output_is.value.1 });
    found = λ r is same. inl (ap (λ r. Ok r) (same_result read_result r (sym stored ∙ same)));
    refused = tt;
  }
    where
      stored : row ≡ result_line_row read_result
      stored = sym (whole_row 11 row long) ∙ (λ k. instance_is.value.0 k ++ (number_is.value.0 k ∷ name_is.value.0 k ∷ output_is.value.0 k ∷ []))

-- and four those of this import
module _ (row : Row) (kind : ImportKind) (name : List ℕ) (first : ℕ) (verdicts : List ℕ) where
  abbrev read_import : ImportLine
  read_import = record { kind = kind; name = name; first_number = first; verdicts = verdicts }

  pub import_line_read : length row ≡ 4 → Restores kind_cell (λ _. ⊤) (column row 0) (Ok kind) → Restores Text IsName (column row 1) (Ok name) → Restores number (λ _. ⊤) (column row 2) (Ok first)
      → Restores verdicts_cell (AreVerdicts kind) (column row 3) (Ok verdicts) → Restores import_row IsStoredImportLine row (Ok read_import)
  import_line_read long kind_is name_is first_is verdicts_are = record {
    value = (stored, record { name = name_is.value.1; verdicts = verdicts_are.value.1 });
    found = λ it is same. inl (ap (λ it. Ok it) (same_import read_import it (sym stored ∙ same)));
    refused = tt;
  }
    where
      stored : row ≡ import_row read_import
      stored = sym (whole_row 4 row long) ∙ (λ i. kind_is.value.0 i ∷ name_is.value.0 i ∷ first_is.value.0 i ∷ verdicts_are.value.0 i ∷ [])
