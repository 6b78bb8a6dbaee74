use Rattle.wu_schema.proofs.Words.{ℕ, Grant, IsPermutation, IsPermutation-refl, List, Row, hosts_of, import_cells, inl, inr, map, subst, sym, ◌∙◌, ◌≡◌}
use Rattle.std.specs.Prelude.{All}
use Rattle.wu_core.specs.Storable.{IsStoredArchived}
use Rattle.wu_schema.specs.Refines.{host_of}
use Rattle.wu_loader.specs.Rows.{archived_row_at, grant_row, IsStoredGrant, IsStoredImport}
use Rattle.wu_loader.specs.Whole.{rows_of, AreOfValues}
use Rattle.wu_loader.specs.Worlds.{project_of}
use Rattle.wu_loader.specs.First.{AreRightBefore}
use Rattle.wu_loader.specs.Wrongs.{IsWrongHostRow, IsWrongProject}
use Rattle.wu_schema.specs.declared.table.ProjectTable.TheVariants as the_table
use Rattle.wu_loader.proofs.RowLemmas.{one_grant}
use Rattle.wu_loader.proofs.WholeLemmas.{handed, no_rows, none_permuted, one_rows, rows_plain}
use Rattle.wu_loader.proofs.FirstLemmas.{first_plain, more_before, none_before}
use Rattle.wu_loader.proofs.world.plain_from.Goals.{In_ok-archived, In_ok-grants, In_ok-know_hosts, In_ok-project, In_ok-workunits}
use Rattle.wu_loader.proofs.world.plain_from.Goals as goal

-- all rows were read as values
values_read : {T : Type 0} (cells : ℕ → T → Row) (IsValue : T → Type 0) (values : List T) {rows : List Row} → All IsValue values → rows ≡ rows_of cells values → AreOfValues cells IsValue rows
values_read cells IsValue values each same = record { values = values; stored = each; same = same }

pub returns-in_err-project-clause-none : goal.returns-in_err-project-clause-none
returns-in_err-project-clause-none c =
    handed c.from_residual.result c.in_err-project.field-0.0 _ _ (λ wrong none world readable version ordered are. none (project_of world) readable.project version (c.deref.ensures.value ∙ are.project)) c.from_residual.ensures.1 c.in_err-project.ensures.none

pub returns-in_err-grants-clause-none : goal.returns-in_err-grants-clause-none
returns-in_err-grants-clause-none c =
    handed c.from_residual-in_err-grants.result c.in_err-grants.field-0.0 _ _ (λ wrong none world readable version ordered are. no_rows grant_row IsStoredGrant _ wrong.place none.1 world.grants readable.grants are.grants)
    c.from_residual-in_err-grants.ensures.1 c.in_err-grants.ensures.none

pub returns-in_err-know_hosts-clause-none : goal.returns-in_err-know_hosts-clause-none
returns-in_err-know_hosts-clause-none c =
    handed c.from_residual-in_err-know_hosts.result c.in_err-know_hosts.field-0.0 _ _ (λ wrong none world readable version ordered are.
    let same : c.deref-2.result.now ≡ world.grants = c.deref-2.ensures.value ∙ one_rows grant_row one_grant c.in_ok-grants.grants.items world.grants (sym c.in_ok-grants.ensures.same ∙ are.grants) in
    none (subst (All IsStoredGrant) (sym same) readable.grants) (subst (λ (gs : List Grant). IsPermutation (map (host_of gs) (hosts_of gs)) c.args.rows.hosts) (sym same) are.hosts))
    c.from_residual-in_err-know_hosts.ensures.1 c.in_err-know_hosts.ensures.none

pub returns-in_err-archived-clause-none : goal.returns-in_err-archived-clause-none
returns-in_err-archived-clause-none c =
    handed c.from_residual-in_err-archived.result c.in_err-archived.field-0.0 _ _ (λ wrong none world readable version ordered are. no_rows archived_row_at IsStoredArchived _ wrong.place none.1 world.archived readable.archived are.archived)
    c.from_residual-in_err-archived.ensures.1 c.in_err-archived.ensures.none

pub returns-in_err-imports-clause-none : goal.returns-in_err-imports-clause-none
returns-in_err-imports-clause-none c =
    handed c.from_residual-in_err-imports.result c.in_err-imports.field-0.0 _ _ (λ wrong none world readable version ordered are.
    none_permuted import_cells IsStoredImport _ wrong.place none.1 world.imports (λ k d low. record { name = (readable.imports k d low).0; verdicts = (readable.imports k d low).1; kept = are.imports_kept k d low }) are.imports)
    c.from_residual-in_err-imports.ensures.1 c.in_err-imports.ensures.none

pub returns-clause-plain : goal.returns-clause-plain
returns-clause-plain c =
    let works = c.in_ok-workunits.ensures.works in
    let imports : c.args.rows.imports ≡ map import_cells c.in_ok-imports.imports.items = c.in_ok-imports.ensures.same ∙ rows_plain import_cells c.in_ok-imports.imports.items in
    record {
      project = sym c.deref.ensures.value ∙ c.in_ok-project.ensures.project;
      workunits = works.workunits_are;
      instances = works.instances_are;
      grants = c.in_ok-grants.ensures.same;
      hosts = rw c.deref-2.ensures.value at c.in_ok-know_hosts.ensures.hosts;
      archived = c.in_ok-archived.ensures.same;
      imports = subst (IsPermutation (map import_cells c.in_ok-imports.imports.items)) (sym imports) (IsPermutation-refl (map import_cells c.in_ok-imports.imports.items));
      imports_kept = λ k d low. (c.in_ok-imports.ensures.each k d low).kept;
    }

-- which tables are right after each of them was judged
before_works : (c : In_ok-project) → AreRightBefore c.args.version c.args.rows 1
before_works c =
    let it = c.in_ok-project in
    let rows = sym c.deref.ensures.value ∙ it.ensures.project in
    more_before c.args.version c.args.rows the_table.Project (record { project = it.project; stored = it.ensures.stored; is = it.ensures.version; rows_are = rows }) (none_before c.args.version c.args.rows)

before_grants : (c : In_ok-workunits) → AreRightBefore c.args.version c.args.rows 1 → AreRightBefore c.args.version c.args.rows 3
before_grants c so_far =
    let it = c.in_ok-workunits.ensures in
    let works = more_before c.args.version c.args.rows the_table.Workunit it.workunits so_far in
    more_before c.args.version c.args.rows the_table.Result it.results works

before_hosts : (c : In_ok-grants) → AreRightBefore c.args.version c.args.rows 3 → AreRightBefore c.args.version c.args.rows 4
before_hosts c so_far =
    let it = c.in_ok-grants in
    more_before c.args.version c.args.rows the_table.Grant (values_read grant_row IsStoredGrant it.grants.items it.ensures.each it.ensures.same) so_far

before_archived : (c : In_ok-know_hosts) → AreRightBefore c.args.version c.args.rows 4 → AreRightBefore c.args.version c.args.rows 5
before_archived c so_far =
    let it = c.in_ok-grants in
    let hosts = rw c.deref-2.ensures.value at c.in_ok-know_hosts.ensures.hosts in
    more_before c.args.version c.args.rows the_table.Host (record { grants = it.grants.items; rows_are = it.ensures.same; hosts = hosts }) so_far

before_imports : (c : In_ok-archived) → AreRightBefore c.args.version c.args.rows 5 → AreRightBefore c.args.version c.args.rows 6
before_imports c so_far =
    let it = c.in_ok-archived in
    more_before c.args.version c.args.rows the_table.Archived (values_read archived_row_at IsStoredArchived it.archived.items it.ensures.each it.ensures.same) so_far

pub returns-in_err-project-clause-told : goal.returns-in_err-project-clause-told
returns-in_err-project-clause-told c =
    handed c.from_residual.result c.in_err-project.field-0.0 _ _ (λ wrong it. first_plain c.args.version c.args.rows the_table.Project wrong (none_before c.args.version c.args.rows) it.0 (subst (λ (rs : List Row). IsWrongProject c.args.version rs wrong.place) c.deref.ensures.value it.1))
    c.from_residual.ensures.1 c.in_err-project.ensures.told

pub returns-in_err-workunits-clause-told : goal.returns-in_err-workunits-clause-told
returns-in_err-workunits-clause-told c =
    let before = before_works (goal.at.returns-in_err-workunits-clause-told c).In_ok-project in
    let v = c.args.version in
    let rows = c.args.rows in
    handed c.from_residual-in_err-workunits.result c.in_err-workunits.field-0.0 _ _ (λ wrong it. elim it [
      | inl none ↦ first_plain v rows the_table.Workunit wrong before none.0 none.1
      | inr other ↦
          let works = more_before v rows the_table.Workunit other.0 before in
          first_plain v rows the_table.Result wrong works other.1.0 other.1.1
    ]) c.from_residual-in_err-workunits.ensures.1 c.in_err-workunits.ensures.told

pub returns-in_err-grants-clause-told : goal.returns-in_err-grants-clause-told
returns-in_err-grants-clause-told c =
    let at = goal.at.returns-in_err-grants-clause-told c in
    let before = before_grants at.In_ok-workunits (before_works at.In_ok-project) in
    handed c.from_residual-in_err-grants.result c.in_err-grants.field-0.0 _ _ (λ wrong it. first_plain c.args.version c.args.rows the_table.Grant wrong before it.0 it.1)
    c.from_residual-in_err-grants.ensures.1 c.in_err-grants.ensures.none

pub returns-in_err-know_hosts-clause-told : goal.returns-in_err-know_hosts-clause-told
returns-in_err-know_hosts-clause-told c =
    let at = goal.at.returns-in_err-know_hosts-clause-told c in
    let before = before_hosts at.In_ok-grants (before_grants at.In_ok-workunits (before_works at.In_ok-project)) in
    let rows = c.args.rows in
    handed c.from_residual-in_err-know_hosts.result c.in_err-know_hosts.field-0.0 _ _ (λ wrong it. first_plain c.args.version rows the_table.Host wrong before it.0 (record {
      grants = c.in_ok-grants.grants.items;
      rows_are = c.in_ok-grants.ensures.same;
      wrong = subst (λ (gs : List Grant). IsWrongHostRow gs rows.hosts wrong.place) c.deref-2.ensures.value it.1;
    })) c.from_residual-in_err-know_hosts.ensures.1 c.in_err-know_hosts.ensures.told

pub returns-in_err-archived-clause-told : goal.returns-in_err-archived-clause-told
returns-in_err-archived-clause-told c =
    let at = goal.at.returns-in_err-archived-clause-told c in
    let before = before_archived at.In_ok-know_hosts (before_hosts at.In_ok-grants (before_grants at.In_ok-workunits (before_works at.In_ok-project))) in
    handed c.from_residual-in_err-archived.result c.in_err-archived.field-0.0 _ _ (λ wrong it. first_plain c.args.version c.args.rows the_table.Archived wrong before it.0 it.1)
    c.from_residual-in_err-archived.ensures.1 c.in_err-archived.ensures.none

pub returns-in_err-imports-clause-told : goal.returns-in_err-imports-clause-told
returns-in_err-imports-clause-told c =
    let at = goal.at.returns-in_err-imports-clause-told c in
    let before = before_imports at.In_ok-archived (before_archived at.In_ok-know_hosts (before_hosts at.In_ok-grants (before_grants at.In_ok-workunits (before_works at.In_ok-project)))) in
    handed c.from_residual-in_err-imports.result c.in_err-imports.field-0.0 _ _ (λ wrong it. first_plain c.args.version c.args.rows the_table.Import wrong before it.0 it.1)
    c.from_residual-in_err-imports.ensures.1 c.in_err-imports.ensures.none

pub returns-clause-right : goal.returns-clause-right
returns-clause-right c =
    let at = goal.at.returns-clause-right c in
    let before = before_imports at.In_ok-archived (before_archived at.In_ok-know_hosts (before_hosts at.In_ok-grants (before_grants at.In_ok-workunits (before_works at.In_ok-project)))) in
    let it = c.in_ok-imports in
    more_before c.args.version c.args.rows the_table.Import (values_read (λ _. import_cells) IsStoredImport it.imports.items it.ensures.each it.ensures.same) before
