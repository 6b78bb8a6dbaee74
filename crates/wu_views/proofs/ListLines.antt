-- Rows of the views are those of their lines, and are read as these.
use Rattle.wu_schema.proofs.Words.{Err, Fault, Has, IfErr, IfOk, Instance, List, NotAProject, Ok, Result, Row, Workunit, World, [], ap, arith, contains_had, enumerate_from, has_contained, inl, inr, length, map, refl, subst, sym, ℕ, ◌+◌, ◌<◌, ◌∙◌, ◌∷◌, ◌≡◌, ◌≢◌, ◌≤◌}
use Rattle.std.specs.List.{AllByRecursion, AllZip, Contains}
use Rattle.std.specs.Prelude.{All}
use Rattle.std.proofs.lemmas.List.{map-id}
use Rattle.std.proofs.lemmas.List.Elements.{All-contains, All-from_recursion, recursion_from_All}
use Rattle.wu_core.specs.Classes.{AreClassed, IsClassed}
use Rattle.wu_core.specs.Hosts.{hosts_of}
use Rattle.wu_core.specs.Limits.{most_instances}
use Rattle.wu_core.specs.Storable.{AreStorable, IsArchiveStorable, IsName, IsStorable, IsStoredArchived, IsStoredInstance}
use Rattle.wu_core.specs.World.{Import}
use Rattle.wu_core.specs.declared.workunit.Archived.{Archived}
use Rattle.wu_core.specs.declared.workunit.HostClass.{HostClass}
use Rattle.wu_schema.specs.Refines.{host_of}
use Rattle.wu_schema.specs.Restoring.{Restores}
use Rattle.wu_schema.specs.Stored.{archived_cells, class_cells}
use Rattle.wu_schema.specs.Reading.{IsStoredHost, IsStoredHostClass, columns, host_row}
use Rattle.wu_store.proofs.LoadLemmas.{never_unread}
use Rattle.wu_schema.proofs.ReadingLemmas.{is_bare, same_class}
use Rattle.wu_views.specs.Imports.{imports_in_order}
use Rattle.wu_views.specs.Lines.{AreHostsNamed, AreImportsStorable, IsStoredImportLine, IsStoredLine, IsStoredResult, archived_lines, class_lines, host_line_of, host_lines, import_line_of, import_lines, import_row, line_of, line_row, result_line_of, result_line_row, result_lines, workunit_lines}
use Rattle.wu_views.specs.Listings.{IsRowOfMember, IsRowOfArchived, IsRowOfClass, IsRowOfHost, IsRowOfImport, IsRowOfResult, IsRowOfWorkunit, all_results_shown, archive_of, import_shown, placed_archived_row, result_shown, results_shown, workunit_shown}
use Rattle.wu_schema.specs.declared.rows.HostSum.{HostSum}
use Rattle.wu_views.specs.declared.lines.ImportLine.{ImportLine}
use Rattle.wu_views.specs.declared.lines.ResultLine.{ResultLine}
use Rattle.wu_views.specs.declared.lines.WorkunitLine.{WorkunitLine}
use Rattle.wu_views.proofs.ImportLemmas.{each_in_order}
use Rattle.wu_views.proofs.LineLemmas.{same_archived, same_host, same_import, same_line, same_result}
use Rattle.wu_views.proofs.ListAnswers.{archive_shown, classes_shown, hosts_shown, imports_shown, workunits_shown}
use Rattle.wu_views.proofs.ListLemmas.{zip_each, zip_mapped, zip_rows}

-- ---- the rows of all lines

pub hosts_zip : (world : World) → AllZip (IsRowOfHost world) (hosts_shown world) (host_lines world)
hosts_zip world = zip_rows (host_of world.grants) (host_line_of world.grants) (hosts_of world.grants)

-- without their places they are as before
unplaced : {X : Type 0} (k : ℕ) (xs : List X) → map (λ (p : ℕ × X). p.1) (enumerate_from k xs) ≡ xs
unplaced k [] = refl
unplaced k (x ∷ xs) = ap (λ l. x ∷ l) (unplaced (k + 1) xs)

pub archive_zip : (world : World) → AllZip (IsRowOfArchived world) (archive_shown world) (archived_lines world)
archive_zip world = subst (AllZip (IsRowOfArchived world) (archive_shown world)) (unplaced 1 world.archived) (zip_rows placed_archived_row (λ (p : ℕ × Archived). p.1) (archive_of world))

pub classes_zip : (world : World) → AllZip (IsRowOfClass world) (classes_shown world) (class_lines world)
classes_zip world = subst (AllZip (IsRowOfClass world) (classes_shown world)) (map-id world.classes) (zip_rows class_cells (λ (it : HostClass). it) world.classes)

pub imports_zip : (world : World) → AllZip (IsRowOfImport world) (imports_shown world) (import_lines world)
imports_zip world = zip_rows import_shown import_line_of (imports_in_order world.imports)

pub workunits_zip : (world : World) → AllZip (IsRowOfWorkunit world) (workunits_shown world) (workunit_lines world)
workunits_zip world = zip_rows workunit_shown line_of world.workunits

pub results_zip : (world : World) → AllZip (IsRowOfResult world) (all_results_shown world) (result_lines world)
results_zip world =
    zip_each (IsRowOfResult world) results_shown (λ (w : Workunit). map (result_line_of w.name) (enumerate_from 0 w.instances)) world.workunits (λ w has.
    zip_mapped (IsRowOfResult world) (result_shown w.name) (result_line_of w.name) (enumerate_from 0 w.instances) (λ p there. record {
      workunit = w;
      present = contains_had world.workunits w has;
      of = record { shown = p; there = contains_had (enumerate_from 0 w.instances) p there; row_is = refl; line_is = refl };
    }))

-- ---- a row is read as its line

placed_has : {X : Type 0} (P : X → Type 0) (k : ℕ) (xs : List X) (p : ℕ × X) → AllByRecursion P xs → Has (enumerate_from k xs) p → P p.1
placed_has P k [] p all has = absurd has
placed_has P k (x ∷ xs) p all (inl same) = subst (λ q. P q.1) (sym same) all.0
placed_has P k (x ∷ xs) p all (inr later) = placed_has P (k + 1) xs p all.1 later

-- what holds of all holds of one of them with its place
placed_held : {X : Type 0} (P : X → Type 0) (k : ℕ) (xs : List X) (p : ℕ × X) → All P xs → Contains (enumerate_from k xs) p → P p.1
placed_held P k xs p all has = placed_has P k xs p (recursion_from_All P xs all) (has_contained (enumerate_from k xs) p has)

-- places are small
placed_under : {X : Type 0} (k : ℕ) (xs : List X) (p : ℕ × X) → Has (enumerate_from k xs) p → p.0 < k + length xs
placed_under k [] p has = absurd has
placed_under {X} k (x ∷ xs) p (inl same) = let here : p.0 ≡ k = ap (λ (q : ℕ × X). q.0) same in omega (arith, here)
placed_under k (x ∷ xs) p (inr later) = let low = placed_under (k + 1) xs p later in omega (arith, low)

-- what is stored of a line is that of no other, and is read where the line can be
module _ {T C : Type 0} (stored_as : T → C) (IsLine : T → Type 0) (alone : (a b : T) → stored_as a ≡ stored_as b → a ≡ b) (stored : C) (line : T) (is : stored ≡ stored_as line) (r : Result T Fault) (reads : Restores stored_as IsLine stored r) where
  pub line_read : IfOk r (λ read. read ≡ line)
  line_read = go r reads
    where
      go : (r : Result T Fault) → Restores stored_as IsLine stored r → IfOk r (λ read. read ≡ line)
      go (Ok read) reads = alone read line (sym reads.value.0 ∙ is)
      go (Err f) reads = tt

  pub line_unrefused : IsLine line → IfErr r (λ fault. fault ≢ NotAProject)
  line_unrefused can = never_unread stored_as IsLine stored r line reads can is

-- the row of one of these things is read as its line
module _ {X T : Type 0} (line_of : X → T) (cells : T → Row) (IsLine : T → Type 0) (alone : (a b : T) → cells a ≡ cells b → a ≡ b) (all : List X) (row : Row) (line : T) (is : IsRowOfMember (λ x. cells (line_of x)) line_of all row line) (r : Result T Fault) (reads : Restores cells IsLine row r) where
  stored_as_line : row ≡ cells line
  stored_as_line = is.row_is ∙ ap cells (sym is.line_is)

  listed_read : IfOk r (λ read. read ≡ line)
  listed_read = line_read cells IsLine alone row line stored_as_line r reads

  listed_unrefused : IsLine (line_of is.shown) → IfErr r (λ fault. fault ≢ NotAProject)
  listed_unrefused can = line_unrefused cells IsLine alone row line stored_as_line r reads (subst IsLine (sym is.line_is) can)

-- ---- hosts

module _ (world : World) (row : Row) (line : HostSum) (is : IsRowOfHost world row line) (r : Result HostSum Fault) (reads : Restores host_row IsStoredHost row r) where
  pub host_read : IfOk r (λ read. read ≡ line)
  host_read = listed_read (host_line_of world.grants) host_row IsStoredHost same_host (hosts_of world.grants) row line is r reads

  pub host_unrefused : AreHostsNamed world → IfErr r (λ fault. fault ≢ NotAProject)
  host_unrefused can = listed_unrefused (host_line_of world.grants) host_row IsStoredHost same_host (hosts_of world.grants) row line is r reads (All-contains IsName (hosts_of world.grants) is.shown can is.there)

-- ---- the archive

module _ (world : World) (row : Row) (line : Archived) (is : IsRowOfArchived world row line) where
  archived_is : columns row 1 6 ≡ archived_cells line
  archived_is = ap (λ r. columns r 1 6) is.row_is ∙ ap archived_cells (sym is.line_is)

  module _ (r : Result Archived Fault) (reads : Restores archived_cells IsStoredArchived (columns row 1 6) r) where
    pub archived_read : IfOk r (λ read. read ≡ line)
    archived_read = line_read archived_cells IsStoredArchived same_archived (columns row 1 6) line archived_is r reads

    pub archived_unrefused : IsArchiveStorable world → IfErr r (λ fault. fault ≢ NotAProject)
    archived_unrefused can = line_unrefused archived_cells IsStoredArchived same_archived (columns row 1 6) line archived_is r reads (subst IsStoredArchived (sym is.line_is) (placed_held IsStoredArchived 1 world.archived is.shown can is.there))

-- ---- the classes of hosts

module _ (world : World) (row : Row) (line : HostClass) (is : IsRowOfClass world row line) (r : Result HostClass Fault) (reads : Restores class_cells IsStoredHostClass row r) where
  pub class_read : IfOk r (λ read. read ≡ line)
  class_read = listed_read (λ (it : HostClass). it) class_cells IsStoredHostClass same_class world.classes row line is r reads

  pub class_unrefused : AreClassed world.classes → IfErr r (λ fault. fault ≢ NotAProject)
  class_unrefused can =
      let it = All-contains IsClassed world.classes is.shown can is.there in
      listed_unrefused (λ (it : HostClass). it) class_cells IsStoredHostClass same_class world.classes row line is r reads (record { host = it.host; class = it.within })

-- ---- imports

abbrev IsImportStorable : Import → Type 0
IsImportStorable import = IsStoredImportLine (import_line_of import)

module _ (world : World) (row : Row) (line : ImportLine) (is : IsRowOfImport world row line) (r : Result ImportLine Fault) (reads : Restores import_row IsStoredImportLine row r) where
  pub import_read : IfOk r (λ read. read ≡ line)
  import_read = listed_read import_line_of import_row IsStoredImportLine same_import (imports_in_order world.imports) row line is r reads

  pub import_unrefused : AreImportsStorable world → IfErr r (λ fault. fault ≢ NotAProject)
  import_unrefused can =
      let all = All-from_recursion IsImportStorable (imports_in_order world.imports) (each_in_order IsImportStorable world.imports (recursion_from_All IsImportStorable world.imports can)) in
      listed_unrefused import_line_of import_row IsStoredImportLine same_import (imports_in_order world.imports) row line is r reads (All-contains IsImportStorable (imports_in_order world.imports) is.shown all is.there)

-- ---- workunits

-- the line of a workunit that can be read can be read
storable_line : (w : Workunit) → IsStorable w → IsStoredLine (line_of w)
storable_line w is = record { name = is.row.name; parameters = is.row.parameters; input = is.row.input; canonical = is.row.canonical; stamped = is.row.stamped; class = is.class }

module _ (world : World) (row : Row) (line : WorkunitLine) (is : IsRowOfWorkunit world row line) (r : Result WorkunitLine Fault) (reads : Restores line_row IsStoredLine row r) where
  pub workunit_read : IfOk r (λ read. read ≡ line)
  workunit_read = listed_read line_of line_row IsStoredLine same_line world.workunits row line is r reads

  pub workunit_unrefused : AreStorable world → IfErr r (λ fault. fault ≢ NotAProject)
  workunit_unrefused can = listed_unrefused line_of line_row IsStoredLine same_line world.workunits row line is r reads (storable_line is.shown (All-contains IsStorable world.workunits is.shown can is.there))

-- ---- results

-- so can those of its instances
storable_result : (w : Workunit) (p : ℕ × Instance) → IsStorable w → Contains (enumerate_from 0 w.instances) p → IsStoredResult (result_line_of w.name p)
storable_result w p is there =
    let few : length w.instances ≤ most_instances = is.instances.few in
    let low = placed_under 0 w.instances p (has_contained (enumerate_from 0 w.instances) p there) in
    let stored = placed_held IsStoredInstance 0 w.instances p is.instances.each there in
    record { workunit = is.row.name; n = omega (arith, few, low); instance = (is_bare p.1 stored).stored; output = stored.values.output }

module _ (world : World) (row : Row) (line : ResultLine) (is : IsRowOfResult world row line) (r : Result ResultLine Fault) (reads : Restores result_line_row IsStoredResult row r) where
  abbrev instances : List (ℕ × Instance)
  instances = enumerate_from 0 is.workunit.instances

  pub result_read : IfOk r (λ read. read ≡ line)
  result_read = listed_read (result_line_of is.workunit.name) result_line_row IsStoredResult same_result instances row line is.of r reads

  pub result_unrefused : AreStorable world → IfErr r (λ fault. fault ≢ NotAProject)
  result_unrefused can =
      let w = All-contains IsStorable world.workunits is.workunit can is.present in
      listed_unrefused (result_line_of is.workunit.name) result_line_row IsStoredResult same_result instances row line is.of r reads (storable_result is.workunit is.of.shown w is.of.there)
