-- When the rows that tables show are those of a world, the tables are what it holds, and the other way round.
use Rattle.wu_schema.proofs.Words.{None, Option, class_cells, host_class_at, stored_class, workunit_class_at, Archived, Bool, Column, Database, Grant, Has, HasNamed, Import, ImportKind, Int, IsAscending, IsDatabase, IsPermutation, IsPermutation-filter, IsPermutation-sym, IsPermutation-trans, List, Null, ProjectTrees, Row, Some, Table, Text, Workunit, World, [], all_has, ap, archived_at, arith, column, drop, enumerate_from, false, flat_map, grant_at, has_mapped, host_at, import_at, import_cells, inl, inr, instances_of, length, length-map, map, map-map, mapped_has, number, project_at, refl, result_at, stored_archived, stored_grant, stored_workunit, subst, suc, sym, true, workunit_at, workunit_row, ℕ, ◌+◌, ◌∙◌, ◌∷◌, ◌≡◌, ◌≢◌, hosts_of, Binary, equal, import_kind_code, is_import, Blob, verdict_digits, Less, IsTrue, all_from, and_from, and_parts, bytes_eq-Decides, cond, eq-eqb, eqb-true, false_from_ne_true, filter, filter-map, first_key, is_eq, is_int, length_permutation, rowid, value_cmp, ℤ, ◌&&◌, ◌<◌, ◌==◌, ◌≤◌}
use Rattle.sqlite_schema.specs.Rules.{are_typed}
use Rattle.wu_core.specs.Hosts.{grants_of}
use Rattle.wu_schema.specs.Refines.{HasClasses, HasRows, LacksClasses, host_of}
use Rattle.wu_schema.specs.Tables.{IsClassedVersion}
use Rattle.std.proofs.lemmas.List.{map-id}
use Rattle.std.proofs.lemmas.List.Elements.{All-from_recursion, recursion_from_All}
use Rattle.std.specs.Prelude.{MatchOption}
use Rattle.wu_core.specs.World.{MayBeKept}
use Rattle.wu_core.specs.Classes.{AreInOrder}
use Rattle.wu_schema.proofs.RowLemmas.{filter_same, int_value, one_test}
use Rattle.wu_schema.proofs.StandsLemmas.{is_there}
use Rattle.wu_store.proofs.EqualLemmas.{number_equal, text_equal}
use Rattle.wu_store.proofs.OnceLemmas.{has_permuted, key_once, kind_in, one_passes}
use Rattle.wu_loader.specs.Asked.{HasArranged}
use Rattle.wu_loader.specs.Dealing.{placed_of}
use Rattle.wu_loader.specs.Rows.{archived_row_at, classed_of, classed_row, grant_row, placed_row, project_row_of}
use Rattle.wu_loader.specs.Shown.{behind_key, keyed, unkeyed, AreArranged, AreWhole, IsArranged, ShowsTables, ShowsClasses, ShowsPlain}
use Rattle.wu_loader.specs.Worlds.{project_of, AreAnyClassRowsOf, AreClassRowsOf, ArePlainRowsOf, AreRowsOf}
use Rattle.wu_loader.specs.declared.tables.ClassRows.{ClassRows}
use Rattle.wu_loader.specs.declared.tables.PlainRows.{PlainRows}
use Rattle.wu_loader.specs.declared.tables.TableRows.{TableRows}
use Rattle.wu_loader.proofs.CellLemmas.{keyed_is, row_typed, unkeyed_is, whole_last}
use Rattle.wu_loader.proofs.WorkLemmas.{flat_rows}
use Rattle.wu_schema.specs.declared.table.ProjectTable.TheVariants as the_table

-- ---- lists

same_mapped : (f g : Row → Row) (rows : List Row) → ((r : Row) → Has rows r → f r ≡ g r) → map f rows ≡ map g rows
same_mapped f g [] same = refl
same_mapped f g (r ∷ rows) same = λ i. same r (inl refl) i ∷ same_mapped f g rows (λ s has. same s (inr has)) i

-- each of some rows has something in a column
mapped_some : {X : Type 0} (f : X → Row) (xs : List X) (at : ℕ) → ((x : X) → column (f x) at ≢ Null) → (cell : Row) → Has (map f xs) cell → column cell at ≢ Null
mapped_some f xs at some cell has empty = let it = has_mapped f xs cell has in some it.0 (sym (ap (λ r. column r at) it.2) ∙ empty)

-- each row has all cells
pub all_whole : {X : Type 0} (count : ℕ) (stored : X → Row) → ((x : X) → length (stored x) ≡ count + 1) → (xs : List X) → AreWhole count (map stored xs)
all_whole count stored long [] = tt
all_whole count stored long (x ∷ xs) = (long x, all_whole count stored long xs)

-- ---- from what is shown to what is stored

-- a row of any table of a sound database is typed
module _ (db : Database) (sound : IsDatabase db) (t : Table) (listed : Has db.schema.tables t) where
  abbrev rows : List Row
  rows = db.trees t.tree

  -- a row of which a last cell with something in it is shown is whole
  ends : (count : ℕ) → length t.columns ≡ count → (row : Row) → Has rows row → column row count ≢ Null → length row ≡ count + 1
  ends count long row has some = whole_last row t count long (row_typed db sound t listed row has) some

  -- a table whose key is the rowid
  pub stored_keyed : (c : Column) (cs : List Column) (count : ℕ) → t.key ≡ Some 0 → t.columns ≡ c ∷ cs → ((row : Row) → Has rows row → length row ≡ suc count + 1) → (cells : List Row) → cells ≡ map (keyed (suc count)) rows → rows ≡ map behind_key cells
  stored_keyed c cs count key columns whole cells shown =
      sym (map-id rows)
      ∙ same_mapped (λ r. r) (λ r. behind_key (keyed (suc count) r)) rows (λ row has.
      keyed_is row c cs count (subst (λ k. are_typed k 0 (c ∷ cs) (drop 1 row) ≡ true) key (subst (λ ks. are_typed t.key 0 ks (drop 1 row) ≡ true) columns (row_typed db sound t listed row has))) (whole row has))
      ∙ sym (map-map behind_key (keyed (suc count)) rows) ∙ ap (map behind_key) (sym shown)

  -- the rows of values that have something in the last column
  pub stands_keyed : {X : Type 0} (c : Column) (cs : List Column) (count : ℕ) → t.key ≡ Some 0 → t.columns ≡ c ∷ cs → length t.columns ≡ suc count → ((row : Row) → column (keyed (suc count) row) count ≡ column row (suc count))
      → (cells : X → Row) (xs : List X) (read : List Row) → read ≡ map (keyed (suc count)) rows → read ≡ map cells xs → ((x : X) → column (cells x) count ≢ Null) → rows ≡ map (λ x. behind_key (cells x)) xs
  stands_keyed c cs count key columns long last cells xs read shown are some =
      stored_keyed c cs count key columns whole read shown ∙ ap (map behind_key) are ∙ map-map behind_key cells xs
    where
      whole : (row : Row) → Has rows row → length row ≡ suc count + 1
      whole row has =
          let there = subst (λ rs. Has rs (keyed (suc count) row)) (sym shown ∙ are) (mapped_has (keyed (suc count)) rows row has) in
          ends (suc count) long row has (λ empty. mapped_some cells xs count some (keyed (suc count) row) there (last row ∙ empty))

  -- a table whose rowids the store chooses
  pub stands_unkeyed : (count : ℕ) → length t.columns ≡ suc count → ((row : Row) → column (unkeyed (suc count) row) count ≡ column row (suc count)) → (cells shown : List Row) → ((cell : Row) → Has cells cell → column cell count ≢ Null)
      → IsPermutation (map (unkeyed (suc count)) rows) shown → IsPermutation cells shown → IsPermutation cells (map (drop 1) rows)
  stands_unkeyed count long last cells shown some there are =
      let all = IsPermutation-trans _ _ _ are (IsPermutation-sym _ _ there) in
      let whole : (row : Row) → Has rows row → length row ≡ suc count + 1 = λ row has.
      ends (suc count) long row has (λ empty. some (unkeyed (suc count) row) (has_permuted _ cells _ (IsPermutation-sym _ _ all) (mapped_has (unkeyed (suc count)) rows row has)) (last row ∙ empty)) in
      subst (IsPermutation cells) (same_mapped (unkeyed (suc count)) (drop 1) rows (λ row has. sym (unkeyed_is row (suc count) (whole row has)))) all

number_some : (n : ℕ) → number n ≢ Null
number_some n is = absurd cc

text_some : (t : List ℕ) → Text t ≢ Null
text_some t is = absurd cc

blob_some : (b : List ℕ) → Blob b ≢ Null
blob_some b is = absurd cc

-- a row of an instance has an output
output_some : (ws : List Workunit) (cell : Row) → Has (flat_map instances_of ws) cell → column cell 10 ≢ Null
output_some ws cell has = mapped_some placed_row (flat_map placed_of ws) 10 (λ p. blob_some p.instance.output) cell (subst (λ rs. Has rs cell) (flat_rows ws) has)

-- ---- a kind and a name stand once

abbrev is_kept : ImportKind → List ℕ → Row → Bool
is_kept kind name cells = equal Binary (column cells 0) (number (import_kind_code kind)) && (equal Binary (column cells 1) (Text name) && true)

kept_import : (kind : ImportKind) (name : List ℕ) (a : Import) → is_kept kind name (import_cells a) ≡ is_import kind name a
kept_import kind name a =
    ap (λ b. b && (equal Binary (Text a.name) (Text name) && true)) (number_equal (import_kind_code a.kind) (import_kind_code kind))
    ∙ ap (λ b. (import_kind_code a.kind == import_kind_code kind) && b) (one_test _ ∙ text_equal a.name name)

-- imports of which at most one has each kind and name
once_from : (imports : List Import) → ((kind : ImportKind) (name : List ℕ) → length (filter (is_import kind name) imports) ≤ 1) → IsAscending (λ (a b : Import). is_import a.kind a.name b ≡ false) imports
once_from [] few = tt
once_from (x ∷ xs) few = (
  all_from (λ (y : Import). is_import x.kind x.name y ≡ false) xs (λ y has. false_from_ne_true _ (λ same.
      let itself : is_import x.kind x.name x ≡ true = and_from _ _ (eq-eqb (import_kind_code x.kind) (import_kind_code x.kind) refl) ((bytes_eq-Decides x.name x.name).1 refl) in
      let two : length (filter (is_import x.kind x.name) (x ∷ xs)) ≡ suc (length (filter (is_import x.kind x.name) xs)) = rw itself refl in
      let some : 0 < length (filter (is_import x.kind x.name) xs) = kept_some (is_import x.kind x.name) xs y has same in
      let least = few x.kind x.name in
      absurd (omega (arith, two, some, least)))),
  once_from xs (λ kind name. let all = few kind name in let less = kept_less (is_import kind name) x xs in omega (arith, all, less)),
)
  where
    kept_less : {X : Type 0} (p : X → Bool) (x : X) (xs : List X) → length (filter p xs) ≤ length (filter p (x ∷ xs))
    kept_less p x xs = go (p x)
      where
        go : (b : Bool) → length (filter p xs) ≤ length (cond b (x ∷ filter p xs) (filter p xs))
        go true = omega arith
        go false = omega arith

    kept_some : {X : Type 0} (p : X → Bool) (xs : List X) (y : X) → Has xs y → p y ≡ true → 0 < length (filter p xs)
    kept_some p [] y has on = absurd has
    kept_some p (x ∷ xs) y (inl same) on = let it : p x ≡ true = ap p (sym same) ∙ on in rw it (omega arith)
    kept_some p (x ∷ xs) y (inr later) on = let more = kept_some p xs y later on in let less = kept_less p x xs in omega (arith, more, less)

-- the rows of a sound table of imports
module _ (db : Database) (tree : ℕ) (sound : IsDatabase db) (listed : Has db.schema.tables (import_at tree)) (up : IsArranged (db.trees tree)) (imports : List Import) (are : IsPermutation (map import_cells imports) (map (drop 1) (db.trees tree))) where
  -- each is that of one of these
  import_of : (row : Row) → Has (db.trees tree) row → (import : Import) × (drop 1 row ≡ import_cells import)
  import_of row has =
      let it = has_mapped import_cells imports (drop 1 row) (has_permuted (map (drop 1) (db.trees tree)) (map import_cells imports) (drop 1 row) (IsPermutation-sym _ _ are) (mapped_has (drop 1) (db.trees tree) row has)) in
      (it.0, it.2)

  id_of : (row : Row) → Has (db.trees tree) row → (id : ℤ) × (rowid row ≡ Int id)
  id_of row has = int_value (rowid row) (all_has (λ r. IsTrue (is_int (rowid r))) (db.trees tree) row up.1 has)

  -- two rows of one kind and name are none
  never_two : (kind : ImportKind) (name : List ℕ) (a b : Row) → Has (db.trees tree) a → Has (db.trees tree) b → value_cmp (rowid a) (rowid b) ≡ Less → is_kept kind name (drop 1 a) ≡ true → is_kept kind name (drop 1 b) ≡ true → ⊥
  unfolding first_key
  never_two kind name a b has_a has_b low p q =
      let one = import_of a has_a in
      let two = import_of b has_b in
      let is_a = and_parts _ _ (sym (kept_import kind name one.0) ∙ ap (is_kept kind name) (sym one.1) ∙ p) in
      let is_b = and_parts _ _ (sym (kept_import kind name two.0) ∙ ap (is_kept kind name) (sym two.1) ∙ q) in
      let cells_a = kind_in a one.0 one.1 in
      let cells_b = kind_in b two.0 two.1 in
      let kinds : import_kind_code one.0.kind ≡ import_kind_code two.0.kind = eqb-true _ _ is_a.0 ∙ sym (eqb-true _ _ is_b.0) in
      let names : one.0.name ≡ two.0.name = (bytes_eq-Decides one.0.name name).0 is_a.1 ∙ sym ((bytes_eq-Decides two.0.name name).0 is_b.1) in
      let same_kind : equal Binary (column a 1) (column b 1) ≡ true = (λ i. equal Binary (cells_a.0 i) (cells_b.0 i)) ∙ number_equal (import_kind_code one.0.kind) (import_kind_code two.0.kind) ∙ eq-eqb _ _ kinds in
      let same_name : equal Binary (column a 2) (column b 2) ≡ true = (λ i. equal Binary (cells_a.1 i) (cells_b.1 i)) ∙ text_equal one.0.name two.0.name ∙ (bytes_eq-Decides one.0.name two.0.name).1 names in
      let id_a = id_of a has_a in
      let id_b = id_of b has_b in
      key_once db (import_at tree) 0 (1 ∷ 2 ∷ []) refl sound listed b a has_b has_a (ap is_eq low) id_a.0 id_b.0 id_a.1 id_b.1 (λ at. and_from _ _ same_kind (and_from _ _ same_name refl))

  few_of : (kind : ImportKind) (name : List ℕ) → length (filter (is_import kind name) imports) ≤ 1
  few_of kind name =
      let stored = db.trees tree in
      let least = one_passes (λ r. is_kept kind name (drop 1 r)) (λ a b. value_cmp (rowid a) (rowid b) ≡ Less) stored (never_two kind name) up.0 in
      let there : length (filter (is_kept kind name) (map (drop 1) stored)) ≡ length (filter (λ r. is_kept kind name (drop 1 r)) stored) =
      ap (λ rs. length rs) (filter-map (is_kept kind name) (drop 1) stored) ∙ length-map (filter (λ r. is_kept kind name (drop 1 r)) stored) (drop 1) in
      let moved = length_permutation _ _ (IsPermutation-filter (is_kept kind name) (map import_cells imports) (map (drop 1) stored) are) in
      let here : length (filter (is_kept kind name) (map import_cells imports)) ≡ length (filter (is_import kind name) imports) =
      ap (λ rs. length rs) (filter-map (is_kept kind name) import_cells imports) ∙ length-map (filter (λ a. is_kept kind name (import_cells a)) imports) import_cells ∙ ap (λ xs. length xs) (filter_same (λ a. is_kept kind name (import_cells a)) (is_import kind name) imports (λ a has. kept_import kind name a)) in
      omega (arith, least, there, moved, here)

  pub imports_once : IsAscending (λ (a b : Import). is_import a.kind a.name b ≡ false) imports
  imports_once = once_from imports few_of

module _ (version : ℕ) (db : Database) (trees : ProjectTrees) (rows : PlainRows) (world : World) (sound : IsDatabase db) (has : HasArranged version db trees) (shown : ShowsPlain db.trees trees rows) (are : ArePlainRowsOf rows world) where
  there : {name : List ℕ} {t : Table} → HasNamed db.schema name t → Has db.schema.tables t
  there {name} {t} named = is_there db.schema name t named

  instances_stand : IsPermutation (flat_map instances_of world.workunits) (map (drop 1) (db.trees (trees the_table.Result)))
  instances_stand = stands_unkeyed db sound (result_at (trees the_table.Result)) (there (has.tables.each the_table.Result tt)) 10 refl (λ row. refl) _ _ (output_some world.workunits) shown.instances are.instances

  hosts_stand : IsPermutation (map (host_of world.grants) (hosts_of world.grants)) (map (drop 1) (db.trees (trees the_table.Host)))
  hosts_stand = stands_unkeyed db sound (host_at (trees the_table.Host)) (there (has.tables.each the_table.Host tt)) 2 refl (λ row. refl) _ _ (mapped_some (host_of world.grants) (hosts_of world.grants) 2 (λ name. number_some (grants_of world.grants name))) shown.hosts are.hosts

  imports_stand : IsPermutation (map import_cells world.imports) (map (drop 1) (db.trees (trees the_table.Import)))
  imports_stand = stands_unkeyed db sound (import_at (trees the_table.Import)) (there (has.tables.each the_table.Import tt)) 5 refl (λ row. refl) _ _ (mapped_some import_cells world.imports 5 (λ import. text_some (verdict_digits import.verdicts))) shown.imports are.imports

  workunits_stand : AreWhole 15 (db.trees (trees the_table.Workunit)) → db.trees (trees the_table.Workunit) ≡ map stored_workunit world.workunits
  workunits_stand whole =
      let each = all_has (λ r. length r ≡ 16) (db.trees (trees the_table.Workunit)) in
      stored_keyed db sound (workunit_at (trees the_table.Workunit)) (there (has.tables.each the_table.Workunit tt)) _ _ 14 refl refl (λ row in_tree. each row whole in_tree) rows.workunits shown.workunits ∙ ap (map behind_key) are.workunits ∙ map-map behind_key workunit_row world.workunits

  -- the tables of classes
  classes_stand : IsClassedVersion version → (classes : ClassRows) → ShowsClasses db.trees trees classes → AreClassRowsOf classes world → HasClasses db.trees trees world
  classes_stand known classes shows same = record {
    hosts = record {
      shaped = has.arranged the_table.HostClass known;
      same = stands_unkeyed db sound (host_class_at (trees the_table.HostClass)) (there (has.tables.each the_table.HostClass known)) 1 refl (λ row. refl) _ _ (mapped_some class_cells world.classes 1 (λ it. number_some it.class)) shows.hosts same.hosts;
    };
    workunits = record {
      shaped = has.arranged the_table.WorkunitClass known;
      same = stands_keyed db sound (workunit_class_at (trees the_table.WorkunitClass)) (there (has.tables.each the_table.WorkunitClass known)) _ _ 1 refl refl refl (λ row. refl) (λ (w : Workunit). classed_row (classed_of w)) world.workunits _ shows.workunits (same.workunits ∙ map-map classed_row classed_of world.workunits) (λ w. number_some w.class);
    };
  }

  -- the tables are what the world holds
  pub rows_stand : AreWhole 15 (db.trees (trees the_table.Workunit)) → (classes : Option ClassRows) → MatchOption classes (¬ IsClassedVersion version) (λ found. IsClassedVersion version × ShowsClasses db.trees trees found) → AreAnyClassRowsOf classes world → AreInOrder world.classes → world.version ≡ version → HasRows db.trees trees world
  rows_stand whole classes shows same in_order is = record {
    project = stands_keyed db sound (project_at (trees the_table.Project)) (there (has.tables.each the_table.Project tt)) _ _ 2 refl refl refl (λ row. refl) project_row_of (project_of world ∷ []) _ shown.project are.project (λ p. number_some p.next_number);
    workunits = record { shaped = (has.arranged the_table.Workunit tt); same = workunits_stand whole };
    instances = record { shaped = (has.arranged the_table.Result tt); same = instances_stand };
    grants = record {
      shaped = (has.arranged the_table.Grant tt);
      same = stands_keyed db sound (grant_at (trees the_table.Grant)) (there (has.tables.each the_table.Grant tt)) _ _ 4 refl refl refl (λ row. refl) (λ (p : ℕ × Grant). grant_row p.0 p.1) (enumerate_from 1 world.grants) _ shown.grants are.grants (λ p. number_some p.1.credit);
    };
    hosts = record { shaped = (has.arranged the_table.Host tt); same = hosts_stand };
    archived = record {
      shaped = (has.arranged the_table.Archived tt);
      same = stands_keyed db sound (archived_at (trees the_table.Archived)) (there (has.tables.each the_table.Archived tt)) _ _ 6 refl refl refl (λ row. refl) (λ (p : ℕ × Archived). archived_row_at p.0 p.1) (enumerate_from 1 world.archived) _ shown.archived are.archived (λ p. number_some p.1.done_at);
    };
    imports = record { shaped = (has.arranged the_table.Import tt); same = imports_stand };
    imported_once = imports_once db (trees the_table.Import) sound (there (has.tables.each the_table.Import tt)) (has.arranged the_table.Import tt) world.imports imports_stand;
    imports_kept = recursion_from_All MayBeKept world.imports are.imports_kept;
    classes = λ on. with_classes classes shows same (subst IsClassedVersion is on);
    classless = λ off. without classes shows same (λ on. off (subst IsClassedVersion (sym is) on));
    classes_in_order = in_order;
  }
    where
      with_classes : (classes : Option ClassRows) → MatchOption classes (¬ IsClassedVersion version) (λ found. IsClassedVersion version × ShowsClasses db.trees trees found) → AreAnyClassRowsOf classes world → IsClassedVersion version → HasClasses db.trees trees world
      with_classes None shows same on = absurd (shows on)
      with_classes (Some found) shows same on = classes_stand on found shows.1 same

      without : (classes : Option ClassRows) → MatchOption classes (¬ IsClassedVersion version) (λ found. IsClassedVersion version × ShowsClasses db.trees trees found) → AreAnyClassRowsOf classes world → ¬ IsClassedVersion version → LacksClasses world
      without None shows same off = same
      without (Some found) shows same off = absurd (off shows.0)

-- ---- from what is stored to what is shown

-- cells behind rowids, as they are shown
shown_unkeyed : (count : ℕ) (rows cells : List Row) → ((cell : Row) → Has cells cell → length cell ≡ suc count) → IsPermutation cells (map (drop 1) rows) → IsPermutation cells (map (unkeyed (suc count)) rows)
shown_unkeyed count rows cells long are =
    let same : map (drop 1) rows ≡ map (unkeyed (suc count)) rows = same_mapped (drop 1) (unkeyed (suc count)) rows (λ row has.
    unkeyed_is row (suc count) (behind row (long (drop 1 row) (has_permuted (map (drop 1) rows) cells (drop 1 row) (IsPermutation-sym _ _ are) (mapped_has (drop 1) rows row has))))) in
    subst (IsPermutation cells) same are
  where
    behind : (row : Row) → length (drop 1 row) ≡ suc count → length row ≡ suc count + 1
    behind [] is = absurd (omega (arith, is))
    behind (v ∷ row) is = omega (arith, is)

mapped_long : {X : Type 0} (f : X → Row) (xs : List X) (n : ℕ) → ((x : X) → length (f x) ≡ n) → (cell : Row) → Has (map f xs) cell → length cell ≡ n
mapped_long f xs n long cell has = let it = has_mapped f xs cell has in ap (λ r. length r) it.2 ∙ long it.0

instances_long : (ws : List Workunit) (cell : Row) → Has (flat_map instances_of ws) cell → length cell ≡ 11
instances_long ws cell has = mapped_long placed_row (flat_map placed_of ws) 11 (λ p. refl) cell (subst (λ rs. Has rs cell) (flat_rows ws) has)

module _ (db : Database) (trees : ProjectTrees) (world : World) (stands : HasRows db.trees trees world) where
  -- the rows of such tables are in order of their rowids
  pub stands_arranged : AreArranged world.version db.trees trees
  stands_arranged the_table.Project is_in = subst IsArranged (sym stands.project) ((tt, tt), (refl, tt))
  stands_arranged the_table.Workunit is_in = stands.workunits.shaped
  stands_arranged the_table.Result is_in = stands.instances.shaped
  stands_arranged the_table.Grant is_in = stands.grants.shaped
  stands_arranged the_table.Host is_in = stands.hosts.shaped
  stands_arranged the_table.Archived is_in = stands.archived.shaped
  stands_arranged the_table.Import is_in = stands.imports.shaped
  stands_arranged the_table.HostClass is_in = (stands.classes is_in).hosts.shaped
  stands_arranged the_table.WorkunitClass is_in = (stands.classes is_in).workunits.shaped

  plain_shown : (read : PlainRows) → ShowsPlain db.trees trees read → ArePlainRowsOf read world
  plain_shown read shown = record {
    project = shown.project ∙ ap (map (keyed 3)) stands.project;
    workunits = shown.workunits ∙ ap (map (keyed 15)) stands.workunits.same ∙ map-map (keyed 15) stored_workunit world.workunits;
    instances = IsPermutation-trans _ _ _ (shown_unkeyed 10 (db.trees (trees the_table.Result)) (flat_map instances_of world.workunits) (instances_long world.workunits) stands.instances.same) shown.instances;
    grants = shown.grants ∙ ap (map (keyed 5)) stands.grants.same ∙ map-map (keyed 5) stored_grant (enumerate_from 1 world.grants);
    hosts = IsPermutation-trans _ _ _ (shown_unkeyed 2 (db.trees (trees the_table.Host)) _ (mapped_long (host_of world.grants) (hosts_of world.grants) 3 (λ name. refl)) stands.hosts.same) shown.hosts;
    archived = shown.archived ∙ ap (map (keyed 7)) stands.archived.same ∙ map-map (keyed 7) stored_archived (enumerate_from 1 world.archived);
    imports = IsPermutation-trans _ _ _ (shown_unkeyed 5 (db.trees (trees the_table.Import)) _ (mapped_long import_cells world.imports 6 (λ import. refl)) stands.imports.same) shown.imports;
    imports_kept = All-from_recursion MayBeKept world.imports stands.imports_kept;
  }

  classes_shown : (classes : Option ClassRows) → MatchOption classes (¬ IsClassedVersion world.version) (λ found. IsClassedVersion world.version × ShowsClasses db.trees trees found) → AreAnyClassRowsOf classes world
  classes_shown None older = stands.classless older
  classes_shown (Some found) (known, shown) =
      let has = stands.classes known in
      record {
        hosts = IsPermutation-trans _ _ _ (shown_unkeyed 1 (db.trees (trees the_table.HostClass)) _ (mapped_long class_cells world.classes 2 (λ it. refl)) has.hosts.same) shown.hosts;
        workunits = shown.workunits ∙ ap (map (keyed 2)) has.workunits.same ∙ map-map (keyed 2) stored_class world.workunits ∙ sym (map-map classed_row classed_of world.workunits);
      }

  pub stands_shown : (read : TableRows) → ShowsTables world.version db.trees trees read → AreRowsOf world.version read world
  stands_shown read shown = record { plain = plain_shown read.plain shown.plain; classes = classes_shown read.classes shown.classes; in_order = stands.classes_in_order; version = refl }
