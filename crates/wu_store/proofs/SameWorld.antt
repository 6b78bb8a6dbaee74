-- Two worlds for which one database stands are one world, but for the order of their imports.
use Rattle.wu_schema.proofs.Words.{Archived, archived_cells, Blob, Database, Grant, Has, HasNamed, HoldsAll, Import, ImportKind, Instance, Int, IsPermutation, IsPermutation-filter, IsPermutation-map, IsPermutation-sym, IsPermutation-trans, List, None, Option, Output, Row, Some, Refines, Table, Text, Value, Workunit, World, [], all_from, all_has, ap, append-nil, arith, column, drop, enumerate_from, eq-eqb, false, filter, filter_none, flat_map, if◌then◌else◌, import_cells, import_kind_code, inl, inr, instance_row, instances_of, map, ne_eqb, Null, number_or_null, on_total, pos, refl, slice_get, stored_archived, stored_grant, stored_project, stored_workunit, subst, sym, text_or_null, true, value_cmp_total, verdict_digits, workunit_row, ℕ, ◌+◌, ◌-◌, ◌<◌, ◌==◌, ◌∙◌, ◌∷◌, ◌≡◌, AllByRecursion, IsAscending, Less, Ordering, class_cells, class_row, get_or, stored_class}
use Rattle.wu_core.specs.declared.mask.ErrorMask.{ErrorMask}
use Rattle.wu_core.specs.declared.states.ServerState.{ServerState}
use Rattle.wu_core.specs.declared.states.ServerState.TheVariants as server
use Rattle.wu_core.specs.declared.states.Outcome.{Outcome}
use Rattle.wu_core.specs.declared.states.Outcome.TheVariants as outcome
use Rattle.wu_core.specs.declared.states.ValidateState.{ValidateState}
use Rattle.wu_core.specs.declared.states.ValidateState.TheVariants as validate
use Rattle.wu_core.specs.declared.states.Assimilate.{Assimilate}
use Rattle.wu_core.specs.declared.states.Assimilate.TheVariants as assimilate
use Rattle.wu_core.specs.declared.states.FileDelete.{FileDelete}
use Rattle.wu_core.specs.declared.states.FileDelete.TheVariants as file_delete
use Rattle.wu_core.specs.declared.import.ImportKind.TheVariants as kind
use Rattle.wu_core.specs.Codes.{server_state_code, outcome_code, validate_state_code, assimilate_code, file_delete_code}
use Rattle.wu_core.specs.Mask.{error_mask_code}
use Rattle.wu_core.proofs.MaskLemmas.{flags_of, flags_of-error_mask_code}
use Rattle.wu_store.specs.Worlds.{SameWorld}
use Rattle.wu_schema.proofs.QuietLemmas.{same_some}
use Rattle.wu_store.proofs.InstanceLemmas.{fits, instances_left}
use Rattle.wu_store.proofs.InstanceAnswers.{cell_pair, pairs_from, rising, shown_from}
use Rattle.wu_store.proofs.OneOrder.{two_orders}
use Rattle.wu_store.proofs.OrderAnswers.{by_key}
use Rattle.std.proofs.lemmas.Cmp.{nat_list_cmp_total}
use Rattle.wu_core.specs.Classes.{AreInOrder}
use Rattle.wu_core.specs.declared.workunit.HostClass.{HostClass}
use Rattle.wu_core.proofs.HostLemmas.{Ascends, order, pairs_ascend}
use Rattle.wu_schema.specs.Tables.{IsClassedVersion}
use Rattle.wu_schema.proofs.Parts.{classed_or_not}
use Rattle.wu_store.proofs.PlacedLemmas.{Rises, world_rises}
use Rattle.wu_schema.specs.declared.table.ProjectTable.TheVariants as the_table

-- ---- what was stored is read back

-- two things that are stored alike are one, where each is read back
pub same_by : {X C : Type 0} (stored : X → C) (read : C → X) → ((x : X) → read (stored x) ≡ x) → (a b : X) → stored a ≡ stored b → a ≡ b
same_by stored read again a b is = sym (again a) ∙ ap read is ∙ again b

abbrev pub read_number : Value → ℕ
read_number (Int (pos n)) = n
read_number _ = 0

abbrev pub read_text : Value → List ℕ
read_text (Text t) = t
read_text _ = []

abbrev pub read_blob : Value → List ℕ
read_blob (Blob b) = b
read_blob _ = []

abbrev pub read_maybe : Value → Option ℕ
read_maybe (Int (pos n)) = Some n
read_maybe _ = None

abbrev read_host : Value → Option (List ℕ)
read_host (Text t) = Some t
read_host _ = None

pub maybe_again : (o : Option ℕ) → read_maybe (number_or_null o) ≡ o
maybe_again None = refl
maybe_again (Some n) = refl

host_again : (o : Option (List ℕ)) → read_host (text_or_null o) ≡ o
host_again None = refl
host_again (Some n) = refl

abbrev server_of : ℕ → ServerState
server_of n = if n == 1 then server.Inactive else if n == 2 then server.Unsent else if n == 4 then server.InProgress else server.Over

server_again : (s : ServerState) → server_of (server_state_code s) ≡ s
server_again server.Inactive = refl
server_again _ = refl

abbrev outcome_of : ℕ → Outcome
outcome_of n =
    if n == 0 then outcome.Init else if n == 1 then outcome.Success else if n == 2 then outcome.CouldntSend else if n == 3 then outcome.ClientError
    else if n == 4 then outcome.NoReply else if n == 5 then outcome.DidntNeed else if n == 6 then outcome.ValidateError else outcome.ClientDetached

outcome_again : (s : Outcome) → outcome_of (outcome_code s) ≡ s
outcome_again outcome.Init = refl
outcome_again _ = refl

abbrev validate_of : ℕ → ValidateState
validate_of n =
    if n == 0 then validate.Init else if n == 1 then validate.Valid else if n == 2 then validate.Invalid else if n == 3 then validate.NoCheck
    else if n == 4 then validate.Inconclusive else validate.TooLate

validate_again : (s : ValidateState) → validate_of (validate_state_code s) ≡ s
validate_again validate.Init = refl
validate_again _ = refl

abbrev pub assimilate_of : ℕ → Assimilate
assimilate_of n = if n == 0 then assimilate.Init else if n == 1 then assimilate.Ready else assimilate.Done

pub assimilate_again : (s : Assimilate) → assimilate_of (assimilate_code s) ≡ s
assimilate_again assimilate.Init = refl
assimilate_again _ = refl

abbrev pub delete_of : ℕ → FileDelete
delete_of n = if n == 0 then file_delete.Init else if n == 1 then file_delete.Ready else if n == 2 then file_delete.Done else file_delete.Error

pub delete_again : (s : FileDelete) → delete_of (file_delete_code s) ≡ s
delete_again file_delete.Init = refl
delete_again _ = refl

abbrev pub kind_of : ℕ → ImportKind
kind_of n = if n == 1 then kind.Batch else if n == 2 then kind.Sent else if n == 3 then kind.Reported else kind.Classes

pub kind_again : (s : ImportKind) → kind_of (import_kind_code s) ≡ s
kind_again kind.Batch = refl
kind_again _ = refl

pub mask_again : (m : ErrorMask) → flags_of (error_mask_code m) ≡ m
mask_again m = flags_of-error_mask_code m (error_mask_code m) refl

digits_again : (vs : List ℕ) → map (λ d. d - 48) (verdict_digits vs) ≡ vs
digits_again [] = refl
digits_again (v ∷ vs) = let one : (48 + v) - 48 ≡ v = omega arith in (λ i. one i ∷ digits_again vs i)

abbrev read_workunit : Row → List Instance → ℕ → Workunit
read_workunit r is class = record {
  number = read_number (column r 0);
  name = read_text (column r 2);
  params = record {
    min_quorum = read_number (column r 3);
    target_nresults = read_number (column r 4);
    max_error_results = read_number (column r 5);
    max_total_results = read_number (column r 6);
    max_success_results = read_number (column r 7);
    delay_bound = read_number (column r 8);
    credit = read_number (column r 9);
  };
  input = read_blob (column r 10);
  error_mask = flags_of (read_number (column r 11));
  canonical = read_maybe (column r 12);
  assimilate = assimilate_of (read_number (column r 13));
  file_delete = delete_of (read_number (column r 14));
  done_at = read_maybe (column r 15);
  class = class;
  instances = is;
}

workunit_again : (w : Workunit) → read_workunit (stored_workunit w) w.instances w.class ≡ w
workunit_again w = λ i. record w { error_mask = mask_again w.error_mask i; canonical = maybe_again w.canonical i; assimilate = assimilate_again w.assimilate i; file_delete = delete_again w.file_delete i; done_at = maybe_again w.done_at i }

-- ---- lists of rows that are one

pub restored : {X C : Type 0} (stored : X → C) (read : C → X) → ((x : X) → read (stored x) ≡ x) → (xs : List X) → map read (map stored xs) ≡ xs
restored stored read again [] = refl
restored stored read again (x ∷ xs) = λ i. again x i ∷ restored stored read again xs i

-- of rows with their places
restored_from : {X C : Type 0} (stored : ℕ × X → C) (read : C → X) → ((p : ℕ × X) → read (stored p) ≡ p.1) → (k : ℕ) (xs : List X) → map read (map stored (enumerate_from k xs)) ≡ xs
restored_from stored read again k [] = refl
restored_from stored read again k (x ∷ xs) = λ i. again (k, x) i ∷ restored_from stored read again (k + 1) xs i

abbrev read_grant : Row → Grant
read_grant r = record { workunit = read_number (column r 2); n = read_number (column r 3); host = read_text (column r 4); credit = read_number (column r 5) }

abbrev pub read_archived : Row → Archived
read_archived r = record {
  number = read_number (column r 0);
  name = read_text (column r 1);
  error_mask = flags_of (read_number (column r 2));
  canonical = read_maybe (column r 3);
  output = read_blob (column r 4);
  done_at = read_number (column r 5);
}

pub archived_again : (a : Archived) → read_archived (archived_cells a) ≡ a
archived_again a = λ i. record a { error_mask = mask_again a.error_mask i; canonical = maybe_again a.canonical i }

abbrev read_stored : Row → Archived
read_stored r = read_archived (drop 2 r)

abbrev pub read_import : Row → Import
read_import r = record {
  kind = kind_of (read_number (column r 0));
  name = read_text (column r 1);
  template = read_blob (column r 2);
  content = read_blob (column r 3);
  first_number = read_number (column r 4);
  verdicts = map (λ d. d - 48) (read_text (column r 5));
}

pub import_again : (m : Import) → read_import (import_cells m) ≡ m
import_again m = λ i. record m { kind = kind_again m.kind i; verdicts = digits_again m.verdicts i }

abbrev read_instance : Row → Instance
read_instance r = record {
  server_state = server_of (read_number (column r 0));
  outcome = outcome_of (read_number (column r 1));
  validate_state = validate_of (read_number (column r 2));
  file_delete = delete_of (read_number (column r 3));
  host = read_host (column r 4);
  sent_at = read_maybe (column r 5);
  deadline = read_maybe (column r 6);
  received_at = read_maybe (column r 7);
  output = read_blob (column r 8);
}

instance_again : (m : Instance) → read_instance (instance_row m) ≡ m
instance_again m = λ i. record m {
  server_state = server_again m.server_state i;
  outcome = outcome_again m.outcome i;
  validate_state = validate_again m.validate_state i;
  file_delete = delete_again m.file_delete i;
  host = host_again m.host i;
  sent_at = maybe_again m.sent_at i;
  deadline = maybe_again m.deadline i;
  received_at = maybe_again m.received_at i;
}

-- two lists of instances that have the same rows are one
pub same_instances : (a b : List Instance) → map instance_row a ≡ map instance_row b → a ≡ b
same_instances = same_by (map instance_row) (map read_instance) (restored instance_row read_instance instance_again)

-- two workunits that have one row are one, but for their instances and their class
pub same_workunit : (v w : Workunit) → workunit_row v ≡ workunit_row w → v ≡ record w { instances = v.instances; class = v.class }
same_workunit v w rows =
    let stored : stored_workunit v ≡ stored_workunit w = ap (λ r. column r 0 ∷ Null ∷ drop 1 r) rows in
    sym (workunit_again v) ∙ (λ i. read_workunit (stored i) v.instances v.class) ∙ workunit_again (record w { instances = v.instances; class = v.class })

-- ---- a workunit's instances

pub only_one : (v : Workunit) (ws : List Workunit) → Rises ws → Has ws v → filter (λ (w : Workunit). w.number == v.number) ws ≡ v ∷ []
only_one v [] up has = absurd has
only_one v (w ∷ ws) up (inl same) =
    let on : (w.number == v.number) ≡ true = ap (λ (u : Workunit). w.number == u.number) same ∙ eq-eqb w.number w.number refl in
    let none : filter (λ (u : Workunit). u.number == v.number) ws ≡ [] = filter_none (λ (u : Workunit). u.number == v.number) ws (all_from (λ (u : Workunit). (u.number == v.number) ≡ false) ws (λ u later.
    let low : v.number < u.number = subst (λ (x : Workunit). x.number < u.number) (sym same) (all_has (λ (x : Workunit). w.number < x.number) ws u up.0 later) in ne_eqb u.number v.number (λ e. omega (arith, e, low)))) in
    rw (on, none) (ap (λ l. l ∷ []) (sym same))
only_one v (w ∷ ws) up (inr later) =
    let off : (w.number == v.number) ≡ false = ne_eqb w.number v.number (λ e. let low = all_has (λ (x : Workunit). w.number < x.number) ws v up.0 later in omega (arith, e, low)) in
    rw off (only_one v ws up.1 later)

instances_one : (v u : Workunit) → v.number ≡ u.number → IsPermutation (instances_of v) (instances_of u) → u.instances ≡ v.instances
instances_one v u same perm =
    let pairs : pairs_from u.number 0 u.instances ≡ pairs_from v.number 0 v.instances =
    two_orders by_key (on_total (λ (o : Output). column o.0 0) value_cmp_total) (pairs_from v.number 0 v.instances) (pairs_from u.number 0 u.instances) (rising v.number 0 v.instances) (rising u.number 0 u.instances)
    (IsPermutation-map cell_pair (instances_of v) (instances_of u) perm) in
    same_instances u.instances v.instances (sym (shown_from u.number 0 u.instances) ∙ ap (map (λ (o : Output). o.1)) pairs ∙ shown_from v.number 0 v.instances)

module _ (ws_a ws_b : List Workunit) (up_a : Rises ws_a) (up_b : Rises ws_b) (same : IsPermutation (flat_map instances_of ws_a) (flat_map instances_of ws_b)) where
  of_number : (v : Workunit) (ws : List Workunit) → Rises ws → Has ws v → filter (fits v.number (λ b. b)) (flat_map instances_of ws) ≡ instances_of v
  of_number v ws up has = instances_left v.number (λ b. b) ws ∙ ap (flat_map instances_of) (only_one v ws up has) ∙ append-nil (instances_of v)

  brought : (v u : Workunit) → Has ws_a v → Has ws_b u → v.number ≡ u.number → u.instances ≡ v.instances
  brought v u has_v has_u is =
      let kept = IsPermutation-filter (fits v.number (λ b. b)) (flat_map instances_of ws_a) (flat_map instances_of ws_b) same in
      let left : filter (fits v.number (λ b. b)) (flat_map instances_of ws_b) ≡ instances_of u = subst (λ n. filter (fits n (λ b. b)) (flat_map instances_of ws_b) ≡ instances_of u) (sym is) (of_number u ws_b up_b has_u) in
      instances_one v u is (subst (λ xs. IsPermutation xs (instances_of u)) (of_number v ws_a up_a has_v) (subst (IsPermutation (filter (fits v.number (λ b. b)) (flat_map instances_of ws_a))) left kept))

same_works : (ws_a ws_b : List Workunit) → map stored_workunit ws_a ≡ map stored_workunit ws_b → map stored_class ws_a ≡ map stored_class ws_b → ((v u : Workunit) → Has ws_a v → Has ws_b u → v.number ≡ u.number → u.instances ≡ v.instances) → ws_a ≡ ws_b
same_works [] [] e classes brings = refl
same_works [] (u ∷ us) e classes brings = absurd (cc)
same_works (v ∷ vs) [] e classes brings = absurd (cc)
same_works (v ∷ vs) (u ∷ us) e classes brings =
    let rows : stored_workunit v ≡ stored_workunit u = cc in
    let number : v.number ≡ u.number = cc in
    let instances = sym (brings v u (inl refl) (inl refl) number) in
    let class : v.class ≡ u.class = ap (λ (rs : List Row). read_number (column (get_or rs 0 []) 2)) classes in
    let one : v ≡ u = sym (workunit_again v) ∙ (λ i. read_workunit (rows i) (instances i) (class i)) ∙ workunit_again u in
    (λ i. one i ∷ same_works vs us (cc) (ap (drop 1) classes) (λ x y has_x has_y. brings x y (inr has_x) (inr has_y)) i)

-- ---- the worlds

-- a name finds one table, and so one list of rows
pub one_table : (db : Database) (name : List ℕ) (s t : Table) → HasNamed db.schema name s → HasNamed db.schema name t → db.trees s.tree ≡ db.trees t.tree
one_table db name s t has_s has_t =
    let at : has_s.0 ≡ has_t.0 = same_some (sym has_s.1.named ∙ has_t.1.named) in
    ap (λ (u : Table). db.trees u.tree) (same_some (sym has_s.1.there ∙ ap (slice_get db.schema.tables) at ∙ has_t.1.there))

-- and so the cells behind its rowids, in some order
one_cells : {rows other cells more : List Row} → rows ≡ other → HoldsAll rows cells → HoldsAll other more → IsPermutation cells more
one_cells {rows} {other} {cells} {more} same one two = IsPermutation-trans _ _ _ (subst (λ rs. IsPermutation cells (map (drop 1) rs)) same one.same) (IsPermutation-sym more (map (drop 1) other) two.same)

-- ---- the classes

abbrev read_class : Row → HostClass
read_class r = record { host = read_text (column r 0); class = read_number (column r 1) }

abbrev by_host : HostClass → HostClass → Ordering
by_host a b = order a.host b.host

rising_hosts : (classes : List HostClass) → Ascends (λ (a b : HostClass). by_host a b ≡ Less) classes → IsAscending (λ (a b : HostClass). by_host a b ≡ Less) classes
rising_hosts [] up = tt
rising_hosts (it ∷ more) up = (up.0, rising_hosts more up.1)

-- hosts in order have one order
same_hosts : (a b : List HostClass) → AreInOrder a → AreInOrder b → IsPermutation (map class_cells a) (map class_cells b) → a ≡ b
same_hosts a b up_a up_b same =
    let hosts = IsPermutation-map read_class _ _ same in
    let permuted : IsPermutation a b = subst (λ xs. IsPermutation xs b) (restored class_cells read_class (λ it. refl) a) (subst (IsPermutation (map read_class (map class_cells a))) (restored class_cells read_class (λ it. refl) b) hosts) in
    sym (two_orders by_host (on_total (λ (it : HostClass). it.host) nat_list_cmp_total) a b (rising_hosts a (pairs_ascend _ a up_a)) (rising_hosts b (pairs_ascend _ b up_b)) permuted)

-- of workunits without a class only the numbers tell in their rows
unbound_same : (ws_a ws_b : List Workunit) → map stored_workunit ws_a ≡ map stored_workunit ws_b → AllByRecursion (λ (w : Workunit). w.class ≡ 0) ws_a → AllByRecursion (λ (w : Workunit). w.class ≡ 0) ws_b → map stored_class ws_a ≡ map stored_class ws_b
unbound_same [] [] e none_a none_b = refl
unbound_same [] (u ∷ us) e none_a none_b = absurd (cc)
unbound_same (v ∷ vs) [] e none_a none_b = absurd (cc)
unbound_same (v ∷ vs) (u ∷ us) e none_a none_b =
    let number : v.number ≡ u.number = cc in
    let class : v.class ≡ u.class = none_a.0 ∙ sym none_b.0 in
    (λ i. class_row (number i, class i) ∷ unbound_same vs us (cc) none_a.1 none_b.1 i)

module _ (db : Database) (a b : World) (s : Refines db a) (t : Refines db b) (version : a.version ≡ b.version) (works : map stored_workunit a.workunits ≡ map stored_workunit b.workunits) where
  -- the classes of both are those of the tables, or none
  one_classes : (a.classes ≡ b.classes) × (map stored_class a.workunits ≡ map stored_class b.workunits)
  one_classes = elim (classed_or_not a.version) [
    | inl known ↦
        let also_known = subst IsClassedVersion version known in
        let one = s.rows.classes known in
        let two = t.rows.classes also_known in (
          same_hosts a.classes b.classes s.rows.classes_in_order t.rows.classes_in_order (one_cells (one_table db _ _ _ (s.tables.each the_table.HostClass known) (t.tables.each the_table.HostClass also_known)) one.hosts two.hosts),
          sym one.workunits.same ∙ one_table db _ _ _ (s.tables.each the_table.WorkunitClass known) (t.tables.each the_table.WorkunitClass also_known) ∙ two.workunits.same,
        )
    | inr older ↦
        let one = s.rows.classless older in
        let two = t.rows.classless (λ known. older (subst IsClassedVersion (sym version) known)) in
        (one.hosts ∙ sym two.hosts, unbound_same a.workunits b.workunits works one.workunits two.workunits)
  ]

pub one_world : (db : Database) (a b : World) → Refines db a → Refines db b → SameWorld a b
one_world db a b s t =
    let project : stored_project a ∷ [] ≡ stored_project b ∷ [] = sym s.rows.project ∙ one_table db _ _ _ (s.tables.each the_table.Project tt) (t.tables.each the_table.Project tt) ∙ t.rows.project in
    let version : a.version ≡ b.version = cc in
    let works = sym s.rows.workunits.same ∙ one_table db _ _ _ (s.tables.each the_table.Workunit tt) (t.tables.each the_table.Workunit tt) ∙ t.rows.workunits.same in
    let grants = sym s.rows.grants.same ∙ one_table db _ _ _ (s.tables.each the_table.Grant tt) (t.tables.each the_table.Grant tt) ∙ t.rows.grants.same in
    let archived = sym s.rows.archived.same ∙ one_table db _ _ _ (s.tables.each the_table.Archived tt) (t.tables.each the_table.Archived tt) ∙ t.rows.archived.same in
    let instances = one_cells (one_table db _ _ _ (s.tables.each the_table.Result tt) (t.tables.each the_table.Result tt)) s.rows.instances t.rows.instances in
    let classes = one_classes db a b s t version works in
    let imports = IsPermutation-map read_import _ _ (one_cells (one_table db _ _ _ (s.tables.each the_table.Import tt) (t.tables.each the_table.Import tt)) s.rows.imports t.rows.imports) in
    record {
      workunits = same_works a.workunits b.workunits works classes.1 (brought a.workunits b.workunits (world_rises db a s) (world_rises db b t) instances);
      grants = sym (restored_from stored_grant read_grant (λ p. refl) 1 a.grants) ∙ ap (map read_grant) grants ∙ restored_from stored_grant read_grant (λ p. refl) 1 b.grants;
      archived = sym (restored_from stored_archived read_stored (λ p. archived_again p.1) 1 a.archived) ∙ ap (map read_stored) archived ∙ restored_from stored_archived read_stored (λ p. archived_again p.1) 1 b.archived;
      imports = subst (λ xs. IsPermutation xs b.imports) (restored import_cells read_import import_again a.imports) (subst (IsPermutation (map read_import (map import_cells a.imports))) (restored import_cells read_import import_again b.imports) imports);
      classes = classes.0;
      next_number = cc;
      version = version;
    }
