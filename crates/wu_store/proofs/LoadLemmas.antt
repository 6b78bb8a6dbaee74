-- What is loaded of a project is what the world has, step by step.
use Rattle.wu_store.proofs.AskLemmas.{reads_then}
use Rattle.wu_schema.proofs.ReadingLemmas.{read_as, not_ok, same_verdicts}
use Rattle.wu_schema.proofs.Words.{AllByRecursion, Bool, Err, Fault, Ghosts, IsOrWantsMemory, Held, IfErr, IfOk, Import, ImportKind, Instance, List, None, NotAProject, Ok, Option, Result, Row, Some, Refines, State, Workunit, World, [], ap, arith, cases_Bool, filter, find, if◌then◌else◌, inl, inr, instance_row, is_import, length, length-map, map, map-append, number, option_map, refl, slice_get, state, subst, sym, take, verdict_digits, workunit_row, ℕ, ◌++◌, ◌+◌, ◌-◌, ◌<◌, ◌==◌, ◌∙◌, ◌∷◌, ◌≡◌, ◌≢◌, ◌≤◌}
use Rattle.std.specs.Prelude.{All, IfSome, MatchResult, cond, false, get_or, true}
use Rattle.wu_core.specs.Storable.{IsClass, AreStoredInstances, HasItsInstances, IsNextNumber, IsStoredInstance, IsStorable, IsStoredWorkunit, bare}
use Rattle.std.specs.Option.{option_map_or}
use Rattle.sqlite_rules.proofs.ListLemmas.{has_found}
use Rattle.wu_schema.proofs.QuietLemmas.{same_some}
use Rattle.std.proofs.lemmas.List.{get_or-map, take_more}
use Rattle.std.proofs.lemmas.List.Elements.{All-weaker}
use Rattle.wu_core.specs.Formed.{IsInstance, IsWorkunit}
use Rattle.wu_core.specs.Limits.{most_instances}
use Rattle.wu_store.specs.Reads.{FindsAt, ReadsWorldIf}
use Rattle.wu_schema.proofs.CallLemmas.{back_none}
use Rattle.wu_schema.proofs.AskingLemmas.{survives_none}
use Rattle.wu_schema.specs.Restoring.{Restores}
use Rattle.wu_schema.specs.Stored.{kept_cells}
use Rattle.wu_store.specs.Answers.{instance_rows_of, kept_of, last_of, last_place, numbered, row_before}
use Rattle.wu_store.specs.StandsFor.{KnowsClasses}
use Rattle.wu_store.specs.Classes.{class_numbered, LoadsClass}
use Rattle.wu_store.specs.Loading.{classless, FindsClassless, IsWholeIfThere, Asks, Finds, FindsIfThere, FindsInstances, LoadsInstances, LoadsImport, IsEarlier, IsLoadable, IsLoadableIfThere, IsReadOnly, IsRowIfThere, IsRowOfPresent, IsStoreFault, instances_at}
pub use Rattle.wu_store.proofs.AskLemmas.{never_refused}
use Rattle.wu_schema.specs.Reading.{HasStoredVerdicts, stored_import_row}
use Rattle.wu_schema.specs.declared.rows.StoredImport.{StoredImport}
use Rattle.wu_store.proofs.PlacedLemmas.{Rises, world_rises}
use Rattle.wu_store.proofs.SameWorld.{only_one, same_instances, same_workunit}

-- ---- from one read to the next

pub read_none : (s : State) → IsReadOnly s s
read_none s = record { survives = survives_none s; back = λ _. back_none s }

-- what any number of questions do is a read
pub asks_read : {S T : Type 0} (g : Ghosts S) (old new : Held S) (r : Result T Fault) → Asks g old new r → IsReadOnly (state g old) (state g new)
asks_read g old new r it = record { survives = it.crash; back = it.back }

-- ---- what is refused

-- what is stored of a value is read
pub never_unread : {T C : Type 0} (stored_as : T → C) (IsValue : T → Type 0) (stored : C) (r : Result T Fault) (value : T) → Restores stored_as IsValue stored r → IsValue value → stored ≡ stored_as value → IfErr r (λ fault. fault ≢ NotAProject)
never_unread stored_as IsValue stored (Ok x) value reads is same = tt
never_unread stored_as IsValue stored (Err f) value reads is same = elim (reads.found value is same) [ inl ok ↦ absurd cc | inr memory ↦ λ refused. cc ]

-- ---- the next number

pub next_is : (n : ℕ) (row : Row) (r : Result ℕ Fault) → row ≡ number n ∷ [] → Restores (λ next. number next ∷ []) IsNextNumber row r → MatchResult r (λ next. next ≡ n) IsStoreFault
next_is n row (Ok next) is reads = let same : number n ∷ [] ≡ number next ∷ [] = sym is ∙ reads.value.0 in cc
next_is n row (Err fault) is reads = elim reads.refused [ inl memory ↦ inl memory | inr other ↦ inr (inr other) ]

pub next_within : (row : Row) (r : Result ℕ Fault) → Restores (λ next. number next ∷ []) IsNextNumber row r → IfOk r IsNextNumber
next_within row (Ok next) reads = reads.value.1
next_within row (Err fault) reads = tt

-- ---- the next places

-- the row of a list's last place is read
pub place_read : {X : Type 0} (xs : List X) (last : Option Row) (r : Result ℕ Fault) → last ≡ last_place xs → Restores row_before (λ place. 1 ≤ place) last r → IfErr r (λ fault. fault ≢ NotAProject)
place_read xs last r is reads =
    let e : length xs ≡ length xs + 1 - 1 = omega arith in
    never_unread row_before (λ place. 1 ≤ place) last r (length xs + 1) reads (omega arith) (is ∙ ap last_of e)

-- and the place behind it is known
pub place_known : {X : Type 0} (xs : List X) (last : Option Row) (r : Result ℕ Fault) → last ≡ last_place xs → Restores row_before (λ place. 1 ≤ place) last r → MatchResult r (λ place. place ≡ length xs + 1) IsStoreFault
place_known xs last r is reads =
    let e : length xs ≡ length xs + 1 - 1 = omega arith in
    known r (reads.found (length xs + 1) (omega arith) (is ∙ ap last_of e))
  where
    known : (r : Result ℕ Fault) → IsOrWantsMemory r (Ok (length xs + 1)) → MatchResult r (λ place. place ≡ length xs + 1) IsStoreFault
    known (Ok place) (inl is) = let same = is in cc
    known (Ok place) (inr memory) = absurd cc
    known (Err fault) (inl is) = absurd cc
    known (Err fault) (inr memory) = inl (let same = memory in cc)

-- ---- the first of what passes a test

found_none : {X : Type 0} (p : X → Bool) (xs : List X) → filter p xs ≡ [] → find p xs ≡ None
found_none p [] none = refl
found_none p (x ∷ xs) none = elim (cases_Bool (p x)) [
  | inl is ↦ absurd (let some : x ∷ filter p xs ≡ [] = subst (λ b. (if b then x ∷ filter p xs else filter p xs) ≡ []) is none in cc)
  | inr not ↦ rw not (found_none p xs (subst (λ b. (if b then x ∷ filter p xs else filter p xs) ≡ []) not none))
]

pub found_first : {X : Type 0} (p : X → Bool) (xs : List X) (one : X) (more : List X) → filter p xs ≡ one ∷ more → find p xs ≡ Some one
found_first p [] one more some = absurd cc
found_first p (x ∷ xs) one more some = elim (cases_Bool (p x)) [
  | inl is ↦ rw is (let same : x ∷ filter p xs ≡ one ∷ more = subst (λ b. (if b then x ∷ filter p xs else filter p xs) ≡ one ∷ more) is some in cc)
  | inr not ↦ rw not (found_first p xs one more (subst (λ b. (if b then x ∷ filter p xs else filter p xs) ≡ one ∷ more) not some))
]

pub no_first : (rows : List Row) → slice_get rows 0 ≡ None → rows ≡ []
no_first [] is = refl
no_first (row ∷ more) is = absurd cc

pub one_first : (rows : List Row) (row : Row) → slice_get rows 0 ≡ Some row → (more : List Row) × (rows ≡ row ∷ more)
one_first [] row is = absurd cc
one_first (first ∷ more) row is = (more, cc)

-- ---- an import

-- no row, no import
pub none_earlier : (k : ImportKind) (name : List ℕ) (world : World) → kept_of k name world ≡ [] → find (is_import k name) world.imports ≡ None
none_earlier k name world none = found_none (is_import k name) world.imports (unmapped (filter (is_import k name) world.imports) none)
  where
    unmapped : (imports : List Import) → map kept_cells imports ≡ [] → imports ≡ []
    unmapped [] is = refl
    unmapped (import ∷ more) is = absurd cc

-- the stored import of a row is the world's
same_import : (import : Import) (stored : StoredImport) → kept_cells import ≡ stored_import_row stored
    → (stored.template ≡ import.template) × (stored.content ≡ import.content) × (stored.first_number ≡ import.first_number) × (stored.verdicts ≡ import.verdicts)
same_import import stored is =
    let digits : verdict_digits stored.verdicts ≡ verdict_digits import.verdicts = cc in
    (cc, cc, cc, same_verdicts stored.verdicts import.verdicts digits)

module _ (k : ImportKind) (name : List ℕ) (world : World) (row : Row) (more : List Row) (rows : kept_of k name world ≡ row ∷ more) where
  -- the first row is that of the import
  row_of_import : (import : Import) × (find (is_import k name) world.imports ≡ Some import) × (kept_cells import ≡ row)
  row_of_import = among (filter (is_import k name) world.imports) refl rows
    where
      among : (imports : List Import) → filter (is_import k name) world.imports ≡ imports → map kept_cells imports ≡ row ∷ more → (import : Import) × (find (is_import k name) world.imports ≡ Some import) × (kept_cells import ≡ row)
      among [] are is = absurd cc
      among (import ∷ others) are is = (import, found_first (is_import k name) world.imports import others are, cc)

  pub some_earlier : (stored : StoredImport) → Restores stored_import_row (HasStoredVerdicts k) row (Ok stored) → IsEarlier (find (is_import k name) world.imports) (Some stored)
  some_earlier stored reads =
      let it = row_of_import in
      let same = same_import it.0 stored (it.2 ∙ reads.value.0) in
      (it.0, it.1, same.0, same.1, same.2, same.3)

  pub import_read : (r : Result StoredImport Fault) → Restores stored_import_row (HasStoredVerdicts k) row r → LoadsImport k name world → IfErr r (λ fault. fault ≢ NotAProject)
  import_read r reads has =
      let it = row_of_import in
      let stored : StoredImport = record { template = it.0.template; content = it.0.content; first_number = it.0.first_number; verdicts = it.0.verdicts } in
      never_unread stored_import_row (HasStoredVerdicts k) row r stored reads (rw it.1 at has) (sym it.2)

-- ---- instances

module _ {T : Type 0} (row_of : T → Row) where
  -- one more row is one more value
  pub rows_more : (are : List T) (rows : List Row) (i : ℕ) (one : T) (d : Row) → map row_of are ≡ take i rows → i < length rows → get_or rows i d ≡ row_of one → map row_of (are ++ one ∷ []) ≡ take (i + 1) rows
  rows_more are rows i one d so_far low at =
      map-append row_of are (one ∷ []) ∙ ap (λ rs. rs ++ row_of one ∷ []) so_far ∙ ap (λ r. take i rows ++ r ∷ []) (sym at) ∙ sym (take_more rows i d low)

  -- a row that can't be read is that of none of such values
  pub rows_unread : (IsValue : T → Type 0) (AreValues : List T → Type 0) → ((xs : List T) → AreValues xs → All IsValue xs) → (rows : List Row) (i : ℕ) (d row : Row) (f : Fault) → i < length rows → get_or rows i d ≡ row → Restores row_of IsValue row (Err f) → Restores (map row_of) AreValues rows (Err f)
  rows_unread IsValue AreValues each rows i d row f low at unread = record {
    value = tt;
    found = found;
    refused = unread.refused;
  }
    where
      found : (others : List T) → AreValues others → rows ≡ map row_of others → IsOrWantsMemory (Err f) (Ok others)
      found [] are same = absurd (let none : length rows ≡ 0 = ap (λ rs. length rs) same in omega (arith, none, low))
      found (one ∷ others) are same =
          let within : i < length (one ∷ others) = subst (λ n. i < n) (ap (λ rs. length rs) same ∙ length-map (one ∷ others) row_of) low in
          not_ok f (get_or (one ∷ others) i one) (one ∷ others) (unread.found (get_or (one ∷ others) i one) (each (one ∷ others) are i one within) (sym at ∙ ap (λ rs. get_or rs i d) same ∙ get_or-map row_of (one ∷ others) i one d within))

pub instances_restored : (rows : List Row) (are : List Instance) → map instance_row are ≡ rows → All IsStoredInstance are → length rows ≤ most_instances → Restores (map instance_row) AreStoredInstances rows (Ok are)
instances_restored rows are is each few =
    read_as (sym is, record { each = each; few = omega (arith, few, ap (λ rs. length rs) (sym is) ∙ length-map are instance_row) }) (λ others stored same. same_instances are others (is ∙ same))

-- what is read is such as is stored
pub instances_stored : (rows : List Row) (r : Result (List Instance) Fault) → Restores (map instance_row) AreStoredInstances rows r → IfOk r AreStoredInstances
instances_stored rows (Ok are) reads = reads.value.1
instances_stored rows (Err f) reads = tt

rows_at : (n : ℕ) (world : World) → instance_rows_of n world ≡ map instance_row (instances_at n world)
rows_at n world = go (numbered n world)
  where
    go : (o : Option Workunit) → option_map_or (λ (w : Workunit). map instance_row w.instances) o [] ≡ map instance_row (option_map_or (λ (w : Workunit). w.instances) o [])
    go None = refl
    go (Some w) = refl

module _ (n : ℕ) (world : World) (rows : List Row) (are : rows ≡ instance_rows_of n world) where
  pub instances_found : (r : Result (List Instance) Fault) → Restores (map instance_row) AreStoredInstances rows r → FindsInstances n r world
  instances_found (Ok found) reads = same_instances found (instances_at n world) (sym reads.value.0 ∙ are ∙ rows_at n world)
  instances_found (Err f) reads = elim reads.refused [ inl memory ↦ inl memory | inr other ↦ inr (inr other) ]

  pub instances_read : (r : Result (List Instance) Fault) → Restores (map instance_row) AreStoredInstances rows r → AreStoredInstances (instances_at n world) → IfErr r (λ fault. fault ≢ NotAProject)
  instances_read r reads stored = never_unread (map instance_row) AreStoredInstances rows r (instances_at n world) reads stored (are ∙ rows_at n world)

-- ---- a workunit

at_present : (w : Workunit) (world : World) → numbered w.number world ≡ Some w → instances_at w.number world ≡ w.instances
at_present w world is = ap (λ o. option_map_or (λ (v : Workunit). v.instances) o []) is

-- a row that was read, with instances such as its workunit may have
pub well_formed : (row : Row) (v : Workunit) (are : List Instance) → Restores workunit_row IsStoredWorkunit row (Ok v) → AreStoredInstances are → HasItsInstances (record v { instances = are })
    → IsWorkunit (record v { instances = are })
well_formed row v are reads stored whole =
    let it = reads.value.1 in
    record {
      parameters = it.parameters;
      instances = All-weaker IsStoredInstance IsInstance (λ i h. h.formed) are stored.each;
      within = whole.within;
      canonical = whole.canonical;
      done = it.stamped.done;
      done_only = it.stamped.done_only;
    }

-- and with its class
pub formed_classed : (v : Workunit) (class : ℕ) → IsWorkunit v → IsWorkunit (record v { class = class })
formed_classed v class formed = record {
  parameters = formed.parameters;
  instances = formed.instances;
  within = formed.within;
  canonical = formed.canonical;
  done = formed.done;
  done_only = formed.done_only;
}

module _ (row : Row) (world : World) (w : Workunit) (of : IsRowOfPresent row w world) where
  -- a row that was read, and its instances
  pub whole_found : (v : Workunit) (are : List Instance) → Restores workunit_row IsStoredWorkunit row (Ok v) → are ≡ instances_at v.number world → record v { instances = are } ≡ classless w
  whole_found v are reads is =
      let same = same_workunit v w (sym reads.value.0 ∙ of.row_is) in
      let instances : are ≡ w.instances = is ∙ ap (λ (u : Workunit). instances_at u.number world) same ∙ at_present w world of.present in
      λ i. record (same i) { instances = instances i; class = reads.value.1.classless i }

  -- the row of a workunit that can be read is read,
  pub row_read : (r : Result Workunit Fault) → Restores workunit_row IsStoredWorkunit row r → IsStorable w → IfErr r (λ fault. fault ≢ NotAProject)
  row_read r reads can = never_unread workunit_row IsStoredWorkunit row r (bare w) reads can.row of.row_is

  -- and so are its instances
  pub instances_can : (v : Workunit) → Restores workunit_row IsStoredWorkunit row (Ok v) → IsStorable w → LoadsInstances v.number world
  instances_can v reads can =
      let same : v.number ≡ w.number = ap (λ (u : Workunit). u.number) (same_workunit v w (sym reads.value.0 ∙ of.row_is)) in
      (omega (arith, same, can.number), subst (λ n. AreStoredInstances (instances_at n world)) (sym same) (subst AreStoredInstances (sym (at_present w world of.present)) can.instances))

  -- which are such as it may have
  pub whole_can : (v : Workunit) (are : List Instance) → Restores workunit_row IsStoredWorkunit row (Ok v) → are ≡ instances_at v.number world → IsStorable w → HasItsInstances (record v { instances = are })
  whole_can v are reads is can = subst HasItsInstances (sym (whole_found v are reads is)) (record { within = can.whole.within; canonical = can.whole.canonical })

-- ---- what is found where there is a row, and where there is none

pub none_there : (row : Option Row) → row ≡ None → (found : Option Workunit) (world : World) → IsRowIfThere row found world → None ≡ option_map classless found
none_there None is None world of = refl
none_there None is (Some w) world of = absurd of
none_there (Some row) is found world of = absurd cc

pub some_there : (there : Option Row) (row : Row) → there ≡ Some row → (found : Option Workunit) (world : World) → IsRowIfThere there found world → (w : Workunit) × (found ≡ Some w) × IsRowOfPresent row w world
some_there None row is found world of = absurd cc
some_there (Some first) row is None world of = absurd of
some_there (Some first) row is (Some w) world of = (w, refl, let same : first ≡ row = cc in subst (λ r. IsRowOfPresent r w world) same of)

-- the row of the first workunit that passes a test is that of the present one, since no two have one number
first_there : (p : Workunit → Bool) (world : World) (row : Option Row) → Rises world.workunits → row ≡ option_map workunit_row (find p world.workunits) → IsRowIfThere row (find p world.workunits) world
first_there p world row up is = go (find p world.workunits) refl row is
  where
    go : (o : Option Workunit) → find p world.workunits ≡ o → (row : Option Row) → row ≡ option_map workunit_row o → IsRowIfThere row o world
    go None found None is = tt
    go None found (Some r) is = absurd cc
    go (Some w) found None is = absurd cc
    go (Some w) found (Some r) is = record {
      present = found_first (λ (v : Workunit). v.number == w.number) world.workunits w [] (only_one w world.workunits up (has_found p world.workunits w found).0);
      row_is = same_some is;
    }

-- a workunit without a class is found as it is
found_classless : (p : Workunit → Bool) (ws : List Workunit) → AllByRecursion (λ (w : Workunit). w.class ≡ 0) ws → option_map classless (find p ws) ≡ find p ws
found_classless p [] all = refl
found_classless p (w ∷ ws) all = go (found_classless p ws all.1) (p w)
  where
    go : option_map classless (find p ws) ≡ find p ws → (b : Bool) → option_map classless (cond b (Some w) (find p ws)) ≡ cond b (Some w) (find p ws)
    go again true = λ i. Some (record w { class = sym all.0 i })
    go again false = again

-- a workunit that was found without its class, and is this present one
pub record IsBack (v w : Workunit) (found : Option Workunit) (world : World) : Type 0 where
  pub found_is : found ≡ Some w
  pub same : v ≡ classless w
  pub present : numbered w.number world ≡ Some w

pub back_there : (row : Option Row) (found : Option Workunit) (world : World) (v : Workunit) → IsRowIfThere row found world → Some v ≡ option_map classless found → (w : Workunit) × IsBack v w found world
back_there row None world v of is = absurd (cc)
back_there None (Some w) world v of is = absurd of
back_there (Some row) (Some w) world v of is = (w, record { found_is = refl; same = same_some is; present = of.present })

pub nothing_back : (found : Option Workunit) → None ≡ option_map classless found → None ≡ found
nothing_back None is = refl
nothing_back (Some w) is = absurd (cc)

module _ (v w : Workunit) (found : Option Workunit) (world : World) (it : IsBack v w found world) where
  number_back : v.number ≡ w.number
  number_back = ap (λ (x : Workunit). x.number) it.same

  -- the class that is told of its number is its own
  pub class_told : class_numbered v.number world ≡ Some w.class
  class_told = ap (λ n. class_numbered n world) number_back ∙ ap (option_map (λ (x : Workunit). x.class)) it.present

  pub class_back : (class : ℕ) → Some class ≡ class_numbered v.number world → Some (record v { class = class }) ≡ found
  class_back class told =
      let same : class ≡ w.class = same_some (told ∙ class_told) in
      let one : record v { class = class } ≡ w = λ i. record (it.same i) { class = same i } in
      ap (λ (x : Workunit). Some x) one ∙ sym it.found_is

  pub class_can : IsStorable w → LoadsClass v.number world
  class_can can = (omega (arith, number_back, can.number), subst (λ o. IfSome o IsClass) (sym class_told) can.class)

-- a row that was read, of the first workunit that passes a test, and then its instances
module _ {S : Type 0} (g : Ghosts S) (old mid new : Held S) (p : Workunit → Bool) (row : Option Row) (result : Result (Option Workunit) Fault) {Asked : Type 0} {Could : World → Type 0} (first : ReadsWorldIf g old mid (Ok row) Asked (FindsAt (λ world. option_map workunit_row (find p world.workunits))) Could) where
  there : (world : World) → Refines (state g old).now world → row ≡ option_map workunit_row (find p world.workunits) → IsRowIfThere row (find p world.workunits) world
  there world stands is = first_there p world row (world_rises (state g old).now world stands) is

  pub load_then : {More : Type 0} → ReadsWorldIf g mid new result More (FindsIfThere row) (IsWholeIfThere row) → ReadsWorldIf g old new result Asked (λ r world. KnowsClasses world → Finds (find p world.workunits) r) (λ world. KnowsClasses world × IsLoadable (find p world.workunits))
  load_then next = reads_then g old mid new row first result next (λ world stands is found known. found known (find p world.workunits) (there world stands is))
      (λ world stands is can. record { known = can.0; loadable = (find p world.workunits, there world stands is, can.1) })

  -- where there are no classes
  pub early_then : {More : Type 0} → ReadsWorldIf g mid new result More (FindsClassless row) (IsLoadableIfThere row) → ReadsWorldIf g old new result Asked (λ r world. ¬ KnowsClasses world → Finds (find p world.workunits) r) (λ world. IsLoadable (find p world.workunits))
  early_then next = reads_then g old mid new row first result next
      (λ world stands is found early. subst (λ o. Finds o result) (found_classless p world.workunits (stands.rows.classless early).workunits) (found (find p world.workunits) (there world stands is)))
      (λ world stands is can. (find p world.workunits, there world stands is, can))
