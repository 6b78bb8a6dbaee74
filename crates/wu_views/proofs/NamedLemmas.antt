-- The imports of one name: what is found of each kind, and that its lines are those of the name in the list of all.
use Rattle.wu_schema.proofs.Words.{AllByRecursion, Equal, Greater, IsAscending, Less, Ordering, filter-map}
use Rattle.std.proofs.Common.{◌≡◌, ◌∙◌, ◌<◌, ◌≤◌, ◌+◌, ◌++◌, ℕ, Bool, true, false, if◌then◌else◌, List, [], ◌∷◌, All, Option, None, Some, IfSome, ap, arith, bytes_eq, filter, find, get_or, inl, inr, length, map, refl, subst, sym, take}
use Rattle.std.proofs.lemmas.Bool.{and_parts, cases_Bool, eqb-true, false_from_ne_true, true≢false}
use Rattle.std.proofs.lemmas.Bool.Decides.{nat_tests}
use Rattle.std.proofs.lemmas.Cmp.{nat_list_cmp_total}
use Rattle.std.proofs.lemmas.List.{take_more}
use Rattle.std.proofs.lemmas.List.Elements.{All-head, All-tail, filter_map-append}
use Rattle.std.proofs.lemmas.Slice.Eq.{bytes_eq-Decides}
use Rattle.std.specs.Cmp.Lexicographic.{slice_cmp}
use Rattle.std.specs.List.{cons_option}
use Rattle.std.specs.Ordering.{nat_cmp, ordering_reverse, ordering_then}
use Rattle.std.specs.Prelude.{filter_map, option_map}
use Rattle.wu_core.proofs.HostLemmas.{by_order}
use Rattle.wu_core.specs.declared.import.ImportKind.TheVariants as kind
use Rattle.wu_views.proofs.ImportLemmas.{each_in_order, in_order_rises, Precedes, Differs}
use Rattle.wu_views.specs.Imports.{import_order, imports_in_order, with_import_placed}
use Rattle.wu_core.specs.Codes.{import_kind_code}
use Rattle.wu_core.specs.Storable.{AreVerdicts}
use Rattle.wu_core.specs.World.{Import, World, is_import}
use Rattle.wu_core.specs.declared.import.ImportKind.{ImportKind}
use Rattle.wu_schema.specs.declared.rows.StoredImport.{StoredImport}
use Rattle.wu_store.proofs.SameWorld.{kind_again, kind_of}
use Rattle.wu_store.specs.Loading.{IsEarlier, LoadsImport}
use Rattle.wu_views.specs.Lines.{AreImportsStorable, import_line_named, import_line_of, import_lines_named, IsStoredImportLine, stored_line}
use Rattle.wu_views.specs.declared.lines.ImportLine.{ImportLine}

-- ---- what is found

-- what is found is of this kind and name, and what holds of all holds of it
module _ (P : Import → Type 0) where
  pub found_import : (kind : ImportKind) (name : List ℕ) (imports : List Import) → All P imports → IfSome (find (is_import kind name) imports) (λ import. (is_import kind name import ≡ true) × P import)
  found_import kind name [] all = tt
  found_import kind name (import ∷ more) all = elim (cases_Bool (is_import kind name import)) [
    | inl is ↦ rw is (is, All-head P import more all)
    | inr not ↦ rw not (found_import kind name more (All-tail P import more all))
  ]

kind_same : (kind : ImportKind) (name : List ℕ) (import : Import) → is_import kind name import ≡ true → import.kind ≡ kind
kind_same kind name import is =
    let codes : import_kind_code import.kind ≡ import_kind_code kind = eqb-true _ _ (and_parts _ (bytes_eq import.name name) is).0 in
    sym (kind_again import.kind) ∙ ap kind_of codes ∙ kind_again kind

name_same : (kind : ImportKind) (name : List ℕ) (import : Import) → is_import kind name import ≡ true → import.name ≡ name
name_same kind name import is = (bytes_eq-Decides import.name name).0 (and_parts _ (bytes_eq import.name name) is).1

-- ---- the line of what is stored

line_same : (kind : ImportKind) (name : List ℕ) (stored : StoredImport) (kept : Import) → is_import kind name kept ≡ true → stored.first_number ≡ kept.first_number → stored.verdicts ≡ kept.verdicts
    → stored_line kind name stored ≡ import_line_of kept
line_same kind name stored kept is first verdicts = rw (kind_same kind name kept is, name_same kind name kept is, first, verdicts) refl

-- the line of what is stored is that of the import, where there is one
pub stored_is : (kind : ImportKind) (name : List ℕ) (world : World) (stored : Option StoredImport) → IsEarlier (find (is_import kind name) world.imports) stored
    → option_map (stored_line kind name) stored ≡ import_line_named kind name world
stored_is kind name world None none = ap (λ o. option_map import_line_of o) (sym none)
stored_is kind name world (Some stored) (kept, found, template, content, first, verdicts) =
    let is : is_import kind name kept ≡ true = (subst (λ o. IfSome o (λ import. (is_import kind name import ≡ true) × (Unit {0}))) found (found_import (λ _. Unit {0}) kind name world.imports (λ k d within. tt))).0 in
    ap {B = Option ImportLine} (λ line. Some line) (line_same kind name stored kept is first verdicts) ∙ ap (λ o. option_map import_line_of o) (sym found)

-- ---- what can be read

pub can_load : (kind : ImportKind) (name : List ℕ) (world : World) → AreImportsStorable world → LoadsImport kind name world
can_load kind name world all = by (find (is_import kind name) world.imports) (found_import (λ import. IsStoredImportLine (import_line_of import)) kind name world.imports all)
  where
    by : (o : Option Import) → IfSome o (λ import. (is_import kind name import ≡ true) × IsStoredImportLine (import_line_of import)) → IfSome o (λ import. AreVerdicts kind import.verdicts)
    by None it = tt
    by (Some import) it = subst (λ of. AreVerdicts of import.verdicts) (kind_same kind name import it.0) it.1.verdicts

-- ---- at most one is found, whatever the order

module _ (p : Import → Bool) where
  -- where one passes, no later one does
  abbrev PassesAlone : Import → Import → Type 0
  PassesAlone a b = p a ≡ true → p b ≡ false

  find_placed : (import : Import) (more : List Import) → (p import ≡ true → AllByRecursion (λ one. p one ≡ false) more) → find p (with_import_placed import more) ≡ find p (import ∷ more)
  find_placed import [] alone = refl
  find_placed import (one ∷ more) alone = by_order (import_order import one)
      (λ low. rw low refl)
      (λ tie. rw tie refl)
      (λ high. rw high (elim (cases_Bool (p one)) [
        | inl is ↦ elim (cases_Bool (p import)) [
          | inl both ↦ absurd (true≢false (sym is ∙ (alone both).0))
          | inr not ↦ rw (is, not) refl
        ]
        | inr not ↦ rw not (find_placed import more (λ is. (alone is).1))
      ]))

  none_passes : (import : Import) → p import ≡ true → (more : List Import) → AllByRecursion (PassesAlone import) more → AllByRecursion (λ one. p one ≡ false) more
  none_passes import is [] alone = tt
  none_passes import is (one ∷ more) alone = (alone.0 is, none_passes import is more alone.1)

  find_in_order : (imports : List Import) → IsAscending PassesAlone imports → find p (imports_in_order imports) ≡ find p imports
  find_in_order [] alone = refl
  find_in_order (import ∷ more) alone =
      find_placed import (imports_in_order more) (λ is. each_in_order (λ one. p one ≡ false) more (none_passes import is more alone.0))
      ∙ ap (λ o. if p import then Some import else o) (find_in_order more alone.1)

each_alone : (kind : ImportKind) (name : List ℕ) (import : Import) (more : List Import) → AllByRecursion (Differs import) more → AllByRecursion (PassesAlone (is_import kind name) import) more
each_alone kind name import [] apart = tt
each_alone kind name import (one ∷ more) apart = (
  (λ is. subst (λ of. is_import of name one ≡ false) (kind_same kind name import is) (subst (λ called. is_import import.kind called one ≡ false) (name_same kind name import is) apart.0)),
  each_alone kind name import more apart.1,
)

all_alone : (kind : ImportKind) (name : List ℕ) (imports : List Import) → IsAscending Differs imports → IsAscending (PassesAlone (is_import kind name)) imports
all_alone kind name [] apart = tt
all_alone kind name (import ∷ more) apart = (each_alone kind name import more apart.0, all_alone kind name more apart.1)

-- ---- those of a name, kind by kind

abbrev pub all_kinds : List ImportKind
all_kinds = kind.Batch ∷ kind.Sent ∷ kind.Reported ∷ kind.Classes ∷ []

self_equal : (o : Ordering) → o ≡ ordering_reverse o → o ≡ Equal
self_equal Less is = absurd cc
self_equal Equal is = refl
self_equal Greater is = absurd cc

not_behind : (m n : ℕ) (o : Ordering) → n ≤ m → o ≡ Equal → ordering_then (nat_cmp m n) o ≡ Less → ⊥
not_behind m n o low tie less = by_order (nat_cmp m n)
    (λ first. let is : m < n = grind (arith, nat_tests, first) in absurd (omega (arith, low, is)))
    (λ same. let no : Equal ≡ Less = sym tie ∙ subst (λ q. ordering_then q o ≡ Less) same less in cc)
    (λ high. let no : Greater ≡ Less = subst (λ q. ordering_then q o ≡ Less) high less in cc)

module _ (name : List ℕ) where
  abbrev of_kind : List Import → ImportKind → Option Import
  of_kind imports kind = find (is_import kind name) imports

  -- behind an import of the name none is found of its kind, or of one before
  none_behind : (kind : ImportKind) (import : Import) → import.name ≡ name → import_kind_code kind ≤ import_kind_code import.kind → (more : List Import) → AllByRecursion (Precedes import) more
      → of_kind more kind ≡ None
  none_behind kind import its low [] all = refl
  none_behind kind import its low (one ∷ more) all = rw other (none_behind kind import its low more all.1)
    where
      other : is_import kind name one ≡ false
      other = false_from_ne_true _ (λ is.
          let same : one.name ≡ import.name = name_same kind name one is ∙ sym its in
          let tie : slice_cmp nat_cmp import.name one.name ≡ Equal = subst (λ n. slice_cmp nat_cmp import.name n ≡ Equal) (sym same) (self_equal _ (nat_list_cmp_total.antisymm import.name import.name)) in
          let before : import_kind_code one.kind ≤ import_kind_code import.kind = rw (kind_same kind name one is) low in
          not_behind (import_kind_code import.kind) (import_kind_code one.kind) _ before tie all.0)

  -- the first of a list, and what is said of the others
  module _ (import : Import) (more : List Import) (below : AllByRecursion (Precedes import) more) (rest : filter (λ one. bytes_eq one.name name) more ≡ filter_map (of_kind more) all_kinds) where
    abbrev IsByKinds : Type 0
    IsByKinds = filter (λ one. bytes_eq one.name name) (import ∷ more) ≡ filter_map (of_kind (import ∷ more)) all_kinds

    none_of : bytes_eq import.name name ≡ true → (kind : ImportKind) → import_kind_code kind ≤ import_kind_code import.kind → of_kind more kind ≡ None
    none_of is kind low = none_behind kind import ((bytes_eq-Decides import.name name).0 is) low more below

    with_one : bytes_eq import.name name ≡ true → (of : ImportKind) → import.kind ≡ of → IsByKinds
    with_one is kind.Batch k =
        let batch = none_of is kind.Batch (rw k (omega arith)) in
        rw (is, k, (rw batch at rest)) refl
    with_one is kind.Sent k =
        let batch = none_of is kind.Batch (rw k (omega arith)) in
        let sent = none_of is kind.Sent (rw k (omega arith)) in
        rw (is, k, batch, (rw (batch, sent) at rest)) refl
    with_one is kind.Reported k =
        let batch = none_of is kind.Batch (rw k (omega arith)) in
        let sent = none_of is kind.Sent (rw k (omega arith)) in
        let reported = none_of is kind.Reported (rw k (omega arith)) in
        rw (is, k, batch, sent, (rw (batch, sent, reported) at rest)) refl
    with_one is kind.Classes k =
        let batch = none_of is kind.Batch (rw k (omega arith)) in
        let sent = none_of is kind.Sent (rw k (omega arith)) in
        let reported = none_of is kind.Reported (rw k (omega arith)) in
        let classes = none_of is kind.Classes (rw k (omega arith)) in
        rw (is, k, batch, sent, reported, (rw (batch, sent, reported, classes) at rest)) refl

    without_one : bytes_eq import.name name ≡ false → (of : ImportKind) → import.kind ≡ of → IsByKinds
    without_one not kind.Batch k = rw (not, k) rest
    without_one not kind.Sent k = rw (not, k) rest
    without_one not kind.Reported k = rw (not, k) rest
    without_one not kind.Classes k = rw (not, k) rest

  by_kinds : (imports : List Import) → IsAscending Precedes imports → filter (λ import. bytes_eq import.name name) imports ≡ filter_map (of_kind imports) all_kinds
  by_kinds [] up = refl
  by_kinds (import ∷ more) up = elim (cases_Bool (bytes_eq import.name name)) [
    | inl is ↦ with_one import more up.0 (by_kinds more up.1) is import.kind refl
    | inr not ↦ without_one import more up.0 (by_kinds more up.1) not import.kind refl
  ]

-- ---- their lines

-- those up to a kind, and with it
pub kind_more : (name : List ℕ) (world : World) (i : ℕ) (line : Option ImportLine) → i < length all_kinds → line ≡ import_line_named (get_or all_kinds i kind.Batch) name world
    → filter_map (λ kind. import_line_named kind name world) (take i all_kinds) ++ cons_option line [] ≡ filter_map (λ kind. import_line_named kind name world) (take (i + 1) all_kinds)
kind_more name world i line low is =
    let line_of : ImportKind → Option ImportLine = λ kind. import_line_named kind name world in
    ap (λ o. filter_map line_of (take i all_kinds) ++ cons_option o []) is
    ∙ sym (filter_map-append line_of (take i all_kinds) (get_or all_kinds i kind.Batch ∷ []))
    ∙ ap (filter_map line_of) (sym (take_more all_kinds i kind.Batch low))

mapped_option : {Y Z : Type 0} (f : Y → Z) (o : Option Y) (more : List Y) (all : List Z) → map f more ≡ all → map f (cons_option o more) ≡ cons_option (option_map f o) all
mapped_option f None more all rest = rest
mapped_option f (Some y) more all rest = ap (λ l. f y ∷ l) rest

mapped_options : {X Y Z : Type 0} (f : Y → Z) (h : X → Option Y) (xs : List X) → map f (filter_map h xs) ≡ filter_map (λ x. option_map f (h x)) xs
mapped_options f h [] = refl
mapped_options f h (x ∷ xs) = mapped_option f (h x) (filter_map h xs) (filter_map (λ y. option_map f (h y)) xs) (mapped_options f h xs)

same_options : {X Y : Type 0} (g h : X → Option Y) → ((x : X) → g x ≡ h x) → (xs : List X) → filter_map g xs ≡ filter_map h xs
same_options g h same [] = refl
same_options g h same (x ∷ xs) = ap (λ o. cons_option o (filter_map g xs)) (same x) ∙ ap (cons_option (h x)) (same_options g h same xs)

-- kind by kind the lines are those of the list of all that have the name
pub lines_named : (name : List ℕ) (world : World) → IsAscending Differs world.imports → filter_map (λ kind. import_line_named kind name world) all_kinds ≡ import_lines_named name world
lines_named name world apart =
    let ordered = imports_in_order world.imports in
    same_options (λ kind. import_line_named kind name world) (λ kind. option_map import_line_of (of_kind name ordered kind)) (λ kind. ap (λ o. option_map import_line_of o) (sym (find_in_order (is_import kind name) world.imports (all_alone kind name world.imports apart)))) all_kinds
    ∙ sym (mapped_options import_line_of (of_kind name ordered) all_kinds)
    ∙ ap (map import_line_of) (sym (by_kinds name ordered (in_order_rises world.imports apart)))
    ∙ sym (filter-map (λ (it : ImportLine). bytes_eq it.name name) import_line_of ordered)
