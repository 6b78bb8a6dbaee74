-- The classes of hosts in order of their names, and those of workunits.
use Rattle.wu_schema.proofs.Words.{AllByRecursion, None, World, flat_map, instances_of, IsPermutation, IsSorted, List, Row, Some, Workunit, [], ap, arith, class_cells, column, length, length-map, map, map-append, map-map, number, on_total, refl, slice_get, subst, suc, sym, take, workunit_row, zero, ℕ, ◌++◌, ◌+◌, ◌-◌, ◌<◌, ◌∙◌, ◌∷◌, ◌≡◌, ◌≢◌}
use Rattle.wu_schema.proofs.ReadingLemmas.{same_class}
use Rattle.wu_store.specs.Loading.{classless}
use Rattle.std.specs.Cmp.{IsTotalOrder}
use Rattle.std.specs.Prelude.{All}
use Rattle.std.proofs.lemmas.Cmp.{nat_list_cmp_total}
use Rattle.std.proofs.Common.{drop, get_or, set, ◌≤◌}
use Rattle.std.proofs.lemmas.List.{drop_all, length-take-le, take-append-drop, take-map, take_at, take_more, take_more_set}
use Rattle.std.proofs.lemmas.List.Elements.{All-from_recursion, recursion_from_All}
use Rattle.sqlite_trees.proofs.ListLemmas.{all-map, all_of, all_weaker, flat_map-map}
use Rattle.wu_core.specs.Classes.{AreInOrder}
use Rattle.wu_core.specs.Storable.{IsStorable}
use Rattle.wu_core.specs.declared.workunit.HostClass.{HostClass}
use Rattle.wu_store.proofs.SameWorld.{read_number}
use Rattle.wu_loader.specs.Classing.{by_classed_host, numbers, numbers_classed, AreClassedBy, AreOfOthers, AreRising}
use Rattle.wu_loader.specs.Rows.{classed_of, classed_row, IsStoredClass}
use Rattle.wu_loader.specs.Whole.{DiffersAt, IsNoRow}
use Rattle.wu_loader.specs.Wrongs.{keys}
use Rattle.wu_loader.specs.Worlds.{ArePlainRowsOf, AreRowsOf, HasClassesOf}
use Rattle.wu_loader.specs.declared.rows.Classed.{Classed}
use Rattle.wu_loader.specs.declared.tables.ClassRows.{ClassRows}
use Rattle.wu_loader.specs.declared.tables.TableRows.{TableRows}
use Rattle.wu_loader.specs.declared.world.WithClasses.{WithClasses}
use Rattle.wu_loader.proofs.WholeLemmas.{differs_mapped, got_behind, no_rows, rows_plain}
use Rattle.wu_loader.proofs.InPlaceLemmas.{one_more, rest_stays}
use Rattle.wu_loader.proofs.OrderLemmas.{ascending, in_pairs, named_are, one_list, pairs_rise}

pub by_host_total : IsTotalOrder by_classed_host
by_host_total = on_total (λ (it : HostClass). it.host) nat_list_cmp_total

pub rising_in_order : (classes : List HostClass) → AreRising classes → AreInOrder classes
rising_in_order classes up = in_pairs by_classed_host classes (ascending by_classed_host by_host_total classes up)

-- sorted ones that have the rows of ones in order are those
pub rising_must : (classes sorted : List HostClass) → AreInOrder classes → IsSorted by_classed_host sorted → IsPermutation (map class_cells classes) (map class_cells sorted) → AreRising sorted
rising_must classes sorted in_order up same =
    let rises : AreRising classes = pairs_rise by_classed_host classes in_order in
    let is = named_are (λ (it : HostClass). it.host) class_cells (λ it. refl) same_class classes sorted (ascending by_classed_host by_host_total classes rises) up same in
    subst AreRising (sym is) rises

-- ---- the classes of workunits

pub one_classed : (a b : Classed) → classed_row a ≡ classed_row b → a ≡ b
one_classed a b same = λ i. record { workunit = read_number (column (same i) 0); class = read_number (column (same i) 1) }

pub numbers_of_rows : (vs ws : List Workunit) → map workunit_row vs ≡ map workunit_row ws → map (λ (w : Workunit). w.number) vs ≡ map (λ (w : Workunit). w.number) ws
numbers_of_rows vs ws same =
    sym (map-map (λ (r : Row). read_number (column r 0)) workunit_row vs) ∙ ap (map (λ (r : Row). read_number (column r 0))) same ∙ map-map (λ (r : Row). read_number (column r 0)) workunit_row ws

pub not_classed : (classes : List Classed) (n m : ℕ) → ((one : Classed) → slice_get classes n ≡ Some one → one.workunit ≢ m) → slice_get (numbers_classed classes) n ≢ Some m
not_classed [] n m other is = absurd cc
not_classed (c ∷ cs) zero m other is = let same : c.workunit ≡ m = cc in other c refl same
not_classed (c ∷ cs) (suc n) m other is = not_classed cs n m other is

pub never_past : {X : Type 0} (xs : List X) (n : ℕ) → n < length xs → slice_get xs n ≢ None
never_past [] n low is = absurd (omega (arith, low))
never_past (x ∷ xs) zero low is = absurd cc
never_past (x ∷ xs) (suc n) low is = never_past xs n (omega (arith, low)) is

-- so far in place: the workunits before an index have the classes of their rows, and the others are as at first
pub record IsClassingAt (workunits : List Workunit) (classes : List Classed) (n : ℕ) (now : List Workunit) : Type 0 where
  pub same : map classless (take n now) ≡ map classless (take n workunits)
  pub classed : map classed_of (take n now) ≡ take n classes
  pub stays : drop n now ≡ drop n workunits

module _ (workunits now : List Workunit) (classes : List Classed) (n : ℕ) (so_far : IsClassingAt workunits classes n now) where
  pub classes_next : (d : Workunit) (one : Classed) → n < length now → n < length classes → get_or classes n one ≡ one → one.workunit ≡ (get_or now n d).number
      → IsClassingAt workunits classes (n + 1) (set now n (record (get_or now n d) { class = one.class }))
  classes_next d one low there is number =
      let w = get_or now n d in
      let its : Workunit = record w { class = one.class } in
      let grown = take_more_set now n its low in
      let same : classed_of its ≡ one = λ i. record { workunit = sym number i; class = one.class } in
      record {
        same = ap (map classless) grown ∙ map-append classless (take n now) (its ∷ []) ∙ ap (λ ws. ws ++ classless w ∷ []) so_far.same ∙ sym (map-append classless (take n workunits) (w ∷ [])) ∙ ap (map classless) (sym (one_more workunits now n d low so_far.stays));
        classed = ap (map classed_of) grown ∙ map-append classed_of (take n now) (its ∷ []) ∙ ap (λ cs. cs ++ classed_of its ∷ []) so_far.classed ∙ ap (λ c. take n classes ++ c ∷ []) (same ∙ sym is) ∙ sym (take_more classes n one there);
        stays = rest_stays workunits now n d low so_far.stays its;
      }

  -- up to there the rows of classes are those of the workunits, and at the next one they differ
  pub differs_next : n ≤ length now → slice_get (numbers_classed classes) n ≢ slice_get (numbers (drop n workunits)) 0 → DiffersAt (numbers workunits) (numbers_classed classes) (n + 1)
  differs_next within other =
      let done = numbers (take n workunits) in
      let rest = numbers (drop n workunits) in
      let same : numbers (take n now) ≡ done = sym (map-map (λ (w : Workunit). w.number) classless (take n now)) ∙ ap (λ (ws : List Workunit). numbers ws) so_far.same ∙ map-map (λ (w : Workunit). w.number) classless (take n workunits) in
      let long : length done ≡ n = sym (ap (λ (ns : List ℕ). length ns) same) ∙ length-map (take n now) (λ (w : Workunit). w.number) ∙ length-take-le n now within in
      let split : numbers workunits ≡ done ++ rest = ap (λ (ws : List Workunit). numbers ws) (sym (take-append-drop n workunits)) ∙ map-append (λ (w : Workunit). w.number) (take n workunits) (drop n workunits) in
      let front : take n (numbers_classed classes) ≡ done = take-map (λ (c : Classed). c.workunit) n classes ∙ ap (λ (cs : List Classed). numbers_classed cs) (sym so_far.classed) ∙ map-map (λ (c : Classed). c.workunit) classed_of (take n now) ∙ same in
      let wanted : take n (numbers workunits) ≡ done = ap (take n) split ∙ take_at done rest n long in
      let next : slice_get (numbers workunits) n ≡ slice_get rest 0 = ap (λ (ns : List ℕ). slice_get ns n) split ∙ ap (slice_get (done ++ rest)) (sym long) ∙ got_behind done rest in
      let e : n ≡ n + 1 - 1 = omega arith in
      record {
        counted = omega arith;
        before = subst (λ k. take k (numbers_classed classes) ≡ take k (numbers workunits)) e (front ∙ sym wanted);
        other = λ is. other (subst (λ k. slice_get (numbers_classed classes) k ≡ slice_get (numbers workunits) k) (sym e) is ∙ next);
      }

  pub none_left : length now ≤ n → drop n workunits ≡ []
  none_left end = sym so_far.stays ∙ drop_all n now end

-- so do the keys of their rows
pub differs_keys : (ws : List Workunit) (classes : List Classed) (rows : List Row) (place : ℕ) → rows ≡ map classed_row classes → DiffersAt (numbers ws) (numbers_classed classes) place → DiffersAt (keys (map workunit_row ws)) (keys rows) place
differs_keys ws classes rows place read it =
    let wanted : map number (numbers ws) ≡ keys (map workunit_row ws) = map-map number (λ (w : Workunit). w.number) ws ∙ sym (map-map (λ (row : Row). column row 0) workunit_row ws) in
    let found : map number (numbers_classed classes) ≡ keys rows = map-map number (λ (c : Classed). c.workunit) classes ∙ sym (map-map (λ (row : Row). column row 0) classed_row classes) ∙ ap keys (sym read) in
    subst (λ ks. DiffersAt ks (keys rows) place) wanted (subst (λ ks. DiffersAt (map number (numbers ws)) ks place) found (differs_mapped number (λ a b same. ap read_number same) (numbers ws) (numbers_classed classes) place it))

-- ---- without classes

pub rows_unclassed : (ws : List Workunit) → map workunit_row (map classless ws) ≡ map workunit_row ws
rows_unclassed ws = map-map workunit_row classless ws

instances_unclassed : (ws : List Workunit) → flat_map instances_of (map classless ws) ≡ flat_map instances_of ws
instances_unclassed = flat_map-map instances_of classless

unclassed_all : (ws : List Workunit) → AllByRecursion (λ (w : Workunit). w.class ≡ 0) (map classless ws)
unclassed_all ws = all-map (λ (w : Workunit). w.class ≡ 0) classless ws (all_of _ (λ w. refl) ws)

-- ---- what was found

pub found_none : (workunits : List Workunit) (found : WithClasses) → found.workunits.items ≡ map classless workunits → found.hosts.items ≡ [] → HasClassesOf workunits None found
found_none workunits found is empty = record {
  same = ap (map classless) is ∙ map-map classless classless workunits;
  classes = λ world works hosts. record { hosts = hosts ∙ empty; workunits = subst (AllByRecursion (λ (w : Workunit). w.class ≡ 0)) (sym (works ∙ is)) (unclassed_all workunits) };
  in_order = subst AreInOrder (sym empty) (λ i j d less low. absurd (omega (arith, low)));
}

pub found_classes : (workunits : List Workunit) (rows : ClassRows) (classes : List Classed) (found : WithClasses) → rows.workunits ≡ map classed_row classes → AreClassedBy workunits classes found.workunits.items
    → IsPermutation (map class_cells found.hosts.items) rows.hosts → AreInOrder found.hosts.items → HasClassesOf workunits (Some rows) found
found_classes workunits rows classes found read by hosts_are in_order = record {
  same = by.same;
  classes = λ world works hosts. record {
    hosts = subst (λ (cs : List HostClass). IsPermutation (map class_cells cs) rows.hosts) (sym hosts) hosts_are;
    workunits = read ∙ ap (map classed_row) (sym by.classes) ∙ ap (λ (ws : List Workunit). map classed_row (map classed_of ws)) (sym works);
  };
  in_order = in_order;
}

pub found_rows : (version : ℕ) (rows : TableRows) (plain : World) (found : WithClasses) → ArePlainRowsOf rows.plain plain → HasClassesOf plain.workunits rows.classes found → plain.version ≡ version → AreRowsOf version rows (record plain { workunits = found.workunits.items; classes = found.hosts.items })
found_rows version rows plain found are has is = record {
  plain = record {
    project = are.project;
    workunits = are.workunits ∙ sym (rows_unclassed plain.workunits) ∙ ap (map workunit_row) (sym has.same) ∙ rows_unclassed found.workunits.items;
    instances = subst (λ (rs : List Row). IsPermutation rs rows.plain.instances) (sym (instances_unclassed plain.workunits) ∙ ap (flat_map instances_of) (sym has.same) ∙ instances_unclassed found.workunits.items) are.instances;
    grants = are.grants;
    hosts = are.hosts;
    archived = are.archived;
    imports = are.imports;
    imports_kept = are.imports_kept;
  };
  classes = has.classes (record plain { workunits = found.workunits.items; classes = found.hosts.items }) refl refl;
  in_order = has.in_order;
  version = is;
}

-- ---- where a row is that of none

classes_stored : (ws : List Workunit) → AllByRecursion IsStorable ws → AllByRecursion IsStoredClass (map classed_of ws)
classes_stored ws each = all-map IsStoredClass classed_of ws (all_weaker IsStorable (λ w. IsStoredClass (classed_of w)) (λ w is. is.class) ws each)

pub never_classed : (rows : List Row) (place : ℕ) → IsNoRow (λ _. classed_row) IsStoredClass rows place → (ws : List Workunit) → All IsStorable ws → rows ≢ map classed_row (map classed_of ws)
never_classed rows place none ws storable are =
    no_rows (λ _. classed_row) IsStoredClass rows place none (map classed_of ws) (All-from_recursion IsStoredClass (map classed_of ws) (classes_stored ws (recursion_from_All IsStorable ws storable))) (are ∙ sym (rows_plain classed_row (map classed_of ws)))

pub never_others : (ws vs : List Workunit) (classes : List Classed) → AreOfOthers ws classes → map workunit_row ws ≡ map workunit_row vs → map classed_row classes ≢ map classed_row (map classed_of vs)
never_others ws vs classes others rows same =
    let numbers : map (λ (c : Classed). c.workunit) (map classed_of vs) ≡ map (λ (w : Workunit). w.number) vs = map-map (λ (c : Classed). c.workunit) classed_of vs in
    others (numbers_of_rows ws vs rows ∙ sym numbers ∙ ap (map (λ (c : Classed). c.workunit)) (sym (one_list classed_row one_classed classes (map classed_of vs) same)))
