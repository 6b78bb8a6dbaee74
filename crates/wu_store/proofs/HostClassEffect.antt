-- What the statements of a host's class do to the world and to a queue: its row goes, and a new one is put in.
use Rattle.wu_schema.proofs.Words.{AllByRecursion, Binary, Bool, Database, Enforced, Executes, Expr, Given, Has, HasNamed, HasTable, HoldsAll, Inner, Int, IsCalm, IsDatabase, IsPermutation, IsPermutation-filter, IsPermutation-map, IsPermutation-sym, IsShaped, IsShaped-filter, IsTrue, List, None, Null, Ok, Parsed, PutsOne, Query, Refines, Row, Schema, Some, State, Table, Term, Text, World, [], all_has, ap, append-nil, arith, bytes_eq, cast_row, class_cells, codes, col, column, drop, edit_of, equal, everything, false, filter, filter-map, first, has_filtered, has_mapped, has_rowid, host_class_at, id_in, ids_of, inl, inr, Less, Equal, Greater, is_int, length, list_any, lit, lower_to, map, map-append, mapped_has, mode_of, next_rowid, not, nothing, pipeline, planned, refl, row_at_is, rowid, runs_as, simple, some_from, some_has, statement_of, subst, sym, true, understood, value_rows, without_all, ℕ, ◌++◌, ◌∙◌, ◌∷◌, ◌≡◌, ◌≢◌}
use Rattle.std.proofs.lemmas.List.Kept.{AllPairs-filter}
use Rattle.std.proofs.lemmas.Bool.{cases_Bool}
use Rattle.std.proofs.lemmas.Cmp.{nat_list_cmp_total}
use Rattle.sqlite.specs.Command.TheVariants.{Delete}
use Rattle.sqlite_ast.specs.declared.Statement.TheVariants as written
use Rattle.sqlite_resolve.specs.Write.{deleted}
use Rattle.sqlite_rules.proofs.ListLemmas.{has_kept}
use Rattle.sqlite_sql.specs.declared.ops.CompareOp.TheVariants as compare
use Rattle.sqlite_trees.specs.declared.store.Shape.TheVariants as shape
use Rattle.wu_core.specs.Classes.{with_class}
use Rattle.wu_core.specs.declared.marks.Marks.{Marks}
use Rattle.wu_core.specs.declared.workunit.HostClass.{HostClass}
use Rattle.wu_core.proofs.ClassLemmas.{class_comes, has_class, in_order-set, Before}
use Rattle.wu_core.proofs.HostLemmas.{Ascends, below, by_order, matches, one_name, order, pairs_ascend}
use Rattle.wu_schema.specs.Queue.{HasQueue}
use Rattle.wu_schema.specs.Tables.{queue_at}
use Rattle.wu_schema.proofs.AnswerLemmas.{answers_are, meeting, showing}
use Rattle.wu_schema.proofs.CalmLemmas.{calm_bare, stepped}
use Rattle.wu_schema.proofs.ExprLemmas.{column as column_of, equals, parameter, same, scope, so_far}
use Rattle.wu_schema.proofs.InsertEffect.{cast_null, puts_one}
use Rattle.wu_schema.proofs.InsertTexts.{Put, PutFits}
use Rattle.wu_schema.proofs.Parts.{Holds, frame_one, is_part, keeps_calm, parts_there}
use Rattle.wu_schema.specs.declared.table.ProjectTable.{ProjectTable}
use Rattle.wu_schema.specs.declared.table.ProjectTable.TheVariants as the_table
use Rattle.wu_schema.proofs.QueryLemmas.{alone, plain_query}
use Rattle.wu_schema.proofs.QueueLemmas.{queue_apart, queue_beside, queue_calm, queue_listed, queue_still}
use Rattle.wu_schema.proofs.RowLemmas.{filter_same, int_value, one_test}
use Rattle.wu_schema.proofs.SelectLemmas.{CompilesTo, compiles_to, test_lowers}
use Rattle.wu_schema.proofs.StandsLemmas.{is_there}
use Rattle.wu_store.specs.Classes.{ChangesClasses, with_classed_host}
use Rattle.wu_store.specs.StandsFor.{KnowsClasses}
use Rattle.wu_store.proofs.ChangeLemmas.{cast_number}
use Rattle.wu_store.proofs.DeleteEffect.{delete_does}
use Rattle.wu_store.proofs.DeleteTexts.{shows_number}
use Rattle.wu_store.proofs.EqualLemmas.{text_equal}
use Rattle.wu_store.proofs.FallLemmas.{both_ways, has_own, without_is}
use Rattle.wu_store.proofs.OnceLemmas.{has_permuted}
use Rattle.wu_store.proofs.PlacedLemmas.{holds_permuted, holds_put, keeps_put}
use Rattle.wu_store.proofs.ReadAnswers.{kept_mapped}
use Rattle.wu_store.specs.declared.texts.TheConstants.{DELETE_HOST_CLASS, INSERT_HOST_CLASS}

-- ---- what the DELETE compiles to

abbrev pub cut_text : List ℕ
cut_text = DELETE_HOST_CLASS.now

abbrev hosted : Expr
hosted = equals (column_of (codes "host")) (parameter 1)

abbrev by_host : List Term
by_host = same (col 1 1) (col 0 0) ∷ []

abbrev cut_query : ℕ → Query
cut_query tree = plain_query tree by_host shows_number

abbrev cut_parsed : Parsed
cut_parsed = record { statement = written.Delete (codes "host_class") (Some hosted) []; names = codes "?1" ∷ []; formats = []; start = 0; end = length cut_text; tail = length cut_text }

cut_first : first cut_text ≡ Ok cut_parsed
unfolding everything
cut_first = refl

module _ (schema : Schema) (at tree : ℕ) (has : HasTable schema (codes "host_class") at (host_class_at tree)) where
  host_is : lower_to 700 (scope schema (codes "host_class") at [] false true) hosted (so_far 2 100000 nothing) ≡ Ok (same (col 1 1) (col 0 0), so_far 2 99997 nothing)
  unfolding pipeline
  host_is = test_lowers schema (codes "host_class") at (host_class_at tree) has 698 [] false true 100000 nothing (0, compare.Eq, 0) (omega arith) refl refl

  cut_drafted : deleted schema at (host_class_at tree) (Some hosted) ≡ Ok (simple (Inner tree ∷ []) by_host shows_number)
  unfolding pipeline
  cut_drafted = rw host_is

  cut_planned : planned schema cut_parsed ≡ Ok ([], (Delete at (alone (cut_query tree)), None))
  unfolding Rattle.sqlite_resolve.specs.Compile.planned Rattle.sqlite_resolve.specs.Compile.meaning Rattle.sqlite_resolve.specs.Compile.returning Rattle.sqlite_resolve.specs.Compile.command Rattle.sqlite_resolve.specs.Compile.delete Rattle.sqlite_resolve.specs.Compile.timed Rattle.sqlite_resolve.specs.Compile.shows pipeline
  cut_planned = rw (has.named, has.there, cut_drafted, has.low, has.stands)

  cut_compiles : CompilesTo schema cut_text cut_parsed (Delete at (alone (cut_query tree)))
  cut_compiles = compiles_to schema cut_text cut_parsed _ cut_first cut_planned

-- ---- what it does to the rows

-- whether a row is that of the host
abbrev is_of_host : List ℕ → Row → Bool
is_of_host host r = equal Binary (column r 1) (Text host)

module _ (host : List ℕ) (rows ids : List Row) (good : IsShaped shape.Table rows) (found : IsPermutation (showing shows_number (Text host ∷ []) (meeting by_host (Text host ∷ []) rows)) ids) where
  -- a row with a rowid that was found meets the test,
  to : (r : Row) → Has rows r → list_any (λ id. has_rowid id r) (ids_of ids) ≡ true → is_of_host host r ≡ true
  to r there on =
      let it = some_has (λ id. has_rowid id r) (ids_of ids) on in
      let shown = has_mapped (λ (s : Row). id_in (rowid s)) ids it.0 it.1 in
      let was = has_mapped (λ (s : Row). rowid s ∷ []) (meeting by_host (Text host ∷ []) rows) shown.0 (has_permuted ids _ shown.0 (IsPermutation-sym _ ids found) shown.1) in
      let met = has_filtered _ rows was.0 was.1 in
      let n = int_value (rowid was.0) (all_has (λ (s : Row). IsTrue (is_int (rowid s))) rows was.0 good.1 met.0) in
      let id : it.0 ≡ n.0 = shown.2 ∙ ap (λ (s : Row). id_in (rowid s)) was.2 ∙ ap id_in n.1 in
      let one : r ≡ was.0 = sym (row_at_is rows it.0 r good.0 there it.2) ∙ row_at_is rows it.0 was.0 good.0 met.0 (ap (λ m. has_rowid m was.0) id ∙ has_own was.0 n.0 n.1) in
      ap (is_of_host host) one ∙ sym (one_test (is_of_host host was.0)) ∙ met.1

  -- and the other way round
  from : (r : Row) → Has rows r → is_of_host host r ≡ true → list_any (λ id. has_rowid id r) (ids_of ids) ≡ true
  from r there on =
      let n = int_value (rowid r) (all_has (λ (s : Row). IsTrue (is_int (rowid s))) rows r good.1 there) in
      let met = has_kept _ rows r there (one_test (is_of_host host r) ∙ on) in
      let shown = has_permuted _ ids (rowid r ∷ []) found (mapped_has (λ (s : Row). rowid s ∷ []) (meeting by_host (Text host ∷ []) rows) r met) in
      some_from (λ id. has_rowid id r) (ids_of ids) (id_in (rowid r)) (mapped_has (λ (s : Row). id_in (rowid s)) ids (rowid r ∷ []) shown) (ap (λ v. has_rowid (id_in v) r) n.1 ∙ has_own r n.0 n.1)

  found_go : without_all rows (ids_of ids) ≡ filter (λ r. not (is_of_host host r)) rows
  found_go = without_is (ids_of ids) rows ∙ filter_same _ _ rows (λ r there. ap not (both_ways _ _ (to r there) (from r there)))

-- the rows of the host are gone, and each table that no action leads to is as it was
pub record Cuts (old new : Database) (tree : ℕ) (host : List ℕ) : Type 0 where
  pub schema : new.schema ≡ old.schema
  pub rows : IsShaped shape.Table (old.trees tree) → new.trees tree ≡ filter (λ r. not (is_of_host host r)) (old.trees tree)
  pub others : (t : Table) → Has old.schema.tables t → t.tree ≢ tree → IsCalm old.schema Enforced t tree → new.trees t.tree ≡ old.trees t.tree
  pub sound : IsDatabase new

pub cuts : (old new : State) (tree : ℕ) (has : HasNamed old.now.schema (codes "host_class") (host_class_at tree)) (host : List ℕ) (count : ℕ) → Executes cut_text (Text host ∷ []) old new (Ok count) → Cuts old.now new.now tree host
cuts old new tree has host count h =
    let schema = old.now.schema in
    let db = old.now.trees in
    let table = host_class_at tree in
    let params : Row = Text host ∷ [] in
    let q = alone (cut_query tree) in
    let it = cut_compiles schema has.0 tree has.1 in
    let ran = runs_as cut_text params old new schema refl (Delete has.0 q) it.is it.plain count h in
    let cut = delete_does old.step_limit (mode_of old) params old.now (statement_of cut_text (understood schema cut_text)) has.0 table has.1.there ran.tally new.now q ran.changed in
    let edit = edit_of db table (ids_of cut.rows) Given 0 [] in
    let step = stepped schema Enforced db new.now.trees edit cut.wrote in
    let found = answers_are tree by_host shows_number params old.now cut.rows has.1.low cut.found in
    record {
      schema = cut.schema;
      rows = λ good. step.calm table (is_there schema _ _ has) (calm_bare schema table tree has.2 refl) ∙ step.applied.rows ∙ found_go host (db tree) cut.rows good found;
      others = λ t there other calm. step.calm t there calm ∙ all_has (λ (u : Table). u.tree ≢ tree → step.mid u.tree ≡ db u.tree) schema.tables t step.applied.tables there other;
      sound = ran.sound;
    }

-- ---- the world without the host's class

abbrev is_other : List ℕ → HostClass → Bool
is_other host it = not (bytes_eq it.host host)

abbrev without_host : List ℕ → World → World
without_host host world = record world { classes = filter (is_other host) world.classes }

behind : (r : Row) → column r 1 ≡ column (drop 1 r) 0
behind [] = refl
behind (v ∷ r) = refl

-- the cells that are left are those of the other hosts
others_left : (host : List ℕ) (rows : List Row) (classes : List HostClass) → HoldsAll rows (map class_cells classes) → HoldsAll (filter (λ r. not (is_of_host host r)) rows) (map class_cells (filter (is_other host) classes))
others_left host rows classes h =
    let left : Row → Bool = λ c. not (equal Binary (column c 0) (Text host)) in
    let kept : filter left (map class_cells classes) ≡ map class_cells (filter (is_other host) classes) = kept_mapped left (is_other host) class_cells classes (λ it. ap not (text_equal it.host host)) in
    let same : map (drop 1) (filter (λ r. not (is_of_host host r)) rows) ≡ filter left (map (drop 1) rows) =
    ap (map (drop 1)) (filter_same _ (λ r. left (drop 1 r)) rows (λ r has. ap (λ v. not (equal Binary v (Text host))) (behind r))) ∙ sym (filter-map left (drop 1) rows) in
    record {
      shaped = IsShaped-filter shape.Table _ rows h.shaped;
      same = subst (λ cs. IsPermutation cs (map (drop 1) (filter (λ r. not (is_of_host host r)) rows))) kept (subst (IsPermutation (filter left (map class_cells classes))) (sym same) (IsPermutation-filter left (map class_cells classes) (map (drop 1) rows) h.same));
    }

module _ (old new : State) (world : World) (known : KnowsClasses world) (s : Refines old.now world) (host : List ℕ) (count : ℕ) (ran : Executes cut_text (Text host ∷ []) old new (Ok count)) where
  cut : Cuts old.now new.now (s.trees the_table.HostClass) host
  cut = cuts old new (s.trees the_table.HostClass) (s.tables.each the_table.HostClass known) host count ran

  host_goes : Refines new.now (without_host host world)
  host_goes = frame_one old.now new.now world (without_host host world) s the_table.HostClass known cut.schema refl (keeps_calm world.version old.now s.trees (parts_there old.now world s) new.now the_table.HostClass known refl cut.others) carry (
    subst (λ rs. HoldsAll rs (map class_cells (filter (is_other host) world.classes))) (sym (cut.rows (s.rows.classes known).hosts.shaped)) (others_left host (old.now.trees (s.trees the_table.HostClass)) world.classes (s.rows.classes known).hosts),
    AllPairs-filter Before (is_other host) world.classes s.rows.classes_in_order,
  ) cut.sound
    where
      carry : (p : ProjectTable) → is_part the_table.HostClass p ≡ false → (rs : List Row) → Holds p rs world → Holds p rs (without_host host world)
      carry the_table.HostClass off rs h = absurd (cc)
      carry _ off rs h = h

  cut_leaves : (marked : List (ℕ × Marks)) → HasQueue old.now marked → HasQueue new.now marked
  cut_leaves marked q = queue_still old.now new.now marked q cut.schema
      (cut.others (queue_at q.tree) (queue_listed old.now world s marked q) (λ same. queue_apart old.now world s marked q the_table.HostClass known (sym same)) (queue_calm old.now world s marked q the_table.HostClass known refl))

-- ---- a class for a host that has none

abbrev pub host_put : Put
host_put = record { text = INSERT_HOST_CLASS.now; terms = lit Null ∷ col 0 0 ∷ col 0 1 ∷ [] }

pub host_fits : PutFits (codes "host_class") host_class_at host_put
unfolding everything
host_fits = record { read = refl; made = λ schema tree. refl; formats = λ tree. refl; bare = λ tree. refl; plain = λ tree params. append-nil params }

put_kept : (tree : ℕ) (it : HostClass) → map (λ s. cast_row (host_class_at tree) s) (value_rows (class_cells it) 3 1 host_put.terms) ≡ (Null ∷ class_cells it) ∷ []
put_kept tree it = simp (cast_null, cast_number)

module _ (old new : State) (world : World) (known : KnowsClasses world) (s : Refines old.now world) (it : HostClass) (count : ℕ) (ran : Executes host_put.text (class_cells it) old new (Ok count)) where
  abbrev tree : ℕ
  tree = (s.trees the_table.HostClass)

  abbrev new_row : Row
  new_row = Int (next_rowid (old.now.trees tree)) ∷ class_cells it

  put : PutsOne old.now new.now tree new_row
  put = let has = s.tables.each the_table.HostClass known in puts_one (codes "host_class") host_class_at host_put host_fits (class_cells it) old new has.0 tree has.1 (Null ∷ class_cells it) _ (put_kept tree it) refl count ran

  host_comes : has_class it.host world.classes ≡ false → Refines new.now (with_classed_host it.host it.class world)
  host_comes none = frame_one old.now new.now world (with_classed_host it.host it.class world) s the_table.HostClass known put.schema refl (keeps_put old.now new.now world s the_table.HostClass new_row known put) carry (
    holds_permuted (subst (λ cs. IsPermutation cs (map class_cells (with_class it.host it.class world.classes))) (map-append class_cells world.classes (it ∷ [])) (IsPermutation-map class_cells _ _ (class_comes it.host it.class world.classes none)))
        (subst (λ rs. HoldsAll rs (map class_cells world.classes ++ class_cells it ∷ [])) (sym put.rows) (holds_put (class_cells it) (map class_cells world.classes) (old.now.trees tree) put.fresh (s.rows.classes known).hosts)),
    in_order-set it.host it.class world.classes s.rows.classes_in_order,
  ) put.sound
    where
      carry : (p : ProjectTable) → is_part the_table.HostClass p ≡ false → (rs : List Row) → Holds p rs world → Holds p rs (with_classed_host it.host it.class world)
      carry the_table.HostClass off rs h = absurd (cc)
      carry _ off rs h = h

  put_leaves : (marked : List (ℕ × Marks)) → HasQueue old.now marked → HasQueue new.now marked
  put_leaves marked q = queue_beside old.now world s marked q new.now the_table.HostClass known new_row put

-- ---- one, and then the other

none_left : (host : List ℕ) (classes : List HostClass) → has_class host (filter (is_other host) classes) ≡ false
none_left host [] = refl
none_left host (one ∷ more) = elim (cases_Bool (bytes_eq one.host host)) [ inl on ↦ rw on (none_left host more) | inr off ↦ rw (off, off) (none_left host more) ]

module _ (host : List ℕ) (class : ℕ) where
  abbrev this : HostClass
  this = record { host = host; class = class }

  others_behind : (classes : List HostClass) → AllByRecursion (λ (it : HostClass). below host it.host) classes → (filter (is_other host) classes ≡ classes) × (with_class host class classes ≡ this ∷ classes)
  others_behind [] up = (refl, refl)
  others_behind (one ∷ more) up = (rw (matches host one.host Less up.0) (ap (λ its. one ∷ its) (others_behind more up.1).0), rw up.0 refl)

  all_behind : (one : HostClass) (more : List HostClass) → below host one.host → AllByRecursion (Before one) more → AllByRecursion (λ (it : HostClass). below host it.host) more
  all_behind one [] low up = tt
  all_behind one (it ∷ more) low up = (nat_list_cmp_total.trans host one.host it.host low up.0, all_behind one more low up.1)

  -- what was taken out comes back at its place
  comes_back : (classes : List HostClass) → Ascends Before classes → with_class host class (filter (is_other host) classes) ≡ with_class host class classes
  comes_back [] up = refl
  comes_back (one ∷ more) up = by_order (order host one.host)
      (λ low. rw (matches host one.host Less low, (others_behind more (all_behind one more low up.0)).0) refl)
      (λ tie.
      let behind = others_behind more (subst (λ name. AllByRecursion (λ (it : HostClass). below name it.host) more) (sym (one_name host one.host tie)) up.0) in
      rw (matches host one.host Equal tie, behind.0, tie) behind.1)
      (λ high. rw (matches host one.host Greater high, high) (ap (λ its. one ∷ its) (comes_back more up.1)))

-- whatever the world
pub changes_host : (it : HostClass) (old mid new : State) (count : ℕ) → Executes cut_text (Text it.host ∷ []) old mid (Ok count) → (more : ℕ) → Executes host_put.text (class_cells it) mid new (Ok more) → ChangesClasses (with_classed_host it.host it.class) old.now new.now
changes_host it old mid new count one more two = record {
  stands = λ world known s.
      let left = host_goes old mid world known s it.host count one in
      let then = host_comes mid new (without_host it.host world) known left it more two (none_left it.host world.classes) in
      subst (λ cs. Refines new.now (record world { classes = cs })) (comes_back it.host it.class world.classes (pairs_ascend Before world.classes s.rows.classes_in_order)) then;
  queue = λ world marked known s q.
      let left = host_goes old mid world known s it.host count one in
      put_leaves mid new (without_host it.host world) known left it more two marked (cut_leaves old mid world known s it.host count one marked q);
}
