-- What the upsert of a sum makes of the rows of hosts: those of more grants, whose sum it is.
use Rattle.wu_schema.proofs.Words.{codes, HoldsAll, AllByRecursion, Binary, Enforced, Bool, Chosen, Database, Executes, Grant, Has, HasTables, Int, Integer, IsDatabase, IsPermutation-sym, IsShaped, IsShaped-put_row, IsTrue, List, Ok, ProjectTrees, Row, Schema, Refines, State, Text, World, [], all_has, and_from, and_parts, ap, ap₂, binary, cases_Bool, bytes_eq, bytes_eq-Decides, cast, column, drop, equal, false, false_from_ne_true, first_key, has_mapped, has_rowid, host_at, hosts_of, if◌then◌else◌, inl, inr, is_eq, is_int, is_of, map, map-map, mapped_has, next_rowid, number, passes, pos, put_row, refl, row_at_is, rowid, some_from, some_has, subst, sym, true, value_cmp, ℕ, ℤ, ◌++◌, ◌+◌, ◌||◌, ◌∙◌, ◌∷◌, ◌≡◌}
use Rattle.wu_schema.specs.Calm.{IsCalm}
use Rattle.sqlite_trees.specs.declared.store.Shape.TheVariants as shape
use Rattle.sqlite_schema.specs.declared.schema.Constraint.TheVariants.{Datatype}
use Rattle.sqlite.specs.Kind.TheVariants.{Text as KindText}
use Rattle.sqlite_sql.specs.declared.ops.BinaryOp.TheVariants as by
use Rattle.sqlite_sql.specs.declared.ops.ArithOp.TheVariants as arith
use Rattle.sqlite_rules.proofs.PlaceLemmas.{next_is_free}
use Rattle.wu_core.specs.Hosts.{credit_of, grants_of}
use Rattle.wu_core.proofs.HostLemmas.{host_list, is_among}
use Rattle.wu_core.specs.declared.marks.Marks.{Marks}
use Rattle.wu_schema.specs.Others.{SparesBeside, SparesOthers}
use Rattle.wu_schema.specs.Queue.{HasQueue}
use Rattle.wu_schema.specs.Tables.{grant_at, host_at, queue_at}
use Rattle.wu_schema.proofs.OthersLemmas.{others_apart, others_calm, others_still, others_then, ours_grant, ours_host}
use Rattle.wu_schema.proofs.QueueLemmas.{queue_apart, queue_calm, queue_listed, queue_still}
use Rattle.wu_schema.specs.Stored.{host_cells}
use Rattle.wu_store.specs.Changes.{AddsGrants, Credits, HasCredited, HasListed, HoldsHosts, IsNextPlace, ListsGrants, PutsGrants, with_grants}
use Rattle.wu_store.specs.Sums.{AreSums}
use Rattle.wu_store.specs.Queues.{KeepsQueue}
use Rattle.sqlite_trees.specs.Tree.{Trees}
use Rattle.wu_schema.specs.declared.rows.HostSum.{HostSum}
use Rattle.wu_store.proofs.GrantSums.{AreCounted, counted_parts, credit_both, grants_both, alike_cells, spread, spread_sums, spreads, spreads_sums, sum_grown, sum_new, sums_both}
use Rattle.wu_store.proofs.EqualLemmas.{text_equal}
use Rattle.wu_store.proofs.HostEffect.{Grown, grows, keyed_host, summed}
use Rattle.wu_store.proofs.UpsertTexts.{upsert_text}
use Rattle.wu_store.proofs.NameKey.{host_key}
use Rattle.wu_schema.proofs.RowLemmas.{int_value}
use Rattle.wu_store.proofs.FallLemmas.{has_own}
use Rattle.wu_schema.proofs.InsertEffect.{also, no_more, cast_int}
use Rattle.std.proofs.Common.{append-nil, append_assoc, arith as nats, length, ◌<◌, length-append}
use Rattle.wu_schema.proofs.Parts.{HasParts, Holds, Keeps, frame, is_part, keeps_both, keeps_but, keeps_calm, parts_there}
use Rattle.wu_schema.specs.declared.table.ProjectTable.{ProjectTable}
use Rattle.wu_schema.specs.declared.table.ProjectTable.TheVariants as the_table
use Rattle.wu_schema.specs.ProjectTables.{IsTableOf}
use Rattle.wu_store.proofs.InPlaceLemmas.{replaced}
use Rattle.wu_store.proofs.SetEffect.{holds_set, replaced_shaped}
use Rattle.wu_store.proofs.WorldOnce.{bytes_same}
use Rattle.wu_store.proofs.OnceLemmas.{has_permuted, key_once}
use Rattle.wu_store.proofs.PlacedLemmas.{holds_put, holds_permuted}
use Rattle.wu_schema.proofs.StandsLemmas.{is_there, lists_still, holds_still}
use Rattle.wu_store.proofs.SumLemmas.{stored_sum}

abbrev of_grants : ProjectTable → Bool
of_grants q = is_part the_table.Grant q || is_part the_table.Host q

-- the row with its new sums is that of the rowid
summed_key : (tree : ℕ) (x : Row) (id total count : ℤ) → rowid x ≡ Int id → rowid (summed tree x total count) ≡ Int id
summed_key tree x id total count is = ap (cast Integer) is ∙ cast_int id

module _ (db : Database) (tree : ℕ) (sound : IsDatabase db) (stands : Has db.schema.tables (host_at tree)) (grants more : List Grant) (sum : HostSum) (are : AreSums (sum ∷ []) more) (h : HoldsHosts (db.trees tree) grants) where
  abbrev rows : List Row
  rows = db.trees tree

  -- each row has a host's cells
  host_at_row : (r : Row) → Has rows r → (name : List ℕ) × Has (hosts_of grants) name × (drop 1 r ≡ host_cells name (credit_of grants name) (grants_of grants name))
  host_at_row r has = has_mapped (λ name. host_cells name (credit_of grants name) (grants_of grants name)) (hosts_of grants) (drop 1 r) (has_permuted (map (drop 1) rows) (host_list host_cells grants) (drop 1 r) (IsPermutation-sym _ _ h.same) (mapped_has (drop 1) rows r has))

  in_cells : (r : Row) (name : List ℕ) (total count : ℕ) → drop 1 r ≡ host_cells name total count → (column r 1 ≡ Text name) × (column r 2 ≡ number total) × (column r 3 ≡ number count)
  in_cells [] name total count is = absurd (cc)
  in_cells (v ∷ r) name total count is = (ap (λ (c : Row). column (v ∷ c) 1) is, ap (λ (c : Row). column (v ∷ c) 2) is, ap (λ (c : Row). column (v ∷ c) 3) is)

  -- a new host
  new_rows : ((r : Row) → Has rows r → equal Binary (column r 1) (Text sum.name) ≡ false) → HoldsHosts (put_row (keyed_host (next_rowid rows) sum.name (pos sum.total) (pos sum.grants)) rows) (grants ++ more)
  new_rows apart = holds_permuted (sum_new host_cells grants more sum are free) (holds_put (host_cells sum.name sum.total sum.grants) (host_list host_cells grants) rows (next_is_free Chosen rows (host_cells sum.name sum.total sum.grants) h.shaped.0 h.shaped.1) h)
    where
      free : is_among sum.name (hosts_of grants) ≡ false
      free = false_from_ne_true _ (λ on.
          let it = some_has (λ host. bytes_eq host sum.name) (hosts_of grants) on in
          let listed = has_permuted (host_list host_cells grants) (map (drop 1) rows) _ h.same (mapped_has (λ name. host_cells name (credit_of grants name) (grants_of grants name)) (hosts_of grants) it.0 it.1) in
          let row = has_mapped (drop 1) rows _ listed in
          let same : equal Binary (column row.0 1) (Text sum.name) ≡ true = ap (λ v. equal Binary v (Text sum.name)) (in_cells row.0 it.0 _ _ (sym row.2)).0 ∙ text_equal it.0 sum.name ∙ it.2 in
          absurd (let e = sym same ∙ apart row.0 row.1 in cc))

  module _ (x : Row) (id : ℤ) (has : Has rows x) (on : equal Binary (column x 1) (Text sum.name) ≡ true) (is : rowid x ≡ Int id) where
    abbrev new_row : Row
    new_row = summed tree x (pos sum.total) (pos sum.grants)

    mine : (name : List ℕ) × Has (hosts_of grants) name × (drop 1 x ≡ host_cells name (credit_of grants name) (grants_of grants name))
    mine = host_at_row x has

    columns : (column x 1 ≡ Text mine.0) × (column x 2 ≡ number (credit_of grants mine.0)) × (column x 3 ≡ number (grants_of grants mine.0))
    columns = in_cells x mine.0 _ _ mine.2

    named : bytes_eq mine.0 sum.name ≡ true
    named = sym (text_equal mine.0 sum.name) ∙ ap (λ v. equal Binary v (Text sum.name)) (sym columns.0) ∙ on

    module _ (total_fits : is_of Integer (column new_row 2) ≡ true) (count_fits : is_of Integer (column new_row 3) ≡ true) where
      -- the sums are those with it
      new_is : new_row ≡ Int id ∷ host_cells mine.0 (credit_of grants mine.0 + sum.total) (grants_of grants mine.0 + sum.grants)
      new_is = also (ap (cast Integer) is ∙ cast_int id) (also (ap (cast KindText) columns.0)
          (also (ap (λ v. cast Integer (binary (by.Arith arith.Add) v (number sum.total))) columns.1 ∙ stored_sum (credit_of grants mine.0) sum.total (subst (λ v. is_of Integer (cast Integer (binary (by.Arith arith.Add) v (number sum.total))) ≡ true) columns.1 total_fits))
          (also (ap (λ v. cast Integer (binary (by.Arith arith.Add) v (number sum.grants))) columns.2 ∙ stored_sum (grants_of grants mine.0) sum.grants (subst (λ v. is_of Integer (cast Integer (binary (by.Arith arith.Add) v (number sum.grants))) ≡ true) columns.2 count_fits)) no_more)))

      abbrev more_cells : List ℕ → Row
      more_cells name = host_cells name (credit_of grants name + sum.total) (grants_of grants name + sum.grants)

      abbrev same_cells : List ℕ → Row
      same_cells name = host_cells name (credit_of grants name) (grants_of grants name)

      -- no other row is of that host
      only : (r : Row) → Has rows r → equal Binary (column (drop 1 r) 0) (Text sum.name) ≡ true → r ≡ x
      unfolding first_key
      only r there same = elim (cases_Bool (has_rowid id r)) [
        | inl tied ↦ sym (row_at_is rows id r h.shaped.0 there tied) ∙ row_at_is rows id x h.shaped.0 has (has_own x id is)
        | inr off ↦
            let n = int_value (rowid r) (all_has (λ s. IsTrue (is_int (rowid s))) rows r h.shaped.1 there) in
            let yours = host_at_row r there in
            let its : bytes_eq yours.0 sum.name ≡ true = sym (text_equal yours.0 sum.name) ∙ ap (λ c. equal Binary (column c 0) (Text sum.name)) (sym yours.2) ∙ same in
            let keys : equal Binary (column r 1) (column x 1) ≡ true = ap₂ (equal Binary) (in_cells r yours.0 _ _ yours.2).0 columns.0 ∙ text_equal yours.0 mine.0 ∙ bytes_same yours.0 sum.name mine.0 its named in
            absurd (key_once db (host_at tree) 0 (1 ∷ []) refl sound stands x r has there (ap (λ v. is_eq (value_cmp (rowid r) v)) is ∙ off) n.0 id n.1 is (λ at. and_from _ _ keys refl))
      ]

      abbrev set_cells : Row → Row
      set_cells c = if equal Binary (column c 0) (Text sum.name) then drop 1 new_row else c

      -- the cells of a host grow where it is the sum's
      set_is : (name : List ℕ) → set_cells (same_cells name) ≡ (if bytes_eq name sum.name then more_cells name else same_cells name)
      set_is name = ap (λ b. if b then drop 1 new_row else same_cells name) (text_equal name sum.name) ∙ elim (cases_Bool (bytes_eq name sum.name)) [
        | inl on ↦ rw on (ap (drop 1) new_is ∙ ap more_cells ((bytes_eq-Decides mine.0 sum.name).0 named ∙ sym ((bytes_eq-Decides name sum.name).0 on)))
        | inr off ↦ rw off refl
      ]

      -- a host whose sums grow
      grown_rows : HoldsHosts (replaced id new_row rows) (grants ++ more)
      grown_rows = subst (HoldsAll (replaced id new_row rows))
          (map-map set_cells same_cells (hosts_of grants) ∙ (λ i. map (λ name. set_is name i) (hosts_of grants)) ∙ sym (sum_grown host_cells grants more sum are (some_from (λ host. bytes_eq host sum.name) (hosts_of grants) mine.0 mine.1 named)))
          (holds_set id new_row rows h.shaped (summed_key tree x id (pos sum.total) (pos sum.grants) is) (λ c. equal Binary (column c 0) (Text sum.name)) x has is (ap (λ c. equal Binary (column c 0) (Text sum.name)) mine.2 ∙ text_equal mine.0 sum.name ∙ named) only (host_list host_cells grants) h)

-- the row that was written obeys its columns' types
typed : (db : Database) (tree : ℕ) → IsDatabase db → Has db.schema.tables (host_at tree) → (x : Row) (total count : ℤ) → Has (db.trees tree) (summed tree x total count) → (is_of Integer (column (summed tree x total count) 2) ≡ true) × (is_of Integer (column (summed tree x total count) 3) ≡ true)
typed db tree sound stands x total count has =
    let passed = all_has (λ row. passes Datatype db.schema db.trees (host_at tree) row ≡ true) (db.trees tree) (summed tree x total count)
    (all_has (λ u. AllByRecursion (λ row. passes Datatype db.schema db.trees u row ≡ true) (db.trees u.tree)) db.schema.tables (host_at tree) (sound.obeys.rules Datatype) stands) has in
    let more_typed = (and_parts _ _ (and_parts _ _ passed).0).1 in
    ((and_parts _ _ more_typed).0, (and_parts _ _ (and_parts _ _ more_typed).1).0)

-- a sum, as it is given
abbrev pub sum_cells : HostSum → Row
sum_cells sum = host_cells sum.name sum.total sum.grants

module _ (old new : State) (version : ℕ) (t : ProjectTrees) (grants more : List Grant) (sum : HostSum) (are : AreSums (sum ∷ []) more) (has : HasTables version old.now.schema t) (sound : IsDatabase old.now) (h : HoldsHosts (old.now.trees (t the_table.Host)) grants) where
  stands : Has old.now.schema.tables (host_at (t the_table.Host))
  stands = is_there old.now.schema _ _ (has.each the_table.Host tt)

  -- the rows of hosts, where one is new or one grows
  hosts_then : Grown old.now.trees new.now.trees (t the_table.Host) sum.name (pos sum.total) (pos sum.grants) → new.now.schema ≡ old.now.schema → IsDatabase new.now → HoldsHosts (new.now.trees (t the_table.Host)) (grants ++ more)
  hosts_then (inl put) same sure = subst (λ rs. HoldsHosts rs (grants ++ more)) (sym put.1) (new_rows old.now (t the_table.Host) sound stands grants more sum are h put.0)
  hosts_then (inr (x, id, there, on, is, trees)) same sure =
      let mapped : Has (replaced id (summed (t the_table.Host) x (pos sum.total) (pos sum.grants)) (old.now.trees (t the_table.Host))) (summed (t the_table.Host) x (pos sum.total) (pos sum.grants)) =
      subst (Has (replaced id (summed (t the_table.Host) x (pos sum.total) (pos sum.grants)) (old.now.trees (t the_table.Host)))) (rw (has_own x id is) refl) (mapped_has (λ r. if has_rowid id r then summed (t the_table.Host) x (pos sum.total) (pos sum.grants) else r) (old.now.trees (t the_table.Host)) x there) in
      let listed : Has (new.now.trees (t the_table.Host)) (summed (t the_table.Host) x (pos sum.total) (pos sum.grants)) = subst (λ rs. Has rs (summed (t the_table.Host) x (pos sum.total) (pos sum.grants))) (sym trees) mapped in
      let fits = typed new.now (t the_table.Host) sure (subst (λ (s : Schema). Has s.tables (host_at (t the_table.Host))) (sym same) stands) x (pos sum.total) (pos sum.grants) listed in
      subst (λ rs. HoldsHosts rs (grants ++ more)) (sym trees) (grown_rows old.now (t the_table.Host) sound stands grants more sum are h x id there on is fits.0 fits.1)

-- the table of hosts is one then
shaped_then : (old new : Trees) (tree : ℕ) (name : List ℕ) (total count : ℤ) → Grown old new tree name total count → IsShaped shape.Table (old tree) → IsShaped shape.Table (new tree)
shaped_then old new tree name total count (inl put) shaped = subst (IsShaped shape.Table) (sym put.1) (IsShaped-put_row (keyed_host (next_rowid (old tree)) name total count) (old tree) refl shaped)
shaped_then old new tree name total count (inr (x, id, there, on, is, trees)) shaped = subst (IsShaped shape.Table) (sym trees) (replaced_shaped id (summed tree x total count) (old tree) shaped (summed_key tree x id total count is))

pub credits_one : (old new : State) (sum : HostSum) (count : ℕ) → Executes upsert_text (sum_cells sum) old new (Ok count) → Credits (sum ∷ []) old.now new.now
credits_one old new sum count ran version t has sound shaped =
    let there : Has old.now.schema.tables (host_at (t the_table.Host)) = is_there old.now.schema _ _ (has.each the_table.Host tt) in
    let (same, grown, others, sure) = grows old new (has.each the_table.Host tt).0 (t the_table.Host) (has.each the_table.Host tt).1 (host_key old.now (t the_table.Host) sound there has.by_bytes) (has.each the_table.Host tt).2 there shaped sum.name (pos sum.total) (pos sum.grants) count ran in
    record {
      schema = same;
      hosts = λ grants more are h. hosts_then old new version t grants more sum are has sound h grown same sure;
      shaped = shaped_then old.now.trees new.now.trees (t the_table.Host) sum.name (pos sum.total) (pos sum.grants) grown shaped;
      others = others;
      sound = sure;
    }

-- ---- one sum after another

pub credits_none : (db : Database) → Credits [] db db
credits_none db version t has sound shaped = record {
  schema = refl;
  hosts = λ grants more are h. subst (HoldsAll (db.trees (t the_table.Host))) (alike_cells host_cells grants (grants ++ more)
      (λ name. let a = credit_both grants more name in let b = are.total name in omega (nats, a, b))
      (λ name. let a = grants_both grants more name in let b = are.count name in omega (nats, a, b))) h;
  shaped = shaped;
  others = λ u there other calm. refl;
  sound = sound;
}

module _ (sums : List HostSum) (sum : HostSum) (grants more : List Grant) (are : AreSums (sums ++ sum ∷ []) more) where
  counted : AreCounted sums × (0 < sum.grants)
  counted = counted_parts sums sum are.some

  -- grants of the sums before the last one, and of that
  abbrev xs : List Grant
  xs = spreads sums

  abbrev ys : List Grant
  ys = spread sum

  they_sum : AreSums (sums ++ sum ∷ []) (xs ++ ys)
  they_sum = sums_both sums (sum ∷ []) xs ys (spreads_sums sums counted.0) (spread_sums sum counted.1)

  -- give hosts the cells that any with these sums give
  same_hosts_then : host_list host_cells (grants ++ xs ++ ys) ≡ host_list host_cells (grants ++ more)
  same_hosts_then = alike_cells host_cells (grants ++ xs ++ ys) (grants ++ more)
      (λ name. let a = credit_both (grants ++ xs) ys name in let b = credit_both grants xs name in let c = credit_both xs ys name in let d = they_sum.total name in let e = are.total name in let f = credit_both grants more name in omega (nats, a, b, c, d, e, f))
      (λ name. let a = grants_both (grants ++ xs) ys name in let b = grants_both grants xs name in let c = grants_both xs ys name in let d = they_sum.count name in let e = are.count name in let f = grants_both grants more name in omega (nats, a, b, c, d, e, f))

pub credits_more : (old mid new : Database) (sums : List HostSum) (sum : HostSum) → Credits sums old mid → Credits (sum ∷ []) mid new → Credits (sums ++ sum ∷ []) old new
credits_more old mid new sums sum first second version t has sound shaped =
    let one = first version t has sound shaped in
    let two = second version t (subst (λ (x : Schema). HasTables version x t) (sym one.schema) has) one.sound one.shaped in
    record {
      schema = two.schema ∙ one.schema;
      hosts = λ grants more are h.
          let some = counted sums sum grants more are in
          subst (HoldsAll (new.trees (t the_table.Host))) (same_hosts_then sums sum grants more are)
          (two.hosts (grants ++ spreads sums) (spread sum) (spread_sums sum some.1) (one.hosts grants (spreads sums) (spreads_sums sums some.0) h));
      shaped = two.shaped;
      others = λ u there other calm.
          two.others u (subst (λ (x : Schema). Has x.tables u) (sym one.schema) there) other (subst (λ (x : Schema). IsCalm x Enforced u (t the_table.Host)) (sym one.schema) calm) ∙ one.others u there other calm;
      sound = two.sound;
    }

-- ---- the rows of grants, one after another

pub puts_none : (place : ℕ) (db : Database) → PutsGrants place [] db db
puts_none place db version t has sound = record {
  schema = refl;
  rows = λ grants next lists. subst (ListsGrants (db.trees (t the_table.Grant))) (sym (append-nil grants)) lists;
  others = λ u there other. refl;
  sound = sound;
}

pub puts_more : (place : ℕ) (old mid new : Database) (more : List Grant) (g : Grant) → PutsGrants place more old mid → PutsGrants (place + length more) (g ∷ []) mid new → PutsGrants place (more ++ g ∷ []) old new
puts_more place old mid new more g first second version t has sound =
    let one = first version t has sound in
    let two = second version t (subst (λ (x : Schema). HasTables version x t) (sym one.schema) has) one.sound in
    record {
      schema = two.schema ∙ one.schema;
      rows = λ grants next lists.
          let behind : IsNextPlace (place + length more) (grants ++ more) = let a = length-append grants more in omega (nats, a, next) in
          subst (ListsGrants (new.trees (t the_table.Grant))) (append_assoc grants more (g ∷ [])) (two.rows (grants ++ more) behind (one.rows grants next lists));
      others = λ u there other. two.others u (subst (λ (x : Schema). Has x.tables u) (sym one.schema) there) other ∙ one.others u there other;
      sound = two.sound;
    }

-- ---- grants, and then their sums

module _ (old new : Database) (world : World) (s : Refines old world) (more : List Grant) where
  carry : (q : ProjectTable) → of_grants q ≡ false → (rows : List Row) → Holds q rows world → Holds q rows (with_grants more world)
  carry the_table.Grant off rows h = absurd (cc)
  carry the_table.Host off rows h = absurd (cc)
  carry _ off rows h = h

  fits : ListsGrants (new.trees (s.trees the_table.Grant)) (world.grants ++ more) → HoldsHosts (new.trees (s.trees the_table.Host)) (world.grants ++ more) → (q : ProjectTable) → of_grants q ≡ true → Holds q (new.trees (s.trees q)) (with_grants more world)
  fits lists holds the_table.Grant on = lists
  fits lists holds the_table.Host on = holds
  fits lists holds _ on = absurd (cc)

  in_version : (q : ProjectTable) → of_grants q ≡ true → IsTableOf q world.version
  in_version the_table.HostClass on = absurd (cc)
  in_version the_table.WorkunitClass on = absurd (cc)
  in_version _ on = tt

module _ (old mid new : Database) (world : World) (s : Refines old world) (place : ℕ) (more : List Grant) (sums : List HostSum) (puts : PutsGrants place more old mid) (credits : Credits sums mid new) where
  put : HasListed place more s.trees old mid
  put = puts world.version s.trees s.tables s.sound

  first : Keeps world.version s.trees old mid (is_part the_table.Grant)
  first = keeps_but world.version old s.trees (parts_there old world s) mid the_table.Grant tt put.others

  it : HasCredited sums s.trees mid new
  it = credits world.version s.trees (subst (λ (x : Schema). HasTables world.version x s.trees) (sym put.schema) s.tables) put.sound (subst (IsShaped shape.Table) (sym (first the_table.Host tt refl)) s.rows.hosts.shaped)

  second : Keeps world.version s.trees mid new (is_part the_table.Host)
  second = keeps_calm world.version mid s.trees (subst (λ (x : Schema). HasParts world.version x s.trees) (sym put.schema) (parts_there old world s)) new the_table.Host tt refl it.others

  with_both : IsNextPlace place world.grants → AreSums sums more → Refines new (with_grants more world)
  with_both next are = frame old new world (with_grants more world) s of_grants (in_version old new world s more) (it.schema ∙ put.schema) refl (keeps_both world.version s.trees old mid new (is_part the_table.Grant) (is_part the_table.Host) first second) (carry old new world s more)
      (fits old new world s more (lists_still (second the_table.Grant tt refl) (put.rows world.grants next s.rows.grants)) (it.hosts world.grants more are (holds_still (first the_table.Host tt refl) s.rows.hosts))) it.sound

  beside : (marked : List (ℕ × Marks)) → HasQueue old marked → HasQueue new marked
  beside marked q =
      let listed = queue_listed old world s marked q in
      let calm = subst (λ (x : Schema). IsCalm x Enforced (queue_at q.tree) (s.trees the_table.Host)) (sym put.schema) (queue_calm old world s marked q the_table.Host tt refl) in
      queue_still old new marked q (it.schema ∙ put.schema)
      (it.others (queue_at q.tree) (subst (λ (x : Schema). Has x.tables (queue_at q.tree)) (sym put.schema) listed) (λ same. queue_apart old world s marked q the_table.Host tt (sym same)) calm
      ∙ put.others (queue_at q.tree) listed (λ same. queue_apart old world s marked q the_table.Grant tt (sym same)))

  spares_grants : SparesOthers old new
  spares_grants =
      let tables : HasTables world.version mid.schema s.trees = subst (λ (x : Schema). HasTables world.version x s.trees) (sym put.schema) s.tables in
      let one = others_still old mid put.schema (λ t is. put.others t is.there (others_apart old.schema t (codes "credit_grant") (grant_at (s.trees the_table.Grant)) is (s.tables.each the_table.Grant tt) ours_grant)) in
      let two = others_still mid new it.schema (λ t is. it.others t is.there (others_apart mid.schema t (codes "host") (host_at (s.trees the_table.Host)) is (tables.each the_table.Host tt) ours_host) (others_calm mid.schema t (s.trees the_table.Host) is)) in
      others_then old mid new one.1 two.1

pub adds_grants : (old mid new : Database) (place : ℕ) (more : List Grant) (sums : List HostSum) → PutsGrants place more old mid → Credits sums mid new → AddsGrants place more sums old new
adds_grants old mid new place more sums puts credits world s = with_both old mid new world s place more sums puts credits

pub grants_leave : (old mid new : Database) (place : ℕ) (more : List Grant) (sums : List HostSum) → PutsGrants place more old mid → Credits sums mid new → KeepsQueue old new
grants_leave old mid new place more sums puts credits world marked s q = beside old mid new world s place more sums puts credits marked q

pub grants_spare : (old mid new : Database) (place : ℕ) (more : List Grant) (sums : List HostSum) → PutsGrants place more old mid → Credits sums mid new → SparesBeside old new
grants_spare old mid new place more sums puts credits world s = spares_grants old mid new world s place more sums puts credits
