-- What CREATE TABLE leaves, for any text whose table is known, over any schema.
use Rattle.wu_schema.proofs.Words.{everything, project_at, Blob, Bool, Checked, Command, CompileError, Compiled, CreateTable, Database, Does, Err, Executes, ExecutesIn, Has, HasMade, HasTable, Index, Int, IsDatabase, IsFree, List, Mode, Name, None, Null, Ok, Option, OwnsTree, Parsed, Real, Row, Schema, Some, State, Table, Tally, Text, Value, [], all_from, all_has, and_parts, and_then, ap, arith, cases_Bool, command, compiled, create_table, eq-eqb, eqb-true, false, false_from_ne_true, find, first, got_last, guards, has_either, has_left, has_right, if_select, if◌then◌else◌, inl, inr, is_attached, is_reserved, is_select, is_some, length, meaning, mode_of, nat_le, nat_lt, ne_eqb, next_tree, not, option_or, planned, reads_listing, refl, returning, runs_as, same_name, slice_range, statement_of, subst, sym, timed, true, understood, with_command, ℕ, ◌&&◌, ◌*◌, ◌++◌, ◌+◌, ◌<◌, ◌==◌, ◌^◌, ◌∙◌, ◌∷◌, ◌≡◌, ◌≢◌, ◌≤◌, ◌⊎◌}
use Rattle.std.proofs.lemmas.Bool.{leb-true}
use Rattle.sqlite_schema.specs.Names.{table_named, index_named, view_named}
use Rattle.sqlite_catalog.specs.Listing.{IsTableRow, IsIndexRow, IsDefined}
use Rattle.sqlite_catalog.specs.Change.{created, automatics, KeepsRows}
use Rattle.sqlite_catalog.proofs.StepLemmas.{table_below}
use Rattle.sqlite_catalog.proofs.LayoutLemmas.{zipped_left}
use Rattle.sqlite_ast.specs.declared.Statement.TheVariants as written
use Rattle.sqlite_resolve.specs.Define as define
use Rattle.sqlite_resolve.specs.declared.error.CompileError.TheVariants as wrong
use Rattle.sqlite_resolve.specs.Compile.{creates as creates_by, table_defined_by, table_in}
use Rattle.sqlite.specs.Command.TheVariants.{CreateTable as Make, Nothing}
use Rattle.sqlite.specs.Does.{lacks_sequence, sequence_text}
use Rattle.std.specs.Prelude.{codes}
use Rattle.wu_schema.specs.Made.{IsSequence, keys_of}
use Rattle.wu_schema.proofs.CreateLemmas.{create_planned, keeps_table, placed_append}
use Rattle.wu_schema.proofs.EffectLemmas.{went, same_value}
use Rattle.wu_schema.proofs.SelectLemmas.{CompilesTo, compiles_to}
use Rattle.wu_schema.proofs.StandsOver.{Grows, grows_same, grows_both}

-- the text makes this table, and `refl` shows each of these of a text that is written out
pub record Defines (text name : List ℕ) (table : ℕ → Table) : Type 0 where
  pub parsed : Parsed
  pub def : CreateTable
  pub read : first text ≡ Ok parsed
  pub is : parsed.statement ≡ written.CreateTable def
  pub nameless : parsed.names ≡ []
  pub plain : parsed.formats ≡ []
  pub new : def.if_missing ≡ false
  pub called : def.name ≡ name
  pub unreserved : is_reserved name ≡ false
  pub made : define.table [] def ≡ Ok (table 0)
  pub placed : (tree : ℕ) → record (table 0) { tree = tree } ≡ table tree
  pub whole : ((length (table 0).computed == length (table 0).stamps.places) && not def.resolves) ≡ true
  pub text_is : slice_range text parsed.start parsed.end ≡ text
  pub named : (tree : ℕ) → same_name (table tree).name name ≡ true
  -- the row that lists it is not too long
  pub short : nat_lt (2 * length (table 0).name + length text + 200) (10 ^ 9) ≡ true

pub defined_by : (text name : List ℕ) (table : ℕ → Table) → Defines text name table → table_defined_by text ≡ Ok (table 0)
unfolding table_defined_by table_in
defined_by text name table d = rw (d.read, d.plain, d.is) d.made

-- ---- where the text is understood its name is free

pub ok_then : {X Y : Type 0} (r : Checked X) (f : X → Checked Y) (y : Y) → and_then r f ≡ Ok y → (x : X) × (r ≡ Ok x) × (f x ≡ Ok y)
ok_then (Ok x) f y h = (x, refl, h)
ok_then (Err e) f y h = absurd (cc)

pub passes : {X : Type 0} (b : Bool) (e : CompileError) (r : Checked X) (x : X) → ◌≡◌ {A = Checked X} (if b then Err e else r) (Ok x) → r ≡ Ok x
passes true e r x h = absurd (cc)
passes false e r x h = h

-- what is made has a new name
pub is_new : (if_missing : Bool) (name : Name) (same other : Option ℕ) (b : Bool) → if_missing ≡ false → creates_by if_missing name same other ≡ Ok b → (same ≡ None) × (other ≡ None) × (b ≡ true)
unfolding creates_by
is_new true name same other b off h = absurd (cc)
is_new false name same other b off h = go same other (passes (is_reserved name) wrong.Misuse _ b h)
  where
    go : (s o : Option ℕ) → ◌≡◌ {A = Checked Bool} (if is_some o then Err wrong.Exists else (if is_some s then Err wrong.Exists else Ok true)) (Ok b) → (s ≡ None) × (o ≡ None) × (b ≡ true)
    go None None e = (refl, refl, sym (same_value e))
    go (Some n) None e = absurd (cc)
    go s (Some n) e = absurd (cc)

pub neither : (o p : Option ℕ) → option_or o p ≡ None → (o ≡ None) × (p ≡ None)
neither None p h = (refl, h)
neither (Some n) p h = absurd (cc)

-- a text that never compiles to a SELECT is understood as it compiles
pub understood_compiled : (schema : Schema) (text : List ℕ) (c : Compiled) → ((s : Schema) (k : Compiled) → compiled s text ≡ Ok k → is_select k.command ≡ false) → understood schema text ≡ Ok c → compiled schema text ≡ Ok c
unfolding understood
understood_compiled schema text c never h = elim (cases_Bool (reads_listing schema text)) [
  | inl lists ↦ absurd (selected _ (never _) (rw lists at h))
  | inr other ↦ rw other at h
]
  where
    selected : (r : Checked Compiled) → ((k : Compiled) → r ≡ Ok k → is_select k.command ≡ false) → ¬ (if_select r ≡ Ok c)
    selected (Ok k) never is = absurd (let e = rw (never k refl) at is in cc)
    selected (Err e) never is = absurd (cc)

abbrev build : CreateTable → Bool → Checked Command
build def is_new = if is_new then and_then (define.table [] def) (λ t. if (length t.computed == length t.stamps.places) && not def.resolves then Ok Make else Err wrong.Unsupported) else Ok Nothing

made_if : (schema : Schema) (def : CreateTable) (k : Command) (t : Table) → def.if_missing ≡ false → define.table [] def ≡ Ok t → ((length t.computed == length t.stamps.places) && not def.resolves) ≡ true → create_table schema [] def ≡ Ok k → IsFree schema def.name × (k ≡ Make)
unfolding create_table
made_if schema def k t new made whole h =
    let first = ok_then (creates_by def.if_missing def.name _ _) (build def) k (passes (is_attached schema def.name) wrong.Unsupported _ k h) in
    let fresh = is_new def.if_missing def.name (option_or (table_named schema def.name) (view_named schema def.name)) (index_named schema def.name) first.0 new first.1 in
    let free = neither (table_named schema def.name) (view_named schema def.name) fresh.0 in
    let built : build def true ≡ Ok k = subst (λ b. build def b ≡ Ok k) fresh.2 first.2 in
    (record { table = free.0; index = fresh.1; view = free.1 }, sym (same_value (rw (made, whole) at built)))

module _ (text name : List ℕ) (table : ℕ → Table) (d : Defines text name table) where
  compiled_free : (schema : Schema) (c : Compiled) → compiled schema text ≡ Ok c → IsFree schema name × (c.command ≡ Make)
  unfolding compiled planned meaning returning command timed
  compiled_free schema c h = go (create_table schema [] d.def) refl (rw (d.read, d.is, d.plain) at h)
    where
      go : (r : Checked Command) → create_table schema [] d.def ≡ r → and_then (and_then (and_then r (λ k. Ok (k, None))) (λ found. Ok ([], found))) (λ plan. Ok (with_command d.parsed plan)) ≡ Ok c → IsFree schema name × (c.command ≡ Make)
      go (Ok k) is h = let it = made_if schema d.def k (table 0) d.new d.made d.whole is in (subst (IsFree schema) d.called it.0, ap (λ (j : Compiled). j.command) (sym (same_value h)) ∙ it.1)
      go (Err e) is h = absurd (cc)

  pub understood_free : (schema : Schema) (c : Compiled) → understood schema text ≡ Ok c → IsFree schema name
  understood_free schema c h = (compiled_free schema c (understood_compiled schema text c (λ s k is. ap is_select (compiled_free s k is).1) h)).0

-- ---- lists

found_last : {X : Type 0} (p : X → Bool) (x : X) (xs : List X) → ((y : X) → Has xs y → p y ≡ false) → p x ≡ true → find p (xs ++ x ∷ []) ≡ Some x
found_last p x [] none is = rw is refl
found_last p x (y ∷ xs) none is = rw (none y (inl refl)) (found_last p x xs (λ z h. none z (inr h)) is)

-- ---- what a sound database has

-- each tree of a table is a stored one
pub tree_low : (db : Database) → IsDatabase db → (t : Table) → Has db.schema.tables t → nat_le (2 ^ 31) t.tree ≡ false
tree_low db sound t has =
    let row = zipped_left IsTableRow _ db.schema.tables t sound.lists.listed.tables has in
    let low = row.2.described.low in
    false_from_ne_true _ (λ h. let e = leb-true _ _ h in omega (arith, low, e))

-- an index stands on a table
on_table : (t : Table) (i : Index) (v : Value) → IsDefined t i v → i.table ≡ t.tree
on_table t i Null h = ap (λ (j : Index). j.table) h.3
on_table t i (Int n) h = absurd h
on_table t i (Real x) h = absurd h
on_table t i (Text sql) h = ap (λ (j : Index). j.table) h.2
on_table t i (Blob b) h = absurd h

pub index_low : (db : Database) → IsDatabase db → (i : Index) → Has db.schema.indexes i → i.table < next_tree db.schema
index_low db sound i has =
    let row = zipped_left (IsIndexRow db.schema.tables) _ db.schema.indexes i sound.lists.listed.indexes has in
    let same = on_table row.2.table i _ row.2.defined in
    let low = table_below db.schema row.2.table row.2.listed in
    omega (arith, same, low)

pub own_table : (t : Table) (at tree : ℕ) (keys : List (List ℕ)) (i : Index) → Has (automatics t at tree keys) i → i.table ≡ t.tree
own_table t at tree [] i h = absurd h
own_table t at tree (key ∷ keys) i (inl same) = ap (λ (j : Index). j.table) same
own_table t at tree (key ∷ keys) i (inr more) = own_table t (at + 1) (tree + 1) keys i more

pub tree_apart : (schema : Schema) (t : Table) → Has schema.tables t → t.tree ≢ next_tree schema
tree_apart schema t has same = omega (arith, table_below schema t has, same)

-- the new table has a tree of its own, and each other one keeps its own
owns_created : (schema : Schema) (table : Table) → OwnsTree (created schema table) (record table { tree = next_tree schema })
owns_created schema table other has is = elim (has_either schema.tables (record table { tree = next_tree schema } ∷ []) other has) [
  | inl before ↦ absurd (tree_apart schema other before is)
  | inr (inl same) ↦ same
  | inr (inr none) ↦ absurd none
]

keeps_created : (schema : Schema) (table t : Table) → Has schema.tables t → OwnsTree schema t → OwnsTree (created schema table) t
keeps_created schema table t there own other has is = elim (has_either schema.tables (record table { tree = next_tree schema } ∷ []) other has) [
  | inl before ↦ own other before is
  | inr (inl same) ↦ absurd (tree_apart schema t there (sym is ∙ ap (λ (u : Table). u.tree) same))
  | inr (inr none) ↦ absurd none
]

module _ (old : Schema) (name : List ℕ) (table : ℕ → Table) (free : table_named old name ≡ None) (named : (tree : ℕ) → same_name (table tree).name name ≡ true) (placed : (tree : ℕ) → record (table 0) { tree = tree } ≡ table tree) where
  abbrev new : Table
  new = record (table 0) { tree = next_tree old }

  new_named : same_name new.name name ≡ true
  new_named = subst (λ (t : Table). same_name t.name name ≡ true) (sym (placed (next_tree old))) (named (next_tree old))

  made_table : nat_le (2 ^ 31) (next_tree old) ≡ false → HasTable (created old (table 0)) name (length old.tables) new
  made_table low = record {
    named = placed_append (λ t. same_name t.name name) 0 old.tables (new ∷ []) ∙ rw (free, new_named) (let e : 0 + length old.tables ≡ length old.tables = omega arith in ap Some e);
    there = got_last old.tables new;
    low = low;
    stands = found_last (λ t. t.tree == next_tree old) new old.tables (λ t has. ne_eqb t.tree (next_tree old) (tree_apart old t has)) (eq-eqb (next_tree old) (next_tree old) refl);
  }

-- an index of a new tree guards no table that was there
pub unguarded : (schema : Schema) (i : Index) → next_tree schema ≤ i.table → (t : Table) → Has schema.tables t → guards i t ≡ false
unguarded schema i high t has = false_from_ne_true _ (λ h. let on = eqb-true i.table t.tree (and_parts i.is_unique (i.table == t.tree) h).1 in omega (arith, high, on, table_below schema t has))

own_high : (schema : Schema) (made : Table) (i : Index) → Has (automatics (record made { tree = next_tree schema }) 0 (next_tree schema + 1) made.uniques) i → next_tree schema ≤ i.table
own_high schema made i own = let on = own_table (record made { tree = next_tree schema }) 0 (next_tree schema + 1) made.uniques i own in omega (arith, on)

pub created_grows : (old new : Database) (made : Table) → new.schema ≡ created old.schema made → KeepsRows old.schema.tables old.trees new.trees → Grows old new
created_grows old new made is rows = subst (λ (s : Schema). Grows old (record new { schema = s })) (sym is) (record {
  named = λ name at t has. keeps_table old.schema made t name at has;
  owns = keeps_created old.schema made;
  keeps = record {
    tables = λ t has. (has_left old.schema.tables _ t has, all_has (λ (u : Table). new.trees u.tree ≡ old.trees u.tree) old.schema.tables t rows has);
    owns = keeps_created old.schema made;
    indexes = λ i has. has_left old.schema.indexes _ i has;
    views = refl;
  };
  new_indexes = λ i has. elim (has_either old.schema.indexes _ i has) [ inl before ↦ inl before | inr own ↦ inr (unguarded old.schema i (own_high old.schema made i own)) ];
})

abbrev made_of : Checked Table → Table
made_of (Ok t) = t
made_of (Err e) = project_at 0

-- SQLite's own table has its name, and no unique key
sequence_made : table_defined_by sequence_text ≡ Ok (made_of (table_defined_by sequence_text))
unfolding everything table_defined_by table_in
sequence_made = refl

sequence_named : ((made_of (table_defined_by sequence_text)).name ≡ codes "sqlite_sequence") × ((made_of (table_defined_by sequence_text)).uniques ≡ [])
unfolding everything table_defined_by table_in
sequence_named = (refl, refl)

pub sequence_is : (t : Table) → table_defined_by sequence_text ≡ Ok t → (t.name ≡ codes "sqlite_sequence") × (t.uniques ≡ [])
sequence_is t is = let same = same_value (sym is ∙ sequence_made) in (ap (λ (u : Table). u.name) same ∙ sequence_named.0, ap (λ (u : Table). u.uniques) same ∙ sequence_named.1)

module _ (text name : List ℕ) (table : ℕ → Table) (d : Defines text name table) (old new : Database) (free : IsFree old.schema name) (sound : IsDatabase new) where
  abbrev added : Table
  added = record (table 0) { tree = next_tree old.schema }

  is_added : added ≡ table (next_tree old.schema)
  is_added = d.placed (next_tree old.schema)

  -- one CREATE, and what may have been made behind it
  makes : (mid : Database) → mid.schema ≡ created old.schema (table 0) → mid.trees (next_tree old.schema) ≡ [] → KeepsRows old.schema.tables old.trees mid.trees → Grows mid new
      → ((t : Table) → Has new.schema.tables t → Has mid.schema.tables t ⊎ IsSequence t) → ((i : Index) → Has new.schema.indexes i → Has mid.schema.indexes i) → HasMade old new (name, table)
  makes mid is empty kept more later_table later =
      let on : Grows old new = grows_both old mid new (created_grows old mid (table 0) is kept) more in
      let listed : Has mid.schema.tables added = subst (λ (s : Schema). Has s.tables added) (sym is) (has_right old.schema.tables (added ∷ []) added (inl refl)) in
      let still = more.keeps.tables added listed in
      let first = made_table old.schema name table free.table d.named d.placed (tree_low new sound added still.0) in
      let own : OwnsTree mid.schema added = subst (λ (s : Schema). OwnsTree s added) (sym is) (owns_created old.schema (table 0)) in
      record {
        free = free;
        has = subst (HasTable new.schema name (length old.schema.tables)) is_added (more.named name (length old.schema.tables) added (subst (λ s. HasTable s name (length old.schema.tables) added) (sym is) first));
        placed = ap (λ (t : Table). t.tree) (sym is_added);
        empty = still.1 ∙ empty;
        keeps = on.named;
        listed = λ t has. (on.keeps.tables t has).0;
        others = all_from (λ (t : Table). new.trees t.tree ≡ old.trees t.tree) old.schema.tables (λ t has. (on.keeps.tables t has).1);
        owns = subst (OwnsTree new.schema) is_added (more.owns added listed own);
        keeps_own = on.owns;
        views = on.keeps.views;
        indexes = on.keeps.indexes;
        new_tables = λ t has. elim (later_table t has) [
          | inl before ↦ elim (has_either old.schema.tables (added ∷ []) t (subst (λ (s : Schema). Has s.tables t) is before)) [
            | inl old_one ↦ inl old_one
            | inr (inl same) ↦ inr (inl (same ∙ is_added))
            | inr (inr none) ↦ absurd none
          ]
          | inr sequence ↦ inr (inr sequence)
        ];
        new_indexes = λ i has. elim (has_either old.schema.indexes _ i (subst (λ (s : Schema). Has s.indexes i) is (later i has))) [
          | inl old_one ↦ inl old_one
          | inr own ↦ inr (subst (λ (t : Table). Has (keys_of t (next_tree old.schema + 1)) i) is_added own)
        ];
        sound = sound;
      }

  create_does : (limit : Option ℕ) (mode : Mode) (params : Row) (tally : Tally) → Does limit mode params old text None Make (Ok (tally, new)) → HasMade old new (name, table)
  create_does limit mode params tally h =
      let done = went h in
      let made = went done.1 in
      let end : new ≡ done.0 = ap (λ (p : Tally × Database). p.1) (same_value done.2) in
      let mid = made.0 in
      let it = made.1 in
      let is : mid.schema ≡ created old.schema (table 0) = it.is ∙ ap (created old.schema) (same_value (sym it.defined ∙ defined_by text name table d)) in
      let by = makes mid is it.empty it.others in
      elim (cases_Bool (lacks_sequence mid.schema)) [
        | inl lacks ↦
            let more = rw lacks at made.2 in
            let again : new.schema ≡ created mid.schema more.table = ap (λ (b : Database). b.schema) end ∙ more.is in
            let counts = sequence_is more.table more.defined in
            by (created_grows mid new more.table again (subst (λ (b : Database). KeepsRows mid.schema.tables mid.trees b.trees) (sym end) more.others))
            (λ t has. elim (has_either mid.schema.tables _ t (subst (λ (s : Schema). Has s.tables t) again has)) [
              | inl before ↦ inl before
              | inr (inl same) ↦ inr (ap (λ (u : Table). u.name) same ∙ counts.0)
              | inr (inr none) ↦ absurd none
            ])
            (λ i has. elim (has_either mid.schema.indexes _ i (subst (λ (s : Schema). Has s.indexes i) again has)) [
              | inl before ↦ before
              | inr own ↦ absurd (subst (λ keys. Has (automatics (record more.table { tree = next_tree mid.schema }) 0 (next_tree mid.schema + 1) keys) i) counts.1 own)
            ])
        | inr has ↦
            let all : new ≡ mid = end ∙ same_value (rw has at made.2) in
            by (grows_same mid new all) (λ t has. inl (subst (λ (b : Database). Has b.schema.tables t) all has)) (λ i has. subst (λ (b : Database). Has b.schema.indexes i) all has)
      ]

module _ (schema : Schema) (text name : List ℕ) (table : ℕ → Table) (d : Defines text name table) where
  pub create_compiles : IsFree schema name → CompilesTo schema text d.parsed Make
  create_compiles free = compiles_to schema text d.parsed Make d.read
      (create_planned schema d.def (table 0) d.parsed d.is d.nameless d.plain (subst (IsFree schema) (sym d.called) free) (subst (λ n. is_reserved n ≡ false) (sym d.called) d.unreserved) d.made d.whole)

-- CREATE TABLE that runs makes the table, whatever the schema holds
pub creates : (old new : State) (text name : List ℕ) (table : ℕ → Table) → Defines text name table → (count : ℕ) → Executes text [] old new (Ok count) → HasMade old.now new.now (name, table)
unfolding ExecutesIn
creates old new text name table d count h =
    let free = understood_free text name table d old.now.schema h.0 h.1.is in
    let schema = old.now.schema in
    let it = create_compiles schema text name table d free in
    let ran = runs_as text [] old new schema refl Make it.is it.plain count h in
    create_does text name table d old.now new.now free ran.sound old.step_limit (mode_of old) [] ran.tally
    (subst (λ t. Does old.step_limit (mode_of old) [] old.now t None Make (Ok (ran.tally, new.now))) (ap (statement_of text) it.known ∙ d.text_is) ran.changed)
