-- What a plain CREATE INDEX leaves, for any text that makes one, over any schema: one index more, and all else as it
-- was.
use Rattle.wu_schema.proofs.Words.{AllByRecursion, Checked, Command, Compiled, Database, Err, Executes, ExecutesIn, Ghosts, Has, HasRun, HasTable, Index, IsDatabase, IsFree, IsPlain, List, None, Ok, OnOk, Result, Schema, Refines, State, Table, Transaction, World, [], all_has, and_then, ap, command, command_of, compiled, false, has_either, has_left, has_right, inl, inr, is_reserved, is_select, length, meaning, nat_lt, next_tree, not, option_or, planned, refl, returning, runs_as, same_name, slice_get, state, statement_of, subst, sym, timed, understood, with_command, true, ℕ, ◌++◌, ◌+◌, ◌^◌, ◌∙◌, ◌∷◌, ◌≡◌, ◌⊎◌}
use Rattle.sqlite.specs.Command.TheVariants.{CreateIndex as Make}
use Rattle.sqlite_ast.specs.declared.CreateIndex.{CreateIndex}
use Rattle.sqlite_catalog.specs.Change.{indexed, with_index, KeepsRows}
use Rattle.sqlite_resolve.specs.Define as define
use Rattle.sqlite_resolve.specs.Lowering.{or_else}
use Rattle.sqlite_resolve.specs.declared.error.CompileError.TheVariants as wrong
use Rattle.sqlite_resolve.specs.Compile.{create_index, creates as creates_by, index_defined_by, index_in, target}
use Rattle.wu_schema.specs.Indexes.{DefinesIndex, IsIndexed, NamedIndex, index_at}
use Rattle.wu_schema.specs.Made.{Named}
use Rattle.wu_schema.specs.Queue.{AddsIndex, AddsIndexes, MakesIndex, MakesIndexes}
use Rattle.wu_schema.proofs.CallLemmas.{ok_on}
use Rattle.wu_schema.proofs.EffectLemmas.{went, same_value}
use Rattle.sqlite_schema.specs.Names.{index_named, table_named, view_named}
use Rattle.wu_schema.proofs.CreateEffect.{is_new, neither, ok_then, passes, understood_compiled}
use Rattle.wu_schema.proofs.StandsOver.{Grows, grows_same, grows_both, stands_over}

-- ---- what is understood of the text

made_if : (schema : Schema) (def : CreateIndex) (k : Command) → def.if_missing ≡ false → create_index schema def ≡ Ok k → (at : ℕ) × (target schema def.table ≡ Ok at) × (k ≡ Make at) × IsFree schema def.name
unfolding create_index
made_if schema def k new h =
    let at = ok_then (target schema def.table) _ k (passes (is_reserved def.table) wrong.Misuse _ k h) in
    let table = ok_then (or_else (slice_get schema.tables at.0) wrong.NoSuchTable) _ k at.2 in
    let fresh = ok_then (creates_by def.if_missing def.name _ _) _ k table.2 in
    let is = is_new def.if_missing def.name (index_named schema def.name) (option_or (table_named schema def.name) (view_named schema def.name)) fresh.0 new fresh.1 in
    let free = neither (table_named schema def.name) (view_named schema def.name) is.1 in
    let built = ok_then (define.index table.0 def) (λ (i : Index). Ok (Make at.0)) k (rw is.2 at fresh.2) in
    (at.0, at.1, sym (same_value built.2), record { table = free.0; index = is.0; view = free.1 })

module _ (text name : List ℕ) (d : DefinesIndex text name) where
  abbrev pub means : ℕ → Compiled
  means at = with_command d.parsed ([], (Make at, None))

  compiled_is : (schema : Schema) (c : Compiled) → compiled schema text ≡ Ok c → (at : ℕ) × (target schema name ≡ Ok at) × (c ≡ means at) × IsFree schema d.def.name
  unfolding compiled planned meaning returning command timed
  compiled_is schema c h = go (create_index schema d.def) refl (rw (d.read, d.is, d.plain) at h)
    where
      go : (r : Checked Command) → create_index schema d.def ≡ r → and_then (and_then (and_then r (λ k. Ok (k, None))) (λ found. Ok ([], found))) (λ plan. Ok (with_command d.parsed plan)) ≡ Ok c → (at : ℕ) × (target schema name ≡ Ok at) × (c ≡ means at) × IsFree schema d.def.name
      go (Ok k) is h =
          let it = made_if schema d.def k d.new is in
          (it.0, subst (λ n. target schema n ≡ Ok it.0) d.on it.1, sym (same_value h) ∙ ap (λ k. with_command d.parsed ([], (k, None))) it.2, it.3)
      go (Err e) is h = absurd (cc)

  shared_index : (table : Table) (i : Index) → index_defined_by table text ≡ Ok i → i.is_unique ≡ false
  unfolding index_defined_by index_in define.index
  shared_index table i h =
      let columns = ok_then (define.sorted table d.def.columns) (λ at. Ok (record { name = d.def.name; tree = 0; table = table.tree; columns = at.0; order = at.1; is_unique = d.def.is_unique })) i
      (passes (not (same_name table.name d.def.table)) wrong.Misuse _ i (rw (d.read, d.is) at h)) in
      ap (λ (j : Index). j.is_unique) (sym (same_value columns.2)) ∙ d.shared

  -- where its name finds the table, the text that is understood makes an index on it
  pub index_compiles : (schema : Schema) (at : ℕ) (table : Table) → HasTable schema name at table → (c : Compiled) → understood schema text ≡ Ok c → c ≡ means at
  index_compiles schema at table has c known =
      let it = compiled_is schema c (understood_compiled schema text c (λ s k is. ap (λ (j : Compiled). is_select j.command) (compiled_is s k is).2) known) in
      it.2 ∙ ap means (same_value (sym it.1 ∙ ap (λ o. or_else o wrong.NoSuchTable) has.named))

  -- CREATE INDEX that runs makes the index that it defines, whatever else the schema holds
  pub makes_index : (old new : State) (at : ℕ) (table : Table) → HasTable old.now.schema name at table → (count : ℕ) → Executes text [] old new (Ok count)
      → (index : Index) × (index_defined_by table text ≡ Ok index) × (new.now.schema ≡ indexed old.now.schema table index) × KeepsRows old.now.schema.tables old.now.trees new.now.trees × IsDatabase new.now × IsFree old.now.schema d.def.name
  unfolding ExecutesIn
  makes_index old new at table has count h =
      let schema = old.now.schema in
      let it = compiled_is schema h.0 (understood_compiled schema text h.0 (λ s k is. ap (λ (j : Compiled). is_select j.command) (compiled_is s k is).2) h.1.is) in
      let known : understood schema text ≡ Ok (means at) = h.1.is ∙ ap Ok (index_compiles schema at table has h.0 h.1.is) in
      let ran = runs_as text [] old new schema refl (Make at) (ap command_of known) (subst IsPlain (sym known) (refl, refl)) count h in
      let done = went (rw (ap (statement_of text) known ∙ d.text_is, has.there) at ran.changed) in
      let made = done.1 in
      let end : new.now ≡ done.0 = ap (λ p. p.1) (same_value done.2) in (
        made.index,
        made.defined,
        ap (λ (b : Database). b.schema) end ∙ made.is,
        subst (λ (b : Database). KeepsRows schema.tables old.now.trees b.trees) (sym end) made.rows,
        ran.sound,
        it.3,
      )

-- an index more, which is not unique, leaves all that was there
pub index_grows : (old new : Database) (index : Index) → new.schema ≡ with_index old.schema index → index.is_unique ≡ false → KeepsRows old.schema.tables old.trees new.trees → Grows old new
index_grows old new index is shared rows = subst (λ (s : Schema). Grows old (record new { schema = s })) (sym is) (record {
  named = λ n k t is_there. record { named = is_there.named; there = is_there.there; low = is_there.low; stands = is_there.stands };
  owns = λ t there own. own;
  keeps = record {
    tables = λ t there. (there, all_has (λ (u : Table). new.trees u.tree ≡ old.trees u.tree) old.schema.tables t rows there);
    owns = λ t there own. own;
    indexes = λ i there. has_left old.schema.indexes _ i there;
    views = refl;
  };
  new_indexes = λ i there. elim (has_either old.schema.indexes _ i there) [ inl before ↦ inl before | inr (inl same) ↦ inr (λ t listed. rw (ap (λ (j : Index). j.is_unique) same ∙ shared) refl) | inr (inr none) ↦ absurd none ];
})

-- so the database stands for the world that it stood for
pub index_stands : (text name : List ℕ) → DefinesIndex text name → (old new : State) (at : ℕ) (table : Table) → HasTable old.now.schema name at table → (count : ℕ) → Executes text [] old new (Ok count) → (world : World) → Refines old.now world → Refines new.now world
index_stands text name d old new at table has count h world s =
    let it = makes_index text name d old new at table has count h in
    stands_over old.now new.now (index_grows old.now new.now _ it.2 (shared_index text name d table it.0 it.1) it.3) world s it.4

-- ---- texts whose index is known

-- the text makes this index on the table of this name, in any tree
pub record DefinesAs (text : List ℕ) (table : Named) (named : NamedIndex) : Type 0 where
  pub defines : DefinesIndex text table.0
  pub made : (tree : ℕ) → index_defined_by (table.1 tree) text ≡ Ok (index_at named (table.1 tree).tree 0)
  pub called : defines.def.name ≡ named.0
  -- the row that lists it is not too long
  pub short : (tree : ℕ) → nat_lt (length named.0 + length (table.1 tree).name + length text + 200) (10 ^ 9) ≡ true

pub adds_index : (text : List ℕ) (table : Named) (named : NamedIndex) → DefinesAs text table named → (old new : State) (count : ℕ) → Executes text [] old new (Ok count) → MakesIndex table named old.now new.now
adds_index text table named d old new count h at tree has =
    let it = makes_index text table.0 d.defines old new at (table.1 tree) has count h in
    let same : it.0 ≡ index_at named (table.1 tree).tree 0 = same_value (sym it.1 ∙ d.made tree) in
    record { free = subst (IsFree old.now.schema) d.called it.5; schema = it.2 ∙ ap (indexed old.now.schema (table.1 tree)) same; rows = it.3; sound = it.4 }

-- a CREATE INDEX inside a transaction
pub makes_known : {S T E : Type 0} (g : Ghosts S) (old new : Transaction S) {text : List ℕ} {table : Named} {named : NamedIndex} → DefinesAs text table named → (r : Result T E) → OnOk r (HasRun text [] (state g old.conn.now) (state g new.conn.now))
    → OnOk r (MakesIndex table named (state g old.conn.now).now (state g new.conn.now).now)
makes_known g old new {text} {table} {named} d r ran = ok_on r _ _ (λ it. adds_index text table named d (state g old.conn.now) (state g new.conn.now) it.0 it.1) ran

-- ---- one index after another

pub added_grows : (old new : Database) (table : Table) (named : NamedIndex) → AddsIndex old new table named → Grows old new
added_grows old new table named adds = index_grows old new (index_at named table.tree (next_tree old.schema)) adds.schema refl adds.rows

pub all_added_grow : (old new : Database) (table : Table) (named : List NamedIndex) → AddsIndexes old new table named → Grows old new
all_added_grow old new table [] same = grows_same old new same
all_added_grow old new table (named ∷ more) h = grows_both old h.0 new (added_grows old h.0 table named h.1) (all_added_grow h.0 new table more h.2)

pub added_then : (old mid new : Database) (table : Table) (one two : List NamedIndex) → AddsIndexes old mid table one → AddsIndexes mid new table two → AddsIndexes old new table (one ++ two)
added_then old mid new table [] two same h = subst (λ d. AddsIndexes d new table two) same h
added_then old mid new table (named ∷ one) two h k = (h.0, h.1, added_then h.0 mid new table one two h.2 k)

-- where its name finds the table still
pub indexes_both : (table : Named) (one two : List NamedIndex) (old mid new : Database) → MakesIndexes table one old mid → MakesIndexes table two mid new → MakesIndexes table (one ++ two) old new
indexes_both table one two old mid new first second at tree has =
    let made = first at tree has in
    added_then old mid new (table.1 tree) one two made (second at tree ((all_added_grow old mid (table.1 tree) one made).named table.0 at (table.1 tree) has))

pub last_index : (table : Named) (named : NamedIndex) (old new : Database) → MakesIndex table named old new → MakesIndexes table (named ∷ []) old new
last_index table named old new one at tree has = (new, one at tree has, refl)

-- in the end each is there
pub all_indexed : (old new : Database) (table : Table) (named : List NamedIndex) → AddsIndexes old new table named → AllByRecursion (IsIndexed new.schema table.tree) named
all_indexed old new table [] same = tt
all_indexed old new table (named ∷ more) h =
    let index = index_at named table.tree (next_tree old.schema) in
    let made = subst (λ (s : Schema). Has s.indexes index) (sym h.1.schema) (has_right old.schema.indexes (index ∷ []) index (inl refl)) in
    ((next_tree old.schema, (all_added_grow h.0 new table more h.2).keeps.indexes index made), all_indexed h.0 new table more h.2)

-- and nothing else is new
pub only_indexed : (old new : Database) (table : Table) (named : List NamedIndex) → AddsIndexes old new table named
    → (new.schema.tables ≡ old.schema.tables) × ((i : Index) → Has new.schema.indexes i → Has old.schema.indexes i ⊎ ((one : NamedIndex) × (tree : ℕ) × Has named one × (i ≡ index_at one table.tree tree)))
only_indexed old new table [] same = (ap (λ (d : Database). d.schema.tables) same, λ i has. inl (subst (λ (d : Database). Has d.schema.indexes i) same has))
only_indexed old new table (named ∷ more) h =
    let rest = only_indexed h.0 new table more h.2 in (
      rest.0 ∙ ap (λ (s : Schema). s.tables) h.1.schema,
      λ i has. elim (rest.1 i has) [
        | inl before ↦ elim (has_either old.schema.indexes _ i (subst (λ (s : Schema). Has s.indexes i) h.1.schema before)) [
          | inl first ↦ inl first
          | inr (inl same) ↦ inr (named, next_tree old.schema, inl refl, same)
          | inr (inr none) ↦ absurd none
        ]
        | inr later ↦ inr (later.0, later.1, inr later.2, later.3)
      ],
    )

-- the last of them leaves the trees listed
pub all_added_sound : (old new : Database) (table : Table) (named : List NamedIndex) → IsDatabase old → AddsIndexes old new table named → IsDatabase new
all_added_sound old new table [] sound same = subst IsDatabase (sym same) sound
all_added_sound old new table (named ∷ more) sound h = all_added_sound h.0 new table more h.1.sound h.2
