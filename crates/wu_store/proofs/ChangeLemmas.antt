-- What the statements that change a project do to the world that it stands for.
use Rattle.wu_schema.proofs.Words.{Archived, ap, Executes, Grant, Import, Instance, Int, Integer, List, None, Null, Ok, Option, Some, Refines, PutsOne, State, Text, Workunit, World, [], archived_at, archived_cells, arith, bound_value, cast, Error, cast_row, codes, grant_at, grant_cells, import_at, import_cells, instance_cells, map, next_rowid, number, number_or_null, of_z, option_map, pos, refl, result_at, stored_archived, stored_grant, stored_workunit, text_or_null, to_z, to_z-of_z, Value, value_rows, w64, workunit_at, workunit_row, ℕ, ℤ, ◌<◌, ◌^◌, ◌∙◌, ◌∷◌, ◌≡◌}
use Rattle.sqlite.specs.Held.{state}
use Rattle.sqlite.specs.Store.{Ghosts}
use Rattle.sqlite.specs.declared.transaction.Transaction.{Transaction}
use Rattle.wu_schema.specs.Calls.{StatementFrame, TransactionFrame}
use Rattle.wu_schema.proofs.CallLemmas.{part_none, part_then}
use Rattle.wu_store.specs.Changes.{PutsGrants, with_next, with_version}
use Rattle.std.proofs.lemmas.Int.{fits_signed_from_abs}
use Rattle.sqlite.specs.Values as values
use Rattle.sqlite.specs.Kind.TheVariants.{Text as KindText}
use Rattle.wu_store.proofs.InsertTexts.{workunit_put, workunit_fits, instance_put, instance_fits, grant_put, grant_fits, archived_put, archived_fits, import_put, import_fits}
use Rattle.wu_schema.proofs.InsertEffect.{cast_null, cast_int, puts_one}
use Rattle.wu_store.proofs.ProjectEffect.{next_fits, next_set, sets_next, sets_version, updates_project, version_fits, version_set}
use Rattle.wu_schema.specs.Classes.{HasClassTables, unbound_in}
use Rattle.wu_schema.specs.Tables.{IsClassedVersion}
use Rattle.wu_schema.proofs.ClassLemmas.{stands_with_classes}
use Rattle.wu_schema.proofs.StandsLemmas.{but_one, lists_still}
use Rattle.wu_store.proofs.StandsWith.{stands_with_next}
use Rattle.wu_store.proofs.ListedLemmas.{listed_next}
use Rattle.wu_schema.specs.declared.table.ProjectTable.TheVariants as the_table

pub cast_number : (n : ℕ) → cast Integer (number n) ≡ number n
cast_number n = cast_int (pos n)

pub cast_number_or_null : (n : Option ℕ) → cast Integer (number_or_null n) ≡ number_or_null n
cast_number_or_null None = cast_null
cast_number_or_null (Some n) = cast_int (pos n)

workunit_kept : (tree : ℕ) (w : Workunit) → map (λ s. cast_row (workunit_at tree) s) (value_rows (workunit_row w) 16 1 workunit_put.terms) ≡ stored_workunit w ∷ []
workunit_kept tree w = simp (cast_null, cast_number, cast_number_or_null)

pub cast_text_or_null : (t : Option (List ℕ)) → cast KindText (text_or_null t) ≡ text_or_null t
cast_text_or_null None = refl
cast_text_or_null (Some t) = refl

instance_kept : (tree w n : ℕ) (i : Instance) → map (λ s. cast_row (result_at tree) s) (value_rows (instance_cells w n i) 12 1 instance_put.terms) ≡ (Null ∷ instance_cells w n i) ∷ []
instance_kept tree w n i = simp (cast_null, cast_number, cast_number_or_null, cast_text_or_null)

archived_kept : (tree place : ℕ) (a : Archived) → map (λ s. cast_row (archived_at tree) s) (value_rows (number place ∷ archived_cells a) 8 1 archived_put.terms) ≡ stored_archived (place, a) ∷ []
archived_kept tree place a = simp (cast_null, cast_number, cast_number_or_null)

import_kept : (tree : ℕ) (import : Import) → map (λ s. cast_row (import_at tree) s) (value_rows (import_cells import) 7 1 import_put.terms) ≡ (Null ∷ import_cells import) ∷ []
import_kept tree import = simp (cast_null, cast_number)

-- ---- what the parameters are

sent : (n : ℤ) (m : ℕ) → n ≡ pos m → m < 2 ^ 63 → to_z w64 (of_z w64 n) ≡ pos m
sent n m is low = rw is (to_z-of_z w64 (pos m) (fits_signed_from_abs w64 (pos m) (omega (arith, low))))

-- a number that fits is bound as it is
pub sent_number : {v : Value} {n : ℤ} (m : ℕ) → v ≡ Int (to_z w64 (of_z w64 n)) → n ≡ pos m → m < 2 ^ 63 → bound_value v ≡ number m
sent_number {v} {n} m given is low = ap bound_value given ∙ ap (λ z. Int z) (sent n m is low)

pub bound_number_or_null : (o : Option ℕ) → bound_value (number_or_null o) ≡ number_or_null o
bound_number_or_null None = refl
bound_number_or_null (Some n) = refl

pub bound_seconds : (o : Option ℤ) (m : Option ℕ) → o ≡ option_map pos m → bound_value (values.or_null Int o) ≡ number_or_null m
bound_seconds o None is = rw is refl
bound_seconds o (Some n) is = rw is refl

pub bound_text : {B : Type 0} (now : B → List ℕ) (o : Option B) (t : Option (List ℕ)) → option_map now o ≡ t → bound_value (values.or_null (λ b. Text (now b)) o) ≡ text_or_null t
bound_text now None t is = rw (← is) refl
bound_text now (Some b) t is = rw (← is) refl

grant_kept : (tree place : ℕ) (g : Grant) → map (λ s. cast_row (grant_at tree) s) (value_rows (number place ∷ grant_cells g) 6 1 grant_put.terms) ≡ stored_grant (place, g) ∷ []
grant_kept tree place g = simp (cast_null, cast_number)

pub puts_grant : (old new : State) (place : ℕ) (g : Grant) (count : ℕ) → Executes grant_put.text (number place ∷ grant_cells g) old new (Ok count) → PutsGrants place (g ∷ []) old.now new.now
puts_grant old new place g count h version t has sound =
    let put = puts_one (codes "credit_grant") grant_at grant_put grant_fits (number place ∷ grant_cells g) old new (has.each the_table.Grant tt).0 (t the_table.Grant) (has.each the_table.Grant tt).1 (stored_grant (place, g)) (stored_grant (place, g)) (grant_kept (t the_table.Grant) place g) refl count h in
    record {
      schema = put.schema;
      rows = λ grants next lists. lists_still put.rows (listed_next grant_cells (old.now.trees (t the_table.Grant)) grants place g next lists);
      others = but_one old.now new.now (t the_table.Grant) (stored_grant (place, g)) put;
      sound = put.sound;
    }

module _ (old new : State) (world : World) (s : Refines old.now world) where
  pub put_workunit : (w : Workunit) (count : ℕ) → Executes workunit_put.text (workunit_row w) old new (Ok count) → PutsOne old.now new.now (s.trees the_table.Workunit) (stored_workunit w)
  put_workunit w count h = puts_one (codes "workunit") workunit_at workunit_put workunit_fits (workunit_row w) old new (s.tables.each the_table.Workunit tt).0 (s.trees the_table.Workunit) (s.tables.each the_table.Workunit tt).1 (stored_workunit w) (stored_workunit w) (workunit_kept (s.trees the_table.Workunit) w) refl count h

  pub put_instance : (number n : ℕ) (i : Instance) (count : ℕ) → Executes instance_put.text (instance_cells number n i) old new (Ok count) → PutsOne old.now new.now (s.trees the_table.Result) (Int (next_rowid (old.now.trees (s.trees the_table.Result))) ∷ instance_cells number n i)
  put_instance number n i count h = puts_one (codes "result") result_at instance_put instance_fits (instance_cells number n i) old new (s.tables.each the_table.Result tt).0 (s.trees the_table.Result) (s.tables.each the_table.Result tt).1 (Null ∷ instance_cells number n i) _ (instance_kept (s.trees the_table.Result) number n i) refl count h

  pub put_archived : (place : ℕ) (a : Archived) (count : ℕ) → Executes archived_put.text (number place ∷ archived_cells a) old new (Ok count) → PutsOne old.now new.now (s.trees the_table.Archived) (stored_archived (place, a))
  put_archived place a count h =
      puts_one (codes "archived") archived_at archived_put archived_fits (number place ∷ archived_cells a) old new (s.tables.each the_table.Archived tt).0 (s.trees the_table.Archived) (s.tables.each the_table.Archived tt).1 (stored_archived (place, a)) (stored_archived (place, a)) (archived_kept (s.trees the_table.Archived) place a) refl count h

  pub put_import : (import : Import) (count : ℕ) → Executes import_put.text (import_cells import) old new (Ok count) → PutsOne old.now new.now (s.trees the_table.Import) (Int (next_rowid (old.now.trees (s.trees the_table.Import))) ∷ import_cells import)
  put_import import count h = puts_one (codes "import") import_at import_put import_fits (import_cells import) old new (s.tables.each the_table.Import tt).0 (s.trees the_table.Import) (s.tables.each the_table.Import tt).1 (Null ∷ import_cells import) _ (import_kept (s.trees the_table.Import) import) refl count h

  pub sets_number : (n count : ℕ) → Executes next_set.text (number n ∷ []) old new (Ok count) → Refines new.now (with_next n world)
  sets_number n count h =
      let sets = updates_project old new (s.trees the_table.Project) (s.tables.each the_table.Project tt) (pos n) count next_set next_fits h in
      stands_with_next old.now new.now world s n sets.schema (sets_next old new (s.trees the_table.Project) (s.tables.each the_table.Project tt) (pos n) count (pos world.version) (pos world.next_number) h s.rows.project) sets.others sets.sound

  -- at the version of classes, where their tables are there, with no class yet
  pub sets_classes : (older : ¬ IsClassedVersion world.version) → HasClassTables old.now (unbound_in world) → (count : ℕ) → Executes version_set.text (number 3 ∷ []) old new (Ok count) → Refines new.now (with_version 3 world)
  sets_classes older c count h =
      let sets = updates_project old new (s.trees the_table.Project) (s.tables.each the_table.Project tt) (pos 3) count version_set version_fits h in
      stands_with_classes old.now world s older c new.now sets.schema (sets_version old new (s.trees the_table.Project) (s.tables.each the_table.Project tt) (pos 3) count (pos world.version) (pos world.next_number) h s.rows.project) sets.others sets.sound

-- ---- what statements do to a transaction, one after another

-- any number of them, so far
abbrev pub Works : {S : Type 0} → Ghosts S → Transaction S → Transaction S → Type 0
Works g old new = TransactionFrame {T = Unit {0}} {E = Error} g old new (Ok tt)

pub works_none : {S : Type 0} (g : Ghosts S) (a : Transaction S) → Works g a a
works_none g a = record { same_reference = refl; part = part_none (state g a.conn.now); stays = λ clean within. within }

module _ {S : Type 0} {g : Ghosts S} {a b : Transaction S} where
  -- one more
  pub works_once : {T : Type 0} {x : T} → StatementFrame {E = Error} g a b (Ok x) → Works g a b
  works_once one = record { same_reference = one.same_reference; part = one.part; stays = λ clean within. one.inside clean }

  pub works_then : {c : Transaction S} → Works g a b → Works g b c → Works g a c
  works_then {c = c} one two = record {
    same_reference = two.same_reference ∙ one.same_reference;
    part = part_then (state g a.conn.now) (state g b.conn.now) (state g c.conn.now) one.part two.part;
    stays = λ clean within. two.stays clean (one.stays (omega (arith, two.part.survives.clean, clean)) within);
  }
