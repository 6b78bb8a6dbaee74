-- No two workunits of a project have one name or one number.
use Rattle.wu_schema.proofs.Words.{Database, Has, IsTable, List, Refines, Workunit, World, and_from, arith, bytes_eq, bytes_eq-Decides, eqb-true, filter, first_key, length, map, mapped_has, ne_eqb, pos, refl, stored_workunit, subst, sym, true, workunit_at, ℕ, ◌<◌, ◌==◌, ◌∙◌, ◌∷◌, [], ◌≡◌, ◌≤◌}
use Rattle.wu_schema.proofs.StandsLemmas.{is_there}
use Rattle.wu_store.proofs.EqualLemmas.{text_equal, number_tied}
use Rattle.wu_store.proofs.OnceLemmas.{key_once, one_passes}
use Rattle.wu_store.proofs.PlacedLemmas.{table_rises, world_rises}
use Rattle.wu_schema.specs.declared.table.ProjectTable.TheVariants as the_table

pub bytes_same : (a b c : List ℕ) → bytes_eq a b ≡ true → bytes_eq c b ≡ true → bytes_eq a c ≡ true
bytes_same a b c p q = (bytes_eq-Decides a c).1 ((bytes_eq-Decides a b).0 p ∙ sym ((bytes_eq-Decides c b).0 q))

-- at most one workunit of the world has each name
abbrev pub NamesOnce : World → Type 0
NamesOnce world = (name : List ℕ) → length (filter (λ (w : Workunit). bytes_eq w.name name) world.workunits) ≤ 1

-- and each number
abbrev pub NumbersOnce : World → Type 0
NumbersOnce world = (number : ℕ) → length (filter (λ (w : Workunit). w.number == number) world.workunits) ≤ 1

-- numbers rise in a table
pub once_numbered : (n : ℕ) (ws : List Workunit) → IsTable (map stored_workunit ws) → length (filter (λ (w : Workunit). w.number == n) ws) ≤ 1
once_numbered n ws up = one_passes (λ (w : Workunit). w.number == n) (λ a b. a.number < b.number) ws (λ a b has_a has_b low p q. let same = eqb-true _ _ p ∙ sym (eqb-true _ _ q) in absurd (omega (arith, low, same))) (table_rises ws up)

module _ (db : Database) (world : World) (s : Refines db world) where
  -- the name is a unique key
  pub once_named : NamesOnce world
  unfolding first_key
  once_named name = one_passes _ (λ (a b : Workunit). a.number < b.number) world.workunits (λ a b has_a has_b low p q.
      let stored = λ (w : Workunit) (has : Has world.workunits w). subst (λ rs. Has rs (stored_workunit w)) (sym s.rows.workunits.same) (mapped_has stored_workunit world.workunits w has) in
      key_once db (workunit_at (s.trees the_table.Workunit)) 0 (2 ∷ []) refl s.sound (is_there db.schema _ _ (s.tables.each the_table.Workunit tt)) (stored_workunit b) (stored_workunit a) (stored b has_b) (stored a has_a)
      (number_tied a.number b.number ∙ ne_eqb a.number b.number (λ same. omega (arith, same, low))) (pos a.number) (pos b.number) refl refl (λ at. and_from _ _ (text_equal a.name b.name ∙ bytes_same a.name name b.name p q) refl))
      (world_rises db world s)

  -- the number is the key
  pub once_number : NumbersOnce world
  once_number n = once_numbered n world.workunits (subst IsTable s.rows.workunits.same s.rows.workunits.shaped.0)
