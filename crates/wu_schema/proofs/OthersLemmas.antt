-- What leaves the tables of other programs as they are.
use Rattle.wu_schema.proofs.Words.{Database, Enforced, Executes, Has, HasNamed, Insert, IsCalm, Ok, Row, Schema, State, Table, Values, [], all_has, ap, codes, inl, inr, length, mode_of, refl, runs_as, statement_of, subst, sym, understood, ℕ, ◌∙◌, ◌∷◌, ◌≡◌, ◌≢◌}
use Rattle.std.specs.Prelude.{List}
use Rattle.wu_schema.specs.Made.{KeepsOthers, Named}
use Rattle.wu_schema.specs.Others.{AreThere, IsOthers, SparesOthers, SparesWith, table_names}
use Rattle.wu_schema.proofs.CalmLemmas.{calm_bare}
use Rattle.wu_schema.proofs.EffectLemmas.{insert_does}
use Rattle.wu_schema.proofs.InsertTexts.{Put, PutFits, put_compiles}

-- ---- one after another

pub others_none : (db : Database) → SparesOthers db db
others_none db t is = (is, refl)

pub others_then : (a b c : Database) → SparesOthers a b → SparesOthers b c → SparesOthers a c
others_then a b c one two t is = let mid = one t is in let end = two t mid.0 in (end.0, end.1 ∙ mid.1)

pub spares_none : (tables : List Named) (db : Database) → SparesWith tables db db
spares_none tables db there = (refl, others_none db)

pub spares_then : (tables : List Named) (a b c : Database) → SparesWith tables a b → SparesWith tables b c → SparesWith tables a c
spares_then tables a b c one two there =
    let first = one there in
    let then = two (subst (λ (s : Schema). AreThere s tables) (sym first.0) there) in
    (then.0 ∙ first.0, others_then a b c first.1 then.1)

-- ---- what is made beside them

pub others_kept : (old new : Database) → KeepsOthers old new → SparesOthers old new
others_kept old new keeps t is =
    let still = keeps.tables t is.there in
    (record { there = still.0; name = is.name; owns = keeps.owns t is.there is.owns; bare = is.bare }, still.1)

-- ---- a change of one table

pub others_calm : (schema : Schema) (t : Table) (source : ℕ) → IsOthers schema t → IsCalm schema Enforced t source
others_calm schema t source is = calm_bare schema t source is.owns is.bare

-- a table of a project has a name of a project's tables, and so another tree
pub others_apart : (schema : Schema) (t : Table) (name : List ℕ) (table : Table) → IsOthers schema t → HasNamed schema name table → Has table_names table.name → t.tree ≢ table.tree
others_apart schema t name table is has ours same = all_has (λ (n : List ℕ). t.name ≢ n) table_names table.name is.name ours (ap (λ (u : Table). u.name) (has.2 t is.there same))

pub others_still : (old new : Database) → new.schema ≡ old.schema → ((t : Table) → IsOthers old.schema t → new.trees t.tree ≡ old.trees t.tree) → (new.schema ≡ old.schema) × SparesOthers old new
others_still old new same rows = (same, λ t is. (subst (λ (s : Schema). IsOthers s t) (sym same) is, rows t is))

-- an INSERT of one row
module _ (title : List ℕ) (table : ℕ → Table) (q : Put) (fits : PutFits title table q) (ours : (tree : ℕ) → Has table_names (table tree).name) (params : Row) (old new : State) where
  pub insert_spares : (count : ℕ) → Executes q.text params old new (Ok count) → SparesWith ((title, table) ∷ []) old.now new.now
  insert_spares count h there =
      let tree = there.0.0 in
      let has = there.0.1 in
      let it = put_compiles old.now.schema title has.0 table tree has.1 q fits in
      let ran = runs_as q.text params old new old.now.schema refl (Insert has.0 (Values q.terms (length q.terms))) it.is it.plain count h in
      let did = insert_does old.step_limit (mode_of old) params old.now (statement_of q.text (understood old.now.schema q.text)) has.0 (table tree) has.1.there ran.tally new.now q.terms (length q.terms) (fits.bare tree) (fits.plain tree params) ran.changed in
      others_still old.now new.now did.0 (λ t is. all_has (λ (u : Table). u.tree ≢ (table tree).tree → new.now.trees u.tree ≡ old.now.trees u.tree) old.now.schema.tables t did.1.applied.tables is.there (others_apart old.now.schema t title (table tree) is has (ours tree)))

-- ---- the names of a project's tables

pub ours_project : Has table_names (codes "project")
ours_project = inl refl

pub ours_workunit : Has table_names (codes "workunit")
ours_workunit = inr (inl refl)

pub ours_result : Has table_names (codes "result")
ours_result = inr (inr (inl refl))

pub ours_grant : Has table_names (codes "credit_grant")
ours_grant = inr (inr (inr (inl refl)))

pub ours_host : Has table_names (codes "host")
ours_host = inr (inr (inr (inr (inl refl))))

pub ours_archived : Has table_names (codes "archived")
ours_archived = inr (inr (inr (inr (inr (inl refl)))))

pub ours_import : Has table_names (codes "import")
ours_import = inr (inr (inr (inr (inr (inr (inl refl))))))

pub ours_host_class : Has table_names (codes "host_class")
ours_host_class = inr (inr (inr (inr (inr (inr (inr (inl refl)))))))

pub ours_workunit_class : Has table_names (codes "workunit_class")
ours_workunit_class = inr (inr (inr (inr (inr (inr (inr (inr (inl refl))))))))

pub ours_queue : Has table_names (codes "queue")
ours_queue = inr (inr (inr (inr (inr (inr (inr (inr (inr (inl refl)))))))))
