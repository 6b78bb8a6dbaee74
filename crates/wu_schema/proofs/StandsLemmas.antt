-- What each change keeps of the world that a database stands for.
use Rattle.wu_schema.proofs.Words.{Bool, Database, Enforced, Has, HasNamed, HoldsAll, IsCalm, IsDatabase, IsPermutation, IsPermutation-cons, IsPermutation-map, IsPermutation-trans, IsShaped, IsShaped-filter, List, ListsAll, OwnsTree, ParentKey, PutsOne, Reference, RefersOnlyTo, Row, Schema, Some, Table, Trees, Workunit, [], all_has, ap, ap₂, arith, bytes_eq, bytes_eq-Decides, codes, cond, drop, false, false_from_ne_true, filter, filter-map, find, inl, inr, instances_of, is_taken, list_any, map, not, parent_key, pipeline, position_from, put_row, refl, same_name, slice_get, some_from, subst, suc, sym, true, workunit_at, ℕ, ◌++◌, ◌+◌, ◌-◌, ◌∙◌, ◌∷◌, ◌≡◌, ◌≢◌, ◌≤◌}
use Rattle.std.proofs.lemmas.List.Sorted.{IsPermutation-to_front}
use Rattle.sqlite_trees.specs.declared.store.Shape.TheVariants as shape
use Rattle.sqlite_rules.proofs.ListLemmas.{has_got}
use Rattle.sqlite_catalog.proofs.ReadLemmas.{lists_once}
use Rattle.sqlite_catalog.specs.Listing.{Lists}
use Rattle.sqlite_trees.specs.Objects.{catalog_tree}
use Rattle.wu_schema.specs.Tables.{result_refers}
use Rattle.wu_schema.specs.Calm.{IsSteady}
use Rattle.wu_schema.proofs.CalmLemmas.{calm_child}
use Rattle.wu_schema.proofs.QuietLemmas.{same_some}
use Rattle.wu_schema.proofs.PutLemmas.{put_beside}
use Rattle.wu_schema.proofs.RowLemmas.{childless, filter_same}

pub is_there : (schema : Schema) (name : List ℕ) (t : Table) → HasNamed schema name t → Has schema.tables t
is_there schema name t has = has_got schema.tables has.0 t has.1.there

-- ---- children refer to the workunits alone

placed_from : {X : Type 0} (p : X → Bool) (from at : ℕ) (xs : List X) → position_from p from xs ≡ Some at → from ≤ at
placed_from p from at [] h = absurd (cc)
placed_from p from at (x ∷ xs) h = go (p x) (λ e. placed_from p (from + 1) at xs e) h
  where
    go : (b : Bool) → (position_from p (from + 1) xs ≡ Some at → from + 1 ≤ at) → cond b (Some from) (position_from p (from + 1) xs) ≡ Some at → from ≤ at
    go true again e = let same : from ≡ at = same_some e in omega (arith, same)
    go false again e = omega (arith, again e)

pub named_found : {X : Type 0} (p : X → Bool) (from at : ℕ) (xs : List X) (x : X) → position_from p from xs ≡ Some at → slice_get xs (at - from) ≡ Some x → from ≤ at → find p xs ≡ Some x
named_found p from at [] x is there low = absurd (cc)
named_found p from at (y ∷ xs) x is there low = go (p y) (λ h k l. named_found p (from + 1) at xs x h k l) is
  where
    first : slice_get (y ∷ xs) (from - from) ≡ Some x → Some y ≡ Some x
    first h = let none : from - from ≡ 0 = omega arith in subst (λ n. slice_get (y ∷ xs) n ≡ Some x) none h

    later : from + 1 ≤ at → slice_get xs (at - (from + 1)) ≡ Some x
    later high = let one : at - from ≡ suc (at - (from + 1)) = omega (arith, high) in subst (λ n. slice_get (y ∷ xs) n ≡ Some x) one there

    go : (b : Bool) → (position_from p (from + 1) xs ≡ Some at → slice_get xs (at - (from + 1)) ≡ Some x → from + 1 ≤ at → find p xs ≡ Some x) → cond b (Some from) (position_from p (from + 1) xs) ≡ Some at → cond b (Some y) (find p xs) ≡ Some x
    go true again h = let e : from ≡ at = same_some h in first (subst (λ n. slice_get (y ∷ xs) (n - from) ≡ Some x) (sym e) there)
    go false again h = let high = placed_from p (from + 1) at xs h in again h (later high) high

-- the reference by this column to the number of a workunit, whose row goes with the workunit
abbrev pub refers_by : ℕ → Reference
refers_by c = record result_refers { columns = c ∷ [] }

-- a table that stands in the schema in a tree of its own, and refers to workunits by this column, and to nothing else
pub record IsChild (schema : Schema) (table : Table) (c : ℕ) : Type 0 where
  pub listed : Has schema.tables table
  pub owns : OwnsTree schema table
  pub refers : table.references ≡ refers_by c ∷ []

-- of each child that the store keeps in order these rows are left
abbrev pub ChildrenAre : Database → Database → (ℕ → List Row → List Row) → Type 0
ChildrenAre old new left = (u : Table) (c : ℕ) → IsChild old.schema u c → IsShaped shape.Table (old.trees u.tree) → new.trees u.tree ≡ left c (old.trees u.tree)

module _ (schema : Schema) (work : ℕ) (has : HasNamed schema (codes "workunit") (workunit_at work)) where
  -- the name finds the workunits first
  pub work_found : find (λ u. same_name u.name (codes "workunit")) schema.tables ≡ Some (workunit_at work)
  work_found =
      let whole : has.0 - 0 ≡ has.0 = omega arith in
      named_found (λ u. same_name u.name (codes "workunit")) 0 has.0 schema.tables (workunit_at work) has.1.named (subst (λ n. slice_get schema.tables n ≡ Some (workunit_at work)) (sym whole) has.1.there) (omega arith)

  pub refers_key : (c : ℕ) → parent_key schema.tables (refers_by c) ≡ Some (work, 0 ∷ [], record { digits = 0 })
  unfolding pipeline
  refers_key c = rw work_found

  module _ (child : Table) (c : ℕ) (is : IsChild schema child c) where
    -- it has one reference
    pub one_reference : (t : Table) (ref : Reference) → t ≡ child → Has t.references ref → ref ≡ refers_by c
    one_reference t ref same refers = elim (subst (λ refs. Has refs ref) (ap (λ (u : Table). u.references) same ∙ is.refers) refers) [ inl one ↦ one | inr none ↦ absurd none ]

    pub only_work : RefersOnlyTo schema Enforced child.tree work
    only_work t ref key listed same refers found =
        ap (λ (k : ParentKey). k.0) (same_some (sym found ∙ ap (parent_key schema.tables) (one_reference t ref (is.owns t listed same) refers) ∙ refers_key c))

    -- it is left alone by writes of other tables, and by those that set rows of the workunits
    pub child_calm : (source : ℕ) → work ≢ source → IsCalm schema Enforced child source
    child_calm source other = calm_child schema child work source (childless schema (workunit_at work) has.2 refl) only_work other

    pub child_steady : IsSteady schema Enforced child
    child_steady = record {
      parent = work;
      childless = childless schema (workunit_at work) has.2 refl;
      only = only_work;
      stays = λ t ref listed same refers. ap (λ (r : Reference). r.on_update) (one_reference t ref (is.owns t listed same) refers);
    }

    pub child_apart : child.tree ≢ work
    child_apart same = absurd (let bare = sym (ap (λ (u : Table). u.references) (has.2 child is.listed same)) ∙ is.refers in cc)

-- each of our tables in another tree keeps its rows
abbrev pub KeepsBut : Database → Database → ℕ → Type 0
KeepsBut old new tree = (t : Table) → Has old.schema.tables t → t.tree ≢ tree → new.trees t.tree ≡ old.trees t.tree

pub but_one : (old new : Database) (tree : ℕ) (row : Row) → PutsOne old new tree row → KeepsBut old new tree
but_one old new tree row put t has other = all_has (λ (u : Table). u.tree ≢ tree → new.trees u.tree ≡ old.trees u.tree) old.schema.tables t put.tables has other

pub no_instances : (w : Workunit) → w.instances ≡ [] → instances_of w ≡ []
no_instances w none = rw none refl

-- a new row behind the others, its cells behind the others' cells
pub cells_put : (cells : List Row) (cell new : Row) (rows : List Row) → drop 1 new ≡ cell → is_taken rows new ≡ false → IsPermutation cells (map (drop 1) rows) → IsPermutation (cells ++ cell ∷ []) (map (drop 1) (put_row new rows))
cells_put cells cell new rows is free same =
    IsPermutation-trans _ _ _ (IsPermutation-to_front cells cell)
    (IsPermutation-trans _ _ _ (IsPermutation-cons cell cells (map (drop 1) rows) same)
    (subst (λ c. IsPermutation (c ∷ map (drop 1) rows) (map (drop 1) (put_row new rows))) is (IsPermutation-map (drop 1) (new ∷ rows) (put_row new rows) (put_beside new rows free))))

pub bytes_back : (a b : List ℕ) → bytes_eq a b ≡ true → bytes_eq b a ≡ true
bytes_back a b h = (bytes_eq-Decides b a).1 (sym ((bytes_eq-Decides a b).0 h))

pub none_has : {X : Type 0} (p : X → Bool) (xs : List X) (x : X) → list_any p xs ≡ false → Has xs x → p x ≡ false
none_has p xs x none has = false_from_ne_true _ (λ h. let e = sym (some_from p xs x has h) ∙ none in cc)

pub lists_still : {rows new stored : List Row} → new ≡ rows → ListsAll rows stored → ListsAll new stored
lists_still same l = record { shaped = subst (IsShaped shape.Table) (sym same) l.shaped; same = same ∙ l.same }

-- of rows that list these, those that a test leaves list what it leaves
pub lists_left : {X : Type 0} (stored : X → Row) (gone : Row → Bool) (leaves : X → Bool) (rows : List Row) (xs : List X) → ((x : X) → gone (stored x) ≡ leaves x) → ListsAll rows (map stored xs)
    → ListsAll (filter (λ r. not (gone r)) rows) (map stored (filter (λ x. not (leaves x)) xs))
lists_left stored gone leaves rows xs same l = record {
  shaped = IsShaped-filter shape.Table _ rows l.shaped;
  same = ap (filter (λ r. not (gone r))) l.same ∙ filter-map (λ r. not (gone r)) stored xs ∙ ap (map stored) (filter_same _ _ xs (λ x has. ap not (same x)));
}

pub holds_still : {rows new cells : List Row} → new ≡ rows → HoldsAll rows cells → HoldsAll new cells
holds_still {rows} {new} {cells} same l = subst (λ rs. HoldsAll rs cells) (sym same) l

-- two sound databases over the same trees are one
pub same_database : (old new : Database) → IsDatabase old → IsDatabase new → new.trees ≡ old.trees → new ≡ old
same_database old new p q same =
    let listed : Lists (old.trees catalog_tree) new.schema = subst (λ (t : Trees). Lists (t catalog_tree) new.schema) same q.lists in
    ap₂ (λ (s : Schema) (t : Trees). let d : Database = record { schema = s; trees = t } in d) (lists_once (old.trees catalog_tree) new.schema old.schema listed p.lists) same
