-- Which rows conflict with a new host: those with its name.
use Rattle.wu_schema.proofs.Words.{Binary, Bool, Database, Has, Index, IsDatabase, IsGuarded, List, Ok, Row, Schema, Some, [], agree, all_has, and_from, and_parts, ap, automatic, bytes_eq, cases_Bool, column, eq-eqb, eqb-true, equal, false, find, first_key, guards, host_at, inl, inr, is_key_at, key_at, length, refl, some_from, some_has, subst, sym, true, ℕ, ◌&&◌, ◌==◌, ◌||◌, ◌∙◌, ◌∷◌, ◌≡◌}
use Rattle.sqlite_rules.specs.Keys.{conflicts, shares}
use Rattle.sqlite_rules.proofs.ListLemmas.{has_found}
use Rattle.sqlite_resolve.specs.Given.{are_among}

-- a unique index on the name, and each such index compares the bytes
pub record HasNameKey (schema : Schema) (tree : ℕ) : Type 0 where
  pub index : Index
  pub listed : Has schema.indexes index
  pub guarded : guards index (host_at tree) ≡ true
  pub columns : index.columns ≡ 1 ∷ []
  pub binary : (i : Index) → Has schema.indexes i → guards i (host_at tree) ≡ true → i.columns ≡ 1 ∷ [] → (first_key i.order).collation ≡ Binary

aimed : (cs : List ℕ) → bytes_eq (1 ∷ []) cs ≡ true → cs ≡ 1 ∷ []
aimed [] h = absurd (cc)
aimed (c ∷ []) h = ap (λ n. n ∷ []) (sym (eqb-true 1 c (and_parts _ _ h).0))
aimed (c ∷ d ∷ more) h = absurd (let e : bytes_eq [] (d ∷ more) ≡ true = (and_parts (1 == c) (bytes_eq [] (d ∷ more)) h).1 in cc)

found_some : {X : Type 0} (p : X → Bool) (xs : List X) (x : X) → Has xs x → p x ≡ true → (y : X) × (find p xs ≡ Some y)
found_some p [] x h is = absurd h
found_some p (r ∷ xs) x h is = elim (cases_Bool (p r)) [
  | inl here ↦ (r, rw here refl)
  | inr other ↦ elim h [ inl same ↦ absurd (let e = sym (ap p same) ∙ is in let f = sym e ∙ other in cc) | inr more ↦ let y = found_some p xs x more is in (y.0, rw other y.1) ]
]

one_place : (cs : List ℕ) → (length cs == 1) ≡ true → are_among cs (1 ∷ []) ≡ true → cs ≡ 1 ∷ []
one_place [] h k = absurd (cc)
one_place (c ∷ []) h k = ap (λ n. n ∷ []) (eqb-true c 1 (one_of (c == 1) (and_parts _ _ k).0))
  where
    one_of : (b : Bool) → (b || false) ≡ true → b ≡ true
    one_of true e = refl
    one_of false e = e
one_place (c ∷ d ∷ more) h k = absurd (let e = eqb-true (length (c ∷ d ∷ more)) 1 h in cc)

key_one : (tree : ℕ) (u : Bool) (t : ℕ) (cs : List ℕ) → (u && (t == tree)) ≡ true → cs ≡ 1 ∷ [] → (u && (t == tree) && (length cs == 1) && are_among (1 ∷ []) cs && are_among cs (1 ∷ [])) ≡ true
key_one tree u t cs g is = let p = and_parts u (t == tree) g in let a : u ≡ true = p.0 in let b : (t == tree) ≡ true = p.1 in rw (is, a, b) refl

key_parts : (a b c d e : Bool) → (a && b && c && d && e) ≡ true → (c ≡ true) × (d ≡ true) × (e ≡ true)
key_parts true true true true true h = (refl, refl, refl)
key_parts true true true true false h = absurd (cc)
key_parts true true true false e h = absurd (cc)
key_parts true true false d e h = absurd (cc)
key_parts true false c d e h = absurd (cc)
key_parts false b c d e h = absurd (cc)

pub names_key : (schema : Schema) (tree : ℕ) → HasNameKey schema tree → key_at schema (host_at tree) (1 ∷ []) ≡ Ok (1 ∷ [])
unfolding key_at is_key_at
names_key schema tree k =
    let some = found_some (λ i. i.is_unique && (i.table == tree) && (length i.columns == 1) && are_among (1 ∷ []) i.columns && are_among i.columns (1 ∷ [])) schema.indexes k.index k.listed (key_one tree k.index.is_unique k.index.table k.index.columns k.guarded k.columns) in
    let is = (has_found _ schema.indexes some.0 some.1).1 in
    let i = some.0 in
    let parts = key_parts i.is_unique (i.table == tree) (length i.columns == 1) (are_among (1 ∷ []) i.columns) (are_among i.columns (1 ∷ [])) is in
    rw (some.1, one_place some.0.columns parts.0 parts.2) refl

module _ (schema : Schema) (tree : ℕ) (k : HasNameKey schema tree) (new r : Row) where
  pub conflict_named : conflicts (Some (1 ∷ [])) schema.indexes (host_at tree) new r ≡ true → equal Binary (column r 1) (column new 1) ≡ true
  conflict_named h =
      let some = some_has (shares (Some (1 ∷ [])) (host_at tree) new r) schema.indexes h in
      let parts = and_parts _ _ some.2 in
      let more = and_parts _ _ parts.0 in
      let at = aimed some.0.columns more.1 in
      let same = subst (λ cs. agree some.0.order cs r cs new ≡ true) at parts.1 in
      subst (λ c. equal c (column r 1) (column new 1) ≡ true) (k.binary some.0 some.1 more.0 at) ((and_parts _ _ same).0)

  pub named_conflict : equal Binary (column r 1) (column new 1) ≡ true → conflicts (Some (1 ∷ [])) schema.indexes (host_at tree) new r ≡ true
  named_conflict h =
      let i = k.index in
      let same : agree i.order (1 ∷ []) r (1 ∷ []) new ≡ true = and_from _ _ (subst (λ c. equal c (column r 1) (column new 1) ≡ true) (sym (k.binary i k.listed k.guarded k.columns)) h) refl in
      some_from (shares (Some (1 ∷ [])) (host_at tree) new r) schema.indexes i k.listed
      (and_from _ _ (and_from _ _ k.guarded (ap (bytes_eq (1 ∷ [])) k.columns)) (subst (λ cs. agree i.order cs r cs new ≡ true) (sym k.columns) same))

-- a host table that compares names by their bytes has such a key: its own unique index
pub host_key : (db : Database) (tree : ℕ) → IsDatabase db → Has db.schema.tables (host_at tree)
    → ((i : Index) → Has db.schema.indexes i → guards i (host_at tree) ≡ true → i.columns ≡ 1 ∷ [] → (first_key i.order).collation ≡ Binary) → HasNameKey db.schema tree
host_key db tree sound stands by_bytes =
    let it = all_has (IsGuarded db.schema.indexes) db.schema.tables (host_at tree) sound.lists.guarded stands 0 (1 ∷ []) refl in
    record { index = automatic (host_at tree) 0 (1 ∷ []) it.0; listed = it.1; guarded = eq-eqb tree tree refl; columns = refl; binary = by_bytes }
