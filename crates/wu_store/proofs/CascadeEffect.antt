-- What the delete of a workunit takes out of a table that refers to it, over any schema.
use Rattle.wu_schema.proofs.Words.{AllByRecursion, Binary, Delete, Enforced, Has, HasNamed, Int, IsSound, List, Null, Row, Schema, Table, Trees, Value, Work, [], agree, all_has, and_from, and_parts, ap, binary, codes, column, deed_for, equal, false, false_from_ne_true, filter, first_key, inl, is_eq, not, pairs, parent_key, passes, refl, rowid, some_has, subst, sym, test_has, tied_itself, true, value_cmp_total, works, workunit_at, ℕ, ℤ, ◌&&◌, ◌||◌, ◌∙◌, ◌∷◌, ◌≡◌}
use Rattle.std.proofs.Math.Bool.{or-true, or-false}
use Rattle.sqlite_sql.specs.Ops.{is_null}
use Rattle.sqlite_schema.specs.declared.schema.Constraint.TheVariants.{ForeignKey}
use Rattle.sqlite_schema.specs.Rules.{has_parent}
use Rattle.sqlite_rules.proofs.KeyLemmas.{agree_chain, agree_whole}
use Rattle.wu_store.proofs.EqualLemmas.{int_equal}
use Rattle.wu_schema.proofs.RowLemmas.{filter_same, one_test}
use Rattle.wu_schema.proofs.QuietLemmas.{same_some, has_work, IsAside}
use Rattle.wu_store.proofs.FallLemmas.{bereft}
use Rattle.wu_schema.proofs.StandsLemmas.{IsChild, refers_by, refers_key, one_reference}

-- the one action on a child
abbrev pub fall : Table → ℕ → List Row → Work
fall child c taken = record { depth = 0; child = child; ref = refers_by c; places = 0 ∷ []; order = record { digits = 0 }; deed = Delete; moves = pairs taken [] }

-- each action is on another table, or is that one
pub which : (schema : Schema) (work : ℕ) → HasNamed schema (codes "workunit") (workunit_at work) → (child : Table) (c : ℕ) → IsChild schema child c → (taken : List Row) (w : Work)
    → Has (works schema Enforced 0 work taken []) w → IsAside schema Enforced (λ w. w ≡ fall child c taken) child.tree w
which schema work has child c is taken w h =
    let on = has_work schema Enforced 0 work taken [] w h in
    record {
      child = on.child;
      ref = on.ref;
      aside = λ same.
          let own : w.child ≡ child = is.owns w.child on.child same in
          let one : w.ref ≡ refers_by c = one_reference schema work has child c is w.child w.ref own on.ref in
          let key : on.key ≡ (work, 0 ∷ [], record { digits = 0 }) = same_some (sym on.found ∙ ap (parent_key schema.tables) one ∙ refers_key schema work has c) in
          let deed : w.deed ≡ Delete = same_some (sym on.due ∙ ap (deed_for Enforced true) one) in
          on.made ∙ (cc);
    }

-- where each row has its parent, none refers to a number that no workunit has
pub none_refers : (schema : Schema) (work : ℕ) → HasNamed schema (codes "workunit") (workunit_at work) → (child : Table) (c : ℕ) → IsChild schema child c → (db : Trees) → IsSound schema db
    → (n : ℤ) → ((p : Row) → Has (db work) p → equal Binary (rowid p) (Int n) ≡ false) → (r : Row) → Has (db child.tree) r → equal Binary (column r c) (Int n) ≡ false
unfolding first_key
none_refers schema work has child c is db sound n off r there = false_from_ne_true _ (λ on.
    let to : agree (record { digits = 0 }) (c ∷ []) r (0 ∷ []) (Int n ∷ []) ≡ true = and_from _ _ on refl in
    let rules = all_has (λ (t : Table). AllByRecursion (λ row. passes ForeignKey schema db t row ≡ true) (db t.tree)) schema.tables child (sound.obeys.rules ForeignKey) is.listed in
    let fits = all_has (λ row. passes ForeignKey schema db child row ≡ true) (db child.tree) r rules there in
    let one = test_has (has_parent schema.tables db r) child.references (refers_by c) fits (subst (λ refs. Has refs (refers_by c)) (sym is.refers) (inl refl)) in
    let held = rw (agree_whole (record { digits = 0 }) (c ∷ []) (0 ∷ []) r (Int n ∷ []) to, refers_key schema work has c) at one in
    let parent = some_has (λ p. agree (record { digits = 0 }) (0 ∷ []) p (c ∷ []) r) (db work) held in
    let both = and_parts _ _ (agree_chain (record { digits = 0 }) (0 ∷ []) (c ∷ []) (0 ∷ []) parent.0 r (Int n ∷ []) parent.2 to) in
    let e = sym both.0 ∙ off parent.0 parent.1 in cc)

never_null : (v : Value) → equal Binary v Null ≡ false
unfolding binary
never_null v = rw (or-true (is_null v))

-- the rows of a child that refer to that number go
abbrev pub without_number : ℤ → ℕ → List Row → List Row
without_number n c = filter (λ r. not (equal Binary (column r c) (Int n)))

pub falls_by_number : (u : Table) (c : ℕ) (n : ℤ) (x : Row) (rows : List Row) → rowid x ≡ Int n → bereft (fall u c (x ∷ [])) rows ≡ without_number n c rows
unfolding first_key
falls_by_number u c n x rows is = filter_same _ _ rows (λ r has. ap not (child r))
  where
    first : equal Binary (column x 0) (column x 0) ≡ true
    first = ap (λ v. equal Binary v v) is ∙ int_equal n n ∙ ap is_eq (tied_itself value_cmp_total (Int n))

    child : (r : Row) → ((((equal Binary (column x 0) (column x 0) && true) && not (equal Binary (column x 0) Null && true)) && (equal Binary (column r c) (column x 0) && true)) || false) ≡ equal Binary (column r c) (Int n)
    child r = rw (first, never_null (column x 0)) (or-false _ ∙ one_test _ ∙ ap (λ v. equal Binary (column r c) v) is)
