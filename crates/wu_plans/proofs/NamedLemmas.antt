-- Touched workunits that are kept under their names, in the order of these.
use Rattle.std.proofs.Common.{◌≡◌, ◌≢◌, ℕ, ◌==◌, Bool, true, List, [], ◌∷◌, Option, Some, refl, sym, ap, subst, ◌∙◌, inl, inr, bytes_eq, string_bytes, if◌then◌else◌, arith, String, Global}
use Rattle.std.proofs.lemmas.Bool.{cases_Bool, eqb-true, eq-eqb}
use Rattle.std.proofs.lemmas.List.Elements.{All-cons, All-nil}
use Rattle.std.proofs.lemmas.List.Kept.{AllPairs-cons}
use Rattle.std.proofs.lemmas.Map.Lookups.{exact_bytes}
use Rattle.std.proofs.lemmas.Map.Text.{btree_map_updates_text, is_eq-slice_cmp}
use Rattle.std.proofs.lemmas.Slice.Eq.{bytes_eq-Decides}
use Rattle.std.specs.BTreeMap.{BTreeMap, insert_entry, is_at, UpdatesBy}
use Rattle.std.specs.Cmp.Lexicographic.{slice_cmp}
use Rattle.std.specs.List.{All, AllByRecursion}
use Rattle.std.specs.List.Sorted.{IsStrictlySortedBy}
use Rattle.std.specs.Map.{keys_of, lookup, set_value, values_of}
use Rattle.std.proofs.Common.{Ordering, Less, Equal, Greater}
use Rattle.std.specs.Ordering.{is_eq, nat_cmp}
use Rattle.std.specs.String.{string_cmp}
use Rattle.wu_core.specs.declared.workunit.Workunit.{Workunit}
use Rattle.wu_machine.specs.FileRows.{Rule, left_by}
use Rattle.wu_plans.specs.declared.touched.Touch.{Touch}
use Rattle.wu_plans.specs.Touched.{AreDistinct, HasAlso, IsUnderItsName, LeavesBy, touched_named, untouched}
use Rattle.wu_plans.proofs.TouchedLemmas.{name_back}

abbrev Entry : Type 0
Entry = String Global × Touch

-- what is found by its name is what is found under it
pub named_is : (es : List Entry) → AllByRecursion IsUnderItsName es → (name : List ℕ) → touched_named (values_of es) name ≡ lookup (is_at (λ k. slice_cmp nat_cmp name (string_bytes k))) es
named_is [] under name = refl
named_is (e ∷ es) under name =
    let same : bytes_eq e.1.now.name name ≡ is_eq (slice_cmp nat_cmp name (string_bytes e.0)) =
    name_back e.1.now.name name ∙ ap (λ bytes. bytes_eq name bytes) (sym under.0) ∙ sym (is_eq-slice_cmp name (string_bytes e.0)) in
    elim (cases_Bool (is_eq (slice_cmp nat_cmp name (string_bytes e.0)))) [
      | inl is ↦ rw (same ∙ is, is) refl
      | inr not ↦ rw (same ∙ not, not) (named_is es under.1 name)
    ]

-- with one more under its name
pub under_inserted : (es : List Entry) (k : String Global) (t : Touch) → string_bytes k ≡ t.now.name → AllByRecursion IsUnderItsName es → AllByRecursion IsUnderItsName (insert_entry string_cmp es k t)
under_inserted [] k t is under = (is, tt)
under_inserted (e ∷ es) k t is under = go (string_cmp k e.0) refl (under_inserted es k t is under.1)
  where
    go : (o : Ordering) → string_cmp k e.0 ≡ o → AllByRecursion IsUnderItsName (insert_entry string_cmp es k t) → AllByRecursion IsUnderItsName (insert_entry string_cmp (e ∷ es) k t)
    go Less o rest = rw o (is, under)
    go Equal o rest = rw o (sym (exact_bytes (string_bytes k) (string_bytes e.0) o) ∙ is, under.1)
    go Greater o rest = rw o (under.0, rest)

-- with another of the same name in its place
pub under_set : (test : String Global → Bool) (es : List Entry) (old t : Touch) → lookup test es ≡ Some old → t.now.name ≡ old.now.name → AllByRecursion IsUnderItsName es → AllByRecursion IsUnderItsName (set_value test es t)
under_set test [] old t found same under = absurd cc
under_set test (e ∷ es) old t found same under = elim (cases_Bool (test e.0)) [
  | inl is ↦ let it : Some e.1 ≡ Some old = rw is at found in let here : e.1 ≡ old = cc in rw is (under.0 ∙ ap (λ (v : Touch). v.now.name) here ∙ sym same, under.1)
  | inr not ↦ rw not (under.0, under_set test es old t (rw not at found) same under.1)
]

apart_from : (k : String Global) (es : List Entry) → AllByRecursion (λ y. string_cmp k y ≡ Less) (keys_of es) → AllByRecursion IsUnderItsName es → All (λ (t : Touch). string_bytes k ≢ t.now.name) (values_of es)
apart_from k [] low under = All-nil (λ (t : Touch). string_bytes k ≢ t.now.name)
apart_from k (e ∷ es) low under = All-cons (λ (t : Touch). string_bytes k ≢ t.now.name) e.1 (values_of es) (λ same.
    let bytes : string_bytes k ≡ string_bytes e.0 = same ∙ sym under.0 in
    let equal : bytes_eq (string_bytes k) (string_bytes e.0) ≡ true = (bytes_eq-Decides (string_bytes k) (string_bytes e.0)).1 bytes in
    let is : is_eq (string_cmp k e.0) ≡ true = is_eq-slice_cmp (string_bytes k) (string_bytes e.0) ∙ equal in
    absurd (let no : is_eq Less ≡ true = subst (λ o. is_eq o ≡ true) low.0 is in cc)) (apart_from k es low.1 under.1)

-- no two have one name
pub distinct_names : (es : List Entry) → IsStrictlySortedBy string_cmp (keys_of es) → AllByRecursion IsUnderItsName es → AreDistinct (values_of es)
unfolding IsStrictlySortedBy
distinct_names [] up under = λ i j d low within. absurd (omega (arith, within))
distinct_names (e ∷ es) up under =
    AllPairs-cons (λ (one other : Touch). one.now.name ≢ other.now.name) e.1 (values_of es)
    (subst (λ (name : List ℕ). All (λ (t : Touch). name ≢ t.now.name) (values_of es)) under.0 (apart_from e.0 es up.0 under.1)) (distinct_names es up.1 under.1)

-- after an insertion
pub also_inserted : (m n : BTreeMap (String Global) Touch) (k : String Global) (w : Workunit) → string_bytes k ≡ w.name → AllByRecursion IsUnderItsName m.entries → AllByRecursion IsUnderItsName n.entries
    → UpdatesBy string_cmp (string_cmp k) m n (Some (untouched w)) → HasAlso w (values_of m.entries) (values_of n.entries)
also_inserted m n k w is old new updates name =
    named_is n.entries new name ∙ btree_map_updates_text (string_bytes k) m n (Some (untouched w)) updates name
    ∙ rw is (ap (λ (found : Option Touch). if bytes_eq w.name name then Some (untouched w) else found) (sym (named_is m.entries old name)))

-- a workunit as a row with this verdict leaves it
pub left_is : {Row : Type 0} → (rule : Rule Row) (row : Row) (verdict : ℕ) (old new : Workunit) → (verdict ≡ 0 → new ≡ rule.image row old) → (verdict ≢ 0 → new ≡ old) → new ≡ left_by rule row verdict old
left_is rule row verdict old new applied skipped = elim (cases_Bool (verdict == 0)) [
  | inl is ↦ rw is (applied (eqb-true verdict 0 is))
  | inr not ↦ rw not (skipped (λ same. absurd (let is = eq-eqb verdict 0 same in cc)))
]

-- after a row is applied to its workunit, or skipped
pub left_named : {Row : Type 0} → (rule : Rule Row) (row : Row) (verdict : ℕ) (m n : BTreeMap (String Global) Touch) (old : Touch) (now : Workunit)
    → AllByRecursion IsUnderItsName m.entries → AllByRecursion IsUnderItsName n.entries → touched_named (values_of m.entries) (rule.workunit row) ≡ Some old → now ≡ left_by rule row verdict old.now
    → UpdatesBy string_cmp (λ k. slice_cmp nat_cmp (rule.workunit row) (string_bytes k)) m n (Some (record old { now = now })) → LeavesBy rule row verdict (values_of m.entries) (values_of n.entries)
left_named rule row verdict m n old now under after found left updates name =
    let seen = named_is n.entries after name ∙ btree_map_updates_text (rule.workunit row) m n (Some (record old { now = now })) updates name in
    elim (cases_Bool (bytes_eq (rule.workunit row) name)) [
      | inl is ↦
          let here : touched_named (values_of m.entries) name ≡ Some old = subst (λ (bytes : List ℕ). touched_named (values_of m.entries) bytes ≡ Some old) ((bytes_eq-Decides (rule.workunit row) name).0 is) found in
          rw (is, here) (rw is at seen ∙ ap (λ (w : Workunit). Some (record old { now = w })) left)
      | inr not ↦ rw not (rw not at seen ∙ sym (named_is m.entries under name))
    ]
