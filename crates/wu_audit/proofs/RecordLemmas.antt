-- Workunits, grants and archived rows agree exactly where each row does, as long as keys are used once.
use Rattle.std.proofs.Common.{◌≡◌, ◌≢◌, ◌∙◌, ◌==◌, ◌&&◌, sym, ap, ℕ, ◌<◌, ◌≤◌, Bool, true, false, length, get_or, arith, refl, inl, inr, subst}
use Rattle.std.specs.List.{All, filter}
use Rattle.std.proofs.lemmas.Bool.{and_from, and_parts, cases_Bool, cases_order, eq-eqb, eqb-true, false≢true}
use Rattle.std.proofs.lemmas.List.{get_or_default}
use Rattle.wu_core.specs.declared.workunit.Archived.{Archived}
use Rattle.wu_core.specs.declared.workunit.Grant.{Grant}
use Rattle.wu_core.specs.declared.workunit.Workunit.{Workunit}
use Rattle.wu_core.specs.World.{World}
use Rattle.wu_rules.specs.Consistent.{is_done, is_valid_at, one_if}
use Rattle.wu_machine.specs.Sound.{IsRecorded, grants_for}
use Rattle.wu_audit.specs.Records.{AreBacked, HasKeys, IsGranted, IsArchivedIfDone}
use Rattle.wu_audit.proofs.CountLemmas.{any_from_count, count_none, count_once, count_some, false_unless, none_from_count, true_unless}

module _ (world : World) (keys : HasKeys world) where
  -- whether a grant is for the instance of this number
  abbrev is_for : Workunit → ℕ → Grant → Bool
  is_for w n grant = grant.workunit == w.number && grant.n == n

  granted_most : (w : Workunit) (n : ℕ) → length (grants_for world w n) ≤ 1
  granted_most w n = count_once (is_for w n) world.grants (λ i j d less lt one other.
      let a = and_parts ((get_or world.grants i d).workunit == w.number) ((get_or world.grants i d).n == n) one in
      let b = and_parts ((get_or world.grants j d).workunit == w.number) ((get_or world.grants j d).n == n) other in
      keys.granted_once i j d less lt (eqb-true _ _ a.0 ∙ sym (eqb-true _ _ b.0)) (eqb-true _ _ a.1 ∙ sym (eqb-true _ _ b.1)))

  archived_most : (w : Workunit) → length (filter (λ row. row.number == w.number) world.archived) ≤ 1
  archived_most w = count_once (λ row. row.number == w.number) world.archived (λ i j d less lt one other.
      keys.archived_once i j d less lt (eqb-true _ _ one ∙ sym (eqb-true _ _ other)))

  module _ (backed : AreBacked world) (k : ℕ) (d : Workunit) (within : k < length world.workunits) where
    abbrev w : Workunit
    w = get_or world.workunits k d

    granted_is : (n : ℕ) → length (grants_for world w n) ≡ one_if (is_valid_at w.instances n)
    granted_is n = elim (cases_Bool (is_valid_at w.instances n)) as (λ _. length (grants_for world w n) ≡ one_if (is_valid_at w.instances n)) [
      | inl valid ↦
          let has = backed.granted k d within n valid in
          let here : is_for w n (get_or world.grants has.0 has.1) ≡ true = subst (λ g. is_for w n g ≡ true) (sym has.3)
          (and_from (has.1.workunit == w.number) (has.1.n == n) (eq-eqb _ _ has.4.0) (eq-eqb _ _ has.4.1)) in
          let some : 1 ≤ length (grants_for world w n) = count_some (is_for w n) world.grants has.0 has.1 has.2 here in
          let most : length (grants_for world w n) ≤ 1 = granted_most w n in
          let one : one_if (is_valid_at w.instances n) ≡ 1 = ap one_if valid in
          omega (arith, some, most, one)
      | inr invalid ↦
          let none : length (grants_for world w n) ≡ 0 = count_none (is_for w n) world.grants (λ j g lt.
          false_unless (is_for w n (get_or world.grants j g)) (λ e.
          let parts = and_parts ((get_or world.grants j g).workunit == w.number) ((get_or world.grants j g).n == n) e in
          false≢true (sym invalid ∙ ap (is_valid_at w.instances) (sym (eqb-true _ _ parts.1)) ∙ (backed.grants j g lt k d within (eqb-true _ _ parts.0)).valid))) in
          let zero : one_if (is_valid_at w.instances n) ≡ 0 = ap one_if invalid in
          omega (arith, none, zero)
    ]

    archived_is : length (filter (λ row. row.number == w.number) world.archived) ≡ one_if (is_done w)
    archived_is = elim (cases_Bool (is_done w)) as (λ _. length (filter (λ row. row.number == w.number) world.archived) ≡ one_if (is_done w)) [
      | inl done ↦
          let has = backed.kept k d within done in
          let here : ((get_or world.archived has.0 has.1).number == w.number) ≡ true = subst (λ row. (row.number == w.number) ≡ true) (sym has.3) (eq-eqb _ _ has.4) in
          let some : 1 ≤ length (filter (λ row. row.number == w.number) world.archived) = count_some (λ row. row.number == w.number) world.archived has.0 has.1 has.2 here in
          let most : length (filter (λ row. row.number == w.number) world.archived) ≤ 1 = archived_most w in
          let one : one_if (is_done w) ≡ 1 = ap one_if done in
          omega (arith, some, most, one)
      | inr undone ↦
          let none : length (filter (λ row. row.number == w.number) world.archived) ≡ 0 = count_none (λ row. row.number == w.number) world.archived (λ j row lt.
          false_unless ((get_or world.archived j row).number == w.number) (λ e.
          false≢true (sym undone ∙ (backed.rows j row lt k d within (eqb-true _ _ e)).done))) in
          let zero : one_if (is_done w) ≡ 0 = ap one_if undone in
          omega (arith, none, zero)
    ]

    -- an archived row with the workunit's name has its number
    number_is : (j : ℕ) (row : Archived) → j < length world.archived → (get_or world.archived j row).name ≡ w.name → (get_or world.archived j row).number ≡ w.number
    number_is j row lt same = elim (cases_Bool (is_done w)) as (λ _. (get_or world.archived j row).number ≡ w.number) [
      | inl done ↦
          let has = backed.kept k d within done in
          let numbered : (get_or world.archived has.0 row).number ≡ w.number =
          ap (λ row. row.number) (get_or_default world.archived has.0 row has.1 has.2 ∙ has.3) ∙ has.4 in
          let called : (get_or world.archived has.0 row).name ≡ w.name = (backed.rows has.0 row has.2 k d within numbered).name in
          elim (cases_order j has.0) as (λ _. (get_or world.archived j row).number ≡ w.number) [
            | inl here ↦ subst (λ i. (get_or world.archived i row).number ≡ w.number) (sym here) numbered
            | inr apart ↦ elim apart as (λ _. (get_or world.archived j row).number ≡ w.number) [
              | inl before ↦ absurd (keys.archived_names j has.0 row before has.2 (same ∙ sym called))
              | inr after ↦ absurd (keys.archived_names has.0 j row after lt (called ∙ sym same))
            ]
          ]
      | inr undone ↦ absurd (backed.free k d within undone j row lt same)
    ]

    recorded_at : IsRecorded world w
    recorded_at = record {
      granted = granted_is;
      own = λ j g lt same. (backed.grants j g lt k d within same).own;
      archived = archived_is;
      as_archived = λ j row lt same. (backed.rows j row lt k d within same).values;
      named = λ j row lt. (number_is j row lt, λ same. (backed.rows j row lt k d within same).name);
    }

  pub recorded_from_backed : AreBacked world → All (IsRecorded world) world.workunits
  recorded_from_backed backed k d within = recorded_at backed k d within

  module _ (recorded : All (IsRecorded world) world.workunits) where
    valid_from_grant : (j : ℕ) (g : Grant) → j < length world.grants → (k : ℕ) (d : Workunit) → k < length world.workunits
        → (get_or world.grants j g).workunit ≡ (get_or world.workunits k d).number
        → is_valid_at (get_or world.workunits k d).instances (get_or world.grants j g).n ≡ true
    valid_from_grant j g lt k d within same =
        true_unless (is_valid_at (get_or world.workunits k d).instances (get_or world.grants j g).n) (λ invalid.
        false≢true (sym (none_from_count (is_for (get_or world.workunits k d) (get_or world.grants j g).n) world.grants
        ((recorded k d within).granted (get_or world.grants j g).n ∙ ap one_if invalid) j g lt)
        ∙ and_from ((get_or world.grants j g).workunit == (get_or world.workunits k d).number) ((get_or world.grants j g).n == (get_or world.grants j g).n)
        (eq-eqb _ _ same) (eq-eqb (get_or world.grants j g).n _ refl)))

    grant_from_valid : (k : ℕ) (d : Workunit) → k < length world.workunits → IsGranted world.grants (get_or world.workunits k d)
    grant_from_valid k d within n valid =
        let has = any_from_count (is_for (get_or world.workunits k d) n) world.grants
        (let one : length (grants_for world (get_or world.workunits k d) n) ≡ 1 = (recorded k d within).granted n ∙ ap one_if valid in omega (arith, one)) in
        let parts = and_parts (has.1.workunit == (get_or world.workunits k d).number) (has.1.n == n) has.4 in
        (has.0, has.1, has.2, has.3, (eqb-true _ _ parts.0, eqb-true _ _ parts.1))

    -- a workunit that is not DONE has no archived row
    no_row : (k : ℕ) (d : Workunit) → k < length world.workunits → is_done (get_or world.workunits k d) ≡ false
        → (j : ℕ) (row : Archived) → j < length world.archived → (get_or world.archived j row).number ≢ (get_or world.workunits k d).number
    no_row k d within undone j row lt same =
        false≢true (sym (none_from_count (λ row. row.number == (get_or world.workunits k d).number) world.archived
        ((recorded k d within).archived ∙ ap one_if undone) j row lt) ∙ eq-eqb _ _ same)

    row_from_done : (k : ℕ) (d : Workunit) → k < length world.workunits → IsArchivedIfDone world.archived (get_or world.workunits k d)
    row_from_done k d within done =
        let has = any_from_count (λ row. row.number == (get_or world.workunits k d).number) world.archived
        (let one : length (filter (λ row. row.number == (get_or world.workunits k d).number) world.archived) ≡ 1 = (recorded k d within).archived ∙ ap one_if done in omega (arith, one)) in
        (has.0, has.1, has.2, has.3, eqb-true _ _ has.4)

    pub backed_from_recorded : AreBacked world
    backed_from_recorded = record {
      grants = λ j g lt k d within same. record { own = (recorded k d within).own j g lt same; valid = valid_from_grant j g lt k d within same };
      granted = grant_from_valid;
      rows = λ j row lt k d within same. record {
        done = true_unless (is_done (get_or world.workunits k d)) (λ undone. no_row k d within undone j row lt same);
        values = (recorded k d within).as_archived j row lt same;
        name = ((recorded k d within).named j row lt).1 same;
      };
      kept = row_from_done;
      free = λ k d within undone j row lt same. no_row k d within undone j row lt (((recorded k d within).named j row lt).0 same);
    }
