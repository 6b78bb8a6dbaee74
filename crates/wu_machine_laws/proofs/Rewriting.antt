-- A sound world with one workunit rewritten, or taken out, is sound.
use Rattle.std.proofs.Common.{◌≡◌, ◌≢◌, ℕ, ◌+◌, ◌<◌, ◌≤◌, ◌==◌, Bool, true, false, List, [], ◌∷◌, ◌++◌, length, get_or, Option, Some, None, refl, sym, ap, subst, ◌∙◌, inl, inr, arith}
use Rattle.std.proofs.lemmas.Bool.{cases_Bool, eq-eqb, ne_eqb}
use Rattle.std.proofs.lemmas.List.Elements.{All-append, All-cons, All-weaker}
use Rattle.std.proofs.lemmas.Option.{get_or_from_slice_get, slice_get_within}
use Rattle.std.specs.List.{All, filter}
use Rattle.std.specs.Option.{option_map_or}
use Rattle.std.specs.Prelude.{◌&&◌, not, slice_get}
use Rattle.wu_core.specs.Limits.{class_version, most_credit, most_instances}
use Rattle.wu_core.specs.Formed.{IsWorkunit}
use Rattle.wu_core.specs.Mask.{IsPossibleMask}
use Rattle.wu_core.specs.World.{World}
use Rattle.wu_core.specs.declared.workunit.Archived.{Archived}
use Rattle.wu_core.specs.declared.workunit.Grant.{Grant}
use Rattle.wu_core.specs.declared.workunit.Instance.{Instance}
use Rattle.wu_core.specs.declared.workunit.Workunit.{Workunit}
use Rattle.wu_rules.specs.Consistent.{instance_host, IsConsistent, IsGrantFor, IsRowOf, is_done, is_valid_at, one_if, Rewrites}
use Rattle.wu_rules_laws.proofs.Rewriting.{canonical_stays}
use Rattle.wu_core.specs.Storable.{AreStoredInstances, IsHost, IsName, IsStoredArchived, IsStoredInstance, IsStorable}
use Rattle.wu_machine.specs.Sound.{HasPossibleMask, IsGiven, IsRecorded, IsSound}
use Rattle.wu_machine_laws.proofs.Middles.{around, count_agree, count_all, count_append, count_none, counted, from_pairs, instead, none_counted, Pairs, pairs_append, pairs_around, pairs_instead, pairs_of_one, pairs_without, to_pairs, without}
use Rattle.wu_machine_laws.proofs.SoundLemmas.{too_old}
use Rattle.wu_machine_laws.proofs.SoundParts.{Differ, GrantsDiffer, is_at, is_for, is_row_of, IsGrantIn, IsIn, IsItsRow, IsNamedAlike, IsOwn, IsOwnRow, IsRowIn, IsToName, Ordered, RowNamesDiffer, RowsDiffer}

-- ---- counts

-- where none is added, the count is as it was
none_more : (total a b c : ℕ) → total ≡ a + b → b ≡ 0 → a ≡ c → total ≡ c
none_more total a b c sum none is = omega arith

-- what was so stays so, and the new ones are exactly those that were not so before
one_more : (old new : Bool) (total a b : ℕ) → total ≡ a + b → a ≡ one_if old → b ≡ one_if (new && not old) → (old ≡ true → new ≡ true) → total ≡ one_if new
one_more true true total a b sum first second keeps = omega arith
one_more true false total a b sum first second keeps = let no : false ≡ true = keeps refl in cc
one_more false true total a b sum first second keeps = omega arith
one_more false false total a b sum first second keeps = omega arith

-- where there is a new one it was not so before
was_not : (old new : Bool) (n : ℕ) → n ≡ one_if (new && not old) → n ≢ 0 → old ≡ false
was_not true true n is some = absurd (some is)
was_not true false n is some = absurd (some is)
was_not false new n is some = refl

-- one that is counted is so
was_so : (b : Bool) (n : ℕ) → n ≡ one_if b → n ≢ 0 → b ≡ true
was_so true n is some = refl
was_so false n is some = absurd (some is)

-- a count of so or not so is one at most
at_most_one : (b : Bool) (n : ℕ) → n ≡ one_if b → n ≤ 1
at_most_one true n is = omega arith
at_most_one false n is = omega arith

-- ---- the host of a place

-- a place that has a host is that of an instance, which has it
host_at : (instances : List Instance) (n : ℕ) (host : List ℕ) → instance_host instances n ≡ Some host
    → (i : Instance) × (slice_get instances n ≡ Some i) × (i.host ≡ Some host)
host_at instances n host is = by (slice_get instances n) refl is
  where
    by : (found : Option Instance) → slice_get instances n ≡ found → option_map_or (λ (i : Instance). i.host) found None ≡ Some host
        → (i : Instance) × (slice_get instances n ≡ Some i) × (i.host ≡ Some host)
    by (Some i) at here = (i, at, here)
    by None at here = absurd cc

-- so it is within the list
place_within : (instances : List Instance) (n : ℕ) (host : List ℕ) → instance_host instances n ≡ Some host → n < length instances
place_within instances n host is = let it = host_at instances n host is in slice_get_within instances n it.0 it.1

-- the host of a stored instance is a name
host_named : (instances : List Instance) (n : ℕ) (host : List ℕ) → AreStoredInstances instances → instance_host instances n ≡ Some host → IsName host
host_named instances n host stored is =
    let it = host_at instances n host is in
    let kept : IsStoredInstance it.0 = subst IsStoredInstance (get_or_from_slice_get instances n it.0 it.0 it.1)
    (stored.each n it.0 (place_within instances n host is)) in
    subst IsHost it.2 kept.values.host

-- ---- grants that are given once

-- where each place has at most one, no two are for one
once : (gs : List Grant) → ((n : ℕ) → length (filter (is_at n) gs) ≤ 1) → Pairs GrantsDiffer gs
once [] each = tt
once (g ∷ gs) each = (
  All-weaker (λ (h : Grant). (h.n == g.n) ≡ false) (λ (h : Grant). g.workunit ≡ h.workunit → g.n ≢ h.n)
      (λ h no same place. let is = eq-eqb h.n g.n (sym place) in cc) gs (none_counted (is_at g.n) gs none),
  once gs rest,
)
  where
    none : length (filter (is_at g.n) gs) ≡ 0
    none =
        let is : (g.n == g.n) ≡ true = eq-eqb g.n g.n refl in
        let most : length (filter (is_at g.n) (g ∷ gs)) ≤ 1 = each g.n in
        let more = rw is at most in
        omega (arith, more)

    rest : (n : ℕ) → length (filter (is_at n) gs) ≤ 1
    rest n = elim (cases_Bool (g.n == n)) [
      | inl is ↦ let more = rw is at (each n) in omega (arith, more)
      | inr not ↦ rw not at (each n)
    ]

-- ---- one workunit rewritten

module _ (world : World) (young : class_version ≤ world.version) (us : List Workunit) (w : Workunit) (ws : List Workunit) where
  -- the world with the workunit in its place
  abbrev before : World
  before = record world { workunits = us ++ w ∷ ws }

  -- without the workunit, its grants and its archived row stay
  pub sound_without : IsSound before → IsSound (record world { workunits = us ++ ws })
  sound_without sound = record {
    next_number = sound.next_number;
    formed = without IsWorkunit us w ws sound.formed;
    storable = without IsStorable us w ws sound.storable;
    granted_to = sound.granted_to;
    archivable = sound.archivable;
    imports = sound.imports;
    consistent = without IsConsistent us w ws sound.consistent;
    recorded = All-weaker (IsRecorded before) (IsRecorded (record world { workunits = us ++ ws }))
        (λ u is. record { granted = is.granted; own = is.own; archived = is.archived; as_archived = is.as_archived; named = is.named }) (us ++ ws)
        (without (IsRecorded before) us w ws sound.recorded);
    given = without (IsIn world) us w ws sound.given;
    ascending = from_pairs Ordered (us ++ ws)
        (pairs_without Ordered us w ws (to_pairs Ordered (us ++ w ∷ ws) sound.ascending));
    names = from_pairs Differ (us ++ ws)
        (pairs_without Differ us w ws (to_pairs Differ (us ++ w ∷ ws) sound.names));
    archived = sound.archived;
    archived_masks = sound.archived_masks;
    archived_once = sound.archived_once;
    archived_names = sound.archived_names;
    grants = sound.grants;
    granted_once = sound.granted_once;
    imported_once = sound.imported_once;
    classed = sound.classed;
    classes_in_order = sound.classes_in_order;
    classes_in_time = too_old world.version young;
  }

  module _ (v : Workunit) (gs : List Grant) (kept : List Archived) (rewrites : Rewrites w v gs kept) (sound : IsSound before) where
    -- and with what it was rewritten to, and what was granted and archived
    abbrev after : World
    after = record world { workunits = us ++ v ∷ ws; grants = world.grants ++ gs; archived = world.archived ++ kept }

    -- what is recorded of the workunit
    its : IsRecorded before w
    its = (around (IsRecorded before) us w ws sound.recorded).1

    -- ---- what is recorded of the others

    -- nothing that is granted or archived is of another one
    other_recorded : (u : Workunit) → (u.number ≢ w.number) × (u.name ≢ w.name) → IsRecorded before u → IsRecorded after u
    other_recorded u other is = record {
      granted = λ n. none_more _ _ _ _ (count_append (is_for u n) world.grants gs)
          (count_none (is_for u n) gs (λ k d low. rw (ne_eqb (get_or gs k d).workunit u.number
          (λ same. other.0 (sym same ∙ rewrites.granted.workunit k d low))))) (is.granted n);
      own = All-append (IsOwn u) world.grants gs is.own (λ k d low same. absurd (other.0 (sym same ∙ rewrites.granted.workunit k d low)));
      archived = none_more _ _ _ _ (count_append (is_row_of u) world.archived kept)
          (count_none (is_row_of u) kept (λ k d low. ne_eqb (get_or kept k d).number u.number (λ same. other.0 (sym same ∙ (own k d low).0)))) is.archived;
      as_archived = All-append (IsOwnRow u) world.archived kept is.as_archived (λ k d low same. absurd (other.0 (sym same ∙ (own k d low).0)));
      named = All-append (IsNamedAlike u) world.archived kept is.named
          (λ k d low. (λ same. absurd (other.1 (sym same ∙ (own k d low).1)), λ same. absurd (other.0 (sym same ∙ (own k d low).0))));
    }
      where
        own : All (IsItsRow w v) kept
        own = rewrites.archives.own

    -- ---- what is recorded of the one that is rewritten

    -- a grant of it is for a place that was VALID
    was_valid : (k : ℕ) (d : Grant) → k < length world.grants → (get_or world.grants k d).workunit ≡ w.number
        → is_valid_at w.instances (get_or world.grants k d).n ≡ true
    was_valid k d low at =
        let g = get_or world.grants k d in
        was_so (is_valid_at w.instances g.n) _ (its.granted g.n) (counted (is_for w g.n) world.grants k d low
        (rw (eq-eqb g.workunit w.number at, eq-eqb g.n g.n refl)))

    -- a grant of it stays one for its host, with its credit
    grant_kept : (g : Grant) → is_valid_at w.instances g.n ≡ true → IsGrantFor w g → IsGrantFor v g
    grant_kept g valid is = record { host = (rewrites.valid g.n valid).1 ∙ is.host; credit = is.credit ∙ sym rewrites.credit }

    -- where it has a row it was DONE
    was_done : (k : ℕ) (d : Archived) → k < length world.archived → (get_or world.archived k d).number ≡ w.number → is_done w ≡ true
    was_done k d low at =
        was_so (is_done w) _ its.archived (counted (is_row_of w) world.archived k d low (eq-eqb (get_or world.archived k d).number w.number at))

    -- the row stays as the workunit
    row_kept : (row : Archived) → is_done w ≡ true → IsRowOf w row → IsRowOf v row
    row_kept row done is =
        let consistent = (around IsConsistent us w ws sound.consistent).1 in
        let same = rewrites.stays done in
        (is.0 ∙ sym (canonical_stays w v gs kept consistent rewrites done), is.1 ∙ sym same.0, same.1 ∙ is.2)

    -- the grants are for what is made VALID
    new_granted : (n : ℕ) → length (filter (is_for v n) gs) ≡ one_if (is_valid_at v.instances n && not (is_valid_at w.instances n))
    new_granted n =
        count_agree (is_for v n) (is_at n) gs
        (λ k d low. rw (eq-eqb (get_or gs k d).workunit v.number (rewrites.granted.workunit k d low ∙ sym rewrites.number)))
        ∙ rewrites.granted.each n

    -- the row is for what is made DONE
    new_archived : length (filter (is_row_of v) kept) ≡ one_if (is_done v && not (is_done w))
    new_archived =
        count_all (is_row_of v) kept (λ k d low. eq-eqb (get_or kept k d).number v.number ((rewrites.archives.own k d low).0 ∙ sym rewrites.number))
        ∙ rewrites.archives.once

    -- so its grants and its row agree with it again
    its_recorded : IsRecorded after v
    its_recorded = record {
      granted = λ n. one_more (is_valid_at w.instances n) (is_valid_at v.instances n) _ _ _ (count_append (is_for v n) world.grants gs)
          (ap (λ number. length (filter (λ (grant : Grant). grant.workunit == number && grant.n == n) world.grants)) rewrites.number ∙ its.granted n)
          (new_granted n) (λ valid. (rewrites.valid n valid).0);
      own = All-append (IsOwn v) world.grants gs
          (λ k d low same. grant_kept (get_or world.grants k d) (was_valid k d low (same ∙ rewrites.number)) (its.own k d low (same ∙ rewrites.number)))
          (All-weaker (IsGrantFor v) (IsOwn v) (λ grant is same. is) gs rewrites.granted.own);
      archived = one_more (is_done w) (is_done v) _ _ _ (count_append (is_row_of v) world.archived kept)
          (ap (λ number. length (filter (λ (row : Archived). row.number == number) world.archived)) rewrites.number ∙ its.archived) new_archived
          rewrites.done;
      as_archived = All-append (IsOwnRow v) world.archived kept
          (λ k d low same. row_kept (get_or world.archived k d) (was_done k d low (same ∙ rewrites.number)) (its.as_archived k d low (same ∙ rewrites.number)))
          (All-weaker (IsItsRow w v) (IsOwnRow v) (λ row at same. at.2) kept rewrites.archives.own);
      named = All-append (IsNamedAlike v) world.archived kept
          (λ k d low. let is = its.named k d low in (λ same. is.0 (same ∙ rewrites.name) ∙ sym rewrites.number, λ same. is.1 (same ∙ rewrites.number) ∙ sym rewrites.name))
          (λ k d low. let at = rewrites.archives.own k d low in (λ same. at.0 ∙ sym rewrites.number, λ same. at.1 ∙ sym rewrites.name));
    }

    -- ---- grants and archived rows, each once

    -- no grant is for a place that has one
    granted_apart : (k : ℕ) (d : Grant) → k < length world.grants → (j : ℕ) (e : Grant) → j < length gs
        → (get_or world.grants k d).workunit ≡ (get_or gs j e).workunit → (get_or world.grants k d).n ≢ (get_or gs j e).n
    granted_apart k d low j e here same place =
        let g = get_or world.grants k d in
        let h = get_or gs j e in
        let valid : is_valid_at w.instances g.n ≡ true = was_valid k d low (same ∙ rewrites.granted.workunit j e here) in
        let not_valid : is_valid_at w.instances h.n ≡ false =
        was_not (is_valid_at w.instances h.n) (is_valid_at v.instances h.n) _ (rewrites.granted.each h.n)
        (counted (is_at h.n) gs j e here (eq-eqb h.n h.n refl)) in
        let both : is_valid_at w.instances h.n ≡ true = subst (λ n. is_valid_at w.instances n ≡ true) place valid in
        let no : true ≡ false = sym both ∙ not_valid in
        cc

    -- where a row is archived of it, none was before
    none_archived : (j : ℕ) → j < length kept → All (λ (row : Archived). (row.number == w.number) ≡ false) world.archived
    none_archived j here =
        let undone : is_done w ≡ false = was_not (is_done w) (is_done v) (length kept) rewrites.archives.once (λ zero. absurd (omega (arith, here, zero))) in
        none_counted (is_row_of w) world.archived (its.archived ∙ ap one_if undone)

    -- so no archived row has its number
    archived_apart : (k : ℕ) (d : Archived) → k < length world.archived → (j : ℕ) (e : Archived) → j < length kept
        → (get_or world.archived k d).number ≢ (get_or kept j e).number
    archived_apart k d low j e here same =
        let no : ((get_or world.archived k d).number == w.number) ≡ false = none_archived j here k d low in
        let is = eq-eqb (get_or world.archived k d).number w.number (same ∙ (rewrites.archives.own j e here).0) in
        cc

    -- or its name
    archived_names_apart : (k : ℕ) (d : Archived) → k < length world.archived → (j : ℕ) (e : Archived) → j < length kept
        → (get_or world.archived k d).name ≢ (get_or kept j e).name
    archived_names_apart k d low j e here same =
        let own = rewrites.archives.own j e here in
        archived_apart k d low j e here ((its.named k d low).0 (same ∙ own.1) ∙ sym own.0)

    -- ---- values

    -- its number is one that was given
    given_v : IsGiven world v.number
    given_v = subst (IsGiven world) (sym rewrites.number) (around (IsIn world) us w ws sound.given).1

    -- the grants go to names
    new_granted_to : IsStorable v → All IsToName gs
    new_granted_to storable = All-weaker (IsGrantFor v) IsToName (λ grant is. host_named v.instances grant.n grant.host storable.instances is.host) gs
        rewrites.granted.own

    -- and are in range
    new_grants : IsStorable v → All (IsGrantIn world) gs
    new_grants storable k d low =
        let g = get_or gs k d in
        let own : IsGrantFor v g = rewrites.granted.own k d low in
        let within : g.n < length v.instances = place_within v.instances g.n g.host own.host in
        let few : length v.instances ≤ most_instances = storable.instances.few in
        let most : v.params.credit ≤ most_credit = rewrites.formed.parameters.credit in
        let its_credit : g.credit ≡ v.params.credit = own.credit in (
          subst (IsGiven world) (sym (rewrites.granted.workunit k d low)) (subst (IsGiven world) rewrites.number given_v),
          omega (arith, within, few),
          subst (λ c. c ≤ most_credit) (sym its_credit) most,
        )

    -- ---- the others are others

    -- the workunits before it and behind it have other numbers and other names
    others_around : All (λ (u : Workunit). (u.number ≢ w.number) × (u.name ≢ w.name)) us × All (λ (u : Workunit). (u.number ≢ w.number) × (u.name ≢ w.name))
        ws
    others_around =
        let up = pairs_around Ordered us w ws (to_pairs Ordered (us ++ w ∷ ws) sound.ascending) in
        let apart = pairs_around Differ us w ws (to_pairs Differ (us ++ w ∷ ws) sound.names) in (
          λ k d low. (λ same. let less = up.0 k d low in absurd (omega (arith, less, same)), apart.0 k d low),
          λ k d low. (λ same. let less = up.1 k d low in absurd (omega (arith, less, same)), λ same. apart.1 k d low (sym same)),
        )

    -- grants and rows agree with each workunit
    all_recorded : All (IsRecorded after) (us ++ v ∷ ws)
    all_recorded =
        let parts = around (IsRecorded before) us w ws sound.recorded in
        All-append (IsRecorded after) us (v ∷ ws) (λ k d low. other_recorded (get_or us k d) (others_around.0 k d low) (parts.0 k d low))
        (All-cons (IsRecorded after) v ws its_recorded (λ k d low. other_recorded (get_or ws k d) (others_around.1 k d low) (parts.2 k d low)))

    -- a sound world with one workunit rewritten is sound
    pub sound_rewritten : IsStorable v → All IsStoredArchived kept → IsSound after
    sound_rewritten storable rows = record {
      next_number = sound.next_number;
      formed = instead IsWorkunit us w v ws sound.formed rewrites.formed;
      storable = instead IsStorable us w v ws sound.storable storable;
      granted_to = All-append IsToName world.grants gs sound.granted_to (new_granted_to storable);
      archivable = All-append IsStoredArchived world.archived kept sound.archivable rows;
      imports = sound.imports;
      consistent = instead IsConsistent us w v ws sound.consistent rewrites.consistent;
      recorded = all_recorded;
      given = instead (IsIn world) us w v ws sound.given given_v;
      ascending = from_pairs Ordered (us ++ v ∷ ws) (pairs_instead Ordered us w v ws (λ u low. subst (λ n. u.number < n) (sym rewrites.number) low)
          (λ u low. subst (λ n. n < u.number) (sym rewrites.number) low)
          (to_pairs Ordered (us ++ w ∷ ws) sound.ascending));
      names = from_pairs Differ (us ++ v ∷ ws) (pairs_instead Differ us w v ws (λ u other same. other (same ∙ rewrites.name))
          (λ u other same. other (sym rewrites.name ∙ same)) (to_pairs Differ (us ++ w ∷ ws) sound.names));
      archived = All-append (IsRowIn world) world.archived kept sound.archived
          (All-weaker (IsItsRow w v) (IsRowIn world) (λ row at. subst (IsGiven world) (rewrites.number ∙ sym at.0) given_v) kept rewrites.archives.own);
      archived_masks = All-append HasPossibleMask world.archived kept sound.archived_masks
          (All-weaker (IsItsRow w v) HasPossibleMask (λ row at. its_mask row at.2) kept rewrites.archives.own);
      archived_once = from_pairs RowsDiffer (world.archived ++ kept) (pairs_append RowsDiffer world.archived kept
          (to_pairs RowsDiffer world.archived sound.archived_once) (pairs_of_one RowsDiffer kept few_rows) archived_apart);
      archived_names = from_pairs RowNamesDiffer (world.archived ++ kept) (pairs_append RowNamesDiffer world.archived kept
          (to_pairs RowNamesDiffer world.archived sound.archived_names) (pairs_of_one RowNamesDiffer kept few_rows) archived_names_apart);
      grants = All-append (IsGrantIn world) world.grants gs sound.grants (new_grants storable);
      granted_once = from_pairs GrantsDiffer (world.grants ++ gs) (pairs_append GrantsDiffer world.grants gs
          (to_pairs GrantsDiffer world.grants sound.granted_once) (once gs few_grants) granted_apart);
      imported_once = sound.imported_once;
      classed = sound.classed;
      classes_in_order = sound.classes_in_order;
      classes_in_time = too_old world.version young;
    }
      where
        -- a row that is archived of it has its mask
        its_mask : (row : Archived) → IsRowOf v row → HasPossibleMask row
        its_mask row of = subst IsPossibleMask (sym of.1) (record { sendable = rewrites.consistent.sendable; decidable = rewrites.consistent.decidable })

        few_rows : length kept ≤ 1
        few_rows = at_most_one (is_done v && not (is_done w)) (length kept) rewrites.archives.once

        few_grants : (n : ℕ) → length (filter (is_at n) gs) ≤ 1
        few_grants n = at_most_one (is_valid_at v.instances n && not (is_valid_at w.instances n)) _ (rewrites.granted.each n)
