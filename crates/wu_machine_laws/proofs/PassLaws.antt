-- What follows from how a pass chooses workunits.
use Rattle.std.proofs.Common.{◌≡◌, ◌≢◌, ℕ, ◌+◌, ◌<◌, ◌≤◌, ◌==◌, nat_le, Bool, true, false, if◌then◌else◌, List, [], ◌∷◌, ◌++◌, length, take, drop, min, Option, Some, None, Ok, Err, refl, sym, ap, subst, ◌∙◌, arith, leb-true, le-leb, length-take, length-append, append-nil, inl, inr, bytes_eq, ◌||◌}
use Rattle.std.proofs.lemmas.Bool.{cases_Bool, eq-eqb, or_left}
use Rattle.std.proofs.lemmas.List.{take-append-drop, drop_all, nil_from_length, get_or_append_left, get_or-append-add, get_or_default}
use Rattle.std.proofs.lemmas.List.Elements.{All-filter, All-from_recursion, All-head, All-take, All-weaker, filter-append, filter_passes}
use Rattle.std.proofs.lemmas.List.Kept.{AllPairs-cons, AllPairs-filter}
use Rattle.std.proofs.lemmas.List.Sums.{length-filter, sum_by-append}
use Rattle.std.specs.Cmp.Lexicographic.{slice_cmp}
use Rattle.std.specs.Ordering.{is_lt, nat_cmp}
use Rattle.std.specs.List.{All, AllByRecursion, AllPairs, count_by, filter, flat_map, list_any, sum_by}
use Rattle.std.specs.Option.{option_map_or}
use Rattle.std.specs.Prelude.{◌↔◌, IsSomeAnd, not, get_or}
use Rattle.wu_core.specs.declared.fault.Fault.TheVariants.{BadLimit}
use Rattle.wu_core.specs.declared.workunit.Grant.{Grant}
use Rattle.wu_core.specs.declared.workunit.Workunit.{Workunit}
use Rattle.wu_core.specs.Hosts.{hosts_of, is_to, with_host}
use Rattle.wu_core.proofs.HostLemmas.{Ascends, below, host_comes, host_stays, once, is_among as is_host}
use Rattle.std.proofs.lemmas.List.Folds.{list_any-append}
use Rattle.std.proofs.lemmas.List.Sorted.{list_any-IsPermutation}
use Rattle.std.proofs.lemmas.Slice.Eq.{bytes_eq-Decides}
use Rattle.wu_core.specs.World.{World, IsInOrder}
use Rattle.wu_rules.specs.Waking.{wake}
use Rattle.wu_rules.specs.Due.{changes, chosen}
use Rattle.wu_rules.specs.declared.due.Pass.{Pass}
use Rattle.wu_rules.specs.declared.due.Pass.TheVariants.{Transition, Validate, Assimilate, Delete, Purge}
use Rattle.wu_rules_laws.proofs.Awake.{woken-changed, changed-woken}
use Rattle.wu_rules_laws.proofs.Judged.{looked-changed, changed-looked}
use Rattle.wu_rules_laws.proofs.Spent.{ready-changed, changed-ready, ready_assimilate-changed, changed-ready_assimilate}
use Rattle.wu_machine.proofs.ImageLemmas.{assimilated_of, emptied_of, gives_nothing, passed_none, transitioned_of, validated_of}
use Rattle.wu_machine.specs.Machine.{is_limit_right, reply, step}
use Rattle.wu_machine.specs.Passes.{archives, granted, handled, images, is_among, passed}
use Rattle.wu_machine.specs.Requests.{AskPass, Passed}
use Rattle.wu_machine_laws.specs.Laws.{AddsUp, is_listed, IsTaken, KeepsRecords, ListsHosts}
use Rattle.wu_machine_laws.proofs.Middles.{from_pairs}
use Rattle.wu_machine_laws.proofs.Results.{either, not_older}

-- ---- the test of a pass and its image

by_then : (o : Option ℕ) (now : ℕ) → option_map_or (λ moment. nat_le moment now) o false ≡ true → IsSomeAnd o (λ moment. moment ≤ now)
by_then None now by = cc
by_then (Some moment) now by = leb-true moment now by

then_by : (o : Option ℕ) (now : ℕ) → IsSomeAnd o (λ moment. moment ≤ now) → option_map_or (λ moment. nat_le moment now) o false ≡ true
then_by None now by = absurd by
then_by (Some moment) now by = le-leb moment now by

one_only : (v w : Workunit) → v ∷ [] ≡ w ∷ [] → v ≡ w
one_only v w same = cc

-- what a pass changes it doesn't leave as it is
pub changed_image : (pass : Pass) (now min_age : ℕ) (w : Workunit) → changes pass now min_age w ≡ true → images pass now w ≢ w ∷ []
changed_image Transition now min_age w is same = woken-changed w now (by_then (wake w) now is) (one_only _ w same)
changed_image Validate now min_age w is same = looked-changed w is (one_only _ w same)
changed_image Assimilate now min_age w is same = ready_assimilate-changed w now is (one_only _ w same)
changed_image Delete now min_age w is same = ready-changed w is (one_only _ w same)
changed_image Purge now min_age w is same = cc

pub image_changed : (pass : Pass) (now min_age : ℕ) (w : Workunit) → pass ≢ Purge → images pass now w ≢ w ∷ [] → changes pass now min_age w ≡ true
image_changed Transition now min_age w kept other = then_by (wake w) now (changed-woken w now (λ same. other (ap (λ v. v ∷ []) same)))
image_changed Validate now min_age w kept other = changed-looked w (λ same. other (ap (λ v. v ∷ []) same))
image_changed Assimilate now min_age w kept other = changed-ready_assimilate w now (λ same. other (ap (λ v. v ∷ []) same))
image_changed Delete now min_age w kept other = changed-ready w (λ same. other (ap (λ v. v ∷ []) same))
image_changed Purge now min_age w kept other = absurd (kept refl)

-- ---- which are taken

pub how_many : {X : Type 0} (p : X → Bool) (limit : ℕ) (xs : List X) → length (take limit (filter p xs)) ≡ min limit (count_by p xs)
how_many p limit xs = length-take limit (filter p xs) ∙ ap (min limit) (length-filter p xs)

-- each before the place where a list is cut, with each behind it
across : {X : Type 0} (R : X → X → Type 0) (xs ys : List X) → AllPairs R (xs ++ ys) → All (λ x. All (R x) ys) xs
across R xs ys pairs k d low j e here =
    let at = pairs k (length xs + j) d (omega (arith, low)) (subst (λ n. length xs + j < n) (sym (length-append xs ys)) (omega (arith, here))) in
    let to = get_or-append-add xs ys j d in
    subst (λ x. R x (get_or ys j e)) (get_or_append_left xs ys d k low) (subst (R (get_or (xs ++ ys) k d)) (to ∙ get_or_default ys j d e here) at)

none_behind : {X : Type 0} (limit : ℕ) (xs : List X) → length (take limit xs) < limit → drop limit xs ≡ []
none_behind limit xs less = drop_all limit xs (short (length-take limit xs))
  where
    short : length (take limit xs) ≡ min limit (length xs) → length xs ≤ limit
    short is = omega (arith, is, less)

pub is_taken : (pass : Pass) (now min_age limit : ℕ) (world : World) → IsInOrder world → IsTaken pass now min_age limit world (chosen pass now min_age limit world)
is_taken pass now min_age limit world order =
    let all = filter (changes pass now min_age) world.workunits in
    let cut = take-append-drop limit all in
    let length_is = length-take limit all in
    record {
      left = drop limit all;
      all = sym cut;
      within = omega (arith, length_is);
      none_left = none_behind limit all;
      lower = across (λ (one other : Workunit). one.number < other.number) (take limit all) (drop limit all)
          (subst (AllPairs (λ (one other : Workunit). one.number < other.number)) (sym cut) (AllPairs-filter (λ (one other : Workunit). one.number < other.number) (changes pass now min_age) world.workunits order));
    }

-- ---- the others

-- among some is decided by the number
among_by_number : (ts : List Workunit) (one other : Workunit) → one.number ≡ other.number → is_among ts one ≡ is_among ts other
among_by_number ts one other same = ap (λ n. list_any (λ (t : Workunit). t.number == n) ts) same

module _ (pass : Pass) (now : ℕ) (ts : List Workunit) where
  -- what a workunit leaves, where these are taken
  abbrev leaves : Workunit → List Workunit
  leaves w = if is_among ts w then images pass now w else w ∷ []

  abbrev is_left : Workunit → Bool
  is_left w = not (is_among ts w)

  gone_one : (image w : Workunit) → image.number ≡ w.number → is_among ts w ≡ true → filter is_left (image ∷ []) ≡ []
  gone_one image w same taken = ap (λ b. if not b then image ∷ [] else []) (among_by_number ts image w same ∙ taken)

images_gone : (pass : Pass) (now : ℕ) (ts : List Workunit) (w : Workunit) → is_among ts w ≡ true → filter (is_left pass now ts) (images pass now w) ≡ []
images_gone Transition now ts w taken = gone_one Transition now ts _ w (transitioned_of now w).0 taken
images_gone Validate now ts w taken = gone_one Validate now ts _ w (validated_of w).0 taken
images_gone Assimilate now ts w taken = gone_one Assimilate now ts _ w (assimilated_of now w).0 taken
images_gone Delete now ts w taken = gone_one Delete now ts _ w (emptied_of w).0 taken
images_gone Purge now ts w taken = refl

pub others_stay : (pass : Pass) (now : ℕ) (ts ws : List Workunit) → filter (is_left pass now ts) (flat_map (leaves pass now ts) ws) ≡ filter (is_left pass now ts) ws
others_stay pass now ts [] = refl
others_stay pass now ts (w ∷ ws) = elim (cases_Bool (is_among ts w)) [
  | inl is ↦
      rw (is, filter-append (is_left pass now ts) (images pass now w) (flat_map (leaves pass now ts) ws), images_gone pass now ts w is) (others_stay pass now ts ws)
  | inr off ↦ rw (off, off) (ap (λ l. w ∷ l) (others_stay pass now ts ws))
]

-- ---- nothing taken, nothing changed

no_longer : (f : Workunit → List Workunit) → ((w : Workunit) → length (f w) ≤ 1) → (ws : List Workunit) → length (flat_map f ws) ≤ length ws
no_longer f short [] = omega arith
no_longer f short (w ∷ ws) =
    let one = short w in
    let more = no_longer f short ws in
    let both = length-append (f w) (flat_map f ws) in
    omega (arith, one, more, both)

-- where each leaves at most one and all are as they were, each leaves itself
fixed : (f : Workunit → List Workunit) → ((w : Workunit) → length (f w) ≤ 1) → (ws : List Workunit) → flat_map f ws ≡ ws → AllByRecursion (λ w. f w ≡ w ∷ []) ws
fixed f short [] same = tt
fixed f short (w ∷ ws) same = by_case (fixed f short ws) (f w) refl
  where
    by_case : (flat_map f ws ≡ ws → AllByRecursion (λ v. f v ≡ v ∷ []) ws) → (l : List Workunit) → l ≡ f w → (f w ≡ w ∷ []) × AllByRecursion (λ v. f v ≡ v ∷ []) ws
    by_case rest [] is =
        let longer = ap length (ap (λ l. l ++ flat_map f ws) is ∙ same) in
        let more = no_longer f short ws in
        absurd (omega (arith, longer, more))
    by_case rest (v ∷ []) is =
        let all = ap (λ l. l ++ flat_map f ws) is ∙ same in
        (sym is ∙ ap (λ l. take 1 l) all, rest (ap (drop 1) all))
    by_case rest (v ∷ u ∷ more) is =
        let one = subst (λ l. length l ≤ 1) (sym is) (short w) in
        absurd (omega (arith, one))

image_short : (pass : Pass) (now : ℕ) (w : Workunit) → length (images pass now w) ≤ 1
image_short Transition now w = omega arith
image_short Validate now w = omega arith
image_short Assimilate now w = omega arith
image_short Delete now w = omega arith
image_short Purge now w = omega arith

module _ (pass : Pass) (now min_age limit : ℕ) (world : World) where
  abbrev taken : List Workunit
  taken = chosen pass now min_age limit world

  stay_all : passed pass now min_age limit world ≡ world → All (λ w. leaves pass now taken w ≡ w ∷ []) taken
  stay_all same =
      All-take (λ w. leaves pass now taken w ≡ w ∷ []) limit (filter (changes pass now min_age) world.workunits)
      (All-filter (changes pass now min_age) (λ w. leaves pass now taken w ≡ w ∷ []) world.workunits
      (All-from_recursion (λ w. leaves pass now taken w ≡ w ∷ []) world.workunits
      (fixed (leaves pass now taken) (λ w. either (λ (l : List Workunit). length l ≤ 1) (is_among taken w) _ _ (λ is. image_short pass now w)
      (λ off. omega arith)) world.workunits (ap (λ (v : World). v.workunits) same))))

  pub changed_all : All (λ w. changes pass now min_age w ≡ true) taken
  changed_all = All-take (λ w. changes pass now min_age w ≡ true) limit (filter (changes pass now min_age) world.workunits) (filter_passes (changes pass now min_age) world.workunits)

  none_taken : passed pass now min_age limit world ≡ world → taken ≡ []
  none_taken same = by_case taken refl
    where
      by_case : (l : List Workunit) → l ≡ taken → taken ≡ []
      by_case [] is = sym is
      by_case (t ∷ more) is =
          let among : is_among taken t ≡ true = subst (λ l. is_among l t ≡ true) is (or_left _ _ (eq-eqb t.number t.number refl)) in
          let stays = All-head (λ w. leaves pass now taken w ≡ w ∷ []) t more (subst (All (λ w. leaves pass now taken w ≡ w ∷ [])) (sym is) (stay_all same)) in
          let changed = All-head (λ w. changes pass now min_age w ≡ true) t more (subst (All (λ w. changes pass now min_age w ≡ true)) (sym is) changed_all) in
          absurd (changed_image pass now min_age t changed (sym (ap (λ b. if b then images pass now t else t ∷ []) among) ∙ stays))

  pub zero_for_nothing : (handled pass now min_age limit world ≡ 0) ↔ (passed pass now min_age limit world ≡ world)
  zero_for_nothing = (λ zero. passed_none pass now min_age limit world (nil_from_length taken zero), λ same. ap length (none_taken same))

-- ---- what is answered

pub pass_answered : (pass : Pass) (now limit min_age n : ℕ) (world : World) → reply world (AskPass pass now limit min_age) ≡ Ok (Passed pass n)
    → (n ≡ handled pass now min_age limit world) × (step world (AskPass pass now limit min_age) ≡ passed pass now min_age limit world)
pass_answered pass now limit min_age n world is =
    let younger = not_older world (AskPass pass now limit min_age) _ refl is in
    elim (cases_Bool (is_limit_right pass limit min_age)) [
      | inl right ↦
          let answer : Ok (Passed pass (handled pass now min_age limit world)) ≡ Ok (Passed pass n) = rw (younger, right) at is in
          let same : handled pass now min_age limit world ≡ n = cc in
          (sym same, rw (younger, right) refl)
      | inr wrong ↦ absurd (let no : Err BadLimit ≡ Ok (Passed pass n) = rw (younger, wrong) at is in cc)
    ]

-- ---- what is recorded

grants_nothing : (pass : Pass) → pass ≢ Validate → (w : Workunit) → granted pass w ≡ []
grants_nothing Transition other w = refl
grants_nothing Validate other w = absurd (other refl)
grants_nothing Assimilate other w = refl
grants_nothing Delete other w = refl
grants_nothing Purge other w = refl

archives_nothing : (pass : Pass) → pass ≢ Assimilate → (now : ℕ) (w : Workunit) → archives pass now w ≡ []
archives_nothing Transition other now w = refl
archives_nothing Validate other now w = refl
archives_nothing Assimilate other now w = absurd (other refl)
archives_nothing Delete other now w = refl
archives_nothing Purge other now w = refl

pub keeps_records : (pass : Pass) (now min_age limit : ℕ) (world : World) → KeepsRecords pass world (passed pass now min_age limit world)
keeps_records pass now min_age limit world =
    let ts = chosen pass now min_age limit world in
    record {
      grants = (flat_map (granted pass) ts, refl);
      archived = (flat_map (archives pass now) ts, refl);
      no_grants = λ other. ap (λ l. world.grants ++ l) (gives_nothing (granted pass) ts (grants_nothing pass other)) ∙ append-nil world.grants;
      no_archived = λ other. ap (λ l. world.archived ++ l) (gives_nothing (archives pass now) ts (archives_nothing pass other now)) ∙ append-nil world.archived;
      imports = refl;
      classes = refl;
      next_number = refl;
      version = refl;
    }

-- ---- the hosts of grants

-- with a name among names at its place, a name is among all where it is that one, or among the others
with_one : (host name : List ℕ) (hosts : List (List ℕ)) → Ascends below hosts → is_host host (with_host name hosts) ≡ (bytes_eq name host || is_host host hosts)
with_one host name hosts up = elim (cases_Bool (is_host name hosts)) [
  | inl on ↦ ap (is_host host) (host_stays name hosts up on) ∙ again (bytes_eq name host) refl on
  | inr off ↦
      sym (list_any-IsPermutation (λ h. bytes_eq h host) (hosts ++ name ∷ []) (with_host name hosts) (host_comes name hosts off))
      ∙ list_any-append (λ h. bytes_eq h host) hosts (name ∷ [])
      ∙ swapped (bytes_eq name host) (is_host host hosts)
]
  where
    again : (b : Bool) → b ≡ bytes_eq name host → is_host name hosts ≡ true → is_host host hosts ≡ (b || is_host host hosts)
    again true is on = subst (λ h. is_host h hosts ≡ true) ((bytes_eq-Decides name host).0 (sym is)) on
    again false is on = refl

    swapped : (a b : Bool) → (b || (a || false)) ≡ (a || b)
    swapped true true = refl
    swapped true false = refl
    swapped false true = refl
    swapped false false = refl

-- a host is listed where a grant is to it
listed_is : (host : List ℕ) (grants : List Grant) → is_listed grants host ≡ list_any (is_to host) grants
listed_is host [] = refl
listed_is host (g ∷ grants) = with_one host g.host (hosts_of grants) (once grants) ∙ ap (λ b. bytes_eq g.host host || b) (listed_is host grants)

pub adds_up : (host : List ℕ) (old more : List Grant) → AddsUp host old more (old ++ more)
adds_up host old more = record {
  credit = ap (sum_by (λ (grant : Grant). grant.credit)) (filter-append (is_to host) old more) ∙ sum_by-append (λ (grant : Grant). grant.credit) (filter (is_to host) old) (filter (is_to host) more);
  number = sum_by-append (λ (grant : Grant). if is_to host grant then 1 else 0) old more;
  listed =
      listed_is host (old ++ more) ∙ list_any-append (is_to host) old more
      ∙ (λ i. sym (listed_is host old) i || sym (listed_is host more) i);
}

-- one is found where some are counted
some_counted : (p : Grant → Bool) (grants : List Grant) → (list_any p grants ≡ true) ↔ (0 < length (filter p grants))
some_counted p [] = (λ is. absurd (cc), λ some. absurd (omega (arith, some)))
some_counted p (g ∷ grants) = by (p g) (some_counted p grants)
  where
    by : (b : Bool) → (list_any p grants ≡ true) ↔ (0 < length (filter p grants))
        → ((b || list_any p grants) ≡ true) ↔ (0 < length (if b then g ∷ filter p grants else filter p grants))
    by true rest = (λ is. omega arith, λ some. refl)
    by false rest = rest

-- one name comes before another
abbrev Before : List ℕ → List ℕ → Type 0
Before one other = is_lt (slice_cmp nat_cmp one other) ≡ true

names_ascend : (hosts : List (List ℕ)) → Ascends below hosts → AllPairs Before hosts
names_ascend [] up = from_pairs Before [] tt
names_ascend (h ∷ hosts) up =
    AllPairs-cons Before h hosts (All-weaker (below h) (Before h) (λ other low. ap is_lt low) hosts (All-from_recursion (below h) hosts up.0)) (names_ascend hosts up.1)

pub lists_hosts : (grants : List Grant) → ListsHosts grants
lists_hosts grants = record {
  granted = λ host. (
    λ is. subst (λ n. 0 < n) (length-filter (is_to host) grants) ((some_counted (is_to host) grants).0 (sym (listed_is host grants) ∙ is)),
    λ some. listed_is host grants ∙ (some_counted (is_to host) grants).1 (subst (λ n. 0 < n) (sym (length-filter (is_to host) grants)) some),
  );
  ascending = names_ascend (hosts_of grants) (once grants);
}
