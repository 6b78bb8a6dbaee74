-- What a walk makes of the hosts of instances that failed.
use Rattle.std.proofs.Common.{◌≡◌, ◌∙◌, ℕ, suc, zero, ◌+◌, ◌<◌, ◌≤◌, Bool, true, false, ◌&&◌, ◌||◌, if◌then◌else◌, cond, bytes_eq, get_or, length, zero-add, List, [], ◌∷◌, ◌++◌, map, filter_map, take, Option, Some, None, Ordering, Less, Equal, Greater, is_eq, refl, sym, ap, subst, arith, is_gt, is_lt, IsSorted, Err}
use Rattle.std.specs.List.{HoldsAt, cons_option, enumerate_from, flat_map, insert, AllByRecursion}
use Rattle.std.specs.Option.{option_map_or}
use Rattle.std.specs.Prelude.{slice_set}
use Rattle.std.specs.Cmp.Lexicographic.{texts_ties}
use Rattle.std.specs.List.Sorted.{IsBinarySearchResult}
use Rattle.std.specs.Ordering.{match_ordering}
use Rattle.std.proofs.lemmas.Cmp.{nat_list_cmp_total, nat_list_eq_equiv}
use Rattle.std.proofs.lemmas.List.{append-nil, append_assoc, map-append, take-take}
use Rattle.std.proofs.lemmas.List.Elements.{All-from_recursion, filter_map-append}
use Rattle.std.proofs.lemmas.List.Sums.{fold_push, sum_by-cons, sum_by_push}
use Rattle.std.proofs.lemmas.List.Sorted.{searchable_from_sorted}
use Rattle.wu_core.proofs.HostLemmas.{Ascends, ascend_pairs, below, by_order, each_so, hosts_more, is_among, no_grants, once, one_name, order, pairs_ascend, turned}
use Rattle.wu_core.specs.Hosts.{grants_of, hosts_among, hosts_of, with_host}
use Rattle.wu_core.specs.World.{World}
use Rattle.wu_core.specs.declared.states.Outcome.{Outcome}
use Rattle.wu_core.specs.declared.states.Outcome.TheVariants as outcome
use Rattle.wu_core.specs.declared.workunit.Grant.{Grant}
use Rattle.wu_core.specs.declared.workunit.Instance.{Instance}
use Rattle.wu_core.specs.declared.workunit.Workunit.{Workunit}
use Rattle.wu_rules.specs.Instances.{is_error, is_error_outcome}
use Rattle.wu_rules.specs.Reporting.{is_no_reply}
use Rattle.wu_rules.specs.Sending.{is_of}
use Rattle.wu_views.specs.Counting.{all_instances}
use Rattle.wu_views.specs.Failures.{all_failures, by_failures, failures_of_host, failed_host, failures_of, is_unreplied, with_failures, with_host_failures, with_more_failures, with_outcome, worst_first, HostsRise}
use Rattle.wu_views.specs.declared.failures.TheConstants.{MOST_HOSTS}
use Rattle.wu_views.specs.Lines.{result_line_of, result_lines, result_lines_of}
use Rattle.wu_views.specs.Walking.{TakesAll}
use Rattle.wu_views.specs.declared.failures.Failures.{Failures}
use Rattle.wu_views.specs.declared.failures.HostFailures.{HostFailures}
use Rattle.wu_views.specs.declared.lines.ResultLine.{ResultLine}
use Rattle.wu_views.proofs.TallyLemmas.{takes_split}

-- ---- names, each once

-- a grant to a host
abbrev grant_to : List ℕ → Grant
grant_to host = record { workunit = 0; n = 0; host = host; credit = 0 }

names_of : (names : List (List ℕ)) → map (λ (g : Grant). g.host) (map grant_to names) ≡ names
names_of [] = refl
names_of (n ∷ names) = ap (λ ns. n ∷ ns) (names_of names)

among_is : (names : List (List ℕ)) → hosts_of (map grant_to names) ≡ hosts_among names
among_is names = ap hosts_among (names_of names)

once_names : (names : List (List ℕ)) → Ascends below (hosts_among names)
once_names names = subst (Ascends below) (among_is names) (once (map grant_to names))

names_more : (names : List (List ℕ)) (host : List ℕ) → hosts_among (names ++ host ∷ []) ≡ with_host host (hosts_among names)
names_more names host =
    sym (among_is (names ++ host ∷ [])) ∙ ap hosts_of (map-append grant_to names (host ∷ [])) ∙ hosts_more (map grant_to names) (grant_to host) ∙ ap (with_host host) (among_is names)

-- ---- a host without a failure

module _ (host : List ℕ) where
  -- another name than that of the host
  abbrev Differs : List ℕ → Type 0
  Differs name = bytes_eq name host ≡ false

  not_among : (names : List (List ℕ)) → AllByRecursion Differs names → is_among host names ≡ false
  not_among [] other = refl
  not_among (n ∷ names) other = rw other.0 (not_among names other.1)

  -- one instance, by whether it was at the host
  parts : (here : Bool) (ended : Outcome) → cond (here && is_error_outcome ended) 1 0 + cond (here && is_no_reply ended) 1 0 ≡ cond (here && (is_error_outcome ended || is_no_reply ended)) 1 0
  parts true outcome.NoReply = refl
  parts true outcome.ClientError = refl
  parts true outcome.ValidateError = refl
  parts true other = refl
  parts false ended = refl

  granted_more : (its : Option (List ℕ)) (failed : Bool) (names : List (List ℕ))
      → grants_of (map grant_to (cons_option (if failed then its else None) names)) host ≡ cond (option_map_or (λ name. bytes_eq name host) its false && failed) 1 0 + grants_of (map grant_to names) host
  granted_more None true names = omega arith
  granted_more None false names = omega arith
  granted_more (Some name) true names = sum_by-cons (λ (g : Grant). cond (bytes_eq g.host host) 1 0) (grant_to name) (map grant_to names) ∙ grind arith
  granted_more (Some name) false names = grind arith

  -- the failures of a host are together the grants to it
  total : (is : List Instance) → (failures_of is host).errors + (failures_of is host).no_replies ≡ grants_of (map grant_to (filter_map failed_host is)) host
  total [] = refl
  total (i ∷ is) =
      let errors = sum_by-cons (λ (x : Instance). cond (is_of host x && is_error x) 1 0) i is in
      let no_replies = sum_by-cons (λ (x : Instance). cond (is_of host x && is_unreplied x) 1 0) i is in
      let granted = granted_more i.host (is_error i || is_unreplied i) (filter_map failed_host is) in
      let one = parts (is_of host i) i.outcome in
      let more = total is in
      omega (arith, errors, no_replies, granted, one, more)

  none_failed : (is : List Instance) → AllByRecursion Differs (hosts_among (filter_map failed_host is)) → failures_of is host ≡ failures_of_host host 0 0
  none_failed is other =
      let names = filter_map failed_host is in
      let none = no_grants (map grant_to names) host (ap (is_among host) (among_is names) ∙ not_among (hosts_among names) other) in
      let all = total is in
      let no_errors : (failures_of is host).errors ≡ 0 = omega (arith, none, all) in
      let none_unreplied : (failures_of is host).no_replies ≡ 0 = omega (arith, none, all) in
      λ j. failures_of_host host (no_errors j) (none_unreplied j)

-- ---- one instance more

module _ (is : List Instance) (i : Instance) where
  abbrev old : List ℕ → HostFailures
  old name = failures_of is name

  abbrev new : List ℕ → HostFailures
  new name = failures_of (is ++ i ∷ []) name

  more : (name : List ℕ) → new name ≡ with_more_failures (cond (is_of name i && is_error i) 1 0) (cond (is_of name i && is_unreplied i) 1 0) (old name)
  more name =
      λ j. failures_of_host name (sum_by_push (λ (x : Instance). cond (is_of name x && is_error x) 1 0) is i j) (sum_by_push (λ (x : Instance). cond (is_of name x && is_unreplied x) 1 0) is i j)

  none_more : (one : HostFailures) → with_more_failures 0 0 one ≡ one
  none_more one = λ j. failures_of_host one.host (none one.errors j) (none one.no_replies j)
    where
      none : (n : ℕ) → n + 0 ≡ n
      none n = omega arith

  -- a host that it was not at, or an end that is no failure, changes no number
  still : (name : List ℕ) → (is_of name i && is_error i) ≡ false → (is_of name i && is_unreplied i) ≡ false → new name ≡ old name
  still name no_error replied = more name ∙ (λ j. with_more_failures (cond (no_error j) 1 0) (cond (replied j) 1 0) (old name)) ∙ none_more (old name)

  all_still : ((name : List ℕ) → new name ≡ old name) → (names : List (List ℕ)) → map new names ≡ map old names
  all_still same [] = refl
  all_still same (n ∷ names) = λ j. same n j ∷ all_still same names j

  kept : failed_host i ≡ None → ((name : List ℕ) → new name ≡ old name) → all_failures (is ++ i ∷ []) ≡ all_failures is
  kept none same =
      let names : filter_map failed_host (is ++ i ∷ []) ≡ filter_map failed_host is = filter_map-append failed_host is (i ∷ []) ∙ ap (λ o. filter_map failed_host is ++ cons_option o []) none ∙ append-nil (filter_map failed_host is) in
      ap (λ ns. map new (hosts_among ns)) names ∙ all_still same (hosts_among (filter_map failed_host is))

  -- a failure at a host
  module _ (host : List ℕ) (at : i.host ≡ Some host) where
    abbrev errors : ℕ
    errors = cond (is_error i) 1 0

    abbrev no_replies : ℕ
    no_replies = cond (is_unreplied i) 1 0

    here : (name : List ℕ) → is_of name i ≡ bytes_eq host name
    here name = ap (λ o. option_map_or (λ its. bytes_eq its name) o false) at

    elsewhere : (name : List ℕ) → Differs host name → new name ≡ old name
    elsewhere name differs =
        let away : is_of name i ≡ false = here name ∙ nat_list_eq_equiv.symm host name ∙ differs in
        still name (ap (λ b. b && is_error i) away) (ap (λ b. b && is_unreplied i) away)

    grown : new host ≡ with_more_failures errors no_replies (old host)
    grown = let yes : is_of host i ≡ true = here host ∙ nat_list_eq_equiv.refl host in more host ∙ (λ j. with_more_failures (cond (yes j && is_error i) 1 0) (cond (yes j && is_unreplied i) 1 0) (old host))

    first : old host ≡ failures_of_host host 0 0 → new host ≡ failures_of_host host errors no_replies
    first fresh = grown ∙ ap (with_more_failures errors no_replies) fresh ∙ (λ j. failures_of_host host (zero-add errors j) (zero-add no_replies j))

    others : (names : List (List ℕ)) → AllByRecursion (Differs host) names → map new names ≡ map old names
    others [] differ = refl
    others (m ∷ names) differ = λ j. elsewhere m differ.0 j ∷ others names differ.1 j

    -- names above another differ from it
    above : (m : List ℕ) (names : List (List ℕ)) → AllByRecursion (below m) names → AllByRecursion (λ name. bytes_eq name m ≡ false) names
    above m = each_so (below m) (λ name. bytes_eq name m ≡ false) (λ name low. texts_ties name m ∙ ap is_eq (turned m name Less low))

    placed : (names : List (List ℕ)) → Ascends below names → (AllByRecursion (Differs host) names → old host ≡ failures_of_host host 0 0) → map new (with_host host names) ≡ with_failures host errors no_replies (map old names)
    placed [] up fresh = λ j. first (fresh tt) j ∷ []
    placed (m ∷ names) up fresh = by_order (order host m)
        (λ low.
        let differ = above host (m ∷ names) (low, each_so (below m) (below host) (λ name. nat_list_cmp_total.trans host m name low) names up.0) in
        rw low (λ j. first (fresh differ) j ∷ others (m ∷ names) differ j))
        (λ tie.
        let same = one_name host m tie in
        let one : new m ≡ with_more_failures errors no_replies (old m) = subst (λ n. new n ≡ with_more_failures errors no_replies (old n)) same grown in
        rw tie (λ j. one j ∷ others names (subst (λ n. AllByRecursion (Differs n) names) (sym same) (above m names up.0)) j))
        (λ high.
        let differs : Differs host m = texts_ties m host ∙ ap is_eq (turned host m Greater high) in
        rw high (λ j. elsewhere m differs j ∷ placed names up.1 (λ rest. fresh (differs, rest)) j))

    one_failed : failed_host i ≡ Some host → all_failures (is ++ i ∷ []) ≡ with_failures host errors no_replies (all_failures is)
    one_failed some =
        let before = filter_map failed_host is in
        let names : filter_map failed_host (is ++ i ∷ []) ≡ before ++ host ∷ [] = filter_map-append failed_host is (i ∷ []) ∙ ap (λ o. before ++ cons_option o []) some in
        ap (λ ns. map new (hosts_among ns)) names ∙ ap (map new) (names_more before host) ∙ placed (hosts_among before) (once_names before) (none_failed host is)

  -- by how it ended, and at which host
  module _ (its : Option (List ℕ)) (at : i.host ≡ its) where
    its_host : (failed : Bool) → (is_error i || is_unreplied i) ≡ failed → failed_host i ≡ (if failed then its else None)
    its_host failed is = λ j. if is j then at j else None

    never : (b : Bool) → (b && false) ≡ false
    never true = refl
    never false = refl

    ended_well : is_error i ≡ false → is_unreplied i ≡ false → all_failures (is ++ i ∷ []) ≡ all_failures is
    ended_well right replied =
        kept (its_host false (λ j. right j || replied j))
        (λ name. still name (ap (λ b. is_of name i && b) right ∙ never (is_of name i)) (ap (λ b. is_of name i && b) replied ∙ never (is_of name i)))

  ended : (its : Option (List ℕ)) (outcome : Outcome) → i.host ≡ its → i.outcome ≡ outcome → all_failures (is ++ i ∷ []) ≡ with_outcome its outcome (all_failures is)
  ended None outcome at so = kept (its_host None at (is_error i || is_unreplied i) refl ∙ always (is_error i || is_unreplied i)) (λ name. still name (ap (λ o. option_map_or (λ its. bytes_eq its name) o false && is_error i) at) (ap (λ o. option_map_or (λ its. bytes_eq its name) o false && is_unreplied i) at))
    where
      always : (failed : Bool) → ◌≡◌ {A = Option (List ℕ)} (if failed then None else None) None
      always true = refl
      always false = refl
  ended (Some host) outcome.ClientError at so = one_failed host at (its_host (Some host) at true (ap (λ o. is_error_outcome o || is_no_reply o) so)) ∙ ap (λ o. with_failures host (cond (is_error_outcome o) 1 0) (cond (is_no_reply o) 1 0) (all_failures is)) so
  ended (Some host) outcome.ValidateError at so = one_failed host at (its_host (Some host) at true (ap (λ o. is_error_outcome o || is_no_reply o) so)) ∙ ap (λ o. with_failures host (cond (is_error_outcome o) 1 0) (cond (is_no_reply o) 1 0) (all_failures is)) so
  ended (Some host) outcome.NoReply at so = one_failed host at (its_host (Some host) at true (ap (λ o. is_error_outcome o || is_no_reply o) so)) ∙ ap (λ o. with_failures host (cond (is_error_outcome o) 1 0) (cond (is_no_reply o) 1 0) (all_failures is)) so
  ended (Some host) other at so = ended_well (Some host) at (ap is_error_outcome so) (ap is_no_reply so)

  pub step : all_failures (is ++ i ∷ []) ≡ with_outcome i.host i.outcome (all_failures is)
  step = ended i.host i.outcome refl refl

-- the names of the hosts rise
rising : (is : List Instance) (names : List (List ℕ)) → Ascends below names → Ascends (λ (one other : HostFailures). below one.host other.host) (map (failures_of is) names)
rising is [] up = tt
rising is (n ∷ names) up = (each names up.0, rising is names up.1)
  where
    each : (names : List (List ℕ)) → AllByRecursion (below n) names → AllByRecursion (λ (other : HostFailures). below n other.host) (map (failures_of is) names)
    each [] all = tt
    each (m ∷ names) all = (all.0, each names all.1)

pub all_rise : (is : List Instance) → HostsRise (all_failures is)
all_rise is =
    let before = filter_map failed_host is in
    ascend_pairs (λ (one other : HostFailures). below one.host other.host) (all_failures is) (rising is (hosts_among before) (once_names before))

-- ---- the lines of a world

abbrev Takes : Failures → Failures → ResultLine → Type 0
Takes old new line = HostsRise old.hosts.items → new.hosts.items ≡ with_outcome line.host line.outcome old.hosts.items

-- instances of one workunit, from this number on
instances_taken : (before : List Instance) (first last : Failures) (name : List ℕ) (k : ℕ) (is : List Instance) → first.hosts.items ≡ all_failures before → TakesAll Takes first last (map (result_line_of name) (enumerate_from k is)) → last.hosts.items ≡ all_failures (before ++ is)
instances_taken before first last name k [] at all = ap (λ (it : Failures). it.hosts.items) all ∙ at ∙ ap all_failures (sym (append-nil before))
instances_taken before first last name k (i ∷ is) at (next, one, rest) =
    instances_taken (before ++ i ∷ []) next last name (k + 1) is (one (subst HostsRise (sym at) (all_rise before)) ∙ ap (with_outcome i.host i.outcome) at ∙ sym (step before i)) rest
    ∙ ap all_failures (append_assoc before (i ∷ []) is)

-- and of workunits, one after another
results_taken : (before : List Instance) (first last : Failures) (ws : List Workunit) → first.hosts.items ≡ all_failures before → TakesAll Takes first last (flat_map result_lines_of ws) → last.hosts.items ≡ all_failures (before ++ flat_map (λ (w : Workunit). w.instances) ws)
results_taken before first last [] at all = ap (λ (it : Failures). it.hosts.items) all ∙ at ∙ ap all_failures (sym (append-nil before))
results_taken before first last (w ∷ ws) at all =
    let it = takes_split Takes first last (result_lines_of w) (flat_map result_lines_of ws) all in
    results_taken (before ++ w.instances) it.0 last ws (instances_taken before first it.0 w.name 0 w.instances at it.1) it.2
    ∙ ap all_failures (append_assoc before w.instances (flat_map (λ (w : Workunit). w.instances) ws))

pub failures_are : (world : World) (first last : Failures) → first.hosts.items ≡ [] → TakesAll Takes first last (result_lines world) → last.hosts.items ≡ all_failures (all_instances world)
failures_are world first last none all = results_taken [] first last world.workunits none all

-- ---- a host at its place

module _ (host : List ℕ) where
  abbrev pub stands : HostFailures → Ordering
  stands one = order one.host host

  module _ (errors no_replies : ℕ) where
    -- a host that was found has more
    found_at : (hosts : List HostFailures) (k : ℕ) (d : HostFailures) → Ascends (λ (one other : HostFailures). below one.host other.host) hosts → k < length hosts → stands (get_or hosts k d) ≡ Equal
        → slice_set hosts k (with_more_failures errors no_replies (get_or hosts k d)) ≡ with_failures host errors no_replies hosts
    found_at [] k d up low tie = absurd (omega (arith, low))
    found_at (one ∷ hosts) zero d up low tie = rw (turned one.host host Equal tie) refl
    found_at (one ∷ hosts) (suc k) d up low tie =
        let less : k < length hosts = omega (arith, low) in
        let is_below : below one.host host = subst (below one.host) (one_name (get_or hosts k d).host host tie) (All-from_recursion (λ (other : HostFailures). below one.host other.host) hosts up.0 k d less) in
        rw (turned one.host host Less is_below) (ap (λ hs. one ∷ hs) (found_at hosts k d up.1 less tie))

    -- one that was not found comes to the place where it belongs
    missing_at : (hosts : List HostFailures) (k : ℕ) → k ≤ length hosts → ((n : ℕ) (d : HostFailures) → n < k → stands (get_or hosts n d) ≡ Less) → ((n : ℕ) (d : HostFailures) → k ≤ n → n < length hosts → stands (get_or hosts n d) ≡ Greater)
        → insert hosts k (failures_of_host host errors no_replies) ≡ with_failures host errors no_replies hosts
    missing_at [] zero within low high = refl
    missing_at [] (suc k) within low high = absurd (omega (arith, within))
    missing_at (one ∷ hosts) zero within low high = rw (turned one.host host Greater (high 0 one (omega arith) (omega arith))) refl
    missing_at (one ∷ hosts) (suc k) within low high =
        rw (turned one.host host Less (low 0 one (omega arith))) (ap (λ hs. one ∷ hs) (missing_at hosts k (omega (arith, within)) (λ n d less. low (suc n) d (omega (arith, less))) (λ n d from less. high (suc n) d (omega (arith, from)) (omega (arith, less)))))

    -- as a search answers it
    pub found_more : (hosts : List HostFailures) (k : ℕ) (d : HostFailures) → HostsRise hosts → k < length hosts → HoldsAt (λ one. stands one ≡ Equal) hosts k → slice_set hosts k (with_more_failures errors no_replies (get_or hosts k d)) ≡ with_failures host errors no_replies hosts
    found_more hosts k d up low tie = found_at hosts k d (pairs_ascend (λ (one other : HostFailures). below one.host other.host) hosts up) low (tie d)

    pub missing_put : (hosts : List HostFailures) (k : ℕ) → HostsRise hosts → k ≤ length hosts → IsBinarySearchResult stands hosts (Err k) → insert hosts k (failures_of_host host errors no_replies) ≡ with_failures host errors no_replies hosts
    missing_put hosts k up within found =
        let sorted : IsSorted (λ (one other : HostFailures). order one.host other.host) hosts = λ n d low high. ap is_lt (turned (get_or hosts n d).host (get_or hosts (n + 1) d).host Less (up n (n + 1) d (omega arith) high)) in
        let point = found (searchable_from_sorted nat_list_cmp_total (λ (one : HostFailures). one.host) hosts host sorted) in
        missing_at hosts k within (λ n d low. point.0 n d (omega arith) low) (λ n d from low. point.1 n d from low)

-- ---- the worst

-- a host that comes to its place among the first of others is among the first of all
first_with : (n : ℕ) (hosts : List HostFailures) (it : HostFailures) → take n (with_host_failures (take n hosts) it) ≡ take n (with_host_failures hosts it)
first_with zero hosts it = refl
first_with (suc n) [] it = refl
first_with (suc n) (one ∷ hosts) it = go (by_failures it one) (first_with n hosts it)
  where
    again : (n : ℕ) → take n (one ∷ take n hosts) ≡ take n (one ∷ hosts)
    again zero = refl
    again (suc n) = ap (λ hs. one ∷ hs) (take-take n (suc n) hosts (omega arith))

    go : (o : Ordering) → take n (with_host_failures (take n hosts) it) ≡ take n (with_host_failures hosts it) → take (suc n) (match_ordering o (it ∷ one ∷ take n hosts) (it ∷ one ∷ take n hosts) (one ∷ with_host_failures (take n hosts) it)) ≡ take (suc n) (match_ordering o (it ∷ one ∷ hosts) (it ∷ one ∷ hosts) (one ∷ with_host_failures hosts it))
    go Less rest = ap (λ hs. it ∷ hs) (again n)
    go Equal rest = ap (λ hs. it ∷ hs) (again n)
    go Greater rest = ap (λ hs. one ∷ hs) rest

pub worst_more : (hosts : List HostFailures) (it : HostFailures) → take MOST_HOSTS (with_host_failures (take MOST_HOSTS (worst_first hosts)) it) ≡ take MOST_HOSTS (worst_first (hosts ++ it ∷ []))
worst_more hosts it = first_with MOST_HOSTS (worst_first hosts) it ∙ ap (take MOST_HOSTS) (sym (fold_push with_host_failures [] hosts it))

-- the place of a host is behind all that come before it
pub placed_at : (hosts : List HostFailures) (k : ℕ) (it : HostFailures) → k ≤ length hosts → ((n : ℕ) (d : HostFailures) → n < k → by_failures it (get_or hosts n d) ≡ Greater) → ((d : HostFailures) → k < length hosts → is_gt (by_failures it (get_or hosts k d)) ≡ false) → insert hosts k it ≡ with_host_failures hosts it
placed_at [] zero it within before here = refl
placed_at [] (suc k) it within before here = absurd (omega (arith, within))
placed_at (one ∷ hosts) zero it within before here = go (by_failures it one) (here one (omega arith))
  where
    go : (o : Ordering) → is_gt o ≡ false → it ∷ one ∷ hosts ≡ match_ordering o (it ∷ one ∷ hosts) (it ∷ one ∷ hosts) (one ∷ with_host_failures hosts it)
    go Less behind = refl
    go Equal behind = refl
    go Greater behind = absurd cc
placed_at (one ∷ hosts) (suc k) it within before here =
    rw (before 0 one (omega arith)) (ap (λ hs. one ∷ hs) (placed_at hosts k it (omega (arith, within)) (λ n d low. before (suc n) d (omega (arith, low))) (λ d low. here d (omega (arith, low)))))
