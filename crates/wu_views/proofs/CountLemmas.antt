-- What is counted and summed of the rows of an answer, one after another.
use Rattle.std.proofs.Common.{◌≡◌, ◌∙◌, ℕ, ◌+◌, ◌<◌, ◌≤◌, List, [], ◌∷◌, ◌++◌, length, map, ap, arith, refl, subst, subst₂, suc, sym, zero}
use Rattle.std.proofs.lemmas.List.{length-map, map-append}
use Rattle.std.proofs.lemmas.List.Sorted.{All-permutation, IsPermutation-map, length_permutation, sum_by-IsPermutation}
use Rattle.std.proofs.lemmas.List.Sums.{count_by-le-length, length-filter, sum_by-append, sum_by-cons}
use Rattle.std.specs.List.Sorted.{IsPermutation}
use Rattle.std.specs.Prelude.{◌^◌, ◌==◌, if◌then◌else◌, All, Bool, count_by, filter, pos, sum, sum_by}
use Rattle.sqlite.specs.Order.{Row, column}
use Rattle.sqlite.specs.declared.types.Value.{Value}
use Rattle.sqlite.specs.declared.types.Value.TheVariants.{Int}
use Rattle.sqlite_trees.proofs.ListLemmas.{IsPermutation-filter, filter-map}
use Rattle.wu_core.specs.declared.states.ServerState.{ServerState}
use Rattle.wu_core.specs.declared.states.ServerState.TheVariants as server
use Rattle.wu_core.specs.declared.workunit.Grant.{Grant}
use Rattle.wu_core.specs.declared.workunit.Instance.{Instance}
use Rattle.wu_core.specs.World.{World}
use Rattle.wu_rules.specs.Instances.{is_in_progress_state, is_over_state, is_unsent_state}
use Rattle.wu_schema.specs.Stored.{number}
use Rattle.wu_schema.specs.Reading.{server_state_cell}
use Rattle.wu_store.proofs.SameWorld.{read_number}
use Rattle.wu_views.specs.Counting.{all_instances}
use Rattle.wu_views.specs.Lines.{summary_of}
use Rattle.wu_views.specs.Summaries.{counts_of, credit_sum, granted_of, HasRoom, project_numbers, others_of, results_of}
use Rattle.wu_views.specs.declared.counts.Granted.{Granted}
use Rattle.wu_views.specs.declared.counts.Numbers.{Numbers}
use Rattle.wu_views.specs.declared.counts.Others.{Others}
use Rattle.wu_views.specs.declared.counts.Results.{Results}
use Rattle.wu_views.specs.declared.lines.Summary.{Summary}

-- ---- the first column of each row

abbrev pub first_cells : List Row → List Value
first_cells rows = map (λ row. column row 0) rows

-- what holds of each first column of an answer holds of that of the row behind those that it begins with
pub next_cell : (P : Value → Type 0) (given : List Row) (row : Row) (tail : List Row) → All P (first_cells ((given ++ row ∷ []) ++ tail)) → P (column row 0)
next_cell P [] row tail all = all 0 (column row 0) (omega arith)
next_cell P (r ∷ given) row tail all = next_cell P given row tail (λ i d low. all (suc i) d (omega (arith, low)))

-- one more
pub cells_more : {X : Type 0} (f : X → Value) (given : List Row) (row : Row) (xs : List X) (x : X) → first_cells given ≡ map f xs → column row 0 ≡ f x → first_cells (given ++ row ∷ []) ≡ map f (xs ++ x ∷ [])
cells_more f given row xs x are is = map-append (λ (r : Row). column r 0) given (row ∷ []) ∙ (λ i. are i ++ is i ∷ []) ∙ sym (map-append f xs (x ∷ []))

pub cells_long : {X : Type 0} (f : X → Value) (given : List Row) (xs : List X) → first_cells given ≡ map f xs → length given ≡ length xs
cells_long f given xs are = sym (length-map given (λ (r : Row). column r 0)) ∙ ap (λ vs. length vs) are ∙ length-map xs f

-- ---- states

abbrev decode : ℕ → ServerState
decode code = if code == 1 then server.Inactive else if code == 2 then server.Unsent else if code == 4 then server.InProgress else server.Over

-- the state of a column that has one
abbrev state_of : Value → ServerState
state_of (Int (pos code)) = decode code
state_of _ = server.Over

state_back : (s : ServerState) → state_of (server_state_cell s) ≡ s
state_back server.Inactive = refl
state_back server.Unsent = refl
state_back server.InProgress = refl
state_back server.Over = refl

states_back : (states : List ServerState) → map state_of (map server_state_cell states) ≡ states
states_back [] = refl
states_back (s ∷ states) = λ i. state_back s i ∷ states_back states i

count_permuted : {X : Type 0} (p : X → Bool) (xs ys : List X) → IsPermutation xs ys → count_by p ys ≡ count_by p xs
count_permuted p xs ys same = sym (length-filter p ys) ∙ length_permutation (filter p xs) (filter p ys) (IsPermutation-filter p xs ys same) ∙ length-filter p xs

-- the order of states does not tell
counts_permuted : (xs ys : List ServerState) → IsPermutation xs ys → counts_of ys ≡ counts_of xs
counts_permuted xs ys same = λ i. record {
  all = length_permutation xs ys same i;
  unsent = count_permuted is_unsent_state xs ys same i;
  in_progress = count_permuted is_in_progress_state xs ys same i;
  over = count_permuted is_over_state xs ys same i;
}

-- states whose columns are these in some order are counted alike
pub states_counted : (all states : List ServerState) (cells : List Value) → IsPermutation (map server_state_cell all) cells → cells ≡ map server_state_cell states → counts_of states ≡ counts_of all
states_counted all states cells same are =
    let back : IsPermutation (map state_of (map server_state_cell all)) (map state_of (map server_state_cell states)) = IsPermutation-map state_of _ _ (subst (IsPermutation (map server_state_cell all)) are same) in
    counts_permuted all states (subst₂ (λ xs ys. IsPermutation xs ys) (states_back all) (states_back states) back)

-- while there are fewer than may be counted
pub has_room : (states : List ServerState) (so_far : Results) → so_far ≡ counts_of states → length states + 1 < 2 ^ 64 → HasRoom so_far
has_room states so_far is few = subst HasRoom (sym is) (record {
  all = few;
  unsent = count_by-le-length is_unsent_state states;
  in_progress = count_by-le-length is_in_progress_state states;
  over = count_by-le-length is_over_state states;
})

each_state : (states : List ServerState) → All (λ v. (s : ServerState) × (v ≡ server_state_cell s)) (map server_state_cell states)
each_state [] i d low = absurd (omega (arith, low))
each_state (s ∷ states) zero d low = (s, refl)
each_state (s ∷ states) (suc i) d low = each_state states i d (omega (arith, low))

-- each row of such an answer has a state
pub next_state : (all : List ServerState) (given : List Row) (row : Row) (tail : List Row) → IsPermutation (map server_state_cell all) (first_cells ((given ++ row ∷ []) ++ tail)) → (s : ServerState) × (column row 0 ≡ server_state_cell s)
next_state all given row tail same =
    next_cell (λ v. (s : ServerState) × (v ≡ server_state_cell s)) given row tail (All-permutation (λ v. (s : ServerState) × (v ≡ server_state_cell s)) _ _ same (each_state all))

-- ---- credit

abbrev pub credit_cell : Grant → Value
credit_cell grant = number grant.credit

abbrev pub sum_in : List Row → ℕ
sum_in rows = sum_by (λ row. read_number (column row 0)) rows

sum_cells : (rows : List Row) → sum_by read_number (first_cells rows) ≡ sum_in rows
sum_cells [] = refl
sum_cells (r ∷ rows) = sum_by-cons read_number (column r 0) (first_cells rows) ∙ ap (λ n. read_number (column r 0) + n) (sum_cells rows) ∙ sym (sum_by-cons (λ (row : Row). read_number (column row 0)) r rows)

sum_numbers : (ns : List ℕ) → sum_by read_number (map number ns) ≡ sum ns
sum_numbers [] = refl
sum_numbers (n ∷ ns) = sum_by-cons read_number (number n) (map number ns) ∙ ap (λ k. n + k) (sum_numbers ns) ∙ sym (sum_by-cons (λ (k : ℕ). k) n ns)

pub numbers_summed : (given : List Row) (ns : List ℕ) → first_cells given ≡ map number ns → sum_in given ≡ sum ns
numbers_summed given ns are = sym (sum_cells given) ∙ ap (λ vs. sum_by read_number vs) are ∙ sum_numbers ns

pub numbers_more : (ns : List ℕ) (n : ℕ) → sum (ns ++ n ∷ []) ≡ sum ns + n
numbers_more ns n = omega (arith, sum_by-append (λ (k : ℕ). k) ns (n ∷ []), sum_by-cons (λ (k : ℕ). k) n [])

sum_credit : (grants : List Grant) → sum_by read_number (map credit_cell grants) ≡ credit_sum grants
sum_credit [] = refl
sum_credit (x ∷ grants) = sum_by-cons read_number (credit_cell x) (map credit_cell grants) ∙ ap (λ n. x.credit + n) (sum_credit grants) ∙ sym (sum_by-cons (λ (g : Grant). g.credit) x grants)

-- the sum of such an answer
pub credit_summed : (grants : List Grant) (rows : List Row) → IsPermutation (map credit_cell grants) (first_cells rows) → sum_in rows ≡ credit_sum grants
credit_summed grants rows same = sym (sum_cells rows) ∙ sum_by-IsPermutation read_number _ _ same ∙ sum_credit grants

pub grants_counted : (grants : List Grant) (rows : List Row) → IsPermutation (map credit_cell grants) (first_cells rows) → length rows ≡ length grants
grants_counted grants rows same = sym (length-map rows (λ (row : Row). column row 0)) ∙ length_permutation _ _ same ∙ length-map grants credit_cell

sum_more : (given : List Row) (row : Row) (n : ℕ) → column row 0 ≡ number n → sum_in (given ++ row ∷ []) ≡ sum_in given + n
sum_more given row n is =
    let read : read_number (column row 0) ≡ n = ap read_number is in
    omega (arith, sum_by-append (λ (r : Row). read_number (column r 0)) given (row ∷ []), sum_by-cons (λ (r : Row). read_number (column r 0)) row [], read)

-- the sum so far with the next row's is at most that of all
pub sum_within : (given : List Row) (row : Row) (tail : List Row) (n : ℕ) → column row 0 ≡ number n → sum_in given + n ≤ sum_in ((given ++ row ∷ []) ++ tail)
sum_within given row tail n is = omega (arith, sum_more given row n is, sum_by-append (λ (r : Row). read_number (column r 0)) (given ++ row ∷ []) tail)

each_credit : (grants : List Grant) → All (λ v. (n : ℕ) × (v ≡ number n)) (map credit_cell grants)
each_credit [] i d low = absurd (omega (arith, low))
each_credit (x ∷ grants) zero d low = (x.credit, refl)
each_credit (x ∷ grants) (suc i) d low = each_credit grants i d (omega (arith, low))

pub next_credit : (grants : List Grant) (given : List Row) (row : Row) (tail : List Row) → IsPermutation (map credit_cell grants) (first_cells ((given ++ row ∷ []) ++ tail)) → (n : ℕ) × (column row 0 ≡ number n)
next_credit grants given row tail same = next_cell (λ v. (n : ℕ) × (v ≡ number n)) given row tail (All-permutation (λ v. (n : ℕ) × (v ≡ number n)) _ _ same (each_credit grants))

-- ---- the parts are the whole

count_mapped : {X Y : Type 0} (p : Y → Bool) (f : X → Y) (xs : List X) → count_by p (map f xs) ≡ count_by (λ x. p (f x)) xs
count_mapped p f xs = sym (length-filter p (map f xs)) ∙ ap (λ ys. length ys) (filter-map p f xs) ∙ length-map (filter (λ x. p (f x)) xs) f ∙ length-filter (λ x. p (f x)) xs

pub whole_summary : (world : World) (numbers : Numbers) (results : Results) (others : Others) (granted : Granted) → numbers ≡ project_numbers world → results ≡ results_of world → others ≡ others_of world → granted ≡ granted_of world
    → ◌≡◌ {A = Summary} (record {
      version = numbers.version;
      next_number = numbers.next_number;
      workunits = others.workunits;
      results = results.all;
      unsent = results.unsent;
      in_progress = results.in_progress;
      over = results.over;
      archived = others.archived;
      grants = granted.grants;
      credit = granted.credit;
      imports = others.imports;
      classes = others.classes;
    }) (summary_of world)
whole_summary world numbers results others granted n r o d =
    let all = ap (λ (x : Results). x.all) r ∙ length-map (all_instances world) (λ (i : Instance). i.server_state) in
    let unsent = ap (λ (x : Results). x.unsent) r ∙ count_mapped is_unsent_state (λ (i : Instance). i.server_state) (all_instances world) in
    let in_progress = ap (λ (x : Results). x.in_progress) r ∙ count_mapped is_in_progress_state (λ (i : Instance). i.server_state) (all_instances world) in
    let over = ap (λ (x : Results). x.over) r ∙ count_mapped is_over_state (λ (i : Instance). i.server_state) (all_instances world) in
    λ i. record {
      version = (n i).version;
      next_number = (n i).next_number;
      workunits = (o i).workunits;
      results = all i;
      unsent = unsent i;
      in_progress = in_progress i;
      over = over i;
      archived = (o i).archived;
      grants = (d i).grants;
      credit = (d i).credit;
      imports = (o i).imports;
      classes = (o i).classes;
    }
