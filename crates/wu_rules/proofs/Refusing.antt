-- What is left once what is no result is refused.
use Rattle.std.proofs.Common.{◌≡◌, ℕ, ◌+◌, ◌/◌, nat_le, Bool, true, false, not, cond, ◌&&◌, List, [], ◌∷◌, zero, suc, map, length, filter, bytes_eq, Option, Some, None, is_none, is_some, refl, sym, ap, ◌∙◌}
use Rattle.std.specs.List.{cons_option, enumerate_from, filter_map, position_from, slice_get}
use Rattle.std.specs.Option.{option_map_or}
use Rattle.wu_core.specs.declared.workunit.Instance.{Instance}
use Rattle.wu_core.specs.declared.workunit.Workunit.{Workunit}
use Rattle.wu_rules.specs.Counts.{agreeing, is_agreed}
use Rattle.wu_rules.specs.Instances.{is_deleted_file, is_over_state, is_viable}
use Rattle.wu_rules.specs.Validation.{granted_to, grants_by, is_deleted_at, is_empty, is_judged_where, is_no_result, output_at, refused, refused_where, with_refused}
use Rattle.wu_rules.proofs.Lists.{count_step, filter_both}

-- ---- one instance

and_false : (a : Bool) → (a && false) ≡ false
and_false true = refl
and_false false = refl

-- what is refused is judged no more
pub refused_not_judged : (undecided : Bool) (i : Instance) → is_judged_where undecided (refused i) ≡ false
refused_not_judged true i = and_false (is_over_state i.server_state && false)
refused_not_judged false i = and_false (is_over_state i.server_state && false)

-- refused twice is refused once
pub refused_twice : (undecided : Bool) (i : Instance) → refused_where undecided (refused_where undecided i) ≡ refused_where undecided i
refused_twice undecided i = by_case (is_no_result undecided i) refl
  where
    by_case : (b : Bool) → b ≡ is_no_result undecided i → refused_where undecided (cond b (refused i) i) ≡ cond b (refused i) i
    by_case true e = ap (λ judged. cond (judged && is_empty i.output) (refused (refused i)) (refused i)) (refused_not_judged undecided i)
    by_case false e = ap (λ b. cond b (refused i) i) (sym e)

pub output-refused : (undecided : Bool) (i : Instance) → (refused_where undecided i).output ≡ i.output
output-refused undecided i = by_case (is_no_result undecided i)
  where
    by_case : (b : Bool) → (cond b (refused i) i).output ≡ i.output
    by_case true = refl
    by_case false = refl

-- ---- all instances

all_refused_twice : (undecided : Bool) (xs : List Instance)
    → map (refused_where undecided) (map (refused_where undecided) xs) ≡ map (refused_where undecided) xs
all_refused_twice undecided [] = refl
all_refused_twice undecided (x ∷ xs) = let e = refused_twice undecided x in let r = all_refused_twice undecided xs in cc

-- what is left is left alone
pub with_refused_twice : (undecided : Bool) (w : Workunit) → with_refused undecided (with_refused undecided w) ≡ with_refused undecided w
with_refused_twice undecided w = ap (λ zs. record w { instances = zs }) (all_refused_twice undecided w.instances)

-- ---- what is counted, found and kept of what is left

-- as many agree as of those that are viable still
pub count_agreeing-refused : (output : List ℕ) (xs : List Instance)
    → length (agreeing output (filter is_viable (map (refused_where true) xs)))
    ≡ length (filter (λ i. bytes_eq i.output output) (filter (λ i. is_viable (refused_where true i)) xs))
count_agreeing-refused output [] = refl
count_agreeing-refused output (x ∷ xs) = by_case (is_viable (refused_where true x)) (count_agreeing-refused output xs)
  where
    new : List Instance
    new = filter is_viable (map (refused_where true) xs)

    old : List Instance
    old = filter (λ i. is_viable (refused_where true i)) xs

    by_case : (b : Bool) → length (agreeing output new) ≡ length (filter (λ i. bytes_eq i.output output) old)
        → length (agreeing output (cond b (refused_where true x ∷ new) new)) ≡ length (filter (λ i. bytes_eq i.output output) (cond b (x ∷ old) old))
    by_case true r =
        count_step (bytes_eq (refused_where true x).output output) (bytes_eq x.output output) (refused_where true x) x
        (agreeing output new) (filter (λ i. bytes_eq i.output output) old) (ap (λ bytes. bytes_eq bytes output) (output-refused true x)) r
    by_case false r = r

-- the first of changed elements that passes
pub position_from-map : {A B : Type 0} (p : B → Bool) (f : A → B) (s : ℕ) (xs : List A)
    → position_from p s (map f xs) ≡ position_from (λ x. p (f x)) s xs
position_from-map p f s [] = refl
position_from-map p f s (x ∷ xs) = ap (λ o. cond (p (f x)) (Some s) o) (position_from-map p f (s + 1) xs)

-- what is kept of changed elements, each by its place
pub kept-map : {A B C : Type 0} (h : ℕ → B → Option C) (f : A → B) (s : ℕ) (xs : List A)
    → filter_map (λ p. h p.0 p.1) (enumerate_from s (map f xs)) ≡ filter_map (λ p. h p.0 (f p.1)) (enumerate_from s xs)
kept-map h f s [] = refl
kept-map h f s (x ∷ xs) = ap (λ zs. cons_option (h s (f x)) zs) (kept-map h f (s + 1) xs)

-- and enough do where the count of those is enough
pub agreed_of_left : (w : Workunit) (i : Instance) (quorum count : ℕ) → true ≡ is_viable (refused_where true i) → quorum ≡ w.params.min_quorum
    → count ≡ length (filter (λ j. is_viable (refused_where true j) && bytes_eq j.output i.output) w.instances)
    → nat_le (quorum / 2 + 1) count ≡ is_agreed (with_refused true w) (refused_where true i)
agreed_of_left w i quorum count viable same counted =
    let output = (refused_where true i).output in
    let total : count ≡ length (agreeing output (filter is_viable (map (refused_where true) w.instances))) =
    counted
    ∙ (ap length (sym (filter_both (λ (j : Instance). is_viable (refused_where true j)) (λ j. bytes_eq j.output i.output) w.instances))
    ∙ (sym (ap (λ bytes. length (agreeing bytes (filter (λ j. is_viable (refused_where true j)) w.instances))) (output-refused true i))
    ∙ sym (count_agreeing-refused output w.instances))) in
    ap (λ n. nat_le (n / 2 + 1) count) same
    ∙ (ap (λ n. nat_le (w.params.min_quorum / 2 + 1) n) total
    ∙ ap (λ b. b && nat_le (w.params.min_quorum / 2 + 1) (length (agreeing output (filter is_viable (map (refused_where true) w.instances))))) viable)

-- ---- a workunit of which no more is refused

none_is : (o : Option ℕ) (b : Bool) → is_some o ≡ not b → is_none o ≡ b
none_is None true e = refl
none_is None false e = cc
none_is (Some n) true e = cc
none_is (Some n) false e = refl

pub left_now : (w : Workunit) (undecided : Bool) (xs : List Instance) → is_some w.canonical ≡ not undecided
    → xs ≡ map (refused_where undecided) w.instances
    → with_refused (is_none w.canonical) (record w { instances = xs }) ≡ record w { instances = xs }
left_now w undecided xs e is =
    let left : xs ≡ map (refused_where (is_none w.canonical)) w.instances =
    is ∙ ap (λ b. map (refused_where b) w.instances) (sym (none_is w.canonical undecided e)) in
    ap (λ zs. with_refused (is_none w.canonical) (record w { instances = zs })) left
    ∙ (with_refused_twice (is_none w.canonical) w ∙ ap (λ zs. record w { instances = zs }) (sym left))

-- ---- grants of what is left

-- before they are listed, each by its place
pub grants_by-refused : (undecided : Bool) (w : Workunit) (output : List ℕ)
    → grants_by (with_refused undecided w) output ≡ filter_map (λ p. granted_to w output p.0 (refused_where undecided p.1)) (enumerate_from 0 w.instances)
grants_by-refused undecided w output = kept-map (granted_to w output) (refused_where undecided) 0 w.instances

-- ---- what is looked up of one instance

file_delete-refused : (undecided : Bool) (i : Instance) → (refused_where undecided i).file_delete ≡ i.file_delete
file_delete-refused undecided i = by_case (is_no_result undecided i)
  where
    by_case : (b : Bool) → (cond b (refused i) i).file_delete ≡ i.file_delete
    by_case true = refl
    by_case false = refl

looked_up : {V : Type 0} (look : Instance → V) (none : V) (f : Instance → Instance) → ((i : Instance) → look (f i) ≡ look i) → (xs : List Instance) (n : ℕ) → option_map_or look (slice_get (map f xs) n) none ≡ option_map_or look (slice_get xs n) none
looked_up look none f same [] n = refl
looked_up look none f same (x ∷ xs) zero = same x
looked_up look none f same (x ∷ xs) (suc n) = looked_up look none f same xs n

-- once what is no result is refused, deletions and outputs are what they were
pub is_deleted_at-refused : (undecided : Bool) (xs : List Instance) (n : ℕ) → is_deleted_at (map (refused_where undecided) xs) n ≡ is_deleted_at xs n
is_deleted_at-refused undecided xs n = looked_up (λ i. is_deleted_file i.file_delete) false (refused_where undecided) (λ i. ap is_deleted_file (file_delete-refused undecided i)) xs n

pub output_at-refused : (undecided : Bool) (xs : List Instance) (n : ℕ) → output_at (map (refused_where undecided) xs) n ≡ output_at xs n
output_at-refused undecided xs n = looked_up (λ i. i.output) [] (refused_where undecided) (output-refused undecided) xs n
